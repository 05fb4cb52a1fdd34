-- Along a chain of records: n of them are passed, and the rest starts at record i.
use Prim.Native.Nat.{ℕ, suc, ◌+◌, ◌<◌}
use native.Mathlib.Omega.{arith}
use mathlib.Core.List.{List}
use Rattle.std.specs.Prelude.{◌≡◌, refl}
use Rattle.std.proofs.Math.Path.{ap}
use Rattle.std.proofs.Common.{◌∙◌}
use Rattle.std.proofs.Math.ListN.{length}
use Rattle.language.specs.Lists.{nth}
use Rattle.language.specs.File.{Chain, word}
use Rattle.language.specs.Format.{next_word}
use Rattle.chains.specs.Formed.{Formed, Stands}
use Rattle.chains.specs.Is.{chain_next}
use Rattle.chains.specs.Records.{chain_records, records_none, records_step}

pub record Along (f : List ℕ) (c : Chain) (first i n : ℕ) : Type 0 where
  pub stands : Stands f c i
  pub rest : (k : ℕ) → nth 0 (chain_records f first) (n + k) ≡ nth 0 (chain_records f i) k
  pub count : n + length (chain_records f i) ≡ length (chain_records f first)

pub along_first : {f : List ℕ} {c : Chain} {first : ℕ} → Stands f c first → Along f c first first 0
along_first {f} {c} {first} s = record {
  stands = s;
  rest = λ k. let z : 0 + k ≡ k = omega arith in ap (λ (m : ℕ). nth 0 (chain_records f first) m) z;
  count = omega arith;
}

module _ {f : List ℕ} {c : Chain} {first i n : ℕ} (F : Formed f) (h : Along f c first i n) (z : i ≡ 0 → ⊥) where
  pub along_here : nth 0 (chain_records f first) n ≡ i
  unfolding nth
  along_here =
      let e : n ≡ n + 0 = omega arith in
      ap (λ (m : ℕ). nth 0 (chain_records f first) m) e ∙ h.rest 0
      ∙ ap (λ (xs : List ℕ). nth 0 xs 0) (records_step {w = word f i next_word} F z h.stands.below refl)

  pub along_below : n < length (chain_records f first)
  along_below = omega (arith, h.count, ap length (records_step {w = word f i next_word} F z h.stands.below refl))

  pub along_next : {w : ℕ} → w ≡ word f i next_word → Along f c first w (n + 1)
  unfolding nth
  along_next {w} e =
      let s = records_step F z h.stands.below e in
      record {
        stands = (chain_next F h.stands z e).stands;
        rest = λ k.
            let q : n + 1 + k ≡ n + suc k = omega arith in
            ap (λ (m : ℕ). nth 0 (chain_records f first) m) q ∙ h.rest (suc k) ∙ ap (λ (xs : List ℕ). nth 0 xs (suc k)) s;
        count = omega (arith, h.count, ap length s);
      }

pub along_last : {f : List ℕ} {c : Chain} {first i n : ℕ} → Along f c first i n → i ≡ 0 → n ≡ length (chain_records f first)
along_last {f} h z = omega (arith, h.count, ap length (records_none f z))
