-- Laws of `specs/Rowed` that only proofs cite.
use Prim.Native.Nat.{ℕ, ◌+◌, ◌-◌, ◌≤◌, ◌<◌}
use native.Mathlib.Omega.{arith}
use native.Mathlib.Decide.{ℕ_discrete, dec_lt}
use mathlib.Core.Bool.{Bool, true, false}
use mathlib.Core.List.{List}
use mathlib.Core.Logic.{◌⊎◌, inl, inr, ⊎_elim}
use mathlib.Core.Path.{◌≡◌, refl, sym, ap, ◌∙◌}
use lib.ListN.{length}
use Rattle.sets.specs.Tests.{◌&◌}
use Rattle.language.specs.File.{record_count}
use Rattle.language.specs.Format.{max_records}
use Rattle.language.specs.Lists.{all, up_from}
use Rattle.language.specs.Regions.{regions_ok}
use Rattle.language.specs.Answers.{program}
use Rattle.records.specs.Lists.{from_here, from_end}
use Rattle.tables.specs.TablePlaces.{row_words, row_place, row_size}
use Rattle.chains.specs.Formed.{Formed, counted}
use Rattle.chains.specs.Shapes.{call_here}
use Rattle.owners.specs.Everywhere.{record_test}
use Rattle.tables.specs.Rows.{effect_in, put_effect, Still, StillAt, row_same, effect_length, effect_word, effect_still, effect_put}
use Rattle.tables.specs.declared.Effect.{Effect}
use Rattle.regions.specs.Single.{agrees}
use Rattle.regions.proofs.SingleLaws.{number_5}
use Rattle.regions.specs.Effects.{NoStep, EffectAt}
use Rattle.regions.proofs.EffectsLaws.{call_step}
use Rattle.regions.specs.Rowed.{AfterPass, Apart, Before, RowDone, Rowed, row_step}

-- ---- what follows for those that read the rows
still_effect : (t u : List ℕ) (j : ℕ) → Still t u j → effect_in u j ≡ effect_in t j
unfolding effect_in
still_effect t u j h = let s = row_same t u j h in rw (s.needs, s.bears, s.ends, s.mark) refl

-- from the rows t₀, where the row was as it had been
row_since : {f : List ℕ} (t₀ t u : List ℕ) {b : Bool} (i : ℕ) → Still t₀ t i → RowDone f i t b u → RowDone f i t₀ b u
row_since t₀ t u i h = ⊎_elim (λ e. inl e) (λ d. inr (d.0, λ k q. d.1 k q ∙ h k q))

-- in the rows u, where the row is as it is in t
row_still : {f : List ℕ} (t₀ t u : List ℕ) {b : Bool} (i : ℕ) → Still t u i → RowDone f i t₀ b t → RowDone f i t₀ b u
row_still t₀ t u i h = ⊎_elim (λ e. inl (rw (still_effect t u i h) e)) (λ d. inr (d.0, λ k q. h k q ∙ d.1 k q))

row_false : {f : List ℕ} (t u : List ℕ) (i : ℕ) → RowDone f i t true u → RowDone f i t false u
row_false t u i = ⊎_elim (λ e. inl e) (λ d. inr (inl refl, d.1))

-- ---- an effect is stored
pub rowed_put : (f : List ℕ) (i : ℕ) (t : List ℕ) {u : List ℕ} {b : Bool} {e : Effect} → i < max_records → row_words ≤ length t → u ≡ put_effect t i e
    → EffectAt f i e → Rowed f i t b u
rowed_put f i t {u} {b} {e} few long p m = rw p (record {
  size = effect_length t i e;
  access = λ k l. effect_word t i e (row_place i k) (λ d. omega arith) (λ d. omega arith) (λ d. omega arith) (λ d. omega arith);
  others = effect_still t i e;
  row = inl (rw (effect_put t i e few long) m);
})

-- the record is refused, or has no step, and its row is as it was
pub rowed_not : (f : List ℕ) (i : ℕ) (t : List ℕ) {b : Bool} → (b ≡ false) ⊎ NoStep f i → Rowed f i t b t
rowed_not f i t z = record { size = refl; access = λ k l. refl; others = λ j n k l. refl; row = inr (z, λ k l. refl) }

-- ---- the loop: the records below i are done, and the rest decides
pub record RowsGoing (f t₀ t : List ℕ) (n i : ℕ) : Type 0 where
  pub count : n ≡ record_count f
  pub some : 0 < i
  pub most : i ≤ n
  pub rest : regions_ok (program f) ≡ all (record_test (agrees f) f) (up_from i (n - i))
  pub size : length t ≡ length t₀
  pub apart : (j k : ℕ) → k < row_size → Apart f j k → StillAt t₀ t j k
  pub ahead : (j : ℕ) → i ≤ j → Still t₀ t j
  pub done : (j : ℕ) → 0 < j → j < i → RowDone f j t₀ true t
  pub passed : (j : ℕ) → 0 < j → j < i → true ≡ record_test (agrees f) f j

pub going_first : {f : List ℕ} (t : List ℕ) {n : ℕ} → Formed f → n ≡ record_count f → RowsGoing f t t n 1
going_first t F e = record {
  count = e;
  some = omega arith;
  most = omega (arith, (counted F).some);
  rest = number_5 F ∙ rw e refl;
  size = refl;
  apart = λ j k l a. refl;
  ahead = λ j l k m. refl;
  done = λ j p l. absurd (omega arith);
  passed = λ j p l. absurd (omega arith);
}

module _ {f t₀ t : List ℕ} {n i : ℕ} (h : RowsGoing f t₀ t n i) where
  here : i < n → regions_ok (program f) ≡ (record_test (agrees f) f i & all (record_test (agrees f) f) (up_from (i + 1) (n - (i + 1))))
  unfolding all
  here l = h.rest ∙ ap (all (record_test (agrees f) f)) (from_here n i l)

  pub going_stop : {b : Bool} → i < n → b ≡ record_test (agrees f) f i → b ≡ false → false ≡ regions_ok (program f)
  unfolding ◌&◌
  going_stop l e z = sym (here l ∙ rw (sym e ∙ z) refl)

  pub going_last : n ≤ i → true ≡ regions_ok (program f)
  unfolding all
  going_last l = sym (h.rest ∙ ap (all (record_test (agrees f) f)) (from_end n i l))

  pub going_passed : n ≤ i → AfterPass f t₀ true t
  going_passed l = record { size = h.size; apart = h.apart; rows = λ j p m. h.done j p (omega (arith, h.count)) }

  -- record i is done
  module _ {b : Bool} {u : List ℕ} (l : i < n) (r : Rowed f i t b u) where
    own_apart : (j k : ℕ) → j ≡ i → Apart f j k → StillAt t u j k
    own_apart j k z (inl c) = rw z (r.access k c)
    own_apart j k z (inr (inl c)) = absurd (omega (arith, h.some))
    own_apart j k z (inr (inr c)) = absurd (omega (arith, h.count))

    apart_here : (j k : ℕ) → k < row_size → Apart f j k → StillAt t₀ u j k
    apart_here j k m a = elim (ℕ_discrete j i) [ yes z ↦ own_apart j k z a | no z ↦ r.others j z k m ] ∙ h.apart j k m a

    done_here : (j : ℕ) → 0 < j → j < i → RowDone f j t₀ true u
    done_here j p m = row_still t₀ t u j (r.others j (λ z. omega arith)) (h.done j p m)

    ahead_here : (j : ℕ) → i < j → Still t₀ u j
    ahead_here j m k q = r.others j (λ z. omega arith) k q ∙ h.ahead j (omega arith) k q

    row_here : RowDone f i t₀ b u
    row_here = row_since t₀ t u i (h.ahead i (omega arith)) r.row

    pub going_stopped : b ≡ false → AfterPass f t₀ false u
    going_stopped z = record { size = r.size ∙ h.size; apart = apart_here; rows = λ j p m. row j p (ℕ_discrete j i) (dec_lt j i) }
      where
        row : (j : ℕ) → 0 < j → Dec (j ≡ i) → Dec (j < i) → RowDone f j t₀ false u
        row j p (yes c) d = rw c (rw z at row_here)
        row j p (no c) (yes d) = row_false t₀ u j (done_here j p d)
        row j p (no c) (no d) = inr (inl refl, ahead_here j (omega (arith, c, d)))

    pub going_next : b ≡ record_test (agrees f) f i → b ≡ true → RowsGoing f t₀ u n (i + 1)
    unfolding ◌&◌
    going_next e y = record {
      count = h.count;
      some = omega arith;
      most = omega arith;
      rest = here l ∙ rw (sym e ∙ y) refl;
      size = r.size ∙ h.size;
      apart = apart_here;
      ahead = λ j m. ahead_here j (omega arith);
      done = λ j p k. elim (ℕ_discrete j i) [ yes z ↦ rw z (rw y at row_here) | no z ↦ done_here j p (omega (arith, z)) ];
      passed = λ j p k. elim (ℕ_discrete j i) [ yes z ↦ rw z (sym y ∙ e) | no z ↦ h.passed j p (omega (arith, z)) ];
    }

-- ---- what the pass knows of the record j, which was its last call, or 0
pub going_before : {f t₀ t : List ℕ} {n i j : ℕ} → RowsGoing f t₀ t n i → Formed f → j < i → Before f t j
going_before {f} {t₀} {t} {j = j} h F l = record {
  below = let m = h.most in omega (arith, h.count);
  made = λ k. row_step t₀ t j refl (call_step F k) (h.done j (call_here {f = f} {i = j} F refl k).some l);
  agrees = λ k. h.passed j (call_here {f = f} {i = j} F refl k).some l;
}
