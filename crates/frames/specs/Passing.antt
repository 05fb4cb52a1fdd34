-- What a call's arguments pass along the links of the plan, one link at a time. The caller's frame is at a place, the callee's behind it.
use Prim.Native.Nat.{ℕ, zero, suc, ◌+◌, ◌-◌, ◌*◌, ◌/◌, ◌≤◌, ◌<◌}
use native.Mathlib.Omega.{arith}
use Rattle.std.specs.Prelude.{◌≡◌, List, length, get_or, set}
use Rattle.std.proofs.Math.Path.{refl}
use Rattle.std.proofs.Common.{◌∙◌}
use borrow.Author.Tests.{lt-ltb, le-ltb}
use Rattle.language.specs.Format.{max_records}
use Rattle.language.specs.Lists.{choose}
use Rattle.plans.specs.Plan.{ins_from, outs_from, links_from, linked, LinkOk, tables_in}
use Rattle.word_machine.specs.Tables.{link_unit, slot_of, given_of}
use Rattle.word_machine.specs.Copies.{copied_length}
use Rattle.word_machine.specs.Machine.{frame_words, copied, values_in, values_out}

-- the links from a place of the plan on can be read
abbrev pub Links : List ℕ → ℕ → Type 0
Links plan from = (a : ℕ) → a < max_records → LinkOk (get_or plan (from + a) 0)

-- .. and are followed from record i on
abbrev passes : List ℕ → ℕ → ℕ → List ℕ
passes plan from i = linked (λ a. get_or plan (from + a) 0) (max_records - i) i

unfoldable pub passed_in : List ℕ → ℕ → ℕ → List ℕ → List ℕ
passed_in plan i at fw = copied (λ w. at + frame_words + slot_of w) (λ w. at + given_of w) (passes plan ins_from i) fw

unfoldable pub passed_out : List ℕ → ℕ → ℕ → List ℕ → List ℕ
passed_out plan i at fw = copied (λ w. at + given_of w) (λ w. at + frame_words + slot_of w) (passes plan outs_from i) fw

-- ---- words are copied along links: record a is reached, w is its link, and `all` is what the copies come to
module _ (to from link : ℕ → ℕ) where
  pub record CopiedAlong (all : List ℕ) (a w : ℕ) (fw : List ℕ) : Type 0 where
    pub fuel : ℕ
    pub enough : max_records ≤ fuel + a
    pub here : a < max_records
    pub word : w ≡ link a
    pub rest : copied to from (linked link fuel a) fw ≡ all

  pub along_first : (i : ℕ) (fw : List ℕ) → i < max_records → CopiedAlong (copied to from (linked link (max_records - i) i) fw) i (link i) fw
  along_first i fw l = record { fuel = max_records - i; enough = omega arith; here = l; word = refl; rest = refl }

  more : (fuel a n : ℕ) (fw fx : List ℕ) → n ≡ link a / link_unit → a < n → fx ≡ set fw (to (link n)) (get_or fw (from (link n)) 0)
      → copied to from (linked link fuel n) fx ≡ copied to from (linked link (suc fuel) a) fw
  unfolding linked copied choose
  more fuel a n fw fx en l ex = rw (← en, lt-ltb a n l, ex)

  -- the link leads on to record n
  pub along_next : (all : List ℕ) (a w n v : ℕ) (fw fx : List ℕ) → CopiedAlong all a w fw → n ≡ w / link_unit → a < n → n < max_records → v ≡ link n
      → fx ≡ set fw (to v) (get_or fw (from v) 0) → CopiedAlong all n v fx
  along_next all a w n v fw fx A en l q ev ex = go A.fuel A.enough A.rest
    where
      go : (fuel : ℕ) → max_records ≤ fuel + a → copied to from (linked link fuel a) fw ≡ all → CopiedAlong all n v fx
      go zero e r = absurd (omega (arith, A.here))
      go (suc m) e r = record {
        fuel = m;
        enough = omega arith;
        here = q;
        word = ev;
        rest = more m a n fw fx (rw (← A.word) en) l (rw (← ev) ex) ∙ r;
      }

  ended : (fuel a : ℕ) (fw : List ℕ) → link a / link_unit ≤ a → fw ≡ copied to from (linked link fuel a) fw
  unfolding linked copied choose
  ended zero a fw l = refl
  ended (suc fuel) a fw l = rw (le-ltb a (link a / link_unit) l)

  -- it does not
  pub along_last : (all : List ℕ) (a w : ℕ) (fw : List ℕ) → CopiedAlong all a w fw → w / link_unit ≤ a → fw ≡ all
  along_last all a w fw A l = ended A.fuel a fw (rw (← A.word) l) ∙ A.rest

-- ---- the machine's, for frame k at its place
module _ (f plan images callees : List ℕ) (k at : ℕ) (e : at ≡ frame_words * k) where
  pub passed_in_law : (i : ℕ) (fw : List ℕ) → passed_in plan i at fw ≡ values_in f (tables_in plan images callees) k i fw
  unfolding passed_in values_in tables_in links_from choose
  passed_in_law i fw = let z : at + frame_words ≡ frame_words * suc k = omega arith in rw (z, e)

  pub passed_out_law : (i : ℕ) (fw : List ℕ) → passed_out plan i at fw ≡ values_out f (tables_in plan images callees) k i fw
  unfolding passed_out values_out tables_in links_from choose
  passed_out_law i fw = let z : at + frame_words ≡ frame_words * suc k = omega arith in rw (z, e)

pub in_length : (plan : List ℕ) (i at : ℕ) (fw : List ℕ) → length (passed_in plan i at fw) ≡ length fw
unfolding passed_in
in_length plan i at fw = copied_length _ _ _ fw
