-- What a call's and a return's regions pass, with the table of images as a list, one member at a time. The caller's frame is at a place, the callee's
-- behind it.
use Prim.Native.Nat.{ℕ, suc, ◌+◌, ◌*◌, ◌≤◌, ◌<◌}
use native.Mathlib.Omega.{arith}
use Rattle.std.specs.Prelude.{◌≡◌, Bool, true, false, not, List, length, get_or, set}
use Rattle.std.proofs.Common.{sym, ◌∙◌}
use borrow.Author.Tests.{not-true, not-false}
use Rattle.sets.specs.Sets.{empty_set, single, ◌∖◌, same_set, Small}
use Rattle.sets.specs.Members.{members, next_member}
use Rattle.sets.specs.Lowest.{lowest_low, members_none, members_lowest, lowest_falls}
use Rattle.sets.specs.Size.{size}
use Rattle.sets.specs.declared.Set.{Set}
use Rattle.language.specs.Format.{max_regions}
use Rattle.plans.specs.Plan.{sides_from, tables_in}
use Rattle.word_machine.specs.Copies.{copied_length}
use Rattle.word_machine.specs.Machine.{frame_words, regions_from, copied, regions_in, regions_out}

-- the images behind a place are those of regions, and are there
pub record Pictured (images : List ℕ) (side : ℕ) : Type 0 where
  pub fits : side + max_regions < length images
  pub low : (p : ℕ) → get_or images p 0 ≤ max_regions

module _ (images : List ℕ) (side at : ℕ) where
  unfoldable pub named_in : List ℕ → List ℕ → List ℕ
  named_in rs fw = copied (λ r. at + frame_words + regions_from + r) (λ r. at + regions_from + get_or images (side + r) 0) rs fw

  unfoldable pub named_out : List ℕ → List ℕ → List ℕ
  named_out rs fw = copied (λ r. at + regions_from + get_or images (side + r) 0) (λ r. at + frame_words + regions_from + r) rs fw

  pub in_length : (rs fw : List ℕ) → length (named_in rs fw) ≡ length fw
  unfolding named_in
  in_length rs fw = copied_length _ _ rs fw

-- ---- words are copied for each member, the least one first
module _ (to from : ℕ → ℕ) where
  pub copied_none : (s : Set) (fw : List ℕ) → same_set s empty_set ≡ true → fw ≡ copied to from (members s) fw
  unfolding copied
  copied_none s fw e = rw (members_none s e)

  pub copied_lowest : (s : Set) (r : ℕ) (fw fx : List ℕ) → Small s → same_set s empty_set ≡ false → r ≡ next_member s 0 → fx ≡ set fw (to r) (get_or fw (from r) 0)
      → copied to from (members (s ∖ single (next_member s 0))) fx ≡ copied to from (members s) fw
  unfolding copied
  copied_lowest s r fw fx S e er ex = rw (members_lowest s S e, ex, er)

-- a set is not empty, as the code finds it, and r is its least member
module _ (s : Set) (S : Small s) (b : Bool) (e : b ≡ same_set s empty_set) (n : not b ≡ true) where
  pub some_member : same_set s empty_set ≡ false
  some_member = sym e ∙ not-true b n

  pub member_low : (r : ℕ) → r ≡ next_member s 0 → r ≤ max_regions
  member_low r er = omega (arith, lowest_low s S some_member)

  pub members_fall : (t : Set) → t ≡ s ∖ single (next_member s 0) → size t < size s
  members_fall t et = rw et (lowest_falls s S some_member)

module _ (images : List ℕ) (side at : ℕ) (s : Set) (S : Small s) (b : Bool) (e : b ≡ same_set s empty_set) where
  pub in_last : (fw : List ℕ) → not b ≡ false → fw ≡ named_in images side at (members s) fw
  unfolding named_in
  in_last fw n = copied_none _ _ s fw (sym e ∙ not-false b n)

  pub out_last : (fw : List ℕ) → not b ≡ false → fw ≡ named_out images side at (members s) fw
  unfolding named_out
  out_last fw n = copied_none _ _ s fw (sym e ∙ not-false b n)

  -- region r has its image i, and what one of them stands for is v
  module _ (n : not b ≡ true) (r i v : ℕ) (t : Set) (fw fx : List ℕ) (er : r ≡ next_member s 0) (et : t ≡ s ∖ single (next_member s 0)) (ei : i ≡ get_or images (side + r) 0) where
    pub in_next : v ≡ get_or fw (at + regions_from + i) 0 → fx ≡ set fw (at + frame_words + regions_from + r) v
        → named_in images side at (members t) fx ≡ named_in images side at (members s) fw
    unfolding named_in
    in_next ev ex = rw et (copied_lowest _ _ s r fw fx S (sym e ∙ not-true b n) er (rw (ex, ev, ei)))

    pub out_next : v ≡ get_or fw (at + frame_words + regions_from + r) 0 → fx ≡ set fw (at + regions_from + i) v
        → named_out images side at (members t) fx ≡ named_out images side at (members s) fw
    unfolding named_out
    out_next ev ex = rw et (copied_lowest _ _ s r fw fx S (sym e ∙ not-true b n) er (rw (ex, ev, ei)))

-- ---- the machine's, for frame k at its place and the images of the call at record i
module _ (f plan images callees : List ℕ) (k at i : ℕ) (e : at ≡ frame_words * k) where
  pub named_in_law : (rs fw : List ℕ) → named_in images (get_or plan (sides_from + i) 0) at rs fw ≡ regions_in f (tables_in plan images callees) k i rs fw
  unfolding named_in regions_in tables_in
  named_in_law rs fw = let z : at + frame_words ≡ frame_words * suc k = omega arith in rw (z, e)

  pub named_out_law : (rs fw : List ℕ) → named_out images (get_or plan (sides_from + i) 0) at rs fw ≡ regions_out f (tables_in plan images callees) k i rs fw
  unfolding named_out regions_out tables_in
  named_out_law rs fw = let z : at + frame_words ≡ frame_words * suc k = omega arith in rw (z, e)
