-- A table of targets becomes one of reaches, place by place: what is reached is put where the targets stood, and what is read there later leads as far.
use Rattle.std.specs.Prelude.{ℕ, ◌+◌, ◌≤◌, ◌<◌, true, List, ◌≡◌, length, set}
use Rattle.std.proofs.Math.Decide.{dec_lt}
use Rattle.std.proofs.Common.{arith, ⊎_elim, sym, ap, ◌∙◌}
use Rattle.sets.specs.Sets.{member, stored, subset_in}
use Rattle.sets.specs.Members.{set_of, in_list}
use Rattle.sets.specs.MemberLaws.{set_of_in, set_of_mk}
use Rattle.sets.specs.declared.Set.{Set}
use Rattle.language.specs.Program.{Functor, Signature}
use Rattle.language.specs.Typing.{is_region}
use Rattle.language.specs.Regions.{targets, reach_from}
use Rattle.region_graph.specs.Laws.{Declared}
use Rattle.region_graph.specs.Typed.{region_in_law}
use Rattle.windows.specs.Targets.{set_at, set_stored, TargetTable, Between, ReachTable, RegionReach}

-- the regions up to r have their reach, the others their targets
pub record Mixed (S : Signature) (r : ℕ) (t : List ℕ) : Type 0 where
  pub done : (u : ℕ) → is_region S u ≡ true → u ≤ r → set_at t u ≡ reach_from S u
  pub left : (u : ℕ) → is_region S u ≡ true → r < u → set_at t u ≡ set_of (targets S u)

module _ {T : List (List Functor)} (S : Signature) (d : Declared T S) where
  target_reached : (u v : ℕ) → is_region S u ≡ true → in_list v (targets S u) ≡ true → member (reach_from S u) v ≡ true
  target_reached u v i m = let o = d.onward u v i m in subset_in (reach_from S v) (reach_from S u) o.1 v (d.self v o.0)

  between : {r : ℕ} (t : List ℕ) → Mixed S r t → Between S t
  between {r} t h = record { low = low; high = high }
    where
      low : (u v : ℕ) → is_region S u ≡ true → in_list v (targets S u) ≡ true → member (set_at t u) v ≡ true
      low u v i m = elim (dec_lt r u) [
        | yes l ↦ (let x = region_in_law S v (d.onward u v i m).0 in
            ap (λ (s : Set). member s v) (h.left u i l) ∙ set_of_mk (targets S u) v m x.0 (omega (arith, d.regions)))
        | no l ↦ ap (λ (s : Set). member s v) (h.done u i (omega arith)) ∙ target_reached u v i m
      ]

      high : (u v : ℕ) → is_region S u ≡ true → member (set_at t u) v ≡ true → member (reach_from S u) v ≡ true
      high u v i m = elim (dec_lt r u) [
        | yes l ↦ target_reached u v i (set_of_in (targets S u) v (ap (λ (s : Set). member s v) (sym (h.left u i l)) ∙ m))
        | no l ↦ ap (λ (s : Set). member s v) (sym (h.done u i (omega arith))) ∙ m
      ]

-- the table g of targets has become t
abbrev pub Closing : List ℕ → ℕ → List ℕ → Type 0
Closing g r t = (T : List (List Functor)) (S : Signature) → Declared T S → TargetTable S g → Mixed S r t

pub closing_first : (g : List ℕ) → Closing g 0 g
closing_first g T S d q = record { done = λ u i l. absurd (omega (arith, region_in_law S u i)); left = λ u i l. q.at u i }

-- the reach of region r is put, those before it are there
pub closing_next : (g t : List ℕ) {k r w : ℕ} {x : Set} {u : List ℕ} → r ≡ k + 1 → Closing g k t → r < length t → RegionReach t r x → w ≡ stored x → u ≡ set t r w
    → Closing g r u
closing_next g t {k} {r} n h l f e i T S d q =
    let m = h T S d q in
    record {
      done = λ v j b.
          ⊎_elim (λ a. a.1 ∙ f T S d (between S d t m) (rw (← a.0) j) ∙ ap (reach_from S) (sym a.0)) (λ a. a.1 ∙ m.done v j (let z = a.0 in omega (arith, z))) (set_stored t l e i v);
      left = λ v j b. ⊎_elim (λ a. absurd (let z = a.0 in omega (arith, z))) (λ a. a.1 ∙ m.left v j (omega arith)) (set_stored t l e i v);
    }

pub closing_last : (g t : List ℕ) {n : ℕ} → Closing g n t → (T : List (List Functor)) (S : Signature) → Declared T S → TargetTable S g → length S.regions ≤ n
    → ReachTable S t
closing_last g t h T S d q l = record { at = λ r i. (h T S d q).done r i (omega (arith, region_in_law S r i)) }
