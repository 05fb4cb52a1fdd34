-- The steps of one frame: values given and read, cells made, regions created and removed.
use Rattle.std.specs.Prelude.{◌≡◌, refl, Bool, ◌≢◌, ◌⊎◌, ℕ, suc}
use Rattle.std.proofs.Common.{sym, ap, ◌∙◌, inl, inr, ⊎_elim}
use Rattle.std.proofs.Math.Bool.{true, false}
use mathlib.Core.List.{List, []}
use Rattle.sets.specs.Tests.{clash, and_true, false_of}
use Rattle.sets.specs.Sets.{member, empty_set, single, ◌∪◌, ◌∖◌, subset, apart, member_empty, single_mk, single_in, union_left, union_right, union_in, difference_mk, difference_in, subset_in}
use Rattle.sets.specs.SetLaws.{subset_trans, apart_in}
use Rattle.sets.specs.Members.{set_of}
use Rattle.sets.specs.MemberLaws.{keep_subset}
use Rattle.sets.specs.declared.Set.{Set}
use Rattle.language.specs.Lists.{put}
use Rattle.language.specs.Program.{Step, Signature, Program, signature_of}
use Rattle.language.specs.Typing.{is_region, types_of}
use Rattle.language.specs.Values.{reads, gives}
use Rattle.language.specs.Regions.{regions_of, reach}
use Rattle.language.specs.Lifetimes.{kept, effect, held_after}
use Rattle.language.specs.Checking.{carries, sound_given, sound_without, step_rules, check_step}
use Rattle.language.specs.Frames.{Value, give_each}
use Rattle.language.specs.AcceptedRun.{RegionFrame, RegionCell}
use Rattle.laws.specs.MoreSets.{no_change}
use Rattle.laws.specs.Choices.{put_other}
use Rattle.region_graph.specs.Shared.{region_top}
use Rattle.safety.specs.Walks.{require_in}
use Rattle.safety.specs.Premises.{Accepted, laws}
use Rattle.safety.specs.PlacedValues.{Grows, PlacedAll, placed_none}
use Rattle.safety.specs.Variables.{Vars, vars_fewer, vars_given, vars_moved, vars_grown, vars_without}
use Rattle.safety.specs.Owners.{Owner}
use Rattle.safety.proofs.OwnersKept.{created, removed}
use Rattle.safety.specs.Invariant.{Now, stack_stands, stack_grown}

-- ---- what is held after a step that ends e and bears b
module _ (h e b : Set) (u : ℕ) where
  pub after_in : member ((h ∖ e) ∪ b) u ≡ true → ((member h u ≡ true) × (member e u ≡ false)) ⊎ (member b u ≡ true)
  after_in i = ⊎_elim (λ j. inl (difference_in h e u j)) (λ j. inr j) (union_in (h ∖ e) b u i)

  pub after_old : member h u ≡ true → member e u ≡ false → member ((h ∖ e) ∪ b) u ≡ true
  after_old i j = union_left (h ∖ e) b u (difference_mk h e u i j)

  pub after_new : member b u ≡ true → member ((h ∖ e) ∪ b) u ≡ true
  after_new i = union_right (h ∖ e) b u i

-- ---- the rules of a step
module _ (P : Program) (S : Signature) where
  pub record Obeyed (g : Step) (h s h₁ s₁ : Set) : Type 0 where
    pub reads_sound : subset (reads P g) s ≡ true
    pub needs_held : subset (effect P S g).needs h ≡ true
    pub ends_own : apart (effect P S g).ends (kept S) ≡ true
    pub bears_new : apart (effect P S g).bears h ≡ true
    pub unshared : (effect P S g).unshared ≡ true
    pub held : h₁ ≡ (h ∖ (effect P S g).ends) ∪ (effect P S g).bears
    pub sound : s₁ ≡ sound_given S (gives P g) h₁ (sound_without S (effect P S g).ends s)

  pub obeyed : (g : Step) {h s h₁ s₁ : Set} → check_step P S g h s ≡ carries h₁ s₁ → Obeyed g h s h₁ s₁
  unfolding check_step step_rules held_after
  obeyed g {h} {s} {h₁} {s₁} e =
      let p = require_in e in
      let a = and_true p.0 in
      let b = and_true a.1 in
      let c = and_true b.1 in
      let d = and_true c.1 in
      record { reads_sound = a.0; needs_held = b.0; ends_own = c.0; bears_new = d.0; unshared = d.1; held = cc; sound = cc }

  -- a step that changes no region
  pub quiet : (g : Step) {h s h₁ s₁ : Set} → (effect P S g).ends ≡ empty_set → (effect P S g).bears ≡ empty_set → Obeyed g h s h₁ s₁
      → (h₁ ≡ h) × (s₁ ≡ sound_given S (gives P g) h (sound_without S empty_set s))
  quiet g {h} {s} {h₁} {s₁} e b O =
      let p : h₁ ≡ h = O.held ∙ (rw (e, b) (no_change h)) in
      (p, O.sound ∙ (rw (p, e)))

  pub without_fewer : (gone s : Set) → subset (sound_without S gone s) s ≡ true
  unfolding sound_without
  without_fewer gone s = keep_subset (λ x. apart (reach S x) gone) s

module _ {P : Program}
    (A : Accepted P) {p : ℕ} {zs : List ℕ} {ρ : ℕ → ℕ} {fs : List RegionFrame} {made : ℕ} {live : ℕ
    → Bool} {h : Set} {os : List Owner} where
  pub now_fewer : {vr : ℕ → Value} {H : List RegionCell} {s t : Set} → subset t s ≡ true → Now P p zs ρ vr fs H made live h s os
      → Now P p zs ρ vr fs H made live h t os
  now_fewer w N = record { regions = N.regions; vars = vars_fewer w N.vars; stack = N.stack }

  pub now_given : {vr : ℕ → Value} {H : List RegionCell} {s : Set} (xs : List ℕ) {vs : List Value}
      → PlacedAll P.types (signature_of P p) ρ H (types_of (signature_of P p) xs) (regions_of (signature_of P p) xs) vs
      → Now P p zs ρ vr fs H made live h s os
      → Now P p zs ρ (give_each xs vs vr) fs H made live h (sound_given (signature_of P p) (set_of xs) h s) os
  now_given xs q N = record { regions = N.regions; vars = vars_given xs q N.vars; stack = N.stack }

  pub now_grown : {vr : ℕ → Value} {H H' : List RegionCell} {s : Set} → Grows H H' → Now P p zs ρ vr fs H made live h s os
      → Now P p zs ρ vr fs H' made live h s os
  now_grown g N =
      record {
        regions = N.regions;
        vars = vars_grown (laws A p) g N.vars;
        stack = stack_grown P A g
            N.stack;
      }

  -- a step that changes no region, counts on t sound and gives xs the values vs
  pub now_quiet : {vr : ℕ → Value} {H : List RegionCell} {s : Set} (t : Set) (xs : List ℕ) {vs : List Value} → subset t s ≡ true
      → PlacedAll P.types (signature_of P p) ρ H (types_of (signature_of P p) xs) (regions_of (signature_of P p) xs) vs
      → Now P p zs ρ vr fs H made live h s os
      → Now P p zs ρ (give_each xs vs vr) fs H made live h
      (sound_given (signature_of P p) (set_of xs) h (sound_without (signature_of P p) empty_set t)) os
  now_quiet {s = s} t xs w q N =
      now_given xs q (now_fewer
      (subset_trans (sound_without (signature_of P p) empty_set t) t s (without_fewer P (signature_of P p) empty_set t) w) N)

  -- ---- create and remove
  module _ {vr : ℕ → Value} {H : List RegionCell} {s : Set} (r : ℕ) (i : is_region (signature_of P p) r ≡ true)
      (N : Now P p zs ρ vr fs H made live h s os) (t h' : Set) (w : subset t s ≡ true) where
    one : member (single r) r ≡ true
    one = let l = region_top _ _ (laws A p) r i in single_mk r l.0 l.1

    pub now_created : apart (single r) h ≡ true → h' ≡ (h ∖ empty_set) ∪ single r
        → Now P p zs (put ρ r (suc made)) vr fs H (suc made) (put live (suc made) true) h'
        (sound_given (signature_of P p) (set_of []) h' (sound_without (signature_of P p) empty_set t)) os
    unfolding give_each types_of regions_of
    now_created f q = record {
      regions = created N.regions h' r fresh back old new;
      vars = vars_given [] placed_none (vars_without (laws A p) empty_set (λ u j k. j) moved);
      stack = stack_stands P (λ u k. put_other ρ _ (suc made) _ (other u (N.regions.owns.keeps u k))) N.stack;
    }
      where
        fresh : member h r ≡ false
        fresh = apart_in (single r) h f r one

        back : (u : ℕ) → member h' u ≡ true → (member h u ≡ true) ⊎ (r ≡ u)
        back u j = ⊎_elim (λ k. inl k.0) (λ k. inr (single_in r u k)) (after_in h empty_set (single r) u (rw q at j))

        old : (u : ℕ) → member h u ≡ true → member h' u ≡ true
        old u j = rw q (after_old h empty_set (single r) u j (member_empty u))

        new : member h' r ≡ true
        new = rw q (after_new h empty_set (single r) r one)

        other : (u : ℕ) → member h u ≡ true → r ≢ u
        other u j e = clash j (ap (member h) (sym e) ∙ fresh)

        moved : Vars P.types (signature_of P p) h' t (put ρ r (suc made)) H vr
        moved =
            vars_moved (laws A p) (λ c l. (l, refl)) (subset_in t s w)
            (λ x u j m. let k = N.vars.closed x u (subset_in t s w x j) m in (sym (put_other ρ _ (suc made) _ (other u k)), old u k))
            N.vars

    pub now_removed : subset (single r) h ≡ true → apart (single r) (kept (signature_of P p)) ≡ true → h' ≡ (h ∖ single r) ∪ empty_set
        → Now P p zs ρ vr fs H made (put live (ρ r) false) h'
        (sound_given (signature_of P p) (set_of []) h' (sound_without (signature_of P p) (single r) t)) os
    unfolding give_each types_of regions_of
    now_removed f k q = record {
      regions = removed N.regions h' r here own back old;
      vars = vars_given [] placed_none (vars_without (laws A p) (single r) still (vars_fewer w N.vars));
      stack = N.stack;
    }
      where
        here : member h r ≡ true
        here = subset_in (single r) h f r one

        own : member (kept (signature_of P p)) r ≡ false
        own = apart_in (single r) (kept (signature_of P p)) k r one

        still : (u : ℕ) → member h u ≡ true → member (single r) u ≡ false → member h' u ≡ true
        still u j d = rw q (after_old h (single r) empty_set u j d)

        back : (u : ℕ) → member h' u ≡ true → (member h u ≡ true) × (r ≢ u)
        back u j =
            ⊎_elim (λ d. (d.0, λ e. clash (ap (member (single r)) (sym e) ∙ one) d.1)) (λ d. absurd (clash d (member_empty u)))
            (after_in h (single r) empty_set u (rw q at j))

        old : (u : ℕ) → member h u ≡ true → r ≢ u → member h' u ≡ true
        old u j ne = still u j (false_of (λ d. ne (single_in r u d)))
