-- A call: the callee's dead and kept numbers stand for what their images do. What the caller's dead images stand for is the callee's now;
-- the caller waits with the rest.
use Rattle.std.specs.Prelude.{◌≡◌, Bool, true, false, List, ◌∷◌, map, ◌⊎◌, ℕ, pos}
use Rattle.std.proofs.Math.Path.{sym}
use Rattle.std.proofs.Common.{subst, ap, ◌∙◌, inl, inr, ⊎_elim}
use Rattle.sets.specs.Tests.{truth, clash, false_of}
use Rattle.sets.specs.Sets.{member, ◌∪◌, ◌∖◌, union_left, union_right, difference_mk, difference_in, subset_in}
use Rattle.sets.specs.SetLaws.{apart_in}
use Rattle.sets.specs.Members.{set_of, members, image, members_mk}
use Rattle.sets.specs.MemberLaws.{set_of_in, image_in_law, image_mk}
use Rattle.sets.specs.declared.Set.{Set}
use Rattle.language.specs.Program.{call, Signature, Program, signature_of, parameters_of, in_mode, variables_in}
use Rattle.language.specs.Typing.{types_of}
use Rattle.language.specs.Values.{ins_of, reads, gives, access, accessing}
use Rattle.language.specs.Regions.{regions_of, mapping, reach}
use Rattle.language.specs.Lifetimes.{inputs, outputs, born, dead, kept, start_held, effect, call_effect}
use Rattle.language.specs.Checking.{sound_given, sound_without}
use Rattle.language.specs.Frames.{numeral, give_each}
use Rattle.language.specs.AcceptedRun.{RegionFrame, RegionCell, callee_stands}
use Rattle.region_graph.specs.Laws.{shared, Called}
use Rattle.safety.specs.Doing.{Doing}
use Rattle.region_graph.specs.Classes.{kept_in, unshared_in_law}
use Rattle.region_graph.specs.Shared.{region_top}
use Rattle.safety.specs.Signatures.{Fit, dead_unkept, born_shared_law, dead_shared_law, start_in_law, start_dead, start_kept, start_shared, shared_top, ins_reach, laws_of}
use Rattle.safety.specs.Premises.{Accepted, laws, fit}
use Rattle.safety.specs.PlacedValues.{PlacedAll}
use Rattle.safety.proofs.Across.{Across, called_along, ComesAll, enter_all}
use Rattle.safety.specs.Variables.{AllVariables, Vars, give_placed, placed_each, read_sound_law, vars_without}
use Rattle.safety.specs.Owners.{Owner, owner, Covered, Away, Owns, Ownership}
use Rattle.safety.specs.Invariant.{image_at, given_by, read_by, Hung, Now, hang}
use Rattle.safety.proofs.Quiet.{Obeyed}
use Rattle.safety.proofs.Arguments.{variables_member, arguments_regions, arguments_types, regions_in_law, stand_new}

-- the waiting frame e calls procedure q with arguments ys
module _ {P : Program} (A : Accepted P) (e : RegionFrame) (q : ℕ) (ys : List ℕ)
    (K : Called (signature_of P e.frame.procedure) (signature_of P q) ys) where
  abbrev C : Signature
  C = signature_of P e.frame.procedure

  abbrev Q : Signature
  Q = signature_of P q

  abbrev m : ℕ → ℕ
  m = image_at P e.frame.procedure q ys

  F : Fit P.types Q
  F = fit A q

  via : Across C Q ys m
  via = called_along K

  -- what the callee's numbers stand for
  abbrev ρ' : ℕ → ℕ
  ρ' = callee_stands (mapping C Q ys) Q e.stands

  callee_stands_law : (a : ℕ) → member (start_held Q) a ≡ true → ρ' a ≡ e.stands (m a)
  unfolding callee_stands
  callee_stands_law a i =
      stand_new (λ r. r) (λ r. e.stands (m r)) (members (start_held Q)) (λ r. 0) (λ x y j k d. d) a
      (members_mk (start_held Q) a i (shared_top F a (start_shared F a i)))

  -- the image of a shared region is in the set of images
  pub image_member : (s : Set) (a : ℕ) → shared Q a → member s a ≡ true → member (image m s) (m a) ≡ true
  image_member s a j i =
      let k = region_top _ _ (laws A e.frame.procedure) (m a) (via.region a j) in
      image_mk m s a i (shared_top F a j) k.0 k.1

  dead_image : (a : ℕ) → member (dead Q) a ≡ true → member (image m (dead Q)) (m a) ≡ true
  dead_image a i = image_member (dead Q) a (dead_shared_law F a i) i

  unkept_dead : (a : ℕ) → member (start_held Q) a ≡ true → member (kept Q) a ≡ false → member (dead Q) a ≡ true
  unkept_dead a i k = ⊎_elim (λ d. d) (λ j. absurd (clash j k)) (start_in_law F a i)

  module _ {h s h₁ s₁ : Set} (R : Obeyed P C (call q ys) h s h₁ s₁) where
    -- ---- the rules of a call
    start_held_law : (a : ℕ) → member (start_held Q) a ≡ true → member h (m a) ≡ true
    unfolding effect call_effect start_held
    start_held_law a i = subset_in (image m (dead Q ∪ kept Q)) h R.needs_held (m a) (image_member (dead Q ∪ kept Q) a (start_shared F a i) i)

    dead_own : (u : ℕ) → member (image m (dead Q)) u ≡ true → member (kept C) u ≡ false
    unfolding effect call_effect
    dead_own u i = apart_in (image m (dead Q)) (kept C) R.ends_own u i

    born_new : (a : ℕ) → member (born Q) a ≡ true → member h (m a) ≡ false
    unfolding effect call_effect
    born_new a i = apart_in (image m (born Q)) h R.bears_new (m a) (image_member (born Q) a (born_shared_law F a i) i)

    -- "An image of a dead or born one is no other region's image."
    solo : (a b : ℕ) → member (dead Q ∪ born Q) a ≡ true → shared Q a → shared Q b → m a ≡ m b → a ≡ b
    unfolding effect call_effect
    solo a b i ja jb d = unshared_in_law m (dead Q ∪ born Q) (inputs Q ∪ outputs Q) R.unshared a b i (shared_top F a ja) jb (shared_top F b jb) d

    dead_solo : (a b : ℕ) → member (dead Q) a ≡ true → shared Q b → m a ≡ m b → a ≡ b
    dead_solo a b i j d = solo a b (union_left (dead Q) (born Q) a i) (dead_shared_law F a i) j d

    born_solo : (a b : ℕ) → member (born Q) a ≡ true → member (born Q) b ≡ true → m a ≡ m b → a ≡ b
    born_solo a b i j d = solo a b (union_right (dead Q) (born Q) a i) (born_shared_law F a i) (born_shared_law F b j) d

    -- ---- what the caller holds while it waits
    abbrev rest : Set
    rest = h ∖ image m (dead Q)

    rest_in_law : (u : ℕ) → member rest u ≡ true → (member h u ≡ true) × (member (image m (dead Q)) u ≡ false)
    rest_in_law u i = difference_in h (image m (dead Q)) u i

    rest_mk : (u : ℕ) → member h u ≡ true → member (image m (dead Q)) u ≡ false → member rest u ≡ true
    rest_mk u i j = difference_mk h (image m (dead Q)) u i j

    -- a kept region's image is no dead one's, so it stays with the caller
    kept_rest : (u : ℕ) → member (kept Q) u ≡ true → member rest (m u) ≡ true
    kept_rest u i = rest_mk (m u) (start_held_law u (start_kept F u i)) (false_of dead_too)
      where
        dead_too : member (image m (dead Q)) (m u) ≡ true → ⊥
        dead_too j =
            let o = image_in_law m (dead Q) (m u) j in
            dead_unkept _ u (ap (member (dead Q)) (sym (dead_solo o.0 u o.1 (kept_in _ u i).0 o.2)) ∙ o.1) i

    module _ {os : List Owner} {made : ℕ} {live : ℕ → Bool} (O : Ownership C h e.stands os made live) where
      away_callee : (a : ℕ) → member (start_held Q) a ≡ true → member (kept Q) a ≡ false → Away (ρ' a) (owner e.stands rest ∷ os)
      away_callee a i k =
          subst (λ (x : ℕ). Away x (owner e.stands rest ∷ os)) (sym (callee_stands_law a i))
          (λ r w d. same r (rest_in_law r w) (sym d), O.owns.away (m a) (start_held_law a i) own)
        where
          gone : member (image m (dead Q)) (m a) ≡ true
          gone = dead_image a (unkept_dead a i k)

          own : member (kept C) (m a) ≡ false
          own = dead_own (m a) gone

          same : (r : ℕ) → (member h r ≡ true) × (member (image m (dead Q)) r ≡ false) → e.stands (m a) ≡ e.stands r → ⊥
          same r x d = clash (ap (member (image m (dead Q))) (sym (O.owns.alone (m a) r (start_held_law a i) x.0 own d)) ∙ gone) x.1

      owns_callee : Owns Q (start_held Q) ρ' (owner e.stands rest ∷ os)
      owns_callee = record {
        alone = λ a b i j k d.
            let x = unkept_dead a i k in
            dead_solo a b x (start_shared F b j)
            (O.owns.alone (m a) (m b) (start_held_law a i) (start_held_law b j) (dead_own (m a) (dead_image a x))
            (sym (callee_stands_law a i) ∙ d ∙ callee_stands_law b j));
        away = away_callee;
        keeps = start_kept F;
      }

      covered_callee : (k : ℕ) → Covered k (owner e.stands h ∷ os) → Covered k (owner ρ' (start_held Q) ∷ owner e.stands rest ∷ os)
      covered_callee k (inl o) = go (truth (member (image m (dead Q)) o.0))
        where
          go : (member (image m (dead Q)) o.0 ≡ true) ⊎ (member (image m (dead Q)) o.0 ≡ false)
              → Covered k (owner ρ' (start_held Q) ∷ owner e.stands rest ∷ os)
          go (inl t) =
              let d = image_in_law m (dead Q) o.0 t in
              let i = start_dead F d.0 d.1 in
              inl (d.0, i, callee_stands_law d.0 i ∙ ap e.stands d.2 ∙ o.2)
          go (inr n) = inr (inl (o.0, rest_mk o.0 o.1 n, o.2))
      covered_callee k (inr o) = inr (inr o)

      regions_callee : Ownership Q (start_held Q) ρ' (owner e.stands rest ∷ os) made live
      regions_callee = record {
        alive = (λ r i. rw (callee_stands_law r i) (O.alive.0 (m r) (start_held_law r i)), (λ r i. O.alive.0 r (rest_in_law r i).0, O.alive.1));
        low = O.low;
        covered = λ k l. covered_callee k (O.covered k l);
        owns = owns_callee;
      }

      owns_waiting : Owns C rest e.stands os
      owns_waiting = record {
        alone = λ a b i j. O.owns.alone a b (rest_in_law a i).0 (rest_in_law b j).0;
        away = λ a i. O.owns.away a (rest_in_law a i).0;
        keeps = λ a k. rest_mk a (O.owns.keeps a k) (false_of (λ i. clash k (dead_own a i)));
      }

    -- ---- the in values lie where the callee's in variables say
    module _ {H : List RegionCell} (X : Vars P.types C h s e.stands H e.frame.values)
        (variables : AllVariables C (read_by P q ys)) where
      comes : ComesAll Q m e.stands ρ' (regions_of Q (variables_in in_mode Q))
      unfolding reach ins_of
      comes t j =
          let x = regions_in_law Q (variables_in in_mode Q) t j in (
            rw x.2 at ((laws_of F).own x.0),
            λ u r. let i = ins_reach F x.0 u (variables_member (laws_of F) in_mode x.0 x.1) (rw x.2 r) in
                (start_shared F u i, sym (callee_stands_law u i)),
          )

      entered : PlacedAll P.types Q ρ' H (types_of Q (variables_in in_mode Q)) (regions_of Q (variables_in in_mode Q))
          (map e.frame.values (read_by P q ys))
      unfolding variables_in reads access accessing
      entered =
          rw (arguments_types C Q in_mode (parameters_of Q) ys via.types) (enter_all (laws_of F) via
          (placed_each X (read_by P q ys) (read_sound_law (laws A e.frame.procedure) s (read_by P q ys) variables R.reads_sound))
          (regions_of Q (variables_in in_mode Q)) (sym (arguments_regions C Q m in_mode (parameters_of Q) ys via.arguments)) comes)

      vars_callee : Vars P.types Q (start_held Q) (ins_of Q) ρ' H
          (give_each (variables_in in_mode Q) (map e.frame.values (read_by P q ys)) (λ x. numeral (pos 0)))
      unfolding ins_of
      vars_callee = record {
        placed = λ x i. give_placed (variables_in in_mode Q) (λ y. numeral (pos 0)) x entered (inl (set_of_in (variables_in in_mode Q) x i));
        closed = λ x u i. ins_reach F x u i;
      }

    -- ---- the callee's frame over the waiting one
    waits : Doing P C e.frame.goals h₁ s₁
        → Doing P C e.frame.goals (rest ∪ image m (born Q))
        (sound_given C (set_of (given_by P q ys)) (rest ∪ image m (born Q)) (sound_without C (image m (dead Q)) s))
    unfolding effect call_effect gives access accessing
    waits d = rw (← R.held) (rw (← R.sound) d)

    module _ {fs : List RegionFrame} {H : List RegionCell} {made : ℕ} {live : ℕ → Bool} {os : List Owner}
        (N : Now P e.frame.procedure e.frame.arguments e.stands e.frame.values fs H made live h s os)
        (d : Doing P C e.frame.goals h₁ s₁) where
      hung : Hung P H q ys ρ' e rest (sound_without C (image m (dead Q)) s) os
      hung = record {
        call = K;
        link = λ u i. (callee_stands_law u (start_kept F u i), kept_rest u i);
        born_free = λ u i. false_of (λ j. clash (rest_in_law (m u) j).0 (born_new u i));
        born_alone = born_solo;
        owns = owns_waiting N.regions;
        vars = vars_without (laws A e.frame.procedure) (image m (dead Q)) rest_mk N.vars;
        doing = waits d;
      }

      pub now_called : AllVariables C (read_by P q ys)
          → Now P q ys (callee_stands (mapping C Q ys) Q e.stands)
          (give_each (variables_in in_mode Q) (map e.frame.values (read_by P q ys)) (λ x. numeral (pos 0)))
          (e ∷ fs) H made live (start_held Q) (ins_of Q) (owner e.stands (h ∖ image m (dead Q)) ∷ os)
      now_called a =
          record { regions = regions_callee N.regions; vars = vars_callee N.vars a; stack = hang hung N.stack }
