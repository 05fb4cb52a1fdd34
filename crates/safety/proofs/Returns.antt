-- A return: the images of the born regions stand for what those did, and the waiting frame goes on with them.
use Rattle.std.specs.Prelude.{◌≡◌, refl, Bool, true, false, List, ◌∷◌, map, ◌⊎◌, ℕ}
use Rattle.std.proofs.Common.{sym, ap, ◌∙◌, inl, inr}
use Rattle.sets.specs.Tests.{clash, false_of}
use Rattle.sets.specs.Sets.{member, ◌∪◌, union_left, union_right, union_in, subset_in}
use Rattle.sets.specs.Members.{set_of, members, image, members_mk, members_in}
use Rattle.sets.specs.MemberLaws.{image_in_law}
use Rattle.sets.specs.declared.Set.{Set}
use Rattle.language.specs.Program.{Signature, Program, signature_of, parameters_of, out_mode, variables_in}
use Rattle.language.specs.Typing.{types_of}
use Rattle.language.specs.Values.{outs_of}
use Rattle.language.specs.Regions.{regions_of, mapping, reach}
use Rattle.language.specs.Lifetimes.{born, kept}
use Rattle.language.specs.Checking.{sound_given}
use Rattle.language.specs.Frames.{Value, give_each}
use Rattle.language.specs.AcceptedRun.{RegionFrame, RegionCell, return_stands}
use Rattle.region_graph.specs.Laws.{shared}
use Rattle.safety.specs.Doing.{End}
use Rattle.region_graph.specs.Classes.{kept_in}
use Rattle.safety.specs.Signatures.{Fit, born_unkept, born_shared_law, shared_top, outs_reach, laws_of}
use Rattle.safety.specs.Premises.{Accepted, laws, fit}
use Rattle.safety.specs.PlacedValues.{PlacedAll}
use Rattle.safety.proofs.Across.{Across, called_along, ComesAll, leave_all}
use Rattle.safety.specs.Variables.{Vars, placed_each, vars_given, vars_moved}
use Rattle.safety.specs.Owners.{Owner, owner, Covered, Away, Owns, Ownership}
use Rattle.safety.specs.Invariant.{image_at, given_by, Hung, Stack, stack_stands, Now}
use Rattle.safety.proofs.Arguments.{variables_member, arguments_regions, arguments_types, regions_in_law, stand_new, stand_old}
use Rattle.safety.proofs.Calls.{image_member}

module _ {P : Program} (A : Accepted P) (q : ℕ) (zs : List ℕ) (ρ : ℕ → ℕ) (vr : ℕ → Value) (e : RegionFrame)
    {H : List RegionCell} {h s w t : Set} {os : List Owner} {made : ℕ} {live : ℕ → Bool}
    (g : Hung P H q zs ρ e w t os) (O : Ownership (signature_of P q) h ρ (owner e.stands w ∷ os) made live)
    (X : Vars P.types (signature_of P q) h s ρ H vr) (Z : End P (signature_of P q) h s) where
  abbrev C : Signature
  C = signature_of P e.frame.procedure

  abbrev Q : Signature
  Q = signature_of P q

  abbrev m : ℕ → ℕ
  m = image_at P e.frame.procedure q zs

  F : Fit P.types Q
  F = fit A q

  via : Across C Q zs m
  via = called_along g.call

  -- what the waiting frame's numbers stand for and which it holds afterwards
  abbrev ρ₂ : ℕ → ℕ
  ρ₂ = return_stands (mapping C Q zs) Q ρ e.stands

  abbrev h₂ : Set
  h₂ = w ∪ image m (born Q)

  still : (u : ℕ) → member w u ≡ true → ρ₂ u ≡ e.stands u
  unfolding return_stands
  still u i =
      stand_old m ρ (members (born Q)) e.stands u
      (λ r j k. clash i (ap (member w) (sym k) ∙ g.born_free r (members_in (born Q) r j).0))

  given : (a : ℕ) → member (born Q) a ≡ true → ρ₂ (m a) ≡ ρ a
  unfolding return_stands
  given a i =
      stand_new m ρ (members (born Q)) e.stands
      (λ x y j k. g.born_alone x y (members_in (born Q) x j).0 (members_in (born Q) y k).0) a
      (members_mk (born Q) a i (shared_top F a (born_shared_law F a i)))

  born_held_law : (a : ℕ) → member (born Q) a ≡ true → member h a ≡ true
  born_held_law a i = rw Z.holds (union_left (born Q) (kept Q) a i)

  born_own : (a : ℕ) → member (born Q) a ≡ true → member (kept Q) a ≡ false
  born_own a i = false_of (λ k. born_unkept _ a i k)

  born_away : (a : ℕ) → member (born Q) a ≡ true → Away (ρ a) (owner e.stands w ∷ os)
  born_away a i = O.owns.away a (born_held_law a i) (born_own a i)

  born_image : (a : ℕ) → member (born Q) a ≡ true → member h₂ (m a) ≡ true
  born_image a i =
      union_right w (image m (born Q)) (m a)
      (image_member A e q zs g.call (born Q) a (born_shared_law F a i) i)

  waited_held : (u : ℕ) → member w u ≡ true → member h₂ u ≡ true
  waited_held u i = union_left w (image m (born Q)) u i

  -- what is held afterwards was held by the waiting frame, or is the image of a born region
  data From (u : ℕ) : Type 0 where
    waited : member w u ≡ true → ρ₂ u ≡ e.stands u → From u
    gained : (a : ℕ) → member (born Q) a ≡ true → m a ≡ u → ρ₂ u ≡ ρ a → From u

  from : (u : ℕ) → member h₂ u ≡ true → From u
  from u i = go (union_in w (image m (born Q)) u i)
    where
      go : (member w u ≡ true) ⊎ (member (image m (born Q)) u ≡ true) → From u
      go (inl j) = waited j (still u j)
      go (inr j) = let o = image_in_law m (born Q) u j in gained o.0 o.1 o.2 (sym (ap ρ₂ o.2) ∙ given o.0 o.1)

  alone_from : (u v : ℕ) → From u → From v → member (kept C) u ≡ false → ρ₂ u ≡ ρ₂ v → u ≡ v
  alone_from u v (waited i x) (waited j y) k z = g.owns.alone u v i j k (sym x ∙ z ∙ y)
  alone_from u v (waited i x) (gained b j r y) k z = absurd ((born_away b j).0 u i (sym x ∙ z ∙ y))
  alone_from u v (gained a i r x) (waited j y) k z = absurd ((born_away a i).0 v j (sym y ∙ sym z ∙ x))
  alone_from u v (gained a i r x) (gained b j r' y) k z =
      sym r ∙ ap m (O.owns.alone a b (born_held_law a i) (born_held_law b j) (born_own a i) (sym x ∙ z ∙ y)) ∙ r'

  away_from : (u : ℕ) → From u → member (kept C) u ≡ false → Away (ρ₂ u) os
  away_from u (waited i x) k = rw x (g.owns.away u i k)
  away_from u (gained a i r x) k = rw x (born_away a i).1

  owns_back : Owns C h₂ ρ₂ os
  owns_back = record {
    alone = λ u v i j. alone_from u v (from u i) (from v j);
    away = λ u i. away_from u (from u i);
    keeps = λ u k. waited_held u (g.owns.keeps u k);
  }

  -- a region held at the end is one of the waiting frame's now
  ended : (u : ℕ) → member (born Q ∪ kept Q) u ≡ true → (shared Q u) × (ρ₂ (m u) ≡ ρ u) × (member h₂ (m u) ≡ true)
  ended u i = go (union_in (born Q) (kept Q) u i)
    where
      go : (member (born Q) u ≡ true) ⊎ (member (kept Q) u ≡ true) → (shared Q u) × (ρ₂ (m u) ≡ ρ u) × (member h₂ (m u) ≡ true)
      go (inl b) = (born_shared_law F u b, given u b, born_image u b)
      go (inr k) = let l = g.link u k in ((kept_in _ u k).0, still (m u) l.1 ∙ sym l.0, waited_held (m u) l.1)

  covered_back : (k : ℕ) → Covered k (owner ρ h ∷ owner e.stands w ∷ os) → Covered k (owner ρ₂ h₂ ∷ os)
  covered_back k (inl o) = let l = ended o.0 (rw Z.holds at o.1) in inl (m o.0, l.2, l.1 ∙ o.2)
  covered_back k (inr (inl o)) = inl (o.0, waited_held o.0 o.1, still o.0 o.1 ∙ o.2)
  covered_back k (inr (inr o)) = inr o

  -- ---- the out values lie where the call's arguments say
  comes : ComesAll Q m ρ₂ ρ (regions_of Q (variables_in out_mode Q))
  unfolding reach outs_of
  comes t i =
      let x = regions_in_law Q (variables_in out_mode Q) t i in (
        rw x.2 at ((laws_of F).own x.0),
        λ u r. let l = ended u (outs_reach F x.0 u (variables_member (laws_of F) out_mode x.0 x.1) (rw x.2 r)) in (l.0, l.1),
      )

  left : PlacedAll P.types C ρ₂ H (types_of C (given_by P q zs)) (regions_of C (given_by P q zs)) (map vr (variables_in out_mode Q))
  unfolding variables_in outs_of
  left =
      rw (arguments_types C Q out_mode (parameters_of Q) zs via.types, arguments_regions C Q m out_mode (parameters_of Q) zs via.arguments) at images
    where
      images : PlacedAll P.types C ρ₂ H (types_of Q (variables_in out_mode Q)) (map m (regions_of Q (variables_in out_mode Q)))
          (map vr (variables_in out_mode Q))
      images =
          leave_all (laws_of F) via
          (placed_each X (variables_in out_mode Q) (λ y i. subset_in (outs_of Q) s Z.outs y (variables_member (laws_of F) out_mode y i))) comes

  vars_back : Vars P.types C h₂ (sound_given C (set_of (given_by P q zs)) h₂ t) ρ₂ H
      (give_each (given_by P q zs) (map vr (variables_in out_mode Q)) e.frame.values)
  vars_back =
      vars_given (given_by P q zs) left
      (vars_moved (laws A e.frame.procedure) (λ c l. (l, refl)) (λ x i. i)
      (λ x u i r. let j = g.vars.closed x u i r in (sym (still u j), waited_held u j)) g.vars)

  -- ---- the waiting frame goes on
  live_from : (u : ℕ) → From u → live (ρ₂ u) ≡ true
  live_from u (waited i x) = rw x (O.alive.1.0 u i)
  live_from u (gained b i r x) = rw x (O.alive.0 b (born_held_law b i))

  regions_back_law : Ownership C h₂ ρ₂ os made live
  regions_back_law = record {
    alive = (λ u i. live_from u (from u i), O.alive.1.1);
    low = O.low;
    covered = λ k l. covered_back k (O.covered k l);
    owns = owns_back;
  }

  pub now_returned : {fs : List RegionFrame} → Stack P H e.frame.procedure e.frame.arguments e.stands fs os
      → Now P e.frame.procedure e.frame.arguments (return_stands (mapping C Q zs) Q ρ e.stands)
      (give_each (given_by P q zs) (map vr (variables_in out_mode Q)) e.frame.values) fs H made live (w ∪ image m (born Q))
      (sound_given C (set_of (given_by P q zs)) (w ∪ image m (born Q)) t) os
  now_returned st = record {
    regions = regions_back_law;
    vars = vars_back;
    stack = stack_stands P (λ u k. still u (g.owns.keeps u k)) st;
  }
