-- Who owns the living regions, after a create and after a remove.
use Rattle.std.specs.Prelude.{◌≡◌, Bool, true, false, List, ◌∷◌, ◌≢◌, ◌⊎◌, ℕ, suc, ◌<◌, []}
use Rattle.std.proofs.Common.{sym, ap, ◌∙◌, inl, inr, ⊎_elim, arith}
use Rattle.std.proofs.Math.Decide.{ℕ_discrete}
use Rattle.sets.specs.Tests.{clash}
use Rattle.sets.specs.Sets.{member}
use Rattle.sets.specs.declared.Set.{Set}
use Rattle.language.specs.Lists.{put}
use Rattle.language.specs.Program.{Signature}
use Rattle.language.specs.Lifetimes.{kept}
use Rattle.laws.specs.Choices.{put_same, put_other, put_false, put_true}
use Rattle.safety.specs.Owners.{Owner, owner, Away, Alive, Covered, Ownership}

alive_created : (live : ℕ → Bool) (n : ℕ) (os : List Owner) → Alive live os → Alive (put live n true) os
alive_created live n [] a = tt
alive_created live n (o ∷ os) a = (λ r i. put_true live n (o.stands r) (a.0 r i), alive_created live n os a.1)

alive_removed : (live : ℕ → Bool) (k : ℕ) (os : List Owner) → Away k os → Alive live os → Alive (put live k false) os
alive_removed live k [] w a = tt
alive_removed live k (o ∷ os) w a =
    (λ r i. put_other live _ false _ (λ e. w.0 r i (sym e)) ∙ a.0 r i, alive_removed live k os w.1 a.1)

-- regions are numbered as they are made, so the next number is new
away_next : (live : ℕ → Bool) (n : ℕ) (os : List Owner) → ((k : ℕ) → live k ≡ true → k < n) → Alive live os → Away n os
away_next live n [] low a = tt
away_next live n (o ∷ os) low a = (λ r i e. omega (arith, low (o.stands r) (a.0 r i)), away_next live n os low a.1)

module _ {S : Signature} {h : Set} {ρ : ℕ → ℕ} {os : List Owner} {made : ℕ} {live : ℕ → Bool} (O : Ownership S h ρ os made live) (h' : Set)
    (r : ℕ) where
  -- ---- r, which is not held, stands for a new region and is held
  module _ (fresh : member h r ≡ false) (back : (u : ℕ) → member h' u ≡ true → (member h u ≡ true) ⊎ (r ≡ u))
      (old : (u : ℕ) → member h u ≡ true → member h' u ≡ true) (new : member h' r ≡ true) where
    abbrev n : ℕ
    n = suc made

    before : (u : ℕ) → r ≢ u → member h' u ≡ true → member h u ≡ true
    before u ne i = ⊎_elim (λ j. j) (λ e. absurd (ne e)) (back u i)

    other : (u : ℕ) → member h u ≡ true → r ≢ u
    other u i e = clash i (ap (member h) (sym e) ∙ fresh)

    not_new : (u : ℕ) → r ≢ u → member h' u ≡ true → put ρ r n u ≡ n → ⊥
    not_new u ne i e = omega (arith, O.low (ρ u) (O.alive.0 u (before u ne i)), sym (put_other ρ _ n _ ne) ∙ e)

    alone_created : (a b : ℕ) → Dec (r ≡ a) → Dec (r ≡ b) → member h' a ≡ true → member h' b ≡ true → member (kept S) a ≡ false
        → put ρ r n a ≡ put ρ r n b → a ≡ b
    alone_created a b (yes p) (yes q) i j k e = sym p ∙ q
    alone_created a b (yes p) (no q) i j k e = absurd (not_new b q j (sym e ∙ ap (put ρ r n) (sym p) ∙ put_same ρ r n))
    alone_created a b (no p) (yes q) i j k e = absurd (not_new a p i (e ∙ ap (put ρ r n) (sym q) ∙ put_same ρ r n))
    alone_created a b (no p) (no q) i j k e =
        O.owns.alone a b (before a p i) (before b q j) k (sym (put_other ρ _ n _ p) ∙ e ∙ put_other ρ _ n _ q)

    away_created : (a : ℕ) → Dec (r ≡ a) → member h' a ≡ true → member (kept S) a ≡ false → Away (put ρ r n a) os
    away_created a (yes p) i k = rw (← p) (rw (put_same ρ r n) (away_next live n os O.low O.alive.1))
    away_created a (no p) i k = rw (put_other ρ _ n _ p) (O.owns.away a (before a p i) k)

    live_created : (a : ℕ) → Dec (r ≡ a) → member h' a ≡ true → put live n true (put ρ r n a) ≡ true
    live_created a (yes p) i = rw (← p) (rw (put_same ρ r n) (put_same live n true))
    live_created a (no p) i = rw (put_other ρ _ n _ p) (put_true live n (ρ a) (O.alive.0 a (before a p i)))

    low_created : (k : ℕ) → Dec (n ≡ k) → put live n true k ≡ true → k < suc n
    low_created k (yes e) l = omega arith
    low_created k (no ne) l = omega (arith, O.low k (sym (put_other live _ true _ ne) ∙ l))

    covered_created : (k : ℕ) → Dec (n ≡ k) → put live n true k ≡ true → Covered k (owner (put ρ r n) h' ∷ os)
    covered_created k (yes e) l = inl (r, new, put_same ρ r n ∙ e)
    covered_created k (no ne) l =
        ⊎_elim (λ o. inl (o.0, old o.0 o.1, put_other ρ _ n _ (other o.0 o.1) ∙ o.2)) (λ o. inr o)
        (O.covered k (sym (put_other live _ true _ ne) ∙ l))

    pub created : Ownership S h' (put ρ r (suc made)) os (suc made) (put live (suc made) true)
    created = record {
      alive = (λ a. live_created a (ℕ_discrete r a), alive_created live n os O.alive.1);
      low = λ k. low_created k (ℕ_discrete n k);
      covered = λ k. covered_created k (ℕ_discrete n k);
      owns = record {
        alone = λ a b. alone_created a b (ℕ_discrete r a) (ℕ_discrete r b);
        away = λ a. away_created a (ℕ_discrete r a);
        keeps = λ a k. old a (O.owns.keeps a k);
      };
    }

  -- ---- the region of r, which is held and not kept, is removed
  module _ (here : member h r ≡ true) (own : member (kept S) r ≡ false)
      (back : (u : ℕ) → member h' u ≡ true → (member h u ≡ true) × (r ≢ u))
      (old : (u : ℕ) → member h u ≡ true → r ≢ u → member h' u ≡ true) where
    live_removed : (a : ℕ) → member h' a ≡ true → put live (ρ r) false (ρ a) ≡ true
    live_removed a i =
        put_other live _ false _ (λ e. (back a i).1 (O.owns.alone r a here (back a i).0 own e)) ∙ O.alive.0 a (back a i).0

    covered_removed : (k : ℕ) → put live (ρ r) false k ≡ true → Covered k (owner ρ h' ∷ os)
    covered_removed k l =
        let d = put_false live _ _ l in
        ⊎_elim (λ o. inl (o.0, old o.0 o.1 (λ e. d.0 (ap ρ e ∙ o.2)), o.2)) (λ o. inr o) (O.covered k d.1)

    pub removed : Ownership S h' ρ os made (put live (ρ r) false)
    removed = record {
      alive = (live_removed, alive_removed live (ρ r) os (O.owns.away r here own) O.alive.1);
      low = λ k l. O.low k (put_false live _ _ l).1;
      covered = covered_removed;
      owns = record {
        alone = λ a b i j. O.owns.alone a b (back a i).0 (back b j).0;
        away = λ a i. O.owns.away a (back a i).0;
        keeps = λ a k. old a (O.owns.keeps a k) (λ e. clash k (ap (member (kept S)) (sym e) ∙ own));
      };
    }
