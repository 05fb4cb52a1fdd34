-- The callee's regions that have no image yet: they fall in number with each image given, which bounds the mapping.
use Rattle.std.specs.Prelude.{ℕ, ◌≤◌, ◌<◌, true, ◌≢◌, ◌≡◌, eqb, length}
use Rattle.std.proofs.Common.{sym, ap, ◌∙◌, arith, eqb-true, eq-eqb}
use Rattle.std.proofs.Math.Decide.{ℕ_discrete}
use Rattle.sets.specs.Tests.{false_of}
use Rattle.sets.specs.Sets.{member, subset_mk}
use Rattle.sets.specs.Members.{keep}
use Rattle.sets.specs.MemberLaws.{keep_in, keep_mk}
use Rattle.sets.specs.Size.{size, size_below, size_mono, size_lt, size_pos}
use Rattle.sets.specs.declared.Set.{Set}
use Rattle.language.specs.Lists.{put}
pub use Rattle.laws.specs.Choices.{put_same as put_here, put_other}
use Rattle.language.specs.Program.{Signature}
use Rattle.language.specs.Typing.{is_region}
use Rattle.language.specs.Lifetimes.{declared}
use Rattle.region_graph.specs.Typed.{region_in_law, declared_in, declared_mk}

-- ---- the callee's regions that have no image yet
abbrev pub unmapped : Signature → (ℕ → ℕ) → Set
unmapped Q m = keep (λ r. eqb (m r) 0) (declared Q)

unmapped_in : (Q : Signature) (m : ℕ → ℕ) (r : ℕ) → member (unmapped Q m) r ≡ true → (is_region Q r ≡ true) × (m r ≡ 0)
unmapped_in Q m r h = let i = keep_in (λ q. eqb (m q) 0) (declared Q) r h in (declared_in Q r i.0, eqb-true (m r) 0 i.1)

module _ (Q : Signature) (few : length Q.regions ≤ 64) where
  unmapped_mk : (m : ℕ → ℕ) (r : ℕ) → is_region Q r ≡ true → m r ≡ 0 → member (unmapped Q m) r ≡ true
  unmapped_mk m r h e =
      let i = region_in_law Q r h in
      keep_mk (λ q. eqb (m q) 0) (declared Q) r (declared_mk Q few r h) (omega arith) (eq-eqb (m r) 0 e)

  -- at first as many as there are
  pub unmapped_all : (m : ℕ → ℕ) → size (unmapped Q m) ≤ length Q.regions
  unmapped_all m = size_below (unmapped Q m) (length Q.regions) (λ r h. (region_in_law Q r (unmapped_in Q m r h).0).1)

  -- fewer where r gets its first image
  pub unmapped_falls : (m : ℕ → ℕ) (r u : ℕ) → is_region Q r ≡ true → m r ≡ 0 → u ≢ 0 → size (unmapped Q (put m r u)) < size (unmapped Q m)
  unmapped_falls m r u h e n =
      let i = region_in_law Q r h in
      size_lt (unmapped Q (put m r u)) (unmapped Q m) r (subset_mk _ _ still)
      (false_of (λ z. n (sym (put_here m r u) ∙ (unmapped_in Q (put m r u) r z).1))) (unmapped_mk m r h e) (omega arith)
    where
      still : (q : ℕ) → member (unmapped Q (put m r u)) q ≡ true → member (unmapped Q m) q ≡ true
      still q z = let i = unmapped_in Q (put m r u) q z in unmapped_mk m q i.0 (go i.1 (ℕ_discrete r q))
        where
          go : put m r u q ≡ 0 → Dec (r ≡ q) → m q ≡ 0
          go e (yes p) = absurd (n (sym (put_here m r u) ∙ ap (put m r u) p ∙ e))
          go e (no f) = sym (put_other m r u q f) ∙ e

  -- no more where images are kept
  pub unmapped_shrinks : (m k : ℕ → ℕ) → ((q : ℕ) → m q ≢ 0 → k q ≡ m q) → size (unmapped Q k) ≤ size (unmapped Q m)
  unmapped_shrinks m k h = size_mono (unmapped Q k) (unmapped Q m) (subset_mk _ _ still)
    where
      still : (q : ℕ) → member (unmapped Q k) q ≡ true → member (unmapped Q m) q ≡ true
      still q z = let i = unmapped_in Q k q z in unmapped_mk m q i.0 (go i.1 (ℕ_discrete (m q) 0))
        where
          go : k q ≡ 0 → Dec (m q ≡ 0) → m q ≡ 0
          go e (yes p) = p
          go e (no n) = sym (h q n) ∙ e

  -- where none is left, each region has its image
  pub unmapped_none : (m : ℕ → ℕ) → size (unmapped Q m) ≤ 0 → (r : ℕ) → is_region Q r ≡ true → m r ≢ 0
  unmapped_none m l r h e =
      let i = region_in_law Q r h in
      let p = size_pos (unmapped Q m) r (unmapped_mk m r h e) (omega arith) in
      omega arith
