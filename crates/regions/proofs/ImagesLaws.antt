-- Laws of `specs/Images` that only proofs cite.
use Prim.Native.Nat.{ℕ, ◌≤◌, ◌<◌}
use native.Mathlib.Omega.{arith}
use native.Mathlib.Decide.{dec_lt, ℕ_discrete}
use mathlib.Core.Bool.{Bool, true}
use mathlib.Core.List.{List}
use mathlib.Core.Logic.{⊎_elim}
use mathlib.Core.Path.{◌≡◌, sym, ap, ap₂, ◌∙◌}
use borrow.Author.Tests.{eq-eqb, ne_eqb}
use lib.Dec.{eqb}
use lib.ListN.{get_or}
use Rattle.sets.specs.Tests.{◌or◌, neg, clash, false_of, same_truth, true_or_left, true_or_right, true_neg}
use Rattle.sets.specs.Sets.{member, empty_set, single, ◌∪◌, ◌∩◌, same_set, apart, union_left, union_right, union_in}
use Rattle.sets.specs.SetLaws.{apart_in, apart_mk}
use Rattle.sets.specs.Members.{union_over, image}
use Rattle.sets.specs.MemberLaws.{image_in_law, image_mk, every_mk}
use Rattle.sets.specs.Walk.{image_over}
use Rattle.sets.specs.declared.Set.{Set}
use Rattle.language.specs.Lifetimes.{unshared_in}
use Rattle.region_graph.specs.Classes.{unshared_in_law}
use Rattle.tables.specs.Window.{set_in, born_place, dead_place, kept_place, passed_place}
use Rattle.regions.specs.Pairs.{images_in}
use Rattle.regions.specs.Doubled.{Shared, Doubled}
use Rattle.regions.specs.Images.{ImageEffect, Imaged}

module _ (m : ℕ → ℕ) (dead born passed twice : Set) (D : Doubled m passed twice) (I : Imaged m passed) where
  abbrev ends : Set
  ends = image m dead ∪ image m born

  image_there : (r : ℕ) → member (dead ∪ born) r ≡ true → 1 ≤ m r → member ends (m r) ≡ true
  image_there r i a =
      let p = I.only r a in
      let t = I.top r p in
      let b = I.top_image r p in
      ⊎_elim (λ d. union_left (image m dead) (image m born) (m r) (image_mk m dead r d t a b))
      (λ o. union_right (image m dead) (image m born) (m r) (image_mk m born r o t a b)) (union_in dead born r i)

  image_from : (n : ℕ) → member ends n ≡ true → (r : ℕ) × (member (dead ∪ born) r ≡ true) × (m r ≡ n)
  image_from n i =
      ⊎_elim (λ p. let r = image_in_law m dead n p in (r.0, union_left dead born r.0 r.1, r.2))
      (λ q. let r = image_in_law m born n q in (r.0, union_right dead born r.0 r.1, r.2)) (union_in (image m dead) (image m born) n i)

  twice_there : (a b : ℕ) → member passed a ≡ true → member passed b ≡ true → a < b → m a ≡ m b → member twice (m a) ≡ true
  twice_there a b i j l e =
      D.all a b (record { a_in = i; b_in = j; order = l; same = e; low = I.low_image a i; top = I.top_image a i }) (I.top b j)

  -- two regions with one image, one of them dead or born, are one
  one_region : apart ends twice ≡ true → (r q : ℕ) → member (dead ∪ born) r ≡ true → member passed q ≡ true → m r ≡ m q → r ≡ q
  one_region h r q i j e = go (dec_lt r q) (dec_lt q r)
    where
      some : 1 ≤ m r
      some = let l = I.low_image q j in omega (arith, e)

      never : member twice (m r) ≡ true → r ≡ q
      never t = absurd (clash t (apart_in ends twice h (m r) (image_there r i some)))

      go : Dec (r < q) → Dec (q < r) → r ≡ q
      go (yes l) g = never (twice_there r q (I.only r some) j l e)
      go (no l) (yes g) = never (ap (member twice) e ∙ twice_there q r j (I.only r some) g (sym e))
      go (no l) (no g) = omega arith

  pub unshared_is : apart ends twice ≡ unshared_in m (dead ∪ born) passed
  unfolding unshared_in
  unshared_is = same_truth forth back
    where
      other : (r q : ℕ) → (m r ≡ m q → r ≡ q) → (neg (eqb (m r) (m q)) or eqb r q) ≡ true
      other r q f = go (ℕ_discrete (m r) (m q))
        where
          go : Dec (m r ≡ m q) → (neg (eqb (m r) (m q)) or eqb r q) ≡ true
          go (yes e) = true_or_right _ (eq-eqb r q (f e))
          go (no n) = true_or_left _ (true_neg (ne_eqb (m r) (m q) n))

      forth : apart ends twice ≡ true → unshared_in m (dead ∪ born) passed ≡ true
      forth h = every_mk _ (dead ∪ born) (λ r i t. every_mk _ passed (λ q j u. other r q (one_region h r q i j)))

      back : unshared_in m (dead ∪ born) passed ≡ true → apart ends twice ≡ true
      back h = apart_mk ends twice (λ n i. false_of (λ t. never (image_from n i) (D.only n t)))
        where
          never : {n : ℕ} → (r : ℕ) × (member (dead ∪ born) r ≡ true) × (m r ≡ n) → Shared m passed n → ⊥
          never x s =
              let l = I.low_image s.one s.one_in in
              let i = I.only x.0 (omega (arith, x.2, s.image_one)) in
              let u = I.top x.0 i in
              let a = unshared_in_law m (dead ∪ born) passed h x.0 s.one x.1 u s.one_in (I.top s.one s.one_in) (x.2 ∙ sym s.image_one) in
              let b = unshared_in_law m (dead ∪ born) passed h x.0 s.two x.1 u s.two_in s.top (x.2 ∙ sym s.image_two) in
              let o = s.order in
              omega (arith, a, b)

-- ---- the set of images
pub image_here : (t : List ℕ) (r : ℕ) {n : ℕ} {s : Set} → n ≡ get_or t r 0 → s ≡ single n → s ≡ single (images_in t r)
unfolding images_in
image_here t r e g = g ∙ ap single e

pub images_are : (m : ℕ → ℕ) (rs : Set) {s : Set} → s ≡ union_over (λ r. single (m r)) rs → s ≡ image m rs
images_are m rs e = e ∙ sym (image_over m rs)

-- ---- the effect, by the callee's window; `unshared` is right where the images are those of a mapping
pub imaged_effect : (m : ℕ → ℕ) (t : List ℕ) {dead born kept passed dk n b d w u i : Set} {o : Bool} → dead ≡ set_in t dead_place → born ≡ set_in t born_place
    → kept ≡ set_in t kept_place → dk ≡ dead ∪ kept → n ≡ image m dk → b ≡ image m born → d ≡ image m dead → passed ≡ set_in t passed_place → Doubled m passed w
    → u ≡ d ∪ b → i ≡ u ∩ w → o ≡ same_set i empty_set → ImageEffect m t (record { needs = n; bears = b; ends = d; unshared = o })
unfolding apart
imaged_effect m t {w = w} xd xb xk e1 en eb ed xp D eu ei eo =
    record {
      needs = en ∙ ap (image m) (e1 ∙ ap₂ ◌∪◌ xd xk);
      bears = eb ∙ ap (image m) xb;
      ends = ed ∙ ap (image m) xd;
      unshared = λ I.
          eo ∙ ap (λ (s : Set). same_set s empty_set) (ei ∙ ap (λ (s : Set). s ∩ w) (eu ∙ ap₂ ◌∪◌ (ed ∙ ap (image m) xd) (eb ∙ ap (image m) xb)))
          ∙ unshared_is m (set_in t dead_place) (set_in t born_place) (set_in t passed_place) w (rw xp at D) I;
    }
