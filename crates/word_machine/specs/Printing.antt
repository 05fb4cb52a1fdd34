-- The numbers printed so far, in the words lent for them.
use Rattle.std.specs.Prelude.{ℕ, suc, ◌≤◌, ◌<◌, ◌≡◌, refl, List, [], ◌∷◌, ◌++◌, map, ℤ, length, set, take}
use Rattle.std.proofs.Common.{arith, sym, ◌∙◌, take_at, drop_at, drop-drop, to_z}
use Rattle.std.proofs.Math.Numerals.{add-one}
use Rattle.std.proofs.Math.Path.{ap}
use Rattle.std.proofs.Math.ListN.{drop, length-append, length-drop}
use Rattle.std.proofs.lemmas.List.{length-map}
use Rattle.std.proofs.Math.Seq.{set_split, append_snoc}
use Rattle.std.specs.Int.{w32}
use Rattle.language.specs.Lists.{front_written}
use Rattle.language.specs.Numbers.{residue}

-- the n numbers zs stand in ps, which was qs before them: each as its word, which is read as that number
pub record Printed (qs ps : List ℕ) (n : ℕ) (zs : List ℤ) : Type 0 where
  pub count : n ≡ length zs
  pub room : n ≤ length qs
  pub places : ps ≡ front_written (map residue zs) qs
  pub read : map (to_z w32) (map residue zs) ≡ zs

pub none_printed : (qs : List ℕ) → Printed qs qs 0 []
unfolding front_written
none_printed qs = record { count = refl; room = omega arith; places = refl; read = refl }

map_one : {A B : Type 0} (g : A → B) (xs : List A) (x : A) → map g (xs ++ (x ∷ [])) ≡ map g xs ++ (g x ∷ [])
map_one g [] x = refl
map_one g (y ∷ xs) x = ap (λ l. g y ∷ l) (map_one g xs x)

module _ {qs ps : List ℕ} {n : ℕ} {zs : List ℤ} (P : Printed qs ps n zs) where
  words : length (map residue zs) ≡ n
  words = length-map zs residue ∙ sym P.count

  pub front_words : take n ps ≡ map residue zs
  unfolding front_written
  front_words = rw P.places (take_at (map residue zs) (drop (length (map residue zs)) qs) n words)

  pub front_numbers : map (to_z w32) (take n ps) ≡ zs
  front_numbers = ap (map (to_z w32)) front_words ∙ P.read

  pub behind : drop n ps ≡ drop n qs
  unfolding front_written
  behind = rw P.places (drop_at (map residue zs) (drop (length (map residue zs)) qs) n words ∙ ap (λ k. drop k qs) words)

  pub same_words : length ps ≡ length qs
  unfolding front_written
  same_words = rw P.places (length-append (map residue zs) (drop (length (map residue zs)) qs) ∙ (rw (words, length-drop n qs) (omega (arith, P.room))))

  -- one number more
  later_words : drop (suc n) ps ≡ drop (suc n) qs
  later_words = one ps ∙ ap (drop 1) behind ∙ sym (one qs)
    where
      one : (xs : List ℕ) → drop (suc n) xs ≡ drop 1 (drop n xs)
      one xs = rw (← add-one n) (sym (drop-drop 1 n xs))

  more_words : n < length ps → (v : ℕ) (z : ℤ) → v ≡ residue z → set ps n v ≡ front_written (map residue (zs ++ (z ∷ []))) qs
  unfolding front_written
  more_words l v z e =
      set_split ps n v l ∙ (rw (front_words, later_words, e, map_one residue zs z, length-append (map residue zs) (residue z ∷ []), words, add-one n)
      (sym (append_snoc (map residue zs) (residue z) (drop (suc n) qs))))

  pub printed_more : n < length ps → (v : ℕ) (z : ℤ) → v ≡ residue z → to_z w32 v ≡ z → Printed qs (set ps n v) (suc n) (zs ++ (z ∷ []))
  printed_more l v z e t = record {
    count = ap suc P.count ∙ sym (add-one (length zs)) ∙ sym (length-append zs (z ∷ []));
    room = omega (arith, same_words);
    places = more_words l v z e;
    read = ap (map (to_z w32)) (map_one residue zs z) ∙ map_one (to_z w32) (map residue zs) (residue z) ∙ (rw (P.read, ← e, t));
  }
