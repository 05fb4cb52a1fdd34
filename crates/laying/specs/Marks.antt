-- Creates and removes as records: one for each number of a list, in its order.
use Rattle.std.specs.Prelude.{ℕ, suc, ◌+◌, List, [], ◌∷◌, ◌++◌, ◌≡◌, refl, length}
use Rattle.std.proofs.Common.{arith, ap, ap₂, sym, ◌∙◌}
use Rattle.language.specs.File.{Kind, row}
use Rattle.language.specs.Tree.{Tree, node, plain}
use Rattle.language.specs.Layout.{size_words, reference, word_list, lay, lay_words}
use Rattle.language.specs.Records.{zeros}
use Rattle.writer.specs.Laid.{linked}
use Rattle.laying.specs.Lays.{Lays, lays_then, GoesOn}

-- more records of that kind follow, or the chain goes on where `on` is not 0
unfoldable pub more_of : List ℕ → ℕ → ℕ
more_of [] on = on
more_of (x ∷ xs) on = 1

unfoldable pub mark_words : ℕ → ℕ → ℕ → List ℕ
mark_words k next x = k ∷ next ∷ x ∷ 0 ∷ 0 ∷ 0 ∷ 0 ∷ 0 ∷ []

-- from record c on
unfoldable pub marks : ℕ → List ℕ → ℕ → ℕ → List (List ℕ)
marks k [] on c = []
marks k (x ∷ xs) on c = mark_words k (linked (more_of xs on) (suc c)) x ∷ marks k xs on (suc c)

-- ---- as a tree in front of another
unfoldable pub marks_tree : Kind → List ℕ → Tree → Tree
marks_tree k [] t = t
marks_tree k (x ∷ xs) t = node k (marks_tree k xs t) (plain x (zeros 5))

pub marks_goes : (k : Kind) (xs : List ℕ) (on : ℕ) (t : Tree) → GoesOn on t → GoesOn (more_of xs on) (marks_tree k xs t)
unfolding more_of marks_tree linked reference
marks_goes k [] on t g c = g c
marks_goes k (x ∷ xs) on t g c = refl

pub marks_lay : (k : Kind) (xs : List ℕ) (on : ℕ) (t : Tree) (c : ℕ) → GoesOn on t
    → lay (marks_tree k xs t) c ≡ marks (row k).kind xs on c ++ lay t (c + length (marks (row k).kind xs on c))
unfolding marks_tree marks mark_words lay lay_words word_list size_words zeros
marks_lay k [] on t c g = let z : c ≡ c + 0 = omega arith in ap (lay t) z
marks_lay k (x ∷ xs) on t c g =
    let z : suc c + 0 ≡ suc c = omega arith in
    let n : suc c + length (marks (row k).kind xs on (suc c)) ≡ c + suc (length (marks (row k).kind xs on (suc c))) = omega arith in
    rw z (ap₂ ◌∷◌ (ap (λ w. (row k).kind ∷ w ∷ x ∷ 0 ∷ 0 ∷ 0 ∷ 0 ∷ 0 ∷ []) (sym (marks_goes k xs on t g (suc c))))
    (marks_lay k xs on t (suc c) g ∙ ap (λ m. marks (row k).kind xs on (suc c) ++ lay t m) n))

-- laid, and then what follows
pub lays_marks : {a b d : List ℕ} {c m r : ℕ} (k : Kind) (xs : List ℕ) (on : ℕ) (t : Tree) → GoesOn on t → Lays a b c m (marks (row k).kind xs on c) → Lays b d m r (lay t m)
    → Lays a d c r (lay (marks_tree k xs t) c)
lays_marks {c = c} k xs on t g p q = rw (marks_lay k xs on t c g) (lays_then (marks (row k).kind xs on c) (lay t) p q)
