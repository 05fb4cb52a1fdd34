-- What a word says: a number as its 32 bits, a cell as its place, a constant as its functor above all places.
use Prim.Native.Nat.{ℕ, zero, suc, ◌+◌, ◌≤◌, ◌<◌}
use Rattle.std.specs.Prelude.{◌≡◌, refl, true, length}
use Rattle.std.proofs.Math.Path.{sym}
use Rattle.std.proofs.Common.{◌∙◌, arith, add-one, length-append, to_z}
use mathlib.Core.List.{List, [], ◌∷◌, map}
use Rattle.std.specs.Int.{w32}
use Rattle.sets.specs.Members.{in_list, cons_here, cons_later}
use Rattle.language.specs.Lists.{put}
use Rattle.language.specs.Numbers.{residue}
use Rattle.language.specs.Program.{Four, four_words, trim_onto, trimmed, arguments_of}
use Rattle.language.specs.Frames.{Value, numeral, cell_at, constant}
use Rattle.language.specs.AcceptedRun.{RegionCell, Memory, with_cell}
use Rattle.memory.specs.Memory.{constants_from}
use Rattle.laws.specs.Choices.{put_same, put_other}

-- word w stands for a value; n cells are made so far, and `place` has the place of each by its number
unfoldable pub StandsFor : (ℕ → ℕ) → ℕ → ℕ → Value → Type 0
StandsFor place n w (numeral z) = (w ≡ residue z) × (to_z w32 w ≡ z)
StandsFor place n w (cell_at j) = (w ≡ place j) × (j < n)
StandsFor place n w (constant k) = w ≡ constants_from + k

-- the first words stand for the values in turn
unfoldable pub StandEach : (ℕ → ℕ) → ℕ → List ℕ → List Value → Type 0
StandEach place n ws [] = Unit {0}
StandEach place n [] (v ∷ vs) = ⊥
StandEach place n (w ∷ ws) (v ∷ vs) = StandsFor place n w v × StandEach place n ws vs

-- ---- when more cells are made, words stand for what they stood for
module _ (place place' : ℕ → ℕ) (n n' : ℕ) (e : (j : ℕ) → j < n → place' j ≡ place j) (l : n ≤ n') where
  pub stands_more : (w : ℕ) (v : Value) → StandsFor place n w v → StandsFor place' n' w v
  unfolding StandsFor
  stands_more w (numeral z) s = s
  stands_more w (cell_at j) s = (s.0 ∙ sym (e j s.1), omega (arith, s.1))
  stands_more w (constant k) s = s

  pub each_more : (ws : List ℕ) (vs : List Value) → StandEach place n ws vs → StandEach place' n' ws vs
  unfolding StandEach
  each_more ws [] s = tt
  each_more [] (v ∷ vs) s = s
  each_more (w ∷ ws) (v ∷ vs) s = (stands_more w v s.0, each_more ws vs s.1)

-- ---- one more cell c, at place x
pub built_length : (M : Memory) (c : RegionCell) → length (with_cell M c).cells ≡ suc (length M.cells)
unfolding with_cell
built_length M c = length-append M.cells (c ∷ []) ∙ add-one (length M.cells)

module _ (M : Memory) (c : RegionCell) (place : ℕ → ℕ) (x : ℕ) where
  built_place : (j : ℕ) → j < length M.cells → put place (length M.cells) x j ≡ place j
  built_place j l = put_other place (length M.cells) x j (λ z. omega arith)

  pub each_built : (ws : List ℕ) (vs : List Value) → StandEach place (length M.cells) ws vs
      → StandEach (put place (length M.cells) x) (length (with_cell M c).cells) ws vs
  each_built = each_more place (put place (length M.cells) x) (length M.cells) (length (with_cell M c).cells) built_place (omega (arith, built_length M c))

  -- the place stands for the new cell
  pub stands_new : StandsFor (put place (length M.cells) x) (length (with_cell M c).cells) x (cell_at (length M.cells))
  unfolding StandsFor
  stands_new = (sym (put_same place (length M.cells) x), omega (arith, built_length M c))

-- ---- the words of a construct's variables stand for its arguments' values if each argument's does
module _ (place : ℕ → ℕ) (n : ℕ) (word : ℕ → ℕ) (values : ℕ → Value) where
  each_onto : (y : ℕ) (ys zs : List ℕ) → ((x : ℕ) → in_list x (trim_onto y zs) ≡ true → StandsFor place n (word x) (values x))
      → (((x : ℕ) → in_list x zs ≡ true → StandsFor place n (word x) (values x)) → StandEach place n (map word ys) (map values zs))
      → StandEach place n (map word (y ∷ ys)) (map values (trim_onto y zs))
  unfolding trim_onto StandEach
  each_onto zero ys [] h rest = tt
  each_onto zero ys (z ∷ zs) h rest =
      (h 0 (cons_here 0 0 (z ∷ zs) refl), rest (λ x i. h x (cons_later x 0 (z ∷ zs) i)))
  each_onto (suc y) ys zs h rest =
      (h (suc y) (cons_here (suc y) (suc y) zs refl), rest (λ x i. h x (cons_later x (suc y) zs i)))

  each_trimmed : (ys : List ℕ) → ((x : ℕ) → in_list x (trimmed ys) ≡ true → StandsFor place n (word x) (values x))
      → StandEach place n (map word ys) (map values (trimmed ys))
  unfolding trimmed StandEach
  each_trimmed [] h = tt
  each_trimmed (y ∷ ys) h = each_onto y ys (trimmed ys) h (each_trimmed ys)

  pub each_argument : (ws : Four) → ((x : ℕ) → in_list x (arguments_of ws) ≡ true → StandsFor place n (word x) (values x))
      → StandEach place n (map word (four_words ws)) (map values (arguments_of ws))
  unfolding arguments_of
  each_argument ws h = each_trimmed (four_words ws) h
