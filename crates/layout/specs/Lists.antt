-- Laws of the lists that number 2 goes through: runs of numbers, tests of all and counts (passed on from `laws`), and the references of
-- several records.
use Rattle.std.specs.Prelude.{ℕ, suc, ◌+◌, ◌≡◌, refl, List, [], ◌∷◌, ◌++◌}
use Rattle.std.proofs.Common.{ap, ◌∙◌, append_assoc}
use Rattle.language.specs.Lists.{up_from, count}
use Rattle.language.specs.File.{references_of, references}
pub use Rattle.laws.specs.Numbers.{all_at, at_all, up_from_append}
unfoldable pub use Rattle.laws.specs.Counts.{hit, run}
pub use Rattle.laws.specs.Counts.{hit_same, hit_other, count_cons, count_append, count_none, run_zero, run_suc, run_add, run_in_law}

-- ---- the references of several records
pub references_of_append : (W : ℕ → ℕ → ℕ) (n : ℕ) (xs ys : List ℕ)
    → references_of W n (xs ++ ys) ≡ references_of W n xs ++ references_of W n ys
unfolding references_of
references_of_append W n [] ys = refl
references_of_append W n (x ∷ xs) ys = rw (references_of_append W n xs ys, append_assoc)

-- how often the m records from b on refer to j
unfoldable pub hits : (ℕ → ℕ → ℕ) → ℕ → ℕ → ℕ → ℕ → ℕ
hits W n b m j = count j (references_of W n (up_from b m))

pub hits_add : (W : ℕ → ℕ → ℕ) (n m l b c j : ℕ) → b + m ≡ c → hits W n b (m + l) j ≡ hits W n b m j + hits W n c l j
unfolding hits
hits_add W n m l b c j e =
    ap (λ xs. count j (references_of W n xs)) (up_from_append m l b c e)
    ∙ ap (count j) (references_of_append W n (up_from b m) (up_from c l))
    ∙ count_append j (references_of W n (up_from b m)) (references_of W n (up_from c l))

pub hits_suc : (W : ℕ → ℕ → ℕ) (n m b j : ℕ) → hits W n b (suc m) j ≡ count j (references W n b) + hits W n (suc b) m j
unfolding hits references_of up_from
hits_suc W n m b j = count_append j (references W n b) (references_of W n (up_from (suc b) m))

pub hits_zero : (W : ℕ → ℕ → ℕ) (n b j : ℕ) → hits W n b 0 j ≡ 0
unfolding hits references_of up_from count
hits_zero W n b j = refl
