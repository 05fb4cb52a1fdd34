-- The plan by its four sorts: a store in one of them leaves the others as they are.
use Rattle.std.specs.Prelude.{ℕ, ◌+◌, ◌-◌, ◌≤◌, ◌<◌, List, ◌++◌, ◌≡◌, length, get_or, set, take, drop, replicate}
use Rattle.std.proofs.Common.{arith, sym, ◌∙◌, drop-set-lt, drop_at, take_at}
use Rattle.std.proofs.Math.Path.{ap}
use Rattle.std.proofs.lemmas.List.{length-replicate, replicate-append-replicate, drop-set-add}
use Rattle.std.proofs.Math.Seq.{take-set-lt, take-set-le, get_or-take, get_or-drop, drop-append-add}
use Rattle.language.specs.Format.{max_records}

-- the words for the records that start at place s
unfoldable pub part : ℕ → List ℕ → List ℕ
part s t = take max_records (drop s t)

module _ (s : ℕ) (t : List ℕ) where
  pub part_here : (j v : ℕ) → j < max_records → part s (set t (s + j) v) ≡ set (part s t) j v
  unfolding part
  part_here j v l = ap (take max_records) (drop-set-add s t j v) ∙ take-set-lt max_records (drop s t) j v l

  pub part_before : (p v : ℕ) → p < s → part s (set t p v) ≡ part s t
  unfolding part
  part_before p v l = ap (take max_records) (drop-set-lt s t p v l)

  behind_by : (k v : ℕ) → max_records ≤ k → part s (set t (s + k) v) ≡ part s t
  unfolding part
  behind_by k v l = ap (take max_records) (drop-set-add s t k v) ∙ take-set-le max_records (drop s t) k v l

  pub part_behind : (p v : ℕ) → s + max_records ≤ p → part s (set t p v) ≡ part s t
  part_behind p v l =
      let e : p ≡ s + (p - s) = omega arith in
      ap (λ (q : ℕ). part s (set t q v)) e ∙ behind_by (p - s) v (omega arith)

  pub part_read : (j : ℕ) → j < max_records → get_or (part s t) j 0 ≡ get_or t (s + j) 0
  unfolding part
  part_read j l = get_or-take max_records (drop s t) j 0 l ∙ get_or-drop s t j 0

-- behind a first list
pub part_past : (a b : List ℕ) (k : ℕ) {s : ℕ} → s ≡ length a + k → part s (a ++ b) ≡ part k b
unfolding part
part_past a b k e = rw e (ap (take max_records) (drop-append-add a b k))

-- in a table of zeros
zeros : (s k r : ℕ) → take k (drop s (replicate s 0 ++ (replicate k 0 ++ replicate r 0))) ≡ replicate {A = ℕ} k 0
zeros s k r =
    let none : ℕ = 0 in
    ap (take k) (drop_at (replicate s none) (replicate k none ++ replicate r none) s (length-replicate s none))
    ∙ take_at (replicate k none) (replicate r none) k (length-replicate k none)

three : (s k r n : ℕ) → s + k + r ≡ n → replicate {A = ℕ} n 0 ≡ replicate s 0 ++ (replicate k 0 ++ replicate r 0)
three s k r n e =
    let d : s + (k + r) ≡ n = omega arith in
    ap (λ (m : ℕ). replicate m 0) (sym d) ∙ sym (replicate-append-replicate s (k + r) 0) ∙ ap (λ (x : List ℕ). replicate s 0 ++ x) (sym (replicate-append-replicate k r 0))

part_of_zeros : (s k n : ℕ) → s + k ≤ n → take k (drop s (replicate n 0)) ≡ replicate {A = ℕ} k 0
part_of_zeros s k n l = ap (λ (x : List ℕ). take k (drop s x)) (three s k (n - (s + k)) n (omega arith)) ∙ zeros s k (n - (s + k))

pub part_zeros : (s n : ℕ) {t : List ℕ} → t ≡ replicate n 0 → s + max_records ≤ n → part s t ≡ replicate max_records 0
unfolding part
part_zeros s n e l = ap (λ (x : List ℕ). take max_records (drop s x)) e ∙ part_of_zeros s max_records n l
