-- Laws of `specs/Found` that only proofs cite.
use Prim.Native.Nat.{ℕ, ◌+◌, ◌≤◌, ◌<◌}
use native.Mathlib.Decide.{ℕ_discrete}
use native.Mathlib.Omega.{arith}
use mathlib.Core.Bool.{true}
use mathlib.Core.List.{List}
use mathlib.Core.Path.{◌≡◌, sym, ap, ◌∙◌}
use lib.ListN.{length, get_or, set, replicate, length-set, length-replicate}
use lib.Seq.{get_or-set_same, get_or-set_other}
use Rattle.language.specs.Format.{entry_procedure, max_procedures}
use Rattle.language.specs.CallChains.{CallChain}
use Rattle.language.specs.Typing.{typing_ok}
use Rattle.language.specs.Answers.{program}
use Rattle.laws.specs.Typed.{procedures_count}
use Rattle.records.specs.Blank.{blank_zero}
use Rattle.call_graph.specs.Chains.{chain_start}
use Rattle.called.specs.Marks.{Marked}
use Rattle.called.proofs.MarksLaws.{unmarked_blank, unmarked_some, unmarked_set}
use Rattle.called.specs.Found.{Found, More}

-- ---- one procedure more
module _ {f marks order : List ℕ} {n : ℕ} (h : Found f marks order n) (few : length (program f).procedures ≤ max_procedures) {q : ℕ}
    (l : q < length (program f).procedures) (e : get_or marks q 0 ≡ 0) where
  pub room : n < max_procedures
  room = omega (arith, h.counted, unmarked_some marks q (length (program f).procedures) l e)

  here : get_or (set marks q 1) q 0 ≡ 1
  here = get_or-set_same marks q 1 0 (omega (arith, h.marks_long))

  set_kept : (r : ℕ) → Marked marks r → Marked (set marks q 1) r
  set_kept r m z =
      elim (ℕ_discrete r q) [
        | yes y ↦ omega (arith, ap (λ k. get_or (set marks q 1) k 0) y, here)
        | no y ↦ m (sym (get_or-set_other marks q r 1 0 y) ∙ z)
      ]

  order_kept : (k : ℕ) → k < n → get_or (set order n q) k 0 ≡ get_or order k 0
  order_kept k b = get_or-set_other order n k q 0 (λ y. omega arith)

  order_last : get_or (set order n q) n 0 ≡ q
  order_last = get_or-set_same order n q 0 (omega (arith, h.order_long, room))

  pub one_more : More marks order n (set marks q 1) (set order n q) (n + 1)
  one_more = record { most = omega arith; marked = set_kept; ordered = order_kept }

  pub now_marked : Marked (set marks q 1) q
  now_marked z = omega (arith, here)

  module _ (c : CallChain (program f) q) where
    listed_more : (r : ℕ) → Marked (set marks q 1) r → (k : ℕ) × (k < n + 1) × (get_or (set order n q) k 0 ≡ r)
    listed_more r m =
        elim (ℕ_discrete r q) [
          | yes y ↦ (n, omega arith, order_last ∙ sym y)
          | no y ↦ (let s = h.listed r (λ z. m (get_or-set_other marks q r 1 0 y ∙ z)) in (s.0, omega arith, order_kept s.0 s.1 ∙ s.2))
        ]

    -- what holds of those before and of q
    each : (Holds : ℕ → Type 0) → ((k : ℕ) → k < n → Holds (get_or order k 0)) → Holds q → (k : ℕ) → k < n + 1 → Holds (get_or (set order n q) k 0)
    each Holds a b k o =
        elim (ℕ_discrete k n) [
          | yes y ↦ rw (y, order_last) b
          | no y ↦ rw (order_kept k (omega (arith, y))) (a k (omega (arith, y)))
        ]

    pub found_more : Found f (set marks q 1) (set order n q) (n + 1)
    found_more = record {
      marks_long = length-set marks q 1 ∙ h.marks_long;
      order_long = length-set order n q ∙ h.order_long;
      counted = omega (arith, h.counted, unmarked_set marks q (length (program f).procedures) l (omega (arith, h.marks_long)) e);
      entry = set_kept entry_procedure h.entry;
      listed = listed_more;
      below = each (λ r. r < length (program f).procedures) h.below l;
      chained = each (CallChain (program f)) h.chained c;
    }

-- ---- the entry alone
pub found_entry : {f marks order : List ℕ} → typing_ok (program f) ≡ true → marks ≡ replicate max_procedures 0 → order ≡ replicate max_procedures 0
    → Found f (set marks entry_procedure 1) order 1
found_entry {f} {marks} {order} t a b =
    record {
      marks_long = length-set marks entry_procedure 1 ∙ long;
      order_long = ap length b ∙ length-replicate {A = ℕ} max_procedures 0;
      counted = omega (arith, some, unmarked_set marks entry_procedure N some.0 (omega (arith, long)) (blank entry_procedure), unmarked_blank marks blank N);
      entry = λ z. omega (arith, get_or-set_same marks entry_procedure 1 0 (omega (arith, long)));
      listed = λ q m. (0, omega arith, first ∙ only q m);
      below = λ k l. (let z : k ≡ 0 = omega arith in rw (z, first) some.0);
      chained = λ k l. (let z : k ≡ 0 = omega arith in rw (z, first) (chain_start (program f)));
    }
  where
    N : ℕ
    N = length (program f).procedures

    some : (1 ≤ N) × (N ≤ max_procedures)
    some = procedures_count (program f) t

    long : length marks ≡ max_procedures
    long = ap length a ∙ length-replicate {A = ℕ} max_procedures 0

    blank : (q : ℕ) → get_or marks q 0 ≡ 0
    blank q = ap (λ (u : List ℕ). get_or u q 0) a ∙ blank_zero max_procedures q

    first : get_or order 0 0 ≡ 0
    first = ap (λ (u : List ℕ). get_or u 0 0) b

    only : (q : ℕ) → Marked (set marks entry_procedure 1) q → 0 ≡ q
    only q m = elim (ℕ_discrete q 0) [ yes z ↦ sym z | no z ↦ absurd (m (get_or-set_other marks entry_procedure q 1 0 z ∙ blank q)) ]
