-- Records whose words lead to what was laid behind them: a switch, an if, a try, an arm, a procedure, the header.
use Rattle.std.specs.Prelude.{ℕ, zero, suc, ◌+◌, ◌≤◌, ◌<◌, List, [], ◌∷◌, length}
use Rattle.std.proofs.Common.{arith}
use Rattle.std.proofs.Math.Decide.{dec_lt}
use Rattle.std.proofs.Math.Path.{ap₂, sym}
use Rattle.language.specs.Format.{max_records, switch_kind, if_kind, try_kind, arm_kind, procedure_kind, next_word, goal_x, if_y, if_z, term_functor, term_arguments}
use Rattle.language.specs.File.{k_switch, k_if, k_try, k_procedure, Kind, k_arm, k_goal, row, word}
use Rattle.language.specs.Tree.{Tree, node, no_words, plain, leads}
use Rattle.language.specs.Layout.{word_list, lay, lay_words}
use Rattle.language.specs.Records.{zeros, four_plain}
use Rattle.chains.specs.Layout.{all_rows}
use Rattle.chains.specs.Parts.{four_at}
use Rattle.writer.specs.Skips.{Behind}
use Rattle.laying.specs.Lays.{Lays, lays_none, Stored, GoesOn, head_of, lays_number, lays_no_words, lays_leads, lays_head, lays_front, RefersTo, Spans, lays_span}

-- what ends below 4,096 starts there
pub lays_low : {a b : List ℕ} {c r : ℕ} {rs : List (List ℕ)} → Lays a b c r rs → r ≤ max_records → c ≤ max_records
lays_low {c = c} {r = r} {rs = rs} L l = go (dec_lt max_records (c + length rs))
  where
    go : Dec (max_records < c + length rs) → c ≤ max_records
    go (yes h) = absurd (omega (arith, L.place.over h))
    go (no h) = omega arith

pub lays_zeros : (a : List ℕ) (c : ℕ) (n : ℕ) → Lays a a c c (lay_words (zeros n) c)
unfolding zeros
lays_zeros a c zero = lays_no_words a c
lays_zeros a c (suc n) = lays_number 0 (zeros n) (lays_zeros a c n)

-- the functor and the arguments of a construct or an arm
abbrev pub term_words : List ℕ → ℕ → List ℕ
term_words f i = word f i term_functor ∷ word f i term_arguments ∷ word f i (term_arguments + 1) ∷ word f i (term_arguments + 2) ∷ word f i (term_arguments + 3) ∷ []

module _ (f : List ℕ) (i : ℕ) (a b : List ℕ) (c : ℕ) where
  -- a switch whose arms were laid from s to e
  pub record SwitchStored (s e : ℕ) : Type 0 where
    pub next : ℕ
    pub link : ℕ
    pub refers : RefersTo (word f i next_word) e next
    pub spans : Spans s e link
    pub stored : Stored a b c (switch_kind ∷ next ∷ word f i goal_x ∷ link ∷ 0 ∷ 0 ∷ 0 ∷ 0 ∷ [])

  -- an if whose parts were laid from s to m and from m to e
  pub record IfStored (s m e : ℕ) : Type 0 where
    pub next : ℕ
    pub yes_link : ℕ
    pub no_link : ℕ
    pub refers : RefersTo (word f i next_word) e next
    pub yes_spans : Spans s m yes_link
    pub no_spans : Spans m e no_link
    pub stored : Stored a b c (if_kind ∷ next ∷ word f i if_y ∷ word f i if_z ∷ yes_link ∷ no_link ∷ 0 ∷ 0 ∷ [])

  -- an arm whose goals were laid from s to e
  pub record ArmStored (s e : ℕ) : Type 0 where
    pub next : ℕ
    pub link : ℕ
    pub refers : RefersTo (word f i next_word) e next
    pub spans : Spans s e link
    pub stored : Stored a b c (arm_kind ∷ next ∷ link ∷ term_words f i)

  -- a record of kind k with three parts that were laid from s to m, to n, to e
  pub record ThreeStored (k s m n e : ℕ) : Type 0 where
    pub next : ℕ
    pub first_link : ℕ
    pub second_link : ℕ
    pub third_link : ℕ
    pub refers : RefersTo (word f i next_word) e next
    pub first_spans : Spans s m first_link
    pub second_spans : Spans m n second_link
    pub third_spans : Spans n e third_link
    pub stored : Stored a b c (k ∷ next ∷ first_link ∷ second_link ∷ third_link ∷ 0 ∷ 0 ∷ 0 ∷ [])

  -- a procedure's are its variables, regions and goals; a try's its condition, then and else part
  abbrev pub ProcedureStored : ℕ → ℕ → ℕ → ℕ → Type 0
  ProcedureStored s m n e = ThreeStored procedure_kind s m n e

  abbrev pub TryStored : ℕ → ℕ → ℕ → ℕ → Type 0
  TryStored s m n e = ThreeStored try_kind s m n e

-- ---- laid
module _ {f : List ℕ} {i : ℕ} {a b d : List ℕ} {c s e : ℕ} (B : Behind c 1 s) where
  pub switch_head : (t : Tree) → Lays a b s e (lay t s) → SwitchStored f i b d c s e
      → Lays a d c e (head_of (k_goal k_switch) (word f i next_word) (plain (word f i goal_x) (leads t (zeros 4))) c)
  unfolding all_rows word_list zeros
  switch_head t L H =
      lays_head (k_goal k_switch) (word f i next_word) (plain (word f i goal_x) (leads t (zeros 4))) B
      (lays_number (word f i goal_x) (leads t (zeros 4)) (lays_leads t (zeros 4) L (lays_zeros b e 4))) H.stored
      (λ l n. ap₂ (λ u v. switch_kind ∷ u ∷ word f i goal_x ∷ v ∷ 0 ∷ 0 ∷ 0 ∷ 0 ∷ []) (H.refers.is l) (lays_span t H.spans L l).0)

module _ {f : List ℕ} {i : ℕ} {a b d g : List ℕ} {c s m e : ℕ} (B : Behind c 1 s) where
  pub if_head : (t u : Tree) → Lays a b s m (lay t s) → Lays b d m e (lay u m) → IfStored f i d g c s m e
      → Lays a g c e (head_of (k_goal k_if) (word f i next_word) (plain (word f i if_y) (plain (word f i if_z) (leads t (leads u (zeros 2))))) c)
  unfolding all_rows word_list zeros
  if_head t u L K H =
      lays_head (k_goal k_if) (word f i next_word) (plain (word f i if_y) (plain (word f i if_z) (leads t (leads u (zeros 2))))) B
      (lays_number (word f i if_y) (plain (word f i if_z) (leads t (leads u (zeros 2))))
      (lays_number (word f i if_z) (leads t (leads u (zeros 2))) (lays_leads t (leads u (zeros 2)) L (lays_leads u (zeros 2) K (lays_zeros d e 2))))) H.stored
      (λ l n.
      let p = lays_span t H.yes_spans L (lays_low K l) in
      let q = lays_span u H.no_spans K l in
      rw (sym p.1) (ap₂ (λ v w. if_kind ∷ v ∷ word f i if_y ∷ word f i if_z ∷ w) (H.refers.is l) (ap₂ (λ v w. v ∷ w ∷ 0 ∷ 0 ∷ []) p.0 q.0)))

  -- an arm, stored when the later arms are laid
  pub arm_front : (t u : Tree) → GoesOn (word f i next_word) u → Lays a b s m (lay t s) → Lays b d m e (lay u m) → ArmStored f i d g c s m
      → Lays a g c e (lay (node k_arm u (leads t (plain (word f i term_functor) (four_plain (four_at f i) no_words)))) c)
  unfolding all_rows word_list four_plain lay_words
  arm_front t u o L K H =
      lays_front k_arm (word f i next_word) u (leads t (plain (word f i term_functor) (four_plain (four_at f i) no_words))) o B
      (lays_leads t (plain (word f i term_functor) (four_plain (four_at f i) no_words)) L (lays_none b m)) K H.stored
      (λ l n. ap₂ (λ x y. arm_kind ∷ x ∷ y ∷ term_words f i) (H.refers.is l) (lays_span t H.spans L l).0)

module _ {f : List ℕ} {i : ℕ} {a b d g h : List ℕ} {c s m n e : ℕ} (B : Behind c 1 s) where
  three_head : (k : Kind) (t u v : Tree) → Lays a b s m (lay t s) → Lays b d m n (lay u m) → Lays d g n e (lay v n) → ThreeStored f i g h c (row k).kind s m n e
      → Lays a h c e (head_of k (word f i next_word) (leads t (leads u (leads v (zeros 3)))) c)
  unfolding word_list zeros
  three_head k t u v L K J H =
      lays_head k (word f i next_word) (leads t (leads u (leads v (zeros 3)))) B
      (lays_leads t (leads u (leads v (zeros 3))) L (lays_leads u (leads v (zeros 3)) K (lays_leads v (zeros 3) J (lays_zeros g e 3)))) H.stored
      (λ l o.
      let z = lays_low J l in
      let p = lays_span t H.first_spans L (lays_low K z) in
      let q = lays_span u H.second_spans K z in
      let r = lays_span v H.third_spans J l in
      rw (sym p.1, sym q.1)
      (ap₂ (λ x w. (row k).kind ∷ x ∷ w) (H.refers.is l)
      (ap₂ (λ x w. x ∷ w) p.0 (ap₂ (λ x y. x ∷ y ∷ 0 ∷ 0 ∷ 0 ∷ []) q.0 r.0))))

  module _ (t u v : Tree) (L : Lays a b s m (lay t s)) (K : Lays b d m n (lay u m)) (J : Lays d g n e (lay v n)) where
    pub procedure_head_law : ProcedureStored f i g h c s m n e → Lays a h c e (head_of k_procedure (word f i next_word) (leads t (leads u (leads v (zeros 3)))) c)
    unfolding all_rows
    procedure_head_law H = three_head k_procedure t u v L K J H

    pub try_head : TryStored f i g h c s m n e → Lays a h c e (head_of (k_goal k_try) (word f i next_word) (leads t (leads u (leads v (zeros 3)))) c)
    unfolding all_rows
    try_head H = three_head (k_goal k_try) t u v L K J H
