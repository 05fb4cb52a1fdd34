-- Laws of `specs/Chains` that only proofs cite.
use Prim.Native.Nat.{ℕ, zero, suc}
use native.Mathlib.Omega.{arith}
use mathlib.Core.List.{List, ◌∷◌, []}
use mathlib.Core.Path.{◌≡◌, refl, ap, sym, ◌∙◌}
use Rattle.sets.specs.Sets.{◌∖◌}
use Rattle.sets.specs.Members.{members}
use Rattle.sets.specs.declared.Set.{Set}
use Rattle.language.specs.Format.{create_kind, remove_kind, kind_word, next_word}
use Rattle.language.specs.File.{k_create, k_remove, Kind, k_goal, goals, kind_of, word}
use Rattle.language.specs.Tree.{Tree, end, node, Words}
use Rattle.language.specs.Layout.{reference, lay}
use Rattle.language.specs.Records.{step_tree, goals_tree, goal_tree}
use Rattle.language.specs.Program.{Step, literal, sum, assign, construct, call, print, create, remove, test, Goals, done, ◌then◌, Goal, step, switch, if_less, try, ◌before◌, Signature, Program}
use Rattle.language.specs.Lifetimes.{wanted, live}
use Rattle.language.specs.Annotation.{creates, removes, created_for}
use Rattle.placement.specs.Local.{removes_to, held_past, local_goals, local_goal}
use Rattle.chains.specs.Layout.{all_rows}
use Rattle.chains.specs.Formed.{Formed, Stands, goals_at, goal_at, goals_none}
use Rattle.chains.specs.Is.{goals_step}
use Rattle.writer.specs.Laid.{linked}
use Rattle.writer.specs.Ready.{tree_at, words_at, front_to, tree_is}
use Rattle.writer.specs.Trees.{goals_tree_law}
use Rattle.laying.specs.Lays.{Lays, GoesOn, head_of, lays_node}
use Rattle.laying.specs.Marks.{more_of, marks, marks_tree, marks_goes, lays_marks}
use Rattle.insertion.specs.Chains.{Fronts, onto}

pub onto_goals : (gs hs : Goals) → goals_tree (gs before hs) ≡ onto gs (goals_tree hs)
unfolding onto goals_tree ◌before◌
onto_goals done hs = refl
onto_goals (g then gs) hs = ap (goal_tree g) (onto_goals gs hs)

onto_before : (gs hs : Goals) (t : Tree) → onto (gs before hs) t ≡ onto gs (onto hs t)
unfolding onto ◌before◌
onto_before done hs t = refl
onto_before (g then gs) hs t = ap (goal_tree g) (onto_before gs hs t)

-- a goal that is one node whatever follows it
pub fronts_head : {a b : List ℕ} {c r : ℕ} (g : Goal) (k : Kind) (on : ℕ) (ws : Words) → ((t : Tree) → goal_tree g t ≡ node k t ws)
    → Lays a b c r (head_of k on ws c) → Fronts a b c r (g then done) on
unfolding onto
fronts_head {c = c} g k on ws e p = record { same = p.same; joined = λ t o d s q. rw (e t) (lays_node k on t ws o p q) }

-- creates and removes
creates_tree : (xs : List ℕ) (t : Tree) → onto (creates xs) t ≡ marks_tree (k_goal k_create) xs t
unfolding onto creates marks_tree goal_tree step_tree
creates_tree [] t = refl
creates_tree (x ∷ xs) t = ap (λ u. step_tree (create x) u) (creates_tree xs t)

removes_tree : (xs : List ℕ) (t : Tree) → onto (removes xs) t ≡ marks_tree (k_goal k_remove) xs t
unfolding onto removes marks_tree goal_tree step_tree
removes_tree [] t = refl
removes_tree (x ∷ xs) t = ap (λ u. step_tree (remove x) u) (removes_tree xs t)

module _ {a b : List ℕ} {c r : ℕ} (xs : List ℕ) (on : ℕ) where
  pub fronts_creates : Lays a b c r (marks create_kind xs on c) → Fronts a b c r (creates xs) on
  unfolding all_rows
  fronts_creates p = record { same = p.same; joined = λ t o d e q. rw (creates_tree xs t) (lays_marks (k_goal k_create) xs on t o p q) }

  pub fronts_removes : Lays a b c r (marks remove_kind xs on c) → Fronts a b c r (removes xs) on
  unfolding all_rows
  fronts_removes p = record { same = p.same; joined = λ t o d e q. rw (removes_tree xs t) (lays_marks (k_goal k_remove) xs on t o p q) }

-- one behind the other
pub fronts_then : {a b d : List ℕ} {c m r : ℕ} (gs hs : Goals) (mid on : ℕ) → ((t : Tree) → GoesOn on t → GoesOn mid (onto hs t)) → Fronts a b c m gs mid
    → Fronts b d m r hs on → Fronts a d c r (gs before hs) on
fronts_then {c = c} gs hs mid on g p q = record {
  same = q.same ∙ p.same;
  joined = λ t o e s L. rw (onto_before gs hs t) (p.joined (onto hs t) (g t o) e s (q.joined t o e s L));
}

-- and the rest of the chain behind them
pub fronts_rest : {a b d : List ℕ} {c m r : ℕ} (gs hs : Goals) (on : ℕ) → GoesOn on (goals_tree hs) → Fronts a b c m gs on → Lays b d m r (lay (goals_tree hs) m)
    → Lays a d c r (lay (goals_tree (gs before hs)) c)
fronts_rest {d = d} {r = r} gs hs on o p q = rw (onto_goals gs hs) (p.joined (goals_tree hs) o d r q)

-- ---- a goal's tree is one node in front of what follows it
unfoldable rehung : Tree → Tree → Tree
rehung end t = end
rehung (node k u ws) t = node k t ws

goal_rehung : (g : Goal) (u t : Tree) → rehung (goal_tree g u) t ≡ goal_tree g t
unfolding rehung goal_tree step_tree
goal_rehung (step (literal x v)) u t = refl
goal_rehung (step (sum x o y z)) u t = refl
goal_rehung (step (assign x y)) u t = refl
goal_rehung (step (construct x f ys)) u t = refl
goal_rehung (step (call q ys)) u t = refl
goal_rehung (step (print y)) u t = refl
goal_rehung (step (create r)) u t = refl
goal_rehung (step (remove r)) u t = refl
goal_rehung (step (test y z)) u t = refl
goal_rehung (switch x cs) u t = refl
goal_rehung (if_less y z a b) u t = refl
goal_rehung (try c a b) u t = refl

pub goal_goes : (g : Goal) (t : Tree) → GoesOn 1 (goal_tree g t)
unfolding goal_tree step_tree linked reference
goal_goes (step (literal x v)) t c = refl
goal_goes (step (sum x o y z)) t c = refl
goal_goes (step (assign x y)) t c = refl
goal_goes (step (construct x f ys)) t c = refl
goal_goes (step (call q ys)) t c = refl
goal_goes (step (print y)) t c = refl
goal_goes (step (create r)) t c = refl
goal_goes (step (remove r)) t c = refl
goal_goes (step (test y z)) t c = refl
goal_goes (switch x cs) t c = refl
goal_goes (if_less y z a b) t c = refl
goal_goes (try k a b) t c = refl

pub done_goes : GoesOn 0 (goals_tree done)
unfolding goals_tree linked reference
done_goes c = refl

-- a goal of the file, laid as it is
module _ {f : List ℕ} {i : ℕ} (F : Formed f) (st : Stands f goals i) (z : i ≡ 0 → ⊥) where
  here_node : {g : Goal} → goals_at f i ≡ g then goals_at f (word f i next_word) → (t : Tree) → goal_tree g t ≡ node (kind_of (word f i kind_word)) t (words_at f i)
  unfolding rehung goals_tree
  here_node {g} e t =
      let n : goal_tree g (goals_tree (goals_at f (word f i next_word))) ≡ node (kind_of (word f i kind_word)) (tree_at f (word f i next_word)) (words_at f i) =
      ap goals_tree (sym e) ∙ sym (goals_tree_law F st) ∙ tree_is F i (omega arith) st.below in
      sym (goal_rehung g _ t) ∙ ap (λ u. rehung u t) n

  pub fronts_copy : {a b : List ℕ} {c r : ℕ} {g : Goal} (on : ℕ) → goals_at f i ≡ g then goals_at f (word f i next_word) → Lays a b c r (front_to f i on c)
      → Fronts a b c r (g then done) on
  unfolding front_to head_of
  fronts_copy {g = g} on e p = fronts_head g (kind_of (word f i kind_word)) on (words_at f i) (here_node e) p

-- ---- the local placement
module _ (P : Program) (S : Signature) where
  -- a step: its creates, the step, its removes
  pub fronts_step : {a b d e : List ℕ} {c m n r : ℕ} (s : Step) (after : Set) {cs rs : Set} {mid next : ℕ} → cs ≡ created_for P S s after
      → rs ≡ held_past P S s after ∖ wanted S after → mid ≡ more_of (members rs) next → Lays a b c m (marks create_kind (members cs) 1 c)
      → Fronts b d m n (step s then done) mid → Lays d e n r (marks remove_kind (members rs) next n) → Fronts a e c r (local_goal P S (step s) after) next
  unfolding local_goal removes_to ◌before◌ onto
  fronts_step s after {cs} {rs} {mid} {next} p q o k l m =
      let R : Fronts _ _ _ _ (removes (members rs)) next = fronts_removes (members rs) next m in
      let G : Fronts _ _ _ _ (step s then removes (members rs)) next =
      fronts_then (step s then done) (removes (members rs)) mid next
      (λ t g. rw (o, removes_tree (members rs) t) (marks_goes (k_goal k_remove) (members rs) next t g)) l R in
      rw (sym p, sym q)
      (fronts_then (creates (members cs)) (step s then removes (members rs)) 1 next (λ t g. goal_goes (step s) _) (fronts_creates (members cs) 1 k) G)

  -- it has a goal where there was one
  created_goes : (xs : List ℕ) (g : Goal) (gs hs : Goals) → GoesOn 1 (goals_tree ((creates xs before g then gs) before hs))
  unfolding creates ◌before◌ goals_tree
  created_goes [] g gs hs = goal_goes g _
  created_goes (x ∷ xs) g gs hs = goal_goes (step (create x)) _

  local_goes : (g : Goal) (after : Set) (hs : Goals) → GoesOn 1 (goals_tree (local_goal P S g after before hs))
  unfolding local_goal ◌before◌ goals_tree goal_tree linked reference
  local_goes (step s) after hs c = created_goes (members (created_for P S s after)) (step s) _ hs c
  local_goes (switch x cs) after hs c = refl
  local_goes (if_less y z a b) after hs c = refl
  local_goes (try k a b) after hs c = refl

  pub chain_goes : {f : List ℕ} → Formed f → (w : ℕ) (after : Set) → Stands f goals w → GoesOn w (goals_tree (local_goals P S (goals_at f w) after))
  unfolding local_goals linked
  chain_goes {f} F zero after st c = rw (goals_none f refl) (done_goes c)
  chain_goes {f} F (suc w) after st c =
      rw (goals_step F st (λ e. omega arith) refl) (local_goes (goal_at f (suc w)) (live P (goals_at f (word f (suc w) 1)) after) _ c)

  -- the first goal of a chain, then the rest
  pub lays_first : {a b d : List ℕ} {c m r : ℕ} {gs hs : Goals} {g : Goal} (after : Set) (on : ℕ) → gs ≡ g then hs → GoesOn on (goals_tree (local_goals P S hs after))
      → Fronts a b c m (local_goal P S g (live P hs after)) on → Lays b d m r (lay (goals_tree (local_goals P S hs after)) m)
      → Lays a d c r (lay (goals_tree (local_goals P S gs after)) c)
  unfolding local_goals
  lays_first {hs = hs} {g = g} after on e o p q = rw e (fronts_rest (local_goal P S g (live P hs after)) (local_goals P S hs after) on o p q)

  -- the start of a part: removes, then its goals
  pub lays_part : {a b d : List ℕ} {c m r : ℕ} (gs : Goals) (after held : Set) {rs : Set} (on : ℕ) → rs ≡ held ∖ wanted S (live P gs after)
      → GoesOn on (goals_tree (local_goals P S gs after)) → Lays a b c m (marks remove_kind (members rs) on c)
      → Lays b d m r (lay (goals_tree (local_goals P S gs after)) m)
      → Lays a d c r (lay (goals_tree (removes_to S held (live P gs after) before local_goals P S gs after)) c)
  unfolding removes_to
  lays_part gs after held {rs} on e o p q = rw (sym e) (fronts_rest (removes (members rs)) (local_goals P S gs after) on o (fronts_removes (members rs) on p) q)
