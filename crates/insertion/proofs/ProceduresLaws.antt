-- Laws of `specs/Procedures` that only proofs cite.
use Prim.Native.Nat.{ℕ, zero, suc, ◌+◌, ◌-◌, ◌<◌}
use native.Mathlib.Omega.{arith}
use mathlib.Core.List.{List}
use mathlib.Core.Path.{◌≡◌, refl, ap, sym, ◌∙◌}
use lib.ListN.{length, get_or, take, drop}
use Rattle.language.specs.Format.{next_word, header_procedures, procedure_variables, procedure_regions, procedure_goals}
use Rattle.language.specs.File.{k_procedure, k_variable, k_region, procedures, word}
use Rattle.language.specs.Layout.{reference, lay}
use Rattle.language.specs.Records.{chain_of, variable_words, region_words, goals_tree, procedure_words}
use Rattle.language.specs.Program.{Program, procedure_at, signature_of}
use Rattle.language.specs.Annotation.{annotate_procedure}
use Rattle.language.specs.Answers.{program}
use Rattle.placement.specs.Whole.{procedure_local}
use Rattle.chains.specs.Formed.{Formed, Stands, ahead, procedures_at, procedures_none}
use Rattle.chains.specs.Declared.{ProcedureAt, procedure_at_law}
use Rattle.chains.specs.Is.{procedure_is}
use Rattle.chains.specs.Turns.{Turn, turn_first, turn_below, turn_procedure, turn_next}
use Rattle.tables.specs.Window.{body_place}
use Rattle.tables.specs.Starts.{start_in, window_in, window_lent, window_here, body_here}
use Rattle.writer.specs.Laid.{linked}
use Rattle.writer.specs.Ready.{tree_at}
use Rattle.writer.specs.Skips.{Behind}
use Rattle.writer.specs.Trees.{variables_tree, regions_tree}
use Rattle.laying.specs.Lays.{Lays, GoesOn, lays_end, lays_node}
use Rattle.laying.specs.Heads.{ProcedureStored, procedure_head_law}
use Rattle.insertion.specs.Bodies.{body_of, BodyLaid}
use Rattle.insertion.specs.Procedures.{Unrefused, placed_body, procedure_head, procedures_tree}

-- ---- the goals of procedure q
module _ {f table rows : List ℕ} (G : Unrefused f table rows) {q : ℕ} (l : q < length (program f).procedures) {s : ℕ} (e : s ≡ start_in table q) where
  body_is : body_of f (signature_of (program f) q) (get_or (window_in table q) body_place 0) ≡ placed_body (program f) q
  unfolding body_of placed_body annotate_procedure signature_of
  body_is = rw (window_here G.prepared.windows l).body (sym (procedure_local (program f) G.annotatable q))

  pub goals_laid : {a b : List ℕ} {c r : ℕ} → BodyLaid f rows (take (length table - s) (drop s table)) a b c r
      → Lays a b c r (lay (goals_tree (placed_body (program f) q)) c)
  unfolding signature_of
  goals_laid B =
      rw (sym body_is)
      ((rw (window_lent table q e) at B).1 G.prepared.owner q (record { effected = G.prepared.effected; owning = G.prepared.owning })
      (window_here G.prepared.windows l).window (G.prepared.owning.to_body q l _ (body_here G.prepared.windows l)))

-- ---- the procedure at record i
module _ {f : List ℕ} {i q : ℕ} (F : Formed f) (T : Turn f i q) (z : i ≡ 0 → ⊥) where
  pub here : ProcedureAt f i (word f i next_word) (word f i procedure_variables) (word f i procedure_regions) (word f i procedure_goals)
  here = procedure_at_law F refl (procedure_is T.stands z)

  pub here_below : q < length (program f).procedures
  here_below = turn_below T here

  pub procedure_laid : {a b d e g : List ℕ} {c s m n r v w : ℕ} → Behind c 1 s → v ≡ word f i procedure_variables → Lays a b s m (lay (tree_at f v) s) → w ≡ word f i procedure_regions
      → Lays b d m n (lay (tree_at f w) m) → Lays d e n r (lay (goals_tree (placed_body (program f) q)) n) → ProcedureStored f i e g c s m n r
      → Lays a g c r (procedure_head f i q c)
  unfolding procedure_head placed_body procedure_words annotate_procedure
  procedure_laid B ev L ew K J H =
      let p = turn_procedure T here in
      let x : tree_at f (word f i procedure_variables) ≡ chain_of k_variable variable_words (procedure_at (program f) q).signature.variables =
      variables_tree F here.to_variables.stands ∙ ap (λ y. chain_of k_variable variable_words y.signature.variables) (sym p) in
      let y : tree_at f (word f i procedure_regions) ≡ chain_of k_region region_words (procedure_at (program f) q).signature.regions =
      regions_tree F here.to_regions.stands ∙ ap (λ u. chain_of k_region region_words u.signature.regions) (sym p) in
      rw (sym x, sym y)
      (procedure_head_law B (tree_at f (word f i procedure_variables)) (tree_at f (word f i procedure_regions)) (goals_tree (placed_body (program f) q))
      (rw ev at L) (rw ew at K) J H)

-- ---- all of them
-- whether the chain of procedures goes on at record w
chain_goes : {f : List ℕ} → Formed f → (P : Program) (w : ℕ) → Stands f procedures w → GoesOn w (procedures_tree P (procedures_at f w))
unfolding procedures_tree chain_of linked reference
chain_goes {f} F P zero st c = rw (procedures_none f refl) refl
chain_goes {f} F P (suc w) st c = rw (procedure_at_law F refl (procedure_is st (λ e. omega arith))).view refl

-- the procedures were to be laid from place first on; what is left are those from record i on, number q, from place c on
pub record Laying (f a b : List ℕ) (first i q c : ℕ) : Type 0 where
  pub turn : Turn f i q
  pub same : length b ≡ length a
  pub laid : (d : List ℕ) (e : ℕ) → Lays b d c e (lay (procedures_tree (program f) (procedures_at f i)) c)
      → Lays a d first e (lay (procedures_tree (program f) (program f).procedures) first)

pub laying_first : {f : List ℕ} (a : List ℕ) (first : ℕ) {i : ℕ} → Formed f → i ≡ word f 0 header_procedures → Laying f a a first i 0 first
laying_first {f} a first F e =
    let T = turn_first F e in
    record { turn = T; same = refl; laid = λ d s L. rw (sym T.rest) at L }

module _ {f a b : List ℕ} {first i q c : ℕ} (G : Laying f a b first i q c) where
  pub laying_last : i ≡ 0 → Lays a b first c (lay (procedures_tree (program f) (program f).procedures) first)
  unfolding procedures_tree chain_of
  laying_last z = G.laid b c (rw (procedures_none f z) (lays_end b c))

  pub laying_next : {d : List ℕ} {r w : ℕ} → Formed f → (i ≡ 0 → ⊥) → Lays b d c r (procedure_head f i q c) → w ≡ word f i next_word → Laying f a d first w (q + 1) r
  unfolding procedures_tree chain_of procedure_head
  laying_next {d} {r} {w} F z K e =
      let A = here F G.turn z in
      let T : Turn f w (q + 1) = rw e (turn_next G.turn A) in
      let p = turn_procedure G.turn A in
      record {
        turn = T;
        same = K.same ∙ G.same;
        laid = λ d' s L.
            G.laid d' s
            (rw (A.view, sym p, sym e)
            (lays_node k_procedure w (procedures_tree (program f) (procedures_at f w)) (procedure_words (annotate_procedure (program f) (procedure_at (program f) q)))
            (chain_goes F (program f) w T.stands) (rw (sym e) at K) L));
      }

  pub laying_falls : {w : ℕ} → Formed f → (i ≡ 0 → ⊥) → w ≡ word f i next_word → ahead f w < ahead f i
  laying_falls F z e = rw e (here F G.turn z).to_next.falls
