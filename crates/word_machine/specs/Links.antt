-- A call's record and its tables beside the definition's arguments, variables and images; a procedure's goals from its body's record.
use Prim.Native.Nat.{ℕ, zero, suc, ◌<◌}
use Rattle.std.specs.Prelude.{◌≡◌, true, List, ◌⊎◌, length}
use Rattle.std.proofs.Math.Path.{refl, sym}
use Rattle.std.proofs.Common.{ap, ◌∙◌, inl, inr}
use borrow.Author.Tests.{ltb-true}
use Rattle.sets.specs.Tests.{and_true}
use Rattle.sets.specs.Sets.{member}
use Rattle.language.specs.File.{procedures, goals, word}
use Rattle.language.specs.Program.{done, call, procedure_at}
use Rattle.language.specs.Typing.{is_region, parameter_types, step_ok}
use Rattle.language.specs.Regions.{mapping, image_in, step_regions}
use Rattle.language.specs.Lifetimes.{born, start_held}
use Rattle.language.specs.Answers.{program}
use Rattle.language.specs.Format.{header_procedures}
use Rattle.laws.specs.Goals.{before_done}
use Rattle.chains.specs.Layout.{real}
use Rattle.records.specs.Records.{record_at}
use Rattle.records.specs.declared.Record.TheVariants.{Call}
use Rattle.chains.specs.Formed.{Formed, Stands, goals_at, arguments_at, procedures_stand, program_procedures}
use Rattle.chains.specs.Reached.{stands_nth, procedure_goals_law}
use Rattle.chains.specs.Lookups.{procedure_of_law}
use Rattle.chains.specs.Parts.{call_at}
use Rattle.region_graph.specs.Laws.{shared}
use Rattle.safety.specs.Signatures.{born_shared_law, start_shared}
use Rattle.safety.specs.Premises.{Accepted, calling, fit}
use Rattle.safety.specs.Variables.{types_variables}
use Rattle.word_machine.specs.Tables.{Tables, Tabled, onto}
use Rattle.word_machine.specs.Successors.{Todo, todo_none, todo_before}
use Rattle.word_machine.specs.Relation.{sig, CallLinked}

module _ {f : List ℕ} {T : Tables} (B : Tabled f T) (A : Accepted (program f)) (F : Formed f) where
  -- ---- a call
  module _ (i n q ys : ℕ) (e : record_at f i ≡ Call n q ys) (o : step_ok (program f) (sig f (B.owner i)) (call q (arguments_at f ys)) ≡ true)
      (r : step_regions (program f) (sig f (B.owner i)) (call q (arguments_at f ys)) ≡ true) where
    image_region : (u : ℕ) → shared (sig f q) u → is_region (sig f (B.owner i)) (image_in (mapping (sig f (B.owner i)) (sig f q) (arguments_at f ys)) u) ≡ true
    unfolding image_in
    image_region u h = let c = calling A (B.owner i) q (arguments_at f ys) o r in rw c.mapped (c.region u h)

    class_shared : (u : ℕ) → (member (start_held (sig f q)) u ≡ true) ⊎ (member (born (sig f q)) u ≡ true) → shared (sig f q) u
    class_shared u (inl h) = start_shared (fit A q) u h
    class_shared u (inr h) = born_shared_law (fit A q) u h

    pub linked : CallLinked B i (B.owner i) q (arguments_at f ys)
    unfolding step_ok
    linked =
        let c = call_at F refl e in
        record {
          there = c.below;
          some = ltb-true q (length (program f).procedures) (and_true o).0;
          callee = sym c.w2;
          slots = λ m d. B.slots i n q ys m e d;
          places = λ m d. B.givens i n q ys m e d;
          variables = types_variables (sig f (B.owner i)) (parameter_types (sig f q)) (arguments_at f ys) (and_true o).1;
          images = λ u h. let z = B.image i n q ys u e h in (z, rw z (image_region u (class_shared u h)));
        }

  -- ---- a procedure's goals
  pub body_goals : (q : ℕ) → q < length (program f).procedures → (procedure_at (program f) q).body ≡ goals_at f (T.body q)
  body_goals q l =
      ap (λ p. p.body) (procedure_of_law F (program f) (procedures_stand F) (program_procedures F) q refl) ∙ ap (goals_at f) (sym (B.body q l))

  onto_none : (i : ℕ) → onto i 0 ≡ i
  unfolding onto
  onto_none zero = refl
  onto_none (suc i) = refl

  pub body_todo : (q : ℕ) → q < length (program f).procedures → Todo B q (T.body q) (procedure_at (program f) q).body
  unfolding real
  body_todo q l =
      let s : Stands f goals (T.body q) = rw (B.body q l) (procedure_goals_law F _ (stands_nth F procedures refl (word f 0 header_procedures) (procedures_stand F) q)) in
      let d = todo_before B F q 0 done (todo_none refl refl) (T.body q) s (B.bodies q l) in
      rw (body_goals q l) (rw (onto_none (T.body q), before_done (goals_at f (T.body q))) at d)
