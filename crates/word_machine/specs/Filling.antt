-- Tables with a word for each record, filled by passes over the records in rising order: where chains go on, and what calls' arguments match.
use Rattle.std.specs.Prelude.{ℕ, zero, suc, ◌-◌, List, [], ◌∷◌, map, eqb, length, get_or, set, replicate}
use Rattle.sets.specs.Tests.{◌&◌, ◌or◌}
use Rattle.language.specs.Lists.{choose}
use Rattle.language.specs.File.{word, record_count}
use Rattle.language.specs.Program.{Parameter, region_of, signature_of, parameters_of}
use Rattle.language.specs.Regions.{mapping, image_in}
use Rattle.language.specs.Lifetimes.{born, start_held}
use Rattle.language.specs.Answers.{program}
use Rattle.language.specs.Format.{kind_word, next_word, arm_goals, goal_x, call_procedure, call_arguments, argument_variable, procedure_kind, switch_kind, if_kind, try_kind, call_kind, try_condition, max_records}
use Rattle.chains.specs.Formed.{arguments_at}
use Rattle.chains.specs.Records.{chain_records}
use Rattle.owners.specs.Handed.{Attribute, next_and, handed}
use Rattle.owners.specs.Owner.{owner_of}
use Rattle.word_machine.specs.Tables.{Tables, onto, body_record}
use Rattle.word_machine.specs.Passing.{packed, of_mode}

-- where the chains go on that a record's words beside w1 lead to, v being where its own does: a switch's arms and the parts of an if or a try at the goal after it, a
-- body nowhere
unfoldable pub parts_onward : ℕ → ℕ → ℕ → ℕ
parts_onward kind next v = choose (eqb kind procedure_kind) 0 (choose (eqb kind switch_kind or eqb kind if_kind or eqb kind try_kind) (onto next v) v)

-- a condition goes on nowhere: it runs by itself
unfoldable pub onward_by : List ℕ → Attribute
onward_by f kind i k v = choose (eqb kind try_kind & eqb k try_condition) 0 (next_and v (parts_onward kind (word f i next_word) v) k)

-- ---- a call's arguments: each one's record gets what its parameter says
unfoldable pub matched : (Parameter → ℕ) → List Parameter → List ℕ → List ℕ → List ℕ
matched g [] js t = t
matched g (a ∷ ps) [] t = t
matched g (a ∷ ps) (j ∷ js) t = matched g ps js (set t j (g a))

module _ (f : List ℕ) where
  -- .. of record i, if it is a call
  unfoldable pub matched_at : (Parameter → ℕ) → ℕ → List ℕ → List ℕ
  matched_at g i t =
      choose (eqb (word f i kind_word) call_kind)
      (matched g (parameters_of (signature_of (program f) (word f i call_procedure))) (chain_records f (word f i call_arguments)) t) t

  unfoldable pub matches : (Parameter → ℕ) → ℕ → ℕ → List ℕ → List ℕ
  matches g zero b t = t
  matches g (suc m) b t = matches g m (suc b) (matched_at g b t)

  -- ---- the tables, each of 4,096 words
  unfoldable pub onwards : List ℕ
  onwards = handed (onward_by f) f (replicate max_records 0)

  unfoldable pub slots : List ℕ
  slots = matches (λ a. a.variable) (record_count f - 1) 1 (replicate max_records 0)

  unfoldable pub modes : List ℕ
  modes = matches (λ a. a.mode) (record_count f - 1) 1 (replicate max_records 0)

  unfoldable pub tables_of : Tables
  tables_of = record {
    successor = λ i. onto (word f i next_word) (get_or onwards i 0);
    entry = λ j. onto (word f j arm_goals) (get_or onwards j 0);
    region = λ i. region_of (signature_of (program f) (owner_of f i)) (word f i goal_x);
    passes = λ m i. map (λ a. packed (get_or slots a 0) (word f a argument_variable) 0) (of_mode (λ a. get_or modes a 0) m (chain_records f (word f i call_arguments)));
    image = λ i r. image_in (mapping (signature_of (program f) (owner_of f i)) (signature_of (program f) (word f i call_procedure)) (arguments_at f (word f i call_arguments))) r;
    body = λ p. body_record f p;
    size = λ p. length (signature_of (program f) p).variables;
    held = λ p. start_held (signature_of (program f) p);
    bears = λ p. born (signature_of (program f) p);
  }
