-- "Refusals and stops": what each program answers on any bytes.
use Rattle.std.specs.Prelude.{ℕ, Bool, true, false, List, [], ◌∷◌, ◌++◌, leb, length, Result, Ok, Err}
use Rattle.sets.specs.Tests.{◌&◌}
use Rattle.language.specs.declared.Refusal.{Refusal}
use Rattle.language.specs.declared.Refusal.TheVariants.{Header, Form, Typing, Values, Regions, Unreached, Annotated, Classes, Rules, Room}
use Rattle.language.specs.declared.Stop.{Stop}
use Rattle.language.specs.declared.Stop.TheVariants.{Steps, Cells, Places, Frames, Prints, Sums}
use Rattle.language.specs.declared.Ending.{Ending}
use Rattle.language.specs.declared.Ending.TheVariants.{Refused, Finished, Stopped}
use Rattle.language.specs.Lists.{front_written}
use Rattle.language.specs.Format.{max_records}
use Rattle.language.specs.File.{word, record_count, header_ok, form_ok}
use Rattle.language.specs.Tree.{tree_of}
use Rattle.language.specs.Layout.{size, written}
use Rattle.language.specs.Program.{Program}
use Rattle.language.specs.Reading.{program_of}
use Rattle.language.specs.Records.{program_tree}
use Rattle.language.specs.Conditions.{conditions_ok}
use Rattle.language.specs.Typing.{typing_ok}
use Rattle.language.specs.Values.{values_ok}
use Rattle.language.specs.Regions.{regions_ok}
use Rattle.language.specs.CallChains.{reached_ok}
use Rattle.language.specs.Lifetimes.{declared_classes_ok, call_classes_ok}
use Rattle.language.specs.Annotation.{unannotated, annotate}
use Rattle.language.specs.Checking.{rules_ok}
use Rattle.language.specs.Machine.{Lent, Run, run}

-- the table's numbers
unfoldable pub refusal_number : Refusal → ℕ
refusal_number Header = 1
refusal_number Form = 2
refusal_number Typing = 3
refusal_number Values = 4
refusal_number Regions = 5
refusal_number Unreached = 17
refusal_number Annotated = 6
refusal_number Classes = 7
refusal_number Rules = 8
refusal_number Room = 9

unfoldable pub stop_number : Stop → ℕ
stop_number Steps = 10
stop_number Cells = 11
stop_number Places = 12
stop_number Frames = 13
stop_number Prints = 14
stop_number Sums = 15

-- the number of an answer: 0 where the file is accepted, or run to its end
unfoldable pub checker_number : Result Unit Refusal → ℕ
checker_number (Err r) = refusal_number r
checker_number (Ok _) = 0

unfoldable pub ending_number : Ending → ℕ
ending_number (Refused r) = refusal_number r
ending_number Finished = 0
ending_number (Stopped c) = stop_number c

-- a test of a file and the refusal that it stands for
pub data Stage : Type 0 where
  stage : Refusal → Bool → Stage

-- "The lowest number that applies is given, and is given for no other cause": the first stage that is not passed. The list's order decides, not the
-- numbers' size: a number that is added later stands where its cause does.
unfoldable pub lowest : List Stage → Result Unit Refusal
lowest [] = Ok tt
lowest (stage r true ∷ ss) = lowest ss
lowest (stage r false ∷ ss) = Err r

-- the program that bytes stand for
unfoldable pub program : List ℕ → Program
program f = program_of (tree_of f)

-- the stages of every program, in the table's order
unfoldable pub file_stages : List ℕ → List Stage
file_stages f =
    stage Header (header_ok f) ∷ stage Form (form_ok (word f) (record_count f)) ∷ stage Form (conditions_ok (program f))
    ∷ stage Typing (typing_ok (program f)) ∷ stage Values (values_ok (program f))
    ∷ stage Regions (regions_ok (program f)) ∷ []

-- number 17 is "looked at after 5 and before 6" (C-18): the stages of the programs that refuse procedures which no chain of calls reaches
unfoldable pub reached_stages : List ℕ → List Stage
reached_stages f = file_stages f ++ (stage Unreached (reached_ok (program f)) ∷ [])

-- the bytes of a program, in written order
unfoldable pub file_of : Program → List ℕ
file_of P = written (program_tree P)

-- "annotated file over 4,096 records or longer than the memory lent"
unfoldable pub room_ok : Program → ℕ → Bool
room_ok P lent = leb (size (program_tree P)) max_records & leb (length (file_of P)) lent

-- the stages of the annotator; and of the checker, which the runner shares
unfoldable pub annotator_stages : List ℕ → ℕ → List Stage
annotator_stages f lent =
    reached_stages f
    ++ (stage Annotated (unannotated (program f)) ∷ stage Classes (declared_classes_ok (program f) & call_classes_ok (program f))
    ∷ stage Room (room_ok (annotate (program f)) lent) ∷ [])

unfoldable pub checker_stages : List ℕ → List Stage
checker_stages f = reached_stages f ++ (stage Classes (declared_classes_ok (program f)) ∷ stage Rules (rules_ok (program f)) ∷ [])

-- the annotator's answer: a refusal, or what stands in "the front part of the caller's output memory"
pub data AnnotatorAnswer : Type 0 where
  refuses : Refusal → AnnotatorAnswer
  writes : List ℕ → AnnotatorAnswer

-- its number, 0 where the file is written, and how many bytes are
unfoldable pub annotator_number : AnnotatorAnswer → ℕ
annotator_number (refuses r) = refusal_number r
annotator_number (writes g) = 0

unfoldable pub written_bytes : AnnotatorAnswer → ℕ
written_bytes (refuses r) = 0
written_bytes (writes g) = length g

unfoldable pub writes_unless : Result Unit Refusal → List ℕ → AnnotatorAnswer
writes_unless (Err r) g = refuses r
writes_unless (Ok _) g = writes g

-- what the annotator answers to the bytes f with `lent` bytes of output memory
unfoldable pub annotated : List ℕ → ℕ → AnnotatorAnswer
annotated f lent = writes_unless (lowest (annotator_stages f lent)) (file_of (annotate (program f)))

-- "handed back as the front part of the caller's output memory; bytes behind it keep their contents": that memory afterwards
unfoldable pub annotator_memory : AnnotatorAnswer → List ℕ → List ℕ
annotator_memory (refuses r) before = before
annotator_memory (writes g) before = front_written g before

-- the bytes that the annotator program lends
abbrev pub annotator_bytes : ℕ
annotator_bytes = 65536

-- what the checker answers
unfoldable pub checked : List ℕ → Result Unit Refusal
checked f = lowest (checker_stages f)

unfoldable pub run_for : Result Unit Refusal → List ℕ → Lent → Run
run_for (Err r) f l = record { ending = Refused r; steps = 0; printed = [] }
run_for (Ok _) f l = run (program f) l

-- what the runner answers, lent words and steps
unfoldable pub ran : List ℕ → Lent → Run
ran f l = run_for (checked f) f l
