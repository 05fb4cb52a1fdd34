-- `print_profile`: a file that is not refused is accepted.
use Rattle.std.specs.Prelude.{Result, Ok, Err, is_err, false, ◌≡◌}
use Rattle.std.proofs.Common.{arith}
use mathlib.Core.Path.{refl, sym, ◌∙◌}
use Rattle.language.specs.declared.Refusal.{Refusal}
use Rattle.profile.proofs.print_profile.Goals as goal

accepted : (v : Result Unit Refusal) → is_err v ≡ false → v ≡ Ok tt
accepted (Ok _) e = refl
accepted (Err r) e = cc

pub print_accepted-requires : goal.print_accepted-requires
print_accepted-requires c = record {
  file_value = sym c.check-answer.ensures.value ∙ accepted _ (sym c.is_err.ensures.value ∙ c.if-is_err.false);
  line_bytes_le_room = (omega arith, omega arith);
}

pub print_accepted-requires-2 : goal.print_accepted-requires-2
print_accepted-requires-2 c = record {
  file_value = sym c.check-answer.ensures.value ∙ accepted _ (sym c.is_err.ensures.value ∙ c.if-is_err.false);
  line_bytes_le_room = (omega arith, omega arith);
}
