use Rattle.std.proofs.Common.{arith}
use mathlib.Core.Path.{refl, sym, ap, ◌∙◌}
use mathlib.Core.Logic.{inl, inr}
use Rattle.sets.specs.Tests.{◌or◌}
use Rattle.sets.specs.Members.{in_list}
use Rattle.language.specs.Format.{literal_kind, sum_kind, assign_kind, construct_kind, call_kind, print_kind, create_kind, remove_kind, test_kind}
use Rattle.accesses.proofs.FittingLaws.{literal_fits, sum_fits, assign_fits, construct_fits, print_fits, create_fits, remove_fits, test_fits, arm_fits_law}
use Rattle.accesses.proofs.NotingLaws.{found_step, listed_put, listed_none}
use Rattle.walks.specs.Steps.{is_step, step_tells}
use Rattle.accesses.proofs.filling.list_access.Goals as goal

pub call_access-requires : goal.call_access-requires
call_access-requires c = record {
  formed = c.requires.formed;
  file_table = c.requires.file_table;
  procedures_value = c.requires.procedures_value;
  call = sym c.word.ensures.0 ∙ c.in-15.is;
  file_value = c.requires.file_value;
}

pub returns-in-8 : goal.returns-in-8
unfolding is_step in_list ◌or◌
returns-in-8 c =
    let e = c.word.ensures.0 in
    let k = c.in-8.is in
    listed_put _ c.requires.formed c.requires.i_bound.1 c.requires.i_bound.0 (literal_fits _ _ c.requires.formed e k c.literal_access.ensures) c.put_access.ensures (inl (found_step _ _ literal_kind e k refl))

pub returns-in-9 : goal.returns-in-9
unfolding is_step in_list ◌or◌
returns-in-9 c =
    let e = c.word.ensures.0 in
    let k = c.in-9.is in
    listed_put _ c.requires.formed c.requires.i_bound.1 c.requires.i_bound.0 (sum_fits _ _ c.requires.formed e k c.sum_access.ensures) c.put_access-in-9.ensures (inl (found_step _ _ sum_kind e k refl))

pub returns-in-10 : goal.returns-in-10
unfolding is_step in_list ◌or◌
returns-in-10 c =
    let e = c.word.ensures.0 in
    let k = c.in-10.is in
    listed_put _ c.requires.formed c.requires.i_bound.1 c.requires.i_bound.0 (assign_fits _ _ c.requires.formed e k c.assign_access.ensures) c.put_access-in-10.ensures (inl (found_step _ _ assign_kind e k refl))

pub returns-in-11 : goal.returns-in-11
unfolding is_step in_list ◌or◌
returns-in-11 c =
    let e = c.word.ensures.0 in
    let k = c.in-11.is in
    listed_put _ c.requires.formed c.requires.i_bound.1 c.requires.i_bound.0 (construct_fits _ _ c.requires.formed e k c.construct_access.ensures) c.put_access-in-11.ensures (inl (found_step _ _ construct_kind e k refl))

pub returns-in-13 : goal.returns-in-13
returns-in-13 c =
    let e = c.word.ensures.0 in
    let k = c.in-13.is in
    listed_put _ c.requires.formed c.requires.i_bound.1 c.requires.i_bound.0 (arm_fits_law _ _ c.requires.formed e k c.arm_access.ensures) c.put_access-in-13.ensures (inr (sym e ∙ k))

pub returns-in-15 : goal.returns-in-15
unfolding is_step in_list ◌or◌
returns-in-15 c =
    let e = c.word.ensures.0 in
    let k = c.in-15.is in
    listed_put _ c.requires.formed c.requires.i_bound.1 c.requires.i_bound.0 c.call_access.ensures c.put_access-in-15.ensures (inl (found_step _ _ call_kind e k refl))

pub returns-in-17 : goal.returns-in-17
unfolding is_step in_list ◌or◌
returns-in-17 c =
    let e = c.word.ensures.0 in
    let k = c.in-17.is in
    listed_put _ c.requires.formed c.requires.i_bound.1 c.requires.i_bound.0 (print_fits _ _ c.requires.formed e k c.print_access.ensures) c.put_access-in-17.ensures (inl (found_step _ _ print_kind e k refl))

pub returns-in-18 : goal.returns-in-18
unfolding is_step in_list ◌or◌
returns-in-18 c =
    let e = c.word.ensures.0 in
    let k = c.in-18.is in
    listed_put _ c.requires.formed c.requires.i_bound.1 c.requires.i_bound.0 (create_fits _ _ c.requires.formed e k c.no_access.ensures) c.put_access-in-18.ensures (inl (found_step _ _ create_kind e k refl))

pub returns-in-19 : goal.returns-in-19
unfolding is_step in_list ◌or◌
returns-in-19 c =
    let e = c.word.ensures.0 in
    let k = c.in-19.is in
    listed_put _ c.requires.formed c.requires.i_bound.1 c.requires.i_bound.0 (remove_fits _ _ c.requires.formed e k c.no_access-in-19.ensures) c.put_access-in-19.ensures (inl (found_step _ _ remove_kind e k refl))

pub returns-in-21 : goal.returns-in-21
unfolding is_step in_list ◌or◌
returns-in-21 c =
    let e = c.word.ensures.0 in
    let k = c.in-21.is in
    listed_put _ c.requires.formed c.requires.i_bound.1 c.requires.i_bound.0 (test_fits _ _ c.requires.formed e k c.test_access.ensures) c.put_access-in-21.ensures (inl (found_step _ _ test_kind e k refl))

pub returns-in_default : goal.returns-in_default
returns-in_default c =
    let e = c.word.ensures.0 in
    listed_none c.requires.formed (sym (ap is_step e) ∙ grind (arith, step_tells)) (λ k. absurd (omega (arith, e, k)))
