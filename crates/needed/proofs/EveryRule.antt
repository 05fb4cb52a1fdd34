-- Of the checker's 25 rules, three of them of a try (C-20), 21 are needed one by one: a file that only this rule refuses and whose run would go wrong. The other four are needed in
-- pairs: such a file that only two rules refuse, each of them alone too (`Implied`). Three of the four follow from other rules (`AtTheEnd`,
-- `DeadImages`), and no run needs the fourth, on a given variable's reach, while those are kept.
use Rattle.std.specs.Prelude.{List, ◌∷◌, []}
use Rattle.needed.specs.Without.{Rule, create_not_held, remove_held, remove_not_kept, remove_unsound, read_sound, construct_held, dead_held, kept_held, dead_not_kept, born_not_held, dead_unshared, born_unshared, dead_gone, dead_unsound, born_then_held, reach_held, arms_equal, every_arm, else_from_before, then_from_end, parts_alike, end_born, end_kept, end_other, outs_sound}
use Rattle.needed.proofs.Faults.{Needed}
use Rattle.needed.proofs.Steps.{created_twice_needs, removed_twice_needs, kept_removed_needs, created_again_needs, read_removed_needs, built_nowhere_needs}
use Rattle.needed.proofs.Calls.{kept_not_held_needs, dead_kept_needs, born_held_needs, dead_shared_needs, born_shared_needs, dead_removed_needs, dead_read_needs, born_forgotten_needs}
use Rattle.needed.proofs.Paths.{arms_differ_needs, one_arm_only_needs, else_from_end_needs, then_from_before_needs, parts_differ_needs, left_over_needs, out_not_sound_needs}
use Rattle.needed.proofs.Implied.{dead_missing_needs, born_missing_needs, kept_gone_needs}

-- the rules that are left out for the file that shows r
unfoldable pub leaving : Rule → List Rule
leaving create_not_held = create_not_held ∷ []
leaving remove_held = remove_held ∷ []
leaving remove_not_kept = remove_not_kept ∷ []
leaving remove_unsound = remove_unsound ∷ []
leaving read_sound = read_sound ∷ []
leaving construct_held = construct_held ∷ []
leaving dead_held = dead_held ∷ reach_held ∷ []
leaving kept_held = kept_held ∷ []
leaving dead_not_kept = dead_not_kept ∷ []
leaving born_not_held = born_not_held ∷ []
leaving dead_unshared = dead_unshared ∷ []
leaving born_unshared = born_unshared ∷ []
leaving dead_gone = dead_gone ∷ []
leaving dead_unsound = dead_unsound ∷ []
leaving born_then_held = born_then_held ∷ []
leaving reach_held = dead_held ∷ reach_held ∷ []
leaving arms_equal = arms_equal ∷ []
leaving every_arm = every_arm ∷ []
leaving else_from_before = else_from_before ∷ []
leaving then_from_end = then_from_end ∷ []
leaving parts_alike = parts_alike ∷ []
leaving end_born = end_born ∷ reach_held ∷ []
leaving end_kept = end_kept ∷ remove_not_kept ∷ []
leaving end_other = end_other ∷ []
leaving outs_sound = outs_sound ∷ []

pub every_rule : (r : Rule) → Needed (leaving r)
unfolding leaving
every_rule create_not_held = created_twice_needs
every_rule remove_held = removed_twice_needs
every_rule remove_not_kept = kept_removed_needs
every_rule remove_unsound = created_again_needs
every_rule read_sound = read_removed_needs
every_rule construct_held = built_nowhere_needs
every_rule dead_held = dead_missing_needs
every_rule kept_held = kept_not_held_needs
every_rule dead_not_kept = dead_kept_needs
every_rule born_not_held = born_held_needs
every_rule dead_unshared = dead_shared_needs
every_rule born_unshared = born_shared_needs
every_rule dead_gone = dead_removed_needs
every_rule dead_unsound = dead_read_needs
every_rule born_then_held = born_forgotten_needs
every_rule reach_held = dead_missing_needs
every_rule arms_equal = arms_differ_needs
every_rule every_arm = one_arm_only_needs
every_rule else_from_before = else_from_end_needs
every_rule then_from_end = then_from_before_needs
every_rule parts_alike = parts_differ_needs
every_rule end_born = born_missing_needs
every_rule end_kept = kept_gone_needs
every_rule end_other = left_over_needs
every_rule outs_sound = out_not_sound_needs
