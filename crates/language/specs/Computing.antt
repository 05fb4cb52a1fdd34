-- Opens every definition at once, for results that antt computes from closed bytes: `unfolding computing`. No proof about open values
-- cites it.
use Rattle.sets.specs.Digits as Digits
use Rattle.sets.specs.Tests as Tests
use Rattle.sets.specs.Sets as Sets
use Rattle.sets.specs.Members as Members
use Rattle.language.specs.Lists as Lists
use Rattle.language.specs.Numbers as Numbers
use Rattle.language.specs.File as File
use Rattle.language.specs.Tree as Tree
use Rattle.language.specs.Layout as Layout
use Rattle.language.specs.Program as Program
use Rattle.language.specs.Reading as Reading
use Rattle.language.specs.Records as Records
use Rattle.language.specs.Conditions as Conditions
use Rattle.language.specs.Typing as Typing
use Rattle.language.specs.Values as Values
use Rattle.language.specs.Regions as Regions
use Rattle.language.specs.CallChains as CallChains
use Rattle.language.specs.Lifetimes as Lifetimes
use Rattle.language.specs.Annotation as Annotation
use Rattle.language.specs.Checking as Checking
use Rattle.language.specs.Frames as Frames
use Rattle.language.specs.PlainRun as PlainRun
use Rattle.language.specs.AcceptedRun as AcceptedRun
use Rattle.language.specs.Machine as Machine
use Rattle.language.specs.Answers as Answers
use Rattle.language.specs.Output as Output

unfoldable pub sets_open : Unit {0}
unfolding Digits.bit Tests.◌&◌ Tests.◌or◌ Tests.neg Sets.member Sets.one_at Sets.single Sets.◌∪◌ Sets.◌∩◌ Sets.◌∖◌ Sets.same_set Sets.subset Sets.apart Members.cons_if Members.members_from Members.members Members.first_or65 Members.next_member Members.set_of Members.filtered Members.keep Members.union_all Members.union_over Members.image Members.all_of Members.every Members.in_list
sets_open = tt

unfoldable pub lists_open : Unit {0}
unfolding Lists.nth Lists.nth1 Lists.all Lists.up_from Lists.one Lists.count Lists.front_written Lists.among Lists.choose Lists.put Lists.is_none
lists_open = tt

unfoldable pub numbers_open : Unit {0}
unfolding Numbers.literal_number Numbers.residue Numbers.sum_number Numbers.in_range Numbers.less
numbers_open = tt

unfoldable pub file_open : Unit {0}
unfolding File.word File.record_count File.padded File.row_in File.row File.kinds File.kind_of File.code File.stands_in File.header_ok File.kind_at File.reference_ok File.words_ok File.record_ok File.leading File.references File.references_of File.once_in File.form_ok
file_open = tt

unfoldable pub tree_open : Unit {0}
unfolding Tree.read_words Tree.read_record Tree.read_chain Tree.read_tree Tree.tree_of
tree_open = tt

unfoldable pub layout_open : Unit {0}
unfolding Layout.size Layout.size_words Layout.reference Layout.word_list Layout.lay Layout.lay_words Layout.bytes_of_words Layout.bytes_of Layout.written
layout_open = tt

unfoldable pub program_open : Unit {0}
unfolding Program.◌before◌ Program.four_words Program.trim_onto Program.trimmed Program.arguments_of Program.variable_at Program.type_of Program.region_of Program.region_at Program.procedure_at Program.signature_of Program.functors_of Program.functor_at Program.parameter_in Program.parameters_from Program.parameters_of Program.parameter_variables Program.arguments_in Program.variables_in
program_open = tt

unfoldable pub reading_open : Unit {0}
unfolding Reading.word_at Reading.chain_at Reading.each Reading.read_functor Reading.read_type Reading.read_variable Reading.read_edge Reading.read_region Reading.no_sense Reading.number_in Reading.sense_in Reading.num Reading.sub Reading.goal_of Reading.in_front Reading.sense_of Reading.parts_of Reading.read_procedure Reading.program_of
reading_open = tt

unfoldable pub records_open : Unit {0}
unfolding Records.zeros Records.four_plain Records.chain_of Records.functor_words Records.type_words Records.variable_words Records.edge_words Records.region_words Records.argument_words Records.step_tree Records.goals_tree Records.goal_tree Records.arms_tree Records.procedure_words Records.headed Records.program_tree
records_open = tt

unfoldable pub conditions_open : Unit {0}
unfolding Conditions.step_stands Conditions.goals_stand Conditions.goal_stands Conditions.arms_stand Conditions.conditions_ok
conditions_open = tt

unfoldable pub typing_open : Unit {0}
unfolding Typing.types_in Typing.place_if Typing.is_variable Typing.is_region Typing.has_type Typing.is_region_of Typing.have_types Typing.arguments_ok Typing.is_type Typing.regioned Typing.functor_ok Typing.type_ok Typing.types_ok Typing.places_in Typing.places_from Typing.variable_ok Typing.edges_ok Typing.region_ok Typing.signature_ok Typing.types_of Typing.parameter_types Typing.functors_for Typing.step_ok Typing.goals_ok Typing.goal_ok Typing.arms_ok Typing.procedure_ok Typing.typing_ok
typing_open = tt

unfoldable pub values_open : Unit {0}
unfolding Values.ins_of Values.outs_of Values.accessing Values.access Values.reads Values.gives Values.require_values Values.after_values Values.meet_values Values.distinct Values.give_values Values.step_values Values.goals_values Values.goal_values Values.arms_values Values.outs_valued Values.procedure_values Values.values_ok
values_open = tt

unfoldable pub regions_open : Unit {0}
unfolding Regions.targets_in Regions.targets Regions.grown Regions.grown_by Regions.reach_from Regions.reach Regions.reach_all Regions.pairs Regions.after_mapping Regions.map_each Regions.agreeing Regions.visit Regions.map_region Regions.regions_of Regions.mapping Regions.image_in Regions.one_way Regions.target_for Regions.in_targets Regions.step_regions Regions.goals_regions Regions.goal_regions Regions.arms_regions Regions.regions_ok
regions_open = tt

unfoldable pub call_chains_open : Unit {0}
unfolding CallChains.step_callees CallChains.goals_callees CallChains.goal_callees CallChains.arms_callees CallChains.callees CallChains.called_from CallChains.one_call_on CallChains.reached_within CallChains.reached CallChains.reached_ok
call_chains_open = tt

unfoldable pub lifetimes_open : Unit {0}
unfolding Lifetimes.inputs Lifetimes.outputs Lifetimes.of_class Lifetimes.declared Lifetimes.born Lifetimes.dead Lifetimes.kept Lifetimes.start_held Lifetimes.wanted Lifetimes.classes_ok Lifetimes.live_step Lifetimes.live Lifetimes.live_goal Lifetimes.live_arms Lifetimes.no_effect Lifetimes.unshared_in Lifetimes.call_effect Lifetimes.effect Lifetimes.held_after Lifetimes.step_classes Lifetimes.goals_classes Lifetimes.goal_classes Lifetimes.arms_classes Lifetimes.declared_classes_ok Lifetimes.call_classes_ok
lifetimes_open = tt

unfoldable pub annotation_open : Unit {0}
unfolding Annotation.plain_step Annotation.plain_goals Annotation.plain_goal Annotation.plain_arms Annotation.unannotated Annotation.creates Annotation.removes Annotation.going_on Annotation.removing Annotation.placed_if Annotation.placed_try Annotation.placed_switch Annotation.placed_arm Annotation.created_for Annotation.place_step Annotation.place_goals Annotation.place_goal Annotation.place_arms Annotation.annotate_procedure Annotation.annotate
annotation_open = tt

unfoldable pub checking_open : Unit {0}
unfolding Checking.require_rule Checking.carry_on Checking.join_arms Checking.sound_given Checking.sound_without Checking.step_rules Checking.check_step Checking.check_goals Checking.check_goal Checking.check_arms Checking.end_rules Checking.procedure_rules Checking.rules_ok
checking_open = tt

unfoldable pub frames_open : Unit {0}
unfolding Frames.number_in Frames.give_each Frames.with_goals Frames.giving Frames.literal_in Frames.sum_of Frames.sum_in Frames.assign_in Frames.cell_for Frames.built_value Frames.build_in Frames.fits_step Frames.fits Frames.over_ahead Frames.stays_at_sum Frames.ahead Frames.less_in Frames.branch_in Frames.pick Frames.enter_arm Frames.no_cell Frames.cell_in Frames.open_cell Frames.callee_frame Frames.returning Frames.entry_frame Frames.settle
frames_open = tt

unfoldable pub plain_run_open : Unit {0}
unfolding PlainRun.then_if PlainRun.strip_goals PlainRun.strip_goal PlainRun.strip_arms PlainRun.strip_procedure PlainRun.stripped PlainRun.built_cells PlainRun.whole_frame PlainRun.plain_state PlainRun.plain_within PlainRun.plain_state_in PlainRun.plain_failed PlainRun.plain_start PlainRun.plain_take PlainRun.plain_next PlainRun.plain_from PlainRun.plain_step_of PlainRun.plain_steps
plain_run_open = tt

unfoldable pub accepted_run_open : Unit {0}
unfolding AcceptedRun.cell_of AcceptedRun.frame_of AcceptedRun.lies_in AcceptedRun.readable AcceptedRun.with_cell AcceptedRun.with_built AcceptedRun.with_printed AcceptedRun.with_region AcceptedRun.without_region AcceptedRun.restored AcceptedRun.stand_each AcceptedRun.with_frame AcceptedRun.whole AcceptedRun.callee_stands AcceptedRun.return_stands AcceptedRun.mapping_from AcceptedRun.callee_regions AcceptedRun.returning_regions AcceptedRun.state AcceptedRun.within AcceptedRun.state_in AcceptedRun.failed AcceptedRun.start AcceptedRun.region_for AcceptedRun.allowed AcceptedRun.take AcceptedRun.next AcceptedRun.step_from AcceptedRun.step_of AcceptedRun.steps
accepted_run_open = tt

unfoldable pub machine_open : Unit {0}
unfolding Machine.runner_lent Machine.holds Machine.room_in Machine.cells_held Machine.count_alive Machine.regions_held Machine.counted_in Machine.counted Machine.room_or Machine.outlook_for Machine.outlook_in Machine.outlook_at Machine.outlook Machine.ended_with Machine.run_on Machine.run_from Machine.run Machine.print_places
machine_open = tt

unfoldable pub answers_open : Unit {0}
unfolding Answers.refusal_number Answers.stop_number Answers.lowest Answers.program Answers.file_stages Answers.reached_stages Answers.file_of Answers.room_ok Answers.annotator_stages Answers.checker_stages Answers.writes_unless Answers.annotated Answers.annotator_memory Answers.checked Answers.run_for Answers.ran
answers_open = tt

unfoldable pub output_open : Unit {0}
unfolding Output.digits_onto Output.decimal Output.signed_decimal Output.line Output.refusal_line Output.annotator_output Output.checker_output Output.number_lines Output.ending_line Output.runner_output
output_open = tt

unfoldable pub computing : Unit {0}
unfolding sets_open lists_open numbers_open file_open tree_open layout_open program_open reading_open records_open conditions_open typing_open values_open regions_open call_chains_open lifetimes_open annotation_open checking_open frames_open plain_run_open accepted_run_open machine_open answers_open output_open
computing = tt
