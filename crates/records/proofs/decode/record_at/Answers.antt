-- Each arm of the match by the law of its number. Assumes nothing.
use Rattle.language.specs.Lists.{nth}
use Rattle.language.specs.File.{kinds, kind_of}
use Rattle.records.proofs.Decoding.{decoded, decoded_none}
use Rattle.language.specs.Format.{argument_kind, arm_kind, assign_kind, call_kind, construct_kind, create_kind, edge_kind, functor_kind, header_kind, if_kind, literal_kind, print_kind, procedure_kind, region_kind, remove_kind, sum_kind, switch_kind, test_kind, try_kind, type_kind, variable_kind}
use Rattle.records.proofs.decode.record_at.Goals as goal

pub returns-in-1 : goal.returns-in-1
unfolding kind_of nth kinds
returns-in-1 c = decoded _ _ header_kind c.word.ensures.0 c.in-1.is c.read_header.ensures

pub returns-in-2 : goal.returns-in-2
unfolding kind_of nth kinds
returns-in-2 c = decoded _ _ type_kind c.word.ensures.0 c.in-2.is c.read_type.ensures

pub returns-in-3 : goal.returns-in-3
unfolding kind_of nth kinds
returns-in-3 c = decoded _ _ functor_kind c.word.ensures.0 c.in-3.is c.read_functor.ensures

pub returns-in-4 : goal.returns-in-4
unfolding kind_of nth kinds
returns-in-4 c = decoded _ _ procedure_kind c.word.ensures.0 c.in-4.is c.read_procedure.ensures

pub returns-in-5 : goal.returns-in-5
unfolding kind_of nth kinds
returns-in-5 c = decoded _ _ variable_kind c.word.ensures.0 c.in-5.is c.read_variable.ensures

pub returns-in-6 : goal.returns-in-6
unfolding kind_of nth kinds
returns-in-6 c = decoded _ _ region_kind c.word.ensures.0 c.in-6.is c.read_region.ensures

pub returns-in-7 : goal.returns-in-7
unfolding kind_of nth kinds
returns-in-7 c = decoded _ _ edge_kind c.word.ensures.0 c.in-7.is c.read_edge.ensures

pub returns-in-8 : goal.returns-in-8
unfolding kind_of nth kinds
returns-in-8 c = decoded _ _ literal_kind c.word.ensures.0 c.in-8.is c.read_literal.ensures

pub returns-in-9 : goal.returns-in-9
unfolding kind_of nth kinds
returns-in-9 c = decoded _ _ sum_kind c.word.ensures.0 c.in-9.is c.read_sum.ensures

pub returns-in-10 : goal.returns-in-10
unfolding kind_of nth kinds
returns-in-10 c = decoded _ _ assign_kind c.word.ensures.0 c.in-10.is c.read_assign.ensures

pub returns-in-11 : goal.returns-in-11
unfolding kind_of nth kinds
returns-in-11 c = decoded _ _ construct_kind c.word.ensures.0 c.in-11.is c.read_construct.ensures

pub returns-in-12 : goal.returns-in-12
unfolding kind_of nth kinds
returns-in-12 c = decoded _ _ switch_kind c.word.ensures.0 c.in-12.is c.read_switch.ensures

pub returns-in-13 : goal.returns-in-13
unfolding kind_of nth kinds
returns-in-13 c = decoded _ _ arm_kind c.word.ensures.0 c.in-13.is c.read_arm.ensures

pub returns-in-14 : goal.returns-in-14
unfolding kind_of nth kinds
returns-in-14 c = decoded _ _ if_kind c.word.ensures.0 c.in-14.is c.read_if.ensures

pub returns-in-15 : goal.returns-in-15
unfolding kind_of nth kinds
returns-in-15 c = decoded _ _ call_kind c.word.ensures.0 c.in-15.is c.read_call.ensures

pub returns-in-16 : goal.returns-in-16
unfolding kind_of nth kinds
returns-in-16 c = decoded _ _ argument_kind c.word.ensures.0 c.in-16.is c.read_argument.ensures

pub returns-in-17 : goal.returns-in-17
unfolding kind_of nth kinds
returns-in-17 c = decoded _ _ print_kind c.word.ensures.0 c.in-17.is c.read_print.ensures

pub returns-in-18 : goal.returns-in-18
unfolding kind_of nth kinds
returns-in-18 c = decoded _ _ create_kind c.word.ensures.0 c.in-18.is c.read_create.ensures

pub returns-in-19 : goal.returns-in-19
unfolding kind_of nth kinds
returns-in-19 c = decoded _ _ remove_kind c.word.ensures.0 c.in-19.is c.read_remove.ensures

pub returns-in-20 : goal.returns-in-20
unfolding kind_of nth kinds
returns-in-20 c = decoded _ _ try_kind c.word.ensures.0 c.in-20.is c.read_try.ensures

pub returns-in-21 : goal.returns-in-21
unfolding kind_of nth kinds
returns-in-21 c = decoded _ _ test_kind c.word.ensures.0 c.in-21.is c.read_test.ensures

pub returns-in_default : goal.returns-in_default
returns-in_default c = decoded_none _ _ c.word.ensures.0 c.in_default.in_default-own.rest
