use Prim.Native.Nat.{◌<◌}
use Rattle.std.proofs.Common.{arith}
use mathlib.Core.Logic.{inr}
use mathlib.Core.Path.{refl, sym, ◌∙◌}
use Rattle.language.specs.Format.{max_records}
use Rattle.chains.specs.Formed.{counted}
use Rattle.regions.proofs.HereLaws.{other_agrees}
use Rattle.regions.proofs.EffectsLaws.{literal_made, sum_made, print_made, test_made, assign_step, construct_step, create_step, remove_step, switch_none, no_step_left}
use Rattle.regions.proofs.RowedLaws.{rowed_put, rowed_not}
use Rattle.regions.proofs.pass.next_ok.Goals as goal

pub put_none-requires : goal.put_none-requires
put_none-requires c =
    let b = c.requires.i_nonzero.1 in
    omega (arith, (counted c.requires.given.formed).most, b)

pub put_none-requires-in-9 : goal.put_none-requires-in-9
put_none-requires-in-9 c =
    let b = c.requires.i_nonzero.1 in
    omega (arith, (counted c.requires.given.formed).most, b)

pub put_none-requires-in-17 : goal.put_none-requires-in-17
put_none-requires-in-17 c =
    let b = c.requires.i_nonzero.1 in
    omega (arith, (counted c.requires.given.formed).most, b)

pub put_none-requires-in-21 : goal.put_none-requires-in-21
put_none-requires-in-21 c =
    let b = c.requires.i_nonzero.1 in
    omega (arith, (counted c.requires.given.formed).most, b)

pub switch_ok-requires : goal.switch_ok-requires
switch_ok-requires c = let e = c.word.ensures.0 in record {
  given = c.requires.given;
  i_nonzero = c.requires.i_nonzero;
  fact = (λ k. omega (arith, e, c.in-12.is, k));
  firsts = c.requires.firsts;
}

pub next_call_ok-requires : goal.next_call_ok-requires
next_call_ok-requires c = record {
  given = c.requires.given;
  i_nonzero = (c.requires.i_nonzero.0, c.requires.i_nonzero.1, sym c.word.ensures.0 ∙ c.in-15.is);
  row_words_in_bounds = c.requires.row_words_in_bounds;
  before = c.requires.before;
}

pub step_ok-requires : goal.step_ok-requires
step_ok-requires c = let e = c.word.ensures.0 in record {
  given = c.requires.given;
  i_nonzero = c.requires.i_nonzero;
  fact = ((λ k. omega (arith, e, c.in-10.is, k)), assign_step c.requires.given.formed c.requires.i_nonzero.0 c.requires.i_nonzero.1 (sym e ∙ c.in-10.is));
  row_words_in_bounds = c.requires.row_words_in_bounds;
  firsts = c.requires.firsts;
}

pub step_ok-requires-in-11 : goal.step_ok-requires-in-11
step_ok-requires-in-11 c = let e = c.word.ensures.0 in record {
  given = c.requires.given;
  i_nonzero = c.requires.i_nonzero;
  fact = ((λ k. omega (arith, e, c.in-11.is, k)), construct_step c.requires.given.formed c.requires.i_nonzero.0 c.requires.i_nonzero.1 (sym e ∙ c.in-11.is));
  row_words_in_bounds = c.requires.row_words_in_bounds;
  firsts = c.requires.firsts;
}

pub step_ok-requires-in-18 : goal.step_ok-requires-in-18
step_ok-requires-in-18 c = let e = c.word.ensures.0 in record {
  given = c.requires.given;
  i_nonzero = c.requires.i_nonzero;
  fact = ((λ k. omega (arith, e, c.in-18.is, k)), create_step c.requires.given.formed c.requires.i_nonzero.0 c.requires.i_nonzero.1 (sym e ∙ c.in-18.is));
  row_words_in_bounds = c.requires.row_words_in_bounds;
  firsts = c.requires.firsts;
}

pub step_ok-requires-in-19 : goal.step_ok-requires-in-19
step_ok-requires-in-19 c = let e = c.word.ensures.0 in record {
  given = c.requires.given;
  i_nonzero = c.requires.i_nonzero;
  fact = ((λ k. omega (arith, e, c.in-19.is, k)), remove_step c.requires.given.formed c.requires.i_nonzero.0 c.requires.i_nonzero.1 (sym e ∙ c.in-19.is));
  row_words_in_bounds = c.requires.row_words_in_bounds;
  firsts = c.requires.firsts;
}

pub returns-in-8 : goal.returns-in-8
returns-in-8 c = let F = c.requires.given.formed in let e = c.word.ensures.0 in let k = c.in-8.is in let few : c.args.i < max_records = let l = c.requires.i_nonzero.1 in omega (arith, (counted F).most, l) in record {
  value = c.put_none.ensures.0 ∙ other_agrees _ F e (λ z. omega (arith, k, z)) (λ z. omega (arith, k, z)) (λ z. omega (arith, k, z)) (λ z. omega (arith, k, z));
  rowed = rowed_put c.args.file.now c.args.i c.args.rows.now few c.requires.row_words_in_bounds c.put_none.ensures.1 (literal_made F c.requires.i_nonzero.0 c.requires.i_nonzero.1 (sym e ∙ k) refl);
  firsts_2 = c.requires.firsts;
}

pub returns-in-9 : goal.returns-in-9
returns-in-9 c = let F = c.requires.given.formed in let e = c.word.ensures.0 in let k = c.in-9.is in let few : c.args.i < max_records = let l = c.requires.i_nonzero.1 in omega (arith, (counted F).most, l) in record {
  value = c.put_none-in-9.ensures.0 ∙ other_agrees _ F e (λ z. omega (arith, k, z)) (λ z. omega (arith, k, z)) (λ z. omega (arith, k, z)) (λ z. omega (arith, k, z));
  rowed = rowed_put c.args.file.now c.args.i c.args.rows.now few c.requires.row_words_in_bounds c.put_none-in-9.ensures.1 (sum_made F c.requires.i_nonzero.0 c.requires.i_nonzero.1 (sym e ∙ k) refl);
  firsts_2 = c.requires.firsts;
}

pub returns-in-17 : goal.returns-in-17
returns-in-17 c = let F = c.requires.given.formed in let e = c.word.ensures.0 in let k = c.in-17.is in let few : c.args.i < max_records = let l = c.requires.i_nonzero.1 in omega (arith, (counted F).most, l) in record {
  value = c.put_none-in-17.ensures.0 ∙ other_agrees _ F e (λ z. omega (arith, k, z)) (λ z. omega (arith, k, z)) (λ z. omega (arith, k, z)) (λ z. omega (arith, k, z));
  rowed = rowed_put c.args.file.now c.args.i c.args.rows.now few c.requires.row_words_in_bounds c.put_none-in-17.ensures.1 (print_made F c.requires.i_nonzero.0 c.requires.i_nonzero.1 (sym e ∙ k) refl);
  firsts_2 = c.requires.firsts;
}

pub returns-in-21 : goal.returns-in-21
returns-in-21 c = let F = c.requires.given.formed in let e = c.word.ensures.0 in let k = c.in-21.is in let few : c.args.i < max_records = let l = c.requires.i_nonzero.1 in omega (arith, (counted F).most, l) in record {
  value = c.put_none-in-21.ensures.0 ∙ other_agrees _ F e (λ z. omega (arith, k, z)) (λ z. omega (arith, k, z)) (λ z. omega (arith, k, z)) (λ z. omega (arith, k, z));
  rowed = rowed_put c.args.file.now c.args.i c.args.rows.now few c.requires.row_words_in_bounds c.put_none-in-21.ensures.1 (test_made F c.requires.i_nonzero.0 c.requires.i_nonzero.1 (sym e ∙ k) refl);
  firsts_2 = c.requires.firsts;
}

pub returns-in-12 : goal.returns-in-12
returns-in-12 c = record {
  value = c.switch_ok.ensures.value;
  rowed = rowed_not c.args.file.now c.args.i _ (inr (switch_none c.requires.given.formed (sym c.word.ensures.0 ∙ c.in-12.is)));
  firsts_2 = c.switch_ok.ensures.firsts_2;
}

pub returns-in-10 : goal.returns-in-10
returns-in-10 c = record { value = c.step_ok.ensures.value; rowed = c.step_ok.ensures.rowed; firsts_2 = c.step_ok.ensures.firsts_2 }

pub returns-in-11 : goal.returns-in-11
returns-in-11 c = record { value = c.step_ok-in-11.ensures.value; rowed = c.step_ok-in-11.ensures.rowed; firsts_2 = c.step_ok-in-11.ensures.firsts_2 }

pub returns-in-18 : goal.returns-in-18
returns-in-18 c = record { value = c.step_ok-in-18.ensures.value; rowed = c.step_ok-in-18.ensures.rowed; firsts_2 = c.step_ok-in-18.ensures.firsts_2 }

pub returns-in-19 : goal.returns-in-19
returns-in-19 c = record { value = c.step_ok-in-19.ensures.value; rowed = c.step_ok-in-19.ensures.rowed; firsts_2 = c.step_ok-in-19.ensures.firsts_2 }

pub returns-in_default : goal.returns-in_default
returns-in_default c = let F = c.requires.given.formed in let e = c.word.ensures.0 in let r = c.in_default.in_default-own.rest in let z = r.0.0.0 in let y = z.0.0.0 in record {
  value = other_agrees _ F e z.1 r.0.0.1 z.0.0.1 z.0.1;
  rowed = rowed_not c.args.file.now c.args.i _ (inr (no_step_left F e y.0.0.0.1 y.0.0.1 z.1 r.0.0.1 z.0.1 y.0.1 r.0.1 r.1 y.1));
  firsts_2 = c.requires.firsts;
}
