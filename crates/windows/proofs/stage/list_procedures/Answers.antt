use Prim.Native.Nat.{ℕ}
use Rattle.std.proofs.Common.{rules, arith}
use mathlib.Core.Path.{refl, sym, ◌∙◌}
use lib.ListN.{length-set, length-replicate}
use Rattle.language.specs.Format.{places}
use Rattle.chains.specs.Formed.{counted}
use Rattle.chains.specs.Is.{chain_next}
use Rattle.windows.specs.Listing.{listing_first, signature_here, place_here, place_low, room_here, fits_here, listing_next, listing_right, listing_table, listing_only}
use Rattle.windows.proofs.stage.list_procedures.Goals as goal

pub word-i-requires : goal.word-i-requires
word-i-requires c = let F = c.requires.formed in record {
  formed = F;
  k_lt_record_words = (omega arith, (counted F).some);
}

pub loop-i-init : goal.loop-i-init
loop-i-init c = (listing_first c.args.table.now c.requires.formed c.requires.file_value c.requires.file_words_in_bounds c.word-i.ensures.0, refl, sym (length-replicate {A = ℕ} places 0))

pub offset_bounds-table-q : goal.offset_bounds-table-q
offset_bounds-table-q c =
    let o = place_here c.requires.formed c.requires.file_value c.loop-i.invariant.0 c.loop-i-test.true in
    search rules

pub bounds-table-q : goal.bounds-table-q
bounds-table-q c =
    place_low c.requires.formed c.requires.file_value c.loop-i.invariant.0 c.loop-i-test.true

pub list_procedure-one-requires : goal.list_procedure-one-requires
list_procedure-one-requires c = record {
  formed = c.requires.formed;
  stands = (c.loop-i.invariant.0.along.stands, c.loop-i-test.true);
  window_room = room_here c.requires.formed c.requires.file_value c.loop-i.invariant.0 c.loop-i-test.true (length-set c.loop-i.table c.loop-i.q c.loop-i.at);
  places_value = c.loop-i.invariant.2;
}

pub overflow_add-at : goal.overflow_add-at
overflow_add-at c =
    let o = fits_here c.requires.formed c.requires.file_value c.loop-i.invariant.0 c.loop-i-test.true _ _ refl (c.list_procedure-one.ensures _ (signature_here c.requires.formed c.requires.file_value c.loop-i.invariant.0 c.loop-i-test.true)) in
    omega (arith, o)

pub overflow_add-q : goal.overflow_add-q
overflow_add-q c =
    let o = place_here c.requires.formed c.requires.file_value c.loop-i.invariant.0 c.loop-i-test.true in
    omega (arith, o)

pub loop-i-smaller : goal.loop-i-smaller
loop-i-smaller c =
    (chain_next c.requires.formed c.loop-i.invariant.0.along.stands c.loop-i-test.true c.word-i-in-loop-i.ensures.0).falls

pub loop-i-preserved : goal.loop-i-preserved
loop-i-preserved c =
    let k = c.list_procedure-one.auto.table ∙ length-set c.loop-i.table c.loop-i.q c.loop-i.at in (
      listing_next c.requires.formed c.requires.file_value c.loop-i.invariant.0 c.loop-i-test.true _ _ refl (c.list_procedure-one.ensures _ (signature_here c.requires.formed c.requires.file_value c.loop-i.invariant.0 c.loop-i-test.true)) k refl
          c.word-i-in-loop-i.ensures.0,
      k ∙ c.loop-i.invariant.1,
      c.loop-i.invariant.2 ∙ sym c.list_procedure-one.auto.targets,
    )

pub shape_of-table : goal.shape_of-table
shape_of-table c = c.loop-i.invariant.1

pub returns : goal.returns
returns c = let l = c.loop-i.invariant.0 in record {
  value = listing_right l c.loop-i-test.false;
  file_table = listing_table l c.loop-i-test.false;
  only_windows = listing_only l c.loop-i-test.false;
}
