-- A remove: the words stand for the memory in which the region is alive no more.
use Rattle.std.specs.Prelude.{ℕ, suc, ◌+◌, ◌≡◌, refl, Bool, true, false, List, ◌≢◌}
use Rattle.std.proofs.Common.{sym, ap, ◌∙◌, arith}
use Rattle.language.specs.Lists.{put, choose}
use Rattle.language.specs.Frames.{Cell}
use Rattle.language.specs.AcceptedRun.{Memory, without_region}
use Rattle.language.specs.Machine.{Room, cells_held, regions_held}
use Rattle.laws.specs.Choices.{put_other, put_false}
use Rattle.memory.specs.declared.Pool.{Pool}
use Rattle.memory.specs.declared.Heap.{Heap}
use Rattle.memory.specs.Memory.{headed, first, removed, removed_cells, removed_regions}
use Rattle.heap.specs.Labels.{Labels, free, joined, joined_out}
use Rattle.heap.specs.Words.{arguments_same}
use Rattle.heap.specs.Counts.{cells_in, held_removed, alive_less}
use Rattle.heap.specs.Labelled.{Labelled}
use Rattle.heap.specs.LabelledRemove.{removes, remove_words}
use Rattle.heap.specs.Represents.{numbered, Spot, Represents}

-- a remove changes no limit
limit_kept : (b : Bool) (p : Pool) (x : ℕ) → (choose b p (headed p x)).limit ≡ p.limit
unfolding choose
limit_kept true p x = refl
limit_kept false p x = refl

cell_limit : (h : Heap) (rs : List ℕ) (p : ℕ) → (removed h rs p).cells.limit ≡ h.cells.limit
unfolding removed
cell_limit h rs p = limit_kept _ h.cells (first rs p)

region_limit : (h : Heap) (rs : List ℕ) (p : ℕ) → (removed h rs p).regions.limit ≡ h.regions.limit
unfolding removed
region_limit h rs p = refl

module _ {k : Room} {h : Heap} {m rs : List ℕ} {M : Memory} {ρ χ : ℕ → ℕ} (R : Represents k h m rs M ρ χ) (r : ℕ) (er : M.alive r ≡ true) where
  abbrev alive1 : ℕ → Bool
  alive1 = put M.alive r false

  abbrev own1 : Labels
  own1 y = joined (ρ r) R.labelled.free_cells (R.own y)

  abbrev reg1 : Labels
  reg1 = put R.reg (ρ r) (free R.labelled.free_regions)

  pub cells_count : cells_held M.alive M.cells ≡ cells_in r M.cells + cells_held alive1 M.cells
  cells_count = held_removed M.alive r er M.cells

  pub regions_count : regions_held M ≡ suc (regions_held (without_region M r))
  unfolding regions_held without_region
  regions_count = let l = R.low r er in alive_less M.alive M.made 1 r er l.0 (omega (arith, l.1))

  left : Labelled (removed h rs (ρ r)) (removed_cells h m rs (ρ r)) (removed_regions h rs (ρ r)) own1 reg1 (cells_held alive1 M.cells) (regions_held (without_region M r))
  left = removes R.labelled (ρ r) (cells_in r M.cells) (R.lives r er) (cells_held alive1 M.cells) (regions_held (without_region M r)) cells_count regions_count

  -- the place of a region that is alive afterwards is another
  other_place : (q : ℕ) → alive1 q ≡ true → ρ r ≢ ρ q
  other_place q e z = let o = put_false M.alive r q e in o.0 (R.apart r q er o.1 z)

  stays : {j y p t : ℕ} {c : Cell} → ρ r ≢ p → Spot R.own m χ j y p t c → Spot own1 (removed_cells h m rs (ρ r)) χ j y p t c
  stays {y = y} {t = t} ne s = record {
    label = ap (joined (ρ r) R.labelled.free_cells) s.label ∙ joined_out (ρ r) R.labelled.free_cells t (λ z. ne (sym z));
    says = record {
      functor = remove_words h m rs (ρ r) y 0 (omega arith) ∙ s.says.functor;
      contents = rw (arguments_same m (removed_cells h m rs (ρ r)) y (remove_words h m rs (ρ r) y)) s.says.contents;
    };
  }

  pub remove_ok : Represents k (removed h rs (ρ r)) (removed_cells h m rs (ρ r)) (removed_regions h rs (ρ r)) (without_region M r) ρ χ
  unfolding without_region
  remove_ok = record {
    own = own1;
    reg = reg1;
    cell_room = cell_limit h rs (ρ r) ∙ R.cell_room;
    region_room = region_limit h rs (ρ r) ∙ R.region_room;
    labelled = left;
    low = λ q e. R.low q (put_false M.alive r q e).1;
    made = R.made;
    lives = λ q e. put_other R.reg (ρ r) (free R.labelled.free_regions) (ρ q) (other_place q e) ∙ R.lives q (put_false M.alive r q e).1;
    apart = λ q s e d z. R.apart q s (put_false M.alive r q e).1 (put_false M.alive r s d).1 z;
    spots = λ j l e. stays (other_place (numbered M.cells j).region e) (R.spots j l (put_false M.alive r (numbered M.cells j).region e).1);
  }
