-- What is held of cells and regions, and what constructs, creates and removes do to these counts: as the words count it, and as the definition does.
use Rattle.std.specs.Prelude.{ℕ, zero, suc, ◌-◌, ◌≤◌, ◌≡◌, refl, true}
use Rattle.std.proofs.Common.{arith, ap, ◌∙◌}
use Rattle.language.specs.Lists.{all, put, up_from}
use Rattle.language.specs.AcceptedRun.{RegionCell, Memory, with_cell, with_region, without_region}
use Rattle.language.specs.Machine.{cells_held, count_alive, regions_held}
use Rattle.laws.specs.Choices.{put_same, put_other}
use Rattle.records.specs.declared.Record.{Record}
use Rattle.records.specs.declared.Record.TheVariants.{Header, «Type» as TypeOf, Functor, Procedure, Variable, Region, Edge, Literal, Sum, Assign, Construct, Switch, Arm, If, Call, Argument, Print, Create, Remove, Try, Test, Other}
use Rattle.heap.specs.Counts.{cells_in, within, held_same, held_built, held_removed, alive_same, alive_more, alive_less}
use Rattle.word_machine.specs.Machine.{MachineWords}
use Rattle.word_machine.specs.Machine as M
use Rattle.profiling.specs.declared.Counts.{Counts}
use Rattle.profiling.specs.Walking.{size_at}

-- what the definition's memory holds
unfoldable pub counts_in : Memory → Counts
counts_in m = record { cells = cells_held m.alive m.cells; regions = regions_held m }

-- the counts after a construct, by its first argument: a constant takes no cell
unfoldable pub term_counted : ℕ → Counts → Counts
term_counted zero k = k
term_counted (suc a) k = record { cells = suc k.cells; regions = k.regions }

-- the counts after the goal at a record, if it removes nothing
unfoldable pub made_counted : Record → Counts → Counts
made_counted (Construct n x t a b c d) k = term_counted a k
made_counted (Create n r) k = record { cells = k.cells; regions = suc k.regions }
made_counted (Remove n r) k = k
made_counted (Literal n x v) k = k
made_counted (Sum n x o y z) k = k
made_counted (Assign n x y) k = k
made_counted (Switch n x cs) k = k
made_counted (If n y z a b) k = k
made_counted (Call n q ys) k = k
made_counted (Print n y) k = k
made_counted (Try n c a b) k = k
made_counted (Test n y z) k = k
made_counted (Header a b c) k = k
made_counted (TypeOf n fs) k = k
made_counted (Functor n a b c d e) k = k
made_counted (Procedure n a b c) k = k
made_counted (Variable n a b c) k = k
made_counted (Region n a b c) k = k
made_counted (Edge n a b c) k = k
made_counted (Arm n g t a b c d) k = k
made_counted (Argument n y) k = k
made_counted Other k = k

-- .. from those before it and the words before it
unfoldable pub counted : MachineWords → Record → Counts → Counts
counted w (Remove n r) k =
    record { cells = k.cells - size_at w.heap.cells.limit w.cells w.regions (M.region_for w r); regions = k.regions - 1 }
counted w (Construct n x t a b c d) k = made_counted (Construct n x t a b c d) k
counted w (Create n r) k = made_counted (Create n r) k
counted w (Literal n x v) k = made_counted (Literal n x v) k
counted w (Sum n x o y z) k = made_counted (Sum n x o y z) k
counted w (Assign n x y) k = made_counted (Assign n x y) k
counted w (Switch n x cs) k = made_counted (Switch n x cs) k
counted w (If n y z a b) k = made_counted (If n y z a b) k
counted w (Call n q ys) k = made_counted (Call n q ys) k
counted w (Print n y) k = made_counted (Print n y) k
counted w (Try n c a b) k = made_counted (Try n c a b) k
counted w (Test n y z) k = made_counted (Test n y z) k
counted w (Header a b c) k = made_counted (Header a b c) k
counted w (TypeOf n fs) k = made_counted (TypeOf n fs) k
counted w (Functor n a b c d e) k = made_counted (Functor n a b c d e) k
counted w (Procedure n a b c) k = made_counted (Procedure n a b c) k
counted w (Variable n a b c) k = made_counted (Variable n a b c) k
counted w (Region n a b c) k = made_counted (Region n a b c) k
counted w (Edge n a b c) k = made_counted (Edge n a b c) k
counted w (Arm n g t a b c d) k = made_counted (Arm n g t a b c d) k
counted w (Argument n y) k = made_counted (Argument n y) k
counted w Other k = made_counted Other k

pub same_counts : {a b c d : ℕ} → a ≡ b → c ≡ d → ◌≡◌ {A = Counts} (record { cells = a; regions = c }) (record { cells = b; regions = d })
same_counts {a} {b} {c} {d} e h = ap (λ n. record { cells = n; regions = c }) e ∙ ap (λ n. record { cells = b; regions = n }) h

-- ---- a construct, a create, a remove
pub built_counts : (m : Memory) (c : RegionCell) → m.alive c.region ≡ true
    → counts_in (with_cell m c) ≡ record { cells = suc (counts_in m).cells; regions = (counts_in m).regions }
unfolding counts_in with_cell regions_held
built_counts m c l = same_counts (held_built m.alive m.cells c l) refl

pub created_counts : (m : Memory) → all (within m.made) m.cells ≡ true
    → counts_in (with_region m) ≡ record { cells = (counts_in m).cells; regions = suc (counts_in m).regions }
unfolding counts_in with_region regions_held
created_counts m h = same_counts (held_same m.alive _ m.made old m.cells h) more
  where
    old : (r : ℕ) → r ≤ m.made → put m.alive (suc m.made) true r ≡ m.alive r
    old r l = put_other m.alive (suc m.made) true r (λ z. omega arith)

    more : count_alive (put m.alive (suc m.made) true) (up_from 1 (suc m.made)) ≡ suc (count_alive m.alive (up_from 1 m.made))
    more =
        alive_more (put m.alive (suc m.made) true) m.made 1 (suc m.made) (omega arith) (put_same m.alive (suc m.made) true)
        ∙ ap suc (alive_same m.alive (put m.alive (suc m.made) true) m.made 1 (λ r l u. old r (omega arith)))

pub removed_counts : (m : Memory) (r s : ℕ) → m.alive r ≡ true → (1 ≤ r) × (r ≤ m.made) → s ≡ cells_in r m.cells
    → counts_in (without_region m r) ≡ record { cells = (counts_in m).cells - s; regions = (counts_in m).regions - 1 }
unfolding counts_in without_region regions_held
removed_counts m r s l h e =
    let a = held_removed m.alive r l m.cells in
    let b = alive_less m.alive m.made 1 r l h.0 (omega (arith, h.1)) in
    same_counts (omega (arith, a, e)) (omega (arith, b))
