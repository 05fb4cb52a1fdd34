-- Prints, creates, removes and constructs: the goals that change the memory.
use Rattle.std.specs.Prelude.{ℕ, suc, ◌+◌, ◌≡◌, Bool, ltb, length, Option, Some, None}
use native.Mathlib.Omega.{arith}
use Rattle.std.proofs.Math.Path.{refl, sym}
use Rattle.std.proofs.Math.Bool.{true, false}
use mathlib.Core.List.{List, [], ◌∷◌, map}
use borrow.Author.Tests.{ltb-true}
use Rattle.std.proofs.Math.ListN.{length-set, length-append}
use Rattle.sets.specs.Tests.{◌or◌}
use Rattle.sets.specs.Members.{in_list}
use Rattle.language.specs.declared.Stop.TheVariants.{Cells, Places, Prints}
use Rattle.language.specs.Lists.{put, is_none}
use Rattle.language.specs.Program.{four, four_words, trim_onto, trimmed, arguments_of, construct, print, create, remove, step, region_of}
use Rattle.language.specs.Typing.{is_variable, is_region}
use Rattle.language.specs.Frames.{closed, cell_at, constant, number_in, giving, cell_for, built_value, build_in}
use Rattle.language.specs.AcceptedRun.{RegionFrame, RegionCell, Memory, with_cell, with_built, with_printed, with_region, without_region, with_frame, region_for, state, within, state_in}
use Rattle.language.specs.AcceptedRun as Run
use Rattle.language.specs.Machine.{Room, goes, room_or, cells_held, regions_held}
use Rattle.language.specs.Answers.{program}
use Rattle.laws.specs.Choices.{put_same, put_other}
use Rattle.chains.specs.Formed.{Formed}
use Rattle.safety.specs.Premises.{Accepted, laws}
use Rattle.region_graph.specs.Shared.{variable_top, region_top}
use Rattle.memory.specs.declared.Contents.{Contents}
use Rattle.memory.specs.Memory.{constants_from, built, built_cells, built_regions, created, created_regions}
use Rattle.heap.specs.Words.{words_of}
use Rattle.heap.specs.Standing.{StandsFor, StandEach, stands_new, each_argument}
use Rattle.heap.specs.Represents.{Creates, stops_12, creates, Builds, stops_11, builds}
use Rattle.heap.specs.Reading.{alive_made, prints}
use Rattle.heap.proofs.Creating.{create_ok}
use Rattle.heap.proofs.Building.{build_ok}
use Rattle.heap.proofs.Removing.{remove_ok}
use Rattle.word_machine.specs.Tables.{Tables, Tabled}
use Rattle.word_machine.specs.Machine.{MachineWords, value_place, region_place, value_of, went, if_room, contents_of, constructed_by, constructed, constructs, created_by, makes_region, drops_region, prints_word}
use Rattle.word_machine.specs.Machine as M
use Rattle.word_machine.specs.Trimmed.{first_argument, term_functor_law, term_words_law}
use Rattle.word_machine.specs.Printing.{Printed, printed_more}
use Rattle.word_machine.specs.Premises.{Number}
use Rattle.word_machine.specs.Relation.{where_in, Later, Names, sig, FrameOk, Waiting, MemoryStored}
use Rattle.word_machine.specs.Stepping.{frame_more, waiting_more, set_frame, set_waiting, name_frame, name_waiting}
use Rattle.word_machine.specs.Steps.{After, onward, halts, stored_given, given_running, value_means, value_word}
use Rattle.memory.specs.declared.Heap.{Heap}

module _ {f : List ℕ} {T : Tables} (B : Tabled f T) (A : Accepted (program f)) (F : Formed f) (K : Room) (qs : List ℕ) (w : MachineWords) (u : RegionFrame)
    (fs : List RegionFrame) (m : Memory) (ρ χ : ℕ → ℕ) (i : ℕ) (G : FrameOk B w.frames w.top (where_in m ρ χ) (T.successor i) u)
    (W : Waiting B w.frames (where_in m ρ χ) u.frame.procedure u.frame.arguments w.top fs) (Q : MemoryStored K qs w m ρ χ) where
  -- ---- a print
  print_by : (y : ℕ) → is_variable (sig f u.frame.procedure) y ≡ true → Number (u.frame.values y) → (b : Bool) → ltb w.printed K.prints ≡ b
      → After B A F K qs closed (step (print y)) u fs m (room_or b Prints) (if_room b Prints (prints_word w (value_of w y) (T.successor i)))
  unfolding room_or if_room prints_word Run.take state_in within with_printed
  print_by y o n false e = halts
  print_by y o n true e =
      onward refl (record { newest = G; waiting = W })
      (record {
        represents = prints Q.represents (number_in (u.frame.values y));
        cell_room = Q.cell_room;
        printed =
            let v = value_word B A F K qs w u fs m ρ χ i G W Q y o n in
            printed_more Q.printed (omega (arith, ltb-true w.printed K.prints e, Q.print_room)) (value_of w y) (number_in (u.frame.values y)) v.0 v.1;
        frame_room = Q.frame_room;
        print_room = omega (arith, Q.print_room, length-set w.prints w.printed (value_of w y));
      })

  pub print_after : (y : ℕ) → is_variable (sig f u.frame.procedure) y ≡ true → Number (u.frame.values y)
      → After B A F K qs closed (step (print y)) u fs m (room_or (ltb (length m.printed) K.prints) Prints)
      (if_room (ltb w.printed K.prints) Prints (prints_word w (value_of w y) (T.successor i)))
  print_after y o n = rw (← Q.printed.count) (print_by y o n (ltb w.printed K.prints) refl)

  -- ---- regions
  later_region : (p : ℕ) → Later (where_in m ρ χ) (where_in (with_region m) (put ρ (suc m.made) p) χ)
  unfolding with_region
  later_region p = record {
    same_cells = λ j l. refl;
    more_cells = omega arith;
    same_regions = λ s l. put_other ρ (suc m.made) p s (λ z. omega arith);
    more_regions = omega arith;
  }

  create_by : (r : ℕ) → is_region (sig f u.frame.procedure) r ≡ true → (o : Option (ℕ × Heap)) (rs : List ℕ) → Creates K w.cells w.regions m ρ χ o rs
      → After B A F K qs closed (step (create r)) u fs m (room_or (ltb (regions_held m) K.regions) Places) (created_by w r (T.successor i) rs o)
  unfolding room_or created_by Run.take state_in within with_region
  create_by r v None rs (stops_12 e) = rw e halts
  create_by r v (Some (p, h)) rs (creates e R) =
      let t = later_region p in
      let G' = frame_more B A t G in
      rw e (onward refl (record { newest = name_frame B A G' r v p (suc m.made) named; waiting = name_waiting B A G' r v p (waiting_more B A t W) })
      (record {
        represents = R;
        cell_room = Q.cell_room;
        printed = same_printed;
        frame_room = omega (arith, Q.frame_room, length-set w.frames (region_place w.top r) p);
        print_room = Q.print_room;
      }))
    where
      named : Names (where_in (with_region m) (put ρ (suc m.made) p) χ) p (suc m.made)
      named z = (omega arith, sym (put_same ρ (suc m.made) p))

      same_printed : Printed qs w.prints w.printed (with_region m).printed
      same_printed = Q.printed

  pub create_after : (r : ℕ) → is_region (sig f u.frame.procedure) r ≡ true
      → After B A F K qs closed (step (create r)) u fs m (room_or (ltb (regions_held m) K.regions) Places) (makes_region w r (T.successor i))
  unfolding makes_region
  create_after r v = create_by r v (created w.heap w.regions) (created_regions w.heap w.regions) (create_ok Q.represents)

  -- the place of a region that is alive
  pub region_word : (r : ℕ) → is_region (sig f u.frame.procedure) r ≡ true → m.alive (u.stands r) ≡ true → M.region_for w r ≡ ρ (u.stands r)
  unfolding M.region_for
  region_word r v l =
      let t = region_top _ _ (laws A u.frame.procedure) r v in
      (G.regions r t.0 t.1 (alive_made Q.represents (u.stands r) l)).1

  pub remove_after : (r : ℕ) → is_region (sig f u.frame.procedure) r ≡ true → m.alive (u.stands r) ≡ true
      → After B A F K qs closed (step (remove r)) u fs m goes (went (drops_region w (M.region_for w r) (T.successor i)))
  unfolding drops_region Run.take state_in within without_region
  remove_after r v l =
      rw (region_word r v l)
      (onward refl (record { newest = G; waiting = W })
      (record {
        represents = remove_ok Q.represents (u.stands r) l;
        cell_room = Q.cell_room;
        printed = Q.printed;
        frame_room = Q.frame_room;
        print_room = Q.print_room;
      }))

  -- ---- a construct of X without arguments: a constant
  module _ (x k b c d : ℕ) (e : arguments_of (four 0 b c d) ≡ []) where
    constant_taken : Run.take (program f) closed (step (construct x k (four 0 b c d))) u fs m ≡ state (program f) (with_frame u (giving u.frame x (constant k))) fs m
    unfolding Run.take state_in within build_in built_value with_built
    constant_taken = rw e

    pub constant_after : is_variable (sig f u.frame.procedure) x ≡ true → (r : ℕ)
        → After B A F K qs closed (step (construct x k (four 0 b c d))) u fs m
        (room_or (is_none (arguments_of (four 0 b c d)) or ltb (cells_held m.alive m.cells) K.cells) Cells) (constructs w x (T.successor i) r k 0 b c d)
    unfolding room_or is_none ◌or◌ constructs StandsFor
    constant_after v r =
        rw e
        (onward constant_taken (given_running B A F K qs w u fs m ρ χ i G W Q x (constants_from + k) (constant k) v refl)
        (stored_given B A F K qs w u fs m ρ χ i G W Q x (constants_from + k)))

  -- ---- a construct of X with arguments, the first of them suc a: a cell in X's region r
  module _ (x k a b c d r : ℕ) (v : is_variable (sig f u.frame.procedure) x ≡ true)
      (vs : (y : ℕ) → in_list y (arguments_of (four (suc a) b c d)) ≡ true → is_variable (sig f u.frame.procedure) y ≡ true) (is : r ≡ region_of (sig f u.frame.procedure) x)
      (o : is_region (sig f u.frame.procedure) (region_of (sig f u.frame.procedure) x) ≡ true) (l : m.alive (region_for (program f) u x) ≡ true) where
    abbrev new : RegionCell
    new = record { cell = cell_for u.frame k (arguments_of (four (suc a) b c d)); region = region_for (program f) u x }

    later_cell : (p : ℕ) → Later (where_in m ρ χ) (where_in (with_cell m new) ρ (put χ (length m.cells) p))
    unfolding with_cell
    later_cell p = record {
      same_cells = λ j h. put_other χ (length m.cells) p j (λ z. omega arith);
      more_cells = omega (arith, length-append m.cells (new ∷ []));
      same_regions = λ s h. refl;
      more_regions = omega arith;
    }

    construct_by : (h : Option (ℕ × Heap)) (ms rs : List ℕ) → Builds K w.cells w.regions m ρ χ (region_for (program f) u x) (cell_for u.frame k (arguments_of (four (suc a) b c d))) h ms rs
        → After B A F K qs closed (step (construct x k (four (suc a) b c d))) u fs m (room_or (ltb (cells_held m.alive m.cells) K.cells) Cells)
        (constructed_by w x (T.successor i) ms rs h)
    unfolding room_or constructed_by Run.take state_in within build_in built_value with_built arguments_of trimmed trim_onto four_words with_frame giving with_cell
    construct_by None ms rs (stops_11 e) = rw e halts
    construct_by (Some (p, h)) ms rs (builds e R) =
        let t = later_cell p in
        let G' = frame_more B A t G in
        rw e (onward refl
        (record { newest = set_frame B A G' x v p (cell_at (length m.cells)) (stands_new m new χ p); waiting = set_waiting B A G' x v p (waiting_more B A t W) })
        (record {
          represents = R;
          cell_room = Q.cell_room;
          printed = same_printed;
          frame_room = omega (arith, Q.frame_room, length-set w.frames (value_place w.top x) p);
          print_room = Q.print_room;
        }))
      where
        same_printed : Printed qs w.prints w.printed (with_cell m new).printed
        same_printed = Q.printed

    pub argument_words_law : StandEach χ (length m.cells) (words_of (contents_of w k (suc a) b c d)) (map u.frame.values (arguments_of (four (suc a) b c d)))
    unfolding contents_of
    argument_words_law =
        term_words_law χ (length m.cells) (value_of w) _ u.frame.values k (suc a) b c d (λ y h. variable_top _ _ (laws A u.frame.procedure) y (vs y h))
        (each_argument χ (length m.cells) (value_of w) u.frame.values (four (suc a) b c d) (λ y h. value_means B A F K qs w u fs m ρ χ i G W Q y (vs y h)))

    pub functor_word : (contents_of w k (suc a) b c d).functor ≡ k
    unfolding contents_of
    functor_word = term_functor_law (value_of w) _ k (suc a) b c d

    pub construct_after : After B A F K qs closed (step (construct x k (four (suc a) b c d))) u fs m
        (room_or (is_none (arguments_of (four (suc a) b c d)) or ltb (cells_held m.alive m.cells) K.cells) Cells) (constructs w x (T.successor i) r k (suc a) b c d)
    unfolding constructs constructed cell_for region_for is_none ◌or◌
    construct_after =
        rw (first_argument a b c d, is, region_word (region_of (sig f u.frame.procedure) x) o l)
        (construct_by (built w.heap w.cells) _ _ (of_functor k (contents_of w k (suc a) b c d) functor_word argument_words_law))
      where
        of_functor : (t : ℕ) (C : Contents) → C.functor ≡ t → StandEach χ (length m.cells) (words_of C) (map u.frame.values (arguments_of (four (suc a) b c d)))
            → Builds K w.cells w.regions m ρ χ (region_for (program f) u x)
            (record { functor = t; contents = map u.frame.values (arguments_of (four (suc a) b c d)) }) (built w.heap w.cells)
            (built_cells w.heap w.cells w.regions (ρ (region_for (program f) u x)) C)
            (built_regions w.heap w.cells w.regions (ρ (region_for (program f) u x)))
        of_functor t C e s = rw (← e) (build_ok Q.represents (region_for (program f) u x) l C (map u.frame.values (arguments_of (four (suc a) b c d))) s)
