-- What a call reads of its callee: the words of each procedure stand in its own four places.
use Rattle.std.specs.Prelude.{ℕ, ◌+◌, ◌*◌, ◌/◌, ◌%◌, ◌<◌, List, ◌≡◌, length, get_or, set}
use native.Mathlib.Omega.{arith}
use Rattle.std.proofs.Common.{◌∙◌}
use Rattle.std.proofs.Math.ListN.{length-set}
use Rattle.std.proofs.Math.Seq.{get_or-set_same, get_or-set_other}
use Rattle.sets.specs.Sets.{◌∪◌, stored}
use Rattle.language.specs.Format.{max_procedures}
use Rattle.tables.specs.Window.{variables_place, body_place, born_place, dead_place, kept_place, set_in}
use Rattle.tables.specs.Starts.{window_in}
use Rattle.plans.specs.Plan.{callee_row, callee_word, callee_body, callee_size, callee_held, callee_born, callees_words}
use Rattle.plans.specs.Passes.{put_callee, callees_of}
use Rattle.plans.specs.Rising.{StepMeets, met}

-- ---- one procedure
module _ (own : List ℕ) (q : ℕ) (t : List ℕ) where
  abbrev one : List ℕ
  one = set t (callee_row * q + callee_body) (get_or own body_place 0)

  abbrev two : List ℕ
  two = set one (callee_row * q + callee_size) (get_or own variables_place 0)

  abbrev held : ℕ
  held = stored (set_in own dead_place ∪ set_in own kept_place)

  abbrev three : List ℕ
  three = set two (callee_row * q + callee_held) held

  callee_length : length (put_callee own q t) ≡ length t
  unfolding put_callee
  callee_length =
      length-set three (callee_row * q + callee_born) (stored (set_in own born_place)) ∙ length-set two (callee_row * q + callee_held) held
      ∙ length-set one (callee_row * q + callee_size) (get_or own variables_place 0) ∙ length-set t (callee_row * q + callee_body) (get_or own body_place 0)

  callee_own : (p : ℕ) → (p / 4 ≡ q → ⊥) → get_or (put_callee own q t) p 0 ≡ get_or t p 0
  unfolding put_callee
  callee_own p n =
      get_or-set_other three (callee_row * q + callee_born) p (stored (set_in own born_place)) 0 (λ e. n (omega arith))
      ∙ get_or-set_other two (callee_row * q + callee_held) p held 0 (λ e. n (omega arith))
      ∙ get_or-set_other one (callee_row * q + callee_size) p (get_or own variables_place 0) 0 (λ e. n (omega arith))
      ∙ get_or-set_other t (callee_row * q + callee_body) p (get_or own body_place 0) 0 (λ e. n (omega arith))

  module _ (l : q < max_procedures) (h : length t ≡ callees_words) where
    long_one : length one ≡ callees_words
    long_one = length-set t (callee_row * q + callee_body) (get_or own body_place 0) ∙ h

    long_two : length two ≡ callees_words
    long_two = length-set one (callee_row * q + callee_size) (get_or own variables_place 0) ∙ long_one

    long_three : length three ≡ callees_words
    long_three = length-set two (callee_row * q + callee_held) held ∙ long_two

    callee_born_law : get_or (put_callee own q t) (callee_row * q + callee_born) 0 ≡ stored (set_in own born_place)
    unfolding put_callee
    callee_born_law = get_or-set_same three (callee_row * q + callee_born) (stored (set_in own born_place)) 0 (omega (arith, long_three))

    callee_held_law : get_or (put_callee own q t) (callee_row * q + callee_held) 0 ≡ held
    unfolding put_callee
    callee_held_law =
        get_or-set_other three (callee_row * q + callee_born) (callee_row * q + callee_held) (stored (set_in own born_place)) 0 (λ e. omega arith)
        ∙ get_or-set_same two (callee_row * q + callee_held) held 0 (omega (arith, long_two))

    callee_size_law : get_or (put_callee own q t) (callee_row * q + callee_size) 0 ≡ get_or own variables_place 0
    unfolding put_callee
    callee_size_law =
        get_or-set_other three (callee_row * q + callee_born) (callee_row * q + callee_size) (stored (set_in own born_place)) 0 (λ e. omega arith)
        ∙ get_or-set_other two (callee_row * q + callee_held) (callee_row * q + callee_size) held 0 (λ e. omega arith)
        ∙ get_or-set_same one (callee_row * q + callee_size) (get_or own variables_place 0) 0 (omega (arith, long_one))

    callee_body_law : get_or (put_callee own q t) (callee_row * q + callee_body) 0 ≡ get_or own body_place 0
    unfolding put_callee
    callee_body_law =
        get_or-set_other three (callee_row * q + callee_born) (callee_row * q + callee_body) (stored (set_in own born_place)) 0 (λ e. omega arith)
        ∙ get_or-set_other two (callee_row * q + callee_held) (callee_row * q + callee_body) held 0 (λ e. omega arith)
        ∙ get_or-set_other one (callee_row * q + callee_size) (callee_row * q + callee_body) (get_or own variables_place 0) 0 (λ e. omega arith)
        ∙ get_or-set_same t (callee_row * q + callee_body) (get_or own body_place 0) 0 (omega arith)

-- ---- all procedures
module _ (table t : List ℕ) (h : length t ≡ callees_words) (q : ℕ) (l : q < max_procedures) where
  abbrev step : ℕ → List ℕ → List ℕ
  step p u = put_callee (window_in table p) p u

  abbrev own : List ℕ
  own = window_in table q

  there : (u : List ℕ) × StepMeets step (λ p. p / 4) (λ i v p. callee_own (window_in table i) i v p) max_procedures 0 q t u
  there = met step (λ p. p / 4) (λ i v p. callee_own (window_in table i) i v p) (λ i v. callee_length (window_in table i) i v) max_procedures 0 q (omega arith) (omega arith) t

  word_is : (k v : ℕ) → k < callee_row → ((u : List ℕ) → length u ≡ callees_words → get_or (put_callee own q u) (callee_row * q + k) 0 ≡ v) → callee_word (callees_of table t) q k ≡ v
  unfolding callees_of
  word_is k v s g =
      let z : q % max_procedures ≡ q = omega arith in
      rw z (there.1.here (callee_row * q + k) (omega arith) ∙ g there.0 (there.1.long ∙ h))

  pub body_word : callee_word (callees_of table t) q callee_body ≡ get_or own body_place 0
  body_word = word_is callee_body (get_or own body_place 0) (omega arith) (λ u e. callee_body_law own q u l e)

  pub size_word : callee_word (callees_of table t) q callee_size ≡ get_or own variables_place 0
  size_word = word_is callee_size (get_or own variables_place 0) (omega arith) (λ u e. callee_size_law own q u l e)

  pub held_word : callee_word (callees_of table t) q callee_held ≡ stored (set_in own dead_place ∪ set_in own kept_place)
  held_word = word_is callee_held (stored (set_in own dead_place ∪ set_in own kept_place)) (omega arith) (λ u e. callee_held_law own q u l e)

  pub born_word : callee_word (callees_of table t) q callee_born ≡ stored (set_in own born_place)
  born_word = word_is callee_born (stored (set_in own born_place)) (omega arith) (λ u e. callee_born_law own q u l e)
