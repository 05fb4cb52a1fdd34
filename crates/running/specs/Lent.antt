-- What the runner program lends, as the definition has it.
use Rattle.std.specs.Prelude.{ℕ, ◌≡◌, List, length}
use Rattle.std.proofs.Common.{sym, ap, ◌∙◌}
use Rattle.language.specs.Machine.{Lent, runner_lent}
use Rattle.word_machine.specs.Machine.{lent_words}

-- words for 1,024 cells, 1,024 regions, 100 frames and 1,024 printed numbers; steps
abbrev pub cells_lent : ℕ
cells_lent = 8192

abbrev pub regions_lent : ℕ
regions_lent = 2048

abbrev pub frames_lent : ℕ
frames_lent = 13600

abbrev pub prints_lent : ℕ
prints_lent = 1024

abbrev pub steps_lent : ℕ
steps_lent = 1000000

lent : ℕ → ℕ → ℕ → ℕ → Lent
lent a b c d = record { cell_words = a; region_words = b; frame_words = c; print_words = d; steps = steps_lent }

-- they are what the definition lends
pub lent_is : (m rs fw ps : List ℕ) → cells_lent ≡ length m → regions_lent ≡ length rs → frames_lent ≡ length fw → prints_lent ≡ length ps
    → lent_words m rs fw ps steps_lent ≡ runner_lent
unfolding lent_words runner_lent lent
lent_is m rs fw ps a b c d =
    ap (λ k. lent k (length rs) (length fw) (length ps)) (sym a) ∙ ap (λ k. lent cells_lent k (length fw) (length ps)) (sym b)
    ∙ ap (λ k. lent cells_lent regions_lent k (length ps)) (sym c) ∙ ap (λ k. lent cells_lent regions_lent frames_lent k) (sym d)
