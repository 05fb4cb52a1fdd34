-- The header with what its words lead to, then the procedures, are the whole.
use Prim.Native.Nat.{ℕ, suc, ◌+◌, ◌*◌, ◌≤◌, ◌<◌}
use native.Mathlib.Omega.{arith}
use mathlib.Core.List.{List, ◌++◌}
use mathlib.Core.Path.{◌≡◌, ap, sym, ◌∙◌}
use lib.ListN.{length, get_or, drop}
use Rattle.language.specs.Format.{header_procedures, record_bytes}
use Rattle.language.specs.File.{word, record_count}
use Rattle.language.specs.Tree.{read_record, read_tree, tree_of}
use Rattle.language.specs.Layout.{size, size_words, lay, written}
use Rattle.records.specs.Sizes.{byte_end}
use Rattle.chains.specs.Layout.{tree_size, tree_fits}
use Rattle.chains.specs.Formed.{Formed, counted, procedures_stand}
use Rattle.writer.specs.Laid.{Laid, laid_then}
use Rattle.writer.specs.Ready.{Wrote, tree_at, uses_at, words_at, front_to, ChainReady, RecordReady}
use Rattle.writer.proofs.ReadyLaws.{front, front_of, front_to_law, front_length}
use Rattle.writer.specs.Whole.{laid_written}

-- ---- the whole: the header with what its words lead to, then the procedures
whole_size : {f : List ℕ} → Formed f → record_count f ≡ suc (size_words (words_at f 0) + size (tree_at f (word f 0 header_procedures)))
unfolding tree_of read_tree read_record size words_at uses_at tree_at
whole_size {f} F = sym (tree_size f F.header F.form)

whole_lay : (f : List ℕ) → lay (tree_of f) 0 ≡ front f 0 0 ++ lay (tree_at f (word f 0 header_procedures)) (0 + length (front f 0 0))
unfolding tree_of read_tree read_record lay front front_of words_at uses_at tree_at
whole_lay f =
    let e : suc 0 + size_words (words_at f 0) ≡ 0 + length (front f 0 0) = omega (arith, front_length f 0 0) in
    ap (λ d. front f 0 0 ++ lay (tree_at f (word f 0 header_procedures)) d) e

module _ {f : List ℕ} (a : List ℕ) (F : Formed f) (m : record_bytes * record_count f ≤ length a) where
  pub header_ready : RecordReady f 0 0 (length a)
  header_ready =
      let n = counted F in
      record { formed = F; below = n.some; room = omega (arith, whole_size F); few = omega (arith, whole_size F, n.most) }

  module _ {b : List ℕ} {c w : ℕ} (g : w ≡ word f 0 header_procedures) (M : Wrote a b 0 c (front_to f 0 w 0)) where
    N : Wrote a b 0 c (front f 0 0)
    N = rw (front_to_law F 0 0 (counted F).some g) at M

    pub procedures_ready : ChainReady f w c (length b)
    procedures_ready =
        let n = counted F in
        let q = front_length f 0 0 in
        rw g (record {
          formed = F;
          below = (procedures_stand F).below;
          room = omega (arith, whole_size F, N.next, q, N.laid.same);
          few = omega (arith, whole_size F, N.next, q, n.most);
        })

    pub whole_written : {d : List ℕ} {r : ℕ} → ((j : ℕ) → get_or d j 0 < byte_end) → Wrote b d c r (lay (tree_at f w) c)
        → d ≡ written (tree_of f) ++ drop (record_bytes * record_count f) a
    whole_written {d} B K =
        let n = tree_size f F.header F.form in
        let L : Laid a d 0 (lay (tree_of f) 0) = rw (whole_lay f, ← N.next, sym g) (laid_then (sym N.next) N.laid K.laid) in
        laid_written (tree_fits f F.header F.form) B (omega (arith, n)) L ∙ ap (λ s. written (tree_of f) ++ drop (record_bytes * s) a) n
