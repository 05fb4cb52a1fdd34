-- Laws of `specs/Whole` that only proofs cite.
use Prim.Native.Nat.{ℕ, suc, ◌+◌, ◌*◌, ◌≤◌, ◌<◌}
use native.Mathlib.Omega.{arith}
use native.Mathlib.Decide.{dec_lt}
use lib.Seq.{length-take-le}
use mathlib.Core.List.{List, ◌∷◌, ◌++◌, []}
use mathlib.Core.Path.{◌≡◌, refl, ap, ap₂, sym, ◌∙◌}
use lib.ListN.{length, get_or, take, drop}
use Rattle.language.specs.Format.{record_bytes, max_records, max_bytes, header_kind, header_types}
use Rattle.language.specs.Lists.{front_written}
use Rattle.language.specs.File.{k_type, word, record_count}
use Rattle.language.specs.Tree.{Tree, plain, leads}
use Rattle.language.specs.Layout.{size, size_words, reference, word_list, lay, lay_words, written}
use Rattle.language.specs.Records.{zeros, chain_of, type_words, headed, program_tree}
use Rattle.language.specs.Annotation.{annotate}
use Rattle.language.specs.Answers.{program, file_of}
use Rattle.chains.specs.Layout.{written_length, length_of_program, program_fits, all_rows, lay_length, lay_words_length}
use Rattle.records.specs.Sizes.{byte_end}
use Rattle.chains.specs.Formed.{Formed, types_stand, program_types}
use Rattle.writer.specs.Laid.{linked}
use Rattle.writer.specs.Ready.{tree_at}
use Rattle.writer.specs.Skips.{Behind}
use Rattle.writer.specs.Trees.{types_tree}
use Rattle.writer.specs.Whole.{laid_written}
use Rattle.laying.specs.Lays.{Lays, lays_then, lays_before, lays_number, lays_leads, lays_span}
use Rattle.laying.specs.Heads.{lays_low, lays_zeros}
use Rattle.insertion.specs.Procedures.{procedures_tree}
use Rattle.insertion.specs.Whole.{HeaderStored}

behind_header : Behind 0 1 1
behind_header = record { fits = λ h. omega arith; over = λ h. absurd (omega arith) }

-- a header's words in front of types and procedures
header_words_law : (t u : Tree) {m e x y z : ℕ} → x ≡ reference m u → e ≡ m + size u → y ≡ reference 1 t → m ≡ 1 + size t → z ≡ linked 1 e
    → header_kind ∷ x ∷ y ∷ z ∷ 0 ∷ 0 ∷ 0 ∷ 0 ∷ []
    ≡ header_kind ∷ reference (suc 0 + size_words (leads t (plain (suc (size t + size u)) (zeros 4)))) u ∷ word_list 1 (leads t (plain (suc (size t + size u)) (zeros 4)))
unfolding word_list zeros size_words linked
header_words_law t u {m} {e} {x} {y} {z} ex ee ey em ez =
    let k : m ≡ suc 0 + (size t + 0) = omega arith in
    let n : z ≡ suc (size t + size u) = omega arith in
    ap₂ (λ v w. header_kind ∷ v ∷ w) (ex ∙ ap (λ j. reference j u) k) (ap₂ (λ v w. v ∷ w ∷ 0 ∷ 0 ∷ 0 ∷ 0 ∷ []) ey n)

headed_laid : {a b d g : List ℕ} {m e : ℕ} (t u : Tree) → Lays a b 1 m (lay t 1) → Lays b d m e (lay u m) → HeaderStored d g m e → Lays a g 0 e (lay (headed t u) 0)
unfolding all_rows headed lay
headed_laid {a} {b} {d} {g} {m} {e} t u L K H =
    let ws = leads t (plain (suc (size t + size u)) (zeros 4)) in
    let x : Lays a b 1 m (lay_words ws 1) = lays_leads t (plain (suc (size t + size u)) (zeros 4)) L (lays_number (suc (size t + size u)) (zeros 4) (lays_zeros b m 4)) in
    let k : 1 + length (lay_words ws 1) ≡ 1 + size_words ws = ap (λ j. 1 + j) (lay_words_length ws 1) in
    let p : Lays a d 1 e (lay_words ws 1 ++ lay u (1 + size_words ws)) = rw k at (lays_then (lay_words ws 1) (lay u) x K) in
    lays_before (header_kind ∷ reference (suc 0 + size_words ws) u ∷ word_list 1 ws) (λ c. lay_words ws c ++ lay u (c + size_words ws)) behind_header p H.stored
    (λ h o q.
    let l : e ≤ max_records = omega arith in
    let i = lays_span u H.first_spans K l in
    let j = lays_span t H.second_spans L (lays_low K l) in
    header_words_law t u i.0 i.1 j.0 j.1 (H.counts.is l))

module _ {f : List ℕ} (F : Formed f) where
  pub file_laid : {a b d g : List ℕ} {w m e : ℕ} → w ≡ word f 0 header_types → Lays a b 1 m (lay (tree_at f w) 1)
      → Lays b d m e (lay (procedures_tree (program f) (program f).procedures) m) → HeaderStored d g m e → Lays a g 0 e (lay (program_tree (annotate (program f))) 0)
  unfolding program_tree annotate procedures_tree
  file_laid ew L K H =
      let x : tree_at f (word f 0 header_types) ≡ chain_of k_type type_words (program f).types =
      types_tree F (types_stand F) ∙ ap (chain_of k_type type_words) (sym (program_types F)) in
      headed_laid (chain_of k_type type_words (program f).types) (procedures_tree (program f) (program f).procedures) (rw (ew, x) at L) K H

  pub types_below : {w : ℕ} → w ≡ word f 0 header_types → w < record_count f
  types_below e = rw e (types_stand F).below

-- how many records it has
module _ {a b : List ℕ} {r : ℕ} (t : Tree) (L : Lays a b 0 r (lay t 0)) where
  pub laid_fits : size t ≤ max_records → r ≡ size t
  laid_fits h = omega (arith, L.place.fits (omega (arith, lay_length t 0)), lay_length t 0)

  pub laid_over : max_records < size t → max_records < r
  laid_over h = L.place.over (omega (arith, lay_length t 0))

-- its bytes
file_length : (f : List ℕ) → length (file_of (annotate (program f))) ≡ record_bytes * size (program_tree (annotate (program f)))
unfolding file_of
file_length f = length_of_program (annotate (program f))

take_front : (s t : List ℕ) {n : ℕ} → n ≡ length s → take n (s ++ t) ≡ s
take_front [] t e = rw e refl
take_front (x ∷ s) t {n} e = rw e (ap (λ r. x ∷ r) (take_front s t refl))

pub file_written : (f : List ℕ) {a b : List ℕ} {r : ℕ} → ((j : ℕ) → get_or b j 0 < byte_end) → size (program_tree (annotate (program f))) ≤ max_records
    → record_bytes * size (program_tree (annotate (program f))) ≤ length a → Lays a b 0 r (lay (program_tree (annotate (program f))) 0)
    → b ≡ front_written (file_of (annotate (program f))) a
unfolding front_written file_of
file_written f {a} B l m L =
    let t = program_tree (annotate (program f)) in
    let n = lay_length t 0 in
    laid_written (program_fits (annotate (program f))) B m (L.room (omega (arith, n)) (omega (arith, n)))
    ∙ ap (λ k. written t ++ drop k a) (sym (written_length (program_fits (annotate (program f)))))

-- what was laid into memory for the longest file, as far as it goes
pub file_front : (f : List ℕ) {a b : List ℕ} {r : ℕ} → ((j : ℕ) → get_or b j 0 < byte_end) → max_bytes ≡ length a
    → Lays a b 0 r (lay (program_tree (annotate (program f))) 0) → r ≤ max_records → take (record_bytes * r) b ≡ file_of (annotate (program f))
unfolding front_written
file_front f {a} {b} {r} B n L h =
    let P = annotate (program f) in
    let l : size (program_tree P) ≤ max_records = elim (dec_lt max_records (size (program_tree P))) [ yes k ↦ absurd (omega (arith, laid_over (program_tree P) L k)) | no k ↦ omega arith ] in
    let e : r ≡ size (program_tree P) = laid_fits (program_tree P) L l in
    let m : record_bytes * r ≡ length (file_of P) = omega (arith, e, file_length f) in
    ap (take (record_bytes * r)) (file_written f B l (omega arith) L) ∙ take_front (file_of P) (drop (length (file_of P)) a) m

-- ---- a copy of the front part
pub front_copied : (l o : List ℕ) {front : List ℕ} (n : ℕ) → n ≤ length l → front ≡ take n l → front ++ drop n o ≡ front_written (take n l) o
unfolding front_written
front_copied l o n h e = rw e (ap (λ k. take n l ++ drop k o) (sym (length-take-le n l h)))
