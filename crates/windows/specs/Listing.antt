-- Going through the procedures: the windows of those before record i are written below place `at`, those from it on are still to come.
use Prim.Native.Nat.{ℕ, suc, ◌+◌, ◌≤◌, ◌<◌}
use Rattle.std.proofs.Math.Decide.{ℕ_discrete}
use native.Mathlib.Omega.{arith}
use Rattle.std.specs.Prelude.{Bool, true, false, ◌&&◌, ◌≡◌, refl, get_or, set, drop}
use mathlib.Core.List.{List}
use Rattle.std.proofs.Math.Path.{sym, ap}
use Rattle.std.proofs.Common.{◌∙◌, get_or-drop}
use Rattle.std.proofs.Math.ListN.{length}
use Rattle.sets.specs.Tests.{◌&◌}
use Rattle.language.specs.File.{procedures, word}
use Rattle.language.specs.Lists.{all, nth}
use Rattle.language.specs.Program.{Procedure, procedure_at, signature_of}
use Rattle.language.specs.Typing.{typing_ok}
use Rattle.language.specs.Lifetimes.{classes_ok, declared_classes_ok}
use Rattle.language.specs.Answers.{program}
use Rattle.language.specs.Format.{header_procedures, next_word, procedure_goals, procedure_regions, procedure_variables, max_procedures}
use Rattle.laws.specs.Tests.{and_assoc, and_yes}
use Rattle.region_graph.specs.Typed.{no_procedure, signature_typed, procedures_count, regions_few}
use Rattle.tables.specs.TablePlaces.{file_words, body_place, regions_place, variables_place, window_words}
use Rattle.chains.specs.Formed.{Formed, procedures_at, goals_at, procedures_none, procedures_stand, program_procedures}
use Rattle.chains.specs.Elements.{variables_count, regions_count}
use Rattle.chains.specs.Shapes.{procedure_here}
use Rattle.chains.specs.Records.{chain_records}
use Rattle.tables.specs.Window.{WindowOf, FileTable}
use Rattle.windows.specs.Along.{Along, along_first, along_here, along_next}
use Rattle.windows.specs.Storing.{set_here, set_else}
use Rattle.windows.specs.Fitting.{window_size, windows_size, windows_fit}
use Rattle.windows.specs.Kept.{procedure_kept}
use Rattle.windows.specs.Classed.{SignatureAt}
use Rattle.windows.specs.Procedure.{WindowRoom, ProcedureListed}
use Rattle.windows.specs.declared.Listed.{Listed}

abbrev right_all : List Procedure → Bool
right_all ps = all (λ p. classes_ok p.signature) ps

-- ---- the window of procedure p ends at or below place `at`
pub record WindowBelow (f : List ℕ) (p at : ℕ) (t : List ℕ) : Type 0 where
  pub start : ℕ
  pub here : get_or t p 0 ≡ start
  pub low : max_procedures ≤ start
  pub ends : start + window_words (get_or (drop start t) variables_place 0) (get_or (drop start t) regions_place 0) ≤ at
  pub window : WindowOf f (procedure_at (program f) p) (drop start t)
  pub body : get_or (drop start t) body_place 0 ≡ word f (nth 0 (chain_records f (word f 0 header_procedures)) p) procedure_goals

filled_kept : (f : List ℕ) (p at to : ℕ) (t u : List ℕ) → WindowBelow f p at t → at ≤ to → get_or u p 0 ≡ get_or t p 0
    → ((k : ℕ) → max_procedures ≤ k → k < at → get_or u k 0 ≡ get_or t k 0) → WindowBelow f p to u
filled_kept f p at to t u h l e same = record {
  start = h.start;
  here = e ∙ h.here;
  low = h.low;
  ends = omega (arith, h.ends, agree variables_place (omega arith), agree regions_place (omega arith));
  window = procedure_kept (drop h.start t) (drop h.start u) agree h.window;
  body = agree body_place (omega arith) ∙ h.body;
}
  where
    agree : (k : ℕ) → k < window_words (get_or (drop h.start t) variables_place 0) (get_or (drop h.start t) regions_place 0)
        → get_or (drop h.start u) k 0 ≡ get_or (drop h.start t) k 0
    agree k m =
        get_or-drop h.start u k 0 ∙ same (h.start + k) (omega (arith, h.low)) (omega (arith, h.ends)) ∙ sym (get_or-drop h.start t k 0)

-- ---- table t is t₀ but for the first n starts and the windows of m words behind the 256 starts
pub record KeptElse (n m : ℕ) (t₀ t : List ℕ) : Type 0 where
  pub starts : (k : ℕ) → n ≤ k → k < max_procedures → get_or t k 0 ≡ get_or t₀ k 0
  pub behind : (k : ℕ) → max_procedures + m ≤ k → get_or t k 0 ≡ get_or t₀ k 0

-- .. those of the program's procedures
unfoldable pub OnlyWindows : List ℕ → List ℕ → List ℕ → Type 0
OnlyWindows f t₀ t = KeptElse (length (program f).procedures) (windows_size (program f).procedures) t₀ t

-- ---- q procedures are written in t, where t₀ stood, and `right` tells whether they are right
pub record Listing (f t₀ t : List ℕ) (right : Bool) (i q at : ℕ) : Type 0 where
  pub along : Along f procedures (word f 0 header_procedures) i q
  pub rest : (n : ℕ) → procedure_at (program f) (q + n) ≡ nth no_procedure (procedures_at f i) n
  pub count : q + length (procedures_at f i) ≡ length (program f).procedures
  pub low : max_procedures ≤ at
  pub long : file_words ≤ length t
  pub room : at + windows_size (procedures_at f i) ≤ file_words
  pub filled : (p : ℕ) → p < q → WindowBelow f p at t
  pub same : (right & right_all (procedures_at f i)) ≡ declared_classes_ok (program f)
  pub placed : at + windows_size (procedures_at f i) ≡ max_procedures + windows_size (program f).procedures
  pub starts : (k : ℕ) → q ≤ k → k < max_procedures → get_or t k 0 ≡ get_or t₀ k 0
  pub behind : (k : ℕ) → at ≤ k → get_or t k 0 ≡ get_or t₀ k 0

and_same : (a b : Bool) → (a && b) ≡ (a & b)
unfolding ◌&◌
and_same true b = refl
and_same false b = refl

pub listing_first : {f : List ℕ} (t : List ℕ) {i : ℕ} → Formed f → typing_ok (program f) ≡ true → file_words ≤ length t → i ≡ word f 0 header_procedures
    → Listing f t t true i 0 max_procedures
unfolding procedure_at declared_classes_ok ◌&◌
listing_first {f} t F T l e =
    rw e (record {
      along = along_first (procedures_stand F);
      rest = λ n. let z : 0 + n ≡ n = omega arith in ap (λ (k : ℕ). procedure_at (program f) k) z ∙ ap (λ (ps : List Procedure). nth no_procedure ps n) (program_procedures F);
      count = let g = ap length (program_procedures F) in omega arith;
      low = omega arith;
      long = l;
      room = let g = ap windows_size (program_procedures F) in omega (arith, windows_fit F T);
      filled = λ p l. absurd (omega arith);
      same = ap right_all (sym (program_procedures F));
      placed = let g = ap windows_size (program_procedures F) in omega arith;
      starts = λ k a b. refl;
      behind = λ k a. refl;
    })

module _ {f t₀ t : List ℕ} {right : Bool} {i q at : ℕ} (F : Formed f) (T : typing_ok (program f) ≡ true) (h : Listing f t₀ t right i q at) (z : i ≡ 0 → ⊥) where
  -- the procedure at record i is number q
  is_here : procedure_at (program f) q ≡ nth no_procedure (procedures_at f i) 0
  is_here = let e : q ≡ q + 0 = omega arith in ap (λ (k : ℕ). procedure_at (program f) k) e ∙ h.rest 0

  pub signature_here : SignatureAt f (word f i procedure_variables) (word f i procedure_regions) (signature_of (program f) q)
  unfolding signature_of nth
  signature_here =
      let e = is_here ∙ ap (λ (ps : List Procedure). nth no_procedure ps 0) (procedure_here F z h.along.stands).view in
      record {
        variables = ap (λ (p : Procedure). p.signature.variables) e;
        regions = ap (λ (p : Procedure). p.signature.regions) e;
        types = (program f).types;
        ok = signature_typed (program f) T q;
      }

  pub place_here : q < max_procedures
  place_here =
      let k = ap length (procedure_here F z h.along.stands).view in
      let m = (procedures_count (program f) T).1 in
      omega (arith, h.count)

  pub place_low : q < length t
  place_low = omega (arith, place_here, h.long)

  size_here : windows_size (procedures_at f i) ≡ window_size (signature_of (program f) q) + windows_size (procedures_at f (word f i next_word))
  unfolding windows_size signature_of nth
  size_here =
      ap windows_size (procedure_here F z h.along.stands).view
      ∙ ap (λ (p : Procedure). window_size p.signature + windows_size (procedures_at f (word f i next_word))) (sym (is_here ∙ ap (λ (ps : List Procedure). nth no_procedure ps 0) (procedure_here F z h.along.stands).view))

  pub room_here : {n : ℕ} → n ≡ length t → WindowRoom f i at n
  unfolding window_size
  room_here e =
      let s = signature_here in
      let v = ap length s.variables ∙ variables_count F (word f i procedure_variables) (procedure_here F z h.along.stands).to_variables.stands in
      let r = ap length s.regions ∙ regions_count F (word f i procedure_regions) (procedure_here F z h.along.stands).to_regions.stands in
      record {
        regions = omega (arith, regions_few s.types (signature_of (program f) q) s.ok, r);
        words = omega (arith, h.room, h.long, size_here, v, r, e);
      }

  module _ {l : Listed} (t₁ t₂ : List ℕ) (e₁ : t₁ ≡ set t q at) (P : ProcedureListed f (signature_of (program f) q) i at t₁ l t₂) where
    pub fits_here : at + l.size ≤ file_words
    fits_here = omega (arith, P.size, h.room, size_here)

    filled_here : WindowBelow f q (at + l.size) t₂
    unfolding signature_of window_size nth
    filled_here = record {
      start = at;
      here = P.before q (omega (arith, place_here, h.low)) ∙ set_here t place_low e₁ refl;
      low = h.low;
      ends = omega (arith, P.window.variable_count, P.window.region_count_law, P.size);
      window = record {
        window = P.window;
        body = ap (goals_at f) P.body ∙ sym (ap (λ (p : Procedure). p.body) (is_here ∙ ap (λ (ps : List Procedure). nth no_procedure ps 0) (procedure_here F z h.along.stands).view));
        stands = rw P.body (procedure_here F z h.along.stands).to_goals.stands;
      };
      body = P.body ∙ ap (λ (j : ℕ). word f j procedure_goals) (sym (along_here F h.along z));
    }

    filled_else : (p : ℕ) → p < q → WindowBelow f p (at + l.size) t₂
    filled_else p m =
        filled_kept f p at (at + l.size) t t₂ (h.filled p m) (omega arith)
        (P.before p (omega (arith, place_here, h.low)) ∙ set_else t q at e₁ p (λ o. omega arith))
        (λ k a b. P.before k b ∙ set_else t q at e₁ k (λ o. omega (arith, place_here)))

    pub listing_next : {right' : Bool} {w : ℕ} → length t₂ ≡ length t → right' ≡ (right && l.right) → w ≡ word f i next_word
        → Listing f t₀ t₂ right' w (q + 1) (at + l.size)
    unfolding all signature_of nth
    listing_next {right'} {w} k e o =
        let p = is_here ∙ ap (λ (ps : List Procedure). nth no_procedure ps 0) (procedure_here F z h.along.stands).view in
        let g = (procedure_here F z h.along.stands).view in
        rw o (record {
          along = along_next F h.along z refl;
          rest = λ n.
              let y : q + 1 + n ≡ q + suc n = omega arith in
              ap (λ (j : ℕ). procedure_at (program f) j) y ∙ h.rest (suc n) ∙ ap (λ (ps : List Procedure). nth no_procedure ps (suc n)) g;
          count = let j = ap length g in omega (arith, h.count);
          low = omega (arith, h.low);
          long = omega (arith, h.long, k);
          room = omega (arith, h.room, size_here, P.size);
          filled = λ n b. go n b (ℕ_discrete n q);
          same =
              ap (λ (a : Bool). a & right_all (procedures_at f (word f i next_word))) (e ∙ and_same right l.right)
              ∙ and_assoc right l.right (right_all (procedures_at f (word f i next_word)))
              ∙ ap (λ (a : Bool). right & (a & right_all (procedures_at f (word f i next_word)))) (P.right ∙ ap (λ (x : Procedure). classes_ok x.signature) p)
              ∙ ap (λ (ps : List Procedure). right & right_all ps) (sym g) ∙ h.same;
          placed = omega (arith, h.placed, size_here, P.size);
          starts = λ n a b. P.before n (omega (arith, h.low)) ∙ set_else t q at e₁ n (λ y. omega arith) ∙ h.starts n (omega arith) b;
          behind = λ n a. P.behind n a ∙ set_else t q at e₁ n (λ y. omega (arith, place_here, h.low)) ∙ h.behind n (omega arith);
        })
      where
        go : (n : ℕ) → n < q + 1 → Dec (n ≡ q) → WindowBelow f n (at + l.size) t₂
        go n b (yes y) = rw y filled_here
        go n b (no y) = filled_else n (omega (arith, y))

-- ---- all are
module _ {f t₀ t : List ℕ} {right : Bool} {i q at : ℕ} (h : Listing f t₀ t right i q at) (z : i ≡ 0) where
  pub listing_right : right ≡ declared_classes_ok (program f)
  unfolding all
  listing_right = sym (and_yes right) ∙ ap (λ (ps : List Procedure). right & right_all ps) (sym (procedures_none f z)) ∙ h.same

  all_filled : (p : ℕ) → p < length (program f).procedures → WindowBelow f p at t
  all_filled p l = let k = ap length (procedures_none f z) in h.filled p (omega (arith, h.count))

  pub listing_table : FileTable f t
  listing_table = record {
    starts = λ p l. let w = all_filled p l in omega (arith, w.here, w.ends, h.room, h.long);
    at = λ p l. let w = all_filled p l in rw w.here w.window;
    body = λ p l. let w = all_filled p l in rw w.here w.body;
  }

  pub listing_only : OnlyWindows f t₀ t
  unfolding OnlyWindows windows_size
  listing_only =
      let k = ap length (procedures_none f z) in
      let m = ap windows_size (procedures_none f z) in
      record { starts = λ n a. h.starts n (omega (arith, h.count)); behind = λ n a. h.behind n (omega (arith, h.placed)) }
