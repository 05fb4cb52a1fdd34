-- A decoded record and its kind: what is known of record i once the code has read it and knows its constructor. Declared, Goals and Parts say
-- it for each constructor: cite those.
use Rattle.std.specs.Prelude.{ℕ, ◌<◌, ◌≤◌, ◌≡◌, List, true}
use Rattle.std.proofs.Common.{arith, ap, sym, ◌∙◌}
use Rattle.std.proofs.Math.Decide.{dec_lt}
use Rattle.std.proofs.lemmas.Bool.{false≢true}
use Rattle.language.specs.Lists.{nth}
use Rattle.language.specs.File.{Kind, Chain, row, kinds, kind_of, word, record_count}
use Rattle.language.specs.Format.{kind_word, next_word}
use Rattle.layout.specs.Table.{all_rows}
use Rattle.layout.specs.Passing.{Leads}
use Rattle.layout.specs.Chains.{real, next_stays}
use Rattle.layout.specs.Files.{header_kind_law}
use Rattle.records.specs.Words.{word_past}
pub use Rattle.records.specs.Records.{kind_in}
use Rattle.records.specs.Records.{record_as, record_at, record_as_law, record_kind}
use Rattle.records.specs.declared.Record.{Record}
use Rattle.chains.specs.Formed.{Formed, counted, Onward, leads_onward}

-- what was read is of the kind that record i has
pub kind_read : (f : List ℕ) (i : ℕ) {r : Record} → r ≡ record_at f i → kind_in r ≡ kind_of (word f i kind_word)
kind_read f i e = sym (record_kind f i e)

pub same_read : (f : List ℕ) (i : ℕ) {r : Record} {k : Kind} → r ≡ record_at f i → kind_of (word f i kind_word) ≡ k → r ≡ record_as k (word f i)
same_read f i e q = e ∙ record_as_law f i q

-- a record of a chain is neither the header nor past the end
pub real_here : {f : List ℕ} → Formed f → (i : ℕ) (k : Kind) → real (row k).chain ≡ true → kind_of (word f i kind_word) ≡ k → (0 < i) × (i < record_count f)
unfolding all_rows real kind_of kinds nth
real_here {f} F i k r e =
    let n = counted F in
    let first : i ≡ 0 → ⊥ = λ z. false≢true (ap (λ l. real (row l).chain) (sym (header_kind_law f F.header F.form) ∙ ap (λ j. kind_of (word f j kind_word)) (sym z) ∙ e) ∙ r) in
    let past : record_count f ≤ i → ⊥ = λ l. false≢true (ap (λ l. real (row l).chain) (ap kind_of (sym (word_past f i 0 (omega arith))) ∙ e) ∙ r) in
    (elim (dec_lt 0 i) [ yes p ↦ p | no p ↦ absurd (first (omega arith)) ], elim (dec_lt i (record_count f)) [ yes p ↦ p | no p ↦ absurd (past (omega arith)) ])

-- record i was read, and is of the kind k
pub record Known (f : List ℕ) (i : ℕ) (k : Kind) (r : Record) : Type 0 where
  pub some : 0 < i
  pub below : i < record_count f
  pub kind : kind_of (word f i kind_word) ≡ k
  pub same : r ≡ record_as k (word f i)
  pub next : Onward f (row k).chain i (word f i next_word)

pub known : {f : List ℕ} {i : ℕ} {k : Kind} {r : Record} → Formed f → real (row k).chain ≡ true → r ≡ record_at f i → kind_in r ≡ k → Known f i k r
known {f} {i} {k} F c e g =
    let q = sym (kind_read f i e) ∙ g in
    let h = real_here F i k c q in
    record {
      some = h.0;
      below = h.1;
      kind = q;
      same = same_read f i e q;
      next = leads_onward F h.0 h.1 (next_stays (word f) (record_count f) F.form i h.1 (row k).chain c (ap (λ l. (row l).chain) q));
    }

-- a field that refers is the word that refers
pub onward : {f : List ℕ} {c : Chain} {i : ℕ} {k : Kind} {r : Record} {v w : ℕ} → Formed f → Known f i k r → w ≡ v → Leads (word f) (record_count f) i c v → Onward f c i w
onward F h e l = rw e (leads_onward F h.some h.below l)
