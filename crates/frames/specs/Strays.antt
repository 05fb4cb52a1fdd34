-- Records by their numbers alone: a number may be that of no record of the file. The words of such a record are 0.
use Rattle.std.specs.Prelude.{ℕ, ◌+◌, ◌*◌, ◌/◌, ◌≤◌, ◌<◌, ◌≡◌, List, length, get_or}
use Rattle.std.proofs.Common.{arith}
use Rattle.std.proofs.Math.ListN.{get_or-eq_default}
use Rattle.language.specs.Format.{record_bytes, max_records}
use Rattle.language.specs.File.{word, record_count}
use Rattle.chains.specs.Formed.{Formed, counted}

pub past_word : {f : List ℕ} → Formed f → (i k : ℕ) → record_count f ≤ i → word f i k ≡ 0
unfolding word
past_word {f} F i k l =
    let n = (counted F).bytes in
    let low : get_or f (record_bytes * i + 2 * k) 0 ≡ 0 = get_or-eq_default f 0 (omega arith) in
    let high : get_or f (record_bytes * i + 2 * k + 1) 0 ≡ 0 = get_or-eq_default f 0 (omega arith) in
    rw (low, high)

-- a place from the file's length on is no record's
pub past_length : {f : List ℕ} → Formed f → (i : ℕ) → length f / record_bytes ≤ i → record_count f ≤ i
past_length {f} F i l = let n = (counted F).bytes in omega arith

pub in_length : {f : List ℕ} → Formed f → (i : ℕ) → i < length f / record_bytes → i < record_count f
in_length {f} F i l = let n = (counted F).bytes in omega arith

-- a record that the file has is whole
pub whole : {f : List ℕ} → Formed f → (i : ℕ) → i < record_count f → (i < max_records) × (record_bytes * i + record_bytes ≤ length f)
whole {f} F i l = let n = counted F in (omega (arith, n.most), omega (arith, n.bytes))
