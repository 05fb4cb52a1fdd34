-- All windows fit: every variable and every region is a record of its own.
use Rattle.std.specs.Prelude.{ℕ, ◌+◌, ◌*◌, ◌≤◌, ◌<◌, true, List, [], ◌∷◌, ◌≡◌, length}
use Rattle.std.proofs.Common.{arith}
use Rattle.language.specs.File.{k_region, record_count}
use Rattle.language.specs.Layout.{size}
use Rattle.language.specs.Program.{Region, Signature, Procedure}
use Rattle.language.specs.Records.{chain_of, region_words}
use Rattle.language.specs.Typing.{typing_ok}
use Rattle.language.specs.Answers.{program}
use Rattle.language.specs.Format.{max_procedures}
use Rattle.chains.specs.Layout.{program_size, chain_size, signature_size, procedures_size, program_records}
use Rattle.region_graph.specs.Typed.{procedures_count}
use Rattle.tables.specs.TablePlaces.{file_words, head_size, window_words}
use Rattle.chains.specs.Formed.{Formed, counted}

-- the variables and regions that procedures declare
unfoldable pub parts_in : List Procedure → ℕ
parts_in [] = 0
parts_in (p ∷ ps) = length p.signature.variables + length p.signature.regions + parts_in ps

regions_few : (rs : List Region) → length rs ≤ size (chain_of k_region region_words rs)
regions_few [] = omega arith
regions_few (r ∷ rs) = omega (arith, chain_size k_region region_words r rs, regions_few rs)

parts_few : (ps : List Procedure) → parts_in ps ≤ procedures_size ps
unfolding parts_in procedures_size signature_size
parts_few [] = omega arith
parts_few (p ∷ ps) = omega (arith, regions_few p.signature.regions, parts_few ps)

pub parts_fit : {f : List ℕ} → Formed f → parts_in (program f).procedures < record_count f
parts_fit {f} F = omega (arith, program_size f F.header F.form, program_records (program f), parts_few (program f).procedures)

-- ---- the words of the windows
unfoldable pub window_size : Signature → ℕ
window_size S = window_words (length S.variables) (length S.regions)

unfoldable pub windows_size : List Procedure → ℕ
windows_size [] = 0
windows_size (p ∷ ps) = window_size p.signature + windows_size ps

windows_few : (ps : List Procedure) → windows_size ps ≤ head_size * length ps + 2 * parts_in ps
unfolding parts_in windows_size window_size
windows_few [] = omega arith
windows_few (p ∷ ps) = omega (arith, windows_few ps)

-- behind the 256 starts
pub windows_fit : {f : List ℕ} → Formed f → typing_ok (program f) ≡ true → max_procedures + windows_size (program f).procedures ≤ file_words
windows_fit {f} F T =
    let n = (procedures_count (program f) T).1 in
    let c = counted F in
    omega (arith, windows_few (program f).procedures, parts_fit F)
