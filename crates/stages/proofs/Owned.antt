-- Each goal and arm belongs to the procedure that `owners` says, and what the stages prepare.
use Prim.Native.Nat.{ℕ, ◌≤◌}
use mathlib.Core.Bool.{Bool, true}
use mathlib.Core.List.{List, ◌++◌}
use mathlib.Core.Path.{◌≡◌, refl, ap}
use native.Mathlib.Omega.{arith}
use borrow.Author.Tests.{leb-true}
use lib.ListN.{length, length-append}
use Rattle.sets.specs.Tests.{and_true}
use Rattle.language.specs.Format.{max_procedures}
use Rattle.language.specs.File.{k_switch, k_if, k_try, k_goal}
use Rattle.language.specs.Lists.{among}
use Rattle.language.specs.Typing.{typing_ok}
use Rattle.language.specs.Answers.{program}
use Rattle.chains.specs.Layout.{all_rows}
use Rattle.chains.specs.Formed.{Formed}
use Rattle.chains.specs.Is.{arm_is}
use Rattle.chains.specs.Shapes.{by_number}
use Rattle.owners.specs.Owner.{owners_of, owner_of}
use Rattle.owners.specs.Owners.{owners_length, listed_owner, goals_owned, switch_owned, if_owned, try_owned, arm_owned, procedure_record, procedure_first}
use Rattle.accesses.specs.Noting.{AllNoted, noted_accessed}
use Rattle.called.specs.Linked.{OwnersIn}
use Rattle.regions.specs.Here.{Given}
use Rattle.regions.specs.Rowed.{AfterPass, passed_accessed, passed_effected}
use Rattle.tables.specs.Window.{FileTable}
use Rattle.tables.specs.Filled.{Owning, Prepared}

-- of the record that a word leads to
moved : (f : List ℕ) {q w j : ℕ} → j ≡ w → ((w ≡ 0 → ⊥) → owner_of f w ≡ q) → (j ≡ 0 → ⊥) → owner_of f j ≡ q
moved f e h = rw e h

pub owning : {f : List ℕ} → Formed f → Owning f (owner_of f)
unfolding all_rows procedure_record
owning {f} F = record {
  to_body = λ q l j e z. moved f e (procedure_first F q l) z;
  to_next = λ i s z j e n. goals_owned F s z e n;
  to_then = λ i k j e n. moved f e (if_owned F refl (by_number f i (k_goal k_if) refl k)).to_then n;
  to_else = λ i k j e n. moved f e (if_owned F refl (by_number f i (k_goal k_if) refl k)).to_else n;
  to_condition = λ i k j e n. moved f e (try_owned F refl (by_number f i (k_goal k_try) refl k)).to_condition n;
  to_try_then = λ i k j e n. moved f e (try_owned F refl (by_number f i (k_goal k_try) refl k)).to_then n;
  to_try_else = λ i k j e n. moved f e (try_owned F refl (by_number f i (k_goal k_try) refl k)).to_else n;
  to_arms = λ i k j e n. moved f e (switch_owned F refl (by_number f i (k_goal k_switch) refl k)).to_arms n;
  arm_goals_law = λ i s z j e n. moved f e (arm_owned F refl (arm_is s z)).to_goals n;
  arm_next = λ i s z j e n. moved f e (arm_owned F refl (arm_is s z)).to_next n;
}

-- ---- the table of owners
pub given : {f table owners : List ℕ} (behind : List ℕ) → Formed f → typing_ok (program f) ≡ true → FileTable f table → owners ≡ owners_of f ++ behind → Given f table owners
given {f} behind F t w e = record { formed = F; typed = t; windows = w; owned = λ i l. listed_owner f i behind e l }

pub owners_in : {f owners : List ℕ} (behind : List ℕ) → owners ≡ owners_of f ++ behind → OwnersIn f owners
owners_in {f} behind e = record {
  fits = omega (arith, ap length e, length-append (owners_of f) behind, owners_length f);
  owner = λ i q. listed_owner f i behind e q;
}

few_procedures : (f : List ℕ) → typing_ok (program f) ≡ true → length (program f).procedures ≤ max_procedures
unfolding typing_ok among
few_procedures f e = leb-true _ _ (and_true (and_true (and_true e).1).0).1

pub prepared : {f table m rows : List ℕ} {b : Bool} → Formed f → typing_ok (program f) ≡ true → FileTable f table → AllNoted f m → AfterPass f m b rows → b ≡ true
    → Prepared f table rows
prepared {f} F t w n p y = record {
  owner = owner_of f;
  few = few_procedures f t;
  windows = w;
  accessed = passed_accessed p (noted_accessed n);
  effected = passed_effected p y;
  owning = owning F;
}
