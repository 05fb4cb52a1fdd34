-- What is gathered, variable by variable, stands for the lists of what is read and given.
use Prim.Native.Nat.{ℕ}
use mathlib.Core.Path.{◌≡◌, refl, sym, ap, ◌∙◌}
use mathlib.Core.Bool.{Bool, true, false, ◌&&◌, not}
use mathlib.Core.List.{List, ◌∷◌, ◌++◌, append-nil, append_assoc, []}
use borrow.Author.Tests.{ne_eqb}
use Rattle.sets.specs.Tests.{◌&◌, neg}
use Rattle.sets.specs.Sets.{member, single, ◌∪◌, single_zero}
use Rattle.sets.specs.SetLaws.{union_empty}
use Rattle.sets.specs.Members.{set_of}
use Rattle.sets.specs.declared.Set.{Set}
use Rattle.language.specs.Lists.{choose}
use Rattle.language.specs.Program.{Four, four_words, arguments_of, trimmed, in_mode, out_mode}
use Rattle.tables.specs.declared.Access.{Access}
use Rattle.accesses.specs.Ranged.{set_snoc, fresh_from, fresh, fresh_snoc, trim_fold}
use Rattle.accesses.specs.Gathering.{Gathers, four_given, four_read, give_all, given_in, no_access, passed_in, read_all, read_in}

-- ---- it has read the variables ys and given the variables xs
pub gathers_none : Gathers no_access [] []
unfolding no_access set_of fresh fresh_from
gathers_none = record { read = refl; given = refl; none_twice = refl }

module _ {a : Access} {ys xs : List ℕ} (h : Gathers a ys xs) where
  pub gathers_read : (y : ℕ) → Gathers (read_in a y) (ys ++ y ∷ []) xs
  unfolding read_in
  gathers_read y = record { read = ap (λ s. s ∪ single y) h.read ∙ sym (set_snoc ys y); given = h.given; none_twice = h.none_twice }

  pub gathers_give : (x : ℕ) → Gathers (given_in a x) ys (xs ++ x ∷ [])
  unfolding given_in
  gathers_give x =
      record {
        read = h.read;
        given = ap (λ s. s ∪ single x) h.given ∙ sym (set_snoc xs x);
        none_twice = rw (h.none_twice, h.given) (sym (fresh_snoc xs x));
      }

pub gathers_read_all : (zs : List ℕ) {a : Access} {ys xs : List ℕ} → Gathers a ys xs → Gathers (read_all a zs) (ys ++ zs) xs
unfolding read_all
gathers_read_all [] {a} {ys} {xs} h = rw (append-nil ys) h
gathers_read_all (z ∷ zs) {a} {ys} {xs} h = rw (append_assoc ys (z ∷ []) zs) at (gathers_read_all zs (gathers_read h z))

pub gathers_give_all : (zs : List ℕ) {a : Access} {ys xs : List ℕ} → Gathers a ys xs → Gathers (give_all a zs) ys (xs ++ zs)
unfolding give_all
gathers_give_all [] {a} {ys} {xs} h = rw (append-nil xs) h
gathers_give_all (z ∷ zs) {a} {ys} {xs} h = rw (append_assoc xs (z ∷ []) zs) at (gathers_give_all zs (gathers_give h z))

-- ---- the arguments of a construct or an arm: 0 is no variable
read_zero : (a : Access) → read_in a 0 ≡ a
unfolding read_in
read_zero a = rw (single_zero, union_empty a.reads)

and_yes : (b : Bool) → b & neg false ≡ b
unfolding ◌&◌ neg
and_yes true = refl
and_yes false = refl

give_zero : (a : Access) → given_in a 0 ≡ a
unfolding given_in member
give_zero a = rw (single_zero, union_empty a.gives, and_yes a.once)

pub four_read_law : (ws : Four) → Gathers (four_read ws) (arguments_of ws) []
unfolding four_read arguments_of read_all
four_read_law ws =
    let e = trim_fold read_in read_zero read_all (λ a. refl) (λ a x xs. refl) (four_words ws) no_access in
    rw e (gathers_read_all (trimmed (four_words ws)) gathers_none)

pub four_given_law : (ws : Four) → Gathers (four_given ws) [] (arguments_of ws)
unfolding four_given arguments_of give_all
four_given_law ws =
    let e = trim_fold given_in give_zero give_all (λ a. refl) (λ a x xs. refl) (four_words ws) no_access in
    rw e (gathers_give_all (trimmed (four_words ws)) gathers_none)

-- ---- what the code makes
and_not : (a b : Bool) → (a && not b) ≡ (a & neg b)
unfolding ◌&◌ neg
and_not true true = refl
and_not true false = refl
and_not false b = refl

pub given_is : (a : Access) (x : ℕ) {b : Bool} {s u : Set} → b ≡ member a.gives x → s ≡ single x → u ≡ a.gives ∪ s
    → ◌≡◌ {A = Access} (record { reads = a.reads; gives = u; once = a.once && not b }) (given_in a x)
unfolding given_in
given_is a x h i j = rw (j, i, h, and_not a.once (member a.gives x)) refl

-- ---- by the mode
module _ {m : ℕ} (a : Access) (y : ℕ) where
  pub pass_in : {r : Access} → m ≡ in_mode → r ≡ read_in a y → r ≡ passed_in m a y
  unfolding passed_in choose
  pass_in e h = h ∙ rw e refl

  pub pass_out : {r : Access} → m ≡ out_mode → r ≡ given_in a y → r ≡ passed_in m a y
  unfolding passed_in choose
  pass_out e h = h ∙ rw e refl

pub pass_none : (m y : ℕ) (a : Access) → (m ≡ in_mode → ⊥) → (m ≡ out_mode → ⊥) → a ≡ passed_in m a y
unfolding passed_in choose
pass_none m y a p q = rw (ne_eqb m in_mode p, ne_eqb m out_mode q) refl
