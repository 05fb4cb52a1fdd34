-- The checker on creates, removes and a step with its creates: what it carries on.
use Rattle.std.specs.Prelude.{ℕ, ◌≤◌, ◌≡◌, List, [], ◌⊎◌}
use Rattle.std.proofs.Math.Path.{refl, sym, ap}
use Rattle.std.proofs.Common.{◌∙◌, inl, inr, arith}
use Rattle.std.proofs.Math.Bool.{true, false}
use Rattle.std.proofs.Math.Logic.{⊎_elim}
use Rattle.sets.specs.Tests.{truth, clash, false_of, true_and}
use Rattle.sets.specs.Sets.{member, single, ◌∪◌, ◌∖◌, subset, apart, Small, single_in, union_left, union_right, union_in, difference_mk, difference_in, subset_in, subset_mk}
use Rattle.sets.specs.SetLaws.{empty_subset, single_subset, union_empty, union_assoc, apart_in, apart_mk, small_top, small_difference}
use Rattle.sets.specs.Members.{members, set_of, in_list, cons_here, cons_later, members_in}
use Rattle.sets.specs.MemberLaws.{keep_mk, set_of_members}
use Rattle.sets.specs.Rising.{Rising, rising_nil, rising_cons, rising_above, members_rising}
use Rattle.sets.specs.declared.Set.{Set}
use Rattle.language.specs.Program.{Step, create, remove, Goals, done, ◌then◌, ◌before◌, Signature, Program}
use Rattle.language.specs.Values.{access, accessing, reads, gives}
use Rattle.language.specs.Regions.{reach}
use Rattle.language.specs.Lifetimes.{kept, wanted, effect, held_after}
use Rattle.language.specs.Annotation.{creates, removes, removing}
use Rattle.language.specs.Checking.{Carried, broken, carries, require_rule, carry_on, sound_given, sound_without, step_rules, check_step, check_goals, check_goal}
use Rattle.laws.specs.MoreSets.{empty_in, difference_empty, empty_apart, apart_empty, single_apart, difference_union, difference_difference}
use Rattle.placement.specs.Combine.{carry_same}
use Rattle.placement.specs.Wanted.{kept_wanted, reach_wanted}

-- a walk of the checker that ends with exactly h held, and with all of l sound
pub record Passes (l h : Set) (c : Carried) : Type 0 where
  pub sound : Set
  pub is : c ≡ carries h sound
  pub covers : subset l sound ≡ true

pub passes_by : {l h k : Set} {c d : Carried} → c ≡ d → h ≡ k → Passes l h d → Passes l k c
passes_by e q W = record { sound = W.sound; is = e ∙ W.is ∙ ap (λ h. carries h W.sound) q; covers = W.covers }

pub passes_on : {l k m n : Set} {c : Carried} (f : Set → Set → Carried) → Passes l k c
    → ((s : Set) → subset l s ≡ true → Passes m n (f k s)) → Passes m n (carry_on c f)
unfolding carry_on
passes_on f W h = let N = h W.sound W.covers in record { sound = N.sound; is = rw W.is N.is; covers = N.covers }

module _ (P : Program) (S : Signature) where
  carry_assoc : (c : Carried) (f g : Set → Set → Carried) → carry_on (carry_on c f) g ≡ carry_on c (λ h s. carry_on (f h s) g)
  unfolding carry_on
  carry_assoc broken f g = refl
  carry_assoc (carries h s) f g = refl

  pub check_before : (gs hs : Goals) (held sound : Set)
      → check_goals P S (gs before hs) held sound ≡ carry_on (check_goals P S gs held sound) (λ h s. check_goals P S hs h s)
  unfolding check_goals ◌before◌ carry_on
  check_before done hs held sound = refl
  check_before (g then gs) hs held sound =
      carry_same (check_goal P S g held sound) (λ h s. check_before gs hs h s) ∙ sym (carry_assoc (check_goal P S g held sound) _ _)

  -- ---- sound variables
  sound_given_law : (xs held sound : Set) (x : ℕ) → member xs x ≡ true → x ≤ 64 → subset (reach S x) held ≡ true
      → member (sound_given S xs held sound) x ≡ true
  unfolding sound_given
  sound_given_law xs held sound x m h e = union_right (sound ∖ xs) _ x (keep_mk (λ x. subset (reach S x) held) xs x m h e)

  sound_stays : (xs held rs sound : Set) (x : ℕ) → member xs x ≡ false → member sound x ≡ true → x ≤ 64 → apart (reach S x) rs ≡ true
      → member (sound_given S xs held (sound_without S rs sound)) x ≡ true
  unfolding sound_given sound_without
  sound_stays xs held rs sound x n m h e = union_left _ _ x (difference_mk _ xs x (keep_mk (λ x. apart (reach S x) rs) sound x m h e) n)

  -- a step that keeps the rules: given variables have their reach held, the others were sound and lose nothing
  pub step_passes : (g : Step) (held sound l : Set) → step_rules P S g held sound ≡ true → Small l
      → ((x : ℕ) → member l x ≡ true → member (gives P g) x ≡ true → subset (reach S x) (held_after P S g held) ≡ true)
      → ((x : ℕ) → member l x ≡ true → member (gives P g) x ≡ false → (member sound x ≡ true) × (apart (reach S x) (effect P S g).ends ≡ true))
      → Passes l (held_after P S g held) (check_step P S g held sound)
  unfolding check_step require_rule
  step_passes g held sound l e t given others = record {
    sound = sound_given S (gives P g) (held_after P S g held) (sound_without S (effect P S g).ends sound);
    is = rw e;
    covers = subset_mk l _ (λ x m. go x m (truth (member (gives P g) x)));
  }
    where
      go : (x : ℕ) → member l x ≡ true → (member (gives P g) x ≡ true) ⊎ (member (gives P g) x ≡ false)
          → member (sound_given S (gives P g) (held_after P S g held) (sound_without S (effect P S g).ends sound)) x ≡ true
      go x m (inl i) = sound_given_law _ _ _ x i (small_top l t x m) (given x m i)
      go x m (inr i) = let o = others x m i in sound_stays _ _ _ sound x i o.0 (small_top l t x m) o.1

  -- ---- one create, one remove, and lists of them in rising order
  none_given : (x : ℕ) → member (set_of []) x ≡ true → ⊥
  unfolding set_of
  none_given x m = empty_in _ refl x m

  reach_apart_law : (l : Set) (x r : ℕ) → Small l → member l x ≡ true → member (wanted S l) r ≡ false → apart (reach S x) (single r) ≡ true
  reach_apart_law l x r t m n =
      apart_mk (reach S x) (single r)
      (λ u i. false_of (λ j. clash (subset_in _ _ (reach_wanted S l x m (small_top l t x m)) u i)
      (ap (member (wanted S l)) (sym (single_in r u j)) ∙ n)))

  remove_passes : (r : ℕ) (held sound l : Set) → Small l → subset l sound ≡ true → member held r ≡ true → member (wanted S l) r ≡ false
      → Passes l (held ∖ single r) (check_step P S (remove r) held sound)
  unfolding step_rules effect held_after reads gives access accessing set_of
  remove_passes r held sound l t c m n =
      passes_by refl (union_empty (held ∖ single r))
      (step_passes (remove r) held sound l
      (true_and (empty_subset sound)
      (true_and (single_subset r held m) (true_and (single_apart r (kept S) not_kept) (true_and (empty_apart held) refl))))
      t (λ x i j. absurd (none_given x j)) (λ x i j. (subset_in l sound c x i, reach_apart_law l x r t i n)))
    where
      not_kept : member (kept S) r ≡ false
      not_kept = false_of (λ i. clash (subset_in _ _ (kept_wanted S l) r i) n)

  create_passes : (r : ℕ) (held sound l : Set) → Small l → subset l sound ≡ true → member held r ≡ false
      → Passes l (held ∪ single r) (check_step P S (create r) held sound)
  unfolding step_rules effect held_after reads gives access accessing set_of
  create_passes r held sound l t c n =
      passes_by refl (ap (λ s. s ∪ single r) (difference_empty held))
      (step_passes (create r) held sound l
      (true_and (empty_subset sound)
      (true_and (empty_subset held) (true_and (empty_apart (kept S)) (true_and (single_apart r held n) refl))))
      t (λ x i j. absurd (none_given x j)) (λ x i j. (subset_in l sound c x i, apart_empty (reach S x))))

  removes_pass : {m : ℕ} {rs : List ℕ} → Rising m rs → (held sound l : Set) → Small l → subset l sound ≡ true
      → ((r : ℕ) → in_list r rs ≡ true → (member held r ≡ true) × (member (wanted S l) r ≡ false))
      → Passes l (held ∖ set_of rs) (check_goals P S (removes rs) held sound)
  unfolding removes check_goals check_goal set_of
  removes_pass rising_nil held sound l t c f = record { sound = sound; is = ap (λ h. carries h sound) (sym (difference_empty held)); covers = c }
  removes_pass (rising_cons {x = r} {xs = rs} _ R) held sound l t c f =
      let o = f r (cons_here r r rs refl) in
      passes_by refl (difference_union held (single r) (set_of rs))
      (passes_on _ (remove_passes r held sound l t c o.0 o.1) (λ s d. removes_pass R (held ∖ single r) s l t d rest))
    where
      rest : (n : ℕ) → in_list n rs ≡ true → (member (held ∖ single r) n ≡ true) × (member (wanted S l) n ≡ false)
      rest n i =
          let p = f n (cons_later n r rs i) in
          let q = rising_above R n i in
          (difference_mk held (single r) n p.0 (false_of (λ j. let e = single_in r n j in omega arith)), p.1)

  creates_pass : {m : ℕ} {rs : List ℕ} → Rising m rs → (held sound l : Set) → Small l → subset l sound ≡ true
      → ((r : ℕ) → in_list r rs ≡ true → member held r ≡ false) → Passes l (held ∪ set_of rs) (check_goals P S (creates rs) held sound)
  unfolding creates check_goals check_goal set_of
  creates_pass rising_nil held sound l t c f = record { sound = sound; is = ap (λ h. carries h sound) (sym (union_empty held)); covers = c }
  creates_pass (rising_cons {x = r} {xs = rs} _ R) held sound l t c f =
      passes_by refl (union_assoc held (single r) (set_of rs))
      (passes_on _ (create_passes r held sound l t c (f r (cons_here r r rs refl))) (λ s d. creates_pass R (held ∪ single r) s l t d rest))
    where
      rest : (n : ℕ) → in_list n rs ≡ true → member (held ∪ single r) n ≡ false
      rest n i =
          let q = rising_above R n i in
          false_of (λ j. ⊎_elim (λ k. clash k (f n (cons_later n r rs i))) (λ k. let e = single_in r n k in omega arith) (union_in held _ n j))

  -- "remove what is held and not wanted, in rising number": what is wanted stays, and what is live stays sound
  pub removing_passes : (held sound l : Set) → Small held → Small l → subset l sound ≡ true
      → Passes l (removing held (wanted S l)).held (check_goals P S (removing held (wanted S l)).goals held sound)
  unfolding removing
  removing_passes held sound l b t c =
      passes_by refl
      (ap (λ s. held ∖ s) (set_of_members (held ∖ wanted S l) (small_difference (wanted S l) b)) ∙ difference_difference held (wanted S l))
      (removes_pass (members_rising (held ∖ wanted S l)) held sound l t c (λ r i. difference_in held (wanted S l) r (members_in _ r i).0))

  pub creating_passes : (held sound l made : Set) → Small made → Small l → subset l sound ≡ true → apart made held ≡ true
      → Passes l (held ∪ made) (check_goals P S (creates (members made)) held sound)
  creating_passes held sound l made b t c a =
      passes_by refl (ap (λ s. held ∪ s) (set_of_members made b))
      (creates_pass (members_rising made) held sound l t c (λ r i. apart_in made held a r (members_in made r i).0))
