-- The pair of rows by which a column splits a group, and the groups that it does not split.
use Rattle.std.proofs.Common.{◌≡◌, ℕ, ◌<◌, ◌≤◌, ◌+◌, ◌↔◌, Bool, true, false, cond, ◌||◌, refl, sym, ap, ◌∙◌, subst, arith, List, [], ◌∷◌, length, get_or, drop, suc, Option, Some, None, option_map, is_some, find, unwrap_or, IsNone}
use Rattle.std.specs.List.{list_any, All}
use Rattle.std.proofs.lemmas.Bool.{true≢false}
use Rattle.std.proofs.lemmas.List.{drop_all}
use Rattle.std.proofs.Math.Seq.{drop-cons}
use Rattle.col_set.specs.Lists.{Listed}
use Rattle.col_set.proofs.Places.{Contains-listed, Listed-contained, Listed-get_or}
use Rattle.rel_base.specs.CodeTable.{CodeTable}
use Rattle.rel_base.proofs.States.{All-from, All-listed}
use Rattle.stripped_partition.specs.AnyOrder.{AreGroupsOf}
use Rattle.stripped_partition.specs.SplitBy.{least, differ, is_split, split_pair, split_by, AgreesOn}
use Rattle.stripped_partition.proofs.Dependencies.{stripped-parts, split_by-none, none-split_by, together}
use Rattle.stripped_partition.proofs.Live.{live_within}

-- a test is met by some member exactly where one is found
any_found : (p : ℕ → Bool) (xs : List ℕ) → list_any p xs ≡ is_some (find p xs)
any_found p [] = refl
any_found p (x ∷ xs) = by (p x) (any_found p xs)
  where
    by : (b : Bool) → list_any p xs ≡ is_some (find p xs) → (b || list_any p xs) ≡ is_some (cond b (Some x) (find p xs))
    by true e = refl
    by false e = e

mapped : {X : Type 0} (f : ℕ → X) (o : Option ℕ) → is_some (option_map f o) ≡ is_some o
mapped f None = refl
mapped f (Some x) = refl

module _ (s : CodeTable) (a : ℕ) where
  -- what is found in a group, or nothing
  abbrev pub pair_in : List ℕ → Option (ℕ × ℕ)
  pair_in g = option_map (λ j. (least g, j)) (find (differ s a (least g)) g)

  found_split : (g : List ℕ) → is_split s a g ≡ is_some (pair_in g)
  found_split g = any_found (differ s a (least g)) g ∙ sym (mapped {X = ℕ × ℕ} (λ j. (least g, j)) (find (differ s a (least g)) g))

  pair_is : (g : List ℕ) → is_some (pair_in g) ≡ true → pair_in g ≡ Some (split_pair s a g)
  pair_is g e = by (find (differ s a (least g)) g) e
    where
      by : (o : Option ℕ) → is_some {T = ℕ × ℕ} (option_map (λ j. (least g, j)) o) ≡ true → (let pair : Option (ℕ × ℕ) = Some (least g, unwrap_or o (least g)) in option_map (λ j. (least g, j)) o ≡ pair)
      by None e = absurd (true≢false (sym e))
      by (Some j) e = refl

  -- no group before a place is split
  pub record Unsplit (groups : List (List ℕ)) (k : ℕ) : Type 0 where
    pub same : find (is_split s a) groups ≡ find (is_split s a) (drop k groups)

  at_place : (groups : List (List ℕ)) (k : ℕ) → k < length groups → find (is_split s a) (drop k groups) ≡ cond (is_split s a (get_or groups k [])) (Some (get_or groups k [])) (find (is_split s a) (drop (k + 1) groups))
  at_place groups k l =
      ap (find (is_split s a)) (drop-cons groups k [] l)
      ∙ ap (λ (gs : List (List ℕ)). cond (is_split s a (get_or groups k [])) (Some (get_or groups k [])) (find (is_split s a) gs)) (ap (λ (n : ℕ). drop n groups) (let e : suc k ≡ k + 1 = omega arith in e))

  pub unsplit_none : (groups : List (List ℕ)) → Unsplit groups 0
  unsplit_none groups = record { same = refl }

  pub unsplit_more : (groups : List (List ℕ)) (k : ℕ) (g : List ℕ) (pair : Option (ℕ × ℕ)) → k < length groups → g ≡ get_or groups k [] → pair ≡ pair_in g → is_some pair ≡ false → Unsplit groups k → Unsplit groups (k + 1)
  unsplit_more groups k g pair l e p none u = record {
    same = u.same ∙ at_place groups k l ∙ ap (λ b. cond b (Some (get_or groups k [])) (find (is_split s a) (drop (k + 1) groups)))
        (ap (is_split s a) (sym e) ∙ found_split g ∙ ap is_some (sym p) ∙ none);
  }

  pub split_here : (groups : List (List ℕ)) (k : ℕ) (g : List ℕ) (pair : Option (ℕ × ℕ)) → k < length groups → g ≡ get_or groups k [] → pair ≡ pair_in g → is_some pair ≡ true → Unsplit groups k → pair ≡ split_by s a groups
  unfolding split_by
  split_here groups k g pair l e p some u =
      let there : find (is_split s a) groups ≡ Some (get_or groups k []) = u.same ∙ at_place groups k l ∙ ap (λ b. cond b (Some (get_or groups k [])) (find (is_split s a) (drop (k + 1) groups)))
      (ap (is_split s a) (sym e) ∙ found_split g ∙ ap is_some (sym p) ∙ some) in
      p ∙ pair_is g (ap is_some (sym p) ∙ some) ∙ ap (λ (h : List ℕ). Some (split_pair s a h)) e ∙ sym (ap (option_map (split_pair s a)) there)

  pub split_nowhere : (groups : List (List ℕ)) (k : ℕ) (pair : Option (ℕ × ℕ)) → length groups ≤ k → pair ≡ None → Unsplit groups k → pair ≡ split_by s a groups
  unfolding split_by
  split_nowhere groups k pair l none u = none ∙ sym (ap (option_map (split_pair s a)) (u.same ∙ ap (find (is_split s a)) (drop_all k groups l)))

  -- nothing is answered exactly where every group agrees on the column
  pub none_agrees : (groups : List (List ℕ)) (pair : Option (ℕ × ℕ)) → AreGroupsOf s groups → pair ≡ split_by s a groups → IsNone pair ↔ All (AgreesOn s a) groups
  none_agrees groups pair of e = (onto, back)
    where
      is_none : (o : Option (ℕ × ℕ)) → is_some o ≡ false → o ≡ None
      is_none None f = refl
      is_none (Some x) f = absurd (true≢false f)

      first : (g : List ℕ) → Listed g groups → Listed (least g) g
      first g h = let two = (stripped-parts s of.columns g (of.are.only g h)).two in Listed-get_or g 0 0 (omega arith)

      onto : IsNone pair → All (AgreesOn s a) groups
      onto n = All-from (AgreesOn s a) groups (λ g h i j l m.
          let same = split_by-none s of.columns a groups (sym e ∙ is_none pair n) g h in
          sym (same i (Listed-contained i g l)) ∙ same j (Listed-contained j g m))

      back : All (AgreesOn s a) groups → IsNone pair
      back all = ap is_some (e ∙ none-split_by s of.columns a groups (λ g h i l. All-listed (AgreesOn s a) g groups all h (least g) i (Contains-listed (least g) g (first g h)) (Contains-listed i g l)))

  -- a row of a group is given
  pub given : (groups : List (List ℕ)) (k : ℕ) (g : List ℕ) → AreGroupsOf s groups → k < length groups → g ≡ get_or groups k [] → All (λ (row : ℕ). row < s.to) g
  given groups k g of l e = All-from (λ (row : ℕ). row < s.to) g (λ i h.
      let m : Listed g groups = subst (λ (x : List ℕ). Listed x groups) (sym e) (Listed-get_or groups k [] l) in
      let t = together s of.columns g i i (of.are.only g m) h h in
      (live_within s i t.0).1)
