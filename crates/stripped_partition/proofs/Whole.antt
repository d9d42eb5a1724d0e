-- The partition by no column: all live rows in one group.
use Rattle.std.proofs.Common.{inl, inr, ◌≡◌, ℕ, ◌-◌, ◌<◌, ◌≤◌, Bool, true, cond, refl, sym, ap, ap₂, ◌∙◌, subst, arith, List, [], ◌∷◌, length, get_or}
use Rattle.std.specs.List.{filter}
use Rattle.std.proofs.lemmas.List.{take_all}
use Rattle.col_set.specs.ColSet.{empty}
use Rattle.col_set.specs.Lists.{Listed}
use Rattle.col_set.proofs.Places.{Listed-get_or}
use Rattle.rel_base.specs.CodeTable.{CodeTable}
use Rattle.rel_base.specs.Shows.{live_numbers}
use Rattle.stripped_partition.specs.Groups.{cut, EndsRise, IsCut}
use Rattle.stripped_partition.specs.Stripped.{group_of, agree_on, stripped}
use Rattle.stripped_partition.proofs.Grouped.{same_ahead, Listed-grouped}
use Rattle.stripped_partition.proofs.Agreeing.{agree_same, agree_on-empty}
use Rattle.stripped_partition.proofs.Dependencies.{stripped-parts, Ahead-stripped}
use Rattle.rel_base.specs.declared.limits.TheConstants.{MOST_ROWS}

filter_all : (p : ℕ → Bool) (xs : List ℕ) → ((x : ℕ) → p x ≡ true) → filter p xs ≡ xs
filter_all p [] f = refl
filter_all p (x ∷ xs) f = ap₂ (λ b (ys : List ℕ). cond b (x ∷ ys) ys) (f x) (filter_all p xs f)

module _ (s : CodeTable) where
  -- a row agrees with each on no column
  group_all : (i : ℕ) → group_of (agree_on s empty) (live_numbers s) i ≡ live_numbers s
  group_all i = filter_all (agree_on s empty i) (live_numbers s) (agree_on-empty s i)

  group_is : (g : List ℕ) → Listed g (stripped s empty) → g ≡ live_numbers s
  group_is g h = let of = stripped-parts s empty g h in of.is ∙ group_all of.row

  -- two live rows or more are one group
  pub whole : 2 ≤ length (live_numbers s) → stripped s empty ≡ live_numbers s ∷ []
  unfolding stripped
  whole two = same_ahead (stripped s empty) (live_numbers s ∷ []) (Ahead-stripped s empty) ((λ h l. absurd l), tt) (λ g h. inl (group_is g h)) (λ g h. into g h)
    where
      first : ℕ
      first = get_or (live_numbers s) 0 0

      into : (g : List ℕ) → Listed g (live_numbers s ∷ []) → Listed g (stripped s empty)
      into g (inl e) = subst (λ (x : List ℕ). Listed x (stripped s empty)) (group_all first ∙ sym e)
          (Listed-grouped (agree_on s empty) (agree_same s empty) (live_numbers s) first (Listed-get_or (live_numbers s) 0 0 (omega arith)) (subst (λ (x : List ℕ). 2 ≤ length x) (sym (group_all first)) two))
      into g (inr h) = absurd h

  -- fewer are none
  pub nothing : length (live_numbers s) < 2 → stripped s empty ≡ []
  nothing few = none (stripped s empty) (λ g h. let two = (stripped-parts s empty g h).two in let e = ap length (group_is g h) in let f : length g ≡ length (live_numbers s) = e in omega arith)
    where
      none : (gs : List (List ℕ)) → ((g : List ℕ) → Listed g gs → ⊥) → gs ≡ []
      none [] f = refl
      none (g ∷ gs) f = absurd (f g (inl refl))

  -- as rows and ends
  pub nothing_cut : (rows ends live : List ℕ) → ends ≡ [] → live ≡ live_numbers s → length live < 2 → cut 0 rows ends ≡ stripped s empty
  unfolding cut
  nothing_cut rows ends live e l few = ap (cut 0 rows) e ∙ sym (nothing (let f = ap length l in omega arith))

  pub whole_cut : (rows ends : List ℕ) (n : ℕ) → rows ≡ live_numbers s → ends ≡ n ∷ [] → n ≡ length rows → 2 ≤ n → cut 0 rows ends ≡ stripped s empty
  unfolding cut
  whole_cut rows ends n r e l two =
      ap (cut 0 rows) e ∙ ap (λ (g : List ℕ). g ∷ []) (take_all (n - 0) rows (omega arith) ∙ r) ∙ sym (whole (let f = ap length r in omega arith))

  pub whole_is_cut : (rows ends : List ℕ) (n : ℕ) → rows ≡ live_numbers s → ends ≡ n ∷ [] → n ≡ length rows → 2 ≤ n → length rows ≤ MOST_ROWS → IsCut rows ends
  whole_is_cut rows ends n r e l two short = record {
    rise = subst (λ (es : List ℕ). EndsRise 0 (length rows) es) (sym e) ((omega arith), l);
    short = short;
  }
