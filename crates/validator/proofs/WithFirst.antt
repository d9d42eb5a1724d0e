-- The comparisons of a group's rows with its first one, where no further column tells rows apart.
use Rattle.std.proofs.Common.{inl, inr, ◌≡◌, ◌≢◌, ◌⊎◌, ℕ, zero, suc, ◌+◌, ◌<◌, ◌≤◌, true, false, cond, leb, refl, sym, ap, ◌∙◌, subst, arith, List, [], ◌∷◌, length, get_or, take, Option, None}
use Rattle.std.proofs.lemmas.List.{take_more, take_all}
use Rattle.col_set.specs.declared.target.Target.{Target}
use Rattle.col_set.specs.Lists.{Listed, Listed-append_cases}
use Rattle.col_set.specs.Target.{has_target}
use Rattle.col_set.proofs.Places.{Climbs, Listed-get_or}
use Rattle.rel_base.specs.CodeTable.{CodeTable}
use Rattle.rel_base.specs.Shows.{code_agree}
use Rattle.validator.specs.Walk.{first_with, IsUniform, IsApart}
use Rattle.validator.proofs.Leads.{newer, newer_more, newer_take}

-- all rows of a group have one key, so that the first of it is the group's first
lead_is : (s : CodeTable) (xs : List ℕ) → first_with s None xs 0 ≡ get_or xs 0 0
lead_is s [] = refl
lead_is s (x ∷ xs) = refl

rises : (xs : List ℕ) (k : ℕ) → Climbs xs → 0 < k → k < length xs → get_or xs 0 0 < get_or xs k 0
rises [] k c p l = absurd (omega arith)
rises (x ∷ xs) zero c p l = absurd (omega arith)
rises (x ∷ xs) (suc k) c p l = c.0 (get_or xs k 0) (Listed-get_or xs k 0 (omega arith))

-- the rows before a place are compared with the first
pub record WithFirst (s : CodeTable) (t : Target) (from : ℕ) (group : List ℕ) (k steps start : ℕ) : Type 0 where
  pub told : (j : ℕ) → Listed j (take k group) → from ≤ j → get_or group 0 0 ≢ j → has_target (code_agree s (get_or group 0 0) j) t ≡ true
  pub few : steps ≤ start + newer from (take k group)

module _ (s : CodeTable) (t : Target) (from : ℕ) (group : List ℕ) where
  pub with_none : (start : ℕ) → WithFirst s t from group 1 start start
  with_none start = record { told = λ j h l ne. absurd (ne (one group j h)); few = omega arith }
    where
      one : (xs : List ℕ) (j : ℕ) → Listed j (take 1 xs) → get_or xs 0 0 ≡ j
      one [] j h = absurd h
      one (x ∷ xs) j (inl e) = sym e
      one (x ∷ xs) j (inr h) = absurd h

  module _ (k steps after start first row : ℕ) (l : k < length group) (p : WithFirst s t from group k steps start) (is : first ≡ get_or group 0 0) (x : row ≡ get_or group k 0)
      (few : after ≤ steps + cond (leb from row) 1 0) where
    grown : after ≤ start + newer from (take (k + 1) group)
    grown = newer_more from group k steps after start l p.few (subst (λ (i : ℕ). after ≤ steps + cond (leb from i) 1 0) x few)

    pub with_more : (from ≤ row → has_target (code_agree s first row) t ≡ true) → WithFirst s t from group (k + 1) after start
    with_more alike = record { told = λ j h m ne. here j m ne (Listed-append_cases j (take k group) (get_or group k 0 ∷ []) (subst (Listed j) (take_more group k 0 l) h)); few = grown }
      where
        here : (j : ℕ) → from ≤ j → get_or group 0 0 ≢ j → Listed j (take k group) ⊎ Listed j (get_or group k 0 ∷ []) → has_target (code_agree s (get_or group 0 0) j) t ≡ true
        here j m ne (inl h) = p.told j h m ne
        here j m ne (inr (inl e)) =
            let same : row ≡ j = x ∙ sym e in
            subst (λ (i : ℕ). has_target (code_agree s i j) t ≡ true) is
            (subst (λ (i : ℕ). from ≤ i → has_target (code_agree s first i) t ≡ true) same alike m)
        here j m ne (inr (inr h)) = absurd h

    pub with_few : after ≤ start + newer from group
    with_few = let a = grown in let b = newer_take from group (k + 1) in omega arith

    pub with_apart : (by : Option ℕ) → by ≡ None → Climbs group → 0 < k → has_target (code_agree s first row) t ≡ false → IsApart s by t group first row
    with_apart by none c pos d = subst (λ (b : Option ℕ). IsApart s b t group first row) (sym none) (record {
      first = subst (λ (i : ℕ). Listed i group) (sym is) (Listed-get_or group 0 0 (omega arith));
      second = subst (λ (i : ℕ). Listed i group) (sym x) (Listed-get_or group k 0 l);
      rising = (let r = rises group k c pos l in omega arith);
      same = refl;
      differ = d;
    })

  pub with_all : (by : Option ℕ) (k steps start : ℕ) → by ≡ None → length group ≤ k → WithFirst s t from group k steps start → IsUniform s by t from group
  with_all by k steps start none past p = subst (λ (b : Option ℕ). IsUniform s b t from group) (sym none) (record {
    each = λ j h l ne. ap (λ (i : ℕ). has_target (code_agree s i j) t) (lead_is s group)
        ∙ p.told j (subst (Listed j) (sym (take_all k group past)) h) l (λ e. ne (lead_is s group ∙ e));
  })

  pub with_within : (k steps start : ℕ) → WithFirst s t from group k steps start → steps ≤ start + newer from group
  with_within k steps start p = let a = p.few in let b = newer_take from group k in omega arith
