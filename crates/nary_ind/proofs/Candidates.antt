-- What candidates leave to be checked, and which columns they need.
use Rattle.std.proofs.Common.{inl, inr, ◌≡◌, ℕ, suc, ◌-◌, ◌<◌, true, ◌&&◌, ◌||◌, eqb, refl, sym, ap₂, ◌∙◌, subst, arith, List, [], ◌∷◌, length, map, get_or}
use Rattle.std.specs.List.{flat_map}
use Rattle.std.proofs.lemmas.Bool.{and_parts, and_from, or_left, or_right, eq-eqb}
use Rattle.col_set.specs.ColSet.{upto}
use Rattle.col_set.specs.AllSets.{Listed-upto}
use Rattle.col_set.specs.Lists.{Listed, Listed-filter, Listed-map, Listed-flat_map, list_any_at}
use Rattle.col_set.specs.Subsets.{same_test}
use Rattle.col_set.proofs.Places.{Listed-get_or}
use Rattle.rel_base.specs.RowState.{RowState}
use Rattle.rel_base.specs.Inclusion.{all_columns, included, inclusions}
use Rattle.nary_ind.specs.declared.found.Side.{Side}
use Rattle.nary_ind.specs.ListInclusions.{width_at, is_formed, holds_among, is_list_inclusion, from_to}
use Rattle.nary_ind.specs.Laws.{position_of, is_unary}
use Rattle.nary_ind.specs.Unary.{is_used}
use Rattle.nary_ind.specs.Levels.{IsSide, is_candidate, last_column}
use Rattle.nary_ind.specs.Tables.{AreUsed}
use Rattle.nary_ind.proofs.Places.{one_place}
use Rattle.nary_ind.proofs.OneColumn.{width-one, position-within}

module _ (rs : List RowState) where
  -- the columns at a place of an inclusion are included
  pub unary-at : (k : ℕ) (d i : Side) → IsSide rs k d → IsSide rs k i → is_list_inclusion rs (from_to d i) ≡ true → (n : ℕ) → n < k → is_unary rs d.rel (get_or d.columns n 0) i.rel (get_or i.columns n 0) ≡ true
  unary-at k d i sd si h n l =
      let ld = sd.long in
      let li = si.long in
      let m : n < length d.columns = omega arith in
      let o : n < length i.columns = omega arith in
      sym (width-one rs d.rel (get_or d.columns n 0) i.rel (get_or i.columns n 0) sd.rel (sd.within (get_or d.columns n 0) (Listed-get_or d.columns n 0 m)) si.rel (si.within (get_or i.columns n 0) (Listed-get_or i.columns n 0 o)))
      ∙ one_place rs d i n m o h

  -- ---- candidates
  pub checked : (k : ℕ) (d i : Side) → IsSide rs (suc k) d → IsSide rs (suc k) i → is_list_inclusion rs (from_to d i) ≡ (is_candidate rs d i && holds_among rs (from_to d i))
  unfolding is_candidate
  checked k d i sd si = same_test _ _
      (λ e.
      let w = and_parts (is_formed (from_to d i)) (holds_among rs (from_to d i)) e in
      let ld = sd.long in
      let li = si.long in
      let a : k ≡ length d.columns - 1 = omega arith in
      let b : k ≡ length i.columns - 1 = omega arith in
      and_from _ _
      (and_from _ _ w.0 (ap₂ (λ (m n : ℕ). is_unary rs d.rel (get_or d.columns m 0) i.rel (get_or i.columns n 0)) (sym a) (sym b) ∙ unary-at (suc k) d i sd si e k (omega arith)))
      w.1)
      (λ e.
      let w = and_parts (is_formed (from_to d i) && is_unary rs d.rel (last_column d) i.rel (last_column i)) (holds_among rs (from_to d i)) e in
      and_from _ _ (and_parts (is_formed (from_to d i)) _ w.0).0 w.1)

  single : (cs : List ℕ) → length cs ≡ 1 → cs ≡ get_or cs (length cs - 1) 0 ∷ []
  single [] e = absurd (omega arith)
  single (c ∷ []) e = refl
  single (c ∷ d ∷ cs) e = absurd (omega arith)

  -- of one column they are inclusions
  pub checked-single : (d i : Side) → IsSide rs 1 d → IsSide rs 1 i → is_list_inclusion rs (from_to d i) ≡ is_candidate rs d i
  unfolding is_candidate
  checked-single d i sd si =
      let law : is_list_inclusion rs (from_to (record { rel = d.rel; columns = last_column d ∷ [] }) (record { rel = i.rel; columns = last_column i ∷ [] })) ≡ is_unary rs d.rel (last_column d) i.rel (last_column i) =
      let ld = sd.long in
      let li = si.long in
      width-one rs d.rel (last_column d) i.rel (last_column i) sd.rel (sd.within (last_column d) (Listed-get_or d.columns (length d.columns - 1) 0 (omega arith)))
      si.rel (si.within (last_column i) (Listed-get_or i.columns (length i.columns - 1) 0 (omega arith))) in
      let is : is_list_inclusion rs (from_to d i) ≡ is_unary rs d.rel (last_column d) i.rel (last_column i) =
      ap₂ (λ (ds es : List ℕ). is_list_inclusion rs (record { dep_rel = d.rel; into_rel = i.rel; dep_cols = ds; into_cols = es })) (single d.columns sd.long) (single i.columns si.long) ∙ law in
      same_test _ _
      (λ e. and_from _ _ (and_parts (is_formed (from_to d i)) (holds_among rs (from_to d i)) e).0 (sym is ∙ e))
      (λ e. is ∙ (and_parts (is_formed (from_to d i)) _ e).1)

  -- ---- used columns
  pub pair-listed : (c d : ℕ) → c < length (all_columns rs) → d < length (all_columns rs) → included (all_columns rs) c d ≡ true → Listed (c, d) (inclusions (all_columns rs))
  unfolding inclusions
  pair-listed c d l m e =
      Listed-filter (λ (p : ℕ × ℕ). included (all_columns rs) p.0 p.1) (c, d) (flat_map (λ c. map (λ d. (c, d)) (upto (length (all_columns rs)))) (upto (length (all_columns rs))))
      (Listed-flat_map (λ (c : ℕ). map (λ d. (c, d)) (upto (length (all_columns rs)))) c (c, d) (upto (length (all_columns rs))) (Listed-upto (length (all_columns rs)) c l) (Listed-map (λ (d : ℕ). (c, d)) d (upto (length (all_columns rs))) (Listed-upto (length (all_columns rs)) d m))) e

  pub used-first : (p c q d : ℕ) → p < length rs → c < width_at rs p → q < length rs → d < width_at rs q → is_unary rs p c q d ≡ true → is_used rs p c ≡ true
  unfolding is_unary is_used
  used-first p c q d l i m j e =
      list_any_at (λ (o : ℕ × ℕ). eqb (position_of rs p c) o.0 || eqb (position_of rs p c) o.1) (position_of rs p c, position_of rs q d) (inclusions (all_columns rs))
      (pair-listed (position_of rs p c) (position_of rs q d) (position-within rs p c l i) (position-within rs q d m j) e)
      (or_left _ _ (eq-eqb (position_of rs p c) (position_of rs p c) refl))

  pub used-second : (p c q d : ℕ) → p < length rs → c < width_at rs p → q < length rs → d < width_at rs q → is_unary rs p c q d ≡ true → is_used rs q d ≡ true
  unfolding is_unary is_used
  used-second p c q d l i m j e =
      list_any_at (λ (o : ℕ × ℕ). eqb (position_of rs q d) o.0 || eqb (position_of rs q d) o.1) (position_of rs p c, position_of rs q d) (inclusions (all_columns rs))
      (pair-listed (position_of rs p c) (position_of rs q d) (position-within rs p c l i) (position-within rs q d m j) e)
      (or_right (eqb (position_of rs q d) (position_of rs p c)) _ (eq-eqb (position_of rs q d) (position_of rs q d) refl))

  listed-at : (cs : List ℕ) (c : ℕ) → Listed c cs → (n : ℕ) × (n < length cs) × (get_or cs n 0 ≡ c)
  listed-at [] c h = absurd h
  listed-at (d ∷ cs) c (inl e) = (0, omega arith, sym e)
  listed-at (d ∷ cs) c (inr h) = let w = listed-at cs c h in let l = w.1 in (suc w.0, omega arith, w.2)

  module _ (k : ℕ) (d i : Side) (sd : IsSide rs k d) (si : IsSide rs k i) (h : is_list_inclusion rs (from_to d i) ≡ true) where
    pub used-dependent : AreUsed rs d.rel d.columns
    used-dependent c g =
        let w = listed-at d.columns c g in
        let l = w.1 in
        let ld = sd.long in
        let li = si.long in
        subst (λ (x : ℕ). is_used rs d.rel x ≡ true) w.2
        (used-first d.rel (get_or d.columns w.0 0) i.rel (get_or i.columns w.0 0) sd.rel (sd.within _ (Listed-get_or d.columns w.0 0 w.1)) si.rel (si.within _ (Listed-get_or i.columns w.0 0 (omega arith)))
        (unary-at k d i sd si h w.0 (omega arith)))

    pub used-referenced : AreUsed rs i.rel i.columns
    used-referenced c g =
        let w = listed-at i.columns c g in
        let l = w.1 in
        let ld = sd.long in
        let li = si.long in
        subst (λ (x : ℕ). is_used rs i.rel x ≡ true) w.2
        (used-second d.rel (get_or d.columns w.0 0) i.rel (get_or i.columns w.0 0) sd.rel (sd.within _ (Listed-get_or d.columns w.0 0 (omega arith))) si.rel (si.within _ (Listed-get_or i.columns w.0 0 w.1))
        (unary-at k d i sd si h w.0 (omega arith)))
