-- The parts of the groups by one relation are the groups by a finer one.
use Rattle.std.proofs.Common.{inl, inr, ◌≡◌, ◌≢◌, ℕ, ◌<◌, ◌≤◌, Bool, true, eqb, refl, sym, ap, ◌∙◌, subst, List, [], ◌∷◌, length, get_or}
use Rattle.std.specs.List.{flat_map}
use Rattle.std.proofs.lemmas.Bool.{eqb-true, eq-eqb, cases_eq}
use Rattle.col_set.specs.Lists.{Listed, Listed-filter, Listed-filter_parts, Listed-flat_map, Listed-flat_map_which}
use Rattle.col_set.proofs.Places.{Climbs}
use Rattle.rel_base.proofs.Valid.{Climbs-filter}
use Rattle.stripped_partition.specs.Stripped.{group_of, grouped}
use Rattle.stripped_partition.specs.AnyOrder.{IsReordered}
use Rattle.stripped_partition.specs.Order.{Apart}
use Rattle.stripped_partition.proofs.Grouped.{same_climbing, another, two_of, Apart-append, IsSame, GroupOf, Listed-grouped_parts, Listed-grouped, group_is, group_apart}
use Rattle.stripped_partition.proofs.Firsts.{with_code, code_parts, PartOf, parts-listed, Listed-parts, part_first, Apart-parts}

-- among rows that are the same by the coarse relation, the fine one says that codes are equal and below the bound
pub record Splits (coarse fine : ℕ → ℕ → Bool) (rows : List ℕ) (code : ℕ → ℕ) (bound : ℕ) : Type 0 where
  pub finer : (i j : ℕ) → fine i j ≡ true → coarse i j ≡ true
  pub tells : (i j : ℕ) → Listed i rows → Listed j rows → i ≢ j → fine i j ≡ true → (code i ≡ code j) × (code i < bound)
  pub told : (i j : ℕ) → Listed i rows → Listed j rows → i ≢ j → coarse i j ≡ true → code i ≡ code j → code i < bound → fine i j ≡ true

module _ (coarse fine : ℕ → ℕ → Bool) (rows : List ℕ) (code : ℕ → ℕ) (bound : ℕ) (isc : IsSame coarse) (isf : IsSame fine) (up : Climbs rows) (by : Splits coarse fine rows code bound) where
  abbrev part_of : ℕ → List ℕ
  part_of i = with_code code (group_of coarse rows i) (code i)

  -- a row that is the same as another one by the fine relation has the part as its group
  part_is : (i k : ℕ) → Listed i rows → Listed k rows → i ≢ k → fine i k ≡ true → part_of i ≡ group_of fine rows i
  part_is i k h l ne f = same_climbing (part_of i) (group_of fine rows i) (Climbs-filter (λ j. eqb (code j) (code i)) (group_of coarse rows i) (Climbs-filter (coarse i) rows up)) (Climbs-filter (fine i) rows up) into out
    where
      itself : fine i i ≡ true
      itself = isf.trans i k i f (isf.symm i k f)

      below : code i < bound
      below = (by.tells i k h l ne f).1

      into : (j : ℕ) → Listed j (part_of i) → Listed j (group_of fine rows i)
      into j m =
          let w = Listed-filter_parts (λ j. eqb (code j) (code i)) j (group_of coarse rows i) m in
          let v = Listed-filter_parts (coarse i) j rows w.0 in
          Listed-filter (fine i) j rows v.0 (elim (cases_eq i j) as (λ _. fine i j ≡ true) [
            | inl e ↦ subst (λ (j : ℕ). fine i j ≡ true) e itself
            | inr d ↦ by.told i j h v.0 d v.1 (sym (eqb-true _ _ w.1)) below
          ])

      out : (j : ℕ) → Listed j (group_of fine rows i) → Listed j (part_of i)
      out j m =
          let v = Listed-filter_parts (fine i) j rows m in
          Listed-filter (λ j. eqb (code j) (code i)) j (group_of coarse rows i) (Listed-filter (coarse i) j rows v.0 (by.finer i j v.1)) (elim (cases_eq i j) as (λ _. eqb (code j) (code i) ≡ true) [
            | inl e ↦ eq-eqb _ _ (ap code (sym e))
            | inr d ↦ eq-eqb _ _ (sym (by.tells i j h v.0 d v.1).0)
          ])

  part_listed : (g : List ℕ) → Listed g (flat_map (code_parts code bound) (grouped coarse rows)) → Listed g (grouped fine rows)
  part_listed g h =
      let w = Listed-flat_map_which (code_parts code bound) g (grouped coarse rows) h in
      let of = Listed-grouped_parts coarse isc rows w.0 w.1 in
      let p = parts-listed code bound w.0 g w.2 in
      here w.0 of p
    where
      here : (γ : List ℕ) → GroupOf coarse rows γ → PartOf code bound γ g → Listed g (grouped fine rows)
      here γ of p =
          let two : 2 ≤ length g = p.two in
          let i : ℕ = get_or g 0 0 in
          let first = part_first code bound γ g p in
          let γ-is : γ ≡ group_of coarse rows i = group_is coarse isc rows γ i of first.0 in
          let g-is : g ≡ part_of i = p.is ∙ (λ t. with_code code (γ-is t) (sym first.1 t)) in
          let listed : Listed i rows = (Listed-filter_parts (coarse of.row) i rows (subst (Listed i) of.is first.0)).0 in
          let upg : Climbs g = subst Climbs (sym g-is) (Climbs-filter (λ j. eqb (code j) (code i)) (group_of coarse rows i) (Climbs-filter (coarse i) rows up)) in
          let o = another g i upg two in
          let v = Listed-filter_parts (λ j. eqb (code j) (code i)) o.other (group_of coarse rows i) (subst (Listed o.other) g-is o.listed) in
          let u = Listed-filter_parts (coarse i) o.other rows v.0 in
          let f : fine i o.other ≡ true = by.told i o.other listed u.0 o.apart u.1 (sym (eqb-true _ _ v.1)) (subst (λ (c : ℕ). c < bound) (sym first.1) p.within) in
          let e : g ≡ group_of fine rows i = g-is ∙ part_is i o.other listed u.0 o.apart f in
          subst (λ (x : List ℕ). Listed x (grouped fine rows)) (sym e) (Listed-grouped fine isf rows i listed (subst (λ (x : List ℕ). 2 ≤ length x) e two))

  Listed-part : (g : List ℕ) → Listed g (grouped fine rows) → Listed g (flat_map (code_parts code bound) (grouped coarse rows))
  Listed-part g h =
      let of = Listed-grouped_parts fine isf rows g h in
      let i : ℕ = of.row in
      let up_g : Climbs g = subst Climbs (sym of.is) (Climbs-filter (fine i) rows up) in
      let o = another g i up_g of.two in
      let u = Listed-filter_parts (fine i) o.other rows (subst (Listed o.other) of.is o.listed) in
      let e : part_of i ≡ g = part_is i o.other of.listed u.0 o.apart u.1 ∙ sym of.is in
      let c : coarse i o.other ≡ true = by.finer i o.other u.1 in
      let m : Listed i (group_of coarse rows i) = Listed-filter (coarse i) i rows of.listed (isc.trans i o.other i c (isc.symm i o.other c)) in
      let two : 2 ≤ length (group_of coarse rows i) = two_of (group_of coarse rows i) i o.other m (Listed-filter (coarse i) o.other rows u.0 c) o.apart in
      Listed-flat_map (code_parts code bound) (group_of coarse rows i) g (grouped coarse rows) (Listed-grouped coarse isc rows i of.listed two)
      (subst (λ (x : List ℕ). Listed x (code_parts code bound (group_of coarse rows i))) e
      (Listed-parts code bound (group_of coarse rows i) i m (by.tells i o.other of.listed u.0 o.apart u.1).1 (subst (λ (x : List ℕ). 2 ≤ length x) (sym e) of.two)))

  Apart-each : (gs : List (List ℕ)) → ((g : List ℕ) → Listed g gs → GroupOf coarse rows g) → Apart gs → Apart (flat_map (code_parts code bound) gs)
  Apart-each [] f a = tt
  Apart-each (γ ∷ gs) f a = Apart-append (code_parts code bound γ) (flat_map (code_parts code bound) gs) (Apart-parts code bound γ) (Apart-each gs (λ g l. f g (inr l)) a.1) (λ g h l m e.
      let w = Listed-flat_map_which (code_parts code bound) h gs m in
      let i = (part_first code bound γ g (parts-listed code bound γ g l)).0 in
      let j = (part_first code bound w.0 h (parts-listed code bound w.0 h w.2)).0 in
      let same : γ ≡ w.0 = group_apart coarse isc rows γ w.0 (get_or g 0 0) (f γ (inl refl)) (f w.0 (inr w.1)) i (subst (λ (k : ℕ). Listed k w.0) (sym e) j) in
      a.0 w.0 w.1 (ap (λ (x : List ℕ). get_or x 0 0) same))

  -- the parts of the groups by the coarse relation, in whatever order, are the groups by the fine one
  pub split_are : (gs : List (List ℕ)) → IsReordered (grouped coarse rows) gs → IsReordered (grouped fine rows) (flat_map (code_parts code bound) gs)
  split_are gs are = record {
    kept = λ g h. let w = Listed-flat_map_which (code_parts code bound) g (grouped coarse rows) (Listed-part g h) in Listed-flat_map (code_parts code bound) w.0 g gs (are.kept w.0 w.1) w.2;
    only = λ g h. let w = Listed-flat_map_which (code_parts code bound) g gs h in part_listed g (Listed-flat_map (code_parts code bound) w.0 g (grouped coarse rows) (are.only w.0 w.1) w.2);
    apart = Apart-each gs (λ g h. Listed-grouped_parts coarse isc rows g (are.only g h)) are.apart;
  }
