-- The target's list made anew: its left sides are the least sets, and each candidate that stays keeps its marks.
use Rattle.std.proofs.Common.{inl, inr, ◌≡◌, ◌⊎◌, ℕ, Bool, true, false, cond, not, eqb, refl, sym, ap, ap₂, ◌∙◌, subst, List, [], ◌∷◌, ◌++◌, map, Some, None}
use Rattle.std.specs.List.{filter, find, list_any}
use Rattle.std.specs.Option.{unwrap_or}
use Rattle.std.proofs.lemmas.Bool.{true≢false, false_from_ne_true, not-true, not_from_false, eq-eqb, or_parts, cases_Bool}
use Rattle.col_set.specs.declared.target.Target.{Target}
use Rattle.col_set.specs.ColSet.{IsSubset, has, subset, report_cmp}
use Rattle.col_set.specs.Columns.{report_total}
use Rattle.col_set.specs.Target.{has_target}
use Rattle.col_set.specs.Evidence.{refuted, least}
use Rattle.col_set.specs.Subsets.{IsSubset-refl, IsSubset-trans, IsSubset-antisymm, IsSubset-with, subset-true, true-subset, has-with_itself}
use Rattle.col_set.specs.Lists.{Listed, Rises, Listed-filter, Listed-filter_parts, Listed-append_cases, Listed-append_left, Listed-append_right, list_any_at, list_any_which}
use Rattle.col_set.proofs.Places.{same_rising}
use Rattle.col_set.proofs.More.{Rises-least}
use Rattle.col_set.proofs.Least.{Listed-least, IsLeast-listed}
use Rattle.candidate_cover.specs.Pairs.{keys, IsInOrder, is_key}
use Rattle.candidate_cover.proofs.Places.{apart_from_less}
use Rattle.candidate_cover.proofs.Toggling.{keys-listed, listed-keys, Rises-keys, is_key-listed, key_which, IsToggled, toggled_is}
use Rattle.candidate_cover.specs.declared.cand.Cand.{Cand}
use Rattle.candidate_cover.specs.declared.cand.Mark.{Mark}
use Rattle.candidate_cover.specs.Cands.{lefts, fresh, kept_or_fresh}
use Rattle.least_sets.specs.Growth.{choices, IsLeastAmong, ListsLeast, inside, outside, near, grown, IsExplored}
use Rattle.candidate_cover.specs.Marks.{cand, cands, fresh_mark, IsGrown, IsGeneralised}
use Rattle.least_sets.proofs.Evidence.{among_from, least_from, lists_least, choice_parts, stands_left, stands_right, stands_both, HasLeast, least_under}
use Rattle.least_sets.proofs.Growing.{lists_after, Grows, grown_parts}

pub lefts-cands : (ps : List (ℕ × Mark)) → lefts (cands ps) ≡ keys ps
lefts-cands [] = refl
lefts-cands (p ∷ ps) = ap (λ xs. p.0 ∷ xs) (lefts-cands ps)

-- ---- marks
-- the candidate that a list has is found by its left side
found_kept : (ps : List (ℕ × Mark)) (p : ℕ × Mark) → IsInOrder ps → Listed p ps → find (λ c. eqb c.left p.0) (cands ps) ≡ Some (cand p)
found_kept [] p o h = absurd h
found_kept (q ∷ ps) p o (inl e) = ap (λ b. cond b (Some (cand q)) (find (λ c. eqb c.left p.0) (cands ps))) (eq-eqb q.0 p.0 (ap (λ (r : ℕ × Mark). r.0) (sym e))) ∙ ap (λ r. Some (cand r)) (sym e)
found_kept (q ∷ ps) p o (inr h) = ap (λ b. cond b (Some (cand q)) (find (λ c. eqb c.left p.0) (cands ps))) (apart_from_less q.0 p.0 (o.0 p h)) ∙ found_kept ps p o.1 h

pub found_fresh : (ps : List (ℕ × Mark)) (x : ℕ) → is_key ps x ≡ false → find (λ c. eqb c.left x) (cands ps) ≡ None
found_fresh [] x e = refl
found_fresh (q ∷ ps) x e = let w = or_parts (eqb q.0 x) (is_key ps x) e in ap (λ b. cond b (Some (cand q)) (find (λ c. eqb c.left x) (cands ps))) w.0 ∙ found_fresh ps x w.1

-- each pair of the new list is an old one, or has a new left side and fresh marks
pub record Keeps (old new : List (ℕ × Mark)) : Type 0 where
  pub each : (p : ℕ × Mark) → Listed p new → Listed p old ⊎ ((p.1 ≡ fresh_mark) × (is_key old p.0 ≡ false))

pub marks_kept : (old new : List (ℕ × Mark)) → IsInOrder old → Keeps old new → cands new ≡ map (kept_or_fresh (cands old)) (lefts (cands new))
marks_kept old [] o k = refl
marks_kept old (p ∷ new) o k = ap₂ (λ (c : Cand) (cs : List Cand). c ∷ cs) (here (k.each p (inl refl))) (marks_kept old new o (record { each = λ q h. k.each q (inr h) }))
  where
    here : Listed p old ⊎ ((p.1 ≡ fresh_mark) × (is_key old p.0 ≡ false)) → cand p ≡ kept_or_fresh (cands old) p.0
    here (inl h) = sym (ap (λ r. unwrap_or r (fresh p.0)) (found_kept old p o h))
    here (inr h) = ap (λ (m : Mark). cand (p.0, m)) h.0 ∙ sym (ap (λ r. unwrap_or r (fresh p.0)) (found_fresh old p.0 h.1))

pub cands_order : (ps : List (ℕ × Mark)) → IsInOrder ps → Rises report_cmp (lefts (cands ps))
cands_order ps o = subst (Rises report_cmp) (sym (lefts-cands ps)) (Rises-keys ps o)

pub marks_same : (old : List (ℕ × Mark)) → IsInOrder old → cands old ≡ map (kept_or_fresh (cands old)) (lefts (cands old))
marks_same old o = marks_kept old old o (record { each = λ p h. inl h })

-- ---- left sides
-- a list in order whose left sides are the least sets
pub keys_least : (n : ℕ) (ws : List ℕ) (t : Target) (new : List (ℕ × Mark)) → IsInOrder new → ((x : ℕ) → Listed x (keys new) → IsLeastAmong (choices n t) ws t x) → ((x : ℕ) → IsLeastAmong (choices n t) ws t x → Listed x (keys new))
    → lefts (cands new) ≡ least n ws t
keys_least n ws t new o f g = lefts-cands new ∙ same_rising report_total (keys new) (least n ws t) (Rises-keys new o) (Rises-least n ws t)
    (λ x h. Listed-least n ws t x (least_from n ws t x (f x h)))
    (λ x h. g x (among_from n ws t x (IsLeast-listed n ws t x h)))

-- the left sides of a list in which sets changed sides
module _ (old : List (ℕ × Mark)) (xs : List ℕ) (new : List (ℕ × Mark)) (t : IsToggled old xs fresh_mark new) where
  left_of : (x : ℕ) → Listed x (keys new) → (Listed x (keys old) × (Listed x xs → ⊥)) ⊎ (Listed x xs × (is_key old x ≡ false))
  left_of x h =
      let w = listed-keys new x h in
      elim (t.each w.0 w.1) as (λ _. (Listed x (keys old) × (Listed x xs → ⊥)) ⊎ (Listed x xs × (is_key old x ≡ false))) [
        | inl i ↦ inl (subst (λ (y : ℕ). Listed y (keys old)) (sym w.2) (keys-listed old w.0 i.listed), λ g. i.apart (subst (λ (y : ℕ). Listed y xs) w.2 g))
        | inr i ↦ inr (subst (λ (y : ℕ). Listed y xs) (sym w.2) i.listed, ap (is_key old) w.2 ∙ i.absent)
      ]

  kept_left : (x : ℕ) → Listed x (keys old) → (Listed x xs → ⊥) → Listed x (keys new)
  kept_left x h f =
      let w = listed-keys old x h in
      subst (λ (y : ℕ). Listed y (keys new)) (sym w.2) (keys-listed new w.0 (t.old w.0 (record { listed = w.1; apart = λ g. f (subst (λ (y : ℕ). Listed y xs) (sym w.2) g) })))

  new_left : (x : ℕ) → Listed x xs → is_key old x ≡ false → Listed x (keys new)
  new_left x h e = keys-listed new (x, fresh_mark) (t.added x h e)

  toggled_keeps : Keeps old new
  toggled_keeps = record { each = λ p h. elim (t.each p h) as (λ _. Listed p old ⊎ ((p.1 ≡ fresh_mark) × (is_key old p.0 ≡ false))) [ inl i ↦ inl i.listed | inr i ↦ inr (i.value, i.absent) ] }

key_listed : (ps : List (ℕ × Mark)) (x : ℕ) → Listed x (keys ps) → is_key ps x ≡ true
key_listed ps x h = let w = listed-keys ps x h in is_key-listed ps w.0 x w.1 (sym w.2)

listed_key : (ps : List (ℕ × Mark)) (x : ℕ) → is_key ps x ≡ true → Listed x (keys ps)
listed_key ps x e = let w = key_which ps x e in subst (λ (y : ℕ). Listed y (keys ps)) w.2 (keys-listed ps w.0 w.1)

no_key_from : (ps : List (ℕ × Mark)) (x : ℕ) → (Listed x (keys ps) → ⊥) → is_key ps x ≡ false
no_key_from ps x f = false_from_ne_true _ (λ e. f (listed_key ps x e))

-- ---- after one more agree set
module _ (n : ℕ) (t : Target) (z : ℕ) (old new : List (ℕ × Mark)) (g : IsGrown n t z old new) where
  made : IsToggled old g.sets fresh_mark new
  made = subst (IsToggled old g.sets fresh_mark) (sym g.is) (toggled_is old g.sets fresh_mark g.from g.order)

  abbrev ins : List ℕ
  ins = inside z (keys old)

  abbrev outs : List ℕ
  outs = outside z (keys old)

  abbrev more : List ℕ
  more = grown n (choices n t) z ins (near z outs)

  pub grown_least : has_target z t ≡ false → (ws : List ℕ) → lefts (cands old) ≡ least n ws t → lefts (cands new) ≡ least n (ws ++ z ∷ []) t
  grown_least apart ws e = keys_least n (ws ++ z ∷ []) t new made.order
      (λ x h. only x (left_of old g.sets new made x h))
      (λ x i. every x (Listed-append_cases x outs more (after.every x i)))
    where
      before : ListsLeast (choices n t) ws t (keys old)
      before = subst (ListsLeast (choices n t) ws t) (sym (sym (lefts-cands old) ∙ e)) (lists_least n ws t)

      after : ListsLeast (choices n t) (ws ++ z ∷ []) t (outs ++ more)
      after = lists_after n (choices n t) ws t z (choice_parts n t (choices n t) (IsSubset-refl (choices n t))).0 apart (keys old) before

      -- a set that grows was no left side before
      unknown : (x : ℕ) → Listed x more → Listed x (keys old) → ⊥
      unknown x h k =
          let w : Grows n (choices n t) z ins (near z outs) x = grown_parts n (choices n t) z ins (near z outs) x h in
          let q = Listed-filter_parts (λ x. subset x z) w.from (keys old) w.listed in
          let same : w.from ≡ x = (before.each x k).smallest w.from (subst (IsSubset w.from) (sym w.same) (IsSubset-with w.from w.column)) (before.each w.from q.0).stands in
          true≢false (sym ((subset-true q.1).each w.column (ap (λ (v : ℕ). has v w.column) (same ∙ w.same) ∙ has-with_itself w.from w.column)) ∙ w.out)

      changed : (x : ℕ) → Listed x g.sets → Listed x ins ⊎ Listed x more
      changed x h = Listed-append_cases x ins more (g.members.each x h)

      only : (x : ℕ) → (Listed x (keys old) × (Listed x g.sets → ⊥)) ⊎ (Listed x g.sets × (is_key old x ≡ false)) → IsLeastAmong (choices n t) (ws ++ z ∷ []) t x
      only x (inl h) = after.each x (Listed-append_left x outs more (Listed-filter (λ x. not (subset x z)) x (keys old) h.0 (not_from_false _ (false_from_ne_true _ (λ s.
          h.1 (g.members.every x (Listed-append_left x ins more (Listed-filter (λ x. subset x z) x (keys old) h.0 s))))))))
      only x (inr h) = elim (changed x h.0) as (λ _. IsLeastAmong (choices n t) (ws ++ z ∷ []) t x) [
        | inl i ↦ absurd (true≢false (sym (key_listed old x (Listed-filter_parts (λ x. subset x z) x (keys old) i).0) ∙ h.1))
        | inr i ↦ after.each x (Listed-append_right x outs more i)
      ]

      every : (x : ℕ) → Listed x outs ⊎ Listed x more → Listed x (keys new)
      every x (inl h) =
          let q = Listed-filter_parts (λ x. not (subset x z)) x (keys old) h in
          kept_left old g.sets new made x q.0 (λ c. elim (changed x c) as (λ _. ⊥) [
            | inl i ↦ true≢false (sym (Listed-filter_parts (λ x. subset x z) x (keys old) i).1 ∙ not-true _ q.1)
            | inr i ↦ unknown x i q.0
          ])
      every x (inr h) = new_left old g.sets new made x (g.members.every x (Listed-append_right x ins more h)) (no_key_from old x (unknown x h))

  pub grown_marks : Keeps old new
  grown_marks = toggled_keeps old g.sets new made

-- ---- after agree sets were withdrawn
module _ (n : ℕ) (t : Target) (rest gone found : List ℕ) (old new : List (ℕ × Mark)) (g : IsGeneralised found old new)
    (x : IsExplored (choices n t) rest gone t found) (e : lefts (cands old) ≡ least n (rest ++ gone) t) where
  before : ListsLeast (choices n t) (rest ++ gone) t (keys old)
  before = subst (ListsLeast (choices n t) (rest ++ gone) t) (sym (sym (lefts-cands old) ∙ e)) (lists_least n (rest ++ gone) t)

  abbrev above : ℕ → Bool
  above y = list_any (λ v. subset v y) found

  abbrev blocked : List ℕ
  blocked = filter (λ y. list_any (λ v. subset v y) found) (keys old)

  general : IsToggled old g.sets fresh_mark new
  general = subst (IsToggled old g.sets fresh_mark) (sym g.is) (toggled_is old g.sets fresh_mark g.from g.order)

  altered : (y : ℕ) → Listed y g.sets → Listed y found ⊎ Listed y blocked
  altered y h = Listed-append_cases y found blocked (g.members.each y h)

  -- a found set was no left side before
  unseen : (y : ℕ) → Listed y found → Listed y (keys old) → ⊥
  unseen y h k = true≢false (sym (x.each y h).1 ∙ stands_right rest gone t y (before.each y k).stands)

  found_above : (y : ℕ) → Listed y found → above y ≡ true
  found_above y h = list_any_at (λ v. subset v y) y found h (true-subset (IsSubset-refl y))

  stays : (y : ℕ) → Listed y (keys old) → above y ≡ false → IsLeastAmong (choices n t) rest t y
  stays y h none =
      let i = before.each y h in
      record {
        within = i.within;
        stands = stands_left rest gone t y i.stands;
        smallest = λ v s r. at v s r i (least_under (choices n t) rest t v (IsSubset-trans s i.within) r);
      }
    where
      at : (v : ℕ) → IsSubset v y → refuted rest t v ≡ false → IsLeastAmong (choices n t) (rest ++ gone) t y → HasLeast (choices n t) rest t v → v ≡ y
      at v s r i m = by (cases_Bool (refuted gone t m.set))
        where
          by : (refuted gone t m.set ≡ true) ⊎ (refuted gone t m.set ≡ false) → v ≡ y
          by (inl h) = absurd (true≢false (sym (list_any_at (λ v. subset v y) m.set found (x.every m.set m.least h) (true-subset (IsSubset-trans m.inside s))) ∙ none))
          by (inr h) = IsSubset-antisymm s (subst (λ (a : ℕ). IsSubset a v) (i.smallest m.set (IsSubset-trans m.inside s) (stands_both rest gone t m.set m.least.stands h)) m.inside)

  only : (y : ℕ) → (Listed y (keys old) × (Listed y g.sets → ⊥)) ⊎ (Listed y g.sets × (is_key old y ≡ false)) → IsLeastAmong (choices n t) rest t y
  only y (inl h) = stays y h.0 (false_from_ne_true _ (λ a. h.1 (g.members.every y (Listed-append_right y found blocked (Listed-filter above y (keys old) h.0 a)))))
  only y (inr h) = elim (altered y h.0) as (λ _. IsLeastAmong (choices n t) rest t y) [
    | inl i ↦ (x.each y i).0
    | inr i ↦ absurd (true≢false (sym (key_listed old y (Listed-filter_parts above y (keys old) i).0) ∙ h.1))
  ]

  every : (y : ℕ) → IsLeastAmong (choices n t) rest t y → Listed y (keys new)
  every y i = by (cases_Bool (refuted gone t y))
    where
      by : (refuted gone t y ≡ true) ⊎ (refuted gone t y ≡ false) → Listed y (keys new)
      by (inl h) = let f = x.every y i h in new_left old g.sets new general y (g.members.every y (Listed-append_left y found blocked f)) (no_key_from old y (unseen y f))
      by (inr h) =
          let k = before.every y (record { within = i.within; stands = stands_both rest gone t y i.stands h; smallest = λ v s r. i.smallest v s (stands_left rest gone t v r) }) in
          let none : above y ≡ false = false_from_ne_true _ (λ a.
          let w = list_any_which (λ v. subset v y) found a in
          let f = x.each w.0 w.1 in
          let same : w.0 ≡ y = i.smallest w.0 (subset-true w.2) f.0.stands in
          true≢false (sym (ap (refuted gone t) (sym same) ∙ f.1) ∙ h)) in
          kept_left old g.sets new general y k (λ c. elim (altered y c) as (λ _. ⊥) [
            | inl f ↦ true≢false (sym (found_above y f) ∙ none)
            | inr f ↦ true≢false (sym (Listed-filter_parts above y (keys old) f).1 ∙ none)
          ])

  pub general_least : lefts (cands new) ≡ least n rest t
  general_least = keys_least n rest t new general.order (λ y h. only y (left_of old g.sets new general y h)) every

  pub general_marks : Keeps old new
  general_marks = toggled_keeps old g.sets new general
