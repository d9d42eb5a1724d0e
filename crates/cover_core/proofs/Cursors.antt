-- Searches that begin at a cursor, and what leaves a cursor where it is.
use Rattle.std.proofs.Common.{inl, inr, ◌≡◌, ◌⊎◌, ℕ, ◌+◌, ◌<◌, ◌≤◌, Bool, true, false, cond, eqb, ltb, ◌&&◌, max, if◌then◌else◌, not, refl, sym, ap, ◌∙◌, subst, arith, List, [], ◌∷◌, map, Option, Some, None, Ordering, Less, Equal, Greater}
use Rattle.std.specs.List.{find}
use Rattle.std.specs.Option.{option_map}
use Rattle.std.specs.Ordering.{is_lt, nat_cmp, ordering_reverse}
use Rattle.std.proofs.lemmas.Bool.{true≢false, eqb-true, eq-eqb, ne_eqb, and_parts, and_from, or_cases, or_left, or_right, cases_eq, cases_lt, lt-ltb, le-ltb, ltb-true, ltb-false}
use Rattle.std.proofs.lemmas.Cmp.{tied_itself}
use Rattle.std.proofs.lemmas.Option.{same_Some}
use Rattle.col_set.specs.declared.target.Target.{Target}
use Rattle.col_set.specs.declared.target.Target.TheVariants.{Col, RowId}
use Rattle.col_set.specs.ColSet.{report_cmp}
use Rattle.col_set.specs.Columns.{report_total, nat_cmp-lt}
use Rattle.col_set.specs.Target.{IsColumnTarget}
use Rattle.col_set.specs.Lists.{Listed, Listed-map, Listed-map_which}
use Rattle.candidate_cover.specs.declared.cand.Cand.{Cand}
use Rattle.candidate_cover.specs.declared.cand.Marking.{Marking}
use Rattle.candidate_cover.specs.declared.cand.Marking.TheVariants.{Marked, Dropped}
use Rattle.candidate_cover.specs.Lists.{CandLists}
use Rattle.candidate_cover.specs.Cands.{width, cands_of, with_list, from, holding, marked, is_listed, IsInOrder}
use Rattle.candidate_cover.proofs.Remarked.{empty_first}
use Rattle.candidate_cover.proofs.Targets.{width-with_list}
use Rattle.rel_base.specs.CodeTable.{CodeTable}
use Rattle.rel_base.specs.RowState.{next, width as columns_of}
use Rattle.cover_steps.specs.Core.{Core, entries_in, is_unfinished, is_drawable, first_unfinished}
use Rattle.cover_steps.proofs.Lists.{find-None}
use Rattle.cover_steps.proofs.Kept.{cands_of-with_list, target_cases}
use Rattle.cover_core.specs.declared.cursor.Cursor.{Cursor}
use Rattle.cover_core.specs.declared.cursor.Cursors.{Cursors}
use Rattle.cover_core.specs.Kept.{IsBook}
use Rattle.cover_core.specs.declared.cursor.Unfinished.{Unfinished}
use Rattle.negative_cover.specs.declared.concerned.Concerned.{Concerned}
use Rattle.negative_cover.specs.Concerning.{concerns}
use Rattle.cover_core.specs.Past.{rank, IsPast, IsPastBut, ArePast, ArePastBut, IsFirst, stands_before, lesser, is_late, place}
use Rattle.cover_core.specs.Tests.{on_cand}
use Rattle.cover_core.proofs.Calls.{with_lists, with_list-itself, unlisted-marked, unlisted-holding, first_unfinished-is}
use Rattle.cover_core.proofs.FirstFound.{find-row_id, find-column}

abbrev pub start : Cursor
start = record { target = RowId; left = 0 }

not_less : (x y : ℕ) → report_cmp y x ≡ Less → is_lt (report_cmp x y) ≡ false
not_less x y e = ap is_lt (report_total.antisymm x y ∙ ap ordering_reverse e)

module _ (p : Cand → Bool) where
  find-from : (x : ℕ) (cs : List Cand) → ((k : Cand) → Listed k cs → is_lt (report_cmp k.left x) ≡ true → p k ≡ false) → find p (from x cs) ≡ find p cs
  find-from x [] f = refl
  find-from x (c ∷ cs) f = by (is_lt (report_cmp c.left x)) refl (find-from x cs (λ k h. f k (inr h)))
    where
      by : (b : Bool) → is_lt (report_cmp c.left x) ≡ b → find p (from x cs) ≡ find p cs → find p (cond (not b) (c ∷ from x cs) (from x cs)) ≡ cond (p c) (Some c) (find p cs)
      by true e g = g ∙ sym (ap (λ (b : Bool). cond b (Some c) (find p cs)) (f c (inl refl) e))
      by false e g = ap (λ o. cond (p c) (Some c) o) g

  pub none_passes : (cs : List Cand) → ((k : Cand) → Listed k cs → p k ≡ false) → find p cs ≡ None
  none_passes [] f = refl
  none_passes (c ∷ cs) f = ap (λ (b : Bool). cond b (Some c) (find p cs)) (f c (inl refl)) ∙ none_passes cs (λ k h. f k (inr h))

  -- what stands before the first that passes does not pass
  pub before_first : (cs : List Cand) (c : Cand) → IsInOrder cs → find p cs ≡ Some c → (k : Cand) → Listed k cs → is_lt (report_cmp k.left c.left) ≡ true → p k ≡ false
  before_first [] c o e k h l = absurd h
  before_first (d ∷ cs) c o e k h l = by (p d) refl e h (λ g i. before_first cs c o.1 g k i l)
    where
      by : (b : Bool) → p d ≡ b → cond b (Some d) (find p cs) ≡ Some c → Listed k (d ∷ cs) → (find p cs ≡ Some c → Listed k cs → p k ≡ false) → p k ≡ false
      by true i g (inl same) rest =
          absurd (true≢false (sym l ∙ ap (λ (x : ℕ). is_lt (report_cmp x c.left)) (ap (λ (c : Cand). c.left) same ∙ ap (λ (c : Cand). c.left) (same_Some d c g)) ∙ ap is_lt (tied_itself report_total c.left)))
      by true i g (inr h) rest =
          absurd (true≢false (sym l ∙ ap (λ (x : ℕ). is_lt (report_cmp k.left x)) (sym (ap (λ (c : Cand). c.left) (same_Some d c g))) ∙ not_less k.left d.left (o.0 k.left (Listed-map (λ (c : Cand). c.left) k cs h))))
      by false i g (inl same) rest = ap p same ∙ i
      by false i g (inr h) rest = rest g h

  module _ (c : CandLists) where
    pub past-start : IsPast p c start
    past-start = record {
      target = tt;
      earlier = λ t k l h. absurd (omega (arith, l));
      before = λ k h l. absurd (true≢false (sym l ∙ empty_first k.left));
    }

    module _ (cursor : Cursor) (past : IsPast p c cursor) where
      -- ---- a search in the cursor's target
      pub found_here : find p (from cursor.left (cands_of c cursor.target)) ≡ find p (cands_of c cursor.target)
      found_here = find-from cursor.left (cands_of c cursor.target) past.before

      pub none_earlier : (t : Target) → rank t < rank cursor.target → find p (cands_of c t) ≡ None
      none_earlier t l = none_passes (cands_of c t) (λ k h. past.earlier t k l h)

      -- the cursor moves to the one that is found
      pub past-here : (k : Cand) → IsInOrder (cands_of c cursor.target) → find p (cands_of c cursor.target) ≡ Some k → IsPast p c (record { target = cursor.target; left = k.left })
      past-here k o e = record { target = past.target; earlier = past.earlier; before = before_first (cands_of c cursor.target) k o e }

    -- no target up to one has a candidate that passes
    pub none_up_to : (t : Target) → ((u : Target) → rank u < rank t → find p (cands_of c u) ≡ None) → find p (cands_of c t) ≡ None
        → (find p (cands_of c RowId) ≡ None) × ((j : ℕ) → j < rank t → find p (cands_of c (Col j)) ≡ None)
    none_up_to RowId f e = (e, λ j l. absurd (omega (arith, l)))
    none_up_to (Col a) f e = (
      f RowId (omega arith),
      λ j l. elim (cases_eq j a) as (λ _. find p (cands_of c (Col j)) ≡ None) [
        | inl i ↦ subst (λ (a : ℕ). find p (cands_of c (Col a)) ≡ None) (sym i) e
        | inr ne ↦ f (Col j) (omega (arith, l, ne))
      ],
    )

    -- the first of a target, where no earlier target has one
    pub first_of : (t : Target) (k : Cand) → IsColumnTarget (width c) t → ((u : Target) → rank u < rank t → find p (cands_of c u) ≡ None) → find p (cands_of c t) ≡ Some k
        → find (on_cand p) (entries_in (width c) c) ≡ Some (t, k)
    first_of RowId k l f e = find-row_id (width c) c p k e
    first_of (Col a) k l f e = find-column (width c) c p a k (f RowId (omega arith)) (λ j m. f (Col j) (omega (arith, m))) l e

    -- ---- the cursor moves to a column, where no target before it has one that passes
    module _ (none : find p (cands_of c RowId) ≡ None) (a : ℕ) (others : (j : ℕ) → j < a → find p (cands_of c (Col j)) ≡ None) (bound : a < width c) where
      earlier : (t : Target) (k : Cand) → rank t < a + 1 → Listed k (cands_of c t) → p k ≡ false
      earlier RowId k l h = find-None p (cands_of c RowId) k none h
      earlier (Col j) k l h = find-None p (cands_of c (Col j)) k (others j (omega (arith, l))) h

      pub past-column : (k : Cand) → IsInOrder (cands_of c (Col a)) → find p (cands_of c (Col a)) ≡ Some k → IsPast p c (record { target = Col a; left = k.left })
      past-column k o e = record { target = bound; earlier = earlier; before = before_first (cands_of c (Col a)) k o e }

      pub past-none : (x : ℕ) → find p (cands_of c (Col a)) ≡ None → IsPast p c (record { target = Col a; left = x })
      past-none x e = record { target = bound; earlier = earlier; before = λ k h l. find-None p (cands_of c (Col a)) k e h }

    -- ---- new marks
    module _ (t : Target) (h : Cand → Cand) (wide : IsColumnTarget (width c) t) (same : (k : Cand) → (h k).left ≡ k.left) (less : (k : Cand) → p k ≡ false → p (h k) ≡ false) where
      abbrev pub marked_lists : CandLists
      marked_lists = with_list c t (map h (cands_of c t))

      here : (u : Target) → t ≡ u → cands_of marked_lists u ≡ map h (cands_of c u)
      here u e = subst (λ (u : Target). cands_of marked_lists u ≡ map h (cands_of c u)) e (cands_of-with_list c t (map h (cands_of c t)) wide)

      -- a candidate of the new lists comes from one of the old
      comes : (u : Target) (k : Cand) → Listed k (cands_of marked_lists u) → (m : Cand) × Listed m (cands_of c u) × (k.left ≡ m.left) × (p m ≡ false → p k ≡ false)
      comes u k l = elim (target_cases c t u (map h (cands_of c t))) as (λ _. (m : Cand) × Listed m (cands_of c u) × (k.left ≡ m.left) × (p m ≡ false → p k ≡ false)) [
        | inl e ↦ (let w = Listed-map_which h k (cands_of c u) (subst (Listed k) (here u e) l) in (w.0, w.1, ap (λ (c : Cand). c.left) w.2 ∙ same w.0, λ g. ap p w.2 ∙ less w.0 g))
        | inr e ↦ (k, subst (Listed k) e l, refl, λ g. g)
      ]

      pub past-marked : (cursor : Cursor) → IsPast p c cursor → IsPast p marked_lists cursor
      past-marked cursor past = record {
        target = subst (λ (n : ℕ). IsColumnTarget n cursor.target) (sym (width-with_list c t (map h (cands_of c t)))) past.target;
        earlier = λ u k l i. (let w = comes u k i in w.3 (past.earlier u w.0 l w.1));
        before = λ k i l. (let w = comes cursor.target k i in w.3 (past.before w.0 w.1 (ap (λ (x : ℕ). is_lt (report_cmp x cursor.left)) (sym w.2) ∙ l)));
      }

-- ---- a candidate that may pass again
is-less : (x y : ℕ) → is_lt (report_cmp x y) ≡ true → report_cmp x y ≡ Less
is-less x y e = by (report_cmp x y) e
  where
    by : (o : Ordering) → is_lt o ≡ true → o ≡ Less
    by Less e = refl
    by Equal e = absurd (true≢false (sym e))
    by Greater e = absurd (true≢false (sym e))

less-trans : (x y z : ℕ) → is_lt (report_cmp x y) ≡ true → is_lt (report_cmp y z) ≡ true → is_lt (report_cmp x z) ≡ true
less-trans x y z e f = ap is_lt (report_total.trans x y z (is-less x y e) (is-less y z f))

same_rank : (t u : Target) → rank t ≡ rank u → t ≡ u
same_rank RowId RowId e = refl
same_rank RowId (Col a) e = absurd (omega (arith, e))
same_rank (Col a) RowId e = absurd (omega (arith, e))
same_rank (Col a) (Col b) e = let i : a ≡ b = omega (arith, e) in ap (λ (k : ℕ). let f : ℕ → Target = λ a. Col a in f k) i

module _ (p : Cand → Bool) (c : CandLists) (t : Target) (x : ℕ) (h : Cand → Cand) (wide : IsColumnTarget (width c) t) (same : (k : Cand) → (h k).left ≡ k.left) (less : (k : Cand) → (k.left ≡ x → ⊥) → p k ≡ false → p (h k) ≡ false) where
  abbrev raised_lists : CandLists
  raised_lists = with_list c t (map h (cands_of c t))

  -- a candidate of the new lists comes from one of the old, and passes as that one did unless it is the one
  rises : (u : Target) (k : Cand) → Listed k (cands_of raised_lists u) → (m : Cand) × Listed m (cands_of c u) × (k.left ≡ m.left) × ((u ≡ t → m.left ≡ x → ⊥) → p m ≡ false → p k ≡ false)
  rises u k l = elim (target_cases c t u (map h (cands_of c t))) as (λ _. (m : Cand) × Listed m (cands_of c u) × (k.left ≡ m.left) × ((u ≡ t → m.left ≡ x → ⊥) → p m ≡ false → p k ≡ false)) [
    | inl e ↦
        (let at : cands_of raised_lists u ≡ map h (cands_of c u) = subst (λ (u : Target). cands_of raised_lists u ≡ map h (cands_of c u)) e (cands_of-with_list c t (map h (cands_of c t)) wide) in
        let w = Listed-map_which h k (cands_of c u) (subst (Listed k) at l) in
        (w.0, w.1, ap (λ (c : Cand). c.left) w.2 ∙ same w.0, λ other g. ap p w.2 ∙ less w.0 (other (sym e)) g))
    | inr e ↦ (k, subst (Listed k) e l, refl, λ other g. g)
  ]

  module _ (cursor : Cursor) (past : IsPast p c cursor) where
    abbrev spot : Cursor
    spot = record { target = t; left = x }

    -- the one stands before the cursor
    first_by : (b : Bool) → stands_before spot cursor ≡ b → b ≡ true → (rank t < rank cursor.target) ⊎ ((t ≡ cursor.target) × (is_lt (report_cmp x cursor.left) ≡ true))
    first_by b e i = elim (or_cases (ltb (rank t) (rank cursor.target)) (eqb (rank t) (rank cursor.target) && is_lt (report_cmp x cursor.left)) (e ∙ i)) as (λ _. (rank t < rank cursor.target) ⊎ ((t ≡ cursor.target) × (is_lt (report_cmp x cursor.left) ≡ true))) [
      | inl g ↦ inl (ltb-true _ _ g)
      | inr g ↦ (let q = and_parts _ _ g in inr (same_rank t cursor.target (eqb-true _ _ q.0), q.1))
    ]

    not_itself : (k m : Cand) → k.left ≡ m.left → m.left ≡ x → is_lt (report_cmp k.left x) ≡ true → ⊥
    not_itself k m e f l = true≢false (sym l ∙ ap (λ (y : ℕ). is_lt (report_cmp y x)) (e ∙ f) ∙ ap is_lt (tied_itself report_total x))

    to_spot : (rank t < rank cursor.target) ⊎ ((t ≡ cursor.target) × (is_lt (report_cmp x cursor.left) ≡ true)) → IsPast p raised_lists spot
    to_spot q = record {
      target = subst (λ (n : ℕ). IsColumnTarget n t) (sym (width-with_list c t (map h (cands_of c t)))) wide;
      earlier = λ u k l i. (let w = rises u k i in w.3 (λ e f. absurd (let r = ap rank e in omega (arith, l, r))) (past.earlier u w.0 (lower u l q) w.1));
      before = λ k i l. (let w = rises t k i in w.3 (λ e f. not_itself k w.0 w.2 f l) (old w.0 w.1 (ap (λ (y : ℕ). is_lt (report_cmp y x)) (sym w.2) ∙ l) q));
    }
      where
        lower : (u : Target) → rank u < rank t → (rank t < rank cursor.target) ⊎ ((t ≡ cursor.target) × (is_lt (report_cmp x cursor.left) ≡ true)) → rank u < rank cursor.target
        lower u l (inl g) = omega (arith, l, g)
        lower u l (inr g) = let r = ap rank g.0 in omega (arith, l, r)

        old : (m : Cand) → Listed m (cands_of c t) → is_lt (report_cmp m.left x) ≡ true → (rank t < rank cursor.target) ⊎ ((t ≡ cursor.target) × (is_lt (report_cmp x cursor.left) ≡ true)) → p m ≡ false
        old m g l (inl r) = past.earlier t m r g
        old m g l (inr r) = past.before m (subst (λ (t : Target). Listed m (cands_of c t)) r.0 g) (less-trans m.left x cursor.left l r.1)

    -- the one does not stand before it
    at_cursor : stands_before spot cursor ≡ false → IsPast p raised_lists cursor
    at_cursor behind = record {
      target = subst (λ (n : ℕ). IsColumnTarget n cursor.target) (sym (width-with_list c t (map h (cands_of c t)))) past.target;
      earlier = λ u k l i. (let w = rises u k i in w.3 (λ e f. true≢false (sym (or_left _ _ (lt-ltb _ _ (subst (λ (u : Target). rank u < rank cursor.target) e l))) ∙ behind)) (past.earlier u w.0 l w.1));
      before = λ k i l.
          (let w = rises cursor.target k i in
          w.3 (λ e f. true≢false (sym (or_right _ _ (and_from _ _ (eq-eqb _ _ (ap rank (sym e))) (ap (λ (y : ℕ). is_lt (report_cmp y cursor.left)) (sym (w.2 ∙ f)) ∙ l))) ∙ behind))
          (past.before w.0 w.1 (ap (λ (y : ℕ). is_lt (report_cmp y cursor.left)) (sym w.2) ∙ l)));
    }

    pub raised : IsPast p raised_lists (lesser spot cursor)
    raised = by (stands_before spot cursor) refl
      where
        by : (b : Bool) → stands_before spot cursor ≡ b → IsPast p raised_lists (if b then spot else cursor)
        by true e = to_spot (first_by true e refl)
        by false e = at_cursor e

-- ---- new marks of one candidate
-- it is held or not
abbrev held : ℕ → Bool → Cand → Cand
held x h = λ c. if eqb c.left x then record { left = x; upto = c.upto; held = h } else c

-- it is known to hold further
abbrev further : ℕ → ℕ → Cand → Cand
further x to = λ c. if eqb c.left x then record { left = x; upto = max c.upto to; held = false } else c

left-held : (x : ℕ) (h : Bool) (k : Cand) → (held x h k).left ≡ k.left
left-held x h k = by (eqb k.left x) refl
  where
    by : (b : Bool) → eqb k.left x ≡ b → (let c : Cand = if b then record { left = x; upto = k.upto; held = h } else k in c).left ≡ k.left
    by true e = sym (eqb-true k.left x e)
    by false e = refl

left-further : (x to : ℕ) (k : Cand) → (further x to k).left ≡ k.left
left-further x to k = by (eqb k.left x) refl
  where
    by : (b : Bool) → eqb k.left x ≡ b → (let c : Cand = if b then record { left = x; upto = max k.upto to; held = false } else k in c).left ≡ k.left
    by true e = sym (eqb-true k.left x e)
    by false e = refl

other-held : (x : ℕ) (h : Bool) (k : Cand) → (k.left ≡ x → ⊥) → held x h k ≡ k
other-held x h k ne = ap (λ (b : Bool). let c : Cand = if b then record { left = x; upto = k.upto; held = h } else k in c) (ne_eqb k.left x ne)

other-further : (x to : ℕ) (k : Cand) → (k.left ≡ x → ⊥) → further x to k ≡ k
other-further x to k ne = ap (λ (b : Bool). let c : Cand = if b then record { left = x; upto = max k.upto to; held = false } else k in c) (ne_eqb k.left x ne)

-- a finished candidate stays finished
finished-held : (n x : ℕ) (h : Bool) (k : Cand) → is_unfinished n k ≡ false → is_unfinished n (held x h k) ≡ false
finished-held n x h k e = by (eqb k.left x)
  where
    by : (b : Bool) → is_unfinished n (if b then record { left = x; upto = k.upto; held = h } else k) ≡ false
    by true = e
    by false = e

finished-further : (n x to : ℕ) (k : Cand) → is_unfinished n k ≡ false → is_unfinished n (further x to k) ≡ false
finished-further n x to k e = by (eqb k.left x)
  where
    by : (b : Bool) → is_unfinished n (if b then record { left = x; upto = max k.upto to; held = false } else k) ≡ false
    by true = le-ltb (max k.upto to) n (let l = ltb-false k.upto n e in omega arith)
    by false = e

never : (b : Bool) → (b && false) ≡ false
never true = refl
never false = refl

-- what can't be drawn can't be drawn where a candidate is held
taken-held : (n x : ℕ) (k : Cand) → is_drawable n k ≡ false → is_drawable n (held x true k) ≡ false
taken-held n x k e = by (eqb k.left x)
  where
    by : (b : Bool) → is_drawable n (if b then record { left = x; upto = k.upto; held = true } else k) ≡ false
    by true = never (ltb k.upto n)
    by false = e

-- nor where one is finished
taken-further : (n x to : ℕ) (k : Cand) → n ≤ to → is_drawable n k ≡ false → is_drawable n (further x to k) ≡ false
taken-further n x to k l e = by (eqb k.left x)
  where
    by : (b : Bool) → is_drawable n (if b then record { left = x; upto = max k.upto to; held = false } else k) ≡ false
    by true = ap (λ (b : Bool). b && true) (le-ltb (max k.upto to) n (omega arith))
    by false = e

-- a number that is not below another
pub not_below : (a b c : ℕ) → c ≡ b → is_lt (nat_cmp a c) ≡ false → b ≤ a
not_below a b c e i = elim (cases_lt a c) as (λ _. b ≤ a) [
  | inl l ↦ absurd (true≢false (sym (ap is_lt (nat_cmp-lt a c l)) ∙ i))
  | inr l ↦ omega (arith, e, l)
]

-- ---- the cursors of a book
module _ (s : Core) where
  pub past-both : (cursors : Cursors) → cursors.unfinished ≡ start → cursors.drawable ≡ start → ArePast s cursors
  past-both cursors e f = record {
    unfinished = subst (IsPast (is_unfinished (next s.rows)) s.candidates) (sym e) (past-start (is_unfinished (next s.rows)) s.candidates);
    drawable = subst (IsPast (is_drawable (next s.rows)) s.candidates) (sym f) (past-start (is_drawable (next s.rows)) s.candidates);
  }

  module _ (t : Target) (x : ℕ) (new : CandLists) (wide : IsColumnTarget (width s.candidates) t) where
    -- a candidate is held
    pub past-held : (cursors : Cursors) → new ≡ with_list s.candidates t (holding (cands_of s.candidates t) x true) → ArePast s cursors → ArePast (with_lists s new) cursors
    past-held cursors e past = record {
      unfinished = subst (λ (c : CandLists). IsPast (is_unfinished (next s.rows)) c cursors.unfinished) (sym e)
          (past-marked (is_unfinished (next s.rows)) s.candidates t (held x true) wide (left-held x true) (finished-held (next s.rows) x true) cursors.unfinished past.unfinished);
      drawable = subst (λ (c : CandLists). IsPast (is_drawable (next s.rows)) c cursors.drawable) (sym e)
          (past-marked (is_drawable (next s.rows)) s.candidates t (held x true) wide (left-held x true) (taken-held (next s.rows) x) cursors.drawable past.drawable);
    }

    -- it is given back
    pub past-released : (cursors after : Cursors) → after.unfinished ≡ cursors.unfinished → after.drawable ≡ lesser (record { target = t; left = x }) cursors.drawable → new ≡ with_list s.candidates t (holding (cands_of s.candidates t) x false) → ArePast s cursors → ArePast (with_lists s new) after
    past-released cursors after u d e past = record {
      unfinished = subst (λ (c : CandLists). IsPast (is_unfinished (next s.rows)) c after.unfinished) (sym e)
          (past-marked (is_unfinished (next s.rows)) s.candidates t (held x false) wide (left-held x false) (finished-held (next s.rows) x false) after.unfinished
          (subst (IsPast (is_unfinished (next s.rows)) s.candidates) (sym u) past.unfinished));
      drawable = subst (IsPast (is_drawable (next s.rows)) new) (sym d) (subst (λ (c : CandLists). IsPast (is_drawable (next s.rows)) c (lesser (record { target = t; left = x }) cursors.drawable)) (sym e)
          (raised (is_drawable (next s.rows)) s.candidates t x (held x false) wide (left-held x false) (λ k ne shut. ap (is_drawable (next s.rows)) (other-held x false k ne) ∙ shut) cursors.drawable past.drawable));
    }

    -- it is marked
    module _ (to : ℕ) (e : new ≡ with_list s.candidates t (marked (cands_of s.candidates t) x to)) where
      unfinished-marked : (cursor : Cursor) → IsPast (is_unfinished (next s.rows)) s.candidates cursor → IsPast (is_unfinished (next s.rows)) new cursor
      unfinished-marked cursor past = subst (λ (c : CandLists). IsPast (is_unfinished (next s.rows)) c cursor) (sym e)
          (past-marked (is_unfinished (next s.rows)) s.candidates t (further x to) wide (left-further x to) (finished-further (next s.rows) x to) cursor past)

      -- in time: it is finished, or there is none
      pub past-in_time : (cursors : Cursors) → (is_listed (cands_of s.candidates t) x ≡ false) ⊎ (next s.rows ≤ to) → ArePast s cursors → ArePast (with_lists s new) cursors
      past-in_time cursors why past = record { unfinished = unfinished-marked cursors.unfinished past.unfinished; drawable = by why }
        where
          by : (is_listed (cands_of s.candidates t) x ≡ false) ⊎ (next s.rows ≤ to) → IsPast (is_drawable (next s.rows)) new cursors.drawable
          by (inl none) = subst (λ (c : CandLists). IsPast (is_drawable (next s.rows)) c cursors.drawable) (sym (e ∙ ap (with_list s.candidates t) (unlisted-marked (cands_of s.candidates t) x to none) ∙ with_list-itself s.candidates t)) past.drawable
          by (inr l) = subst (λ (c : CandLists). IsPast (is_drawable (next s.rows)) c cursors.drawable) (sym e)
              (past-marked (is_drawable (next s.rows)) s.candidates t (further x to) wide (left-further x to) (λ k. taken-further (next s.rows) x to k l) cursors.drawable past.drawable)

      -- late: it may be drawn again
      pub past-late : (cursors after : Cursors) → after.unfinished ≡ cursors.unfinished → after.drawable ≡ lesser (record { target = t; left = x }) cursors.drawable → ArePast s cursors → ArePast (with_lists s new) after
      past-late cursors after u d past = record {
        unfinished = unfinished-marked after.unfinished (subst (IsPast (is_unfinished (next s.rows)) s.candidates) (sym u) past.unfinished);
        drawable = subst (IsPast (is_drawable (next s.rows)) new) (sym d) (subst (λ (c : CandLists). IsPast (is_drawable (next s.rows)) c (lesser (record { target = t; left = x }) cursors.drawable)) (sym e)
            (raised (is_drawable (next s.rows)) s.candidates t x (further x to) wide (left-further x to) (λ k ne shut. ap (is_drawable (next s.rows)) (other-further x to k ne) ∙ shut) cursors.drawable past.drawable));
      }

-- the cursors after a mark, which may have come late
pub past-remarked : (s : Core) (t : Target) (x : ℕ) (new : CandLists) → IsColumnTarget (width s.candidates) t → (to n : ℕ) → new ≡ with_list s.candidates t (marked (cands_of s.candidates t) x to) → n ≡ next s.rows → (marking : Marking) → marking ≡ cond (is_listed (cands_of s.candidates t) x) Marked Dropped
    → (late : Bool) → late ≡ is_late marking to n → (cursors after : Cursors) → after.unfinished ≡ cursors.unfinished → after.drawable ≡ (if late then lesser (record { target = t; left = x }) cursors.drawable else cursors.drawable) → ArePast s cursors → ArePast (with_lists s new) after
past-remarked s t x new wide to n e next_is marking told late is cursors after u d past = by late refl d
  where
    in_time : (b : Bool) → is_listed (cands_of s.candidates t) x ≡ b → marking ≡ cond b Marked Dropped → is_late marking to n ≡ false → (is_listed (cands_of s.candidates t) x ≡ false) ⊎ (next s.rows ≤ to)
    in_time false f m l = inl f
    in_time true f m l = inr (let k : n ≤ to = ltb-false to n (sym (ap (λ (m : Marking). is_late m to n) m) ∙ l) in omega (arith, k, next_is))

    by : (b : Bool) → late ≡ b → after.drawable ≡ (if b then lesser (record { target = t; left = x }) cursors.drawable else cursors.drawable) → ArePast (with_lists s new) after
    by true i f = past-late s t x new wide to e cursors after u f past
    by false i f =
        let p = past-in_time s t x new wide to e cursors (in_time (is_listed (cands_of s.candidates t) x) refl told (sym is ∙ i)) past in
        record { unfinished = subst (IsPast (is_unfinished (next s.rows)) new) (sym u) p.unfinished; drawable = subst (IsPast (is_drawable (next s.rows)) new) (sym f) p.drawable }

-- the cursors that a search for a number leaves
pub past-moved : (s : Core) (n : ℕ) (cursors : Cursors) → n ≡ next s.rows → IsPast (is_unfinished n) s.candidates cursors.unfinished → IsPast (is_drawable n) s.candidates cursors.drawable → ArePast s cursors
past-moved s n cursors e u d = record { unfinished = subst (λ (n : ℕ). IsPast (is_unfinished n) s.candidates cursors.unfinished) e u; drawable = subst (λ (n : ℕ). IsPast (is_drawable n) s.candidates cursors.drawable) e d }

-- the lists of all targets but some are as they were
pub past-but : (s : Core) (new : CandLists) (concerned : Concerned) (n : ℕ) (cursors : Cursors) → n ≡ next s.rows → width new ≡ width s.candidates → ((t : Target) → IsColumnTarget (width s.candidates) t → concerns concerned t ≡ false → cands_of new t ≡ cands_of s.candidates t)
    → ArePast s cursors → ArePastBut n new concerned cursors
past-but s new concerned n cursors e wide same past = subst (λ (n : ℕ). ArePastBut n new concerned cursors) (sym e) (record {
  unfinished = but (is_unfinished (next s.rows)) cursors.unfinished past.unfinished;
  drawable = but (is_drawable (next s.rows)) cursors.drawable past.drawable;
})
  where
    within : (t u : Target) → IsColumnTarget (width s.candidates) u → rank t < rank u → IsColumnTarget (width s.candidates) t
    within RowId u l h = tt
    within (Col a) RowId l h = absurd (omega (arith, h))
    within (Col a) (Col b) l h = let m : b < width s.candidates = l in omega (arith, h)

    but : (p : Cand → Bool) (cursor : Cursor) → IsPast p s.candidates cursor → IsPastBut p new concerned cursor
    but p cursor q = record {
      target = subst (λ (n : ℕ). IsColumnTarget n cursor.target) (sym wide) q.target;
      earlier = λ t k i l h. q.earlier t k l (subst (Listed k) (same t (within t cursor.target q.target l) i) h);
      before = λ k i h l. q.before k (subst (Listed k) (same cursor.target q.target i) h) l;
    }

-- a candidate that was not in the lists was not let go of
pub past-dropped : (s : Core) (t : Target) (x : ℕ) (new : CandLists) (cursors : Cursors) → is_listed (cands_of s.candidates t) x ≡ false → new ≡ with_list s.candidates t (holding (cands_of s.candidates t) x false) → new ≡ s.candidates
past-dropped s t x new cursors none e = e ∙ ap (with_list s.candidates t) (unlisted-holding (cands_of s.candidates t) x false none) ∙ with_list-itself s.candidates t

-- ---- the first unfinished candidate
module _ (s : Core) (table : CodeTable) (book : IsBook s table) where
  pub first-found : (n : ℕ) (found : Option Unfinished) → n ≡ next s.rows → found ≡ option_map place (find (λ e. is_unfinished n e.1) (entries_in (width s.candidates) s.candidates)) → IsFirst s found
  first-found n found e i = i ∙ ap (option_map place) (first_unfinished-is s table book n _ e refl)

-- a search for it begins at its cursor
pub to_search : (s : Core) (n : ℕ) (cursors : Cursors) → n ≡ next s.rows → ArePast s cursors → IsPast (is_unfinished n) s.candidates cursors.unfinished
to_search s n cursors e past = subst (λ (n : ℕ). IsPast (is_unfinished n) s.candidates cursors.unfinished) (sym e) past.unfinished

-- and leaves the cursors past what they were past, and the first one
pub record Searched (s : Core) (cursors : Cursors) (found : Option Unfinished) : Type 0 where
  pub past : ArePast s cursors
  pub first : IsFirst s found

pub searched : (s : Core) (table : CodeTable) → IsBook s table → (n : ℕ) (cursors : Cursors) (cursor : Cursor) (found : Option Unfinished) → n ≡ next s.rows → ArePast s cursors → IsPast (is_unfinished n) s.candidates cursor
    → found ≡ option_map place (find (λ e. is_unfinished n e.1) (entries_in (width s.candidates) s.candidates)) → Searched s (record { unfinished = cursor; drawable = cursors.drawable }) found
searched s table book n cursors cursor found e past moved is = record {
  past = record { unfinished = subst (λ (n : ℕ). IsPast (is_unfinished n) s.candidates cursor) e moved; drawable = past.drawable };
  first = first-found s table book n found e is;
}

-- what a book's first tells
pub first-told : (s : Core) (first : Option Unfinished) (u : Unfinished) → IsFirst s first → first ≡ Some u → (c : Cand) × (first_unfinished s ≡ Some (u.target, c)) × (c.left ≡ u.left) × (c.upto ≡ u.upto)
first-told s first u is e = by (first_unfinished s) refl (sym e ∙ is)
  where
    by : (o : Option (Target × Cand)) → first_unfinished s ≡ o → Some u ≡ option_map place o → (c : Cand) × (first_unfinished s ≡ Some (u.target, c)) × (c.left ≡ u.left) × (c.upto ≡ u.upto)
    by None i f = absurd (cc)
    by (Some p) i f =
        let g : u ≡ place p = same_Some u (place p) f in
        (p.1, i ∙ ap (λ (t : Target). let some : Target × Cand → Option (Target × Cand) = λ q. Some q in some (t, p.1)) (sym (ap (λ (u : Unfinished). u.target) g)), sym (ap (λ (u : Unfinished). u.left) g), sym (ap (λ (u : Unfinished). u.upto) g))

pub first-none : (s : Core) (first : Option Unfinished) → IsFirst s first → first ≡ None → first_unfinished s ≡ None
first-none s first is e = by (first_unfinished s) refl (sym e ∙ is)
  where
    by : (o : Option (Target × Cand)) → first_unfinished s ≡ o → None ≡ option_map place o → first_unfinished s ≡ None
    by None i f = i
    by (Some p) i f = absurd (cc)

-- a target of few columns has a small rank
pub small_rank : (n m : ℕ) (t : Target) → n ≤ m → IsColumnTarget n t → rank t ≤ m
small_rank n m RowId l h = omega arith
small_rank n m (Col a) l h = let k : a < n = h in omega arith

-- a target of the rows is one of the candidates
pub target-of : (s now : Core) (table : CodeTable) → IsBook s table → s ≡ now → (t u : Target) → t ≡ u → IsColumnTarget (columns_of now.rows) u → IsColumnTarget (width s.candidates) t
target-of s now table book view t u e l = subst (λ (t : Target). IsColumnTarget (width s.candidates) t) (sym e)
    (subst (λ (n : ℕ). IsColumnTarget n u) (sym book.sound.columns) (subst (λ (m : Core). IsColumnTarget (columns_of m.rows) u) (sym view) l))
