-- What a row that comes, ends, goes or lives again makes of what is kept of a row state.
use Rattle.std.proofs.Common.{inl, inr, ◌≡◌, ◌≢◌, ◌⊎◌, ℕ, suc, ◌+◌, ◌-◌, ◌<◌, ◌≤◌, Bool, true, false, cond, not, eqb, ltb, refl, sym, ap, ap₂, ◌∙◌, subst, arith, List, [], ◌∷◌, ◌++◌, length, map, take, get_or, set}
use Rattle.std.specs.List.{All, filter, list_any, range_with_len}
use Rattle.std.proofs.lemmas.Bool.{cases_eq, cases_lt, true≢false, eqb-true, eq-eqb, ne_eqb, ltb-false}
use Rattle.std.proofs.lemmas.List.{length-map, length-set, length-take-le, length_push, get_or-set_same, get_or-set_other, get_or-take, get_or_default, get_or_append_left, get_or_push, ext_get_or, same_from_push, take_at}
use Rattle.std.proofs.lemmas.List.Filters.{length-filter_both}
use Rattle.col_set.specs.Lists.{Listed, Listed-append_right, Listed-filter, Listed-filter_parts, list_any_at, list_any_which}
use Rattle.col_set.proofs.Places.{Climbs, Climbs-increasing}
use Rattle.rel_base.specs.declared.nulls.Nulls.{Nulls}
use Rattle.rel_base.specs.Cells.{Row}
use Rattle.rel_base.specs.RowState.{RowState, next}
use Rattle.rel_base.specs.Batches.{is_live, inserted, deleted}
use Rattle.rel_base.proofs.States.{All-listed}
use Rattle.row_log.specs.Column.{ColumnCells}
use Rattle.row_log.specs.Table.{rows_of, live_of, no_column, column_at, HasRow, IsLog}
use Rattle.row_log.specs.Applying.{IsEnded}
use Rattle.row_log.proofs.Rows.{length-range, length-rows_of, rows_of-pushed, rows_of-cut, cut_at, column-cut}
use Rattle.row_log.proofs.Flags.{IsFlagged, Listed-live_of, live_of-Listed, live_of-is, live_of-pushed, live_of-ended, Climbs-live_of}
use Rattle.row_log.proofs.Log.{kept, next-kept}

-- ---- how many rows are live
pub length-live_of : (flags : List Bool) → length (live_of flags) ≤ length flags
unfolding live_of
length-live_of flags =
    let e = length-filter_both (λ i. get_or flags (i - 1) false) (λ i. not (get_or flags (i - 1) false)) (λ _. refl) (range_with_len 1 (length flags)) in
    let l = length-range 1 (length flags) in
    omega arith

filter_all : (p : ℕ → Bool) (xs : List ℕ) → ((y : ℕ) → Listed y xs → p y ≡ true) → filter p xs ≡ xs
filter_all p [] f = refl
filter_all p (x ∷ xs) f =
    subst (λ (b : Bool). cond b (x ∷ filter p xs) (filter p xs) ≡ x ∷ xs) (sym (f x (inl refl))) (ap (λ (ys : List ℕ). x ∷ ys) (filter_all p xs (λ y h. f y (inr h))))

-- an ascending list without one of its numbers has one less
pub length-without : (n : ℕ) (xs : List ℕ) → Climbs xs → Listed n xs → length (filter (λ i. not (eqb n i)) xs) + 1 ≡ length xs
length-without n [] up h = absurd h
length-without n (x ∷ xs) up h = by (λ g. length-without n xs up.1 g) (eqb n x) refl h
  where
    others : n ≡ x → (y : ℕ) → Listed y xs → not (eqb n y) ≡ true
    others e y h = let l = up.0 y h in ap not (ne_eqb n y (λ s. absurd (omega arith)))

    by : (Listed n xs → length (filter (λ i. not (eqb n i)) xs) + 1 ≡ length xs) → (b : Bool) → eqb n x ≡ b → Listed n (x ∷ xs)
        → length (cond (not b) (x ∷ filter (λ i. not (eqb n i)) xs) (filter (λ i. not (eqb n i)) xs)) + 1 ≡ suc (length xs)
    by rest true e h = let l = ap length (filter_all (λ i. not (eqb n i)) xs (others (eqb-true n x e))) in omega arith
    by rest false e (inl s) = absurd (true≢false (sym (eq-eqb n x s) ∙ e))
    by rest false e (inr g) = let r = rest g in omega arith

pub is_live-Listed : (r : RowState) (n : ℕ) → is_live r n ≡ true → Listed n r.live
is_live-Listed r n e = let w = list_any_which (eqb n) r.live e in subst (λ (i : ℕ). Listed i r.live) (sym (eqb-true n w.0 w.2)) w.1

pub Listed-is_live : (r : RowState) (n : ℕ) → Listed n r.live → is_live r n ≡ true
Listed-is_live r n h = list_any_at (eqb n) n r.live h (eq-eqb n n refl)

-- row states with equal parts
same_state : (a b : RowState) → a.names ≡ b.names → a.nulls ≡ b.nulls → a.limit ≡ b.limit → a.given ≡ b.given → a.live ≡ b.live → a ≡ b
same_state a b p q l g v = λ i. record { names = p i; nulls = q i; limit = l i; given = g i; live = v i }

module _ (names : Row) (nulls : Nulls) (limit : ℕ) (columns : List ColumnCells) (flags : List Bool) (live : ℕ) (h : IsLog (length names) nulls limit columns flags live) where
  seen : RowState
  seen = kept names nulls limit columns flags

  even : All (λ c. length c.cells ≡ length flags) columns
  even = λ k d l. (h.each k d l).long

  pub live-few : live ≤ length flags
  live-few = let c = h.count in let l = length-live_of flags in omega arith

  -- ---- a row that ends
  pub placed-live : (n : ℕ) → 0 < n → list_any (eqb n) (live_of flags) ≡ true → n - 1 < length flags
  placed-live n p e = let w = Listed-live_of flags n (is_live-Listed (kept names nulls limit columns flags) n e) in let l = w.within in omega arith

  module _ (n : ℕ) (p : 0 < n) (e : list_any (eqb n) (live_of flags) ≡ true) where
    listed : Listed n (live_of flags)
    listed = is_live-Listed (kept names nulls limit columns flags) n e

    pub some-live : 0 < live
    some-live = let c = h.count in let l = length-without n (live_of flags) (Climbs-live_of flags) listed in omega arith

    within : n ≤ length flags
    within = (Listed-live_of flags n listed).within

    pub IsLog-ended : IsLog (length names) nulls limit columns (set flags (n - 1) false) (live - 1)
    IsLog-ended =
        let l = length-set flags (n - 1) false in record {
          some = h.some;
          narrow = h.narrow;
          wide = h.wide;
          each = λ k d m. let c = h.each k d m in record { nulls = c.nulls; long = c.long ∙ sym l };
          short = let s = h.short in omega arith;
          few = h.few;
          count =
              let c = h.count in
              let w = length-without n (live_of flags) (Climbs-live_of flags) listed in
              let s = ap length (live_of-ended flags n p within) in omega arith;
        }

    pub kept-ended : kept names nulls limit columns (set flags (n - 1) false) ≡ deleted (kept names nulls limit columns flags) n
    kept-ended = same_state (kept names nulls limit columns (set flags (n - 1) false)) (deleted (kept names nulls limit columns flags) n)
        refl refl refl (ap (rows_of columns) (length-set flags (n - 1) false)) (live_of-ended flags n p within)

  -- ---- a row that comes
  pub room-kept : ltb limit (next (kept names nulls limit columns flags)) ≡ false → length flags < 1000000
  room-kept e =
      let n = next-kept names nulls limit columns flags live h in
      let l = ltb-false limit (next (kept names nulls limit columns flags)) e in
      let f = h.few in omega arith

  module _ (new : List ColumnCells) (row : Row) (fs : List Bool) (wide : length row ≡ length names) (has : HasRow columns row new) (flagged : fs ≡ flags ++ true ∷ [])
      (room : length flags < 1000000) where
    longer : length fs ≡ length flags + 1
    longer = ap length flagged ∙ length_push flags true

    pub IsLog-pushed : IsLog (length names) nulls limit new fs (live + 1)
    IsLog-pushed = record {
      some = h.some;
      narrow = h.narrow;
      wide = has.long ∙ h.wide;
      each = λ j d l.
          let k = has.long in
          let m : j < length columns = omega arith in
          let c = h.each j no_column m in
          let s = get_or_default new j d no_column l ∙ has.each j m in record {
            nulls = ap (λ (x : ColumnCells). x.nulls) s ∙ c.nulls;
            long = ap (λ (x : ColumnCells). length x.cells) s ∙ length_push (column_at columns j).cells _ ∙ ap (λ (n : ℕ). n + 1) c.long ∙ sym longer;
          };
      short = let l = longer in omega arith;
      few = h.few;
      count =
          let c = h.count in
          let l = length_push (live_of flags) (length flags + 1) in
          let s = ap length (ap live_of flagged ∙ live_of-pushed flags) in omega arith;
    }

    pub kept-pushed : kept names nulls limit new fs ≡ inserted (kept names nulls limit columns flags) row
    kept-pushed = same_state (kept names nulls limit new fs) (inserted (kept names nulls limit columns flags) row) refl refl refl
        (ap (rows_of new) longer ∙ rows_of-pushed columns new row (length flags) even (wide ∙ sym h.wide) has)
        (ap live_of flagged ∙ live_of-pushed flags ∙ ap (λ (n : ℕ). live_of flags ++ n ∷ []) (sym (next-kept names nulls limit columns flags live h)))

  -- ---- the row that came last goes
  module _ (r s : RowState) (row : Row) (seen_as : kept names nulls limit columns flags ≡ s) (e : inserted r row ≡ s) where
    same : inserted r row ≡ kept names nulls limit columns flags
    same = e ∙ sym seen_as

    given_are : r.given ++ row ∷ [] ≡ rows_of columns (length flags)
    given_are = ap (λ (x : RowState). x.given) same

    live_are : r.live ++ next r ∷ [] ≡ live_of flags
    live_are = ap (λ (x : RowState). x.live) same

    last_is : next r ≡ length flags
    last_is = sym (length_push r.given row) ∙ ap length given_are ∙ length-rows_of columns (length flags)

    pub some-flag : 1 ≤ length flags
    some-flag = let l = last_is in omega arith

    rest : ℕ
    rest = length flags - 1

    last_flag : get_or flags (length flags - 1) false ≡ true
    last_flag =
        let g : Listed (next r) (live_of flags) = subst (λ (xs : List ℕ). Listed (next r) xs) live_are (Listed-append_right (next r) r.live (next r ∷ []) (inl refl)) in
        subst (λ (n : ℕ). get_or flags (n - 1) false ≡ true) last_is (Listed-live_of flags (next r) g).flag

    parted : flags ≡ take (length flags - 1) flags ++ true ∷ []
    parted =
        let l = some-flag in
        let t = length-take-le (length flags - 1) flags (omega arith) in
        let p = length_push (take (length flags - 1) flags) true in
        ext_get_or false flags (take (length flags - 1) flags ++ true ∷ []) (omega arith) (λ k m. by k m t (cases_lt k (length flags - 1)))
      where
        by : (k : ℕ) → k < length flags → length (take (length flags - 1) flags) ≡ length flags - 1 → (k < length flags - 1) ⊎ (length flags - 1 ≤ k) → get_or flags k false ≡ get_or (take (length flags - 1) flags ++ true ∷ []) k false
        by k m t (inl g) = sym (get_or_append_left (take (length flags - 1) flags) (true ∷ []) false k (omega arith) ∙ get_or-take (length flags - 1) flags k false g)
        by k m t (inr g) =
            let q : k ≡ length flags - 1 = omega arith in
            ap (λ (n : ℕ). get_or flags n false) q ∙ last_flag ∙ sym (get_or_push (take (length flags - 1) flags) true false k (t ∙ sym q))

    shorter : length (take (length flags - 1) flags) ≡ length flags - 1
    shorter = let l = some-flag in length-take-le (length flags - 1) flags (omega arith)

    live_split : live_of flags ≡ live_of (take (length flags - 1) flags) ++ (length (take (length flags - 1) flags) + 1) ∷ []
    live_split = ap live_of parted ∙ live_of-pushed (take (length flags - 1) flags)

    pub some-counted : 1 ≤ live
    some-counted = let c = h.count in let s = ap length live_split in let l = length_push (live_of (take (length flags - 1) flags)) (length (take (length flags - 1) flags) + 1) in omega arith

    pub IsLog-popped : (new : List ColumnCells) (fs : List Bool) → new ≡ map (cut_at (length flags - 1)) columns → fs ≡ take (length flags - 1) flags → IsLog (length names) nulls limit new fs (live - 1)
    IsLog-popped new fs n f =
        subst (λ (cs : List ColumnCells). IsLog (length names) nulls limit cs fs (live - 1)) (sym n)
        (subst (λ (xs : List Bool). IsLog (length names) nulls limit (map (cut_at (length flags - 1)) columns) xs (live - 1)) (sym f) (record {
          some = h.some;
          narrow = h.narrow;
          wide = length-map columns (cut_at (length flags - 1)) ∙ h.wide;
          each = λ j d l.
              let k = length-map columns (cut_at (length flags - 1)) in
              let m : j < length columns = omega arith in
              let c = h.each j no_column m in
              let s = get_or_default (map (cut_at (length flags - 1)) columns) j d no_column l ∙ column-cut columns (length flags - 1) j m in
              let long = c.long in record {
                nulls = ap (λ (x : ColumnCells). x.nulls) s ∙ c.nulls;
                long = ap (λ (x : ColumnCells). length x.cells) s ∙ length-take-le (length flags - 1) (column_at columns j).cells (omega arith) ∙ sym shorter;
              };
          short = let t = shorter in let s = h.short in omega arith;
          few = h.few;
          count =
              let c = h.count in
              let t = ap length live_split in
              let l = length_push (live_of (take (length flags - 1) flags)) (length (take (length flags - 1) flags) + 1) in omega arith;
        }))

    pub kept-popped : (new : List ColumnCells) (fs : List Bool) → new ≡ map (cut_at (length flags - 1)) columns → fs ≡ take (length flags - 1) flags → kept names nulls limit new fs ≡ r
    kept-popped new fs n f =
        let l = some-flag in
        let long : length fs ≡ length flags - 1 = ap length f ∙ shorter in
        let given : rows_of new (length fs) ≡ take (length flags - 1) (rows_of columns (length flags)) = ap₂ rows_of n long ∙ rows_of-cut columns (length flags) (length flags - 1) (omega arith) in
        let count : length r.given ≡ length flags - 1 = let q = last_is in omega arith in
        same_state (kept names nulls limit new fs) r
        (sym (ap (λ (x : RowState). x.names) same)) (sym (ap (λ (x : RowState). x.nulls) same)) (sym (ap (λ (x : RowState). x.limit) same))
        (given ∙ ap (take (length flags - 1)) (sym given_are) ∙ take_at r.given (row ∷ []) (length flags - 1) count)
        (ap live_of f ∙ sym (same_from_push r.live (live_of (take (length flags - 1) flags)) (next r) (length (take (length flags - 1) flags) + 1) (live_are ∙ live_split)).0)

  -- ---- a row that ended lives again
  module _ (r s : RowState) (n : ℕ) (seen_as : kept names nulls limit columns flags ≡ s) (e : IsEnded r n s) where
    without_is : filter (λ i. not (eqb n i)) r.live ≡ live_of flags
    without_is = ap (λ (x : RowState). x.live) (e.ended ∙ sym seen_as)

    was : Listed n r.live
    was = is_live-Listed r n e.live

    climbs : Climbs r.live
    climbs = Climbs-increasing r.live e.is.ascending

    as_many : length r.given ≡ length flags
    as_many = ap (λ (x : RowState). length x.given) (e.ended ∙ sym seen_as) ∙ length-rows_of columns (length flags)

    pub placed-ended : (0 < n) × (n - 1 < length flags)
    placed-ended =
        let p = All-listed (λ (number : ℕ). 0 < number) n r.live e.is.positive was in
        let l = All-listed (λ (number : ℕ). number < next r) n r.live e.is.numbered was in
        let m = as_many in (p, omega arith)

    revived : live_of (set flags (n - 1) true) ≡ r.live
    revived = live_of-is (set flags (n - 1) true) r.live climbs (λ i g. there i g (cases_eq i n)) (λ i g. back i g (cases_eq i n))
      where
        there : (i : ℕ) → IsFlagged (set flags (n - 1) true) i → (i ≡ n) ⊎ (i ≢ n) → Listed i r.live
        there i g (inl q) = subst (λ (k : ℕ). Listed k r.live) (sym q) was
        there i g (inr ne) =
            let a = g.positive in
            let p = placed-ended.0 in
            let o : i - 1 ≢ n - 1 = λ q. ne (omega arith) in
            let f : Listed i (live_of flags) = live_of-Listed flags i g.positive (sym (get_or-set_other flags (n - 1) (i - 1) true false o) ∙ g.flag) in
            (Listed-filter_parts (λ i. not (eqb n i)) i r.live (subst (λ (xs : List ℕ). Listed i xs) (sym without_is) f)).0

        back : (i : ℕ) → Listed i r.live → (i ≡ n) ⊎ (i ≢ n) → (0 < i) × (get_or (set flags (n - 1) true) (i - 1) false ≡ true)
        back i g (inl q) =
            let w = placed-ended in
            let p = w.0 in (omega arith, ap (λ (k : ℕ). get_or (set flags (n - 1) true) (k - 1) false) q ∙ get_or-set_same flags (n - 1) true false w.1)
        back i g (inr ne) =
            let f = Listed-live_of flags i (subst (λ (xs : List ℕ). Listed i xs) without_is (Listed-filter (λ i. not (eqb n i)) i r.live g (ap not (ne_eqb n i (λ q. ne (sym q)))))) in
            let a = f.positive in
            let p = placed-ended.0 in
            let o : i - 1 ≢ n - 1 = λ q. ne (omega arith) in (f.positive, get_or-set_other flags (n - 1) (i - 1) true false o ∙ f.flag)

    pub IsLog-revived : IsLog (length names) nulls limit columns (set flags (n - 1) true) (live + 1)
    IsLog-revived =
        let l = length-set flags (n - 1) true in record {
          some = h.some;
          narrow = h.narrow;
          wide = h.wide;
          each = λ k d m. let c = h.each k d m in record { nulls = c.nulls; long = c.long ∙ sym l };
          short = let t = h.short in omega arith;
          few = h.few;
          count =
              let c = h.count in
              let w = length-without n r.live climbs was in
              let a = ap length without_is in
              let b = ap length revived in omega arith;
        }

    pub kept-revived : kept names nulls limit columns (set flags (n - 1) true) ≡ r
    kept-revived =
        let q = e.ended ∙ sym seen_as in
        same_state (kept names nulls limit columns (set flags (n - 1) true)) r
        (sym (ap (λ (x : RowState). x.names) q)) (sym (ap (λ (x : RowState). x.nulls) q)) (sym (ap (λ (x : RowState). x.limit) q))
        (ap (rows_of columns) (length-set flags (n - 1) true) ∙ sym (ap (λ (x : RowState). x.given) q)) revived
