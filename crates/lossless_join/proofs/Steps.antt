-- One table more of a join.
use Rattle.std.proofs.Common.{inl, inr, ◌≡◌, ◌≢◌, ◌⊎◌, ℕ, zero, suc, ◌+◌, ◌<◌, ◌≤◌, ◌^◌, Bool, true, false, cond, ◌||◌, ltb, refl, sym, ap, ap₂, ◌∙◌, subst, arith, List, [], ◌∷◌, ◌++◌, length, map, get_or, take, drop, replicate, Result, Ok, Err, IfOk, if◌then◌else◌}
use Rattle.std.specs.List.{AllPairs, Contains, filter, flat_map, range_with_len}
use Rattle.std.proofs.lemmas.Bool.{and_parts, and_from, true≢false, or_left, or_right, cases_lt, lt-ltb, le-ltb}
use Rattle.std.proofs.lemmas.List.{length-map, take_more, take_all, take-append-drop}
use Rattle.col_set.specs.ColSet.{IsSubset, has, all, inter, union, size, columns, upto}
use Rattle.col_set.specs.Lists.{Listed, Listed-append_cases, Listed-append_left, Listed-append_right, Listed-filter, Listed-filter_parts, Listed-flat_map, Listed-flat_map_which, Listed-map, Listed-map_which}
use Rattle.col_set.specs.Members.{has-empty, has-all, has-inter, has-union}
use Rattle.col_set.specs.Subsets.{has_within, subset_below}
use Rattle.col_set.specs.AllSets.{Ascends, Ascends_within, Listed-upto, Listed-upto_within}
use Rattle.col_set.proofs.EachColumn.{Listed-columns, columns-listed, Ascends-columns}
use Rattle.col_set.proofs.Places.{Contains-listed, Listed-contained, Listed-get_or}
use Rattle.rel_base.specs.Cells.{Cell, Row, cell}
use Rattle.rel_base.specs.Projection.{part, same_row}
use Rattle.rel_base.proofs.Parts.{same_row-true, distinct-listed, Listed-distinct}
use Rattle.lossless_join.specs.NaturalJoin.{TableRows, IsFilled, columns_of, width_of, AreWhole, IsMatched, IsNaturalJoin}
use Rattle.lossless_join.specs.Parts.{part_cell}
use Rattle.lossless_join.specs.Joining.{part_within, merged_cell, merged, merged_at, row_at, places_of, matches, joined_with}
use Rattle.lossless_join.proofs.PartCells.{map_same, map_at, part_cell-part}
use Rattle.lossless_join.proofs.Projected.{same_row-itself}
use Rattle.lossless_join.proofs.Heath.{columns_of-append, columns_of-one, all-below, reads}
use Rattle.lossless_join.proofs.Distinct.{Apart-distinct, AllPairs-apart}

-- ---- rows of n columns
-- they are equal where their cells are
pub same_cells : (n : ℕ) (a b : Row) → length a ≡ n → length b ≡ n → ((k : ℕ) → k < n → cell a k ≡ cell b k) → a ≡ b
same_cells n a b e f h =
    sym (laid n a e) ∙ map_same (cell a) (cell b) (upto n) (λ k l. h k (Listed-upto_within n k l)) ∙ laid n b f
  where
    laid : (n : ℕ) (q : Row) → length q ≡ n → map (cell q) (upto n) ≡ q
    laid n q e = ap (λ (m : ℕ). map (cell q) (upto m)) (sym e) ∙ reads q q 0 (λ k. let z : 0 + k ≡ k = omega arith in ap (λ (j : ℕ). get_or q j []) z)

beyond : (a : Row) (k : ℕ) → length a ≤ k → cell a k ≡ []
beyond [] k l = refl
beyond (x ∷ a) zero l = absurd (omega arith)
beyond (x ∷ a) (suc k) l = beyond a k (omega arith)

cell-map_range : (f : ℕ → Cell) (m a k : ℕ) → k < m → get_or (map f (range_with_len a m)) k [] ≡ f (a + k)
cell-map_range f zero a k l = absurd (omega arith)
cell-map_range f (suc m) a zero l = let e : a ≡ a + 0 = omega arith in ap f e
cell-map_range f (suc m) a (suc k) l = cell-map_range f m (a + 1) k (omega arith) ∙ (let e : a + 1 + k ≡ a + suc k = omega arith in ap f e)

pub cell-laid : (f : ℕ → Cell) (n k : ℕ) → k < n → cell (map f (upto n)) k ≡ f k
cell-laid f n k l = cell-map_range f n 0 k l ∙ (let e : 0 + k ≡ k = omega arith in ap f e)

length-range : (m a : ℕ) → length (range_with_len a m) ≡ m
length-range zero a = refl
length-range (suc m) a = ap suc (length-range m (a + 1))

pub length-laid : (f : ℕ → Cell) (n : ℕ) → length (map f (upto n)) ≡ n
length-laid f n = length-map (upto n) f ∙ length-range n 0

-- ---- all cells of a part
all_cells : (a b : ℕ) (cs : List ℕ) (p : Row) → Ascends a b cs → length p ≡ length cs → map (λ k. get_or p (length (filter (λ j. ltb j k) cs)) []) cs ≡ p
all_cells a b [] [] r e = refl
all_cells a b [] (x ∷ p) r e = absurd (omega arith)
all_cells a b (c ∷ cs) [] r e = absurd (omega arith)
all_cells a b (c ∷ cs) (x ∷ p) r e = ap₂ (λ (y : Cell) (ys : Row). y ∷ ys) here (map_same _ _ cs later ∙ all_cells (c + 1) b cs p r.2 (omega arith))
  where
    none : (cs : List ℕ) (a : ℕ) → c ≤ a → Ascends a b cs → filter (λ j. ltb j c) cs ≡ []
    none [] a l r = refl
    none (d ∷ cs) a l r = let low = r.0 in
        ap (λ t. cond t (d ∷ filter (λ j. ltb j c) cs) (filter (λ j. ltb j c) cs)) (le-ltb d c (omega arith)) ∙ none cs (d + 1) (omega arith) r.2

    here : get_or (x ∷ p) (length (filter (λ j. ltb j c) (c ∷ cs))) [] ≡ x
    here = ap (λ (js : List ℕ). get_or (x ∷ p) (length js) []) (none (c ∷ cs) c (omega arith) (omega arith, r.1, r.2))

    later : (k : ℕ) → Listed k cs → get_or (x ∷ p) (length (filter (λ j. ltb j k) (c ∷ cs))) [] ≡ get_or p (length (filter (λ j. ltb j k) cs)) []
    later k l = let w = (Ascends_within (c + 1) b k cs r.2 l).0 in
        ap (λ t. get_or (x ∷ p) (length (cond t (c ∷ filter (λ j. ltb j k) cs) (filter (λ j. ltb j k) cs))) []) (lt-ltb c k (omega arith))

pub part_cells-all : (s : ℕ) (p : Row) → length p ≡ size s → map (part_cell s p) (columns s) ≡ p
unfolding part_cell size
part_cells-all s p e = all_cells 0 s (columns s) p (Ascends-columns s) e

-- ---- a row with a part in its place
module _ (n s : ℕ) (a p : Row) where
  pub length-merged : length (merged n s a p) ≡ n
  unfolding merged
  length-merged = length-laid (merged_cell s a p) n

  merged-own : (k : ℕ) → k < n → has s k ≡ true → cell (merged n s a p) k ≡ part_cell s p k
  unfolding merged
  merged-own k l h = cell-laid (merged_cell s a p) n k l ∙ ap (λ b. cond b (part_cell s p k) (cell a k)) h

  merged-other : (k : ℕ) → k < n → has s k ≡ false → cell (merged n s a p) k ≡ cell a k
  unfolding merged
  merged-other k l h = cell-laid (merged_cell s a p) n k l ∙ ap (λ b. cond b (part_cell s p k) (cell a k)) h

-- ---- the columns of tables
columns-in : (ts : List TableRows) (t : TableRows) → Listed t ts → IsSubset t.columns (columns_of ts)
unfolding columns_of
columns-in [] t l = absurd l
columns-in (u ∷ ts) t (inl e) = record { each = λ k h. has-union u.columns (columns_of ts) k ∙ or_left _ _ (ap (λ (v : TableRows). has v.columns k) (sym e) ∙ h) }
columns-in (u ∷ ts) t (inr l) = record { each = λ k h. has-union u.columns (columns_of ts) k ∙ or_right (has u.columns k) _ ((columns-in ts t l).each k h) }

-- ---- what is joined of the first tables
pub record IsPartlyJoined (n : ℕ) (tables : List TableRows) (rows : List Row) : Type 0 where
  pub wide : (row : Row) → Listed row rows → length row ≡ n
  pub blank : (row : Row) → Listed row rows → (k : ℕ) → has (columns_of tables) k ≡ false → cell row k ≡ []
  pub matched : (row : Row) → Listed row rows → IsMatched tables row
  pub every : (row : Row) → length row ≡ n → ((k : ℕ) → has (columns_of tables) k ≡ false → cell row k ≡ []) → IsMatched tables row → Listed row rows
  pub once : AllPairs (λ p q. p ≢ q) rows

cell-nulls : (n k : ℕ) → cell (replicate n []) k ≡ []
cell-nulls zero k = refl
cell-nulls (suc n) zero = refl
cell-nulls (suc n) (suc k) = cell-nulls n k

length-nulls : (n : ℕ) → length {A = Cell} (replicate n []) ≡ n
length-nulls zero = refl
length-nulls (suc n) = ap suc (length-nulls n)

pub joined_none : (n : ℕ) (rows : List Row) → rows ≡ replicate n [] ∷ [] → IsPartlyJoined n [] rows
unfolding columns_of
joined_none n rows e = record {
  wide = λ row l. ap length (only row l) ∙ length-nulls n;
  blank = λ row l k h. ap (λ (r : Row). cell r k) (only row l) ∙ cell-nulls n k;
  matched = λ row l. record { each = λ t h. absurd (Listed-contained t [] h) };
  every = λ row w b m. subst (Listed row) (sym e) (inl (same_cells n row (replicate n []) w (length-nulls n) (λ k l. b k (has-empty k) ∙ sym (cell-nulls n k))));
  once = subst (AllPairs (λ p q. p ≢ q)) (sym e) (λ i j d l h. absurd (omega arith));
}
  where
    only : (row : Row) → Listed row rows → row ≡ replicate n []
    only row l = by (subst (Listed row) e l)
      where
        by : Listed row (replicate n [] ∷ []) → row ≡ replicate n []
        by (inl i) = i
        by (inr h) = absurd h

module _ (n : ℕ) (ts : List TableRows) (t : TableRows) (filled : IsFilled t) (fits : t.columns < 2 ^ n) (rows : List Row) (u : IsPartlyJoined n ts rows) (within : columns_of ts < 2 ^ n) where
  abbrev pub done : ℕ
  done = columns_of ts

  abbrev pub common : ℕ
  common = inter done t.columns

  both : columns_of (ts ++ t ∷ []) ≡ union done t.columns
  both = columns_of-append ts (t ∷ []) ∙ ap (union done) (columns_of-one t)

  -- what is joined comes from a row and a row of the table that agree
  record Made (row : Row) : Type 0 where
    left : Row
    listed : Listed left rows
    place : ℕ
    given : place < length t.rows
    agrees : part_within t.columns common (row_at t place) ≡ part common left
    is : row ≡ merged n t.columns left (row_at t place)

  Made-joined : (row : Row) → Listed row (joined_with n done t rows) → Made row
  unfolding joined_with matches
  Made-joined row l =
      let w = Listed-flat_map_which (matches n common t) row rows (distinct-listed row _ l) in
      let v = Listed-map_which (merged_at n t w.0) row (places_of t common (part common w.0)) w.2 in
      let q = Listed-filter_parts (λ k. same_row (part_within t.columns common (row_at t k)) (part common w.0)) v.0 (upto (length t.rows)) v.1 in
      record { left = w.0; listed = w.1; place = v.0; given = Listed-upto_within (length t.rows) v.0 q.0; agrees = same_row-true _ _ q.1; is = v.2 }

  joined-Made : (row : Row) → Made row → Listed row (joined_with n done t rows)
  unfolding joined_with matches
  joined-Made row m = Listed-distinct row _ (Listed-flat_map (matches n common t) m.left row rows m.listed
      (subst (λ (r : Row). Listed r (matches n common t m.left)) (sym m.is) (Listed-map (merged_at n t m.left) m.place (places_of t common (part common m.left))
      (Listed-filter (λ k. same_row (part_within t.columns common (row_at t k)) (part common m.left)) m.place (upto (length t.rows)) (Listed-upto (length t.rows) m.place m.given)
      (subst (λ (r : Row). same_row (part_within t.columns common (row_at t m.place)) r ≡ true) m.agrees (same_row-itself (part_within t.columns common (row_at t m.place))))))))

  -- the table's row at a place is as wide as it has columns
  row-wide : (k : ℕ) → k < length t.rows → length (row_at t k) ≡ size t.columns
  row-wide k l = filled k [] l

  module _ (row : Row) (m : Made row) where
    own : (k : ℕ) → has t.columns k ≡ true → cell row k ≡ part_cell t.columns (row_at t m.place) k
    own k h = ap (λ (r : Row). cell r k) m.is ∙ merged-own n t.columns m.left (row_at t m.place) k (has_within t.columns n k fits h) h

    -- in the columns that were joined before it is as the row that it comes from
    before : (k : ℕ) → has done k ≡ true → cell row k ≡ cell m.left k
    unfolding part_within part
    before k h = by (has t.columns k) refl
      where
        by : (b : Bool) → has t.columns k ≡ b → cell row k ≡ cell m.left k
        by true e = own k e ∙ map_at (part_cell t.columns (row_at t m.place)) (cell m.left) k (columns common) m.agrees (Listed-columns common k (has-inter done t.columns k ∙ and_from _ _ h e))
        by false e = ap (λ (r : Row). cell r k) m.is ∙ merged-other n t.columns m.left (row_at t m.place) k (has_within done n k within h) e

    made-table : Contains t.rows (part t.columns row)
    unfolding part
    made-table = subst (λ (p : Row). Contains t.rows p) (sym (map_same (cell row) (part_cell t.columns (row_at t m.place)) (columns t.columns) (λ k l. own k (columns-listed t.columns k l)) ∙ part_cells-all t.columns (row_at t m.place) (row-wide m.place m.given)))
        (Contains-listed (row_at t m.place) t.rows (Listed-get_or t.rows m.place [] m.given))

    made-matched : IsMatched (ts ++ t ∷ []) row
    unfolding part
    made-matched = record { each = λ v l. by v (Listed-append_cases v ts (t ∷ []) (Listed-contained v (ts ++ t ∷ []) l)) }
      where
        by : (v : TableRows) → Listed v ts ⊎ Listed v (t ∷ []) → Contains v.rows (part v.columns row)
        by v (inl l) = subst (λ (p : Row). Contains v.rows p) (sym (map_same (cell row) (cell m.left) (columns v.columns) (λ k h. before k ((columns-in ts v l).each k (columns-listed v.columns k h)))))
            ((u.matched m.left m.listed).each v (Contains-listed v ts l))
        by v (inr (inl e)) = subst (λ (w : TableRows). Contains w.rows (part w.columns row)) (sym e) made-table
        by v (inr (inr l)) = absurd l

    made-blank : (k : ℕ) → has (columns_of (ts ++ t ∷ [])) k ≡ false → cell row k ≡ []
    made-blank k h = by (has done k) (has t.columns k) refl refl (sym (has-union done t.columns k) ∙ ap (λ (z : ℕ). has z k) (sym both) ∙ h) (cases_lt k n)
      where
        by : (a b : Bool) → has done k ≡ a → has t.columns k ≡ b → (has done k || has t.columns k) ≡ false → (k < n) ⊎ (n ≤ k) → cell row k ≡ []
        by true b e f g c = absurd (true≢false (sym (or_left (has done k) (has t.columns k) e) ∙ g))
        by false true e f g c = absurd (true≢false (sym (or_right (has done k) (has t.columns k) f) ∙ g))
        by false false e f g (inl l) = ap (λ (r : Row). cell r k) m.is ∙ merged-other n t.columns m.left (row_at t m.place) k l f ∙ u.blank m.left m.listed k e
        by false false e f g (inr l) = beyond row k (let w : length row ≡ n = ap length m.is ∙ length-merged n t.columns m.left (row_at t m.place) in omega arith)

  -- a row that is matched comes from its part before and its part on the table
  module _ (row : Row) (wide : length row ≡ n) (blank : (k : ℕ) → has (columns_of (ts ++ t ∷ [])) k ≡ false → cell row k ≡ []) (m : IsMatched (ts ++ t ∷ []) row) where
    abbrev earlier : Row
    earlier = map (λ k. if has done k then cell row k else []) (upto n)

    earlier-done : (k : ℕ) → has done k ≡ true → cell earlier k ≡ cell row k
    earlier-done k h = cell-laid (λ k. if has done k then cell row k else []) n k (has_within done n k within h) ∙ ap (λ b. cond b (cell row k) []) h

    earlier-blank : (k : ℕ) → has done k ≡ false → cell earlier k ≡ []
    earlier-blank k h = elim (cases_lt k n) as (λ _. cell earlier k ≡ []) [
      | inl l ↦ cell-laid (λ k. if has done k then cell row k else []) n k l ∙ ap (λ b. cond b (cell row k) []) h
      | inr l ↦ beyond earlier k (let w : length earlier ≡ n = length-laid (λ k. if has done k then cell row k else []) n in omega arith)
    ]

    earlier-listed : Listed earlier rows
    unfolding part
    earlier-listed = u.every earlier (length-laid (λ k. if has done k then cell row k else []) n) earlier-blank (record {
      each = λ v l.
          subst (λ (p : Row). Contains v.rows p) (sym (map_same (cell earlier) (cell row) (columns v.columns) (λ k h. earlier-done k ((columns-in ts v (Listed-contained v ts l)).each k (columns-listed v.columns k h)))))
          (m.each v (Contains-listed v (ts ++ t ∷ []) (Listed-append_left v ts (t ∷ []) (Listed-contained v ts l))));
    })

    own-part : Contains t.rows (part t.columns row)
    own-part = m.each t (Contains-listed t (ts ++ t ∷ []) (Listed-append_right t ts (t ∷ []) (inl refl)))

    at-place : row_at t own-part.0 ≡ part t.columns row
    at-place = get_or-default t.rows own-part.0 [] (part t.columns row) own-part.1 ∙ own-part.2
      where
        get_or-default : (xs : List Row) (k : ℕ) (d e : Row) → k < length xs → get_or xs k d ≡ get_or xs k e
        get_or-default [] k d e l = absurd (omega arith)
        get_or-default (x ∷ xs) zero d e l = refl
        get_or-default (x ∷ xs) (suc k) d e l = get_or-default xs k d e (omega arith)

    own-cell : (k : ℕ) → has t.columns k ≡ true → part_cell t.columns (row_at t own-part.0) k ≡ cell row k
    own-cell k h = ap (λ (p : Row). part_cell t.columns p k) at-place ∙ part_cell-part t.columns row k h

    matched-Made : Made row
    unfolding part_within part
    matched-Made = record {
      left = earlier;
      listed = earlier-listed;
      place = own-part.0;
      given = own-part.1;
      agrees = map_same (part_cell t.columns (row_at t own-part.0)) (cell earlier) (columns common) (λ k l.
          let q = and_parts (has done k) (has t.columns k) (sym (has-inter done t.columns k) ∙ columns-listed common k l) in
          own-cell k q.1 ∙ sym (earlier-done k q.0));
      is = same_cells n row (merged n t.columns earlier (row_at t own-part.0)) wide (length-merged n t.columns earlier (row_at t own-part.0)) (λ k l. by k l (has t.columns k) refl (has done k) refl);
    }
      where
        by : (k : ℕ) → k < n → (b : Bool) → has t.columns k ≡ b → (a : Bool) → has done k ≡ a → cell row k ≡ cell (merged n t.columns earlier (row_at t own-part.0)) k
        by k l true e a f = sym (merged-own n t.columns earlier (row_at t own-part.0) k l e ∙ own-cell k e)
        by k l false e true f = sym (merged-other n t.columns earlier (row_at t own-part.0) k l e ∙ earlier-done k f)
        by k l false e false f = blank k (ap (λ (z : ℕ). has z k) both ∙ has-union done t.columns k ∙ neither f e)
            ∙ sym (merged-other n t.columns earlier (row_at t own-part.0) k l e ∙ earlier-blank k f)
          where
            neither : has done k ≡ false → has t.columns k ≡ false → (has done k || has t.columns k) ≡ false
            neither f e = ap₂ (λ (a b : Bool). a || b) f e

  pub joined_more : (more : List Row) → more ≡ joined_with n done t rows → IsPartlyJoined n (ts ++ t ∷ []) more
  unfolding joined_with
  joined_more more e = record {
    wide = λ row l. let m = made row l in ap length m.is ∙ length-merged n t.columns m.left (row_at t m.place);
    blank = λ row l k h. made-blank row (made row l) k h;
    matched = λ row l. made-matched row (made row l);
    every = λ row w b m. subst (Listed row) (sym e) (joined-Made row (matched-Made row w b m));
    once = subst (AllPairs (λ p q. p ≢ q)) (sym e) (AllPairs-apart _ (Apart-distinct (flat_map (matches n common t) rows)));
  }
    where
      made : (row : Row) → Listed row more → Made row
      made row l = Made-joined row (subst (Listed row) e l)

-- ---- all tables
pub joined_all : (n : ℕ) (tables : List TableRows) (rows : List Row) → columns_of tables ≡ all n → IsPartlyJoined n tables rows → IsNaturalJoin n tables rows
joined_all n tables rows e u = record {
  exactly = λ row. (
    λ h. let l = Listed-contained row rows h in record { wide = u.wide row l; matched = u.matched row l },
    λ j. Contains-listed row rows (u.every row j.wide (λ k h. outside row j.wide k h) j.matched),
  );
  once = u.once;
}
  where
    outside : (row : Row) → length row ≡ n → (k : ℕ) → has (columns_of tables) k ≡ false → cell row k ≡ []
    outside row w k h = elim (cases_lt k n) as (λ _. cell row k ≡ []) [
      | inl l ↦ absurd (true≢false (sym (ap (λ (z : ℕ). has z k) e ∙ has-all n k ∙ lt-ltb k n l) ∙ h))
      | inr l ↦ beyond row k (omega arith)
    ]

-- the columns of the first tables, and of one table, are below n
pub tables-within : (n : ℕ) (ts us : List TableRows) → columns_of (ts ++ us) ≡ all n → columns_of ts < 2 ^ n
tables-within n ts us e = subset_below n (record { each = λ k h. ap (λ (z : ℕ). has z k) (columns_of-append ts us) ∙ has-union (columns_of ts) (columns_of us) k ∙ or_left _ _ h }) (subst (λ (z : ℕ). z < 2 ^ n) (sym e) (all-below n))

pub table-within : (n : ℕ) (ts : List TableRows) (t : TableRows) → Listed t ts → columns_of ts ≡ all n → t.columns < 2 ^ n
table-within n ts t l e = subset_below n (columns-in ts t l) (subst (λ (z : ℕ). z < 2 ^ n) (sym e) (all-below n))

pub columns_more : (ts : List TableRows) (i : ℕ) (t : TableRows) (done next : ℕ) → i < length ts → t ≡ get_or ts i t → done ≡ columns_of (take i ts) → next ≡ union done t.columns → next ≡ columns_of (take (i + 1) ts)
columns_more ts i t joined next l is d e = e ∙ ap₂ union d (sym (columns_of-one t)) ∙ sym (columns_of-append (take i ts) (t ∷ []))
    ∙ ap columns_of (sym (take_more ts i t l ∙ ap (λ (u : TableRows). take i ts ++ u ∷ []) (sym is)))

-- ---- the loop over the tables
pub ok_more : {X E : Type 0} (P Q : X → Type 0) (r : Result X E) → ((x : X) → P x → Q x) → IfOk r P → IfOk r Q
ok_more P Q (Ok x) f h = f x h
ok_more P Q (Err e) f h = tt

module _ (tables : List TableRows) (n : ℕ) (width : n ≡ width_of tables) (whole : AreWhole tables) where
  pub all_columns : columns_of tables ≡ all n
  all_columns = whole.columns ∙ ap all (sym width)

  pub first_within : (i joined : ℕ) → joined ≡ columns_of (take i tables) → joined < 2 ^ n
  first_within i joined e = subst (λ (z : ℕ). z < 2 ^ n) (sym e) (tables-within n (take i tables) (drop i tables) (ap columns_of (take-append-drop i tables) ∙ all_columns))

  pub joined_next : (i : ℕ) (t : TableRows) (before : ℕ) (rows given more : List Row) → i < length tables → t ≡ get_or tables i t → IsFilled t → before ≡ columns_of (take i tables) → IsPartlyJoined n (take i tables) rows → given ≡ rows → more ≡ joined_with n before t given → IsPartlyJoined n (take (i + 1) tables) more
  joined_next i t joined rows given more l is filled e u g m =
      subst (λ (ts : List TableRows). IsPartlyJoined n ts more) (sym (take_more tables i t l ∙ ap (λ (u : TableRows). take i tables ++ u ∷ []) (sym is)))
      (joined_more n (take i tables) t filled (table-within n tables t (subst (λ (u : TableRows). Listed u tables) (sym is) (Listed-get_or tables i t l)) all_columns) rows u
      (first_within i (columns_of (take i tables)) refl) more (m ∙ ap₂ (λ (z : ℕ) (rs : List Row). joined_with n z t rs) e g))

  pub joined_end : (i : ℕ) (rows : List Row) → length tables ≤ i → IsPartlyJoined n (take i tables) rows → IsNaturalJoin (width_of tables) tables rows
  joined_end i rows l u = subst (λ (m : ℕ). IsNaturalJoin m tables rows) width (joined_all n tables rows all_columns (subst (λ (ts : List TableRows). IsPartlyJoined n ts rows) (take_all i tables l) u))
