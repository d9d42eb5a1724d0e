-- What is kept of a row state is one, and how it is read.
use Rattle.std.proofs.Common.{◌≡◌, ◌≢◌, ◌↔◌, ℕ, ◌+◌, ◌-◌, ◌<◌, ◌≤◌, Bool, true, false, sym, ap, ap₂, ◌∙◌, subst, arith, List, [], length, map, get_or}
use Rattle.std.specs.List.{All, Contains, filter, range_with_len}
use Rattle.std.proofs.lemmas.List.{get_or_default, length-map, length-replicate}
use Rattle.col_set.specs.ColSet.{has}
use Rattle.col_set.proofs.Places.{Contains-listed, Listed-contained}
use Rattle.rel_base.specs.declared.nulls.Nulls.{Nulls}
use Rattle.rel_base.specs.Cells.{Cell, Row, cell}
use Rattle.rel_base.specs.Agreement.{Agrees, agree}
use Rattle.std.specs.Prelude.{replicate}
use Rattle.rel_base.specs.Relation.{Content, IsContent}
use Rattle.rel_base.specs.CodeTable.{CodeTable, IsCodeTable, code_at}
use Rattle.rel_base.specs.RowState.{RowState, IsRowState, opened, width, next, row}
use Rattle.rel_base.specs.Validity.{agree_of}
use Rattle.rel_base.specs.Shows.{Shows, live_numbers}
use Rattle.rel_base.proofs.Agree.{agree-parts, agree-from}
use Rattle.rel_base.proofs.States.{All-from, increasing-Climbs}
use Rattle.row_log.specs.Column.{ColumnCells, AreCodes}
use Rattle.row_log.specs.Table.{row_at, rows_of, live_of, no_column, column_at, IsLog}
use Rattle.row_log.proofs.Rows.{length-range, length-rows_of, rows_of-row, rows_of-opened, length-row_at, cell-row_at}
use Rattle.row_log.proofs.Flags.{Climbs-live_of, Listed-live_of, live_of-Listed, live_of-all}

-- the live numbers of a snapshot with these flags
numbers-kept : {flags : List Bool} (s : CodeTable) → s.to ≡ length flags + 1 → s.live ≡ flags → live_numbers s ≡ live_of flags
unfolding live_numbers live_of
numbers-kept {flags} s to same =
    let n : s.to - 1 ≡ length flags = omega arith in
    ap₂ (λ (fs : List Bool) (k : ℕ). filter (λ number. get_or fs (number - 1) false) (range_with_len 1 k)) same n

-- the row state that these fields keep
abbrev pub kept : Row → Nulls → ℕ → List ColumnCells → List Bool → RowState
kept names nulls limit columns flags = record { names = names; nulls = nulls; limit = limit; given = rows_of columns (length flags); live = live_of flags }

module _ (names : Row) (nulls : Nulls) (limit : ℕ) (columns : List ColumnCells) (flags : List Bool) (live : ℕ) (h : IsLog (length names) nulls limit columns flags live) where
  pub next-kept : next (kept names nulls limit columns flags) ≡ length flags + 1
  next-kept = ap (λ (n : ℕ). n + 1) (length-rows_of columns (length flags))

  pub IsRowState-kept : IsRowState (kept names nulls limit columns flags)
  IsRowState-kept = record {
    some = h.some;
    narrow = h.narrow;
    widths = λ k d l. let e = length-rows_of columns (length flags) in let m : k < length flags = omega arith in
        ap length (rows_of-row columns (length flags) k d m) ∙ length-row_at columns k ∙ h.wide;
    short = let e = length-rows_of columns (length flags) in let s = h.short in omega arith;
    few = h.few;
    ascending = increasing-Climbs (live_of flags) (Climbs-live_of flags);
    positive = All-from (λ (number : ℕ). 0 < number) (live_of flags) (λ number g. (Listed-live_of flags number g).positive);
    numbered = All-from (λ (number : ℕ). number < next (kept names nulls limit columns flags)) (live_of flags)
        (λ number g. let e = next-kept in let w = (Listed-live_of flags number g).within in omega arith);
  }

  -- the row of a number that was given
  pub row-kept : (number : ℕ) → number - 1 < length flags → row (kept names nulls limit columns flags) number ≡ row_at columns (number - 1)
  row-kept number l = rows_of-row columns (length flags) (number - 1) [] l

  pub cell-kept : (number k : ℕ) → number - 1 < length flags → k < length names → cell (row (kept names nulls limit columns flags) number) k ≡ get_or (column_at columns k).cells (number - 1) []
  cell-kept number k l m =
      let e = h.wide in
      ap (λ (r : Row). cell r k) (row-kept number l) ∙ cell-row_at columns (number - 1) k (omega arith)

  pub agree-kept : (i j x : ℕ) → i - 1 < length flags → j - 1 < length flags → x ≡ agree nulls (length columns) (row_at columns (i - 1)) (row_at columns (j - 1))
      → x ≡ agree_of (kept names nulls limit columns flags) i j
  agree-kept i j x l m e =
      e ∙ ap (λ (n : ℕ). agree nulls n (row_at columns (i - 1)) (row_at columns (j - 1))) h.wide
      ∙ ap₂ (λ (a b : Row). agree nulls (length names) a b) (sym (row-kept i l)) (sym (row-kept j m))

  -- ---- where contracts see it as s
  module _ (s : RowState) (e : kept names nulls limit columns flags ≡ s) where
    pub placed : (number : ℕ) → 0 < number → number < next s → number - 1 < length flags
    placed number p l = let n = next-kept in let q = ap next e in omega arith

    pub in_width : (k : ℕ) → k < width s → k < length names
    in_width k l = subst (λ (r : RowState). k < width r) (sym e) l

  -- ---- a snapshot
  module _ (s : CodeTable) (many : length s.codes ≡ length columns) (to : s.to ≡ length flags + 1) (same : s.live ≡ flags)
      (codes : (j : ℕ) → j < length columns → AreCodes (column_at columns j) (get_or s.codes j [])) where
    pub count-kept : live ≡ length (live_numbers s)
    count-kept = h.count ∙ ap length (sym (numbers-kept s to same))

    pub IsCodeTable-kept : IsCodeTable s
    IsCodeTable-kept = record {
      some = let e = h.wide in let a = h.some in omega arith;
      narrow = let e = h.wide in let a = h.narrow in omega arith;
      first = omega arith;
      short = let a = h.short in omega arith;
      coded = λ j d l.
          let m : j < length columns = omega arith in
          let a = (codes j m).long in let e = (h.each j no_column m).long in
          let b : get_or s.codes j d ≡ get_or s.codes j [] = get_or_default s.codes j d [] l in
          let c : length (get_or s.codes j d) ≡ length (get_or s.codes j []) = ap length b in omega arith;
      flagged = let e = ap length same in omega arith;
    }

    in_range : (i : ℕ) → Contains (live_of flags) i → (0 < i) × (i - 1 < length flags)
    in_range i g = let w = Listed-live_of flags i (Listed-contained i (live_of flags) g) in let a = w.positive in let b = w.within in (a, omega arith)

    apart : (i j : ℕ) → 0 < i → 0 < j → i ≢ j → i - 1 ≢ j - 1
    apart i j a b ne e = ne (omega arith)

    coded_agree : (i j k : ℕ) → (0 < i) × (i - 1 < length flags) → (0 < j) × (j - 1 < length flags) → i ≢ j → k < length names
        → (code_at s i k ≡ code_at s j k) ↔ (has (agree_of (kept names nulls limit columns flags) i j) k ≡ true)
    coded_agree i j k v w ne l =
        let e = h.wide in
        let m : k < length columns = omega arith in
        let col = h.each k no_column m in
        let long = col.long in
        let c = codes k m in
        let cl = c.long in
        let a = v.1 in let b = w.1 in
        let same = c.agree (i - 1) (j - 1) (omega arith) (omega arith) (apart i j v.0 w.0 ne) in (
          λ q. agree-from nulls (length names) (row (kept names nulls limit columns flags) i) (row (kept names nulls limit columns flags) j) k l
              (subst (λ (n : Nulls). Agrees n (cell (row (kept names nulls limit columns flags) i) k) (cell (row (kept names nulls limit columns flags) j) k)) col.nulls
              (subst (λ (y : Cell). Agrees (column_at columns k).nulls y (cell (row (kept names nulls limit columns flags) j) k)) (sym (cell-kept i k a l))
              (subst (λ (y : Cell). Agrees (column_at columns k).nulls (get_or (column_at columns k).cells (i - 1) []) y) (sym (cell-kept j k b l)) (same.0 q)))),
          λ q. same.1 (subst (λ (y : Cell). Agrees (column_at columns k).nulls (get_or (column_at columns k).cells (i - 1) []) y) (cell-kept j k b l)
              (subst (λ (y : Cell). Agrees (column_at columns k).nulls y (cell (row (kept names nulls limit columns flags) j) k)) (cell-kept i k a l)
              (subst (λ (n : Nulls). Agrees n (cell (row (kept names nulls limit columns flags) i) k) (cell (row (kept names nulls limit columns flags) j) k)) (sym col.nulls)
              (agree-parts nulls (length names) (row (kept names nulls limit columns flags) i) (row (kept names nulls limit columns flags) j) k q).1))),
        )

    pub Shows-kept : Shows s (kept names nulls limit columns flags)
    Shows-kept = record {
      columns = many ∙ h.wide;
      next = to ∙ sym next-kept;
      live = λ number p. (
        (λ e. Contains-listed number (live_of flags) (live_of-Listed flags number p (sym (ap (λ (xs : List Bool). get_or xs (number - 1) false) same) ∙ e))),
        (λ g. ap (λ (xs : List Bool). get_or xs (number - 1) false) same ∙ (Listed-live_of flags number (Listed-contained number (live_of flags) g)).flag),
      );
      codes = λ i j k f g ne l. coded_agree i j k (in_range i f) (in_range j g) ne l;
    }

-- ---- a relation that was opened
module _ (r : Content) (is : IsContent r) (names : Row) (nulls : Nulls) (limit w n live : ℕ) (rows : List Row) (columns : List ColumnCells) (flags : List Bool)
    (named : names ≡ r.names) (listed : rows ≡ r.rows) (few : limit ≤ 1000000) (wide : length columns ≡ w) (width_is : w ≡ length names)
    (coded : (j : ℕ) → j < w → column_at columns j ≡ record { nulls = nulls; cells = map (λ row. cell row j) rows })
    (flagged : flags ≡ replicate n true) (n_is : n ≡ length rows) (count : live ≡ length flags) where
  long_flags : length flags ≡ length rows
  long_flags = ap length flagged ∙ length-replicate n true ∙ n_is

  numbers : live_of flags ≡ range_with_len 1 n
  numbers = live_of-all n flags flagged

  pub IsLog-opened : IsLog (length names) nulls limit columns flags live
  IsLog-opened = record {
    some = subst (λ (xs : Row). 0 < length xs) (sym named) is.some;
    narrow = subst (λ (xs : Row). length xs ≤ 128) (sym named) is.narrow;
    wide = wide ∙ width_is;
    each = λ j d l.
        let s : get_or columns j d ≡ record { nulls = nulls; cells = map (λ row. cell row j) rows } = get_or_default columns j d no_column l ∙ coded j (omega arith) in record {
          nulls = ap (λ (x : ColumnCells). x.nulls) s;
          long = ap (λ (x : ColumnCells). length x.cells) s ∙ length-map rows (λ (row : Row). cell row j) ∙ sym long_flags;
        };
    short = let e = long_flags in let s = is.short in let t = ap length listed in omega arith;
    few = few;
    count = count ∙ long_flags ∙ sym (ap length numbers ∙ length-range 1 n ∙ n_is);
  }

  pub kept-opened : kept names nulls limit columns flags ≡ opened nulls limit r
  kept-opened =
      let given : rows_of columns (length flags) ≡ r.rows =
      ap (rows_of columns) long_flags
      ∙ rows_of-opened columns rows w (subst (λ (xs : List Row). All (λ (row : Row). length row ≡ w) xs) (sym listed) (λ k d l. is.widths k d l ∙ ap length (sym named) ∙ sym width_is)) wide
      (λ j l. ap (λ (x : ColumnCells). x.cells) (coded j l)) ∙ listed in
      let live : live_of flags ≡ range_with_len 1 (length r.rows) = numbers ∙ ap (range_with_len 1) (n_is ∙ ap length listed) in
      ap₂ (λ (a : Row) (g : List Row). let x : RowState = record { names = a; nulls = nulls; limit = limit; given = g; live = live_of flags } in x) named given
      ∙ ap (λ (l : List ℕ). let x : RowState = record { names = r.names; nulls = nulls; limit = limit; given = r.rows; live = l } in x) live
