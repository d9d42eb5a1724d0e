-- Rows across columns, and those of others behind them.
use Rattle.std.proofs.Common.{inl, inr, ◌≡◌, ◌⊎◌, ℕ, ◌+◌, ◌-◌, ◌<◌, ◌≤◌, sym, ap, ◌∙◌, arith, List, [], ◌++◌, length, get_or}
use Rattle.std.proofs.lemmas.Bool.{cases_lt}
use Rattle.std.proofs.lemmas.List.{length-append, get_or_append_left, get_or-append-add, get_or_default}
use Rattle.rel_base.specs.Cells.{Cell, Row, cell}
use Rattle.rel_base.specs.declared.limits.TheConstants.{MOST_ROWS}
use Rattle.rel_base.specs.Relation.{row_across, rows_across, AreColumns}
use Rattle.rel_base.proofs.Across.{length-across, across-row, across-is, length-row_across, cell-row_across}

module _ (names others : Row) (old more new : List (List Cell)) (n m : ℕ) (h : AreColumns names old n) (g : AreColumns others more m) (wide : length others ≡ length names)
    (long : length new ≡ length old) (each : (j : ℕ) → j < length old → get_or new j [] ≡ get_or old j [] ++ get_or more j []) where
  abbrev all : List Row
  all = rows_across old n ++ rows_across more m

  count : length all ≡ n + m
  count = let a = length-append (rows_across old n) (rows_across more m) in let b = length-across old n in let c = length-across more m in omega arith

  same : length more ≡ length old
  same = g.wide ∙ wide ∙ sym h.wide

  old_row : (k : ℕ) → k < n → get_or all k [] ≡ row_across old k
  old_row k l = let e = length-across old n in get_or_append_left (rows_across old n) (rows_across more m) [] k (omega arith) ∙ across-row old n k [] l

  new_row : (k : ℕ) → k < m → get_or all (n + k) [] ≡ row_across more k
  new_row k l =
      ap (λ (i : ℕ). get_or all (i + k) []) (sym (length-across old n)) ∙ get_or-append-add (rows_across old n) (rows_across more m) k []
      ∙ across-row more m k [] l

  wide_at : (k : ℕ) → k < n + m → (k < n) ⊎ (n ≤ k) → length (get_or all k []) ≡ length new
  wide_at k b (inl l) = ap length (old_row k l) ∙ length-row_across old k ∙ sym long
  wide_at k b (inr l) =
      let j : ℕ = k - n in
      let e : k ≡ n + j = omega arith in
      ap (λ (i : ℕ). length (get_or all i [])) e ∙ ap length (new_row j (omega arith)) ∙ length-row_across more j ∙ same ∙ sym long

  cells_at : (k j : ℕ) → k < n + m → j < length old → (k < n) ⊎ (n ≤ k) → get_or (get_or new j []) k [] ≡ cell (get_or all k []) j
  cells_at k j b l (inl f) =
      let e = h.even j [] l in
      ap (λ (cells : List Cell). get_or cells k []) (each j l) ∙ get_or_append_left (get_or old j []) (get_or more j []) [] k (omega arith)
      ∙ sym (cell-row_across old k j l) ∙ ap (λ (r : Row). cell r j) (sym (old_row k f))
  cells_at k j b l (inr f) =
      let i : ℕ = k - n in
      let e : k ≡ n + i = omega arith in
      let v : i < m = omega arith in
      let s : j < length more = let t = same in omega arith in
      ap (λ (cells : List Cell). get_or cells k []) (each j l)
      ∙ ap (λ (p : ℕ). get_or (get_or old j [] ++ get_or more j []) p []) (e ∙ ap (λ (p : ℕ). p + i) (sym (h.even j [] l)))
      ∙ get_or-append-add (get_or old j []) (get_or more j []) i []
      ∙ sym (cell-row_across more i j s)
      ∙ ap (λ (r : Row). cell r j) (sym (ap (λ (p : ℕ). get_or all p []) e ∙ new_row i v))

  pub across-both : rows_across new (n + m) ≡ rows_across old n ++ rows_across more m
  across-both =
      let c = count in
      across-is new (n + m) all (omega arith) (λ k b. wide_at k b (cases_lt k n)) (λ k j b l. cells_at k j b (omega (arith, l, long)) (cases_lt k n))

  pub AreColumns-both : n + m ≤ MOST_ROWS → AreColumns names new (n + m)
  AreColumns-both room = record {
    some = h.some;
    narrow = h.narrow;
    wide = long ∙ h.wide;
    even = λ j d l.
        let b : j < length old = omega (arith, l, long) in
        let s : j < length more = let t = same in omega arith in
        let e = h.even j [] b in
        let f = g.even j [] s in
        let a = length-append (get_or old j []) (get_or more j []) in
        ap length (get_or_default new j d [] l ∙ each j b) ∙ (omega (arith, e, f, a));
    short = room;
  }
