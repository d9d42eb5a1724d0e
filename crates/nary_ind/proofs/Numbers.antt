-- Numbers of cells.
use Rattle.std.proofs.Common.{inl, inr, ◌≡◌, ◌⊎◌, ℕ, zero, suc, ◌+◌, ◌<◌, ◌≤◌, Bool, true, false, cond, refl, sym, ap, ap₂, ◌∙◌, subst, arith, List, [], ◌∷◌, ◌++◌, length, map, take, get_or, append_assoc, append-nil, Some}
use Rattle.std.specs.Prelude.{slice_get}
use Rattle.std.specs.List.{All}
use Rattle.std.proofs.lemmas.List.{length-append, length-map, get_or_append_left, get_or-map, map_push, take_more, get_or_push}
use Rattle.std.proofs.lemmas.List.Elements.{All-get_or, All-push, All-nil}
use Rattle.std.proofs.lemmas.Option.{get_or_from_slice_get, slice_get-get_or, slice_get_within}
use Rattle.column_dict.specs.Coding.{Coding, IsCoding, coded, is_fresh, is_new}
use Rattle.col_set.specs.Lists.{Listed}
use Rattle.rel_base.specs.declared.nulls.Nulls.{Nulls}
use Rattle.rel_base.specs.declared.nulls.Nulls.TheVariants.{Equal}
use Rattle.rel_base.specs.Cells.{Cell, Row, cell}
use Rattle.rel_base.specs.RowState.{RowState, row, width}
use Rattle.nary_ind.specs.ListInclusions.{rows_at, width_at}
use Rattle.nary_ind.specs.Unary.{is_used}
use Rattle.nary_ind.specs.Numbering.{AreNumbersOf, AreNumbersIfUsed, IsMore, IsTableOf, StartsWithNull}
use Rattle.nary_ind.specs.Tables.{AreTables, Coded, cell_at, table_at}
use Rattle.nary_ind.proofs.Among.{map-twice}
use Rattle.nary_ind.proofs.Lists.{map-same}

-- ---- more cells
pub more-none : (d : Coding) → d.nulls ≡ Equal → IsMore d d
more-none d e = record { added = []; behind = sym (append-nil d.cells); nulls = e }

pub more-more : (a b c : Coding) → IsMore a b → IsMore b c → IsMore a c
more-more a b c m n = record {
  added = m.added ++ n.added;
  behind = n.behind ∙ ap (λ (xs : List Cell). xs ++ n.added) m.behind ∙ append_assoc a.cells m.added n.added;
  nulls = n.nulls;
}

pub more-coded : (old new : Coding) (c : Cell) → old.nulls ≡ Equal → new ≡ coded old c → IsMore old new
more-coded old new c e is = subst (IsMore old) (sym is) (by (is_new old c))
  where
    by : (b : Bool) → IsMore old (record { nulls = old.nulls; cells = cond b (old.cells ++ c ∷ []) old.cells })
    by true = record { added = c ∷ []; behind = refl; nulls = e }
    by false = record { added = []; behind = sym (append-nil old.cells); nulls = e }

pub null-more : (old new : Coding) → StartsWithNull old → IsMore old new → StartsWithNull new
null-more old new s m = record {
  first = ap (λ (xs : List Cell). slice_get xs 0) m.behind ∙ by old.cells s.first;
  nulls = m.nulls;
}
  where
    by : (cells : List Cell) → slice_get cells 0 ≡ Some [] → slice_get (cells ++ m.added) 0 ≡ Some []
    by [] e = absurd (let l = slice_get_within [] 0 [] e in omega arith)
    by (c ∷ cells) e = e

pub null-first : (old new : Coding) (n : ℕ) → old.cells ≡ [] → IsMore old new → slice_get new.cells n ≡ Some [] → (n ≡ 0) → StartsWithNull new
null-first old new n none m e z = record { first = ap (slice_get new.cells) (sym z) ∙ e; nulls = m.nulls }

-- ---- numbers among more cells
all-wider : (xs : List ℕ) (m n : ℕ) → m ≤ n → All (λ k. k < m) xs → All (λ k. k < n) xs
all-wider xs m n l all k d h = let b : get_or xs k d < m = all k d h in omega arith

pub numbers-more : (old new : Coding) (column : List Cell) (numbers : List ℕ) → IsMore old new → AreNumbersOf old.cells column numbers → AreNumbersOf new.cells column numbers
numbers-more old new column numbers m are =
    let e : length new.cells ≡ length old.cells + length m.added = ap length m.behind ∙ length-append old.cells m.added in
    record {
      known = all-wider numbers (length old.cells) (length new.cells) (omega arith) are.known;
      same =
          map-same (λ n. get_or new.cells n []) (λ n. get_or old.cells n []) numbers (λ n h.
          ap (λ (xs : List Cell). get_or xs n []) m.behind ∙ get_or_append_left old.cells m.added [] n (below numbers are.known n h)) ∙ are.same;
    }
  where
    below : (xs : List ℕ) → All (λ k. k < length old.cells) xs → (n : ℕ) → Listed n xs → n < length old.cells
    below [] all n h = absurd h
    below (x ∷ xs) all n (inl e) = subst (λ (k : ℕ). k < length old.cells) (sym e) (all 0 0 (omega arith))
    below (x ∷ xs) all n (inr h) = below xs (λ k d l. all (suc k) d (omega arith)) n h

pub numbers-none : (cells : List Cell) → AreNumbersOf cells [] []
numbers-none cells = record { known = All-nil (λ k. k < length cells); same = refl }

pub numbers-push : (d : Coding) (column : List Cell) (old new : List ℕ) (n : ℕ) (c : Cell) → AreNumbersOf d.cells column old → slice_get d.cells n ≡ Some c → new ≡ old ++ n ∷ [] → AreNumbersOf d.cells (column ++ c ∷ []) new
numbers-push d column old new n c are e is = record {
  known = subst (All (λ k. k < length d.cells)) (sym is) (All-push (λ k. k < length d.cells) old n are.known (slice_get_within d.cells n c e));
  same =
      ap (map (λ k. get_or d.cells k [])) is ∙ map_push (λ k. get_or d.cells k []) old n
      ∙ ap₂ (λ (xs : List Cell) (x : Cell). xs ++ x ∷ []) are.same (get_or_from_slice_get d.cells n c [] e);
}

pub numbers-step : (r : RowState) (c : ℕ) (live : List ℕ) (i k : ℕ) (d e : Coding) (old new : List ℕ) (n : ℕ) (a : Cell) → i < length live → k ≡ get_or live i k → IsMore d e
    → AreNumbersOf d.cells (map (λ number. cell (row r number) c) (take i live)) old → slice_get e.cells n ≡ Some a → a ≡ cell (row r k) c → new ≡ old ++ n ∷ []
    → AreNumbersOf e.cells (map (λ number. cell (row r number) c) (take (i + 1) live)) new
numbers-step r c live i k d e old new n a l at more are here same is =
    subst (λ (xs : List Cell). AreNumbersOf e.cells xs new)
    (ap (λ (x : Cell). map (λ number. cell (row r number) c) (take i live) ++ x ∷ []) same
    ∙ sym (ap (map (λ number. cell (row r number) c)) (take_more live i k l ∙ ap (λ (j : ℕ). take i live ++ j ∷ []) (sym at)) ∙ map_push (λ number. cell (row r number) c) (take i live) k))
    (numbers-push e (map (λ number. cell (row r number) c) (take i live)) old new n a (numbers-more d e (map (λ number. cell (row r number) c) (take i live)) old more are) here is)

pub numbers-all : (r : RowState) (c : ℕ) (rs : List RowState) (p : ℕ) (cells : List Cell) (live numbers : List ℕ) → slice_get rs p ≡ Some r → live ≡ r.live
    → AreNumbersOf cells (map (λ number. cell (row r number) c) live) numbers → AreNumbersOf cells (map (λ (x : Row). cell x c) (rows_at rs p)) numbers
numbers-all r c rs p cells live numbers at is are =
    subst (λ (xs : List Cell). AreNumbersOf cells xs numbers)
    (ap (map (λ number. cell (row r number) c)) is
    ∙ sym (map-twice (λ (x : Row). cell x c) (row r) r.live)
    ∙ ap (map (λ (x : Row). cell x c)) (rows-of rs p r at)) are
  where
    rows-of : (rs : List RowState) (p : ℕ) (r : RowState) → slice_get rs p ≡ Some r → map (row r) r.live ≡ rows_at rs p
    rows-of rs p r e =
        sym (get_or-map (λ (s : RowState). map (row s) s.live) rs p r [] (slice_get_within rs p r e) ∙ ap (λ (s : RowState). map (row s) s.live) (get_or_from_slice_get rs p r r e))

-- ---- a table
pub rows-counted : (rs : List RowState) (p : ℕ) (r : RowState) (live : List ℕ) → p < length rs → r ≡ get_or rs p r → live ≡ r.live → length live ≡ length (rows_at rs p)
rows-counted rs p r live l at is =
    ap length is ∙ sym (ap length (get_or-map (λ (s : RowState). map (row s) s.live) rs p r [] l ∙ ap (λ (s : RowState). map (row s) s.live) (sym at)) ∙ length-map r.live (row r))

pub width-is : (rs : List RowState) (p : ℕ) (r : RowState) → p < length rs → r ≡ get_or rs p r → width_at rs p ≡ width r
width-is rs p r l at = get_or-map width rs p r 0 l ∙ ap width (sym at)

pub columns-step : (d e : Coding) (rs : List RowState) (p n : ℕ) (old new : List (List ℕ)) (found : List ℕ) → IsMore d e → length old ≡ n → new ≡ old ++ found ∷ []
    → ((c : ℕ) → c < n → AreNumbersIfUsed d.cells rs p c (get_or old c [])) → AreNumbersIfUsed e.cells rs p n found → (c : ℕ) → c < n + 1 → AreNumbersIfUsed e.cells rs p c (get_or new c [])
columns-step d e rs p n old new found more long is before here c l used =
    subst (λ (xs : List (List ℕ)). AreNumbersOf e.cells (map (λ (x : Row). cell x c) (rows_at rs p)) (get_or xs c [])) (sym is) (by (omega_cases c n l))
  where
    omega_cases : (c n : ℕ) → c < n + 1 → (c < n) ⊎ (c ≡ n)
    omega_cases c n l = le_cases c n (omega arith)
      where
        le_cases : (c n : ℕ) → c ≤ n → (c < n) ⊎ (c ≡ n)
        le_cases zero zero l = inr refl
        le_cases zero (suc n) l = inl (omega arith)
        le_cases (suc c) zero l = absurd (omega arith)
        le_cases (suc c) (suc n) l = elim (le_cases c n (omega arith)) as (λ _. (suc c < suc n) ⊎ (suc c ≡ suc n)) [ inl m ↦ inl (omega arith) | inr e ↦ inr (ap suc e) ]

    by : (c < n) ⊎ (c ≡ n) → AreNumbersOf e.cells (map (λ (x : Row). cell x c) (rows_at rs p)) (get_or (old ++ found ∷ []) c [])
    by (inl m) =
        subst (λ (xs : List ℕ). AreNumbersOf e.cells (map (λ (x : Row). cell x c) (rows_at rs p)) xs) (sym (get_or_append_left old (found ∷ []) [] c (omega arith)))
        (numbers-more d e (map (λ (x : Row). cell x c) (rows_at rs p)) (get_or old c []) more (before c m used))
    by (inr same) =
        subst (λ (xs : List ℕ). AreNumbersOf e.cells (map (λ (x : Row). cell x c) (rows_at rs p)) xs) (sym (get_or_push old found [] c (long ∙ sym same)))
        (subst (λ (k : ℕ). AreNumbersOf e.cells (map (λ (x : Row). cell x k) (rows_at rs p)) found) (sym same) (here (subst (λ (k : ℕ). is_used rs p k ≡ true) same used)))

-- ---- all tables
pub table-more : (d e : Coding) (rs : List RowState) (p : ℕ) (t : Coded) → IsMore d e → IsTableOf d.cells rs p t → IsTableOf e.cells rs p t
table-more d e rs p t more is = record {
  rows = is.rows;
  columns = is.columns;
  numbers = λ c l used. numbers-more d e (map (λ (x : Row). cell x c) (rows_at rs p)) (get_or t.columns c []) more (is.numbers c l used);
}

pub tables-step : (d e : Coding) (rs : List RowState) (n : ℕ) (old new : List Coded) (t : Coded) → IsMore d e → length old ≡ n → new ≡ old ++ t ∷ []
    → ((p : ℕ) → p < n → IsTableOf d.cells rs p (table_at old p)) → IsTableOf e.cells rs n t → (p : ℕ) → p < n + 1 → IsTableOf e.cells rs p (table_at new p)
tables-step d e rs n old new t more long is before here p l =
    subst (λ (ts : List Coded). IsTableOf e.cells rs p (table_at ts p)) (sym is) (by (le_cases p n (omega arith)))
  where
    none : Coded
    none = record { rows = 0; columns = [] }

    le_cases : (c n : ℕ) → c ≤ n → (c < n) ⊎ (c ≡ n)
    le_cases zero zero l = inr refl
    le_cases zero (suc n) l = inl (omega arith)
    le_cases (suc c) zero l = absurd (omega arith)
    le_cases (suc c) (suc n) l = elim (le_cases c n (omega arith)) as (λ _. (suc c < suc n) ⊎ (suc c ≡ suc n)) [ inl m ↦ inl (omega arith) | inr e ↦ inr (ap suc e) ]

    by : (p < n) ⊎ (p ≡ n) → IsTableOf e.cells rs p (table_at (old ++ t ∷ []) p)
    by (inl m) = subst (IsTableOf e.cells rs p) (sym (get_or_append_left old (t ∷ []) (record { rows = 0; columns = [] }) p (omega arith))) (table-more d e rs p (table_at old p) more (before p m))
    by (inr same) = subst (IsTableOf e.cells rs p) (sym (get_or_push old t (record { rows = 0; columns = [] }) p (long ∙ sym same))) (subst (λ (k : ℕ). IsTableOf e.cells rs k t) (sym same) here)

-- ---- numbers are equal where cells are
module _ (d : Coding) (is : IsCoding d) (start : StartsWithNull d) where
  one-number : (m n : ℕ) → m < length d.cells → n < length d.cells → get_or d.cells m [] ≡ get_or d.cells n [] → m ≡ n
  one-number m n l h e =
      is.once m n (get_or d.cells n []) (slice_get-get_or d.cells m [] l ∙ ap Some e) (slice_get-get_or d.cells n [] h) (fresh d.nulls start.nulls)
    where
      fresh : (nulls : Nulls) → nulls ≡ Equal → is_fresh nulls (get_or d.cells n []) ≡ false
      fresh nulls e = ap (λ (m : Nulls). is_fresh m (get_or d.cells n [])) e

  -- the cell of a number in a column
  number-cell : (rs : List RowState) (p c i : ℕ) (numbers : List ℕ) → AreNumbersOf d.cells (map (λ (x : Row). cell x c) (rows_at rs p)) numbers → i < length (rows_at rs p)
      → (get_or numbers i 0 < length d.cells) × (get_or d.cells (get_or numbers i 0) [] ≡ cell_at rs p i c)
  number-cell rs p c i numbers are l =
      let long : length numbers ≡ length (rows_at rs p) = sym (length-map numbers (λ n. get_or d.cells n [])) ∙ ap length are.same ∙ length-map (rows_at rs p) (λ (x : Row). cell x c) in
      let m : i < length numbers = omega arith in (
        All-get_or (λ n. n < length d.cells) numbers i 0 m are.known,
        sym (get_or-map (λ n. get_or d.cells n []) numbers i 0 [] m) ∙ ap (λ (xs : List Cell). get_or xs i []) are.same ∙ get_or-map (λ (x : Row). cell x c) (rows_at rs p) i [] [] l,
      )

  pub tables-are : (rs : List RowState) (ts : List Coded) → length ts ≡ length rs → ((p : ℕ) → p < length rs → IsTableOf d.cells rs p (table_at ts p)) → AreTables rs ts
  tables-are rs ts long each = record {
    count = long;
    rows = λ p l. (each p l).rows;
    columns = λ p l. (each p l).columns;
    full = λ p c l m used. record {
      within = let e = (each p l).columns in omega arith;
      full = sym (length-map (get_or (table_at ts p).columns c []) (λ n. get_or d.cells n [])) ∙ ap length ((each p l).numbers c m used).same ∙ length-map (rows_at rs p) (λ (x : Row). cell x c) ∙ sym (each p l).rows;
      small = λ i g.
          let a = number-cell rs p c i (get_or (table_at ts p).columns c []) ((each p l).numbers c m used) (let r = (each p l).rows in omega arith) in
          let b = a.0 in
          let s = is.short in
          omega arith;
    };
    same = λ p c i q e j l m used h k o asked g.
        let a = number-cell rs p c i (get_or (table_at ts p).columns c []) ((each p l).numbers c m used) (let r = (each p l).rows in omega arith) in
        let b = number-cell rs q e j (get_or (table_at ts q).columns e []) ((each q k).numbers e o asked) (let r = (each q k).rows in omega arith) in
        ((λ s. sym a.1 ∙ ap (λ (n : ℕ). get_or d.cells n []) s ∙ b.1), (λ s. one-number _ _ a.0 b.0 (a.1 ∙ s ∙ sym b.1)));
    null = λ p c i l m used h.
        let a = number-cell rs p c i (get_or (table_at ts p).columns c []) ((each p l).numbers c m used) (let r = (each p l).rows in omega arith) in
        let z = get_or_from_slice_get d.cells 0 [] [] start.first in
        ((λ s. sym a.1 ∙ ap (λ (n : ℕ). get_or d.cells n []) s ∙ z), (λ s. one-number _ 0 a.0 (slice_get_within d.cells 0 [] start.first) (a.1 ∙ s ∙ sym z)));
  }
