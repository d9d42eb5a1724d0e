-- Keys tell which lists are included.
use Rattle.std.proofs.Common.{inl, inr, ◌≡◌, ◌≢◌, ◌⊎◌, ℕ, zero, suc, ◌+◌, ◌-◌, ◌<◌, ◌≤◌, Bool, true, false, eqb, refl, sym, ap, ap₂, ◌∙◌, subst, arith, List, [], ◌∷◌, ◌++◌, length, map, replicate, get_or}
use Rattle.std.proofs.lemmas.Bool.{and_parts, and_from, eqb-true, eqb-false}
use Rattle.std.proofs.lemmas.List.{append_cancel_right}
use Rattle.col_set.specs.Lists.{Listed, Listed-map, Listed-map_which}
use Rattle.col_set.proofs.Places.{Listed-get_or}
use Rattle.rel_base.specs.Cells.{Cell, Row, cell}
use Rattle.rel_base.specs.Agreement.{same_cell}
use Rattle.rel_base.specs.RowState.{RowState}
use Rattle.rel_base.proofs.Agree.{same_cell-true, true-same_cell}
use Rattle.nary_ind.specs.declared.found.Side.{Side}
use Rattle.nary_ind.specs.ListInclusions.{rows_at, width_at, tuple, tuples_at, is_null, holds_among, from_to}
use Rattle.nary_ind.specs.Levels.{IsSide}
use Rattle.nary_ind.specs.Unary.{is_used}
use Rattle.nary_ind.specs.Tables.{AreTables, AreUsed, Coded, key_in, number_in, table_at}
use Rattle.nary_ind.specs.Keys.{AreKeyed, AreKeysIn, IsKeyOf, code_in, packed}
use Rattle.nary_ind.proofs.Among.{among-each, among-from}
use Rattle.nary_ind.proofs.Packing.{code-null, codes-keys}

-- the numbers of NULLs
abbrev null_key : List ℕ
null_key = 0 ∷ 0 ∷ 0 ∷ 0 ∷ []

heads-of : (x y : ℕ) (xs ys : List ℕ) → x ∷ xs ≡ y ∷ ys → (x ≡ y) × (xs ≡ ys)
heads-of x y xs ys e = (cc, cc)

cells-of : (x y : Cell) (xs ys : List Cell) → x ∷ xs ≡ y ∷ ys → (x ≡ y) × (xs ≡ ys)
cells-of x y xs ys e = (cc, cc)

row-listed : (rows : List Row) (x : Row) → Listed x rows → (a : ℕ) × (a < length rows) × (get_or rows a [] ≡ x)
row-listed [] x h = absurd h
row-listed (y ∷ rows) x (inl e) = (0, omega arith, sym e)
row-listed (y ∷ rows) x (inr h) = let w = row-listed rows x h in let l = w.1 in (suc w.0, omega arith, w.2)

zeros : (m n z : ℕ) → replicate m z ++ replicate n z ≡ replicate (m + n) z
zeros zero n z = ap (λ (k : ℕ). replicate k z) (let e : n ≡ zero + n = omega arith in e)
zeros (suc m) n z = ap (λ (xs : List ℕ). z ∷ xs) (zeros m n z) ∙ ap (λ (k : ℕ). replicate k z) (let e : suc (m + n) ≡ suc m + n = omega arith in e)

module _ (rs : List RowState) (ts : List Coded) (are : AreTables rs ts) where
  -- columns of the relation at a place that have numbers
  abbrev pub Fit : ℕ → List ℕ → Type 0
  Fit p cs = (c : ℕ) → Listed c cs → (c < width_at rs p) × (is_used rs p c ≡ true)

  module _ (p q a b : ℕ) (l : p < length rs) (m : q < length rs) (i : a < (table_at ts p).rows) (j : b < (table_at ts q).rows) where
    abbrev x : Row
    x = get_or (rows_at rs p) a []

    abbrev y : Row
    y = get_or (rows_at rs q) b []

    abbrev of_p : ℕ → ℕ
    of_p c = number_in (table_at ts p) c a

    abbrev of_q : ℕ → ℕ
    of_q c = number_in (table_at ts q) c b

    cells-same : (cs ds : List ℕ) → length cs ≡ length ds → Fit p cs → Fit q ds → map of_p cs ≡ map of_q ds → map (cell x) cs ≡ map (cell y) ds
    cells-same [] [] long f g e = refl
    cells-same [] (d ∷ ds) long f g e = absurd (omega arith)
    cells-same (c ∷ cs) [] long f g e = absurd (omega arith)
    cells-same (c ∷ cs) (d ∷ ds) long f g e =
        let w = heads-of (of_p c) (of_q d) (map of_p cs) (map of_q ds) e in
        let u = f c (inl refl) in
        let v = g d (inl refl) in
        ap₂ (λ (z : Cell) (zs : List Cell). z ∷ zs) ((are.same p c a q d b l u.0 u.1 i m v.0 v.1 j).0 w.0)
        (cells-same cs ds (omega arith) (λ k h. f k (inr h)) (λ k h. g k (inr h)) w.1)

    numbers-same : (cs ds : List ℕ) → length cs ≡ length ds → Fit p cs → Fit q ds → map (cell x) cs ≡ map (cell y) ds → map of_p cs ≡ map of_q ds
    numbers-same [] [] long f g e = refl
    numbers-same [] (d ∷ ds) long f g e = absurd (omega arith)
    numbers-same (c ∷ cs) [] long f g e = absurd (omega arith)
    numbers-same (c ∷ cs) (d ∷ ds) long f g e =
        let w = cells-of (cell x c) (cell y d) (map (cell x) cs) (map (cell y) ds) e in
        let u = f c (inl refl) in
        let v = g d (inl refl) in
        ap₂ (λ (z : ℕ) (zs : List ℕ). z ∷ zs) ((are.same p c a q d b l u.0 u.1 i m v.0 v.1 j).1 w.0)
        (numbers-same cs ds (omega arith) (λ k h. f k (inr h)) (λ k h. g k (inr h)) w.1)

    pub keys-cells : (cs ds : List ℕ) → length cs ≡ length ds → Fit p cs → Fit q ds → key_in (table_at ts p) cs a ≡ key_in (table_at ts q) ds b → tuple cs x ≡ tuple ds y
    keys-cells cs ds long f g e =
        cells-same cs ds long f g (append_cancel_right (map of_p cs) (map of_q ds) (replicate (4 - length ds) 0) (ap (λ (n : ℕ). map of_p cs ++ replicate (4 - n) 0) (sym long) ∙ e))

    pub cells-keys : (cs ds : List ℕ) → length cs ≡ length ds → Fit p cs → Fit q ds → tuple cs x ≡ tuple ds y → key_in (table_at ts p) cs a ≡ key_in (table_at ts q) ds b
    cells-keys cs ds long f g e = ap₂ (λ (xs : List ℕ) (n : ℕ). xs ++ replicate (4 - n) 0) (numbers-same cs ds long f g e) long

  module _ (p a : ℕ) (l : p < length rs) (i : a < (table_at ts p).rows) where
    abbrev here : Row
    here = get_or (rows_at rs p) a []

    abbrev numbered : ℕ → ℕ
    numbered c = number_in (table_at ts p) c a

    nulls-cells : (cs : List ℕ) → Fit p cs → map numbered cs ≡ replicate (length cs) 0 → is_null (tuple cs here) ≡ true
    nulls-cells [] f e = refl
    nulls-cells (c ∷ cs) f e =
        let w = heads-of (numbered c) 0 (map numbered cs) (replicate (length cs) 0) e in
        let u = f c (inl refl) in
        and_from _ _ (true-same_cell (cell here c) [] ((are.null p c a l u.0 u.1 i).0 w.0)) (nulls-cells cs (λ k h. f k (inr h)) w.1)

    cells-nulls : (cs : List ℕ) → Fit p cs → is_null (tuple cs here) ≡ true → map numbered cs ≡ replicate (length cs) 0
    cells-nulls [] f e = refl
    cells-nulls (c ∷ cs) f e =
        let w = and_parts (same_cell (cell here c) []) (is_null (tuple cs here)) e in
        let u = f c (inl refl) in
        ap₂ (λ (z : ℕ) (zs : List ℕ). z ∷ zs) ((are.null p c a l u.0 u.1 i).1 (same_cell-true (cell here c) [] w.0)) (cells-nulls cs (λ k h. f k (inr h)) w.1)

    null-split : (n : ℕ) → n ≤ 4 → replicate n 0 ++ replicate (4 - n) 0 ≡ null_key
    null-split n h = zeros n (4 - n) 0 ∙ ap (λ (k : ℕ). replicate k 0) (let e : n + (4 - n) ≡ 4 = omega arith in e)

    pub null-cells : (cs : List ℕ) → length cs ≤ 4 → Fit p cs → key_in (table_at ts p) cs a ≡ null_key → is_null (tuple cs here) ≡ true
    null-cells cs h f e = nulls-cells cs f (append_cancel_right (map numbered cs) (replicate (length cs) 0) (replicate (4 - length cs) 0) (e ∙ sym (null-split (length cs) h)))

    pub cells-null : (cs : List ℕ) → length cs ≤ 4 → Fit p cs → is_null (tuple cs here) ≡ true → key_in (table_at ts p) cs a ≡ null_key
    cells-null cs h f e = ap (λ (xs : List ℕ). xs ++ replicate (4 - length cs) 0) (cells-nulls cs f e) ∙ null-split (length cs) h

  pub keyed-of : (s : Side) (k : ℕ) → k ≤ 4 → IsSide rs k s → AreUsed rs s.rel s.columns → AreKeyed (table_at ts s.rel) s.columns
  keyed-of s k short is used = record { short = (let e = is.long in omega arith); numbered = λ c h. are.full s.rel c is.rel (is.within c h) (used c h) }

  -- ---- the inclusion
  module _ (d i : Side) (k : ℕ) (short : k ≤ 4) (sd : IsSide rs k d) (si : IsSide rs k i) (ud : AreUsed rs d.rel d.columns) (ui : AreUsed rs i.rel i.columns) (keys : List ℕ)
      (keyed : AreKeysIn (table_at ts d.rel) d.columns keys) where
    abbrev td : Coded
    td = table_at ts d.rel

    abbrev ti : Coded
    ti = table_at ts i.rel

    fd : Fit d.rel d.columns
    fd c h = (sd.within c h, ud c h)

    fi : Fit i.rel i.columns
    fi c h = (si.within c h, ui c h)

    long : length d.columns ≡ length i.columns
    long = sd.long ∙ sym si.long

    four : length d.columns ≤ 4
    four = let e = sd.long in omega arith

    clash : false ≡ true → ⊥
    clash e = cc

    kd : AreKeyed td d.columns
    kd = keyed-of d k short sd ud

    ki : AreKeyed ti i.columns
    ki = keyed-of i k short si ui

    pub found-holds : ((key : ℕ) → Listed key keys → IsKeyOf ti i.columns key) → holds_among rs (from_to d i) ≡ true
    found-holds f = among-from (tuples_at rs d.rel d.columns) (tuples_at rs i.rel i.columns) (λ t h.
        let w = Listed-map_which (tuple d.columns) t (rows_at rs d.rel) h in
        let v = row-listed (rows_at rs d.rel) w.0 w.1 in
        by t v.0 v.1 (w.2 ∙ ap (tuple d.columns) (sym v.2)) (eqb (code_in td d.columns v.0) 0) refl)
      where
        found : (t : Row) (a : ℕ) → a < td.rows → t ≡ tuple d.columns (get_or (rows_at rs d.rel) a []) → IsKeyOf ti i.columns (code_in td d.columns a) → Listed t (tuples_at rs i.rel i.columns)
        found t a l e g =
            let same = keys-cells d.rel i.rel a g.0 sd.rel si.rel l g.1 d.columns i.columns long fd fi (codes-keys td ti d.columns i.columns a g.0 kd ki l g.1 (sym g.2)) in
            let m : g.0 < length (rows_at rs i.rel) = let r = are.rows i.rel si.rel in let o = g.1 in omega arith in
            subst (λ (u : Row). Listed u (tuples_at rs i.rel i.columns)) (sym (e ∙ same)) (Listed-map (tuple i.columns) (get_or (rows_at rs i.rel) g.0 []) (rows_at rs i.rel) (Listed-get_or (rows_at rs i.rel) g.0 [] m))

        by : (t : Row) (a : ℕ) → a < length (rows_at rs d.rel) → t ≡ tuple d.columns (get_or (rows_at rs d.rel) a []) → (b : Bool) → eqb (code_in td d.columns a) 0 ≡ b
            → (is_null t ≡ true) ⊎ Listed t (tuples_at rs i.rel i.columns)
        by t a l e true s =
            let m : a < td.rows = let r = are.rows d.rel sd.rel in omega arith in
            inl (ap is_null e ∙ null-cells d.rel a sd.rel m d.columns four fd (code-null td d.columns a kd m (eqb-true _ _ s)))
        by t a l e false s =
            let m : a < td.rows = let r = are.rows d.rel sd.rel in omega arith in
            inr (found t a m e (f (code_in td d.columns a) ((keyed (code_in td d.columns a)).1 ((a, m, refl), eqb-false _ _ s))))

    pub holds-found : holds_among rs (from_to d i) ≡ true → (key : ℕ) → Listed key keys → IsKeyOf ti i.columns key
    holds-found e key h =
        let w = (keyed key).0 h in
        let m : w.0.0 < length (rows_at rs d.rel) = let r = are.rows d.rel sd.rel in let l = w.0.1 in omega arith in
        by w.0.0 w.0.1 w.0.2 w.1 (among-each (tuples_at rs d.rel d.columns) (tuples_at rs i.rel i.columns) e (tuple d.columns (get_or (rows_at rs d.rel) w.0.0 []))
        (Listed-map (tuple d.columns) (get_or (rows_at rs d.rel) w.0.0 []) (rows_at rs d.rel) (Listed-get_or (rows_at rs d.rel) w.0.0 [] m)))
      where
        by : (a : ℕ) → a < td.rows → code_in td d.columns a ≡ key → key ≢ 0
            → (is_null (tuple d.columns (get_or (rows_at rs d.rel) a [])) ≡ true) ⊎ Listed (tuple d.columns (get_or (rows_at rs d.rel) a [])) (tuples_at rs i.rel i.columns) → IsKeyOf ti i.columns key
        by a l s some (inl n) = absurd (some (sym s ∙ ap packed (cells-null d.rel a sd.rel l d.columns four fd n)))
        by a l s some (inr g) =
            let v = Listed-map_which (tuple i.columns) (tuple d.columns (get_or (rows_at rs d.rel) a [])) (rows_at rs i.rel) g in
            let u = row-listed (rows_at rs i.rel) v.0 v.1 in
            let m : u.0 < ti.rows = let r = are.rows i.rel si.rel in let o = u.1 in omega arith in
            (u.0, m, sym (ap packed (cells-keys d.rel i.rel a u.0 sd.rel si.rel l m d.columns i.columns long fd fi (v.2 ∙ ap (tuple i.columns) (sym u.2)))) ∙ s)
