-- What one cell more, or the last rows dropped, make of a column's codes.
use Rattle.std.proofs.Common.{append_assoc, inl, inr, ◌≡◌, ◌≢◌, ◌⊎◌, ◌↔◌, ℕ, suc, ◌+◌, ◌-◌, ◌<◌, ◌≤◌, Bool, true, false, cond, refl, sym, ap, ap₂, ◌∙◌, subst, arith, List, [], ◌∷◌, ◌++◌, length, map, take, get_or, slice_get, Some}
use Rattle.std.proofs.lemmas.Bool.{cases_lt, cases_eq}
use Rattle.std.proofs.lemmas.List.{length-map, length-take-le, length-take, get_or_append_left, get_or_push, get_or-map, get_or-take, map_push, take-map, length_push}
use Rattle.std.proofs.lemmas.Option.{slice_get-get_or, slice_get_within}
use Rattle.rel_base.specs.declared.nulls.Nulls.{Nulls}
use Rattle.rel_base.specs.Cells.{Cell}
use Rattle.rel_base.specs.Agreement.{Agrees}
use Rattle.rel_base.proofs.Agree.{Agrees-symm}
use Rattle.column_dict.specs.Coding.{Coding, IsCodeOf, is_new, coded}
use Rattle.column_dict.proofs.Laid.{same_some}
use Rattle.row_log.specs.Column.{ColumnCells, AreCodes, column_of, IsKept}

-- the cell of a code
abbrev pub cell_of : List Cell → ℕ → Cell
cell_of known code = get_or known code []

pub map_same : {X Y : Type 0} (f g : X → Y) (xs : List X) (d : X) → ((i : ℕ) → i < length xs → f (get_or xs i d) ≡ g (get_or xs i d)) → map f xs ≡ map g xs
map_same f g [] d h = refl
map_same {X} {Y} f g (x ∷ xs) d h = ap₂ (λ (y : Y) (ys : List Y). y ∷ ys) (h 0 (omega arith)) (map_same f g xs d (λ i l. h (suc i) (omega arith)))

-- an index of a list that got one element more
at_push : (xs : List ℕ) (x i : ℕ) → i < length (xs ++ x ∷ []) → ((i < length xs) × (get_or (xs ++ x ∷ []) i 0 ≡ get_or xs i 0)) ⊎ ((i ≡ length xs) × (get_or (xs ++ x ∷ []) i 0 ≡ x))
at_push xs x i l = by (cases_lt i (length xs))
  where
    by : (i < length xs) ⊎ (length xs ≤ i) → ((i < length xs) × (get_or (xs ++ x ∷ []) i 0 ≡ get_or xs i 0)) ⊎ ((i ≡ length xs) × (get_or (xs ++ x ∷ []) i 0 ≡ x))
    by (inl g) = inl (g, get_or_append_left xs (x ∷ []) 0 i g)
    by (inr g) = let p = length_push xs x in let e : i ≡ length xs = omega arith in inr (e, get_or_push xs x 0 i (sym e))

-- whether two codes are equal where cells agree, of equal codes and cells
iff_at : {m n : Nulls} {a b s t : ℕ} {x y v w : Cell} → m ≡ n → a ≡ s → b ≡ t → x ≡ v → y ≡ w → ((a ≡ b) ↔ Agrees m x y) → ((s ≡ t) ↔ Agrees n v w)
iff_at {m} {n} {a} {b} {s} {t} {x} {y} {v} {w} e p q f g h =
    subst (λ (u : Cell). (s ≡ t) ↔ Agrees n v u) g
    (subst (λ (u : Cell). (s ≡ t) ↔ Agrees n u y) f
    (subst (λ (k : ℕ). (s ≡ k) ↔ Agrees n x y) q
    (subst (λ (k : ℕ). (k ≡ b) ↔ Agrees n x y) p
    (subst (λ (u : Nulls). (a ≡ b) ↔ Agrees u x y) e h))))

turned : (n : Nulls) (a b : ℕ) (x y : Cell) → ((a ≡ b) ↔ Agrees n x y) → ((b ≡ a) ↔ Agrees n y x)
turned n a b x y h = ((λ e. Agrees-symm n x y (h.0 (sym e))), (λ g. sym (h.1 (Agrees-symm n y x g))))

-- ---- one code more
pub one_more : (older own after : List ℕ) (code : ℕ) → after ≡ own ++ code ∷ [] → older ++ after ≡ (older ++ own) ++ code ∷ []
one_more older own after code e = ap (λ (xs : List ℕ). older ++ xs) e ∙ sym (append_assoc older own (code ∷ []))

-- what the dictionary and the first places are after a cell was coded
pub record IsGrown (d e : Coding) (codes firsts fs : List ℕ) (c : Cell) (code : ℕ) : Type 0 where
  pub nulls : e.nulls ≡ d.nulls
  pub stays : (k : ℕ) → k < length d.cells → cell_of e.cells k ≡ cell_of d.cells k
  pub more : length d.cells ≤ length e.cells
  pub within : code < length e.cells
  pub is : cell_of e.cells code ≡ c
  pub of : IsCodeOf d c code
  pub all : length fs ≡ length e.cells
  pub old : (k : ℕ) → k < length firsts → get_or fs k 0 ≡ get_or firsts k 0
  pub new : (k : ℕ) → length firsts ≤ k → k < length fs → get_or fs k 0 ≡ length codes
  pub one : length fs ≤ length firsts + 1

module _ (d e : Coding) (codes firsts fs : List ℕ) (c : Cell) (code : ℕ) (h : IsKept d codes firsts) (g : IsGrown d e codes firsts fs c code) where
  abbrev At : ℕ → Type 0
  At i = ((i < length codes) × (get_or (codes ++ code ∷ []) i 0 ≡ get_or codes i 0)) ⊎ ((i ≡ length codes) × (get_or (codes ++ code ∷ []) i 0 ≡ code))

  old_code : (i : ℕ) → i < length codes → (get_or codes i 0 ≡ code) ↔ Agrees d.nulls (cell_of d.cells (get_or codes i 0)) c
  old_code i l = g.of (get_or codes i 0) (cell_of d.cells (get_or codes i 0)) (slice_get-get_or d.cells (get_or codes i 0) [] (h.known i l))

  stays_at : (i : ℕ) → i < length codes → cell_of d.cells (get_or codes i 0) ≡ cell_of e.cells (get_or codes i 0)
  stays_at i l = sym (g.stays (get_or codes i 0) (h.known i l))

  known-grown : (i : ℕ) → At i → get_or (codes ++ code ∷ []) i 0 < length e.cells
  known-grown i (inl w) = let k = h.known i w.0 in let m = g.more in let q = w.1 in omega arith
  known-grown i (inr w) = let m = g.within in let q = w.1 in omega arith

  agree-grown : (i j : ℕ) → At i → At j → i ≢ j → (get_or (codes ++ code ∷ []) i 0 ≡ get_or (codes ++ code ∷ []) j 0) ↔ Agrees e.nulls (cell_of e.cells (get_or (codes ++ code ∷ []) i 0)) (cell_of e.cells (get_or (codes ++ code ∷ []) j 0))
  agree-grown i j (inl v) (inl w) ne =
      iff_at (sym g.nulls) (sym v.1) (sym w.1) (stays_at i v.0 ∙ ap (cell_of e.cells) (sym v.1)) (stays_at j w.0 ∙ ap (cell_of e.cells) (sym w.1)) (h.agree i j v.0 w.0 ne)
  agree-grown i j (inl v) (inr w) ne =
      iff_at (sym g.nulls) (sym v.1) (sym w.1) (stays_at i v.0 ∙ ap (cell_of e.cells) (sym v.1)) (sym g.is ∙ ap (cell_of e.cells) (sym w.1)) (old_code i v.0)
  agree-grown i j (inr v) (inl w) ne =
      turned e.nulls _ _ _ _ (iff_at (sym g.nulls) (sym w.1) (sym v.1) (stays_at j w.0 ∙ ap (cell_of e.cells) (sym w.1)) (sym g.is ∙ ap (cell_of e.cells) (sym v.1)) (old_code j w.0))
  agree-grown i j (inr v) (inr w) ne = absurd (ne (v.0 ∙ sym w.0))

  first-code : (code < length firsts) ⊎ (length firsts ≤ code) → get_or fs code 0 ≤ length codes
  first-code (inl l) = let q = g.old code l in let w = h.within code l in omega arith
  first-code (inr l) = let a = g.all in let w = g.within in let q = g.new code l (omega arith) in omega arith

  first-grown : (i : ℕ) → At i → get_or fs (get_or (codes ++ code ∷ []) i 0) 0 ≤ i
  first-grown i (inl w) =
      let k = h.known i w.0 in let a = h.all in
      let q = g.old (get_or codes i 0) (omega arith) in let f = h.first i w.0 in
      let s : get_or fs (get_or codes i 0) 0 ≤ i = omega arith in
      subst (λ (n : ℕ). get_or fs n 0 ≤ i) (sym w.1) s
  first-grown i (inr w) =
      let s = first-code (cases_lt code (length firsts)) in
      let n = w.0 in
      let t : get_or fs code 0 ≤ i = omega arith in
      subst (λ (n : ℕ). get_or fs n 0 ≤ i) (sym w.1) t

  later-grown : (k : ℕ) → k < length fs → (k < length firsts) ⊎ (length firsts ≤ k) → k ≤ get_or fs k 0
  later-grown k l (inl w) = let q = g.old k w in let f = h.later k w in omega arith
  later-grown k l (inr w) = let q = g.new k w l in let o = g.one in let a = h.all in let f = h.few in omega arith

  within-grown : (k : ℕ) → k < length fs → (k < length firsts) ⊎ (length firsts ≤ k) → get_or fs k 0 < length (codes ++ code ∷ [])
  within-grown k l (inl w) = let q = g.old k w in let f = h.within k w in let p = length_push codes code in omega arith
  within-grown k l (inr w) = let q = g.new k w l in let p = length_push codes code in omega arith

  ascending-grown : (k m : ℕ) → k < m → m < length fs → (m < length firsts) ⊎ (length firsts ≤ m) → get_or fs k 0 < get_or fs m 0
  ascending-grown k m r l (inl w) = let p = g.old k (omega arith) in let q = g.old m w in let f = h.ascending k m r w in omega arith
  ascending-grown k m r l (inr w) = let o = g.one in let p = g.old k (omega arith) in let q = g.new m w l in let f = h.within k (omega arith) in omega arith

  pub IsKept-grown : IsKept e (codes ++ code ∷ []) fs
  IsKept-grown = record {
    known = λ i l. known-grown i (at_push codes code i l);
    agree = λ i j l m ne. agree-grown i j (at_push codes code i l) (at_push codes code j m) ne;
    all = g.all;
    first = λ i l. first-grown i (at_push codes code i l);
    later = λ k l. later-grown k l (cases_lt k (length firsts));
    ascending = λ k m r l. ascending-grown k m r l (cases_lt m (length firsts));
    within = λ k l. within-grown k l (cases_lt k (length firsts));
    few = let o = g.one in let a = h.all in let b = g.all in let f = h.few in let p = length_push codes code in omega arith;
  }

  pub cells-grown : column_of e (codes ++ code ∷ []) ≡ record { nulls = d.nulls; cells = map (cell_of d.cells) codes ++ c ∷ [] }
  cells-grown =
      let m : map (cell_of e.cells) codes ≡ map (cell_of d.cells) codes = map_same (cell_of e.cells) (cell_of d.cells) codes 0 (λ i l. sym (stays_at i l)) in
      let s : map (cell_of e.cells) (codes ++ code ∷ []) ≡ map (cell_of d.cells) codes ++ c ∷ [] =
      map_push (cell_of e.cells) codes code ∙ ap₂ (λ (xs : List Cell) (x : Cell). xs ++ x ∷ []) m g.is in
      ap₂ (λ (n : Nulls) (xs : List Cell). let x : ColumnCells = record { nulls = n; cells = xs } in x) g.nulls s

-- the dictionary took the cell up, or had it
pub IsGrown-coded : (d e : Coding) (codes firsts fs : List ℕ) (c : Cell) (code : ℕ) → IsKept d codes firsts → e ≡ coded d c → slice_get e.cells code ≡ Some c → IsCodeOf d c code
    → (length d.cells < length e.cells → fs ≡ firsts ++ length codes ∷ []) → (length e.cells ≤ length d.cells → fs ≡ firsts) → IsGrown d e codes firsts fs c code
IsGrown-coded d e codes firsts fs c code h q s o new old = by (is_new d c) q
  where
    inside : code < length e.cells
    inside = slice_get_within e.cells code c s

    is_at : cell_of e.cells code ≡ c
    is_at = same_some (sym (slice_get-get_or e.cells code [] inside) ∙ s)

    by : (b : Bool) → e ≡ record { nulls = d.nulls; cells = cond b (d.cells ++ c ∷ []) d.cells } → IsGrown d e codes firsts fs c code
    by true q =
        let cells : e.cells ≡ d.cells ++ c ∷ [] = ap (λ (z : Coding). z.cells) q in
        let long : length e.cells ≡ length d.cells + 1 = ap length cells ∙ length_push d.cells c in
        let news : fs ≡ firsts ++ length codes ∷ [] = new (omega arith) in
        let fs_long : length fs ≡ length firsts + 1 = ap length news ∙ length_push firsts (length codes) in
        let a = h.all in record {
          nulls = ap (λ (z : Coding). z.nulls) q;
          stays = λ k l. ap (λ (xs : List Cell). cell_of xs k) cells ∙ get_or_append_left d.cells (c ∷ []) [] k l;
          more = omega arith;
          within = inside;
          is = is_at;
          of = o;
          all = omega arith;
          old = λ k l. ap (λ (xs : List ℕ). get_or xs k 0) news ∙ get_or_append_left firsts (length codes ∷ []) 0 k l;
          new = λ k l m. let i : length firsts ≡ k = omega arith in ap (λ (xs : List ℕ). get_or xs k 0) news ∙ get_or_push firsts (length codes) 0 k i;
          one = omega arith;
        }
    by false q =
        let cells : e.cells ≡ d.cells = ap (λ (z : Coding). z.cells) q in
        let long : length e.cells ≡ length d.cells = ap length cells in
        let olds : fs ≡ firsts = old (omega arith) in
        let fs_long : length fs ≡ length firsts = ap length olds in
        let a = h.all in record {
          nulls = ap (λ (z : Coding). z.nulls) q;
          stays = λ k l. ap (λ (xs : List Cell). cell_of xs k) cells;
          more = omega arith;
          within = inside;
          is = is_at;
          of = o;
          all = omega arith;
          old = λ k l. ap (λ (xs : List ℕ). get_or xs k 0) olds;
          new = λ k l m. absurd (omega arith);
          one = omega arith;
        }

pub pushed : (d e f : Coding) (codes firsts cs fs : List ℕ) (c : Cell) (code : ℕ) → IsKept d codes firsts → e ≡ coded d c → slice_get e.cells code ≡ Some c → IsCodeOf d c code
    → f ≡ e → cs ≡ codes ++ code ∷ [] → (length d.cells < length e.cells → fs ≡ firsts ++ length codes ∷ []) → (length e.cells ≤ length d.cells → fs ≡ firsts)
    → IsKept f cs fs × (column_of f cs ≡ record { nulls = d.nulls; cells = map (cell_of d.cells) codes ++ c ∷ [] })
pushed d e f codes firsts cs fs c code h q s o i l new old =
    let g = IsGrown-coded d e codes firsts fs c code h q s o new old in (
      subst (λ (z : Coding). IsKept z cs fs) (sym i) (subst (λ (xs : List ℕ). IsKept e xs fs) (sym l) (IsKept-grown d e codes firsts fs c code h g)),
      ap₂ (λ (z : Coding) (xs : List ℕ). column_of z xs) i l ∙ cells-grown d e codes firsts fs c code h g,
    )

-- ---- the last rows dropped
module _ (d : Coding) (codes firsts : List ℕ) (n left : ℕ) (h : IsKept d codes firsts) (some : left ≤ length firsts)
    (dropped : (k : ℕ) → left ≤ k → k < length firsts → n ≤ get_or firsts k 0) (last : 0 < left → get_or firsts (left - 1) 0 < n) where
  kept_first : (k : ℕ) → k < left → (k ≡ left - 1) ⊎ (k ≢ left - 1) → get_or firsts k 0 < n
  kept_first k l (inl e) = let f = last (omega arith) in subst (λ (m : ℕ). get_or firsts m 0 < n) (sym e) f
  kept_first k l (inr ne) = let f = last (omega arith) in let r = h.ascending k (left - 1) (omega arith) (omega arith) in omega arith

  few-kept : left ≤ n
  few-kept = by (cases_eq left 0)
    where
      by : (left ≡ 0) ⊎ (left ≢ 0) → left ≤ n
      by (inl e) = omega arith
      by (inr ne) = let f = last (omega arith) in let g = h.later (left - 1) (omega arith) in omega arith

  code-kept : (i : ℕ) → i < length codes → i < n → (get_or codes i 0 < left) ⊎ (left ≤ get_or codes i 0) → get_or codes i 0 < left
  code-kept i l m (inl w) = w
  code-kept i l m (inr w) =
      let k = h.known i l in let a = h.all in let f = h.first i l in let g = dropped (get_or codes i 0) w (omega arith) in absurd (omega arith)

  long : length (take left d.cells) ≡ left
  long = let a = h.all in length-take-le left d.cells (omega arith)

  long_firsts : length (take left firsts) ≡ left
  long_firsts = length-take-le left firsts some

  inside : (i : ℕ) → i < length (take n codes) → (i < length codes) × (i < n)
  inside i l = let t = length-take n codes in (omega arith, omega arith)

  code_at : (i : ℕ) → i < length (take n codes) → get_or (take n codes) i 0 ≡ get_or codes i 0
  code_at i l = get_or-take n codes i 0 (inside i l).1

  below : (i : ℕ) → i < length (take n codes) → get_or codes i 0 < left
  below i l = let w = inside i l in code-kept i w.0 w.1 (cases_lt (get_or codes i 0) left)

  cell_at : (i : ℕ) → i < length (take n codes) → cell_of d.cells (get_or codes i 0) ≡ cell_of (take left d.cells) (get_or (take n codes) i 0)
  cell_at i l = sym (get_or-take left d.cells (get_or codes i 0) [] (below i l)) ∙ ap (cell_of (take left d.cells)) (sym (code_at i l))

  pub IsKept-cut : IsKept (record { nulls = d.nulls; cells = take left d.cells }) (take n codes) (take left firsts)
  IsKept-cut = record {
    known = λ i l. let b = below i l in let e = code_at i l in let t = long in omega arith;
    agree = λ i j l m ne. iff_at refl (sym (code_at i l)) (sym (code_at j m)) (cell_at i l) (cell_at j m) (h.agree i j (inside i l).0 (inside j m).0 ne);
    all = long_firsts ∙ sym long;
    first = λ i l.
        let b = below i l in
        let e : get_or (take left firsts) (get_or (take n codes) i 0) 0 ≡ get_or firsts (get_or codes i 0) 0 =
        ap (λ (k : ℕ). get_or (take left firsts) k 0) (code_at i l) ∙ get_or-take left firsts (get_or codes i 0) 0 b in
        let f = h.first i (inside i l).0 in omega arith;
    later = λ k l. let t = long_firsts in let e = get_or-take left firsts k 0 (omega arith) in let f = h.later k (omega arith) in omega arith;
    ascending = λ k m r l. let t = long_firsts in let e = get_or-take left firsts k 0 (omega arith) in let g = get_or-take left firsts m 0 (omega arith) in let f = h.ascending k m r (omega arith) in omega arith;
    within = λ k l.
        let t = long_firsts in let e = get_or-take left firsts k 0 (omega arith) in let f = h.within k (omega arith) in
        let g = kept_first k (omega arith) (cases_eq k (left - 1)) in let u = length-take n codes in omega arith;
    few = let t = long in let a = h.all in let f = h.few in let u = length-take n codes in let g = few-kept in omega arith;
  }

  pub cells-cut : column_of (record { nulls = d.nulls; cells = take left d.cells }) (take n codes) ≡ record { nulls = d.nulls; cells = take n (map (cell_of d.cells) codes) }
  cells-cut =
      let m : map (cell_of (take left d.cells)) (take n codes) ≡ map (cell_of d.cells) (take n codes) =
      map_same (cell_of (take left d.cells)) (cell_of d.cells) (take n codes) 0 (λ i l. sym (cell_at i l) ∙ ap (cell_of d.cells) (sym (code_at i l))) in
      ap (λ (xs : List Cell). let x : ColumnCells = record { nulls = d.nulls; cells = xs } in x) (m ∙ sym (take-map (cell_of d.cells) n codes))

pub cut : (d e : Coding) (codes firsts cs fs : List ℕ) (n left : ℕ) → IsKept d codes firsts → left ≤ length firsts
    → ((k : ℕ) → left ≤ k → k < length firsts → n ≤ get_or firsts k 0) → (0 < left → get_or firsts (left - 1) 0 < n)
    → e ≡ record { nulls = d.nulls; cells = take left d.cells } → cs ≡ take n codes → fs ≡ take left firsts
    → IsKept e cs fs × (column_of e cs ≡ record { nulls = d.nulls; cells = take n (map (cell_of d.cells) codes) })
cut d e codes firsts cs fs n left h some dropped last q i l = (
  subst (λ (z : Coding). IsKept z cs fs) (sym q)
      (subst (λ (xs : List ℕ). IsKept (record { nulls = d.nulls; cells = take left d.cells }) xs fs) (sym i)
      (subst (λ (xs : List ℕ). IsKept (record { nulls = d.nulls; cells = take left d.cells }) (take n codes) xs) (sym l) (IsKept-cut d codes firsts n left h some dropped last))),
  ap₂ (λ (z : Coding) (xs : List ℕ). column_of z xs) q i ∙ cells-cut d codes firsts n left h some dropped last,
)

-- ---- what is read of it
pub cell-decoded : (d : Coding) (codes : List ℕ) (i : ℕ) → i < length codes → get_or (map (cell_of d.cells) codes) i [] ≡ cell_of d.cells (get_or codes i 0)
cell-decoded d codes i l = get_or-map (cell_of d.cells) codes i 0 [] l

pub AreCodes-kept : (d : Coding) (codes firsts : List ℕ) → IsKept d codes firsts → AreCodes (column_of d codes) codes
AreCodes-kept d codes firsts h = record {
  long = sym (length-map codes (cell_of d.cells));
  agree = λ i j l m ne. iff_at refl refl refl (sym (cell-decoded d codes i l)) (sym (cell-decoded d codes j m)) (h.agree i j l m ne);
}
