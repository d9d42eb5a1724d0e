-- One more column, one more row, and the pairs of a relation's rows by their numbers.
use Rattle.std.proofs.Common.{inl, inr, ◌≡◌, ◌⊎◌, ℕ, zero, suc, ◌+◌, ◌-◌, true, false, eqb, refl, sym, ap, ap₂, ◌∙◌, subst, arith, List, [], ◌∷◌, ◌++◌, length, get_or, map, append_assoc, append-nil, Result, Ok, Err}
use Rattle.std.specs.List.{All, range_with_len, flat_map}
use Rattle.std.proofs.lemmas.Bool.{or_cases, or_left, or_right, cases_eq, eqb-true, eq-eqb, true≢false}
use Rattle.std.proofs.lemmas.List.{map-append, length-append}
use Rattle.std.proofs.Math.Seq.{get_or-append_seam}
use Rattle.std.proofs.lemmas.List.Concat.{flat_map-append}
use Rattle.col_set.specs.ColSet.{has, with, set_of, upto}
use Rattle.col_set.specs.Subsets.{same_test}
use Rattle.col_set.specs.Members.{has-with, same_set}
use Rattle.rel_base.specs.declared.nulls.Nulls.{Nulls}
use Rattle.rel_base.specs.Cells.{Row, cell}
use Rattle.rel_base.specs.Relation.{Content}
use Rattle.rel_base.specs.RowState.{opened, row}
use Rattle.rel_base.specs.Agreement.{agrees, agree}
use Rattle.rel_base.specs.Validity.{agree_sets, pairs}
use Rattle.std.specs.Prelude.{IfOk}
use Rattle.rel_base.specs.Covers.{CoverLists, covers}
use Rattle.rel_base.specs.Covers.{least_covers}
use Rattle.rel_base.proofs.Minima.{covers-least}
use Rattle.rel_base.proofs.Agree.{agree-parts, agree-from, agrees-true, true-agrees}

pub agree_none : (nulls : Nulls) (a b : Row) → 0 ≡ agree nulls 0 a b
unfolding agree set_of
agree_none nulls a b = refl

pub agree_more : (nulls : Nulls) (n : ℕ) (a b : Row) → agrees nulls (cell a n) (cell b n) ≡ true → with (agree nulls n a b) n ≡ agree nulls (n + 1) a b
agree_more nulls n a b e = same_set _ _ (λ k. same_test _ _
    (λ h. by k (or_cases (has (agree nulls n a b) k) (eqb k n) (sym (has-with (agree nulls n a b) n k) ∙ h)))
    (λ h. let w = agree-parts nulls (n + 1) a b k h in let l = w.0 in elim (cases_eq k n) as (λ _. has (with (agree nulls n a b) n) k ≡ true) [
      | inl i ↦ has-with (agree nulls n a b) n k ∙ or_right (has (agree nulls n a b) k) (eqb k n) (eq-eqb k n i)
      | inr ne ↦ has-with (agree nulls n a b) n k ∙ or_left (has (agree nulls n a b) k) (eqb k n) (agree-from nulls n a b k (omega arith) w.1)
    ]))
  where
    by : (k : ℕ) → (has (agree nulls n a b) k ≡ true) ⊎ (eqb k n ≡ true) → has (agree nulls (n + 1) a b) k ≡ true
    by k (inl h) = let w = agree-parts nulls n a b k h in let l = w.0 in agree-from nulls (n + 1) a b k (omega arith) w.1
    by k (inr h) = let i = eqb-true k n h in agree-from nulls (n + 1) a b k (omega arith) (agrees-true nulls (cell a k) (cell b k) (ap (λ (j : ℕ). agrees nulls (cell a j) (cell b j)) i ∙ e))

pub agree_same : (nulls : Nulls) (n : ℕ) (a b : Row) → agrees nulls (cell a n) (cell b n) ≡ false → agree nulls n a b ≡ agree nulls (n + 1) a b
agree_same nulls n a b e = same_set _ _ (λ k. same_test _ _
    (λ h. let w = agree-parts nulls n a b k h in let l = w.0 in agree-from nulls (n + 1) a b k (omega arith) w.1)
    (λ h. let w = agree-parts nulls (n + 1) a b k h in let l = w.0 in elim (cases_eq k n) as (λ _. has (agree nulls n a b) k ≡ true) [
      | inl i ↦ absurd (true≢false (sym (true-agrees nulls (cell a k) (cell b k) w.1) ∙ ap (λ (j : ℕ). agrees nulls (cell a j) (cell b j)) i ∙ e))
      | inr ne ↦ agree-from nulls n a b k (omega arith) w.1
    ]))

-- ---- pairs
-- a row's agree sets with the later ones stand before those of the later ones
pub pairs_step : (f : Row × Row → ℕ) (row : Row) (rows : List Row) → map f (pairs (row ∷ rows)) ≡ map (λ other. f (row, other)) rows ++ map f (pairs rows)
unfolding pairs
pairs_step f row rows = map-append f (map (λ other. (row, other)) rows) (pairs rows) ∙ ap (λ ns. ns ++ map f (pairs rows)) (composed rows)
  where
    composed : (others : List Row) → map f (map (λ other. (row, other)) others) ≡ map (λ other. f (row, other)) others
    composed [] = refl
    composed (other ∷ others) = ap (λ ns. f (row, other) ∷ ns) (composed others)

pub pairs_none : (f : Row × Row → ℕ) → map f (pairs []) ≡ []
unfolding pairs
pairs_none f = refl

-- the pairs of mapped elements
map_map : {X Y Z : Type 0} (f : Y → Z) (g : X → Y) (xs : List X) → map f (map g xs) ≡ map (λ x. f (g x)) xs
map_map f g [] = refl
map_map f g (x ∷ xs) = ap (λ ys. f (g x) ∷ ys) (map_map f g xs)

pub pairs-map : (g : ℕ → Row) (f : Row × Row → ℕ) (ns : List ℕ) → map f (pairs (map g ns)) ≡ map (λ p. f (g p.0, g p.1)) (pairs ns)
unfolding pairs
pairs-map g f [] = refl
pairs-map g f (n ∷ ns) =
    map-append f (map (λ b. (g n, b)) (map g ns)) (pairs (map g ns))
    ∙ ap₂ (λ (u v : List ℕ). u ++ v) (ap (map f) (map_map (λ b. (g n, b)) g ns) ∙ map_map f (λ m. (g n, g m)) ns ∙ sym (map_map (λ p. f (g p.0, g p.1)) (λ m. (n, m)) ns)) (pairs-map g f ns)
    ∙ sym (map-append (λ p. f (g p.0, g p.1)) (map (λ m. (n, m)) ns) (pairs ns))

-- the rows of a relation by their numbers
rows_from : (before rows : List Row) → map (λ number. get_or (before ++ rows) (number - 1) []) (range_with_len (length before + 1) (length rows)) ≡ rows
rows_from before [] = refl
rows_from before (r ∷ rows) = ap₂ (λ (x : Row) (xs : List Row). x ∷ xs) (here before r rows)
    (ap₂ (λ (xs : List Row) (a : ℕ). map (λ number. get_or xs (number - 1) []) (range_with_len a (length rows))) (sym (append_assoc before (r ∷ []) rows)) (ap (λ (n : ℕ). n + 1) (sym (length-append before (r ∷ [])))) ∙ rows_from (before ++ r ∷ []) rows)
  where
    here : (before : List Row) (r : Row) (rows : List Row) → get_or (before ++ r ∷ rows) (length before + 1 - 1) [] ≡ r
    here before r rows = let e : length before + 1 - 1 ≡ length before = omega arith in ap (λ (i : ℕ). get_or (before ++ r ∷ rows) i []) e ∙ get_or-append_seam before r rows []

pub agree_sets-opened : (nulls : Nulls) (limit : ℕ) (c : Content) → agree_sets (opened nulls limit c) ≡ map (λ p. agree nulls (length c.names) p.0 p.1) (pairs c.rows)
unfolding agree_sets
agree_sets-opened nulls limit c =
    sym (pairs-map (row (opened nulls limit c)) (λ p. agree nulls (length c.names) p.0 p.1) (range_with_len 1 (length c.rows)))
    ∙ ap (λ (rows : List Row). map (λ p. agree nulls (length c.names) p.0 p.1) (pairs rows)) (rows_from [] c.rows)

-- what is left of the rows from one row to the next
pub pairs_more : (f : Row × Row → ℕ) (row : Row) (rows left : List Row) (old new all : List ℕ) → left ≡ row ∷ rows
    → new ≡ old ++ map (λ other. f (row, other)) rows → old ++ map f (pairs left) ≡ all → new ++ map f (pairs rows) ≡ all
pairs_more f row rows left old new all is made e =
    ap (λ ns. ns ++ map f (pairs rows)) made
    ∙ append_assoc old _ _
    ∙ ap (λ ns. old ++ ns) (sym (ap (λ (xs : List Row). map f (pairs xs)) is ∙ pairs_step f row rows))
    ∙ e

pub pairs_end : (f : Row × Row → ℕ) (left : List Row) (sets all : List ℕ) → left ≡ [] → sets ++ map f (pairs left) ≡ all → sets ≡ all
pairs_end f left sets all is e = sym (append-nil sets) ∙ ap (λ ns. sets ++ ns) (sym (ap (λ (xs : List Row). map f (pairs xs)) is ∙ pairs_none f)) ∙ e

-- ---- columns in turn
pub upto_more : (n : ℕ) → upto (n + 1) ≡ upto n ++ n ∷ []
upto_more n = by n 0 ∙ ap (λ (i : ℕ). upto n ++ i ∷ []) (let e : 0 + n ≡ n = omega arith in e)
  where
    by : (n a : ℕ) → range_with_len a (n + 1) ≡ range_with_len a n ++ (a + n) ∷ []
    by zero a = ap (λ (i : ℕ). i ∷ []) (let e : a ≡ a + 0 = omega arith in e)
    by (suc n) a = ap (range_with_len a) (let e : suc n + 1 ≡ suc (n + 1) = omega arith in e) ∙ ap (λ is. a ∷ is) (by n (a + 1)) ∙ ap (λ (i : ℕ). (a ∷ range_with_len (a + 1) n) ++ i ∷ []) (let e : a + 1 + n ≡ a + suc n = omega arith in e)

pub flat_map-upto_more : {X : Type 0} (f : ℕ → List X) (n : ℕ) → flat_map f (upto (n + 1)) ≡ flat_map f (upto n) ++ f n
flat_map-upto_more f n = ap (flat_map f) (upto_more n) ∙ flat_map-append f (upto n) (n ∷ []) ∙ ap (λ ys. flat_map f (upto n) ++ ys) (append-nil (f n))

-- ---- the covers of a relation
-- what the agree sets of all pairs leave is the covers
covers-pairs : (nulls : Nulls) (limit : ℕ) (c : Content) (n : ℕ) (rows : List Row) (sets : List ℕ) → n ≡ length c.names → rows ≡ c.rows
    → sets ≡ map (λ p. agree nulls n p.0 p.1) (pairs rows) → least_covers n sets ≡ covers (opened nulls limit c)
covers-pairs nulls limit c n rows sets wide same made =
    ap₂ least_covers wide (made ∙ ap₂ (λ (m : ℕ) (xs : List Row). map (λ p. agree nulls m p.0 p.1) (pairs xs)) wide same ∙ sym (agree_sets-opened nulls limit c)) ∙ sym (covers-least (opened nulls limit c))

pub covers_found : {E : Type 0} (r : Result CoverLists E) (nulls : Nulls) (c : Content) (n : ℕ) (rows : List Row) (sets : List ℕ) → n ≡ length c.names → rows ≡ c.rows
    → sets ≡ map (λ p. agree nulls n p.0 p.1) (pairs rows) → IfOk r (λ found. found ≡ least_covers n sets) → IfOk r (λ found. (limit : ℕ) → found ≡ covers (opened nulls limit c))
covers_found (Ok found) nulls c n rows sets wide same made e = λ limit. e ∙ covers-pairs nulls limit c n rows sets wide same made
covers_found (Err e) nulls c n rows sets wide same made h = h

-- ---- the first of a list and the others
pub none_left : (xs : List Row) → length xs ≡ 0 → xs ≡ []
none_left [] e = refl
none_left (x ∷ xs) e = absurd (omega arith)

pub All-rest : (P : Row → Type 0) (x : Row) (rest xs : List Row) → xs ≡ x ∷ rest → All P xs → All P rest
All-rest P x rest xs is a = λ k d l. let b : All P (x ∷ rest) = subst (All P) is a in b (suc k) d (omega arith)
