-- The columns of all relations, and the inclusions among them.
use Rattle.std.proofs.Common.{inl, inr, ◌≡◌, ℕ, zero, suc, ◌+◌, ◌<◌, ◌≤◌, ◌^◌, Bool, true, false, cond, ◌&&◌, ◌||◌, eqb, refl, sym, ap, ap₂, ◌∙◌, subst, arith, List, [], ◌∷◌, ◌++◌, length, map, take, get_or, set, append_assoc, append-nil}
use Rattle.std.specs.List.{All, AllZip, filter, flat_map, list_any}
use Rattle.std.proofs.lemmas.Bool.{and_parts, and_from, eq-eqb, eqb-true, eqb-false, or_right}
use Rattle.std.proofs.lemmas.List.{length-append, map_push, take_more, take_all, length-set, get_or-set_same, get_or-set_other}
use Rattle.std.proofs.lemmas.List.Concat.{flat_map-append}
use Rattle.std.proofs.lemmas.List.Elements.{AllZip-get_or, All-cons, All-filter, All-nil, length_all_zip}
use Rattle.std.proofs.lemmas.List.FromFn.{length-map-range_with_len}
use Rattle.col_set.specs.ColSet.{upto}
use Rattle.col_set.specs.AllSets.{Listed-upto_within}
use Rattle.col_set.specs.Lists.{Listed, Listed-filter_parts, Listed-flat_map_which, Listed-map_which, filter_same, list_any_at, list_any_which}
use Rattle.col_set.specs.Subsets.{same_test}
use Rattle.rel_base.specs.Cells.{Cell}
use Rattle.rel_base.specs.RowState.{RowState, width}
use Rattle.rel_base.specs.Inclusion.{Included, all_columns, column_cells, included, inclusions}
use Rattle.rel_base.proofs.Parts.{Included-tested, included-true}
use Rattle.row_log.specs.Distinct.{AreDistinctCells}
use Rattle.nary_ind.specs.ListInclusions.{width_at}
use Rattle.nary_ind.specs.Laws.{start_of, position_of, is_unary}
use Rattle.nary_ind.specs.Unary.{AddsColumns, AreAllColumns, IsUnary, SameFilled, has_pair, is_in, is_used}
use Rattle.nary_ind.proofs.Candidates.{pair-listed}
use Rattle.nary_ind.proofs.Lists.{upto_more}
use Rattle.nary_ind.proofs.OneColumn.{columns-long, get_or-range, position-within}

-- ---- columns of one relation more
zip-append : {X Y : Type 0} (R : X → Y → Type 0) (xs more : List X) (ys others : List Y) → AllZip R xs ys → AllZip R more others → AllZip R (xs ++ more) (ys ++ others)
zip-append R [] more [] others a b = b
zip-append R [] more (y ∷ ys) others a b = absurd a
zip-append R (x ∷ xs) more [] others a b = absurd a
zip-append R (x ∷ xs) more (y ∷ ys) others a b = (a.0, zip-append R xs more ys others a.1 b)

filled_each : (r : RowState) (ns : List ℕ) (found : List (List Cell)) → AllZip (AreDistinctCells r) ns found → AllZip SameFilled (map (column_cells r) ns) found
filled_each r [] [] h = h
filled_each r [] (f ∷ found) h = absurd h
filled_each r (n ∷ ns) [] h = absurd h
filled_each r (n ∷ ns) (f ∷ found) h =
    (record { each = λ a filled. ((λ there. (h.0.each a).1 (there, filled)), (λ back. ((h.0.each a).0 back).0)) }, filled_each r ns found h.1)

pub adds-none : (r : RowState) (old : List (List Cell)) → AddsColumns r 0 old old
adds-none r old = record { added = []; each = tt; behind = sym (append-nil old) }

pub adds-more : (r : RowState) (n : ℕ) (old now new : List (List Cell)) (found : List Cell) → AddsColumns r n old now → AreDistinctCells r n found → new ≡ now ++ found ∷ [] → AddsColumns r (n + 1) old new
adds-more r n old now new found adds are is = record {
  added = adds.added ++ found ∷ [];
  each = subst (λ (ns : List ℕ). AllZip (AreDistinctCells r) ns (adds.added ++ found ∷ [])) (sym (upto_more n)) (zip-append (AreDistinctCells r) (upto n) (n ∷ []) adds.added (found ∷ []) adds.each (are, tt));
  behind = is ∙ ap (λ (xs : List (List Cell)). xs ++ found ∷ []) adds.behind ∙ append_assoc old adds.added (found ∷ []);
}

pub columns-more : (rs : List RowState) (i : ℕ) (r : RowState) (old new : List (List Cell)) → i < length rs → r ≡ get_or rs i r → AllZip SameFilled (all_columns (take i rs)) old → AddsColumns r (width r) old new
    → AllZip SameFilled (all_columns (take (i + 1) rs)) new
columns-more rs i r old new l is same adds =
    let f : RowState → List (List Cell) = λ s. map (column_cells s) (upto (width s)) in
    let e : all_columns (take (i + 1) rs) ≡ all_columns (take i rs) ++ f r =
    ap all_columns (take_more rs i r l ∙ ap (λ (s : RowState). take i rs ++ s ∷ []) (sym is)) ∙ flat_map-append f (take i rs) (r ∷ []) ∙ ap (λ (xs : List (List Cell)). all_columns (take i rs) ++ xs) (append-nil (f r)) in
    subst (λ (xs : List (List Cell)). AllZip SameFilled xs new) (sym e)
    (subst (AllZip SameFilled (all_columns (take i rs) ++ f r)) (sym adds.behind) (zip-append SameFilled (all_columns (take i rs)) (f r) old adds.added same (filled_each r (upto (width r)) adds.added adds.each)))

start-columns : (rs : List RowState) (i : ℕ) → i ≤ length rs → length (all_columns (take i rs)) ≡ start_of (map width rs) i
start-columns [] zero l = refl
start-columns [] (suc i) l = refl
start-columns (r ∷ rs) zero l = refl
start-columns (r ∷ rs) (suc i) l =
    length-append (map (column_cells r) (upto (width r))) (all_columns (take i rs)) ∙ ap₂ (λ (m n : ℕ). m + n) (columns-long r) (start-columns rs i (omega arith))

pub starts-more : (rs : List RowState) (i n : ℕ) (old new : List ℕ) (cells : List (List Cell)) → i < length rs → old ≡ map (start_of (map width rs)) (upto i) → AllZip SameFilled (all_columns (take i rs)) cells → n ≡ length cells
    → new ≡ old ++ n ∷ [] → new ≡ map (start_of (map width rs)) (upto (i + 1))
starts-more rs i n old new cells l are same long is =
    let e : n ≡ start_of (map width rs) i = long ∙ sym (length_all_zip SameFilled (all_columns (take i rs)) cells same) ∙ start-columns rs i (omega arith) in
    is ∙ ap₂ (λ (xs : List ℕ) (k : ℕ). xs ++ k ∷ []) are e ∙ sym (ap (map (start_of (map width rs))) (upto_more i) ∙ map_push (start_of (map width rs)) (upto i) i)

pub all-columns : (rs : List RowState) (i : ℕ) (starts : List ℕ) (cells : List (List Cell)) → length rs ≤ i → i ≤ length rs → starts ≡ map (start_of (map width rs)) (upto i) → AllZip SameFilled (all_columns (take i rs)) cells → AreAllColumns rs starts cells
all-columns rs i starts cells l m are same =
    let e : i ≡ length rs = omega arith in
    record {
      begin = are ∙ ap (λ (n : ℕ). map (start_of (map width rs)) (upto n)) e;
      same = subst (λ (xs : List RowState). AllZip SameFilled (all_columns xs) cells) (take_all i rs l) same;
    }

-- ---- the same inclusions
module _ (xs ys : List (List Cell)) (all : AllZip SameFilled xs ys) where
  long : length xs ≡ length ys
  long = length_all_zip SameFilled xs ys all

  there : (i : ℕ) → i < length xs → SameFilled (get_or xs i []) (get_or ys i [])
  there i l = AllZip-get_or SameFilled xs ys i [] [] all l

  Included-there : (c d : ℕ) → Included xs c d → Included ys c d
  Included-there c d h =
      let e = long in
      let l = h.dependent in
      let m = h.referenced in
      record {
        dependent = omega arith;
        referenced = omega arith;
        other = h.other;
        each = λ a k filled. ((there d h.referenced).each a filled).0 (h.each a (((there c h.dependent).each a filled).1 k) filled);
      }

  Included-back : (c d : ℕ) → Included ys c d → Included xs c d
  Included-back c d h =
      let e = long in
      let l = h.dependent in
      let m = h.referenced in
      let l' : c < length xs = omega arith in
      let m' : d < length xs = omega arith in
      record {
        dependent = l';
        referenced = m';
        other = h.other;
        each = λ a k filled. ((there d m').each a filled).1 (h.each a (((there c l').each a filled).0 k) filled);
      }

included_same : (xs ys : List (List Cell)) → AllZip SameFilled xs ys → (c d : ℕ) → c < length xs → d < length xs → included xs c d ≡ included ys c d
included_same xs ys all c d l m =
    let e = long xs ys all in
    same_test (included xs c d) (included ys c d)
    (λ h. included-true ys c d (Included-there xs ys all c d (Included-tested xs c d l m h)))
    (λ h. included-true xs c d (Included-back xs ys all c d (Included-tested ys c d (omega arith) (omega arith) h)))

-- each column with each, of so many
every : ℕ → List (ℕ × ℕ)
every n = flat_map (λ c. map (λ d. (c, d)) (upto n)) (upto n)

every-within : (n : ℕ) (p : ℕ × ℕ) → Listed p (every n) → (p.0 < n) × (p.1 < n)
unfolding every
every-within n p h =
    let v = Listed-flat_map_which (λ (c : ℕ). map (λ d. (c, d)) (upto n)) p (upto n) h in
    let w = Listed-map_which (λ (d : ℕ). (v.0, d)) p (upto n) v.2 in
    let first : p.0 ≡ v.0 = ap (λ (q : ℕ × ℕ). q.0) w.2 in
    let second : p.1 ≡ w.0 = ap (λ (q : ℕ × ℕ). q.1) w.2 in
    let a = Listed-upto_within n v.0 v.1 in
    let b = Listed-upto_within n w.0 w.1 in
    (omega arith, omega arith)

inclusions_same : (xs ys : List (List Cell)) → AllZip SameFilled xs ys → inclusions xs ≡ inclusions ys
unfolding inclusions every
inclusions_same xs ys all =
    filter_same (λ p. included xs p.0 p.1) (λ p. included ys p.0 p.1) (every (length xs)) (λ p h. let w = every-within (length xs) p h in included_same xs ys all p.0 p.1 w.0 w.1)
    ∙ ap (λ (n : ℕ). filter (λ p. included ys p.0 p.1) (every n)) (long xs ys all)

all_listed : {X : Type 0} (P : X → Type 0) (xs : List X) → ((x : X) → Listed x xs → P x) → All P xs
all_listed P [] f = All-nil P
all_listed P (x ∷ xs) f = All-cons P x xs (f x (inl refl)) (all_listed P xs (λ y h. f y (inr h)))

pub inclusions_within : (columns : List (List Cell)) (n : ℕ) (found : List (ℕ × ℕ)) → n ≡ length columns → found ≡ inclusions columns → All (λ p. (p.0 < n) × (p.1 < n)) found
unfolding inclusions every
inclusions_within columns n found e is =
    subst (λ (ps : List (ℕ × ℕ)). All (λ p. (p.0 < n) × (p.1 < n)) ps) (sym is)
    (subst (λ (m : ℕ). All (λ p. (p.0 < m) × (p.1 < m)) (filter (λ p. included columns p.0 p.1) (every (length columns)))) (sym e)
    (All-filter (λ p. included columns p.0 p.1) (λ p. (p.0 < length columns) × (p.1 < length columns)) (every (length columns))
    (all_listed (λ p. (p.0 < length columns) × (p.1 < length columns)) (every (length columns)) (every-within (length columns)))))

-- ---- pairs as a set, and used columns
pub any-push : {X : Type 0} (p : X → Bool) (xs : List X) (x : X) → list_any p (xs ++ x ∷ []) ≡ (list_any p xs || p x)
any-push p [] x = or-false (p x)
  where
    or-false : (b : Bool) → (b || false) ≡ b
    or-false true = refl
    or-false false = refl
any-push p (y ∷ xs) x = ap (λ b. p y || b) (any-push p xs x) ∙ or_assoc (p y) (list_any p xs) (p x)
  where
    or_assoc : (a b c : Bool) → (a || (b || c)) ≡ ((a || b) || c)
    or_assoc true b c = refl
    or_assoc false b c = refl

pub any-more : {X : Type 0} (p : X → Bool) (xs : List X) (i : ℕ) (x : X) → i < length xs → x ≡ get_or xs i x → list_any p (take (i + 1) xs) ≡ (list_any p (take i xs) || p x)
any-more p xs i x l is = ap (list_any p) (take_more xs i x l ∙ ap (λ (y : _). take i xs ++ y ∷ []) (sym is)) ∙ any-push p (take i xs) x

eqb-sym : (m n : ℕ) → eqb m n ≡ eqb n m
eqb-sym m n = same_test _ _ (λ e. eq-eqb n m (sym (eqb-true m n e))) (λ e. eq-eqb m n (sym (eqb-true n m e)))

or-comm : (a b : Bool) → (a || b) ≡ (b || a)
or-comm true true = refl
or-comm true false = refl
or-comm false true = refl
or-comm false false = refl

cond-or : (a b : Bool) → cond a true b ≡ (a || b)
cond-or true b = refl
cond-or false b = refl

-- a pair more
pub pair-more : (old new found : List (ℕ × ℕ)) (i : ℕ) (p : ℕ × ℕ) → i < length found → p ≡ get_or found i p
    → ((q : ℕ × ℕ) → has_pair new q.0 q.1 ≡ cond (eqb p.0 q.0 && eqb p.1 q.1) true (has_pair old q.0 q.1))
    → ((c d : ℕ) → has_pair old c d ≡ has_pair (take i found) c d) → (c d : ℕ) → has_pair new c d ≡ has_pair (take (i + 1) found) c d
pair-more old new found i p l is put before c d =
    put (c, d) ∙ cond-or (eqb p.0 c && eqb p.1 d) (has_pair old c d) ∙ ap₂ (λ (x y : Bool). x || y) (ap₂ (λ (x y : Bool). x && y) (eqb-sym p.0 c) (eqb-sym p.1 d)) (before c d)
    ∙ or-comm (eqb c p.0 && eqb d p.1) (has_pair (take i found) c d) ∙ sym (any-more (λ (q : ℕ × ℕ). eqb c q.0 && eqb d q.1) found i p l is)

-- a column that is marked
mark : (used : List Bool) (a c : ℕ) → a < length used → get_or (set used a true) c false ≡ (get_or used c false || eqb c a)
mark used a c l = by (eqb c a) refl
  where
    by : (b : Bool) → eqb c a ≡ b → get_or (set used a true) c false ≡ (get_or used c false || eqb c a)
    by true e = ap (λ (k : ℕ). get_or (set used a true) k false) (eqb-true c a e) ∙ get_or-set_same used a true false l ∙ sym (or_right (get_or used c false) (eqb c a) e)
    by false e = get_or-set_other used a c true false (eqb-false c a e) ∙ sym (ap (λ b. get_or used c false || b) e ∙ or-nothing (get_or used c false))
      where
        or-nothing : (b : Bool) → (b || false) ≡ b
        or-nothing true = refl
        or-nothing false = refl

pub marked-more : (used : List Bool) (found : List (ℕ × ℕ)) (i : ℕ) (p : ℕ × ℕ) → i < length found → p ≡ get_or found i p → p.0 < length used → p.1 < length used
    → ((c : ℕ) → get_or used c false ≡ is_in (take i found) c) → (c : ℕ) → get_or (set (set used p.0 true) p.1 true) c false ≡ is_in (take (i + 1) found) c
marked-more used found i p l is a b before c =
    mark (set used p.0 true) p.1 c (let e = length-set used p.0 true in omega arith)
    ∙ ap (λ (x : Bool). x || eqb c p.1) (mark used p.0 c a ∙ ap (λ (x : Bool). x || eqb c p.0) (before c))
    ∙ or_assoc (is_in (take i found) c) (eqb c p.0) (eqb c p.1) ∙ sym (any-more (λ (q : ℕ × ℕ). eqb c q.0 || eqb c q.1) found i p l is)
  where
    or_assoc : (a b c : Bool) → ((a || b) || c) ≡ (a || (b || c))
    or_assoc true b c = refl
    or_assoc false b c = refl

-- ---- all of it
pub unary-from : (rs : List RowState) (starts : List ℕ) (cells : List (List Cell)) (found set : List (ℕ × ℕ)) (used : List Bool) → AreAllColumns rs starts cells → length cells < 2 ^ 64 → found ≡ inclusions cells
    → ((c d : ℕ) → has_pair set c d ≡ has_pair found c d) → length used ≡ length cells → ((c : ℕ) → get_or used c false ≡ is_in found c) → IsUnary rs starts set used
unary-from rs starts cells found set used all few is pairs wide used-is =
    let e = long (all_columns rs) cells all.same in
    let f : found ≡ inclusions (all_columns rs) = is ∙ sym (inclusions_same (all_columns rs) cells all.same) in
    record {
      begin = all.begin;
      few = subst (λ (n : ℕ). n < 2 ^ 64) (sym e) few;
      pairs = λ c d. pairs c d ∙ ap (λ (ps : List (ℕ × ℕ)). has_pair ps c d) f;
      long = wide ∙ sym e;
      used = λ c. used-is c ∙ ap (λ (ps : List (ℕ × ℕ)). is_in ps c) f;
    }

module _ (rs : List RowState) (starts : List ℕ) (set : List (ℕ × ℕ)) (used : List Bool) (is : IsUnary rs starts set used) where
  pub starts-long : length starts ≡ length rs
  starts-long = ap length is.begin ∙ length-map-range_with_len (start_of (map width rs)) 0 (length rs)

  pub start-at : (p : ℕ) → p < length rs → get_or starts p 0 ≡ start_of (map width rs) p
  start-at p l = ap (λ (xs : List ℕ). get_or xs p 0) is.begin ∙ get_or-range (start_of (map width rs)) (length rs) 0 p 0 l ∙ ap (start_of (map width rs)) (omega arith)

  pub position-at : (p c : ℕ) → p < length rs → c < width_at rs p → (get_or starts p 0 + c ≡ position_of rs p c) × (position_of rs p c < length (all_columns rs))
  position-at p c l m = (ap (λ (k : ℕ). k + c) (start-at p l), position-within rs p c l m)

  pairs-tell : (c d : ℕ) → c < length (all_columns rs) → d < length (all_columns rs) → has_pair (inclusions (all_columns rs)) c d ≡ included (all_columns rs) c d
  unfolding inclusions every
  pairs-tell c d l m = same_test _ _
      (λ e.
      let w = list_any_which (λ (p : ℕ × ℕ). eqb c p.0 && eqb d p.1) (inclusions (all_columns rs)) e in
      let v = and_parts (eqb c w.0.0) (eqb d w.0.1) w.2 in
      let f = Listed-filter_parts (λ (p : ℕ × ℕ). included (all_columns rs) p.0 p.1) w.0 (every (length (all_columns rs))) w.1 in
      ap₂ (λ (a b : ℕ). included (all_columns rs) a b) (eqb-true c w.0.0 v.0) (eqb-true d w.0.1 v.1) ∙ f.1)
      (λ e. list_any_at (λ (p : ℕ × ℕ). eqb c p.0 && eqb d p.1) (c, d) (inclusions (all_columns rs)) (pair-listed rs c d l m e) (and_from _ _ (eq-eqb c c refl) (eq-eqb d d refl)))

  pub has-told : (p c q d m n : ℕ) → p < length rs → c < width_at rs p → q < length rs → d < width_at rs q → m ≡ get_or starts p 0 + c → n ≡ get_or starts q 0 + d → has_pair set m n ≡ is_unary rs p c q d
  unfolding is_unary
  has-told p c q d m n l i h j e f =
      let a = position-at p c l i in
      let b = position-at q d h j in
      is.pairs m n ∙ ap₂ (λ (x y : ℕ). has_pair (inclusions (all_columns rs)) x y) (e ∙ a.0) (f ∙ b.0) ∙ pairs-tell (position_of rs p c) (position_of rs q d) a.1 b.1

  pub used-told : (p c : ℕ) → p < length rs → c < width_at rs p → get_or used (get_or starts p 0 + c) false ≡ is_used rs p c
  unfolding is_used
  used-told p c l i = ap (λ (k : ℕ). get_or used k false) (position-at p c l i).0 ∙ is.used (position_of rs p c)
