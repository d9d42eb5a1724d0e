-- Agree sets filed by the columns that they have and by the targets that they lack.
use Rattle.std.proofs.Common.{inl, inr, ◌≡◌, ◌≢◌, ◌⊎◌, ℕ, ◌+◌, ◌<◌, ◌≤◌, Bool, true, false, cond, not, ◌&&◌, ◌||◌, eqb, refl, sym, ap, ap₂, ◌∙◌, subst, arith, List, [], ◌∷◌, ◌++◌, length, get_or, set, replicate, Vec}
use Rattle.std.specs.List.{list_any}
use Rattle.std.specs.declared.alloc.Global.{Global}
use Rattle.std.proofs.lemmas.Bool.{true≢false, eqb-true, eq-eqb, lt-ltb, cases_Bool, false_from_ne_true}
use Rattle.std.proofs.lemmas.List.{append-nil, map-append, length-map, map-set, length-set, get_or-set_same, get_or-set_other, get_or-map, length-replicate, get_or-replicate}
use Rattle.std.proofs.lemmas.Grind.{replicate_next}
use Rattle.std.proofs.lemmas.List.Folds.{list_any-append}
use Rattle.std.proofs.lemmas.List.Elements.{filter-append}
use Rattle.col_set.specs.declared.target.Target.{Target}
use Rattle.col_set.specs.declared.target.Target.TheVariants.{Col, RowId}
use Rattle.col_set.specs.ColSet.{has, all, minus, subset}
use Rattle.col_set.specs.Members.{has-all, has-minus}
use Rattle.col_set.specs.Target.{has_target}
use Rattle.col_set.specs.Evidence.{refuted}
use Rattle.col_set.specs.Subsets.{subset-true}
use Rattle.least_sets.specs.Growth.{having}
use Rattle.least_sets.specs.Drafts.{AreFiled, AreAdded, IsFiling, lists_behind}
use Rattle.col_set.proofs.Specialise.{refuted-push}
use Rattle.least_sets.proofs.Evidence.{refuted-push_known}
use Rattle.least_sets.proofs.Exploring.{nothing_refuted}
use Rattle.least_sets.proofs.Drafting.{refuted-push_inside}

-- ---- none yet
filing_nothing : (n : ℕ) (by_column by_target : List (List ℕ)) → n ≤ 128 → by_column ≡ replicate n [] → by_target ≡ replicate n [] → IsFiling n [] by_column [] by_target
filing_nothing n by_column by_target b e f = record {
  bound = b;
  filed = record { count = ap length e ∙ length-replicate n []; each = λ a l. ap (λ ls. get_or ls a []) e ∙ get_or-replicate n a [] [] l };
  outer = record {
    rows_tell = λ x. sym (nothing_refuted RowId x);
    count = ap length f ∙ length-replicate n [];
    each = λ a l x. ap (λ ls. list_any (λ w. subset x w) (get_or ls a [])) f ∙ ap (list_any (λ w. subset x w)) (get_or-replicate n a [] [] l) ∙ sym (nothing_refuted (Col a) x);
  };
}

pub filing_opening : (n : ℕ) (by_column by_target : List (Vec ℕ Global)) (ws row_id : List ℕ) → n ≤ 128 → lists_behind by_column ≡ replicate n [] → lists_behind by_target ≡ replicate n [] → ws ≡ [] → row_id ≡ [] → IsFiling (length by_column) ws (lists_behind by_column) row_id (lists_behind by_target)
filing_opening n by_column by_target ws row_id b e f g h =
    subst (λ (m : ℕ). IsFiling m ws (lists_behind by_column) row_id (lists_behind by_target)) (sym (sym (length-map by_column (λ v. v.items)) ∙ ap length e ∙ length-replicate n []))
    (subst (λ (vs : List ℕ). IsFiling n vs (lists_behind by_column) row_id (lists_behind by_target)) (sym g)
    (subst (λ (vs : List ℕ). IsFiling n [] (lists_behind by_column) vs (lists_behind by_target)) (sym h) (filing_nothing n (lists_behind by_column) (lists_behind by_target) b e f)))

pub empty_more : (lists new : List (Vec ℕ Global)) (v : Vec ℕ Global) (k : ℕ) → lists_behind lists ≡ replicate k [] → new ≡ lists ++ v ∷ [] → v.items ≡ [] → lists_behind new ≡ replicate (k + 1) []
empty_more lists new v k e f g = ap lists_behind f ∙ map-append (λ w. w.items) lists (v ∷ []) ∙ ap₂ (λ (ls : List (List ℕ)) (xs : List ℕ). ls ++ xs ∷ []) e g ∙ sym (replicate_next k [])

-- ---- one more agree set
-- the lists of the columns before i have it if the places do, those of the others are as they were
pub record FiledSoFar (z places : ℕ) (old now : List (List ℕ)) (i : ℕ) : Type 0 where
  pub count : length now ≡ length old
  pub before : (a : ℕ) → a < i → get_or now a [] ≡ get_or old a [] ++ cond (has places a) (z ∷ []) []
  pub after : (a : ℕ) → i ≤ a → get_or now a [] ≡ get_or old a []

pub filing_none : (z places : ℕ) (old : List (List ℕ)) → FiledSoFar z places old old 0
filing_none z places old = record { count = refl; before = λ a l. absurd (omega arith); after = λ a l. refl }

module _ (z places : ℕ) (old now : List (List ℕ)) (i : ℕ) (s : FiledSoFar z places old now i) where
  split : (a : ℕ) → a < i + 1 → (a < i) ⊎ (a ≡ i)
  split a l = elim (cases_Bool (eqb a i)) as (λ _. (a < i) ⊎ (a ≡ i)) [ inl e ↦ inr (eqb-true a i e) | inr e ↦ inl (below e) ]
    where
      below : eqb a i ≡ false → a < i
      below e = let n : a ≢ i = λ f. true≢false (sym (eq-eqb a i f) ∙ e) in omega arith

  pub filing_has : has places i ≡ true → i < length now → (new : List (List ℕ)) → new ≡ set now i (get_or now i [] ++ z ∷ []) → FiledSoFar z places old new (i + 1)
  filing_has h l new e = record {
    count = ap length e ∙ length-set now i (get_or now i [] ++ z ∷ []) ∙ s.count;
    before = λ a b. elim (split a b) as (λ _. get_or new a [] ≡ get_or old a [] ++ cond (has places a) (z ∷ []) []) [
      | inl c ↦ other a (let n : a ≢ i = omega arith in n) ∙ s.before a c
      | inr c ↦ subst (λ (k : ℕ). get_or new k [] ≡ get_or old k [] ++ cond (has places k) (z ∷ []) []) (sym c) here
    ];
    after = λ a b. other a (let n : a ≢ i = omega arith in n) ∙ s.after a (omega arith);
  }
    where
      other : (a : ℕ) → a ≢ i → get_or new a [] ≡ get_or now a []
      other a n = ap (λ ls. get_or ls a []) e ∙ get_or-set_other now i a (get_or now i [] ++ z ∷ []) [] n

      here : get_or new i [] ≡ get_or old i [] ++ cond (has places i) (z ∷ []) []
      here =
          ap (λ ls. get_or ls i []) e ∙ get_or-set_same now i (get_or now i [] ++ z ∷ []) [] l ∙ ap (λ (xs : List ℕ). xs ++ z ∷ []) (s.after i (omega arith))
          ∙ ap (λ b. get_or old i [] ++ cond b (z ∷ []) []) (sym h)

  pub filing_lacks : has places i ≡ false → FiledSoFar z places old now (i + 1)
  filing_lacks h = record {
    count = s.count;
    before = λ a b. elim (split a b) as (λ _. get_or now a [] ≡ get_or old a [] ++ cond (has places a) (z ∷ []) []) [
      | inl c ↦ s.before a c
      | inr c ↦ subst (λ (k : ℕ). get_or now k [] ≡ get_or old k [] ++ cond (has places k) (z ∷ []) []) (sym c) (s.after i (omega arith) ∙ sym (append-nil (get_or old i [])) ∙ ap (λ b. get_or old i [] ++ cond b (z ∷ []) []) (sym h))
    ];
    after = λ a b. s.after a (omega arith);
  }

  pub filing_all : (n : ℕ) → n ≤ i → AreAdded n z places old now
  filing_all n l = record { count = s.count; each = λ a b. s.before a (omega arith) }

-- the lists behind vectors, one of which was pushed to
pub behind_set : (lists : List (Vec ℕ Global)) (i z : ℕ) (d v : Vec ℕ Global) → i < length lists → v.items ≡ (get_or lists i d).items ++ z ∷ [] → lists_behind (set lists i v) ≡ set (lists_behind lists) i (get_or (lists_behind lists) i [] ++ z ∷ [])
behind_set lists i z d v l e = map-set (λ w. w.items) lists i v ∙ ap (set (lists_behind lists) i) (e ∙ ap (λ (xs : List ℕ). xs ++ z ∷ []) (sym (get_or-map (λ w. w.items) lists i d [] l)))

-- ---- those that may contain a set
pub refuted-having : (ws : List ℕ) (a z : ℕ) (t : Target) → has z a ≡ true → refuted (having a ws) t z ≡ refuted ws t z
unfolding refuted
refuted-having [] a z t h = refl
refuted-having (w ∷ ws) a z t h = by (has w a) refl (refuted-having ws a z t h)
  where
    by : (b : Bool) → has w a ≡ b → list_any (λ w. subset z w && not (has_target w t)) (having a ws) ≡ list_any (λ w. subset z w && not (has_target w t)) ws
        → list_any (λ w. subset z w && not (has_target w t)) (cond b (w ∷ having a ws) (having a ws)) ≡ ((subset z w && not (has_target w t)) || list_any (λ w. subset z w && not (has_target w t)) ws)
    by true e rest = ap (λ b. (subset z w && not (has_target w t)) || b) rest
    by false e rest = rest ∙ ap (λ b. (b && not (has_target w t)) || list_any (λ w. subset z w && not (has_target w t)) ws) (sym out)
      where
        out : subset z w ≡ false
        out = false_from_ne_true _ (λ i. true≢false (sym ((subset-true i).each a h) ∙ e))

pub refuted-filed : (n : ℕ) (ws : List ℕ) (lists : List (List ℕ)) (a z : ℕ) (few : List ℕ) → AreFiled n ws lists → a < n → has z a ≡ true → few ≡ get_or lists a [] → (t : Target) → refuted few t z ≡ refuted ws t z
refuted-filed n ws lists a z few f l h e t = ap (λ (vs : List ℕ). refuted vs t z) (e ∙ f.each a l) ∙ refuted-having ws a z t h

pub behind_at : (lists : List (Vec ℕ Global)) (i : ℕ) (v : Vec ℕ Global) → i < length (lists_behind lists) → v ≡ get_or lists i v → v.items ≡ get_or (lists_behind lists) i []
behind_at lists i v l e = ap (λ (w : Vec ℕ Global). w.items) e ∙ sym (get_or-map (λ w. w.items) lists i v [] (let m = length-map lists (λ (w : Vec ℕ Global). w.items) in omega (arith, m)))

-- ---- one more agree set in all lists
-- z is added for the targets that it lacks and for which it lies inside none that lacks them
module _ (n : ℕ) (ws : List ℕ) (z : ℕ) (known : Bool) (lacking : ℕ) (rows_known : known ≡ true → refuted ws RowId z ≡ true) (columns_known : (a : ℕ) → a < n → has lacking a ≡ true → refuted ws (Col a) z ≡ true) where
  abbrev open_for : ℕ
  open_for = minus (minus (all n) z) lacking

  has_open : (a : ℕ) → a < n → has open_for a ≡ (not (has z a) && not (has lacking a))
  has_open a l = has-minus (minus (all n) z) lacking a ∙ ap (λ b. b && not (has lacking a)) (has-minus (all n) z a ∙ ap (λ b. b && not (has z a)) (has-all n a ∙ lt-ltb a n l))

  -- a list that tells what is refuted
  abbrev Tells : List ℕ → List ℕ → Target → Type 0
  Tells vs us t = (x : ℕ) → list_any (λ w. subset x w) vs ≡ refuted us t x

  grows : (vs : List ℕ) (t : Target) → has_target z t ≡ false → Tells vs ws t → Tells (vs ++ z ∷ []) (ws ++ z ∷ []) t
  grows vs t h e x =
      list_any-append (λ w. subset x w) vs (z ∷ []) ∙ ap (λ b. b || (subset x z || false)) (e x)
      ∙ ap (λ b. refuted ws t x || b) (same (subset x z)) ∙ ap (λ b. refuted ws t x || (subset x z && not b)) (sym h) ∙ sym (refuted-push ws z t x)
    where
      same : (b : Bool) → (b || false) ≡ (b && not false)
      same true = refl
      same false = refl

  rows_after : (row_id new : List ℕ) → Tells row_id ws RowId → new ≡ row_id ++ cond known [] (z ∷ []) → Tells new (ws ++ z ∷ []) RowId
  unfolding has_target
  rows_after row_id new o e x = ap (list_any (λ w. subset x w)) e ∙ by known refl
    where
      by : (b : Bool) → known ≡ b → list_any (λ w. subset x w) (row_id ++ cond b [] (z ∷ [])) ≡ refuted (ws ++ z ∷ []) RowId x
      by true h = ap (list_any (λ w. subset x w)) (append-nil row_id) ∙ o x ∙ sym (refuted-push_inside ws RowId z (rows_known h) x)
      by false h = grows row_id RowId refl o x

  column_after : (a : ℕ) → a < n → (list new : List ℕ) → Tells list ws (Col a) → new ≡ list ++ cond (has open_for a) (z ∷ []) [] → Tells new (ws ++ z ∷ []) (Col a)
  unfolding has_target
  column_after a l list new o e x = ap (list_any (λ w. subset x w)) e ∙ by (has z a) refl (has lacking a) refl
    where
      stays : has open_for a ≡ false → list_any (λ w. subset x w) (list ++ cond (has open_for a) (z ∷ []) []) ≡ refuted ws (Col a) x
      stays h = ap (λ b. list_any (λ w. subset x w) (list ++ cond b (z ∷ []) [])) h ∙ ap (list_any (λ w. subset x w)) (append-nil list) ∙ o x

      by : (p : Bool) → has z a ≡ p → (q : Bool) → has lacking a ≡ q → list_any (λ w. subset x w) (list ++ cond (has open_for a) (z ∷ []) []) ≡ refuted (ws ++ z ∷ []) (Col a) x
      by true h q g = stays (has_open a l ∙ ap (λ b. not b && not (has lacking a)) h) ∙ sym (refuted-push_known ws z (Col a) h x)
      by false h true g = stays (has_open a l ∙ ap₂ (λ b c. not b && not c) h g) ∙ sym (refuted-push_inside ws (Col a) z (columns_known a l g) x)
      by false h false g = ap (λ b. list_any (λ w. subset x w) (list ++ cond b (z ∷ []) [])) (has_open a l ∙ ap₂ (λ b c. not b && not c) h g) ∙ grows list (Col a) h o x

  pub filing_after : (places : ℕ) (by_column by_column' : List (List ℕ)) (row_id row_id' : List ℕ) (by_target by_target' : List (List ℕ)) → places ≡ open_for → IsFiling n ws by_column row_id by_target → row_id' ≡ row_id ++ cond known [] (z ∷ []) → AreAdded n z places by_target by_target'
      → AreAdded n z z by_column by_column' → IsFiling n (ws ++ z ∷ []) by_column' row_id' by_target'
  filing_after places by_column by_column' row_id row_id' by_target by_target' p f r t c = record {
    bound = f.bound;
    filed = record {
      count = c.count ∙ f.filed.count;
      each = λ a l. c.each a l ∙ ap (λ (xs : List ℕ). xs ++ having a (z ∷ [])) (f.filed.each a l) ∙ sym (filter-append (λ w. has w a) ws (z ∷ []));
    };
    outer = record {
      rows_tell = rows_after row_id row_id' f.outer.rows_tell r;
      count = t.count ∙ f.outer.count;
      each = λ a l. column_after a l (get_or by_target a []) (get_or by_target' a []) (f.outer.each a l) (t.each a l ∙ ap (λ (v : ℕ). get_or by_target a [] ++ cond (has v a) (z ∷ []) []) p);
    };
  }
