-- Agree sets that come into a draft.
use Rattle.std.proofs.Common.{◌≡◌, ℕ, ◌+◌, ◌^◌, ◌<◌, ◌≤◌, Bool, true, false, not, ◌&&◌, ◌||◌, refl, sym, ap, ◌∙◌, subst, List, [], ◌∷◌, ◌++◌, length, get_or, take, drop}
use Rattle.std.specs.List.{list_any}
use Rattle.std.proofs.lemmas.Bool.{true≢false, and_parts, and_from, or_right, not_from_false, not-true, lt-ltb, ltb-true, false_from_ne_true, true_from_ne_false}
use Rattle.std.proofs.lemmas.List.{take_all, take-append-drop}
use Rattle.col_set.specs.declared.target.Target.{Target}
use Rattle.col_set.specs.declared.target.Target.TheVariants.{Col, RowId}
use Rattle.col_set.specs.ColSet.{IsSubset, has, all, minus, union, subset, upto}
use Rattle.col_set.specs.Target.{has_target}
use Rattle.col_set.specs.Evidence.{refuted}
use Rattle.col_set.specs.Members.{has-empty, has-all, has-minus, has-union}
use Rattle.col_set.specs.Subsets.{IsSubset-refl, subset-true, same_test, subset_below}
use Rattle.col_set.specs.AllSets.{Listed-upto, Listed-upto_within}
use Rattle.col_set.specs.Lists.{Listed-append_left, list_any_at, list_any_which}
use Rattle.col_set.proofs.Least.{refuted_inside}
use Rattle.least_sets.specs.declared.filing.Known.{Known}
use Rattle.least_sets.specs.Drafts.{is_news}
use Rattle.col_set.proofs.Specialise.{refuted-push}
use Rattle.least_sets.proofs.Evidence.{choice_parts}
use Rattle.col_set.proofs.Outside.{outside_of}
use Rattle.least_sets.proofs.Growing.{not_inside}
use Rattle.least_sets.proofs.Exploring.{refuted_more, nothing_refuted}

-- ---- for which targets a set is known
pub record KnownSoFar (n : ℕ) (ws : List ℕ) (z : ℕ) (row_id : Bool) (lacking : ℕ) : Type 0 where
  pub of_row_id : row_id ≡ refuted ws RowId z
  pub of_columns : (a : ℕ) → a < n → has lacking a ≡ refuted ws (Col a) z

pub known_none : (n z lacking : ℕ) → lacking ≡ 0 → KnownSoFar n [] z false lacking
known_none n z lacking e = record { of_row_id = sym (nothing_refuted RowId z); of_columns = λ a l. ap (λ (v : ℕ). has v a) e ∙ has-empty a ∙ sym (nothing_refuted (Col a) z) }

module _ (n z : ℕ) (ws : List ℕ) (i w : ℕ) (l : i < length ws) (is : w ≡ get_or ws i w) (row_id : Bool) (lacking : ℕ) (k : KnownSoFar n (take i ws) z row_id lacking) where
  pub known_more : subset z w ≡ true → (new : ℕ) → new ≡ union lacking (minus (all n) w) → KnownSoFar n (take (i + 1) ws) z true new
  unfolding has_target
  known_more e new made = record {
    of_row_id = sym (refuted_more ws RowId z i w l is ∙ or_right (refuted (take i ws) RowId z) _ (ap (λ b. b && not false) e));
    of_columns = λ a b.
        ap (λ (v : ℕ). has v a) made ∙ has-union lacking (minus (all n) w) a ∙ ap (λ c. c || has (minus (all n) w) a) (k.of_columns a b)
        ∙ ap (λ c. refuted (take i ws) (Col a) z || c) (has-minus (all n) w a ∙ ap (λ c. c && not (has w a)) (has-all n a ∙ lt-ltb a n b ∙ sym e))
        ∙ sym (refuted_more ws (Col a) z i w l is);
  }

  pub known_same : subset z w ≡ false → KnownSoFar n (take (i + 1) ws) z row_id lacking
  known_same e = record { of_row_id = k.of_row_id ∙ same RowId; of_columns = λ a b. k.of_columns a b ∙ same (Col a) }
    where
      or_false : (b : Bool) → b ≡ (b || false)
      or_false true = refl
      or_false false = refl

      same : (t : Target) → refuted (take i ws) t z ≡ refuted (take (i + 1) ws) t z
      same t = sym (refuted_more ws t z i w l is ∙ ap (λ b. refuted (take i ws) t z || (b && not (has_target w t))) e ∙ sym (or_false (refuted (take i ws) t z)))

-- what is told of an agree set that contains z
pub known_told : (n z : ℕ) (ws : List ℕ) (i w : ℕ) → i < length ws → w ≡ get_or ws i w → (old new : Known) (every : ℕ) → every ≡ all n → new ≡ record { row_id = true; columns = union old.columns (minus every w) } → subset z w ≡ true
    → KnownSoFar n (take i ws) z old.row_id old.columns → KnownSoFar n (take (i + 1) ws) z new.row_id new.columns
known_told n z ws i w l is old new every f e s k =
    subst (λ (m : Known). KnownSoFar n (take (i + 1) ws) z m.row_id m.columns) (sym e)
    (known_more n z ws i w l is old.row_id old.columns k s (union old.columns (minus every w)) (ap (λ (v : ℕ). union old.columns (minus v w)) f))

-- an agree set of some is one of all
refuted_front : (ws vs : List ℕ) (t : Target) (z : ℕ) → refuted ws t z ≡ true → refuted (ws ++ vs) t z ≡ true
unfolding refuted
refuted_front ws vs t z e = let w = list_any_which (λ w. subset z w && not (has_target w t)) ws e in list_any_at (λ w. subset z w && not (has_target w t)) w.0 (ws ++ vs) (Listed-append_left w.0 ws vs w.1) w.2

-- none that contains z lacks a column of z
refuted_own : (ws : List ℕ) (z a : ℕ) → has z a ≡ true → refuted ws (Col a) z ≡ false
unfolding refuted has_target
refuted_own ws z a h = false_from_ne_true _ (λ e.
    let w = list_any_which (λ w. subset z w && not (has w a)) ws e in
    let p = and_parts _ _ w.2 in
    true≢false (sym ((subset-true p.0).each a h) ∙ not-true _ p.1))

-- what is known for all that z lacks stays so
pub known_enough : (n z : ℕ) (ws : List ℕ) (i : ℕ) (row_id : Bool) (lacking : ℕ) → (row_id && subset (minus (all n) z) lacking) ≡ true → KnownSoFar n (take i ws) z row_id lacking → KnownSoFar n ws z row_id lacking
known_enough n z ws i row_id lacking e k = record {
  of_row_id = p.0 ∙ sym (whole RowId (sym k.of_row_id ∙ p.0));
  of_columns = λ a l. by a l (has lacking a) refl;
}
  where
    p : (row_id ≡ true) × (subset (minus (all n) z) lacking ≡ true)
    p = and_parts row_id _ e

    whole : (t : Target) → refuted (take i ws) t z ≡ true → refuted ws t z ≡ true
    whole t f = subst (λ (vs : List ℕ). refuted vs t z ≡ true) (take-append-drop i ws) (refuted_front (take i ws) (drop i ws) t z f)

    by : (a : ℕ) → a < n → (b : Bool) → has lacking a ≡ b → has lacking a ≡ refuted ws (Col a) z
    by a l true h = h ∙ sym (whole (Col a) (sym (k.of_columns a l) ∙ h))
    by a l false h = h ∙ sym (refuted_own ws z a (true_from_ne_false (has z a) (λ f.
        true≢false (sym ((subset-true p.1).each a (has-minus (all n) z a ∙ and_from _ _ (has-all n a ∙ lt-ltb a n l) (not_from_false _ f))) ∙ h))))

pub known_all : (n z : ℕ) (ws : List ℕ) (i : ℕ) (row_id : Bool) (lacking : ℕ) → length ws ≤ i → KnownSoFar n (take i ws) z row_id lacking → KnownSoFar n ws z row_id lacking
known_all n z ws i row_id lacking l k = subst (λ vs. KnownSoFar n vs z row_id lacking) (take_all i ws l) k

-- ---- news
all_below : (n : ℕ) → all n < 2 ^ n
all_below n = (choice_parts n RowId (all n) (IsSubset-refl (all n))).0

module _ (n z : ℕ) (ws : List ℕ) (row_id : Bool) (lacking : ℕ) (k : KnownSoFar n ws z row_id lacking) where
  abbrev unseen : ℕ → Bool
  unseen a = not (has z a) && not (refuted ws (Col a) z)

  some_open : not (subset (minus (all n) z) lacking) ≡ true → list_any unseen (upto n) ≡ true
  some_open e =
      let o = outside_of n (minus (all n) z) lacking (subset_below n minus_inside (all_below n)) (not-true _ e) in
      let p = and_parts (has (all n) o.column) _ (sym (has-minus (all n) z o.column) ∙ o.inside) in
      let l : o.column < n = ltb-true o.column n (sym (has-all n o.column) ∙ p.0) in
      list_any_at unseen o.column (upto n) (Listed-upto n o.column l) (and_from _ _ p.1 (not_from_false _ (sym (k.of_columns o.column l) ∙ o.out)))
    where
      minus_inside : IsSubset (minus (all n) z) (all n)
      minus_inside = record { each = λ j h. (and_parts (has (all n) j) _ (sym (has-minus (all n) z j) ∙ h)).0 }

  open_some : list_any unseen (upto n) ≡ true → not (subset (minus (all n) z) lacking) ≡ true
  open_some e =
      let w = list_any_which unseen (upto n) e in
      let p = and_parts _ _ w.2 in
      let l : w.0 < n = Listed-upto_within n w.0 w.1 in
      not_from_false _ (not_inside (minus (all n) z) lacking w.0 (has-minus (all n) z w.0 ∙ and_from _ _ (has-all n w.0 ∙ lt-ltb w.0 n l) p.0) (k.of_columns w.0 l ∙ not-true _ p.1))

  pub news_told : (not row_id || not (subset (minus (all n) z) lacking)) ≡ is_news n ws z
  unfolding is_news
  news_told = ap (λ b. not b || not (subset (minus (all n) z) lacking)) k.of_row_id ∙ ap (λ b. not (refuted ws RowId z) || b) (same_test _ _ some_open open_some)

-- a set is news unless it is known for the row's identity and all columns that it lacks
pub news_not_known : (n z m : ℕ) (ws : List ℕ) (row_id : Bool) (lacking u x : ℕ) (known : Bool) → KnownSoFar n ws z row_id lacking → m ≡ n → u ≡ all m → x ≡ minus u z → known ≡ (row_id && subset x lacking)
    → not known ≡ is_news n ws z
news_not_known n z m ws row_id lacking u x known k e f g h =
    ap not (h ∙ ap (λ (y : ℕ). row_id && subset y lacking) (g ∙ ap (λ (v : ℕ). minus v z) (f ∙ ap all e))) ∙ not_both row_id (subset (minus (all n) z) lacking) ∙ news_told n z ws row_id lacking k
  where
    not_both : (a b : Bool) → not (a && b) ≡ (not a || not b)
    not_both true b = refl
    not_both false b = refl

-- ---- one more agree set
-- where it lies inside one that lacks the target, it refutes nothing more
pub refuted-push_inside : (ws : List ℕ) (t : Target) (z : ℕ) → refuted ws t z ≡ true → (x : ℕ) → refuted (ws ++ z ∷ []) t x ≡ refuted ws t x
refuted-push_inside ws t z e x = refuted-push ws z t x ∙ by (refuted ws t x) (subset x z) (has_target z t) refl refl
  where
    by : (a b c : Bool) → refuted ws t x ≡ a → subset x z ≡ b → (a || (b && not c)) ≡ a
    by true b c i j = refl
    by false false c i j = refl
    by false true c i j = absurd (true≢false (sym (refuted_inside ws t (subset-true j) e) ∙ i))
