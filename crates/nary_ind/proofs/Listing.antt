-- What the list of all inclusions has, and in which order.
use Rattle.std.proofs.Common.{inl, inr, ◌≡◌, ◌≢◌, ◌⊎◌, ℕ, zero, suc, ◌+◌, ◌-◌, ◌<◌, ◌≤◌, ltb, Bool, true, false, ◌||◌, not, eqb, refl, sym, ap, ap₂, ◌∙◌, subst, arith, List, [], ◌∷◌, length, map, get_or, Ordering, Less}
use Rattle.std.specs.List.{All, AllPairs, Contains, flat_map, list_all, range_with_len}
use Rattle.std.specs.List.Sorted.{IsStrictlyIncreasing}
use Rattle.std.specs.Ordering.{nat_cmp, ordering_then}
use Rattle.std.specs.Cmp.Lexicographic.{slice_cmp}
use Rattle.std.proofs.lemmas.Bool.{and_parts, and_from, eqb-false, eqb-true, ltb-true, lt-ltb, ne_eqb, not-true, or_cases, or_left, or_right}
use Rattle.std.proofs.lemmas.Cmp.{nat_cmp_total, tied_itself}
use Rattle.std.proofs.lemmas.List.Elements.{All-contains, All-cons, All-nil}
use Rattle.col_set.specs.ColSet.{upto}
use Rattle.col_set.specs.AllSets.{Listed-upto, Listed-upto_within}
use Rattle.col_set.specs.Columns.{nat_cmp-lt}
use Rattle.col_set.specs.Lists.{Listed, Rises, Listed-filter, Listed-filter_parts, Listed-flat_map, Listed-flat_map_which, Listed-map, Listed-map_which, Rises-append, Rises-filter, Rises-map, list_all_at, list_all_from}
use Rattle.col_set.proofs.Places.{AllPairs-rises, Climbs, Climbs-increasing, Contains-listed, Listed-contained, Listed-get_or}
use Rattle.rel_base.specs.Cells.{Row}
use Rattle.rel_base.specs.Agreement.{same_cell}
use Rattle.rel_base.specs.RowState.{RowState}
use Rattle.rel_base.proofs.Agree.{same_cell-true, true-same_cell}
use Rattle.nary_ind.specs.declared.found.ListInd.{ListInd}
use Rattle.nary_ind.specs.declared.found.Side.{Side}
use Rattle.nary_ind.specs.ListInclusions.{IsListInclusion, all_lists, are_different, column_lists, differ_by_place, from_to, holds_among, is_ascending, is_formed, is_list_inclusion, is_null, list_inclusions, of_width, tuples_at, width_at}
use Rattle.nary_ind.specs.Laws.{InclusionsListed, ind_cmp, side_cmp}
use Rattle.nary_ind.specs.Levels.{IsSide}
use Rattle.nary_ind.proofs.Among.{among-each, among-from}
use Rattle.nary_ind.proofs.Levels.{side-of}
use Rattle.nary_ind.proofs.Live.{range-above, range-rises}
use Rattle.nary_ind.proofs.Places.{differ-at, formed-from, formed-parts}

-- ---- order
-- lists one after another rise where each does and the first elements are in order
rises-flat : {X Y : Type 0} (R : X → X → Ordering) (S : Y → Y → Ordering) (f : X → List Y) (xs : List X) → Rises R xs → ((x : X) → Listed x xs → Rises S (f x))
    → ((x y : X) → Listed x xs → Listed y xs → R x y ≡ Less → (a b : Y) → Listed a (f x) → Listed b (f y) → S a b ≡ Less) → Rises S (flat_map f xs)
rises-flat R S f [] r own across = tt
rises-flat R S f (x ∷ xs) r own across =
    Rises-append S (f x) (flat_map f xs) (own x (inl refl)) (rises-flat R S f xs r.1 (λ y h. own y (inr h)) (λ y z h g. across y z (inr h) (inr g)))
    (λ a b h g. let w = Listed-flat_map_which f b xs g in across x w.0 (inl refl) (inr w.1) (r.0 w.0 w.1) a b h w.2)

sucs-rise : (n a : ℕ) → Rises (λ k l. nat_cmp (suc k) (suc l)) (range_with_len a n)
sucs-rise zero a = tt
sucs-rise (suc n) a = ((λ y h. nat_cmp-lt (suc a) (suc y) (let l = range-above n (a + 1) y h in omega arith)), sucs-rise n (a + 1))

then-first : (o p : Ordering) → o ≡ Less → ordering_then o p ≡ Less
then-first o p e = ap (λ (x : Ordering). ordering_then x p) e

then-tied : (n : ℕ) (p : Ordering) → p ≡ Less → ordering_then (nat_cmp n n) p ≡ Less
then-tied n p e = ap (λ (x : Ordering). ordering_then x p) (tied_itself nat_cmp_total n) ∙ e

lists-rise : (k n : ℕ) → Rises (slice_cmp nat_cmp) (column_lists k n)
unfolding column_lists
lists-rise zero n = ((λ y h. absurd h), tt)
lists-rise (suc k) n =
    rises-flat nat_cmp (slice_cmp nat_cmp) (λ c. map (λ cs. c ∷ cs) (column_lists k n)) (upto n) (range-rises n 0)
    (λ c h. Rises-map (slice_cmp nat_cmp) (slice_cmp nat_cmp) (λ cs. c ∷ cs) (column_lists k n) (lists-rise k n) (λ a b i j e. then-tied c (slice_cmp nat_cmp a b) e))
    (λ c d h g l a b i j.
    let v = Listed-map_which (λ (cs : List ℕ). c ∷ cs) a (column_lists k n) i in
    let w = Listed-map_which (λ (cs : List ℕ). d ∷ cs) b (column_lists k n) j in
    ap₂ (slice_cmp nat_cmp) v.2 w.2 ∙ then-first (nat_cmp c d) (slice_cmp nat_cmp v.0 w.0) l)

all-rise : (k : ℕ) (rs : List RowState) → Rises side_cmp (all_lists k rs)
unfolding all_lists
all-rise k rs =
    rises-flat nat_cmp side_cmp (λ p. map (λ cs. record { rel = p; columns = cs }) (column_lists k (width_at rs p))) (upto (length rs)) (range-rises (length rs) 0)
    (λ p h. Rises-map (slice_cmp nat_cmp) side_cmp (λ cs. record { rel = p; columns = cs }) (column_lists k (width_at rs p)) (lists-rise k (width_at rs p)) (λ a b i j e. then-tied p (slice_cmp nat_cmp a b) e))
    (λ p q h g l a b i j.
    let v = Listed-map_which (λ (cs : List ℕ). record { rel = p; columns = cs }) a (column_lists k (width_at rs p)) i in
    let w = Listed-map_which (λ (cs : List ℕ). record { rel = q; columns = cs }) b (column_lists k (width_at rs q)) j in
    ap₂ side_cmp v.2 w.2 ∙ then-first (nat_cmp p q) (slice_cmp nat_cmp v.0 w.0) l)

slice-itself : (cs : List ℕ) → slice_cmp nat_cmp cs cs ≡ slice_cmp nat_cmp [] []
slice-itself [] = refl
slice-itself (c ∷ cs) = ap (λ (x : Ordering). ordering_then x (slice_cmp nat_cmp cs cs)) (tied_itself nat_cmp_total c) ∙ slice-itself cs

side-tied : (d : Side) (p : Ordering) → p ≡ Less → ordering_then (side_cmp d d) p ≡ Less
side-tied d p e =
    ap (λ (x : Ordering). ordering_then (ordering_then x (slice_cmp nat_cmp d.columns d.columns)) p) (tied_itself nat_cmp_total d.rel)
    ∙ ap (λ (x : Ordering). ordering_then x p) (slice-itself d.columns) ∙ e

width-rises : (k : ℕ) (rs : List RowState) → Rises ind_cmp (of_width k rs)
unfolding of_width
width-rises k rs =
    Rises-filter ind_cmp (is_list_inclusion rs) (flat_map (λ d. map (from_to d) (all_lists k rs)) (all_lists k rs))
    (rises-flat side_cmp ind_cmp (λ d. map (from_to d) (all_lists k rs)) (all_lists k rs) (all-rise k rs)
    (λ d h. Rises-map side_cmp ind_cmp (from_to d) (all_lists k rs) (all-rise k rs) (λ a b i j e. then-tied (length d.columns) _ (side-tied d (side_cmp a b) e)))
    (λ d e h g l a b i j.
    let v = Listed-map_which (from_to d) a (all_lists k rs) i in
    let w = Listed-map_which (from_to e) b (all_lists k rs) j in
    let n : length e.columns ≡ length d.columns = (side-of k rs e g).long ∙ sym (side-of k rs d h).long in
    ap₂ ind_cmp v.2 w.2 ∙ ap (λ (m : ℕ). ordering_then (nat_cmp (length d.columns) m) (ordering_then (side_cmp d e) (side_cmp v.0 w.0))) n
    ∙ then-tied (length d.columns) _ (then-first (side_cmp d e) (side_cmp v.0 w.0) l)))

-- ---- members
record Member (k : ℕ) (rs : List RowState) (i : ListInd) : Type 0 where
  pub dependent : Side
  pub referenced : Side
  pub dep_is : IsSide rs k dependent
  pub into_is : IsSide rs k referenced
  pub same : i ≡ from_to dependent referenced
  pub holds : is_list_inclusion rs i ≡ true

member : (k : ℕ) (rs : List RowState) (i : ListInd) → Listed i (of_width k rs) → Member k rs i
unfolding of_width
member k rs i h =
    let w = Listed-filter_parts (is_list_inclusion rs) i (flat_map (λ d. map (from_to d) (all_lists k rs)) (all_lists k rs)) h in
    let v = Listed-flat_map_which (λ (d : Side). map (from_to d) (all_lists k rs)) i (all_lists k rs) w.0 in
    let u = Listed-map_which (from_to v.0) i (all_lists k rs) v.2 in
    record { dependent = v.0; referenced = u.0; dep_is = side-of k rs v.0 v.1; into_is = side-of k rs u.0 u.1; same = u.2; holds = w.1 }

member-long : (k : ℕ) (rs : List RowState) (i : ListInd) → Member k rs i → length i.dep_cols ≡ k
member-long k rs i m = ap (λ (j : ListInd). length j.dep_cols) m.same ∙ m.dep_is.long

-- the other way
lists-have : (k n : ℕ) (cs : List ℕ) → length cs ≡ k → ((c : ℕ) → Listed c cs → c < n) → Listed cs (column_lists k n)
unfolding column_lists
lists-have zero n [] long f = inl refl
lists-have zero n (c ∷ cs) long f = absurd (omega arith)
lists-have (suc k) n [] long f = absurd (omega arith)
lists-have (suc k) n (c ∷ cs) long f =
    Listed-flat_map (λ (d : ℕ). map (λ ds. d ∷ ds) (column_lists k n)) c (c ∷ cs) (upto n) (Listed-upto n c (f c (inl refl)))
    (Listed-map (λ (ds : List ℕ). c ∷ ds) cs (column_lists k n) (lists-have k n cs (omega arith) (λ d h. f d (inr h))))

side-listed : (k : ℕ) (rs : List RowState) (s : Side) → IsSide rs k s → Listed s (all_lists k rs)
unfolding all_lists
side-listed k rs s is =
    Listed-flat_map (λ (p : ℕ). map (λ cs. record { rel = p; columns = cs }) (column_lists k (width_at rs p))) s.rel s (upto (length rs)) (Listed-upto (length rs) s.rel is.rel)
    (Listed-map (λ (cs : List ℕ). record { rel = s.rel; columns = cs }) s.columns (column_lists k (width_at rs s.rel)) (lists-have k (width_at rs s.rel) s.columns is.long is.within))

listed-from : (k : ℕ) (rs : List RowState) (d i : Side) → IsSide rs k d → IsSide rs k i → is_list_inclusion rs (from_to d i) ≡ true → Listed (from_to d i) (of_width k rs)
unfolding of_width
listed-from k rs d i sd si e =
    Listed-filter (is_list_inclusion rs) (from_to d i) (flat_map (λ d. map (from_to d) (all_lists k rs)) (all_lists k rs))
    (Listed-flat_map (λ (d : Side). map (from_to d) (all_lists k rs)) d (from_to d i) (all_lists k rs) (side-listed k rs d sd) (Listed-map (from_to d) i (all_lists k rs) (side-listed k rs i si))) e

-- ---- the tests as facts
ascending-increasing : (cs : List ℕ) → is_ascending cs ≡ true → IsStrictlyIncreasing cs
ascending-increasing [] e k l = absurd (omega arith)
ascending-increasing (c ∷ []) e k l = absurd (omega arith)
ascending-increasing (c ∷ d ∷ cs) e zero l = ltb-true c d (list_all_at (ltb c) d (d ∷ cs) (and_parts (list_all (ltb c) (d ∷ cs)) (is_ascending (d ∷ cs)) e).0 (inl refl))
ascending-increasing (c ∷ d ∷ cs) e (suc k) l =
    let f : suc k + 1 ≡ suc (k + 1) = omega arith in
    subst (λ (j : ℕ). get_or (d ∷ cs) k 0 < get_or (c ∷ d ∷ cs) j 0) (sym f)
    (ascending-increasing (d ∷ cs) (and_parts (list_all (ltb c) (d ∷ cs)) (is_ascending (d ∷ cs)) e).1 k (omega arith))

different-pairs : (cs : List ℕ) → are_different cs ≡ true → AllPairs (λ c d. c ≢ d) cs
different-pairs [] e i j d l h = absurd (omega arith)
different-pairs (c ∷ cs) e zero zero d l h = absurd (omega arith)
different-pairs (c ∷ cs) e zero (suc j) d l h =
    eqb-false c (get_or cs j d) (not-true _ (list_all_at (λ d. not (eqb c d)) (get_or cs j d) cs (and_parts (list_all (λ d. not (eqb c d)) cs) (are_different cs) e).0 (Listed-get_or cs j d (omega arith))))
different-pairs (c ∷ cs) e (suc i) zero d l h = absurd (omega arith)
different-pairs (c ∷ cs) e (suc i) (suc j) d l h = different-pairs cs (and_parts (list_all (λ d. not (eqb c d)) cs) (are_different cs) e).1 i j d (omega arith) (omega arith)

increasing-ascending : (cs : List ℕ) → Climbs cs → is_ascending cs ≡ true
increasing-ascending [] c = refl
increasing-ascending (x ∷ cs) c = and_from _ _ (list_all_from (ltb x) cs (λ y h. lt-ltb x y (c.0 y h))) (increasing-ascending cs c.1)

pairs-different : (cs : List ℕ) → AllPairs (λ c d. c ≢ d) cs → are_different cs ≡ true
pairs-different [] all = refl
pairs-different (c ∷ cs) all =
    and_from _ _
    (list_all_from (λ d. not (eqb c d)) cs (λ d h.
    let w = Contains-listed d cs h in
    let l = w.1 in
    ap not (ne_eqb c d (λ e. all zero (suc w.0) d (omega arith) (omega arith) (e ∙ sym w.2)))))
    (pairs-different cs (λ i j d l h. all (suc i) (suc j) d (omega arith) (omega arith)))

places-differ : (cs ds : List ℕ) → ((k : ℕ) → k < length cs → get_or cs k 0 ≡ get_or ds k 0 → ⊥) → differ_by_place cs ds ≡ true
places-differ [] ds f = refl
places-differ (c ∷ cs) [] f = refl
places-differ (c ∷ cs) (d ∷ ds) f = and_from _ _ (ap not (ne_eqb c d (f 0 (omega arith)))) (places-differ cs ds (λ k l. f (suc k) (omega arith)))

nulls-at : (t : Row) → is_null t ≡ true → (k : ℕ) → k < length t → get_or t k [] ≡ []
nulls-at t e k l = same_cell-true (get_or t k []) [] (list_all_at (λ a. same_cell a []) (get_or t k []) t e (Listed-get_or t k [] l))

at-nulls : (t : Row) → ((k : ℕ) → k < length t → get_or t k [] ≡ []) → is_null t ≡ true
at-nulls [] f = refl
at-nulls (a ∷ t) f = and_from _ _ (true-same_cell a [] (f 0 (omega arith))) (at-nulls t (λ k l. f (suc k) (omega arith)))

all_listed : (P : ℕ → Type 0) (xs : List ℕ) → ((x : ℕ) → Listed x xs → P x) → All P xs
all_listed P [] f = All-nil P
all_listed P (x ∷ xs) f = All-cons P x xs (f x (inl refl)) (all_listed P xs (λ y h. f y (inr h)))

module _ (rs : List RowState) where
  is-inclusion : (k : ℕ) (d e : Side) → IsSide rs k d → IsSide rs k e → is_list_inclusion rs (from_to d e) ≡ true → IsListInclusion rs (from_to d e)
  is-inclusion k d e sd se h =
      let w = and_parts (is_formed (from_to d e)) (holds_among rs (from_to d e)) h in
      let f = formed-parts (from_to d e) w.0 in
      record {
        dependent = sd.rel;
        referenced = se.rel;
        long = se.long ∙ sym sd.long;
        dep_within = all_listed (λ c. c < width_at rs d.rel) d.columns sd.within;
        into_within = all_listed (λ c. c < width_at rs e.rel) e.columns se.within;
        ascending = ascending-increasing d.columns f.ascending;
        different = different-pairs e.columns f.different;
        apart = λ same n l. apart same n l (or_cases (not (eqb d.rel e.rel)) (differ_by_place d.columns e.columns) f.apart);
        each = λ t g. each t (among-each (tuples_at rs d.rel d.columns) (tuples_at rs e.rel e.columns) w.1 t (Listed-contained t _ g));
      }
    where
      apart : d.rel ≡ e.rel → (n : ℕ) → n < length d.columns → (not (eqb d.rel e.rel) ≡ true) ⊎ (differ_by_place d.columns e.columns ≡ true) → get_or d.columns n 0 ≢ get_or e.columns n 0
      apart same n l (inl o) = absurd (eqb-false d.rel e.rel (not-true _ o) same)
      apart same n l (inr o) = let ld = sd.long in let le = se.long in eqb-false _ _ (not-true _ (differ-at d.columns e.columns n l (omega arith) o))

      each : (t : Row) → (is_null t ≡ true) ⊎ Listed t (tuples_at rs e.rel e.columns) → ((k : ℕ) → k < length t → get_or t k [] ≡ []) ⊎ Contains (tuples_at rs e.rel e.columns) t
      each t (inl n) = inl (nulls-at t n)
      each t (inr g) = inr (Contains-listed t _ g)

  from-inclusion : (d e : Side) → IsListInclusion rs (from_to d e) → (IsSide rs (length d.columns) d × IsSide rs (length d.columns) e) × (is_list_inclusion rs (from_to d e) ≡ true)
  from-inclusion d e h = (
    (
      record { rel = h.dependent; long = refl; within = λ c g. All-contains (λ c. c < width_at rs d.rel) d.columns c h.dep_within (Contains-listed c d.columns g) },
      record { rel = h.referenced; long = h.long; within = λ c g. All-contains (λ c. c < width_at rs e.rel) e.columns c h.into_within (Contains-listed c e.columns g) },
    ),
    and_from _ _
        (formed-from (from_to d e) (record {
          ascending = increasing-ascending d.columns (Climbs-increasing d.columns h.ascending);
          different = pairs-different e.columns h.different;
          apart = apart (eqb d.rel e.rel) refl;
        }))
        (among-from (tuples_at rs d.rel d.columns) (tuples_at rs e.rel e.columns) (λ t g. each t (h.each t (Contains-listed t _ g)))),
  )
    where
      apart : (b : Bool) → eqb d.rel e.rel ≡ b → (not (eqb d.rel e.rel) || differ_by_place d.columns e.columns) ≡ true
      apart false s = or_left _ _ (ap not s)
      apart true s = or_right (not (eqb d.rel e.rel)) _ (places-differ d.columns e.columns (h.apart (eqb-true d.rel e.rel s)))

      each : (t : Row) → ((k : ℕ) → k < length t → get_or t k [] ≡ []) ⊎ Contains (tuples_at rs e.rel e.columns) t → (is_null t ≡ true) ⊎ Listed t (tuples_at rs e.rel e.columns)
      each t (inl n) = inl (at-nulls t n)
      each t (inr g) = inr (Listed-contained t _ g)

  -- ---- all of it
  there : (w : ℕ) (i : ListInd) → Listed i (list_inclusions w rs) → (0 < length i.dep_cols) × (length i.dep_cols ≤ w) × IsListInclusion rs i
  unfolding list_inclusions
  there w i h =
      let v = Listed-flat_map_which (λ (k : ℕ). of_width (suc k) rs) i (upto w) h in
      let m = member (suc v.0) rs i v.2 in
      let n = member-long (suc v.0) rs i m in
      let l = Listed-upto_within w v.0 v.1 in
      (omega arith, omega arith, subst (IsListInclusion rs) (sym m.same) (is-inclusion (suc v.0) m.dependent m.referenced m.dep_is m.into_is (subst (λ (j : ListInd). is_list_inclusion rs j ≡ true) m.same m.holds)))

  back : (w : ℕ) (i : ListInd) → 0 < length i.dep_cols → length i.dep_cols ≤ w → IsListInclusion rs i → Listed i (list_inclusions w rs)
  unfolding list_inclusions
  back w i some few is =
      let d : Side = record { rel = i.dep_rel; columns = i.dep_cols } in
      let e : Side = record { rel = i.into_rel; columns = i.into_cols } in
      let f = from-inclusion d e is in
      let n : suc (length i.dep_cols - 1) ≡ length i.dep_cols = omega arith in
      Listed-flat_map (λ (k : ℕ). of_width (suc k) rs) (length i.dep_cols - 1) i (upto w) (Listed-upto w (length i.dep_cols - 1) (omega arith))
      (subst (λ (k : ℕ). Listed i (of_width k rs)) (sym n) (listed-from (length i.dep_cols) rs d e f.0.0 f.0.1 f.1))

  rises : (w : ℕ) → Rises ind_cmp (list_inclusions w rs)
  unfolding list_inclusions
  rises w =
      rises-flat (λ k l. nat_cmp (suc k) (suc l)) ind_cmp (λ k. of_width (suc k) rs) (upto w) (sucs-rise w 0) (λ k h. width-rises (suc k) rs) (λ k l h g s a b i j.
      let m = member-long (suc k) rs a (member (suc k) rs a i) in
      let n = member-long (suc l) rs b (member (suc l) rs b j) in
      then-first (nat_cmp (length a.dep_cols) (length b.dep_cols)) _ (ap₂ nat_cmp m n ∙ s))

  pub listed : (w : ℕ) → InclusionsListed w rs
  listed w = record {
    each = λ i. ((λ h. there w i (Listed-contained i _ h)), (λ p. Contains-listed i _ (back w i p.0 p.1 p.2)));
    in_order = AllPairs-rises ind_cmp (list_inclusions w rs) (rises w);
  }
