-- One more column, one more candidate, and the keys of a set in order.
use Rattle.std.proofs.Common.{inl, inr, ◌≡◌, ℕ, zero, suc, ◌+◌, ◌^◌, ◌<◌, ◌≤◌, Bool, true, false, cond, not, ◌&&◌, ◌||◌, eqb, refl, sym, ap, ◌∙◌, subst, arith, List, [], ◌∷◌, ◌++◌, length, get_or, take, map, if◌then◌else◌, Ordering, Less, append_assoc, add-zero, zero-add, append-nil, Result, Ok, Err, Vec, Global}
use Rattle.std.specs.List.{filter, list_any, flat_map, range_with_len, All, AllByRecursion}
use Rattle.std.specs.List.Sorted.{IsStrictlySortedBy}
use Rattle.std.specs.Ordering.{is_eq}
use Rattle.std.specs.Prelude.{IfOk}
use Rattle.std.specs.BTreeSet.{BTreeSet, contains, IsOrdered}
use Rattle.std.proofs.lemmas.List.{take_more, map-append}
use Rattle.std.proofs.lemmas.List.Concat.{flat_map-append}
use Rattle.std.proofs.lemmas.List.Elements.{filter-append}
use Rattle.std.proofs.lemmas.List.Folds.{list_any_more}
use Rattle.std.proofs.lemmas.Bool.{and_parts, and_from, eqb-true, eq-eqb}
use Rattle.std.proofs.Math.Nat.{suc-add}
use Rattle.col_set.specs.declared.target.Target.{Target}
use Rattle.col_set.specs.ColSet.{has, with, subset, upto, all_sets, report_cmp}
use Rattle.col_set.specs.Target.{has_target, is_target}
use Rattle.col_set.specs.Minimal.{proper_subset}
use Rattle.col_set.specs.Evidence.{least, extensions, replaced, minimal_of}
use Rattle.col_set.specs.Lists.{Listed, Rises, Rises-filter, Listed-filter, Listed-filter_parts, list_any_at, list_any_which}
use Rattle.col_set.specs.AllSets.{Listed-all_sets, Rises-all_sets, report_total, report_matches_eq}
use Rattle.col_set.proofs.Specialise.{least-push, least-push_known, each_stands}
use Rattle.col_set.proofs.Places.{same_rising, Listed-get_or}

upto_more : (n a : ℕ) → range_with_len a (n + 1) ≡ range_with_len a n ++ (a + n) ∷ []
upto_more zero a = ap (λ (i : ℕ). i ∷ []) (sym (add-zero a))
upto_more (suc n) a = ap (range_with_len a) (suc-add n 1) ∙ ap (λ is. a ∷ is) (upto_more n (a + 1)) ∙ ap (λ (i : ℕ). (a ∷ range_with_len (a + 1) n) ++ i ∷ []) (let e : a + 1 + n ≡ a + suc n = omega arith in e)

pub extensions_zero : (t : Target) (z x : ℕ) → extensions 0 t z x ≡ []
unfolding extensions
extensions_zero t z x = refl

pub extensions_more : (n : ℕ) (t : Target) (z x : ℕ) → extensions (n + 1) t z x ≡ extensions n t z x ++ (if not (has z n) && not (is_target n t) then with x n ∷ [] else [])
unfolding extensions
extensions_more n t z x =
    ap (λ ks. map (with x) (filter (λ k. not (has z k) && not (is_target k t)) ks)) (upto_more n 0 ∙ ap (λ (i : ℕ). upto n ++ i ∷ []) (zero-add n))
    ∙ ap (map (with x)) (filter-append (λ k. not (has z k) && not (is_target k t)) (upto n) (n ∷ []))
    ∙ map-append (with x) (filter (λ k. not (has z k) && not (is_target k t)) (upto n)) _
    ∙ ap (λ ks. extensions n t z x ++ ks) (by (not (has z n) && not (is_target n t)))
  where
    by : (b : Bool) → map (with x) (cond b (n ∷ []) []) ≡ (if b then with x n ∷ [] else [])
    by true = refl
    by false = refl

pub extensions_push : (n : ℕ) (t : Target) (z x : ℕ) (xs ys : List ℕ) → (not (has z n) && not (is_target n t)) ≡ true → ys ≡ xs ++ extensions n t z x → ys ++ with x n ∷ [] ≡ xs ++ extensions (n + 1) t z x
extensions_push n t z x xs ys e g =
    ap (λ ks. ks ++ with x n ∷ []) g ∙ append_assoc xs _ _
    ∙ ap (λ ks. xs ++ ks) (sym (extensions_more n t z x ∙ ap (λ b. extensions n t z x ++ (if b then with x n ∷ [] else [])) e))

pub extensions_skip : (n : ℕ) (t : Target) (z x : ℕ) (xs ys : List ℕ) → (not (has z n) && not (is_target n t)) ≡ false → ys ≡ xs ++ extensions n t z x → ys ≡ xs ++ extensions (n + 1) t z x
extensions_skip n t z x xs ys e g =
    g ∙ ap (λ ks. xs ++ ks) (sym (extensions_more n t z x ∙ ap (λ b. extensions n t z x ++ (if b then with x n ∷ [] else [])) e ∙ append-nil _))

pub replaced_none : (n : ℕ) (t : Target) (z : ℕ) → replaced n t z [] ≡ []
unfolding replaced
replaced_none n t z = refl

pub replaced_more : (n : ℕ) (t : Target) (z : ℕ) (xs : List ℕ) (i : ℕ) → i < length xs
    → replaced n t z (take (i + 1) xs) ≡ replaced n t z (take i xs) ++ (if subset (get_or xs i 0) z then extensions n t z (get_or xs i 0) else get_or xs i 0 ∷ [])
unfolding replaced
replaced_more n t z xs i h =
    ap (flat_map (λ x. if subset x z then extensions n t z x else x ∷ [])) (take_more xs i 0 h)
    ∙ flat_map-append (λ x. if subset x z then extensions n t z x else x ∷ []) (take i xs) (get_or xs i 0 ∷ [])
    ∙ ap (λ ys. flat_map (λ x. if subset x z then extensions n t z x else x ∷ []) (take i xs) ++ ys) (append-nil _)

-- ---- the keys of a set of column sets, in report order
pub Listed_all : {X : Type 0} (P : X → Type 0) (x : X) (xs : List X) → AllByRecursion P xs → Listed x xs → P x
Listed_all P x [] a h = absurd h
Listed_all P x (y ∷ xs) a (inl e) = subst P (sym e) a.0
Listed_all P x (y ∷ xs) a (inr h) = Listed_all P x xs a.1 h

pub Rises_strict : {X : Type 0} (R : X → X → Ordering) (xs : List X) → IsStrictlySortedBy R xs → Rises R xs
unfolding IsStrictlySortedBy
Rises_strict R [] s = tt
Rises_strict R (x ∷ xs) s = ((λ y h. Listed_all (λ y. R x y ≡ Less) y xs s.0 h), Rises_strict R xs s.1)

-- whether a set has no proper subset among the sets
abbrev pub lone : List ℕ → ℕ → Bool
lone xs y = not (list_any (λ v. proper_subset v y) xs)

pub kept_more : (xs : List ℕ) (i : ℕ) (q : ℕ) → i < length xs
    → list_any (λ y. eqb y q && lone xs y) (take (i + 1) xs) ≡ (list_any (λ y. eqb y q && lone xs y) (take i xs) || (eqb (get_or xs i 0) q && lone xs (get_or xs i 0)))
kept_more xs i q h = list_any_more (λ y. eqb y q && lone xs y) xs i 0 h

contains_listed : (s : BTreeSet ℕ) (q : ℕ) → Listed q s.keys → contains report_cmp s q ≡ true
contains_listed s q h = list_any_at (λ k. is_eq (report_cmp q k)) q s.keys h (sym (report_matches_eq q q) ∙ eq-eqb q q refl)

listed_contained : (s : BTreeSet ℕ) (q : ℕ) → contains report_cmp s q ≡ true → Listed q s.keys
listed_contained s q e = let w = list_any_which (λ k. is_eq (report_cmp q k)) s.keys e in
    subst (λ (z : ℕ). Listed z s.keys) (sym (eqb-true q w.0 (report_matches_eq q w.0 ∙ w.2))) w.1

pub keys_are_minimal : (s : BTreeSet ℕ) (xs : List ℕ) (n : ℕ) → IsOrdered report_cmp s
    → ((q : ℕ) → contains report_cmp s q ≡ list_any (λ y. eqb y q && lone xs y) xs)
    → All (λ x. x < 2 ^ n) xs → s.keys ≡ minimal_of n xs
unfolding minimal_of
keys_are_minimal s xs n o has below = same_rising report_total s.keys _ (Rises_strict report_cmp s.keys o) (Rises-filter report_cmp _ (all_sets n) (Rises-all_sets n))
    (λ x h. let w = list_any_which (λ y. eqb y x && lone xs y) xs (sym (has x) ∙ contains_listed s x h) in
    let q = and_parts (eqb w.0 x) (lone xs w.0) w.2 in
    Listed-filter _ x (all_sets n) (Listed-all_sets n x (subst (λ (z : ℕ). z < 2 ^ n) (eqb-true _ _ q.0) (within w.0 w.1)))
    (and_from _ _ (list_any_at (λ y. eqb y x) w.0 xs w.1 q.0) (ap (lone xs) (sym (eqb-true _ _ q.0)) ∙ q.1)))
    (λ x h. let w = Listed-filter_parts (λ x. list_any (λ y. eqb y x) xs && not (list_any (λ y. proper_subset y x) xs)) x (all_sets n) h in
    let q = and_parts (list_any (λ y. eqb y x) xs) (lone xs x) w.1 in
    let v = list_any_which (λ y. eqb y x) xs q.0 in
    listed_contained s x (has x ∙ list_any_at (λ y. eqb y x && lone xs y) v.0 xs v.1 (and_from _ _ v.2 (ap (lone xs) (eqb-true _ _ v.2) ∙ q.1))))
  where
    at : (ys : List ℕ) → ((k : ℕ) (d : ℕ) → k < length ys → get_or ys k d < 2 ^ n) → (x : ℕ) → Listed x ys → x < 2 ^ n
    at [] b x h = absurd h
    at (y ∷ ys) b x (inl e) = subst (λ (z : ℕ). z < 2 ^ n) (sym e) (b 0 0 (omega arith))
    at (y ∷ ys) b x (inr h) = at ys (λ k d l. b (suc k) d (omega arith)) x h

    within : (x : ℕ) → Listed x xs → x < 2 ^ n
    within x h = at xs below x h

pub kept_insert : (xs : List ℕ) (i q item : ℕ) → i < length xs → item ≡ get_or xs i item → lone xs item ≡ true
    → (old : Bool) → old ≡ list_any (λ y. eqb y q && lone xs y) (take i xs) → (new : Bool) → new ≡ cond (is_eq (report_cmp item q)) true old
    → new ≡ list_any (λ y. eqb y q && lone xs y) (take (i + 1) xs)
kept_insert xs i q item h is single old e new f =
    f ∙ ap (λ t. cond t true old) (sym (report_matches_eq item q)) ∙ by (eqb item q) old _ (lone xs item) e single
    ∙ ap (λ (y : ℕ). list_any (λ y. eqb y q && lone xs y) (take i xs) || (eqb y q && lone xs y)) is ∙ sym (list_any_more (λ y. eqb y q && lone xs y) xs i item h)
  where
    by : (t old r l : Bool) → old ≡ r → l ≡ true → cond t true old ≡ (r || (t && l))
    by true old true l e g = refl
    by true old false l e g = sym g
    by false old true l e g = e
    by false old false l e g = e

pub kept_skip : (xs : List ℕ) (i q item : ℕ) → i < length xs → item ≡ get_or xs i item → lone xs item ≡ false
    → (old : Bool) → old ≡ list_any (λ y. eqb y q && lone xs y) (take i xs) → old ≡ list_any (λ y. eqb y q && lone xs y) (take (i + 1) xs)
kept_skip xs i q item h is single old e =
    by (eqb item q) old _ (lone xs item) e single
    ∙ ap (λ (y : ℕ). list_any (λ y. eqb y q && lone xs y) (take i xs) || (eqb y q && lone xs y)) is ∙ sym (list_any_more (λ y. eqb y q && lone xs y) xs i item h)
  where
    by : (t old r l : Bool) → old ≡ r → l ≡ false → old ≡ (r || (t && l))
    by true old true l e g = e
    by true old false l e g = e ∙ sym g
    by false old true l e g = e
    by false old false l e g = e

-- the least sets after one more agree set, in what the code made of the candidates
pub specialised : (n : ℕ) (t : Target) (z : ℕ) (candidates sets keys : List ℕ) → has_target z t ≡ false → sets ≡ replaced n t z candidates
    → ((m : ℕ) → All (λ x. x < 2 ^ m) sets → keys ≡ minimal_of m sets) → (ws : List ℕ) → candidates ≡ least n ws t → keys ≡ least n (ws ++ z ∷ []) t
specialised n t z candidates sets keys apart is h ws e =
    let same : sets ≡ replaced n t z (least n ws t) = is ∙ ap (replaced n t z) e in
    h n (λ k d l. (each_stands n ws t z apart (get_or sets k d) (subst (Listed (get_or sets k d)) same (Listed-get_or sets k d l))).below) ∙ ap (minimal_of n) same ∙ sym (least-push n ws t z apart)

-- what is known of the keys is known of the list of them
pub of_keys : {E : Type 0} (Q : List ℕ → Type 0) (keys : List ℕ) (r : Result (Vec ℕ Global) E) → IfOk r (λ v. v.items ≡ keys) → Q keys → IfOk r (λ v. Q v.items)
of_keys Q keys (Ok v) e q = subst Q (sym e) q
of_keys Q keys (Err x) e q = e

-- ---- the least sets of a list of agree sets, from one agree set to the next
pub least_kept : (n : ℕ) (ws : List ℕ) (t : Target) (i z : ℕ) → i < length ws → z ≡ get_or ws i z → has_target z t ≡ true → least n (take (i + 1) ws) t ≡ least n (take i ws) t
least_kept n ws t i z h is e = ap (λ vs. least n vs t) (take_more ws i z h ∙ ap (λ (y : ℕ). take i ws ++ y ∷ []) (sym is)) ∙ least-push_known n (take i ws) t z e

pub least_made : (n : ℕ) (ws : List ℕ) (t : Target) (i z : ℕ) → i < length ws → z ≡ get_or ws i z → (old new : List ℕ) → ((vs : List ℕ) → old ≡ least n vs t → new ≡ least n (vs ++ z ∷ []) t) → old ≡ least n (take i ws) t → new ≡ least n (take (i + 1) ws) t
least_made n ws t i z h is old new f e = f (take i ws) e ∙ sym (ap (λ vs. least n vs t) (take_more ws i z h ∙ ap (λ (y : ℕ). take i ws ++ y ∷ []) (sym is)))

pub take_all : (i : ℕ) (xs : List ℕ) → length xs ≤ i → take i xs ≡ xs
take_all zero [] h = refl
take_all zero (x ∷ xs) h = absurd (omega arith)
take_all (suc i) [] h = refl
take_all (suc i) (x ∷ xs) h = ap (λ ys. x ∷ ys) (take_all i xs (omega arith))
