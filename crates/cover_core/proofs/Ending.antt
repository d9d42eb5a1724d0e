-- Which rows are live after a batch, and what the witnesses that are left leave.
use Rattle.std.proofs.Common.{inl, inr, ◌≡◌, ℕ, ◌+◌, ◌<◌, eqb, Bool, true, false, cond, not, ◌&&◌, ◌||◌, refl, sym, ap, ap₂, ◌∙◌, subst, arith, List, [], ◌∷◌, ◌++◌, Result, Ok, Err}
use Rattle.std.specs.List.{All, filter, list_any}
use Rattle.std.specs.Prelude.{IsPermutation}
use Rattle.std.proofs.lemmas.List.Sorted.{list_any-IsPermutation}
use Rattle.std.proofs.lemmas.Bool.{eq-eqb, ne_eqb, cases_eq}
use Rattle.std.proofs.lemmas.List.{length-append}
use Rattle.col_set.specs.declared.target.Target.{Target}
use Rattle.col_set.specs.Evidence.{least}
use Rattle.col_set.specs.Lists.{Listed, Listed-append_left, Listed-append_right, Listed-append_cases, Listed-filter, Listed-filter_parts, Listed-map, Listed-map_which, filter_same, list_any_at}
use Rattle.col_set.proofs.More.{least_of_same}
use Rattle.col_set.proofs.Places.{Listed-contained}
use Rattle.rel_base.specs.declared.batch.Op.{Op}
use Rattle.rel_base.specs.declared.batch.Op.TheVariants.{Insert, Delete, Update}
use Rattle.rel_base.specs.declared.why.Why.{Why}
use Rattle.rel_base.specs.declared.why.Why.TheVariants.{Rows, Missing}
use Rattle.rel_base.specs.Cells.{Row}
use Rattle.rel_base.specs.RowState.{RowState, IsRowState, next}
use Rattle.rel_base.specs.Batches.{is_live, is_full, inserted, deleted, applied, go_on, after_from}
use Rattle.rel_base.proofs.States.{All-listed, live_numbered}
use Rattle.rel_base.proofs.Results.{same_Ok, refused_or, passed_or}
use Rattle.negative_cover.specs.declared.negative_cover.Witness.{Witness}
use Rattle.cover_steps.specs.Core.{standing}
use Rattle.negative_cover.specs.Witnesses.{sets_of, has_dead, live_of}
use Rattle.cover_steps.specs.Sound.{IsWitness}
use Rattle.negative_cover.specs.EndedRows.{ended}

-- whether a row is one of these
abbrev pub is_among : List ℕ → ℕ → Bool
is_among rows row = list_any (λ d. eqb d row) rows

-- ---- live rows
is_live-inserted : (r : RowState) (new : Row) (i : ℕ) → i < next r → is_live (inserted r new) i ≡ is_live r i
is_live-inserted r new i l = by r.live
  where
    last : (eqb i (next r) || false) ≡ false
    last = ap (λ (b : Bool). b || false) (ne_eqb i (next r) (λ e. absurd (omega arith)))

    by : (xs : List ℕ) → list_any (eqb i) (xs ++ next r ∷ []) ≡ list_any (eqb i) xs
    by [] = last
    by (x ∷ xs) = ap (λ (b : Bool). eqb i x || b) (by xs)

is_live-deleted : (r : RowState) (n i : ℕ) → is_live (deleted r n) i ≡ (is_live r i && not (eqb n i))
is_live-deleted r n i = by r.live
  where
    at : (x : ℕ) (c : Bool) (rest : Bool) → eqb n x ≡ c → list_any (eqb i) (cond (not c) (x ∷ []) []) ≡ (eqb i x && not (eqb n i))
    at x true rest e = elim (cases_eq i x) as (λ _. false ≡ (eqb i x && not (eqb n i))) [
      | inl s ↦ ap₂ (λ (a b : Bool). a && not b) (sym (eq-eqb i x s)) (sym (ap (eqb n) s ∙ e))
      | inr ne ↦ ap (λ (a : Bool). a && not (eqb n i)) (sym (ne_eqb i x ne))
    ]
    at x false rest e = elim (cases_eq i x) as (λ _. (eqb i x || false) ≡ (eqb i x && not (eqb n i))) [
      | inl s ↦ ap (λ (a : Bool). a || false) (eq-eqb i x s) ∙ ap₂ (λ (a b : Bool). a && not b) (sym (eq-eqb i x s)) (sym (ap (eqb n) s ∙ e))
      | inr ne ↦ ap (λ (a : Bool). a || false) (ne_eqb i x ne) ∙ ap (λ (a : Bool). a && not (eqb n i)) (sym (ne_eqb i x ne))
    ]

    join : (a b c : Bool) → ((a && c) || (b && c)) ≡ ((a || b) && c)
    join true true true = refl
    join true true false = refl
    join true false true = refl
    join true false false = refl
    join false b c = refl

    kept : (x : ℕ) (xs : List ℕ) (c : Bool) → list_any (eqb i) (cond (not c) (x ∷ filter (λ j. not (eqb n j)) xs) (filter (λ j. not (eqb n j)) xs)) ≡ (list_any (eqb i) (cond (not c) (x ∷ []) []) || list_any (eqb i) (filter (λ j. not (eqb n j)) xs))
    kept x xs true = refl
    kept x xs false = assoc (eqb i x) (list_any (eqb i) (filter (λ j. not (eqb n j)) xs))
      where
        assoc : (a b : Bool) → (a || b) ≡ ((a || false) || b)
        assoc true b = refl
        assoc false b = refl

    by : (xs : List ℕ) → list_any (eqb i) (filter (λ j. not (eqb n j)) xs) ≡ (list_any (eqb i) xs && not (eqb n i))
    by [] = refl
    by (x ∷ xs) = kept x xs (eqb n x) ∙ ap₂ (λ (a b : Bool). a || b) (at x (eqb n x) true refl) (by xs) ∙ join (eqb i x) (list_any (eqb i) xs) (not (eqb n i))

-- one operation ends the row that it deletes or updates, of those that there were
is_live-applied : (r s : RowState) (op : Op) (i : ℕ) → i < next r → applied r op ≡ Ok s → (is_live s i ≡ (is_live r i && not (is_among (ended (op ∷ [])) i))) × (i < next s)
is_live-applied r s (Insert new) i l e =
    let m : inserted r new ≡ s = (refused_or (is_full r) Rows (inserted r new) s e).1 in
    subst (λ (s : RowState). (is_live s i ≡ (is_live r i && not (is_among [] i))) × (i < next s)) m
    (is_live-inserted r new i l ∙ and_true (is_live r i), (let k = length-append r.given (new ∷ []) in omega arith))
  where
    and_true : (a : Bool) → a ≡ (a && true)
    and_true true = refl
    and_true false = refl
is_live-applied r s (Delete n) i l e =
    let m : deleted r n ≡ s = same_Ok (passed_or (is_live r n) Missing (Ok (deleted r n)) s e).1 in
    subst (λ (s : RowState). (is_live s i ≡ (is_live r i && not (is_among (n ∷ []) i))) × (i < next s)) m
    (is_live-deleted r n i ∙ ap (λ (b : Bool). is_live r i && not b) (or_false (eqb n i)), l)
  where
    or_false : (a : Bool) → a ≡ (a || false)
    or_false true = refl
    or_false false = refl
is_live-applied r s (Update n new) i l e =
    let v = (passed_or (is_live r n) Missing (cond (is_full r) (Err Rows) (Ok (inserted (deleted r n) new))) s e).1 in
    let m : inserted (deleted r n) new ≡ s = (refused_or (is_full r) Rows (inserted (deleted r n) new) s v).1 in
    subst (λ (s : RowState). (is_live s i ≡ (is_live r i && not (is_among (n ∷ []) i))) × (i < next s)) m
    (is_live-inserted (deleted r n) new i l ∙ is_live-deleted r n i ∙ ap (λ (b : Bool). is_live r i && not b) (or_false (eqb n i)), (let k = length-append r.given (new ∷ []) in omega arith))
  where
    or_false : (a : Bool) → a ≡ (a || false)
    or_false true = refl
    or_false false = refl

is_among-ended : (op : Op) (ops : List Op) (i : ℕ) → is_among (ended (op ∷ ops)) i ≡ (is_among (ended (op ∷ [])) i || is_among (ended ops) i)
is_among-ended (Insert new) ops i = refl
is_among-ended (Delete n) ops i = by (eqb n i) (is_among (ended ops) i)
  where
    by : (a b : Bool) → (a || b) ≡ ((a || false) || b)
    by true b = refl
    by false b = refl
is_among-ended (Update n new) ops i = by (eqb n i) (is_among (ended ops) i)
  where
    by : (a b : Bool) → (a || b) ≡ ((a || false) || b)
    by true b = refl
    by false b = refl

-- Of the rows that there were, a batch leaves those live that were live, and that it does not end.
pub is_live-after : (k : ℕ) (r s : RowState) (ops : List Op) (i : ℕ) → i < next r → after_from k r ops ≡ Ok s → is_live s i ≡ (is_live r i && not (is_among (ended ops) i))
is_live-after k r s [] i l e = ap (λ (m : RowState). is_live m i) (sym (same_Ok e)) ∙ and_true (is_live r i)
  where
    and_true : (a : Bool) → a ≡ (a && true)
    and_true true = refl
    and_true false = refl
is_live-after k r s (op ∷ ops) i l e = by (applied r op) refl e (λ m l g. is_live-after (k + 1) m s ops i l g)
  where
    both : (a b c : Bool) → ((a && not b) && not c) ≡ (a && not (b || c))
    both true true c = refl
    both true false c = refl
    both false b c = refl

    by : (a : Result RowState Why) → applied r op ≡ a → go_on a k (λ m. after_from (k + 1) m ops) ≡ Ok s
        → ((m : RowState) → i < next m → after_from (k + 1) m ops ≡ Ok s → is_live s i ≡ (is_live m i && not (is_among (ended ops) i)))
        → is_live s i ≡ (is_live r i && not (is_among (ended (op ∷ ops)) i))
    by (Ok m) j g rest =
        let w = is_live-applied r m op i l j in
        rest m w.1 g ∙ ap (λ (b : Bool). b && not (is_among (ended ops) i)) w.0 ∙ both (is_live r i) (is_among (ended (op ∷ [])) i) (is_among (ended ops) i) ∙ ap (λ (b : Bool). is_live r i && not b) (sym (is_among-ended op ops i))
    by (Err why) j g rest = absurd (cc)

-- ---- witnesses
-- those without a dead row are those whose rows are both live afterwards
pub standing-live_of : (r s : RowState) (ops : List Op) (k : ℕ) (ws : List Witness) → IsRowState r → after_from k r ops ≡ Ok s → All (IsWitness r) ws
    → filter (λ w. not (is_among (ended ops) w.i || is_among (ended ops) w.j)) ws ≡ standing s ws
standing-live_of r s ops k ws is e all = filter_same (λ w. not (is_among (ended ops) w.i || is_among (ended ops) w.j)) (λ w. is_live s w.i && is_live s w.j) ws (λ w h. each w (All-listed (IsWitness r) w ws all h))
  where
    live : (i : ℕ) → Listed i r.live → is_live s i ≡ not (is_among (ended ops) i)
    live i h = is_live-after k r s ops i (live_numbered r i is h) e ∙ ap (λ (b : Bool). b && not (is_among (ended ops) i)) (list_any_at (eqb i) i r.live h (eq-eqb i i refl))

    neither : (a b : Bool) → not (a || b) ≡ (not a && not b)
    neither true b = refl
    neither false b = refl

    each : (w : Witness) → IsWitness r w → not (is_among (ended ops) w.i || is_among (ended ops) w.j) ≡ (is_live s w.i && is_live s w.j)
    each w is = neither (is_among (ended ops) w.i) (is_among (ended ops) w.j) ∙ ap₂ (λ (a b : Bool). a && b) (sym (live w.i (Listed-contained w.i r.live is.first))) (sym (live w.j (Listed-contained w.j r.live is.second)))

-- the sets of those that a test leaves, and of the others, are together those of all
pub least-parted : (n : ℕ) (t : Target) (p : Witness → Bool) (ws : List Witness) → least n (sets_of ws) t ≡ least n (sets_of (filter (λ w. not (p w)) ws) ++ sets_of (filter p ws)) t
least-parted n t p ws = least_of_same n (sets_of ws) (sets_of (filter (λ w. not (p w)) ws) ++ sets_of (filter p ws)) t there back
  where
    there : (z : ℕ) → Listed z (sets_of ws) → Listed z (sets_of (filter (λ w. not (p w)) ws) ++ sets_of (filter p ws))
    there z h = let w = Listed-map_which (λ (w : Witness). w.agree) z ws h in by w.0 w.1 w.2 (p w.0) refl
      where
        by : (w : Witness) → Listed w ws → z ≡ w.agree → (b : Bool) → p w ≡ b → Listed z (sets_of (filter (λ w. not (p w)) ws) ++ sets_of (filter p ws))
        by w g e true i = Listed-append_right z (sets_of (filter (λ w. not (p w)) ws)) (sets_of (filter p ws)) (subst (λ (z : ℕ). Listed z (sets_of (filter p ws))) (sym e) (Listed-map (λ (w : Witness). w.agree) w (filter p ws) (Listed-filter p w ws g i)))
        by w g e false i = Listed-append_left z (sets_of (filter (λ w. not (p w)) ws)) (sets_of (filter p ws)) (subst (λ (z : ℕ). Listed z (sets_of (filter (λ w. not (p w)) ws))) (sym e) (Listed-map (λ (w : Witness). w.agree) w (filter (λ w. not (p w)) ws) (Listed-filter (λ w. not (p w)) w ws g (ap not i))))

    of_part : (q : Witness → Bool) (z : ℕ) → Listed z (sets_of (filter q ws)) → Listed z (sets_of ws)
    of_part q z h =
        let w = Listed-map_which (λ (w : Witness). w.agree) z (filter q ws) h in
        subst (λ (z : ℕ). Listed z (sets_of ws)) (sym w.2) (Listed-map (λ (w : Witness). w.agree) w.0 ws (Listed-filter_parts q w.0 ws w.1).0)

    back : (z : ℕ) → Listed z (sets_of (filter (λ w. not (p w)) ws) ++ sets_of (filter p ws)) → Listed z (sets_of ws)
    back z h = elim (Listed-append_cases z (sets_of (filter (λ w. not (p w)) ws)) (sets_of (filter p ws)) h) as (λ _. Listed z (sets_of ws)) [
      | inl g ↦ of_part (λ w. not (p w)) z g
      | inr g ↦ of_part p z g
    ]

-- ---- rows that end in another order
has_dead-permuted : (xs ys : List ℕ) (w : Witness) → IsPermutation xs ys → has_dead ys w ≡ has_dead xs w
has_dead-permuted xs ys w p = ap₂ (λ (a b : Bool). a || b) (sym (list_any-IsPermutation (λ d. eqb d w.i) xs ys p)) (sym (list_any-IsPermutation (λ d. eqb d w.j) xs ys p))

-- the witnesses that stay, and those that go, are the same in whatever order the rows that end are listed
pub live_of-permuted : (xs ys : List ℕ) (ws : List Witness) → IsPermutation xs ys → live_of ys ws ≡ live_of xs ws
live_of-permuted xs ys ws p = filter_same (λ w. not (has_dead ys w)) (λ w. not (has_dead xs w)) ws (λ w l. ap not (has_dead-permuted xs ys w p))
