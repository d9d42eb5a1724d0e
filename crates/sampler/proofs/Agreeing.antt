-- What pairs of rows agree on.
use Rattle.std.proofs.Common.{◌≡◌, ◌<◌, ◌≤◌, ◌+◌, ◌∙◌, ℕ, Bool, true, false, not, eqb, refl, sym, ap, subst, List, [], ◌∷◌, ◌++◌, length, map, take, get_or, cond, append_assoc, append-nil, if◌then◌else◌, Some, None, take_all}
use Rattle.std.specs.List.{filter, All, Contains}
use Rattle.std.proofs.lemmas.Bool.{true≢false, and_parts, eq-eqb, not-true}
use Rattle.std.proofs.lemmas.Option.{none-some, same_Some}
use Rattle.std.proofs.lemmas.List.{map-append}
use Rattle.std.proofs.lemmas.List.Elements.{All-append, All-contains, All-contains_itself, All-push, Contains-append_left, Contains-append_right, filter_more}
use Rattle.col_set.specs.Lists.{Listed, Listed-filter, Listed-map, Listed-map_which, Listed-filter_parts}
use Rattle.col_set.proofs.Places.{Contains-listed, Listed-contained}
use Rattle.rel_base.specs.CodeTable.{CodeTable}
use Rattle.rel_base.specs.RowState.{RowState}
use Rattle.rel_base.specs.Batches.{is_live}
use Rattle.rel_base.proofs.States.{All-listed, All-from}
use Rattle.negative_cover.specs.declared.negative_cover.Witness.{Witness}
use Rattle.cover_steps.specs.Sound.{IsWitness}
use Rattle.cover_steps.proofs.Keeping.{live-Contains}
use Rattle.sampler.specs.Agreeing.{are_two, agreeing, all_agreeing, IsNear}
use Rattle.sampler.specs.Window.{IsPair, AreNeighbours}

is_two : (r : RowState) (p : ℕ × ℕ) → are_two r p ≡ true → IsWitness r (agreeing r p)
is_two r p e =
    let parts = and_parts (not (eqb p.0 p.1)) _ e in
    let live = and_parts (is_live r p.0) (is_live r p.1) parts.1 in
    record {
      first = live-Contains r p.0 live.0;
      second = live-Contains r p.1 live.1;
      different = λ same. true≢false (sym (eq-eqb p.0 p.1 same) ∙ not-true _ parts.0);
      agrees = refl;
    }

-- each is of a pair of different live rows
which : (r : RowState) (pairs : List (ℕ × ℕ)) (w : Witness) → Listed w (all_agreeing r pairs) → (p : ℕ × ℕ) × Listed p pairs × (are_two r p ≡ true) × (w ≡ agreeing r p)
unfolding all_agreeing
which r pairs w h =
    let m = Listed-map_which (agreeing r) w (filter (are_two r) pairs) h in
    let parts = Listed-filter_parts (are_two r) m.0 pairs m.1 in
    (m.0, parts.0, parts.1, m.2)

-- all are witnesses
pub agreeing_witnesses : (r : RowState) (pairs : List (ℕ × ℕ)) → All (IsWitness r) (all_agreeing r pairs)
agreeing_witnesses r pairs = All-from (IsWitness r) (all_agreeing r pairs) (λ w h. let k = which r pairs w h in subst (IsWitness r) (sym k.3) (is_two r k.0 k.2))

-- those of neighbours are near
pub agreeing_near : (r : RowState) (s : CodeTable) (column : ℕ) (pairs : List (ℕ × ℕ)) → column < length s.codes → AreNeighbours s column pairs → All (IsNear r s) (all_agreeing r pairs)
agreeing_near r s column pairs within near = All-from (IsNear r s) (all_agreeing r pairs) (λ w h.
    let k = which r pairs w h in
    subst (IsNear r s) (sym k.3) (record {
      witness = is_two r k.0 k.2;
      column = column;
      within = within;
      pair = All-listed (λ (p : ℕ × ℕ). IsPair s column 1 p.0 p.1) k.0 pairs near k.1;
    }))

-- what is near is a witness
pub near_witnesses : (r : RowState) (s : CodeTable) (ws : List Witness) → All (IsNear r s) ws → All (IsWitness r) ws
near_witnesses r s ws near = All-from (IsWitness r) ws (λ w h. (All-listed (IsNear r s) w ws near h).witness)

-- what a look at one pair answered
pub some_case : (b : Bool) (v w : Witness) → Some w ≡ (if b then Some v else None) → (b ≡ true) × (w ≡ v)
some_case true v w e = (refl, same_Some w v e)
some_case false v w e = absurd (none-some w (sym e))

pub none_case : (b : Bool) (v : Witness) → None ≡ (if b then Some v else None) → b ≡ false
none_case true v e = absurd (none-some v e)
none_case false v e = refl

-- of no pairs
pub agreeing_none : (r : RowState) (old : List Witness) → old ≡ old ++ all_agreeing r []
unfolding all_agreeing
agreeing_none r old = sym (append-nil old)

-- of all pairs
pub agreeing_all : (r : RowState) (pairs : List (ℕ × ℕ)) (i : ℕ) (old found : List Witness) → length pairs ≤ i → found ≡ old ++ all_agreeing r (take i pairs) → found ≡ old ++ all_agreeing r pairs
agreeing_all r pairs i old found l e = e ∙ ap (λ (ps : List (ℕ × ℕ)). old ++ all_agreeing r ps) (take_all i pairs l)

-- one pair more
pub agreeing_next : (r : RowState) (pairs : List (ℕ × ℕ)) (i : ℕ) (p : ℕ × ℕ) (b : Bool) → i < length pairs → p ≡ get_or pairs i p → are_two r p ≡ b
    → all_agreeing r (take (i + 1) pairs) ≡ all_agreeing r (take i pairs) ++ cond b (agreeing r p ∷ []) []
unfolding all_agreeing
agreeing_next r pairs i p b l is e =
    ap (map (agreeing r)) (filter_more (are_two r) pairs i p l ∙ ap (λ (q : ℕ × ℕ). filter (are_two r) (take i pairs) ++ cond (are_two r q) (q ∷ []) []) (sym is) ∙ ap (λ c. filter (are_two r) (take i pairs) ++ cond c (p ∷ []) []) e)
    ∙ by b
  where
    by : (c : Bool) → map (agreeing r) (filter (are_two r) (take i pairs) ++ cond c (p ∷ []) []) ≡ map (agreeing r) (filter (are_two r) (take i pairs)) ++ cond c (agreeing r p ∷ []) []
    by true = map-append (agreeing r) (filter (are_two r) (take i pairs)) (p ∷ [])
    by false = map-append (agreeing r) (filter (are_two r) (take i pairs)) []

-- witnesses beside others
pub witnesses_with : (r : RowState) (pairs : List (ℕ × ℕ)) (old new : List Witness) → new ≡ old ++ all_agreeing r pairs → All (IsWitness r) old → All (IsWitness r) new
witnesses_with r pairs old new e h = subst (All (IsWitness r)) (sym e) (All-append (IsWitness r) old (all_agreeing r pairs) h (agreeing_witnesses r pairs))

module _ (r : RowState) (pairs : List (ℕ × ℕ)) (i : ℕ) (p : ℕ × ℕ) (old found : List Witness) (l : i < length pairs) (is : p ≡ get_or pairs i p) (so_far : found ≡ old ++ all_agreeing r (take i pairs)) where
  pub agreeing_more : are_two r p ≡ true → found ++ agreeing r p ∷ [] ≡ old ++ all_agreeing r (take (i + 1) pairs)
  agreeing_more e = ap (λ (ws : List Witness). ws ++ agreeing r p ∷ []) so_far ∙ append_assoc old (all_agreeing r (take i pairs)) (agreeing r p ∷ []) ∙ ap (λ (ws : List Witness). old ++ ws) (sym (agreeing_next r pairs i p true l is e))

  pub agreeing_same : are_two r p ≡ false → found ≡ old ++ all_agreeing r (take (i + 1) pairs)
  agreeing_same e = so_far ∙ ap (λ (ws : List Witness). old ++ ws) (sym (agreeing_next r pairs i p false l is e ∙ append-nil _))

-- ---- what is among all that pairs tell
pub among_old : (r : RowState) (pairs : List (ℕ × ℕ)) (old : List Witness) → All (Contains (old ++ all_agreeing r pairs)) old
among_old r pairs old = λ k d l. Contains-append_left old (all_agreeing r pairs) (get_or old k d) (All-contains_itself old k d l)

-- what a pair of different live rows tells is one of them
pub among_told : (r : RowState) (pairs : List (ℕ × ℕ)) (i : ℕ) (p : ℕ × ℕ) (w : Witness) (old found new : List Witness) → i < length pairs → p ≡ get_or pairs i p → are_two r p ≡ true → w ≡ agreeing r p
    → new ≡ found ++ w ∷ [] → All (Contains (old ++ all_agreeing r pairs)) found → All (Contains (old ++ all_agreeing r pairs)) new
unfolding all_agreeing
among_told r pairs i p w old found new l is two told made among =
    subst (All (Contains (old ++ all_agreeing r pairs))) (sym made)
    (All-push (Contains (old ++ all_agreeing r pairs)) found w among
    (subst (Contains (old ++ all_agreeing r pairs)) (sym told)
    (Contains-append_right old (all_agreeing r pairs) (agreeing r p)
    (Contains-listed (agreeing r p) (all_agreeing r pairs) (Listed-map (agreeing r) p (filter (are_two r) pairs) (Listed-filter (are_two r) p pairs (Listed-contained p pairs (i, l, sym is)) two))))))

-- what is true of the old ones and of all that pairs tell is true of what is among them
pub all_among : (P : Witness → Type 0) (r : RowState) (pairs : List (ℕ × ℕ)) (old new : List Witness) → All (Contains (old ++ all_agreeing r pairs)) new → All P old → All P (all_agreeing r pairs) → All P new
all_among P r pairs old new among before told = λ k d l.
    All-contains P (old ++ all_agreeing r pairs) (get_or new k d) (All-append P old (all_agreeing r pairs) before told) (among k d l)
