-- Runs of own agree sets, one for each chosen column, and the columns that each has.
use Rattle.std.proofs.Common.{inl, inr, ◌≡◌, ℕ, ◌+◌, ◌-◌, ◌<◌, ◌≤◌, Bool, true, false, not, ◌&&◌, ◌||◌, refl, sym, ap, ap₂, ◌∙◌, subst, List, [], ◌∷◌, ◌++◌, length, map, get_or, take, drop, cond, if◌then◌else◌, arith}
use Rattle.std.proofs.lemmas.Bool.{true≢false, false≢true, and_parts, or_left, cases_Bool}
use Rattle.std.proofs.lemmas.List.{append-nil, append_assoc, take_more, take_all, take_rest, map-append, length-append, length-drop, get_or-drop, get_or_append_left, drop-append-le, take-append-le, drop_at, take_at, take-append-drop}
use Rattle.std.specs.List.{filter}
use Rattle.std.proofs.lemmas.List.Elements.{filter-append}
use Rattle.std.proofs.lemmas.List.Folds.{list_any-append}
use Rattle.col_set.specs.ColSet.{IsSubset, has, minus}
use Rattle.col_set.specs.Members.{has-minus, has-empty}
use Rattle.col_set.specs.Subsets.{IsSubset-refl, IsSubset-trans}
use Rattle.col_set.specs.Lists.{Listed, Listed-append_left, Listed-append_right, Listed-append_cases}
use Rattle.col_set.proofs.Places.{Listed-get_or}
use Rattle.least_sets.proofs.Splitting.{filter_next, new_end}
use Rattle.least_sets.specs.Growth.{having}
use Rattle.least_sets.specs.declared.frames.Run.{Run}
use Rattle.least_sets.specs.Branches.{sees, part, parts, IsWithin, AreWithin, IsEntered}

-- ---- the columns that agree sets have
or_false : (b : Bool) → (b || false) ≡ b
or_false true = refl
or_false false = refl

sees_next : (vs : List ℕ) (i w k : ℕ) → i < length vs → w ≡ get_or vs i w → sees (take (i + 1) vs) k ≡ (sees (take i vs) k || has w k)
sees_next vs i w k l is =
    ap (λ us. sees us k) (take_more vs i w l ∙ ap (λ (v : ℕ). take i vs ++ v ∷ []) (sym is))
    ∙ list_any-append (λ v. has v k) (take i vs) (w ∷ []) ∙ ap (λ b. sees (take i vs) k || b) (or_false (has w k))

-- what is left of the columns are those of them that no agree set has
pub record SeenSoFar (vs : List ℕ) (set left : ℕ) : Type 0 where
  pub each : (k : ℕ) → has left k ≡ (has set k && not (sees vs k))

pub seen_none : (set : ℕ) → SeenSoFar [] set set
seen_none set = record { each = λ k. by (has set k) }
  where
    by : (b : Bool) → b ≡ (b && true)
    by true = refl
    by false = refl

pub seen_more : (vs : List ℕ) (set left i w new : ℕ) → i < length vs → w ≡ get_or vs i w → new ≡ minus left w → SeenSoFar (take i vs) set left → SeenSoFar (take (i + 1) vs) set new
seen_more vs set left i w new l is e s = record {
  each = λ k.
      ap (λ (v : ℕ). has v k) e ∙ has-minus left w k ∙ ap (λ b. b && not (has w k)) (s.each k) ∙ by (has set k) (sees (take i vs) k) (has w k)
      ∙ ap (λ b. has set k && not b) (sym (sees_next vs i w k l is));
}
  where
    by : (a b c : Bool) → ((a && not b) && not c) ≡ (a && not (b || c))
    by true true c = refl
    by true false c = refl
    by false b c = refl

module _ (vs : List ℕ) (set left : ℕ) (s : SeenSoFar vs set left) where
  pub seen_low : IsSubset (minus set left) set
  seen_low = record { each = λ k h. (and_parts (has set k) _ (sym (has-minus set left k) ∙ h)).0 }

  pub seen_yes : (k : ℕ) → has (minus set left) k ≡ true → sees vs k ≡ true
  seen_yes k h = let q = and_parts (has set k) _ (sym (has-minus set left k) ∙ h) in by (has set k) (sees vs k) q.0 (ap not (sym (s.each k)) ∙ q.1)
    where
      by : (a b : Bool) → a ≡ true → not (a && not b) ≡ true → b ≡ true
      by true true e f = refl
      by true false e f = f
      by false b e f = absurd (false≢true e)

  pub seen_no : (k : ℕ) → has set k ≡ true → has (minus set left) k ≡ false → sees vs k ≡ false
  seen_no k h n = by (has set k) (sees vs k) h (ap (λ b. has set k && not b) (sym (s.each k)) ∙ sym (has-minus set left k) ∙ n)
    where
      by : (a b : Bool) → a ≡ true → (a && not (a && not b)) ≡ false → b ≡ false
      by true true e f = f
      by true false e f = refl
      by false b e f = absurd (false≢true e)

-- where none is left, agree sets have been seen that have the columns
seen_when : (vs : List ℕ) (set left : ℕ) → SeenSoFar vs set left → left ≡ 0 → (k : ℕ) → has set k ≡ true → sees vs k ≡ true
seen_when vs set left s e k h = by (has set k) (sees vs k) h (sym (s.each k) ∙ ap (λ (v : ℕ). has v k) e ∙ has-empty k)
  where
    by : (a b : Bool) → a ≡ true → (a && not b) ≡ false → b ≡ true
    by true true f g = refl
    by true false f g = sym g
    by false b f g = absurd (false≢true f)

pub seen_all : (vs : List ℕ) (set left i : ℕ) → SeenSoFar (take i vs) set left → left ≡ 0 → (k : ℕ) → has set k ≡ true → sees vs k ≡ true
seen_all vs set left i s e k h =
    ap (λ us. sees us k) (sym (take-append-drop i vs)) ∙ list_any-append (λ w. has w k) (take i vs) (drop i vs) ∙ or_left _ _ (seen_when (take i vs) set left s e k h)

-- ---- the columns that those of the agree sets have that pass a test
seen_push : (us : List ℕ) (set left w : ℕ) → SeenSoFar us set left → SeenSoFar (us ++ w ∷ []) set (minus left w)
seen_push us set left w s = record {
  each = λ k.
      has-minus left w k ∙ ap (λ b. b && not (has w k)) (s.each k) ∙ by (has set k) (sees us k) (has w k)
      ∙ ap (λ b. has set k && not b) (sym (list_any-append (λ v. has v k) us (w ∷ []) ∙ ap (λ b. sees us k || b) (or_false (has w k))));
}
  where
    by : (a b c : Bool) → ((a && not b) && not c) ≡ (a && not (b || c))
    by true true c = refl
    by true false c = refl
    by false b c = refl

pub seen_where_more : (p : ℕ → Bool) (vs : List ℕ) (set left i w new : ℕ) → i < length vs → w ≡ get_or vs i w → new ≡ (if p w then minus left w else left) → SeenSoFar (filter p (take i vs)) set left → SeenSoFar (filter p (take (i + 1) vs)) set new
seen_where_more p vs set left i w new l is e s = subst (λ (us : List ℕ). SeenSoFar us set new) (sym (filter_next 0 vs i w l is p)) (by (p w) e)
  where
    by : (b : Bool) → new ≡ (if b then minus left w else left) → SeenSoFar (filter p (take i vs) ++ cond b (w ∷ []) []) set new
    by true f = subst (SeenSoFar (filter p (take i vs) ++ w ∷ []) set) (sym f) (seen_push (filter p (take i vs)) set left w s)
    by false f = subst (SeenSoFar (filter p (take i vs) ++ []) set) (sym f) (subst (λ (us : List ℕ). SeenSoFar us set left) (sym (append-nil (filter p (take i vs)))) s)

pub seen_where_all : (p : ℕ → Bool) (vs : List ℕ) (set left i : ℕ) → SeenSoFar (filter p (take i vs)) set left → left ≡ 0 → (k : ℕ) → has set k ≡ true → sees (filter p vs) k ≡ true
seen_where_all p vs set left i s e k h =
    ap (λ us. sees us k) (ap (filter p) (sym (take-append-drop i vs)) ∙ filter-append p (take i vs) (drop i vs)) ∙ list_any-append (λ w. has w k) (filter p (take i vs)) (filter p (drop i vs))
    ∙ or_left _ _ (seen_when (filter p (take i vs)) set left s e k h)

-- What is known while lists of agree sets are gone through: which of the free columns each list has an agree set with.
pub record OwnedSoFar (lists : List (List ℕ)) (free found : ℕ) : Type 0 where
  pub low : IsSubset found free
  pub owned : (k : ℕ) → has found k ≡ true → (vs : List ℕ) → Listed vs lists → sees vs k ≡ true
  pub unowned : (k : ℕ) → has free k ≡ true → has found k ≡ false → (vs : List ℕ) × Listed vs lists × (sees vs k ≡ false)

pub owned_first : (free : ℕ) → OwnedSoFar [] free free
owned_first free = record { low = IsSubset-refl free; owned = λ k h vs g. absurd g; unowned = λ k h n. absurd (true≢false (sym h ∙ n)) }

-- a list more
pub owned_also : (lists : List (List ℕ)) (free found : ℕ) (vs : List ℕ) (new : ℕ) → IsSubset new found → ((k : ℕ) → has new k ≡ true → sees vs k ≡ true)
    → ((k : ℕ) → has found k ≡ true → has new k ≡ false → sees vs k ≡ false) → OwnedSoFar lists free found → OwnedSoFar (lists ++ vs ∷ []) free new
owned_also lists free found vs new low seen unseen o = record {
  low = IsSubset-trans low o.low;
  owned = λ k h us g. elim (Listed-append_cases us lists (vs ∷ []) g) as (λ _. sees us k ≡ true) [
    | inl f ↦ o.owned k (low.each k h) us f
    | inr f ↦ last k h us f
  ];
  unowned = λ k h n. elim (cases_Bool (has found k)) as (λ _. (us : List ℕ) × Listed us (lists ++ vs ∷ []) × (sees us k ≡ false)) [
    | inl f ↦ (vs, Listed-append_right vs lists (vs ∷ []) (inl refl), unseen k f n)
    | inr f ↦ let w = o.unowned k h f in (w.0, Listed-append_left w.0 lists (vs ∷ []) w.1, w.2)
  ];
}
  where
    last : (k : ℕ) → has new k ≡ true → (us : List ℕ) → Listed us (vs ∷ []) → sees us k ≡ true
    last k h us (inl e) = subst (λ (ws : List ℕ). sees ws k ≡ true) (sym e) (seen k h)
    last k h us (inr g) = absurd g

-- the lists of one run more
parts_next : (own : List ℕ) (runs : List Run) (i : ℕ) (d : Run) → i < length runs → parts own (take (i + 1) runs) ≡ parts own (take i runs) ++ part own (get_or runs i d) ∷ []
parts_next own runs i d l = ap (parts own) (take_more runs i d l) ∙ map-append (part own) (take i runs) (get_or runs i d ∷ [])

pub owned_more : (own : List ℕ) (runs : List Run) (free found i : ℕ) (d : Run) (new : ℕ) → i < length runs → IsSubset new found → ((k : ℕ) → has new k ≡ true → sees (part own (get_or runs i d)) k ≡ true)
    → ((k : ℕ) → has found k ≡ true → has new k ≡ false → sees (part own (get_or runs i d)) k ≡ false) → OwnedSoFar (parts own (take i runs)) free found → OwnedSoFar (parts own (take (i + 1) runs)) free new
owned_more own runs free found i d new l low seen unseen o = subst (λ (ls : List (List ℕ)). OwnedSoFar ls free new) (sym (parts_next own runs i d l)) (owned_also (parts own (take i runs)) free found (part own (get_or runs i d)) new low seen unseen o)

-- of the agree sets that have a column
pub owned_more_with : (c : ℕ) (own : List ℕ) (runs : List Run) (free found i : ℕ) (d : Run) (new : ℕ) → i < length runs → IsSubset new found → ((k : ℕ) → has new k ≡ true → sees (having c (part own (get_or runs i d))) k ≡ true)
    → ((k : ℕ) → has found k ≡ true → has new k ≡ false → sees (having c (part own (get_or runs i d))) k ≡ false) → OwnedSoFar (map (having c) (parts own (take i runs))) free found → OwnedSoFar (map (having c) (parts own (take (i + 1) runs))) free new
owned_more_with c own runs free found i d new l low seen unseen o =
    subst (λ (ls : List (List ℕ)). OwnedSoFar ls free new) (sym (ap (map (having c)) (parts_next own runs i d l) ∙ map-append (having c) (parts own (take i runs)) (part own (get_or runs i d) ∷ [])))
    (owned_also (map (having c) (parts own (take i runs))) free found (having c (part own (get_or runs i d))) new low seen unseen o)

-- ---- runs in a list that grows
part_front : (own more : List ℕ) (r : Run) → IsWithin own r → part (own ++ more) r ≡ part own r
part_front own more r w =
    let a = w.order in
    let b = w.bound in
    ap (take (r.stop - r.start)) (drop-append-le r.start own more (omega (arith, a, b)))
    ∙ take-append-le (r.stop - r.start) (drop r.start own) more (omega (arith, length-drop r.start own, a, b))

parts_front : (own more : List ℕ) (runs : List Run) → ((r : Run) → Listed r runs → IsWithin own r) → parts (own ++ more) runs ≡ parts own runs
parts_front own more [] f = refl
parts_front own more (r ∷ runs) f = ap₂ (λ (vs : List ℕ) (ls : List (List ℕ)). vs ∷ ls) (part_front own more r (f r (inl refl))) (parts_front own more runs (λ q h. f q (inr h)))

pub entered_none : (own own' : List ℕ) (runs runs' : List Run) → own' ≡ own → runs' ≡ runs → AreWithin own runs → IsEntered own runs [] own' runs'
entered_none own own' runs runs' e f w = record {
  more = [];
  own_is = e ∙ sym (append-nil own);
  new = [];
  runs_is = f ∙ sym (append-nil runs);
  parts_are = refl;
  within = subst (λ (vs : List ℕ). AreWithin vs runs') (sym e) (subst (AreWithin own) (sym f) w);
}

-- a run more, of agree sets that are added
pub entered_more : (old : List ℕ) (old_runs : List Run) (lists : List (List ℕ)) (own : List ℕ) (runs : List Run) (ys own' : List ℕ) (runs' : List Run) (r : Run) → IsEntered old old_runs lists own runs → own' ≡ own ++ ys → runs' ≡ runs ++ r ∷ []
    → r.start ≡ length own → r.stop ≡ length own' → IsEntered old old_runs (lists ++ ys ∷ []) own' runs'
entered_more old old_runs lists own runs ys own' runs' r h e f start stop = record {
  more = h.more ++ ys;
  own_is = e ∙ ap (λ (vs : List ℕ). vs ++ ys) h.own_is ∙ append_assoc old h.more ys;
  new = h.new ++ r ∷ [];
  runs_is = f ∙ ap (λ (rs : List Run). rs ++ r ∷ []) h.runs_is ∙ append_assoc old_runs h.new (r ∷ []);
  parts_are = map-append (part own') h.new (r ∷ []) ∙ ap₂ (λ (ls : List (List ℕ)) (vs : List ℕ). ls ++ vs ∷ []) (ap (λ (vs : List ℕ). parts vs h.new) e ∙ parts_front own ys h.new (λ q g. h.within.each q (subst (Listed q) (sym h.runs_is) (Listed-append_right q old_runs h.new g))) ∙ h.parts_are) last;
  within = record { each = λ q g. elim (Listed-append_cases q runs (r ∷ []) (subst (Listed q) f g)) as (λ _. IsWithin own' q) [ inl i ↦ wider q (h.within.each q i) | inr i ↦ fresh q i ] };
}
  where
    longer : length own' ≡ length own + length ys
    longer = ap length e ∙ length-append own ys

    last : part own' r ≡ ys
    last = ap (λ (vs : List ℕ). take (r.stop - r.start) (drop r.start vs)) e ∙ ap (take (r.stop - r.start)) (new_end own ys (own ++ ys) r.start refl start) ∙ take_all (r.stop - r.start) ys (omega (arith, longer, start, stop))

    wider : (q : Run) → IsWithin own q → IsWithin own' q
    wider q w = record { order = w.order; bound = let b = w.bound in omega (arith, b, longer) }

    fresh : (q : Run) → Listed q (r ∷ []) → IsWithin own' q
    fresh q (inl i) = subst (IsWithin own') (sym i) (record { order = omega (arith, longer, start, stop); bound = omega (arith, stop) })
    fresh q (inr i) = absurd i

-- the next of the old runs
pub entered_next : (c : ℕ) (old : List ℕ) (old_runs : List Run) (from i : ℕ) (own : List ℕ) (runs : List Run) (run : Run) (own' : List ℕ) (runs' : List Run) (r : Run) → AreWithin old old_runs → from ≤ i → i < length old_runs → run ≡ get_or runs i run
    → own' ≡ own ++ having c (part own run) → runs' ≡ runs ++ r ∷ [] → r.start ≡ length own → r.stop ≡ length own'
    → IsEntered old old_runs (map (having c) (parts old (take (i - from) (drop from old_runs)))) own runs → IsEntered old old_runs (map (having c) (parts old (take (i + 1 - from) (drop from old_runs)))) own' runs'
entered_next c old old_runs from i own runs run own' runs' r w le l is e f start stop h =
    subst (λ (ls : List (List ℕ)). IsEntered old old_runs ls own' runs') (sym lists)
    (entered_more old old_runs (map (having c) (parts old (take (i - from) (drop from old_runs)))) own runs (having c (part own run)) own' runs' r h e f start stop)
  where
    here : run ≡ get_or old_runs i run
    here = is ∙ ap (λ (rs : List Run). get_or rs i run) h.runs_is ∙ get_or_append_left old_runs h.new run i l

    same : part own run ≡ part old run
    same = ap (λ (vs : List ℕ). part vs run) h.own_is ∙ part_front old h.more run (w.each run (subst (λ (q : Run). Listed q old_runs) (sym here) (Listed-get_or old_runs i run l)))

    next : take (i + 1 - from) (drop from old_runs) ≡ take (i - from) (drop from old_runs) ++ run ∷ []
    next =
        ap (λ (n : ℕ). take n (drop from old_runs)) (let n : i + 1 - from ≡ i - from + 1 = omega (arith, le) in n)
        ∙ take_more (drop from old_runs) (i - from) run (omega (arith, length-drop from old_runs, l, le))
        ∙ ap (λ (q : Run). take (i - from) (drop from old_runs) ++ q ∷ []) (get_or-drop from old_runs (i - from) run ∙ ap (λ (n : ℕ). get_or old_runs n run) (let n : from + (i - from) ≡ i = omega (arith, le) in n) ∙ sym here)

    lists : map (having c) (parts old (take (i + 1 - from) (drop from old_runs))) ≡ map (having c) (parts old (take (i - from) (drop from old_runs))) ++ having c (part own run) ∷ []
    lists =
        ap (λ (rs : List Run). map (having c) (parts old rs)) next
        ∙ ap (map (having c)) (map-append (part old) (take (i - from) (drop from old_runs)) (run ∷ []))
        ∙ map-append (having c) (parts old (take (i - from) (drop from old_runs))) (part old run ∷ [])
        ∙ ap (λ (vs : List ℕ). map (having c) (parts old (take (i - from) (drop from old_runs))) ++ having c vs ∷ []) (sym same)

-- what stands behind the old lists, and what stood there
module _ (old : List ℕ) (old_runs : List Run) (lists : List (List ℕ)) (own : List ℕ) (runs : List Run) (h : IsEntered old old_runs lists own runs) where
  pub entered_long : (n : ℕ) → n ≡ length old_runs → n ≤ length runs
  entered_long n e = omega (arith, e, ap length h.runs_is, length-append old_runs h.new)

  pub entered_lists : (n : ℕ) → n ≡ length old_runs → parts own (drop n runs) ≡ lists
  entered_lists n e = ap (parts own) (ap (drop n) h.runs_is ∙ drop_at old_runs h.new n (sym e)) ∙ h.parts_are

  pub entered_own : (n : ℕ) → n ≡ length old → take n own ≡ old
  entered_own n e = ap (take n) h.own_is ∙ take_at old h.more n (sym e)

  pub entered_runs : (n : ℕ) → n ≡ length old_runs → take n runs ≡ old_runs
  entered_runs n e = ap (take n) h.runs_is ∙ take_at old_runs h.new n (sym e)

pub within_rest : (own : List ℕ) (runs : List Run) (n : ℕ) → AreWithin own runs → AreWithin own (drop n runs)
within_rest own runs n w = record { each = λ r h. w.each r (subst (Listed r) (take-append-drop n runs) (Listed-append_right r (take n runs) (drop n runs) h)) }

pub runs_rest : (runs now : List Run) (from : ℕ) → now ≡ runs → take (length now - from) (drop from now) ≡ drop from runs
runs_rest runs now from e = take_rest now from ∙ ap (drop from) e
