-- Lists that leave out some rows, and the longest of them that passes a test.
use Rattle.std.proofs.Common.{inl, inr, ◌≡◌, ◌⊎◌, ℕ, suc, ◌+◌, ◌<◌, ◌≤◌, max, Bool, true, false, cond, ◌&&◌, eqb, refl, sym, ap, ◌∙◌, subst, arith, le_antisymm, List, [], ◌∷◌, ◌++◌, length, map}
use Rattle.std.specs.List.{filter, list_any}
use Rattle.std.proofs.lemmas.Bool.{eqb-true, eq-eqb, and_parts, cases_lt}
use Rattle.col_set.specs.Lists.{Listed, Listed-append_left, Listed-append_right, Listed-append_cases, Listed-map, Listed-map_which, Listed-filter, Listed-filter_parts, list_any_at, list_any_which}
use Rattle.col_set.proofs.Places.{Climbs}
use Rattle.rel_base.proofs.Valid.{Climbs-filter}
use Rattle.stripped_partition.specs.Removed.{greatest}
use Rattle.stripped_partition.proofs.Grouped.{same_climbing}
use Rattle.approx_fd.specs.Removal.{sublists, IsSublist, least_removed}

-- ---- sublists
pub Listed-sublists : (rows kept : List ℕ) → IsSublist kept rows → Listed kept (sublists rows)
unfolding sublists
Listed-sublists [] kept e = inl e
Listed-sublists (x ∷ xs) kept (inl h) = Listed-append_right kept (map (λ ks. x ∷ ks) (sublists xs)) (sublists xs) (Listed-sublists xs kept h)
Listed-sublists (x ∷ xs) kept (inr w) = subst (λ (ks : List ℕ). Listed ks (map (λ ks. x ∷ ks) (sublists xs) ++ sublists xs)) (sym w.1)
    (Listed-append_left (x ∷ w.0) (map (λ ks. x ∷ ks) (sublists xs)) (sublists xs) (Listed-map (λ ks. x ∷ ks) w.0 (sublists xs) (Listed-sublists xs w.0 w.2)))

pub sublists-listed : (rows kept : List ℕ) → Listed kept (sublists rows) → IsSublist kept rows
unfolding sublists
sublists-listed [] kept (inl e) = e
sublists-listed [] kept (inr h) = absurd h
sublists-listed (x ∷ xs) kept h = elim (Listed-append_cases kept (map (λ ks. x ∷ ks) (sublists xs)) (sublists xs) h) as (λ _. IsSublist kept (x ∷ xs)) [
  | inl g ↦ let w = Listed-map_which (λ ks. x ∷ ks) kept (sublists xs) g in inr (w.0, w.2, sublists-listed xs w.0 w.1)
  | inr g ↦ inl (sublists-listed xs kept g)
]

pub sublist-empty : (rows : List ℕ) → IsSublist [] rows
sublist-empty [] = refl
sublist-empty (x ∷ xs) = inl (sublist-empty xs)

pub sublist-itself : (rows : List ℕ) → IsSublist rows rows
sublist-itself [] = refl
sublist-itself (x ∷ xs) = inr (xs, refl, sublist-itself xs)

pub sublist-length : (kept rows : List ℕ) → IsSublist kept rows → length kept ≤ length rows
sublist-length kept [] e = let l : length kept ≡ 0 = ap length e in omega arith
sublist-length kept (x ∷ xs) (inl h) = let l = sublist-length kept xs h in omega arith
sublist-length kept (x ∷ xs) (inr w) = let l = sublist-length w.0 xs w.2 in let e : length kept ≡ suc (length w.0) = ap length w.1 in omega arith

pub sublist-whole : (kept rows : List ℕ) → IsSublist kept rows → length rows ≤ length kept → kept ≡ rows
sublist-whole kept [] e l = e
sublist-whole kept (x ∷ xs) (inl h) l = let m = sublist-length kept xs h in absurd (omega arith)
sublist-whole kept (x ∷ xs) (inr w) l = let e : length kept ≡ suc (length w.0) = ap length w.1 in
    w.1 ∙ ap (λ (ks : List ℕ). x ∷ ks) (sublist-whole w.0 xs w.2 (omega arith))

pub sublist-member : (kept rows : List ℕ) (i : ℕ) → IsSublist kept rows → Listed i kept → Listed i rows
sublist-member kept [] i e h = subst (Listed i) e h
sublist-member kept (x ∷ xs) i (inl s) h = inr (sublist-member kept xs i s h)
sublist-member kept (x ∷ xs) i (inr w) h = by (subst (Listed i) w.1 h) (λ g. sublist-member w.0 xs i w.2 g)
  where
    by : Listed i (x ∷ w.0) → (Listed i w.0 → Listed i xs) → Listed i (x ∷ xs)
    by (inl e) f = inl e
    by (inr g) f = inr (f g)

pub sublist-climbs : (kept rows : List ℕ) → IsSublist kept rows → Climbs rows → Climbs kept
sublist-climbs kept [] e c = subst Climbs (sym e) tt
sublist-climbs kept (x ∷ xs) (inl s) c = sublist-climbs kept xs s c.1
sublist-climbs kept (x ∷ xs) (inr w) c = subst Climbs (sym w.1) ((λ y h. c.0 y (sublist-member w.0 xs y w.2 h)), sublist-climbs w.0 xs w.2 c.1)

pub sublist-filter : (p : ℕ → Bool) (rows : List ℕ) → IsSublist (filter p rows) rows
sublist-filter p [] = refl
sublist-filter p (x ∷ xs) = by (p x) (sublist-filter p xs)
  where
    by : (b : Bool) → IsSublist (filter p xs) xs → IsSublist (cond b (x ∷ filter p xs) (filter p xs)) (x ∷ xs)
    by true s = inr (filter p xs, refl, s)
    by false s = inl s

-- a sublist of an ascending list is what a test keeps of it
abbrev pub keeps : List ℕ → ℕ → Bool
keeps kept i = list_any (λ k. eqb i k) kept

pub keeps-listed : (kept : List ℕ) (i : ℕ) → keeps kept i ≡ true → Listed i kept
keeps-listed kept i e = let w = list_any_which (λ k. eqb i k) kept e in subst (λ (k : ℕ). Listed k kept) (sym (eqb-true i w.0 w.2)) w.1

pub listed-keeps : (kept : List ℕ) (i : ℕ) → Listed i kept → keeps kept i ≡ true
listed-keeps kept i h = list_any_at (λ k. eqb i k) i kept h (eq-eqb i i refl)

pub sublist-kept : (kept rows : List ℕ) → IsSublist kept rows → Climbs rows → kept ≡ filter (keeps kept) rows
sublist-kept kept rows s c = same_climbing kept (filter (keeps kept) rows) (sublist-climbs kept rows s c) (Climbs-filter (keeps kept) rows c)
    (λ i h. Listed-filter (keeps kept) i rows (sublist-member kept rows i s h) (listed-keeps kept i h))
    (λ i h. keeps-listed kept i (Listed-filter_parts (keeps kept) i rows h).1)

-- two tests keep together all but what either leaves out
pub kept-both : (p q : ℕ → Bool) (rows : List ℕ) → length (filter p rows) + length (filter q rows) ≤ length rows + length (filter (λ i. p i && q i) rows)
kept-both p q [] = omega arith
kept-both p q (x ∷ xs) = by (p x) (q x) (kept-both p q xs)
  where
    by : (a b : Bool) → length (filter p xs) + length (filter q xs) ≤ length xs + length (filter (λ i. p i && q i) xs)
        → length (cond a (x ∷ filter p xs) (filter p xs)) + length (cond b (x ∷ filter q xs) (filter q xs)) ≤ suc (length xs) + length (cond (a && b) (x ∷ filter (λ i. p i && q i) xs) (filter (λ i. p i && q i) xs))
    by true true l = omega arith
    by true false l = omega arith
    by false true l = omega arith
    by false false l = omega arith

-- ---- the greatest of a list
pub greatest-least : (xs : List ℕ) (x : ℕ) → Listed x xs → x ≤ greatest xs
unfolding greatest
greatest-least [] x h = absurd h
greatest-least (y ∷ ys) x (inl e) = omega arith
greatest-least (y ∷ ys) x (inr h) = let l = greatest-least ys x h in omega arith

pub greatest-listed : (xs : List ℕ) (x : ℕ) → Listed x xs → Listed (greatest xs) xs
unfolding greatest
greatest-listed [] x h = absurd h
greatest-listed (y ∷ []) x h = inl (omega arith)
greatest-listed (y ∷ z ∷ zs) x h = by (greatest-listed (z ∷ zs) z (inl refl)) (cases_lt y (greatest (z ∷ zs)))
  where
    by : Listed (greatest (z ∷ zs)) (z ∷ zs) → (y < greatest (z ∷ zs)) ⊎ (greatest (z ∷ zs) ≤ y) → Listed (max y (greatest (z ∷ zs))) (y ∷ z ∷ zs)
    by g (inl l) = inr (subst (λ (n : ℕ). Listed n (z ∷ zs)) (let e : greatest (z ∷ zs) ≡ max y (greatest (z ∷ zs)) = omega arith in e) g)
    by g (inr l) = inl (omega arith)

-- ---- the longest sublist that passes
pub record Longest (passes : List ℕ → Bool) (rows : List ℕ) (k : ℕ) : Type 0 where
  pub kept : List ℕ
  pub sublist : IsSublist kept rows
  pub count : length kept + k ≡ length rows
  pub passed : passes kept ≡ true
  pub longest : (other : List ℕ) → IsSublist other rows → passes other ≡ true → length other ≤ length kept

pub Longest-alone : (passes : List ℕ → Bool) (rows : List ℕ) (j k : ℕ) → Longest passes rows j → Longest passes rows k → j ≡ k
Longest-alone passes rows j k a b =
    let l = a.longest b.kept b.sublist b.passed in let m = b.longest a.kept a.sublist a.passed in
    let c = a.count in let d = b.count in omega arith

pub Longest-is : (passes : List ℕ → Bool) (rows : List ℕ) → passes [] ≡ true → Longest passes rows (least_removed passes rows)
unfolding least_removed
Longest-is passes rows none =
    let all : List ℕ = map length (filter passes (sublists rows)) in
    let first : Listed 0 all = Listed-map length [] (filter passes (sublists rows)) (Listed-filter passes [] (sublists rows) (Listed-sublists rows [] (sublist-empty rows)) none) in
    let w = Listed-map_which length (greatest all) (filter passes (sublists rows)) (greatest-listed all 0 first) in
    let v = Listed-filter_parts passes w.0 (sublists rows) w.1 in
    let s = sublists-listed rows w.0 v.0 in
    let l = sublist-length w.0 rows s in
    let e = w.2 in
    record {
      kept = w.0;
      sublist = s;
      count = omega arith;
      passed = v.1;
      longest = λ other t g.
          let m = greatest-least all (length other) (Listed-map length other (filter passes (sublists rows)) (Listed-filter passes other (sublists rows) (Listed-sublists rows other t) g)) in omega arith;
    }

-- ---- tests beside each other
module _ (p q : List ℕ → Bool) (rows : List ℕ) (none : p [] ≡ true) (also : q [] ≡ true) where
  -- what passes less leaves out no fewer
  pub removed-weaker : ((kept : List ℕ) → IsSublist kept rows → p kept ≡ true → q kept ≡ true) → least_removed q rows ≤ least_removed p rows
  removed-weaker f =
      let a = Longest-is p rows none in let b = Longest-is q rows also in
      let l = b.longest a.kept a.sublist (f a.kept a.sublist a.passed) in
      let c = a.count in let d = b.count in omega arith

pub removed-same : (p q : List ℕ → Bool) (rows : List ℕ) → p [] ≡ true → ((kept : List ℕ) → IsSublist kept rows → p kept ≡ q kept) → least_removed p rows ≡ least_removed q rows
removed-same p q rows none f =
    let also : q [] ≡ true = sym (f [] (sublist-empty rows)) ∙ none in
    le_antisymm (removed-weaker q p rows also none (λ kept s g. f kept s ∙ g)) (removed-weaker p q rows none also (λ kept s g. sym (f kept s) ∙ g))

pub removed-none : (p : List ℕ → Bool) (rows : List ℕ) → p [] ≡ true → p rows ≡ true → least_removed p rows ≡ 0
removed-none p rows none e =
    let a = Longest-is p rows none in
    let l = a.longest rows (sublist-itself rows) e in let c = a.count in omega arith

pub none-removed : (p : List ℕ → Bool) (rows : List ℕ) → p [] ≡ true → least_removed p rows ≡ 0 → p rows ≡ true
none-removed p rows none e =
    let a = Longest-is p rows none in let c = a.count in
    subst (λ (ks : List ℕ). p ks ≡ true) (sublist-whole a.kept rows a.sublist (omega arith)) a.passed

-- where what two tests keep together passes a third, that leaves out no more than both
pub removed-both : (p q w : List ℕ → Bool) (rows : List ℕ) → Climbs rows → p [] ≡ true → q [] ≡ true → w [] ≡ true
    → ((one other both : List ℕ) → IsSublist one rows → IsSublist other rows → IsSublist both rows → ((i : ℕ) → Listed i both → Listed i one × Listed i other) → p one ≡ true → q other ≡ true → w both ≡ true)
    → least_removed w rows ≤ least_removed p rows + least_removed q rows
removed-both p q w rows up none also too f =
    let a = Longest-is p rows none in let b = Longest-is q rows also in let c = Longest-is w rows too in
    let both : List ℕ = filter (λ i. keeps a.kept i && keeps b.kept i) rows in
    let s : IsSublist both rows = sublist-filter (λ i. keeps a.kept i && keeps b.kept i) rows in
    let l = c.longest both s (f a.kept b.kept both a.sublist b.sublist s (λ i h.
    let v = and_parts (keeps a.kept i) (keeps b.kept i) (Listed-filter_parts (λ i. keeps a.kept i && keeps b.kept i) i rows h).1 in
    (keeps-listed a.kept i v.0, keeps-listed b.kept i v.1)) a.passed b.passed) in
    let m = kept-both (keeps a.kept) (keeps b.kept) rows in
    let d : length a.kept ≡ length (filter (keeps a.kept) rows) = ap length (sublist-kept a.kept rows a.sublist up) in
    let e : length b.kept ≡ length (filter (keeps b.kept) rows) = ap length (sublist-kept b.kept rows b.sublist up) in
    let x = a.count in let y = b.count in let z = c.count in omega arith
