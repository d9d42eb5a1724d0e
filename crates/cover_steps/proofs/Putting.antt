-- New lists put in place, target by target.
use Rattle.std.proofs.Common.{inl, inr, ◌≡◌, ℕ, ◌+◌, ◌<◌, ◌≤◌, refl, sym, ap, ◌∙◌, subst, arith, List, [], ◌∷◌, ◌++◌, length, get_or, map, Option, Some, None}
use Rattle.std.proofs.lemmas.Bool.{cases_eq}
use Rattle.std.proofs.lemmas.List.{length-append, length-set, get_or-set_same, get_or-set_other, get_or_append_left}
use Rattle.std.proofs.lemmas.List.FromFn.{length-map-range_with_len}
use Rattle.col_set.specs.declared.target.Target.{Target}
use Rattle.col_set.specs.declared.target.Target.TheVariants.{Col, RowId}
use Rattle.col_set.specs.Target.{IsColumnTarget}
use Rattle.candidate_cover.specs.declared.cand.Cand.{Cand}
use Rattle.candidate_cover.specs.Lists.{CandLists}
use Rattle.candidate_cover.specs.Cands.{cands_of, with_list, lefts, kept_or_fresh}
use Rattle.col_set.specs.Evidence.{least}
use Rattle.std.specs.Prelude.{IfSome}
use Rattle.cover_steps.specs.Core.{renewed, renewed_list}
use Rattle.cover_steps.proofs.Kept.{cands_of-renewed}
use Rattle.cover_steps.proofs.Renewing.{renewed_list-same, same_lists}
use Rattle.cover_steps.specs.NewLists.{IsNewList, AreNewLists}

-- the lists after a target's new list was put, where there is one
abbrev pub put : CandLists → Target → Option (List Cand) → CandLists
put c t None = c
put c t (Some new_list) = with_list c t new_list

-- the columns that are left are the first ones, and all other targets have their new lists
pub record PutSoFar (n : ℕ) (ws : List ℕ) (old : CandLists) (others cols : List (Option (List Cand))) (now : CandLists) : Type 0 where
  pub width : length now.columns ≡ n
  pub few : length cols ≤ n
  pub left : (a : ℕ) → a < length cols → get_or cols a None ≡ get_or others a None
  pub row_id : cands_of now RowId ≡ renewed_list n ws old RowId
  pub done : (a : ℕ) → length cols ≤ a → a < n → cands_of now (Col a) ≡ renewed_list n ws old (Col a)
  pub todo : (a : ℕ) → a < length cols → cands_of now (Col a) ≡ cands_of old (Col a)

-- the new list of the row's identity is put
pub put-first : (n : ℕ) (ws : List ℕ) (old : CandLists) (first : Option (List Cand)) (others : List (Option (List Cand))) → length old.columns ≡ n → AreNewLists n ws old first others → PutSoFar n ws old others others (put old RowId first)
put-first n ws old None others wide new_lists = record {
  width = wide;
  few = let e = new_lists.count in omega arith;
  left = λ a l. refl;
  row_id = sym new_lists.row_id;
  done = λ a l m. absurd (let e = new_lists.count in omega arith);
  todo = λ a l. refl;
}
put-first n ws old (Some new_list) others wide new_lists = record {
  width = wide;
  few = let e = new_lists.count in omega arith;
  left = λ a l. refl;
  row_id = new_lists.row_id;
  done = λ a l m. absurd (let e = new_lists.count in omega arith);
  todo = λ a l. refl;
}

get_or-last : {X : Type 0} (xs : List X) (y d : X) → get_or (xs ++ y ∷ []) (length xs) d ≡ y
get_or-last [] y d = refl
get_or-last (x ∷ xs) y d = get_or-last xs y d

-- the new list of the last column that is left is put
pub put-more : (n : ℕ) (ws : List ℕ) (old : CandLists) (first : Option (List Cand)) (others cols : List (Option (List Cand))) (new_list : Option (List Cand)) (now : CandLists) → AreNewLists n ws old first others
    → PutSoFar n ws old others (cols ++ new_list ∷ []) now → PutSoFar n ws old others cols (put now (Col (length cols)) new_list)
put-more n ws old first others cols new_list now new_lists so = by new_list refl
  where
    longer : length (cols ++ new_list ∷ []) ≡ length cols + 1
    longer = length-append cols (new_list ∷ [])

    within : length cols < n
    within = let l = so.few in let e = longer in omega arith

    kept : (a : ℕ) → a < length cols → get_or cols a None ≡ get_or others a None
    kept a l = sym (get_or_append_left cols (new_list ∷ []) None a l) ∙ so.left a (let e = longer in omega arith)

    is : new_list ≡ get_or others (length cols) None
    is = sym (get_or-last cols new_list None) ∙ so.left (length cols) (let e = longer in omega arith)

    at : IsNewList n ws old (Col (length cols)) new_list
    at = subst (IsNewList n ws old (Col (length cols))) (sym is) (new_lists.columns (length cols) within)

    before : cands_of now (Col (length cols)) ≡ cands_of old (Col (length cols))
    before = so.todo (length cols) (let e = longer in omega arith)

    by : (q : Option (List Cand)) → new_list ≡ q → PutSoFar n ws old others cols (put now (Col (length cols)) q)
    by None e = record {
      width = so.width;
      few = let w = within in omega arith;
      left = kept;
      row_id = so.row_id;
      done = λ a l m. elim (cases_eq a (length cols)) as (λ _. cands_of now (Col a) ≡ renewed_list n ws old (Col a)) [
        | inl i ↦ subst (λ (k : ℕ). cands_of now (Col k) ≡ renewed_list n ws old (Col k)) (sym i) (before ∙ sym (subst (IsNewList n ws old (Col (length cols))) e at))
        | inr ne ↦ so.done a (let k = longer in omega arith) m
      ];
      todo = λ a l. so.todo a (let k = longer in omega arith);
    }
    by (Some p) e = record {
      width = length-set now.columns (length cols) p ∙ so.width;
      few = let w = within in omega arith;
      left = kept;
      row_id = so.row_id;
      done = λ a l m. elim (cases_eq a (length cols)) as (λ _. cands_of (with_list now (Col (length cols)) p) (Col a) ≡ renewed_list n ws old (Col a)) [
        | inl i ↦ subst (λ (k : ℕ). cands_of (with_list now (Col (length cols)) p) (Col k) ≡ renewed_list n ws old (Col k)) (sym i)
            (get_or-set_same now.columns (length cols) p [] (let w = so.width in let v = within in omega arith) ∙ subst (IsNewList n ws old (Col (length cols))) e at)
        | inr ne ↦ get_or-set_other now.columns (length cols) a p [] ne ∙ so.done a (let k = longer in omega arith) m
      ];
      todo = λ a l. get_or-set_other now.columns (length cols) a p [] (λ i. absurd (omega arith)) ∙ so.todo a (let k = longer in omega arith);
    }

-- all new lists were put
pub put-whole : (n : ℕ) (ws : List ℕ) (old : CandLists) (others : List (Option (List Cand))) (now : CandLists) → PutSoFar n ws old others [] now → now ≡ renewed n ws old
unfolding renewed
put-whole n ws old others now so = same_lists now (renewed n ws old) (so.width ∙ sym (length-map-range_with_len (λ (a : ℕ). renewed_list n ws old (Col a)) 0 n)) each
  where
    each : (t : Target) → IsColumnTarget (length now.columns) t → cands_of now t ≡ cands_of (renewed n ws old) t
    each RowId l = so.row_id
    each (Col a) l = let m : a < n = subst (λ (k : ℕ). a < k) so.width l in so.done a (omega arith) m ∙ sym (cands_of-renewed n ws old (Col a) m)

-- what is so while the new lists of columns are put, whatever agree sets they are of
pub record IsPutSoFar (old : CandLists) (first : Option (List Cand)) (others cols : List (Option (List Cand))) (now : CandLists) : Type 0 where
  pub width : length now.columns ≡ length old.columns
  pub few : length cols ≤ length old.columns
  pub so : (ws : List ℕ) → AreNewLists (length old.columns) ws old first others → PutSoFar (length old.columns) ws old others cols now

same-width : (c : CandLists) (t : Target) (new_list : Option (List Cand)) → length (put c t new_list).columns ≡ length c.columns
same-width c RowId None = refl
same-width c RowId (Some new_list) = refl
same-width c (Col a) None = refl
same-width c (Col a) (Some new_list) = length-set c.columns a new_list

pub IsPutSoFar-first : (old now : CandLists) (first : Option (List Cand)) (others : List (Option (List Cand))) → length others ≡ length old.columns → now ≡ put old RowId first → IsPutSoFar old first others others now
IsPutSoFar-first old now first others e i = subst (IsPutSoFar old first others others) (sym i) (record {
  width = same-width old RowId first;
  few = omega arith;
  so = λ ws new_lists. put-first (length old.columns) ws old first others refl new_lists;
})

pub IsPutSoFar-more : (old now new : CandLists) (first : Option (List Cand)) (others before cols : List (Option (List Cand))) (new_list : Option (List Cand)) (a : ℕ) → before ≡ cols ++ new_list ∷ [] → a ≡ length cols
    → IsPutSoFar old first others before now → new ≡ put now (Col a) new_list → IsPutSoFar old first others cols new
IsPutSoFar-more old now new first others before cols new_list a e l so i =
    let s : IsPutSoFar old first others (cols ++ new_list ∷ []) now = subst (λ (bs : List (Option (List Cand))). IsPutSoFar old first others bs now) e so in
    let longer : length (cols ++ new_list ∷ []) ≡ length cols + 1 = length-append cols (new_list ∷ []) in
    let same : put now (Col (length cols)) new_list ≡ new = ap (λ (k : ℕ). put now (Col k) new_list) (sym l) ∙ sym i in
    subst (IsPutSoFar old first others cols) same (record {
      width = same-width now (Col (length cols)) new_list ∙ s.width;
      few = let f = s.few in omega arith;
      so = λ ws new_lists. put-more (length old.columns) ws old first others cols new_list now new_lists (s.so ws new_lists);
    })

pub IsPutSoFar-whole : (old now : CandLists) (first : Option (List Cand)) (others cols : List (Option (List Cand))) → cols ≡ [] → IsPutSoFar old first others cols now → (ws : List ℕ) → AreNewLists (length old.columns) ws old first others → now ≡ renewed (length old.columns) ws old
IsPutSoFar-whole old now first others cols e so ws new_lists = put-whole (length old.columns) ws old others now (subst (λ (cs : List (Option (List Cand))). PutSoFar (length old.columns) ws old others cs now) e (so.so ws new_lists))

-- ---- new lists made one after another
-- the new lists of the row's identity and of the first columns
pub record AreNewListsSoFar (n : ℕ) (ws : List ℕ) (c : CandLists) (first : Option (List Cand)) (others : List (Option (List Cand))) (k : ℕ) : Type 0 where
  pub row_id : IsNewList n ws c RowId first
  pub count : length others ≡ k
  pub columns : (a : ℕ) → a < k → IsNewList n ws c (Col a) (get_or others a None)

pub AreNewListsSoFar-first : (n : ℕ) (ws : List ℕ) (c : CandLists) (first : Option (List Cand)) (others : List (Option (List Cand))) → IsNewList n ws c RowId first → others ≡ [] → AreNewListsSoFar n ws c first others 0
AreNewListsSoFar-first n ws c first others new_list e = record { row_id = new_list; count = ap length e; columns = λ a l. absurd (omega arith) }

pub AreNewListsSoFar-more : (n : ℕ) (ws : List ℕ) (c : CandLists) (first : Option (List Cand)) (others new : List (Option (List Cand))) (new_list : Option (List Cand)) (k : ℕ) → AreNewListsSoFar n ws c first others k → IsNewList n ws c (Col k) new_list → new ≡ others ++ new_list ∷ [] → AreNewListsSoFar n ws c first new (k + 1)
AreNewListsSoFar-more n ws c first others new new_list k so is e = subst (λ (os : List (Option (List Cand))). AreNewListsSoFar n ws c first os (k + 1)) (sym e) (record {
  row_id = so.row_id;
  count = let l = length-append others (new_list ∷ []) in let m = so.count in omega arith;
  columns = λ a l. elim (cases_eq a k) as (λ _. IsNewList n ws c (Col a) (get_or (others ++ new_list ∷ []) a None)) [
    | inl i ↦ subst (λ (j : ℕ). IsNewList n ws c (Col j) (get_or (others ++ new_list ∷ []) j None)) (sym i) (subst (IsNewList n ws c (Col k)) (sym (ap (λ (j : ℕ). get_or (others ++ new_list ∷ []) j None) (sym so.count) ∙ get_or-last others new_list None)) is)
    | inr ne ↦ let m : a < k = omega arith in
        subst (IsNewList n ws c (Col a)) (sym (get_or_append_left others (new_list ∷ []) None a (let u = so.count in omega arith))) (so.columns a m)
  ];
})

pub AreNewListsSoFar-whole : (n : ℕ) (ws : List ℕ) (c : CandLists) (first : Option (List Cand)) (others : List (Option (List Cand))) (k : ℕ) → AreNewListsSoFar n ws c first others k → k ≡ n → AreNewLists n ws c first others
AreNewListsSoFar-whole n ws c first others k so e = record { row_id = so.row_id; count = so.count ∙ e; columns = λ a l. so.columns a (let m = e in omega arith) }

pub none_left : {X : Type 0} (xs : List X) → length xs ≡ 0 → xs ≡ []
none_left [] e = refl
none_left (x ∷ xs) e = absurd (omega arith)

-- the new list of a draft
pub IsNewList-drafted : (n : ℕ) (ws : List ℕ) (c : CandLists) (t : Target) (new_list : Option (List Cand)) → (new_list ≡ None → lefts (cands_of c t) ≡ least n ws t) → IfSome new_list (λ cs. lefts cs ≡ least n ws t) → IfSome new_list (λ cs. cs ≡ map (kept_or_fresh (cands_of c t)) (lefts cs)) → IsNewList n ws c t new_list
IsNewList-drafted n ws c t None same least marks = renewed_list-same n ws c t (same refl)
IsNewList-drafted n ws c t (Some cs) same e marks = marks ∙ ap (map (kept_or_fresh (cands_of c t))) e
