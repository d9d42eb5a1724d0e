-- A draft's lists as candidates with marks, and the other way round.
use Rattle.std.proofs.Common.{◌≡◌, ℕ, ◌+◌, ◌≤◌, Bool, true, false, cond, eqb, refl, sym, ap, ap₂, ◌∙◌, subst, arith, List, [], ◌∷◌, ◌++◌, length, map, get_or, Some, None, Vec}
use Rattle.std.specs.List.{find}
use Rattle.std.specs.declared.alloc.Global.{Global}
use Rattle.std.specs.Option.{unwrap_or, option_map}
use Rattle.std.proofs.lemmas.Bool.{eqb-true}
use Rattle.std.proofs.lemmas.Option.{same_Some, none-some}
use Rattle.std.proofs.lemmas.List.{map-append, length-map}
use Rattle.std.proofs.lemmas.List.FromFn.{length-map-range_with_len, get_or-map-range_with_len}
use Rattle.col_set.specs.declared.target.Target.TheVariants.{Col, RowId}
use Rattle.col_set.specs.ColSet.{upto}
use Rattle.candidate_cover.specs.Pairs.{value_at}
use Rattle.candidate_cover.specs.declared.cand.Cand.{Cand}
use Rattle.candidate_cover.specs.declared.cand.Mark.{Mark}
use Rattle.candidate_cover.specs.Lists.{CandLists}
use Rattle.candidate_cover.specs.Cands.{cands_of, lefts, fresh, kept_or_fresh, AreLeast}
use Rattle.least_sets.specs.Growth.{choices, ListsLeast}
use Rattle.least_sets.specs.Drafts.{AreDrafted, lists_behind}
use Rattle.candidate_cover.specs.Marks.{cand, cands, fresh_mark}
use Rattle.least_sets.proofs.Evidence.{lists_least}
use Rattle.least_sets.proofs.Growing.{upto_more}
use Rattle.candidate_cover.proofs.Parts.{found_fresh}
use Rattle.candidate_cover.proofs.Remarked.{no_key_of_none}

-- ---- marks
left_kept : (cs : List Cand) (x : ℕ) → (kept_or_fresh cs x).left ≡ x
left_kept [] x = refl
left_kept (c ∷ cs) x = by (eqb c.left x) refl (left_kept cs x)
  where
    by : (b : Bool) → eqb c.left x ≡ b → (kept_or_fresh cs x).left ≡ x → (unwrap_or (cond b (Some c) (find (λ c. eqb c.left x) cs)) (fresh x)).left ≡ x
    by true e rest = eqb-true c.left x e
    by false e rest = rest

pub lefts_kept : (cs : List Cand) (xs : List ℕ) → lefts (map (kept_or_fresh cs) xs) ≡ xs
lefts_kept cs [] = refl
lefts_kept cs (x ∷ xs) = ap₂ (λ (y : ℕ) (ys : List ℕ). y ∷ ys) (left_kept cs x) (lefts_kept cs xs)

pub kept_value : (ps : List (ℕ × Mark)) (x : ℕ) (v : Mark) → Some v ≡ value_at ps x → cand (x, v) ≡ kept_or_fresh (cands ps) x
kept_value [] x v e = absurd (none-some v (sym e))
kept_value (p ∷ ps) x v e = by (eqb p.0 x) refl e (kept_value ps x v)
  where
    by : (b : Bool) → eqb p.0 x ≡ b → Some v ≡ option_map (λ q. q.1) (cond b (Some p) (find (λ q. eqb q.0 x) ps)) → (Some v ≡ value_at ps x → cand (x, v) ≡ kept_or_fresh (cands ps) x) → cand (x, v) ≡ unwrap_or (cond b (Some (cand p)) (find (λ c. eqb c.left x) (cands ps))) (fresh x)
    by true i h rest = ap₂ (λ (y : ℕ) (m : Mark). cand (y, m)) (sym (eqb-true p.0 x i)) (same_Some v p.1 h)
    by false i h rest = rest h

pub kept_none : (ps : List (ℕ × Mark)) (x : ℕ) (m : Mark) → m ≡ fresh_mark → None ≡ value_at ps x → cand (x, m) ≡ kept_or_fresh (cands ps) x
kept_none ps x m f e = ap (λ (m : Mark). cand (x, m)) f ∙ sym (ap (λ r. unwrap_or r (fresh x)) (found_fresh ps x (no_key_of_none ps x e)))

-- ---- the lists of a cover
abbrev pub column_lefts : CandLists → ℕ → List ℕ
column_lefts c a = lefts (cands_of c (Col a))

pub lefts_more : (c : CandLists) (k : ℕ) (old : List (List ℕ)) (new : List ℕ) → old ≡ map (column_lefts c) (upto k) → new ≡ column_lefts c k → old ++ new ∷ [] ≡ map (column_lefts c) (upto (k + 1))
lefts_more c k old new e f = ap₂ (λ (ls : List (List ℕ)) (xs : List ℕ). ls ++ xs ∷ []) e f ∙ sym (ap (map (column_lefts c)) (upto_more k 0 ∙ ap (λ (i : ℕ). upto k ++ i ∷ []) (let e : 0 + k ≡ k = omega arith in e)) ∙ map-append (column_lefts c) (upto k) (k ∷ []))

pub drafted_cover : (n : ℕ) (ws : List ℕ) (c : CandLists) (row_id : List ℕ) (columns : List (List ℕ)) → AreLeast n ws c → row_id ≡ lefts (cands_of c RowId) → columns ≡ map (column_lefts c) (upto n) → AreDrafted n ws row_id columns
drafted_cover n ws c row_id columns l e f = record {
  rows_least = subst (ListsLeast (choices n RowId) ws RowId) (sym (e ∙ l.each RowId tt)) (lists_least n ws RowId);
  count = ap length f ∙ length-map-range_with_len (column_lefts c) 0 n;
  each = λ a b. subst (ListsLeast (choices n (Col a)) ws (Col a))
      (sym (ap (λ ls. get_or ls a []) f ∙ get_or-map-range_with_len (column_lefts c) 0 n a a [] b (omega arith) ∙ l.each (Col a) b)) (lists_least n ws (Col a));
}

-- the lists of the first k columns, where k is all of them
module _ (n k : ℕ) (ws : List ℕ) (c : CandLists) (lists : List (Vec ℕ Global)) (low : k ≤ n) (high : n ≤ k) (e : lists_behind lists ≡ map (column_lefts c) (upto k)) where
  all_of : k ≡ n
  all_of = omega (arith, low, high)

  pub lists_count : length lists ≡ n
  lists_count = sym (length-map lists (λ v. v.items)) ∙ ap length e ∙ length-map-range_with_len (column_lefts c) 0 k ∙ all_of

  pub lists_drafted : AreLeast n ws c → (row_id : List ℕ) → row_id ≡ lefts (cands_of c RowId) → AreDrafted (length lists) ws row_id (lists_behind lists)
  lists_drafted l row_id f = subst (λ (m : ℕ). AreDrafted m ws row_id (lists_behind lists)) (sym lists_count) (drafted_cover n ws c row_id (lists_behind lists) l f (e ∙ ap (λ (m : ℕ). map (column_lefts c) (upto m)) all_of))

pub lists_more : (c : CandLists) (k : ℕ) (lists new : List (Vec ℕ Global)) (v : Vec ℕ Global) → lists_behind lists ≡ map (column_lefts c) (upto k) → new ≡ lists ++ v ∷ [] → v.items ≡ column_lefts c k → lists_behind new ≡ map (column_lefts c) (upto (k + 1))
lists_more c k lists new v e f g = ap lists_behind f ∙ map-append (λ v. v.items) lists (v ∷ []) ∙ lefts_more c k (lists_behind lists) v.items e g
