-- Candidates and the pairs of a tree: how look-ups and changes of the one read on the other.
use Rattle.std.proofs.Common.{inl, inr, ◌≡◌, ℕ, zero, suc, ◌<◌, Bool, true, false, cond, not, ◌||◌, eqb, refl, sym, ap, ap₂, ◌∙◌, subst, arith, List, [], ◌∷◌, length, get_or, set, map, if◌then◌else◌, Some, None, Ordering, Greater}
use Rattle.std.specs.List.{find}
use Rattle.std.proofs.lemmas.List.{set-get_or}
use Rattle.std.specs.Option.{option_map}
use Rattle.std.specs.Cmp.{nat_cmp_is}
use Rattle.std.specs.Cmp.Lexicographic.{slice_cmp}
use Rattle.std.specs.Ordering.{is_lt, nat_cmp, ordering_then}
use Rattle.std.proofs.lemmas.Bool.{eq-eqb, eqb-true, or_parts}
use Rattle.std.proofs.lemmas.Option.{same_Some, none-some}
use Rattle.col_set.specs.declared.target.Target.{Target}
use Rattle.col_set.specs.declared.target.Target.TheVariants.{Col, RowId}
use Rattle.col_set.specs.Target.{IsColumnTarget}
use Rattle.col_set.specs.ColSet.{report_cmp, columns, size}
use Rattle.col_set.specs.Lists.{Listed}
use Rattle.candidate_cover.specs.Pairs.{IsInOrder, is_key, value_at, with_value, from as pairs_from}
use Rattle.candidate_cover.proofs.Places.{apart_from_less}
use Rattle.candidate_cover.specs.declared.cand.Cand.{Cand}
use Rattle.candidate_cover.specs.declared.cand.Mark.{Mark}
use Rattle.candidate_cover.specs.Lists.{CandLists}
use Rattle.candidate_cover.specs.Cands.{width, cands_of, with_list, is_listed, upto_of, from}
use Rattle.candidate_cover.specs.Marks.{cand, cands}

-- ---- look-ups
pub is_listed-cands : (ps : List (ℕ × Mark)) (x : ℕ) → is_listed (cands ps) x ≡ is_key ps x
is_listed-cands [] x = refl
is_listed-cands (p ∷ ps) x = ap (λ b. eqb p.0 x || b) (is_listed-cands ps x)

pub find-cands : (p : Cand → Bool) (ps : List (ℕ × Mark)) → find p (cands ps) ≡ option_map cand (find (λ q. p (cand q)) ps)
find-cands p [] = refl
find-cands p (q ∷ ps) = by (p (cand q)) (find-cands p ps)
  where
    by : (b : Bool) → find p (cands ps) ≡ option_map cand (find (λ q. p (cand q)) ps) → cond b (Some (cand q)) (find p (cands ps)) ≡ option_map cand (cond b (Some q) (find (λ q. p (cand q)) ps))
    by true e = refl
    by false e = e

pub from-cands : (x : ℕ) (ps : List (ℕ × Mark)) → cands (pairs_from x ps) ≡ from x (cands ps)
from-cands x [] = refl
from-cands x (p ∷ ps) = by (not (is_lt (report_cmp p.0 x))) (from-cands x ps)
  where
    by : (b : Bool) → cands (pairs_from x ps) ≡ from x (cands ps) → cands (cond b (p ∷ pairs_from x ps) (pairs_from x ps)) ≡ cond b (cand p ∷ from x (cands ps)) (from x (cands ps))
    by true e = ap (λ (cs : List Cand). cand p ∷ cs) e
    by false e = e

-- no set stands before the empty one
pub empty_first : (x : ℕ) → is_lt (report_cmp x 0) ≡ false
unfolding report_cmp size columns
empty_first x = by (columns x)
  where
    by : (ks : List ℕ) → is_lt (ordering_then (nat_cmp (length ks) 0) (slice_cmp nat_cmp ks [])) ≡ false
    by [] = refl
    by (k ∷ ks) = ap (λ (o : Ordering). is_lt (ordering_then o (slice_cmp nat_cmp (k ∷ ks) []))) (sym (nat_cmp_is (length (k ∷ ks)) 0 Greater (omega arith)))

pub from_empty : (cs : List Cand) → from 0 cs ≡ cs
from_empty [] = refl
from_empty (c ∷ cs) = ap (λ b. cond b (c ∷ from 0 cs) (from 0 cs)) (ap not (empty_first c.left)) ∙ ap (λ (ds : List Cand). c ∷ ds) (from_empty cs)

-- a key has one value
found_pair : (ps : List (ℕ × Mark)) (p : ℕ × Mark) → IsInOrder ps → Listed p ps → find (λ q. eqb q.0 p.0) ps ≡ Some p
found_pair [] p o h = absurd h
found_pair (q ∷ ps) p o (inl e) = ap (λ b. cond b (Some q) (find (λ q. eqb q.0 p.0) ps)) (eq-eqb q.0 p.0 (ap (λ (r : ℕ × Mark). r.0) (sym e))) ∙ ap Some (sym e)
found_pair (q ∷ ps) p o (inr h) = ap (λ b. cond b (Some q) (find (λ q. eqb q.0 p.0) ps)) (apart_from_less q.0 p.0 (o.0 p h)) ∙ found_pair ps p o.1 h

pub one_value : (ps : List (ℕ × Mark)) (x : ℕ) (v : Mark) → IsInOrder ps → Some v ≡ value_at ps x → (p : ℕ × Mark) → Listed p ps → p.0 ≡ x → p.1 ≡ v
one_value ps x v o e p h i = sym (same_Some v p.1 (e ∙ ap (value_at ps) (sym i) ∙ ap (option_map (λ q. q.1)) (found_pair ps p o h)))

pub key_of_value : (ps : List (ℕ × Mark)) (x : ℕ) (v : Mark) → Some v ≡ value_at ps x → is_key ps x ≡ true
key_of_value [] x v e = absurd (none-some v (sym e))
key_of_value (p ∷ ps) x v e = by (eqb p.0 x) e (λ g. key_of_value ps x v g)
  where
    by : (b : Bool) → Some v ≡ option_map (λ q. q.1) (cond b (Some p) (find (λ q. eqb q.0 x) ps)) → (Some v ≡ value_at ps x → is_key ps x ≡ true) → (b || is_key ps x) ≡ true
    by true e rest = refl
    by false e rest = rest e

-- the candidate that has the value
pub listed_value : (ps : List (ℕ × Mark)) (x : ℕ) (v : Mark) → Some v ≡ value_at ps x → (c : Cand) × Listed c (cands ps) × (c.left ≡ x) × (c.upto ≡ v.upto)
listed_value [] x v e = absurd (none-some v (sym e))
listed_value (p ∷ ps) x v e = by (eqb p.0 x) refl e (λ g. listed_value ps x v g)
  where
    by : (b : Bool) → eqb p.0 x ≡ b → Some v ≡ option_map (λ q. q.1) (cond b (Some p) (find (λ q. eqb q.0 x) ps)) → (Some v ≡ value_at ps x → (c : Cand) × Listed c (cands ps) × (c.left ≡ x) × (c.upto ≡ v.upto))
        → (c : Cand) × Listed c (cands (p ∷ ps)) × (c.left ≡ x) × (c.upto ≡ v.upto)
    by true i h rest = (cand p, inl refl, eqb-true p.0 x i, ap (λ (m : Mark). m.upto) (sym (same_Some v p.1 h)))
    by false i h rest = let w = rest h in (w.0, inr w.1, w.2, w.3)

-- its row, and none where there is no value
pub value_upto : (ps : List (ℕ × Mark)) (x : ℕ) (v : Mark) → Some v ≡ value_at ps x → Some v.upto ≡ upto_of (cands ps) x
value_upto [] x v e = absurd (none-some v (sym e))
value_upto (p ∷ ps) x v e = by (eqb p.0 x) e (λ g. value_upto ps x v g)
  where
    by : (b : Bool) → Some v ≡ option_map (λ q. q.1) (cond b (Some p) (find (λ q. eqb q.0 x) ps)) → (Some v ≡ value_at ps x → Some v.upto ≡ upto_of (cands ps) x)
        → Some v.upto ≡ option_map (λ c. c.upto) (cond b (Some (cand p)) (find (λ c. eqb c.left x) (cands ps)))
    by true e rest = ap (λ (m : Mark). Some m.upto) (same_Some v p.1 e)
    by false e rest = rest e

pub none_upto : (ps : List (ℕ × Mark)) (x : ℕ) → None ≡ value_at ps x → None ≡ upto_of (cands ps) x
none_upto [] x e = refl
none_upto (p ∷ ps) x e = by (eqb p.0 x) e (λ g. none_upto ps x g)
  where
    by : (b : Bool) → None ≡ option_map (λ q. q.1) (cond b (Some p) (find (λ q. eqb q.0 x) ps)) → (None ≡ value_at ps x → None ≡ upto_of (cands ps) x)
        → None ≡ option_map (λ c. c.upto) (cond b (Some (cand p)) (find (λ c. eqb c.left x) (cands ps)))
    by true e rest = absurd (none-some p.1 e)
    by false e rest = rest e

pub no_key_of_none : (ps : List (ℕ × Mark)) (x : ℕ) → None ≡ value_at ps x → is_key ps x ≡ false
no_key_of_none [] x e = refl
no_key_of_none (p ∷ ps) x e = by (eqb p.0 x) e (λ g. no_key_of_none ps x g)
  where
    by : (b : Bool) → None ≡ option_map (λ q. q.1) (cond b (Some p) (find (λ q. eqb q.0 x) ps)) → (None ≡ value_at ps x → is_key ps x ≡ false) → (b || is_key ps x) ≡ false
    by true e rest = absurd (none-some p.1 e)
    by false e rest = rest e

-- ---- one candidate's marks
pub remarked : (f : Mark → Mark) (ps : List (ℕ × Mark)) (x : ℕ) (v : Mark) → ((p : ℕ × Mark) → Listed p ps → p.0 ≡ x → p.1 ≡ v)
    → cands (with_value ps x (f v)) ≡ map (λ c. if eqb c.left x then cand (x, f (record { upto = c.upto; held = c.held })) else c) (cands ps)
remarked f [] x v g = refl
remarked f (p ∷ ps) x v g = ap₂ (λ (c : Cand) (cs : List Cand). c ∷ cs) (by (eqb p.0 x) refl) (remarked f ps x v (λ q h. g q (inr h)))
  where
    by : (b : Bool) → eqb p.0 x ≡ b → cand (if b then (x, f v) else p) ≡ (if b then cand (x, f p.1) else cand p)
    by true e = ap (λ (m : Mark). cand (x, f m)) (sym (g p (inl refl) (eqb-true p.0 x e)))
    by false e = refl

pub untouched : (g : Cand → Cand) (ps : List (ℕ × Mark)) (x : ℕ) → is_key ps x ≡ false → cands ps ≡ map (λ c. if eqb c.left x then g c else c) (cands ps)
untouched g [] x e = refl
untouched g (p ∷ ps) x e = let w = or_parts (eqb p.0 x) (is_key ps x) e in
    ap₂ (λ (c : Cand) (cs : List Cand). c ∷ cs) (ap (λ b. if b then g (cand p) else cand p) (sym w.0)) (untouched g ps x w.1)

-- ---- one target's list
pub map-set : {X Y : Type 0} (f : X → Y) (xs : List X) (i : ℕ) (x : X) → map f (set xs i x) ≡ set (map f xs) i (f x)
map-set f [] i x = refl
map-set f (y ∷ xs) zero x = refl
map-set f (y ∷ xs) (suc i) x = ap (λ ys. f y ∷ ys) (map-set f xs i x)

pub get_or-cands : (ts : List (List (ℕ × Mark))) (a : ℕ) (d : List (ℕ × Mark)) → a < length ts → get_or (map cands ts) a [] ≡ cands (get_or ts a d)
get_or-cands [] a d l = absurd (omega arith)
get_or-cands (t ∷ ts) zero d l = refl
get_or-cands (t ∷ ts) (suc a) d l = get_or-cands ts a d (omega arith)

length-cands : (ts : List (List (ℕ × Mark))) → length (map cands ts) ≡ length ts
length-cands [] = refl
length-cands (t ∷ ts) = ap suc (length-cands ts)

-- what a cover of these trees is seen as
abbrev pub view_of : List (ℕ × Mark) → List (List (ℕ × Mark)) → CandLists
view_of r ts = record { row_id = cands r; columns = map cands ts }

module _ (r : List (ℕ × Mark)) (ts : List (List (ℕ × Mark))) (now : CandLists) (view : view_of r ts ≡ now) (t : Target) (a : ℕ) (is : t ≡ Col a) where
  at_col : IsColumnTarget (width now) t → a < length ts
  at_col h =
      let g : IsColumnTarget (width (view_of r ts)) (Col a) = subst (λ (u : Target). IsColumnTarget (width (view_of r ts)) u) is (subst (λ (c : CandLists). IsColumnTarget (width c) t) (sym view) h) in
      let n = length-cands ts in
      omega arith

  -- the column's list
  pub col_read : IsColumnTarget (width now) t → (d tree : List (ℕ × Mark)) → tree ≡ get_or ts a d → cands tree ≡ cands_of now t
  col_read h d tree e = ap cands e ∙ sym (ap₂ cands_of (sym view) is ∙ get_or-cands ts a d (at_col h))

  -- another list for the column
  pub col_written : (new : List (ℕ × Mark)) (cs : List Cand) → cands new ≡ cs → view_of r (set ts a new) ≡ with_list now t cs
  col_written new cs e =
      ap (λ (us : List (List Cand)). record { row_id = cands r; columns = us }) (map-set cands ts a new ∙ ap (set (map cands ts) a) e)
      ∙ ap (λ (c : CandLists). with_list c (Col a) cs) view ∙ ap (λ (u : Target). with_list now u cs) (sym is)

-- a target's own list in its place
pub with_list-own : (c : CandLists) (t : Target) → with_list c t (cands_of c t) ≡ c
with_list-own c (Col a) = ap (λ (ls : List (List Cand)). record { row_id = c.row_id; columns = ls }) (set-get_or c.columns a [])
with_list-own c RowId = refl
