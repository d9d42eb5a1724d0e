-- What coding a cell makes of a dictionary, from what it makes of the map and the places.
use Rattle.std.proofs.Common.{◌≡◌, ◌<◌, ◌≤◌, ◌==◌, ◌||◌, ℕ, zero, suc, List, [], ◌∷◌, ◌++◌, Bool, true, false, not, cond, length, take, drop, get_or, slice_get, Option, Some, None, IfSome, Result, Ok, Err, IfOk, OnOk, OnErr, ap, ◌∙◌, sym, subst, refl, arith, length-append}
use Rattle.std.specs.declared.alloc.AllocError.{AllocError}
use Rattle.std.specs.List.{find, list_any, IsDistinct}
use Rattle.std.specs.Option.{unwrap_or}
use Rattle.std.specs.Map.{keys_of, lookup}
use Rattle.std.proofs.lemmas.Bool.{or_right, not-true, true≢false, false≢true}
use Rattle.std.proofs.lemmas.List.{length-map}
use Rattle.std.proofs.lemmas.Option.{none-some, slice_get-get_or, slice_get_within}
use Rattle.std.proofs.Math.Seq.{get_or-append_seam}
use Rattle.rel_base.specs.declared.nulls.Nulls.{Nulls}
use Rattle.rel_base.specs.declared.nulls.Nulls.TheVariants.{Equal, Distinct}
use Rattle.rel_base.specs.Cells.{Cell}
use Rattle.rel_base.specs.Agreement.{same_cell, Agrees}
use Rattle.rel_base.proofs.Agree.{same_cell-true, true-same_cell}
use Rattle.column_dict.specs.Coding.{Coding, IsCoding, IsCodeOf, is_fresh, is_new, coded}
use Rattle.column_dict.specs.Layout.{nowhere, cells_at, IsLaid}
use Rattle.column_dict.proofs.Laid.{same_some, found, found-known, missing, kept, kept-le, length-entries, once, cut}

-- ---- an answer by its cases
pub either : {P Q X : Type 0} (r : Result ℕ AllocError) → OnOk r P → OnErr r Q → (P → X) → (Q → X) → X
either (Ok v) p q f g = f p
either (Err e) p q f g = g q

pub on_ok : {P Q : Type 0} (r : Result ℕ AllocError) → OnOk r P → (P → Q) → OnOk r Q
on_ok (Ok v) p f = f p
on_ok (Err e) p f = tt

pub if_ok : {P : Type 0} (F G : ℕ → Type 0) (r : Result ℕ AllocError) → OnOk r P → IfOk r F → ((v : ℕ) → P → F v → G v) → IfOk r G
if_ok F G (Ok v) p h f = f v p h
if_ok F G (Err e) p h f = tt

pub both : (P Q : Type 0) (r : Result ℕ AllocError) → OnOk r P → OnOk r Q → OnOk r (P × Q)
both P Q (Ok v) p q = (p, q)
both P Q (Err e) p q = tt

pub neither : (P Q : Type 0) (r : Result ℕ AllocError) → OnErr r P → OnErr r Q → OnErr r (P × Q)
neither P Q (Ok v) p q = tt
neither P Q (Err e) p q = (p, q)

-- the last of a list
pub at_end : (xs : List Cell) (c : Cell) (n : ℕ) → n ≡ length xs → slice_get (xs ++ c ∷ []) n ≡ Some c
at_end xs c n e =
    let a = length-append xs (c ∷ []) in
    slice_get-get_or (xs ++ c ∷ []) n [] (omega (arith, a, e))
    ∙ ap Some (subst (λ (k : ℕ). get_or (xs ++ c ∷ []) k [] ≡ c) (sym e) (get_or-append_seam xs c [] []))

-- ---- codes and agreement
any_at : (c : Cell) (xs : List Cell) (i : ℕ) → slice_get xs i ≡ Some c → list_any (same_cell c) xs ≡ true
any_at c [] i e = absurd (none-some c e)
any_at c (x ∷ xs) zero e = ap (λ (b : Bool). b || list_any (same_cell c) xs) (true-same_cell c x (sym (same_some e)))
any_at c (x ∷ xs) (suc i) e = or_right (same_cell c x) (list_any (same_cell c) xs) (any_at c xs i e)

-- a cell that has a code, and is not given a fresh one each time, is not new
pub known-cell : (d : Coding) (c : Cell) (k : ℕ) → is_fresh d.nulls c ≡ false → slice_get d.cells k ≡ Some c → is_new d c ≡ false
known-cell d c k f e = ap (λ (b : Bool). b || not (list_any (same_cell c) d.cells)) f ∙ ap not (any_at c d.cells k e)

fresh_agrees : (nulls : Nulls) (a c : Cell) → is_fresh nulls c ≡ true → Agrees nulls a c → ⊥
fresh_agrees Equal a c f h = false≢true f
fresh_agrees Distinct a c f h = h.1 (h.0 ∙ same_cell-true c [] f)

agrees_same : (nulls : Nulls) (a c : Cell) → Agrees nulls a c → a ≡ c
agrees_same Equal a c h = h
agrees_same Distinct a c h = h.0

same_agrees : (nulls : Nulls) (a c : Cell) → is_fresh nulls c ≡ false → a ≡ c → Agrees nulls a c
same_agrees Equal a c f e = e
same_agrees Distinct a c f e = (e, λ n. true≢false (sym (true-same_cell c [] (sym e ∙ n)) ∙ f))

-- a new cell agrees with no cell that has a code
pub new-code : (d : Coding) (c : Cell) (k : ℕ) → is_new d c ≡ true → k ≡ length d.cells → IsCodeOf d c k
new-code d c k n e i a h = (
  (λ s. let l = slice_get_within d.cells i a h in absurd (omega (arith, l, e, s))),
  (λ g. absurd (by (is_fresh d.nulls c) refl n g)),
)
  where
    by : (b : Bool) → is_fresh d.nulls c ≡ b → (b || not (list_any (same_cell c) d.cells)) ≡ true → Agrees d.nulls a c → ⊥
    by true f n g = fresh_agrees d.nulls a c f g
    by false f n g = true≢false (sym (any_at c d.cells i (h ∙ ap Some (agrees_same d.nulls a c g))) ∙ not-true _ n)

-- a cell that is given its old code agrees with the cell of that code alone
pub old-code : (d : Coding) (c : Cell) (k : ℕ) → IsCoding d → is_fresh d.nulls c ≡ false → slice_get d.cells k ≡ Some c → IsCodeOf d c k
old-code d c k once f e i a h = (
  (λ s. same_agrees d.nulls a c f (same_some (sym h ∙ ap (slice_get d.cells) s ∙ e))),
  (λ g. once.once i k c (h ∙ ap Some (agrees_same d.nulls a c g)) e f),
)

-- what contracts see of these parts
abbrev pub seen_as : Nulls → List (Cell × ℕ) → List ℕ → Coding
seen_as nulls es ps = record { nulls = nulls; cells = cells_at (keys_of es) ps }

pub fewer : (nulls : Nulls) (es : List (Cell × ℕ)) (ps : List ℕ) → IsLaid nulls es ps → length es ≤ length ps
fewer nulls es ps h =
    let a : length es ≡ kept nulls (cells_at (keys_of es) ps) = ap length h.entries_are ∙ length-entries nulls 0 (cells_at (keys_of es) ps) in
    let b = kept-le nulls (cells_at (keys_of es) ps) in
    let l : length (cells_at (keys_of es) ps) ≡ length ps = length-map ps _ in
    omega (arith, a, b, l)

module _ (nulls : Nulls) (es : List (Cell × ℕ)) (ps : List ℕ) (d : Coding) (e : seen_as nulls es ps ≡ d) where
  pub codes : length d.cells ≡ length ps
  codes = ap (λ (d : Coding). length d.cells) (sym e) ∙ length-map ps _

  pub room : length d.cells < nowhere → length ps < nowhere
  room l = let n = codes in omega (arith, n, l)

  pub fresh-new : (c : Cell) → is_fresh nulls c ≡ true → is_new d c ≡ true
  fresh-new c f = subst (λ (d : Coding). is_new d c ≡ true) e (ap (λ (b : Bool). b || not (list_any (same_cell c) (cells_at (keys_of es) ps))) f)

  pub missing-new : (c : Cell) → IsLaid nulls es ps → lookup (same_cell c) es ≡ None → is_fresh nulls c ≡ false → is_new d c ≡ true
  missing-new c h l f =
      let m : list_any (same_cell c) (cells_at (keys_of es) ps) ≡ false =
      missing nulls c 0 (cells_at (keys_of es) ps) (sym (ap (lookup (same_cell c)) h.entries_are) ∙ l) f in
      subst (λ (d : Coding). is_new d c ≡ true) e (or_right (is_fresh nulls c) (not (list_any (same_cell c) (cells_at (keys_of es) ps))) (ap not m))

  pub found-old : (c : Cell) (j : ℕ) → IsLaid nulls es ps → lookup (same_cell c) es ≡ Some j → is_fresh nulls c ≡ false → (is_new d c ≡ false) × (slice_get d.cells j ≡ Some c)
  found-old c j h l f =
      let w = found nulls c 0 j (cells_at (keys_of es) ps) (sym (ap (lookup (same_cell c)) h.entries_are) ∙ l) in
      let n = w.1 in
      let i : w.0 ≡ j = omega (arith, n) in (
        subst (λ (d : Coding). is_new d c ≡ false) e
            (ap (λ (b : Bool). b || not (list_any (same_cell c) (cells_at (keys_of es) ps))) f ∙ ap not w.3),
        subst (λ (d : Coding). slice_get d.cells j ≡ Some c) e (subst (λ (k : ℕ). slice_get (cells_at (keys_of es) ps) k ≡ Some c) i w.2),
      )

  pub same : (c : Cell) → is_new d c ≡ false → d ≡ coded d c
  same c n = ap (λ (b : Bool). let x : Coding = record { nulls = d.nulls; cells = cond b (d.cells ++ c ∷ []) d.cells } in x) (sym n)

  pub grown : (c : Cell) (fs : List (Cell × ℕ)) (qs : List ℕ) → cells_at (keys_of fs) qs ≡ cells_at (keys_of es) ps ++ c ∷ [] → is_new d c ≡ true → seen_as nulls fs qs ≡ coded d c
  grown c fs qs v n =
      ap (λ (xs : List Cell). let x : Coding = record { nulls = nulls; cells = xs } in x) v
      ∙ ap (λ (d : Coding). let x : Coding = record { nulls = d.nulls; cells = d.cells ++ c ∷ [] } in x) e
      ∙ ap (λ (b : Bool). let x : Coding = record { nulls = d.nulls; cells = cond b (d.cells ++ c ∷ []) d.cells } in x) (sym n)

  pub grown-at : (c : Cell) (fs : List (Cell × ℕ)) (qs : List ℕ) (k : ℕ) → cells_at (keys_of fs) qs ≡ cells_at (keys_of es) ps ++ c ∷ [] → k ≡ length ps → slice_get (cells_at (keys_of fs) qs) k ≡ Some c
  grown-at c fs qs k v n =
      let l : length (cells_at (keys_of es) ps) ≡ length ps = length-map ps _ in
      ap (λ (xs : List Cell). slice_get xs k) v ∙ at_end (cells_at (keys_of es) ps) c k (n ∙ sym l)

  pub coding : IsLaid nulls es ps → IsDistinct same_cell (keys_of es) → IsCoding d
  coding h u = subst IsCoding e (record {
    once = once nulls 0 (cells_at (keys_of es) ps) (subst (λ (fs : List (Cell × ℕ)). IsDistinct same_cell (keys_of fs)) h.entries_are u);
    short = let l : length (cells_at (keys_of es) ps) ≡ length ps = length-map ps _ in let s = h.short in omega (arith, l, s);
  })

  pub shortened : (n m : ℕ) (fs : List (Cell × ℕ)) (qs : List ℕ) → IsLaid nulls es ps → n < length ps
      → m ≡ unwrap_or (find (λ q. not (q == nowhere)) (drop n ps)) (length es) → fs ≡ take m es → qs ≡ take n ps
      → seen_as nulls fs qs ≡ record { nulls = d.nulls; cells = take n d.cells }
  shortened n m fs qs h l a f g =
      ap (λ (xs : List Cell). let x : Coding = record { nulls = nulls; cells = xs } in x) (cut nulls es ps n m fs qs h l a f g).0
      ∙ ap (λ (d : Coding). let x : Coding = record { nulls = d.nulls; cells = take n d.cells } in x) e

  pub new-code-of : (c : Cell) (k : ℕ) → is_new d c ≡ true → k ≡ length ps → IsCodeOf d c k
  new-code-of c k n g = new-code d c k n (g ∙ sym codes)

  pub old-code-of : (c : Cell) (k : ℕ) → IsLaid nulls es ps → IsDistinct same_cell (keys_of es) → is_fresh nulls c ≡ false → slice_get d.cells k ≡ Some c → IsCodeOf d c k
  old-code-of c k h u f g = old-code d c k (coding h u) (subst (λ (d : Coding). is_fresh d.nulls c ≡ false) e f) g

  -- what a look-up tells that changes nothing
  not_fresh : (c : Cell) (j : ℕ) → IsLaid nulls es ps → lookup (same_cell c) es ≡ Some j → is_fresh nulls c ≡ false
  not_fresh c j h l = found-known nulls c 0 j (cells_at (keys_of es) ps) (sym (ap (lookup (same_cell c)) h.entries_are) ∙ l)

  pub seen-old : (c : Cell) (o : Option ℕ) → IsLaid nulls es ps → o ≡ lookup (same_cell c) es → IfSome o (λ code. is_new d c ≡ false)
  seen-old c None h l = tt
  seen-old c (Some j) h l = (found-old c j h (sym l) (not_fresh c j h (sym l))).0

  pub seen-cell : (c : Cell) (o : Option ℕ) → IsLaid nulls es ps → o ≡ lookup (same_cell c) es → IfSome o (λ code. slice_get d.cells code ≡ Some c)
  seen-cell c None h l = tt
  seen-cell c (Some j) h l = (found-old c j h (sym l) (not_fresh c j h (sym l))).1

  pub seen-code-of : (c : Cell) (o : Option ℕ) → IsLaid nulls es ps → IsDistinct same_cell (keys_of es) → o ≡ lookup (same_cell c) es → IfSome o (λ code. IsCodeOf d c code)
  seen-code-of c None h u l = tt
  seen-code-of c (Some j) h u l = let f = not_fresh c j h (sym l) in old-code-of c j h u f (found-old c j h (sym l) f).1

  pub lacked-new : (c : Cell) → IsLaid nulls es ps → lookup (same_cell c) es ≡ None → is_new d c ≡ true
  lacked-new c h l = by (is_fresh nulls c) refl
    where
      by : (b : Bool) → is_fresh nulls c ≡ b → is_new d c ≡ true
      by true f = fresh-new c f
      by false f = missing-new c h l f
