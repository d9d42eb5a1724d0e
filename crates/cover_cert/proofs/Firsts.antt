-- The first element that passes a test, and the first place where two sequences part.
use Rattle.std.proofs.Common.{◌≡◌, ℕ, zero, suc, ◌+◌, ◌<◌, ◌≤◌, Bool, true, false, cond, ◌&&◌, eqb, refl, sym, ap, ap₂, ◌∙◌, arith, List, [], ◌∷◌, length, get_or, drop, Option, Some, None}
use Rattle.std.proofs.lemmas.Bool.{false≢true, and_parts, eqb-true, eq-eqb}
use Rattle.std.proofs.lemmas.Option.{none-some}
use Rattle.std.proofs.lemmas.List.{drop_more, drop_all}
use Rattle.col_set.specs.declared.target.Target.{Target}
use Rattle.col_set.specs.declared.target.Target.TheVariants.{Col, RowId}
use Rattle.cover_cert.specs.declared.line.Claim.{Claim}
use Rattle.cover_cert.specs.declared.comparing.Compared.{Compared}
use Rattle.cover_cert.specs.Comparing.{same_target, same_claim, departs_at, departs_then, first_where}

-- ---- the first that passes
module _ {A : Type 0} (p : A → Bool) where
  pub first_where-none : (number : ℕ) (xs : List A) → ((k : ℕ) (d : A) → k < length xs → p (get_or xs k d) ≡ false) → first_where p number xs ≡ None
  unfolding first_where
  first_where-none number [] f = refl
  first_where-none number (x ∷ xs) f =
      ap (λ b. cond b (Some number) (first_where p (suc number) xs)) (f 0 x (omega arith))
      ∙ first_where-none (suc number) xs (λ k d l. f (suc k) d (omega arith))

  first_from : (number : ℕ) (xs : List A) (place : ℕ) (d : A) → place < length xs → p (get_or xs place d) ≡ true → ((k : ℕ) (d : A) → k < place → p (get_or xs k d) ≡ false)
      → (n : ℕ) → n ≡ number + place → first_where p number xs ≡ Some n
  unfolding first_where
  first_from number [] place d l e f n i = absurd (omega arith)
  first_from number (x ∷ xs) zero d l e f n i =
      ap (λ b. cond b (Some number) (first_where p (suc number) xs)) e ∙ ap Some (let j : number ≡ n = omega arith in j)
  first_from number (x ∷ xs) (suc place) d l e f n i =
      ap (λ b. cond b (Some number) (first_where p (suc number) xs)) (f 0 x (omega arith))
      ∙ first_from (suc number) xs place d (omega arith) e (λ k d m. f (suc k) d (omega arith)) n (omega arith)

  pub first_where-at : (number : ℕ) (xs : List A) (place : ℕ) (d : A) → place < length xs → p (get_or xs place d) ≡ true → ((k : ℕ) (d : A) → k < place → p (get_or xs k d) ≡ false)
      → first_where p number xs ≡ Some (number + place)
  first_where-at number xs place d l e f = first_from number xs place d l e f (number + place) refl

  pub none-first_where : (number : ℕ) (xs : List A) → first_where p number xs ≡ None → (k : ℕ) (d : A) → k < length xs → p (get_or xs k d) ≡ false
  unfolding first_where
  none-first_where number [] e k d l = absurd (omega arith)
  none-first_where number (x ∷ xs) e k d l = by (p x) refl e (λ g j m. none-first_where (suc number) xs g j d m) k l
    where
      by : (b : Bool) → p x ≡ b → cond b (Some number) (first_where p (suc number) xs) ≡ None
          → (first_where p (suc number) xs ≡ None → (j : ℕ) → j < length xs → p (get_or xs j d) ≡ false) → (k : ℕ) → k < suc (length xs) → p (get_or (x ∷ xs) k d) ≡ false
      by true i g rest k m = absurd (none-some number (sym g))
      by false i g rest zero m = i
      by false i g rest (suc k) m = rest g k (omega arith)

  pub first_where-same : (q : A → Bool) (number : ℕ) (xs : List A) → ((x : A) → p x ≡ q x) → first_where p number xs ≡ first_where q number xs
  unfolding first_where
  first_where-same q number [] e = refl
  first_where-same q number (x ∷ xs) e = ap₂ (λ (b : Bool) (o : Option ℕ). cond b (Some number) o) (e x) (first_where-same q (suc number) xs e)

-- ---- two sequences
same_target-true : (s t : Target) → same_target s t ≡ true → s ≡ t
same_target-true (Col a) (Col b) e = ap Col (eqb-true a b e)
same_target-true (Col a) RowId e = absurd (false≢true e)
same_target-true RowId (Col b) e = absurd (false≢true e)
same_target-true RowId RowId e = refl

true-same_target : (t : Target) → same_target t t ≡ true
true-same_target (Col a) = eq-eqb a a refl
true-same_target RowId = refl

pub same_claim-true : (c w : Claim) → same_claim c w ≡ true → c ≡ w
same_claim-true c w e = let p = and_parts (eqb c.left w.left) (same_target c.target w.target) e in
    ap₂ (λ (x : ℕ) (t : Target). record { left = x; target = t }) (eqb-true c.left w.left p.0) (same_target-true c.target w.target p.1)

pub true-same_claim : (c : Claim) → same_claim c c ≡ true
true-same_claim c = ap₂ (λ a b. a && b) (eq-eqb c.left c.left refl) (true-same_target c.target)

-- nothing departs exactly where the sequences are the same
pub departs-none : (number : ℕ) (wanted claims : List Claim) → departs_at number wanted claims ≡ None → claims ≡ wanted
unfolding departs_at
departs-none number [] [] e = refl
departs-none number [] (c ∷ cs) e = absurd (none-some number (sym e))
departs-none number (w ∷ ws) [] e = absurd (none-some number (sym e))
departs-none number (w ∷ ws) (c ∷ cs) e = by (same_claim c w) refl e (λ g. departs-none (suc number) ws cs g)
  where
    by : (b : Bool) → same_claim c w ≡ b → cond b (departs_at (suc number) ws cs) (Some number) ≡ None → (departs_at (suc number) ws cs ≡ None → cs ≡ ws) → c ∷ cs ≡ w ∷ ws
    by true i g rest = ap₂ (λ (x : Claim) (xs : List Claim). x ∷ xs) (same_claim-true c w i) (rest g)
    by false i g rest = absurd (none-some number (sym g))

pub none-departs : (number : ℕ) (claims : List Claim) → departs_at number claims claims ≡ None
unfolding departs_at
none-departs number [] = refl
none-departs number (c ∷ cs) = ap (λ b. cond b (departs_at (suc number) cs cs) (Some number)) (true-same_claim c) ∙ none-departs (suc number) cs

-- where the compared part departs, or does not
pub then-departs : (number : ℕ) (claims : List Claim) (so_far : Compared) (more : List Claim) → so_far.departs ≡ true → departs_then number claims so_far more ≡ Some (number + so_far.place)
then-departs number claims so_far more e = ap (λ b. cond b (Some (number + so_far.place)) (departs_at (number + so_far.place) more (drop so_far.place claims))) e

pub then-goes_on : (number : ℕ) (claims : List Claim) (so_far : Compared) (more : List Claim) → so_far.departs ≡ false
    → departs_then number claims so_far more ≡ departs_at (number + so_far.place) more (drop so_far.place claims)
then-goes_on number claims so_far more e = ap (λ b. cond b (Some (number + so_far.place)) (departs_at (number + so_far.place) more (drop so_far.place claims))) e

-- one element more
module _ (number : ℕ) (claims : List Claim) (place : ℕ) (w : Claim) (ws : List Claim) where
  pub departs-short : length claims ≤ place → departs_at (number + place) (w ∷ ws) (drop place claims) ≡ Some (number + place)
  unfolding departs_at
  departs-short l = ap (departs_at (number + place) (w ∷ ws)) (drop_all place claims l)

  opened : (d : Claim) → place < length claims → departs_at (number + place) (w ∷ ws) (drop place claims) ≡ cond (same_claim (get_or claims place d) w) (departs_at (suc (number + place)) ws (drop (place + 1) claims)) (Some (number + place))
  unfolding departs_at
  opened d l = ap (departs_at (number + place) (w ∷ ws)) (drop_more claims place d l)

  pub departs-other : (d : Claim) → place < length claims → same_claim (get_or claims place d) w ≡ false → departs_at (number + place) (w ∷ ws) (drop place claims) ≡ Some (number + place)
  departs-other d l e = opened d l ∙ ap (λ b. cond b (departs_at (suc (number + place)) ws (drop (place + 1) claims)) (Some (number + place))) e

  pub departs-same : (d : Claim) → place < length claims → same_claim (get_or claims place d) w ≡ true
      → departs_at (number + place) (w ∷ ws) (drop place claims) ≡ departs_at (number + (place + 1)) ws (drop (place + 1) claims)
  departs-same d l e = opened d l ∙ ap (λ b. cond b (departs_at (suc (number + place)) ws (drop (place + 1) claims)) (Some (number + place))) e
      ∙ ap (λ (n : ℕ). departs_at n ws (drop (place + 1) claims)) (let s : suc (number + place) ≡ number + (place + 1) = omega arith in s)

pub departs-end : (number : ℕ) (claims : List Claim) (place : ℕ) → length claims ≤ place → departs_at (number + place) [] (drop place claims) ≡ None
unfolding departs_at
departs-end number claims place l = ap (departs_at (number + place) []) (drop_all place claims l)

pub departs-more : (number : ℕ) (claims : List Claim) (place : ℕ) → place < length claims → departs_at (number + place) [] (drop place claims) ≡ Some (number + place)
unfolding departs_at
departs-more number claims place l = by claims place l
  where
    by : (cs : List Claim) (k : ℕ) → k < length cs → departs_at (number + place) [] (drop k cs) ≡ Some (number + place)
    by [] k m = absurd (omega arith)
    by (c ∷ cs) zero m = refl
    by (c ∷ cs) (suc k) m = by cs k (omega arith)
