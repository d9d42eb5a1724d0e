-- Histories that grow by one turn.
use Rattle.std.proofs.Common.{◌≡◌, ◌⊎◌, ℕ, ◌==◌, ◌≤◌, ◌<◌, Bool, true, false, cond, if◌then◌else◌, eq-eqb, ne_eqb, inl, inr, ⊎_elim, length, arith, List, [], ◌∷◌, ◌++◌, sym, refl, ap, ◌∙◌, subst, append_assoc}
use Rattle.std.proofs.lemmas.List.{append-nil}
use Rattle.std.proofs.lemmas.Bool.{lt-ltb, le-ltb}
use native.Mathlib.Decide.{dec_le}
use mathlib.Core.Logic.{dite}
use Rattle.desk_lock.specs.declared.history.Entry.{Entry}
use Rattle.desk_lock.specs.History.{entry, LegalFrom, Legal, NoneIn, Begins, GoesOn, calls_of}
use Rattle.desk_lock.specs.Views.{longer}

module _ {C R : Type 0} where
  pub none-snoc : (home : ℕ → Type 0) (es : List (Entry C R)) (e : Entry C R) → NoneIn home es → ¬ (home e.number) → NoneIn home (es ++ e ∷ [])
  none-snoc home [] e h n = (n, tt)
  none-snoc home (x ∷ xs) e h n = (h.0, none-snoc home xs e h.1 n)

  pub none-append : (home : ℕ → Type 0) (xs ys : List (Entry C R)) → NoneIn home xs → NoneIn home ys → NoneIn home (xs ++ ys)
  none-append home [] ys a b = b
  none-append home (x ∷ xs) ys a b = (a.0, none-append home xs ys a.1 b)

  pub none-narrower : (home other : ℕ → Type 0) (es : List (Entry C R)) → ((n : ℕ) → other n → home n) → NoneIn home es → NoneIn other es
  none-narrower home other [] f h = tt
  none-narrower home other (x ∷ xs) f h = ((λ o. h.0 (f x.number o)), none-narrower home other xs f h.1)

  pub snoc_on : (home : ℕ → Type 0) (seen later : List (Entry C R)) (e : Entry C R) → GoesOn home seen later → ¬ (home e.number) → GoesOn home seen (later ++ e ∷ [])
  snoc_on home seen later e g n = (g.0 ++ e ∷ [], ap (λ (l : List (Entry C R)). l ++ e ∷ []) g.1 ∙ append_assoc seen g.0 (e ∷ []), none-snoc home g.0 e g.2 n)

  pub none-nowhere : (home : ℕ → Type 0) (es : List (Entry C R)) → ((n : ℕ) → ¬ (home n)) → NoneIn home es
  none-nowhere home [] f = tt
  none-nowhere home (x ∷ xs) f = (f x.number, none-nowhere home xs f)

  pub on_nowhere : (home : ℕ → Type 0) (later : List (Entry C R)) → ((n : ℕ) → ¬ (home n)) → GoesOn home [] later
  on_nowhere home later f = (later, refl, none-nowhere home later f)

  none-both : (one other home : ℕ → Type 0) (es : List (Entry C R)) → ((n : ℕ) → home n → one n ⊎ other n) → NoneIn one es → NoneIn other es → NoneIn home es
  none-both one other home [] f a b = tt
  none-both one other home (x ∷ xs) f a b = ((λ h. ⊎_elim a.0 b.0 (f x.number h)), none-both one other home xs f a.1 b.1)

  pub none-start : (home : ℕ → Type 0) (xs ys : List (Entry C R)) → NoneIn home (xs ++ ys) → NoneIn home xs
  none-start home [] ys h = tt
  none-start home (x ∷ xs) ys h = (h.0, none-start home xs ys h.1)

  pub none-end : (home : ℕ → Type 0) (xs ys : List (Entry C R)) → NoneIn home (xs ++ ys) → NoneIn home ys
  none-end home [] ys h = h
  none-end home (x ∷ xs) ys h = none-end home xs ys h.1

  -- where both lie outside the home, nothing is left
  pub none-all : (home : ℕ → Type 0) (bound : ℕ) (es : List (Entry C R)) → ((n : ℕ) → n < bound → home n) → NoneIn home es → NoneIn (λ n. bound ≤ n) es → es ≡ []
  none-all home bound [] f a b = refl
  none-all home bound (x ∷ xs) f a b = let low : ¬ (bound ≤ x.number) = b.0 in absurd (a.0 (f x.number (dite (dec_le bound x.number) (λ z. absurd (low z)) (λ z. omega arith))))

  -- of two beginnings of one list the shorter begins the longer
  begun : (a b ra rb : List (Entry C R)) → a ++ ra ≡ b ++ rb → length a ≤ length b → (mid : List (Entry C R)) × (b ≡ a ++ mid) × (ra ≡ mid ++ rb)
  begun [] b ra rb e le = (b, refl, e)
  begun (x ∷ a) [] ra rb e le = absurd (omega arith)
  begun (x ∷ a) (y ∷ b) ra rb e le = let heads : x ≡ y = cc in let r = begun a b ra rb (cc) (omega arith) in (r.0, (let t = r.1 in cc), r.2)

  -- two beginnings of one history: one begins the other
  pub begins-either : (a b history : List (Entry C R)) → Begins a history → Begins b history → Begins a b ⊎ Begins b a
  begins-either a b history f g = dite (dec_le (length a) (length b))
      (λ le. let m = begun a b f.0 g.0 (sym f.1 ∙ g.1) le in inl (m.0, m.1))
      (λ lt. let m = begun b a g.0 f.0 (sym g.1 ∙ f.1) (omega arith) in inr (m.0, m.1))

  joined_short : (one other home : ℕ → Type 0) (a b later : List (Entry C R)) → ((n : ℕ) → home n → one n ⊎ other n) → length a ≤ length b → GoesOn one a later → GoesOn other b later
      → GoesOn one a b × GoesOn other b b × GoesOn home b later
  joined_short one other home a b later f le g h = let m = begun a b g.0 h.0 (sym g.1 ∙ h.1) le in let none : NoneIn one (m.0 ++ h.0) = subst (NoneIn one) m.2 g.2 in (
    (m.0, m.1, none-start one m.0 h.0 none),
    ([], sym (append-nil b), tt),
    (h.0, h.1, none-both one other home h.0 f (none-end one m.0 h.0 none) h.2),
  )

  -- two passes that are one now have seen the longer of the two
  pub joined_on : (one other home : ℕ → Type 0) (a b later : List (Entry C R)) → ((n : ℕ) → home n → one n ⊎ other n) → GoesOn one a later → GoesOn other b later
      → GoesOn one a (longer a b) × GoesOn other b (longer a b) × GoesOn home (longer a b) later
  joined_on one other home a b later f g h = let G : Bool → Type 0 = λ t. GoesOn one a (cond t b a) × GoesOn other b (cond t b a) × GoesOn home (cond t b a) later in
      dite (dec_le (length b) (length a))
      (λ le. subst G (sym (le-ltb (length a) (length b) le)) (let r = joined_short other one home b a later (λ n i. ⊎_elim inr inl (f n i)) le h g in (r.1, r.0, r.2)))
      (λ lt. subst G (sym (lt-ltb (length a) (length b) (omega arith))) (joined_short one other home a b later f (omega arith) g h))

-- The calls of one number.
module _ {C R : Type 0} where
  pub calls_of-append : (number : ℕ) (xs ys : List (Entry C R)) → calls_of number (xs ++ ys) ≡ calls_of number xs ++ calls_of number ys
  calls_of-append number [] ys = refl
  calls_of-append number (x ∷ xs) ys = go (x.number == number) (calls_of-append number xs ys)
    where
      go : (b : Bool) → calls_of number (xs ++ ys) ≡ calls_of number xs ++ calls_of number ys → (if b then x ∷ calls_of number (xs ++ ys) else calls_of number (xs ++ ys)) ≡ (if b then x ∷ calls_of number xs else calls_of number xs) ++ calls_of number ys
      go true e = ap (λ (l : List (Entry C R)). x ∷ l) e
      go false e = e

  pub calls_of-none : (home : ℕ → Type 0) (number : ℕ) (es : List (Entry C R)) → home number → NoneIn home es → calls_of number es ≡ []
  calls_of-none home number [] h none = refl
  calls_of-none home number (e ∷ es) h none = ap (λ (b : Bool). if b then e ∷ calls_of number es else calls_of number es) (ne_eqb e.number number (λ is. none.0 (subst home (sym is) h))) ∙ calls_of-none home number es h none.1

  pub calls_of-goes_on : (home : ℕ → Type 0) (number : ℕ) (seen later : List (Entry C R)) → home number → GoesOn home seen later → calls_of number later ≡ calls_of number seen
  calls_of-goes_on home number seen later h g = ap (calls_of number) g.1 ∙ calls_of-append number seen g.0 ∙ ap (λ (l : List (Entry C R)). calls_of number seen ++ l) (calls_of-none home number g.0 h g.2) ∙ append-nil (calls_of number seen)

  pub calls_of-one : (number : ℕ) (call : C) (reply : R) → calls_of number (entry number call reply ∷ []) ≡ entry number call reply ∷ []
  calls_of-one number call reply = let e : Entry C R = entry number call reply in let none : List (Entry C R) = [] in ap (λ (b : Bool). if b then e ∷ none else none) (eq-eqb number number refl)

module _ {T C R : Type 0} (step : T → C → R → T → Type 0) (may : T → ℕ → List (Entry C R) → C → Type 0) where
  pub legal_from-snoc : (opened : T) (past : List (Entry C R)) (x : T) (es : List (Entry C R)) (y : T) (n : ℕ) (c : C) (r : R) (z : T) → LegalFrom step may opened past x es y → may opened n (past ++ es) c → step y c r z
      → LegalFrom step may opened past x (es ++ entry n c r ∷ []) z
  legal_from-snoc opened past x [] y n c r z l m s = (subst (λ (l : List (Entry C R)). may opened n l c) (append-nil past) m, (z, subst (λ (w : T). step w c r z) (sym l) s, refl))
  legal_from-snoc opened past x (e ∷ es) y n c r z l m s = (l.0, (l.1.0, l.1.1, legal_from-snoc opened (past ++ e ∷ []) l.1.0 es y n c r z l.1.2 (subst (λ (l : List (Entry C R)). may opened n l c) (sym (append_assoc past (e ∷ []) es)) m) s))

  pub legal-snoc : (opened : T) (es : List (Entry C R)) (y : T) (n : ℕ) (c : C) (r : R) (z : T) → Legal step may opened es y → may opened n es c → step y c r z → Legal step may opened (es ++ entry n c r ∷ []) z
  legal-snoc opened es y n c r z l m s = legal_from-snoc opened [] opened es y n c r z l m s

  last_from : (opened : T) (past : List (Entry C R)) (x : T) (es : List (Entry C R)) (e : Entry C R) (z : T) → LegalFrom step may opened past x (es ++ e ∷ []) z
      → (y : T) × LegalFrom step may opened past x es y × may opened e.number (past ++ es) e.call × step y e.call e.reply z
  last_from opened past x [] e z l = (x, refl, subst (λ (w : List (Entry C R)). may opened e.number w e.call) (sym (append-nil past)) l.0, subst (λ (w : T). step x e.call e.reply w) l.1.2 l.1.1)
  last_from opened past x (a ∷ es) e z l = let r = last_from opened (past ++ a ∷ []) l.1.0 es e z l.1.2 in
      (r.0, (l.0, (l.1.0, l.1.1, r.1)), subst (λ (w : List (Entry C R)). may opened e.number w e.call) (append_assoc past (a ∷ []) es) r.2, r.3)

  splits_from : (opened : T) (past : List (Entry C R)) (x : T) (es fs : List (Entry C R)) (z : T) → LegalFrom step may opened past x (es ++ fs) z
      → (y : T) × LegalFrom step may opened past x es y × LegalFrom step may opened (past ++ es) y fs z
  splits_from opened past x [] fs z l = (x, refl, subst (λ (w : List (Entry C R)). LegalFrom step may opened w x fs z) (sym (append-nil past)) l)
  splits_from opened past x (e ∷ es) fs z l = let r = splits_from opened (past ++ e ∷ []) l.1.0 es fs z l.1.2 in
      (r.0, (l.0, (l.1.0, l.1.1, r.1)), subst (λ (w : List (Entry C R)). LegalFrom step may opened w r.0 fs z) (append_assoc past (e ∷ []) es) r.2)

  -- a beginning of a legal history is legal, and the rest goes on from where it led
  pub legal-begins : (opened : T) (es fs : List (Entry C R)) (z : T) → Legal step may opened (es ++ fs) z → (y : T) × Legal step may opened es y × LegalFrom step may opened es y fs z
  legal-begins opened es fs z l = splits_from opened [] opened es fs z l

  -- the last entry is a step from the state after the others, which its pass might make
  pub legal-last : (opened : T) (es : List (Entry C R)) (e : Entry C R) (z : T) → Legal step may opened (es ++ e ∷ []) z → (y : T) × Legal step may opened es y × may opened e.number es e.call × step y e.call e.reply z
  legal-last opened es e z l = last_from opened [] opened es e z l

  -- what holds at the opening, and stays over each step, holds after each legal history
  pub legal-stays : (P : List (Entry C R) → T → Type 0) (opened : T) → P [] opened
      → ((past : List (Entry C R)) (x : T) (e : Entry C R) (y : T) → P past x → may opened e.number past e.call → step x e.call e.reply y → P (past ++ e ∷ []) y)
      → (es : List (Entry C R)) (y : T) → Legal step may opened es y → P es y
  legal-stays P opened start goes es y l = go [] opened es y start l
    where
      go : (past : List (Entry C R)) (x : T) (es : List (Entry C R)) (y : T) → P past x → LegalFrom step may opened past x es y → P (past ++ es) y
      go past x [] y p l = subst (λ (z : List (Entry C R) × T). P z.0 z.1) (λ i. (sym (append-nil past) i, l i)) p
      go past x (e ∷ es) y p l = subst (λ (w : List (Entry C R)). P w y) (append_assoc past (e ∷ []) es) (go (past ++ e ∷ []) l.1.0 es y (goes past x e l.1.0 p l.0 l.1.1) l.1.2)
