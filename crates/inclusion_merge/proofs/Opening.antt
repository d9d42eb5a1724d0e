-- What is left of the open pairs, and the inclusions.
use Rattle.std.proofs.Common.{◌≡◌, ◌∙◌, ◌||◌, inl, inr, ℕ, arith, Bool, true, false, cond, not, refl, sym, ap, subst, List, [], ◌∷◌, length, filter}
use Rattle.col_set.specs.Lists.{Listed, Listed-filter, Listed-filter_parts, filter_same}
use Rattle.col_set.proofs.Places.{Contains-listed, Listed-contained}
use Rattle.rel_base.specs.Cells.{Cell}
use Rattle.rel_base.specs.Inclusion.{included, inclusions}
use Rattle.rel_base.proofs.Parts.{Included-tested, included-true}
use Rattle.inclusion_merge.specs.Asked.{AreAsked, AreWithin, PicksDependents, TellsPicked}
use Rattle.inclusion_merge.specs.Open.{IsOpen, is_settled}
use Rattle.inclusion_merge.specs.declared.open.Open.{Open}

same_answer : (a b : Bool) → (a ≡ true → b ≡ true) → (b ≡ true → a ≡ true) → a ≡ b
same_answer true b f g = sym (f refl)
same_answer false true f g = g refl
same_answer false false f g = refl

filter_all : {X : Type 0} (p : X → Bool) (xs : List X) → ((x : X) → Listed x xs → p x ≡ true) → filter p xs ≡ xs
filter_all p [] f = refl
filter_all p (x ∷ xs) f = ap (λ b. cond b (x ∷ filter p xs) (filter p xs)) (f x (inl refl)) ∙ ap (λ ys. x ∷ ys) (filter_all p xs (λ y h. f y (inr h)))

module _ (columns : List (List Cell)) (o : Open) (is_open : IsOpen columns o) where
  abbrev left : List (ℕ × ℕ)
  left = filter (λ p. not (is_settled o p.0)) o.pairs.items

  left_listed : (p : ℕ × ℕ) → Listed p o.pairs.items → is_settled o p.0 ≡ false → Listed p left
  left_listed p h e = Listed-filter (λ (p : ℕ × ℕ). not (is_settled o p.0)) p o.pairs.items h (ap not e)

  open_listed : (p : ℕ × ℕ) → Listed p left → Listed p o.pairs.items
  open_listed p h = (Listed-filter_parts (λ (p : ℕ × ℕ). not (is_settled o p.0)) p o.pairs.items h).0

  pub left_within : AreWithin (length columns) left
  left_within p h = is_open.pairs.within p (open_listed p h)

  -- where no pair is left, each one is an inclusion
  pub none_left : left ≡ [] → o.pairs.items ≡ inclusions columns
  none_left none = sym (filter_all (λ p. included columns p.0 p.1) o.pairs.items (λ p h. by p h (is_settled o p.0) refl)) ∙ is_open.pairs.all
    where
      by : (p : ℕ × ℕ) → Listed p o.pairs.items → (b : Bool) → is_settled o p.0 ≡ b → included columns p.0 p.1 ≡ true
      by p h true e = is_open.settled p h e
      by p h false e = absurd (subst (λ (ps : List (ℕ × ℕ)). Listed p ps) none (left_listed p h e))

  -- a round that asks of the pairs that are left by all values of their dependent columns tells which of them are inclusions
  module _ (asked : List (List Cell)) (picked : Cell → Bool) (has : ℕ → ℕ → Bool) (asks : AreAsked columns left asked) (picks : PicksDependents columns left picked) (tells : TellsPicked picked asked has) where
    told_included : (p : ℕ × ℕ) → Listed p left → has p.0 p.1 ≡ included columns p.0 p.1
    told_included p h =
        let within = left_within p h in
        let long = asks.count in
        let told = tells p.0 p.1 (omega arith) (omega arith) in
        let first = asks.dependent p h in
        let second = asks.referenced p h in
        same_answer (has p.0 p.1) (included columns p.0 p.1)
        (λ e. included-true columns p.0 p.1 (record {
          dependent = within.0;
          referenced = within.1;
          other = is_open.pairs.other p (open_listed p h);
          each =
              λ a k filled.
              let here = Listed-contained a _ k in
              Contains-listed a _ (subst (λ (xs : List Cell). Listed a xs) second (told.0 e a (subst (λ (xs : List Cell). Listed a xs) (sym first) here) filled (picks p h a here)));
        }))
        (λ e.
        let i = Included-tested columns p.0 p.1 within.0 within.1 e in
        told.1 (λ a k filled here.
        subst (λ (xs : List Cell). Listed a xs) (sym second) (Listed-contained a _ (i.each a (Contains-listed a _ (subst (λ (xs : List Cell). Listed a xs) first k)) filled))))

    pub kept-inclusions : filter (λ p. is_settled o p.0 || has p.0 p.1) o.pairs.items ≡ inclusions columns
    kept-inclusions =
        filter_same (λ p. is_settled o p.0 || has p.0 p.1) (λ p. included columns p.0 p.1) o.pairs.items (λ p h. by p h (is_settled o p.0) refl) ∙ is_open.pairs.all
      where
        by : (p : ℕ × ℕ) → Listed p o.pairs.items → (b : Bool) → is_settled o p.0 ≡ b → (is_settled o p.0 || has p.0 p.1) ≡ included columns p.0 p.1
        by p h true e = ap (λ b. b || has p.0 p.1) e ∙ sym (is_open.settled p h e)
        by p h false e = ap (λ b. b || has p.0 p.1) e ∙ told_included p (left_listed p h e)
