-- Rows that are compared with one another, block by block.
use Rattle.std.proofs.Common.{inl, inr, ◌≡◌, ◌⊎◌, ℕ, ◌+◌, ◌<◌, ◌≤◌, true, false, sym, ap, ap₂, ◌∙◌, subst, arith, List, [], ◌∷◌, ◌++◌}
use Rattle.std.specs.List.{All}
use Rattle.std.proofs.lemmas.Bool.{true≢false, cases_lt}
use Rattle.std.proofs.lemmas.List.Elements.{All-push}
use Rattle.col_set.specs.Lists.{Listed, Listed-append_cases}
use Rattle.rel_base.specs.CodeTable.{CodeTable, live_at}
use Rattle.rel_base.specs.Shows.{code_agree}
use Rattle.rel_base.proofs.States.{All-from}
use Rattle.negative_cover.specs.declared.negative_cover.Witness.{Witness}
use Rattle.negative_cover.specs.Witnesses.{sets_of}
use Rattle.negative_cover.specs.AllPairs.{IsCodePair, AreAllPairs}
use Rattle.negative_cover.specs.FoundPairs.{HasAdded, HasCompared}
use Rattle.negative_cover.specs.LiveRows.{AreLiveBetween}
use Rattle.negative_cover.proofs.FoundPairs.{added_kept}

module _ (s : CodeTable) where
  -- ---- two rows
  pub compared_none : (first end : ℕ) (seconds : List ℕ) (found : List Witness) → ((i j : ℕ) → first ≤ i → i < end → live_at s i ≡ true → Listed j seconds → ⊥) → HasCompared s first end seconds found found
  compared_none first end seconds found none = record { kept = λ z h. h; each = λ a. a; told = λ i j f e h g l. absurd (none i j f e h g) }

  pub compared_dead : (i : ℕ) (seconds : List ℕ) (found : List Witness) → live_at s i ≡ false → HasCompared s i (i + 1) seconds found found
  compared_dead i seconds found dead = compared_none i (i + 1) seconds found (λ x y f e h g. at x h (omega arith))
    where
      at : (x : ℕ) → live_at s x ≡ true → x ≡ i → ⊥
      at x h is = true≢false (sym h ∙ ap (live_at s) is ∙ dead)

  -- a row was found dead or a pair was added
  pub compared_pair : (pair : Witness) (old new : List Witness) → 0 < pair.i → pair.i < pair.j → live_at s pair.j ≡ true → pair.agree ≡ code_agree s pair.i pair.j → HasAdded pair old new
      → (live_at s pair.i ≡ true) ⊎ (new ≡ old) → HasCompared s pair.i (pair.i + 1) (pair.j ∷ []) old new
  compared_pair pair old new positive rising second agrees added live = record {
    kept = added_kept pair old new added;
    each = λ all. grown all added.grown live;
    told = λ x y f e h g l. at x y (omega arith) g;
  }
    where
      is : live_at s pair.i ≡ true → IsCodePair s pair
      is first = record { positive = positive; rising = rising; first = first; second = second; agrees = agrees }

      grown : All (IsCodePair s) old → (new ≡ old) ⊎ (new ≡ old ++ pair ∷ []) → (live_at s pair.i ≡ true) ⊎ (new ≡ old) → All (IsCodePair s) new
      grown all (inl e) _ = subst (All (IsCodePair s)) (sym e) all
      grown all (inr e) (inl first) = subst (All (IsCodePair s)) (sym e) (All-push (IsCodePair s) old pair all (is first))
      grown all (inr e) (inr same) = subst (All (IsCodePair s)) (sym same) all

      at : (x y : ℕ) → x ≡ pair.i → Listed y (pair.j ∷ []) → Listed (code_agree s x y) (sets_of new)
      at x y e (inl f) = subst (λ (z : ℕ). Listed z (sets_of new)) (agrees ∙ ap₂ (code_agree s) (sym e) (sym f)) added.told
      at x y e (inr g) = absurd g

  -- ---- rows one after another
  pub compared_further : (first mid end : ℕ) (seconds : List ℕ) (old between new : List Witness) → HasCompared s first mid seconds old between → HasCompared s mid end seconds between new → HasCompared s first end seconds old new
  compared_further first mid end seconds old between new a b = record {
    kept = λ z h. b.kept z (a.kept z h);
    each = λ all. b.each (a.each all);
    told = λ i j f e h g l. at i j f e h g l (cases_lt i mid);
  }
    where
      at : (i j : ℕ) → first ≤ i → i < end → live_at s i ≡ true → Listed j seconds → i < j → (i < mid) ⊎ (mid ≤ i) → Listed (code_agree s i j) (sets_of new)
      at i j f e h g l (inl m) = b.kept _ (a.told i j f m h g l)
      at i j f e h g l (inr m) = b.told i j m e h g l

  pub compared_next : (first k i m j : ℕ) (old between new : List Witness) → i ≡ first + k → m ≡ first + (k + 1) → HasCompared s first (first + k) (j ∷ []) old between → HasCompared s i (i + 1) (j ∷ []) between new
      → HasCompared s first m (j ∷ []) old new
  compared_next first k i m j old between new place next a b =
      let last : i + 1 ≡ m = omega arith in
      compared_further first (first + k) m (j ∷ []) old between new a
      (subst (λ (n : ℕ). HasCompared s (first + k) n (j ∷ []) between new) last (subst (λ (n : ℕ). HasCompared s n (i + 1) (j ∷ []) between new) place b))

  pub compared_later : (first end j : ℕ) (seconds : List ℕ) (old between new : List Witness) → HasCompared s first end seconds old between → HasCompared s first end (j ∷ []) between new → HasCompared s first end (seconds ++ j ∷ []) old new
  compared_later first end j seconds old between new a b = record {
    kept = λ z h. b.kept z (a.kept z h);
    each = λ all. b.each (a.each all);
    told = λ x y f e h g l. at x y f e h l (Listed-append_cases y seconds (j ∷ []) g);
  }
    where
      at : (x y : ℕ) → first ≤ x → x < end → live_at s x ≡ true → x < y → Listed y seconds ⊎ Listed y (j ∷ []) → Listed (code_agree s x y) (sets_of new)
      at x y f e h l (inl g) = b.kept _ (a.told x y f e h g l)
      at x y f e h l (inr g) = b.told x y f e h g l

  -- rows that are not before the late one need not be compared with it
  pub compared_before : (first near end j : ℕ) (old new : List Witness) → (near < end → j ≤ near) → HasCompared s first near (j ∷ []) old new → HasCompared s first end (j ∷ []) old new
  compared_before first near end j old new none a = record {
    kept = a.kept;
    each = a.each;
    told = λ x y f e h g l. at x y f e h g l (cases_lt x near);
  }
    where
      late : (x y : ℕ) → x < end → near ≤ x → x < y → Listed y (j ∷ []) → ⊥
      late x y e m l (inl is) = let n = none (omega arith) in omega arith
      late x y e m l (inr g) = g

      at : (x y : ℕ) → first ≤ x → x < end → live_at s x ≡ true → Listed y (j ∷ []) → x < y → (x < near) ⊎ (near ≤ x) → Listed (code_agree s x y) (sets_of new)
      at x y f e h g l (inl m) = a.told x y f m h g l
      at x y f e h g l (inr m) = absurd (late x y e m l g)

  pub compared_after : (first end j : ℕ) (found : List Witness) → j ≤ first → HasCompared s first end (j ∷ []) found found
  compared_after first end j found early = record { kept = λ z h. h; each = λ a. a; told = λ x y f e h g l. absurd (none x y f g l) }
    where
      none : (x y : ℕ) → first ≤ x → Listed y (j ∷ []) → x < y → ⊥
      none x y f (inl is) l = omega arith
      none x y f (inr g) l = g

  -- ---- block by block
  -- the pairs are of live rows, and have what each live row below a number and each live row after it, from another number on, agree on
  pub record AreComparedBelow (from n : ℕ) (found : List Witness) : Type 0 where
    pub each : All (IsCodePair s) found
    pub told : (i j : ℕ) → 0 < i → i < n → i < j → from ≤ j → j < s.to → live_at s i ≡ true → live_at s j ≡ true → Listed (code_agree s i j) (sets_of found)

  pub compared_nothing : (from : ℕ) (found : List Witness) → found ≡ [] → AreComparedBelow from 1 found
  compared_nothing from found e = record {
    each = All-from (IsCodePair s) found (λ f h. absurd (subst (Listed f) e h));
    told = λ i j p l m o n h g. absurd (omega arith);
  }

  pub compared_block : (from n m to : ℕ) (late : List ℕ) (found new : List Witness) → to ≡ s.to → AreLiveBetween s from to late → HasCompared s n m late found new → AreComparedBelow from n found → AreComparedBelow from m new
  compared_block from n m to late found new whole b c before = record {
    each = c.each before.each;
    told = λ i j p l r o k h g. at i j p l r o k h g (cases_lt i n);
  }
    where
      at : (i j : ℕ) → 0 < i → i < m → i < j → from ≤ j → j < s.to → live_at s i ≡ true → live_at s j ≡ true → (i < n) ⊎ (n ≤ i) → Listed (code_agree s i j) (sets_of new)
      at i j p l r o k h g (inl d) = c.kept _ (before.told i j p d r o k h g)
      at i j p l r o k h g (inr d) = c.told i j d l h (b.every j o (omega arith) g) r

  pub all_pairs-from : (from n : ℕ) (found : List Witness) → s.to ≤ n → AreComparedBelow from n found → AreAllPairs s from found
  all_pairs-from from n found l a = record {
    each = a.each;
    told = λ i j p m o k h g. let less : i < n = omega arith in a.told i j p less m o k h g;
  }
