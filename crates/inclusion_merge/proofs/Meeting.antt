-- The least of the first values, and the lists that begin with it, list by list.
use Rattle.std.proofs.Common.{◌≡◌, ◌∙◌, ◌↔◌, ◌||◌, ◌+◌, ◌<◌, ℕ, arith, Bool, true, false, eqb, refl, sym, ap, subst, List, [], ◌∷◌, below_more, Option, Some, None, is_some, MatchBool, Less, Equal, Greater}
use Rattle.std.specs.Borrow.{Bor}
use Rattle.std.specs.Cmp.Lexicographic.{same_text}
use Rattle.std.specs.Ordering.{is_eq, is_gt, ordering_reverse}
use Rattle.std.proofs.lemmas.Bool.{eq-eqb, false≢true, ne_eqb}
use Rattle.std.proofs.lemmas.Cmp.{tied_itself}
use Rattle.rel_base.specs.Cells.{Cell}
use Rattle.inclusion_merge.specs.Order.{value_ties, value_total}
use Rattle.inclusion_merge.specs.Values.{value_cmp}
use Rattle.inclusion_merge.specs.Sharing.{AllEnded, BeginsWith, IsNotAbove, LeastSoFar, Marked, SharesLeast, list_at}
use Rattle.inclusion_merge.proofs.Merging.{begins_not_above, ended_not_above, first_least, gt-lt, not_above_less, still_least}

same_value : (x y : Cell) → value_cmp x y ≡ Equal → x ≡ y
same_value x y e = same_text x y (sym (value_ties x y ∙ ap is_eq e))

or-none : (a : Bool) (k i : ℕ) → (k ≡ i → ⊥) → (a || eqb k i) ≡ a
or-none a k i other = ap (λ b. a || b) (ne_eqb k i other) ∙ or-false a
  where
    or-false : (b : Bool) → (b || false) ≡ b
    or-false true = refl
    or-false false = refl

or-true : (b : Bool) → (b || true) ≡ true
or-true true = refl
or-true false = refl

begins_not : (value : Cell) (l : List Cell) → l ≡ [] → BeginsWith value l → ⊥
begins_not value l e h = subst (λ (w : List Cell). BeginsWith value w) e h

-- a list that begins with no value below one does not begin with a lesser one
begins_not_less : (value first : Cell) (l : List Cell) → IsNotAbove value l → value_cmp first value ≡ Less → BeginsWith first l → ⊥
begins_not_less value first [] h less g = g
begins_not_less value first (z ∷ zs) h less g =
    false≢true (sym h ∙ ap (λ (w : Cell). is_gt (value_cmp value w)) g ∙ gt-lt value first less)

module _ (lists : List (List Cell)) (i : ℕ) where
  -- the marks of none but this list
  alone : (shared : ℕ → Bool) (value : Cell) → BeginsWith value (list_at lists i) → ((k : ℕ) → k < i → BeginsWith value (list_at lists k) → ⊥) → (none : ℕ → Bool) → ((k : ℕ) → none k ≡ false)
      → ((k : ℕ) → shared k ≡ (none k || eqb k i)) → Marked shared value lists (i + 1)
  alone shared value begins others none all is = record {
    done = below_more (λ k. (shared k ≡ true) ↔ BeginsWith value (list_at lists k)) i
        (λ k l. ((λ e. absurd (false≢true (sym (is k ∙ or-none (none k) k i (omega arith) ∙ all k) ∙ e))), (λ h. absurd (others k l h))))
        ((λ e. begins), (λ h. is i ∙ ap (λ b. none i || b) (eq-eqb i i refl) ∙ or-true (none i)));
    ahead = λ k l. is k ∙ or-none (none k) k i (omega arith) ∙ all k;
  }

  module _ (shared : ℕ → Bool) (value : Cell) (marked : Marked shared value lists i) where
    joined : (shared' : ℕ → Bool) → BeginsWith value (list_at lists i) → ((k : ℕ) → shared' k ≡ (shared k || eqb k i)) → Marked shared' value lists (i + 1)
    joined shared' begins is = record {
      done = below_more (λ k. (shared' k ≡ true) ↔ BeginsWith value (list_at lists k)) i
          (λ k l. let same = is k ∙ or-none (shared k) k i (omega arith) in ((λ e. (marked.done k l).0 (sym same ∙ e)), (λ h. same ∙ (marked.done k l).1 h)))
          ((λ e. begins), (λ h. is i ∙ ap (λ b. shared i || b) (eq-eqb i i refl) ∙ or-true (shared i)));
      ahead = λ k l. is k ∙ or-none (shared k) k i (omega arith) ∙ marked.ahead k (omega arith);
    }

    passed_by : (BeginsWith value (list_at lists i) → ⊥) → Marked shared value lists (i + 1)
    passed_by other = record {
      done = below_more (λ k. (shared k ≡ true) ↔ BeginsWith value (list_at lists k)) i marked.done
          ((λ e. absurd (false≢true (sym (marked.ahead i (omega arith)) ∙ e))), (λ h. absurd (other h)));
      ahead = λ k l. marked.ahead k (omega arith);
    }

  -- nothing is left of this list
  pub met_ended : (o : Option (Bor Cell)) (shared : ℕ → Bool) → LeastSoFar o shared lists i → list_at lists i ≡ [] → LeastSoFar o shared lists (i + 1)
  met_ended None shared h none = (below_more (λ k. list_at lists k ≡ []) i h.0 none, h.1)
  met_ended (Some v) shared h none = (still_least lists i v h.0 (ended_not_above v.now (list_at lists i) none), passed_by shared v.now h.1 (begins_not v.now (list_at lists i) none))

  -- it is the first list of which something is left
  pub met_first : (f : Bor Cell) (shared shared' : ℕ → Bool) → LeastSoFar None shared lists i → BeginsWith f.now (list_at lists i) → ((k : ℕ) → shared' k ≡ (shared k || eqb k i)) → LeastSoFar (Some f) shared' lists (i + 1)
  met_first f shared shared' h begins is = (
    first_least lists i f (λ k l. ended_not_above f.now (list_at lists k) (h.0 k l)) begins,
    alone shared' f.now begins (λ k l g. begins_not f.now (list_at lists k) (h.0 k l) g) shared h.1 is,
  )

  module _ (v f : Bor Cell) (shared : ℕ → Bool) (h : LeastSoFar (Some v) shared lists i) (begins : BeginsWith f.now (list_at lists i)) where
    pub met_less : (none shared' : ℕ → Bool) → value_cmp f.now v.now ≡ Less → ((k : ℕ) → none k ≡ false) → ((k : ℕ) → shared' k ≡ (none k || eqb k i)) → LeastSoFar (Some f) shared' lists (i + 1)
    met_less none shared' less all is = (
      first_least lists i f (λ k l. not_above_less v.now f.now (list_at lists k) (ap is_gt less) (h.0.least k l)) begins,
      alone shared' f.now begins (λ k l g. begins_not_less v.now f.now (list_at lists k) (h.0.least k l) less g) none all is,
    )

    pub met_same : (shared' : ℕ → Bool) → value_cmp f.now v.now ≡ Equal → ((k : ℕ) → shared' k ≡ (shared k || eqb k i)) → LeastSoFar (Some v) shared' lists (i + 1)
    met_same shared' e is =
        let here : BeginsWith v.now (list_at lists i) = subst (λ (w : Cell). BeginsWith w (list_at lists i)) (same_value f.now v.now e) begins in
        (still_least lists i v h.0 (begins_not_above v.now (list_at lists i) here), joined shared v.now h.1 shared' here is)

    pub met_greater : value_cmp f.now v.now ≡ Greater → LeastSoFar (Some v) shared lists (i + 1)
    met_greater e =
        (still_least lists i v h.0 (not_above (list_at lists i) begins), passed_by shared v.now h.1 (λ g. other (list_at lists i) begins g))
      where
        greater : is_gt (value_cmp v.now f.now) ≡ false
        greater = ap is_gt (value_total.antisymm v.now f.now ∙ ap ordering_reverse e)

        not_above : (l : List Cell) → BeginsWith f.now l → IsNotAbove v.now l
        not_above [] g = absurd g
        not_above (z ∷ zs) g = subst (λ (w : Cell). is_gt (value_cmp v.now w) ≡ false) (sym g) greater

        other : (l : List Cell) → BeginsWith f.now l → BeginsWith v.now l → ⊥
        other [] g k = g
        other (z ∷ zs) g k =
            let same : f.now ≡ v.now = sym g ∙ k in
            let tied : value_cmp f.now v.now ≡ Equal = ap (λ (w : Cell). value_cmp w v.now) same ∙ tied_itself value_total v.now in cc

pub met_none : (lists : List (List Cell)) (shared : ℕ → Bool) → ((k : ℕ) → shared k ≡ false) → LeastSoFar None shared lists 0
met_none lists shared none = ((λ k l. absurd (omega arith)), none)

pub met_all : (o : Option (Bor Cell)) (shared : ℕ → Bool) (lists : List (List Cell)) (n : ℕ) → LeastSoFar o shared lists n → MatchBool (is_some o) (SharesLeast shared lists n) (AllEnded lists n)
met_all None shared lists n h = h.0
met_all (Some v) shared lists n h = record { value = v.now; first = h.0; marked = h.1 }
