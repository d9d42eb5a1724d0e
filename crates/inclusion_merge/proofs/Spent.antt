-- Lists that are no longer needed.
use Rattle.std.proofs.Common.{◌≡◌, ◌∙◌, ◌⊎◌, inl, inr, ◌+◌, ◌<◌, ◌≤◌, ℕ, arith, true, false, sym, ap, subst, List, [], ◌++◌, length, append-nil, set, below_more}
use Rattle.std.proofs.lemmas.Bool.{cases_eq, false≢true}
use Rattle.std.proofs.lemmas.List.{get_or-set_other, get_or-set_same}
use Rattle.col_set.specs.Lists.{Listed, Listed-append_left}
use Rattle.rel_base.specs.Cells.{Cell}
use Rattle.inclusion_merge.specs.declared.candidates.Candidates.{Candidates}
use Rattle.inclusion_merge.specs.Candidates.{IsSameOrSpent, IsSpent, may}
use Rattle.inclusion_merge.specs.Sharing.{IsPart, list_at}
use Rattle.inclusion_merge.proofs.Merging.{Merged, Passed, total, total_le}

-- the first so many lists stay as they were, or are spent
pub record Spent (kept : Candidates) (initial now : List (List Cell)) (count : ℕ) : Type 0 where
  pub done : (k : ℕ) → k < count → IsSameOrSpent kept now k (list_at initial k) (list_at now k)
  pub ahead : (k : ℕ) → count ≤ k → list_at now k ≡ list_at initial k

module _ (kept : Candidates) (initial now : List (List Cell)) (i : ℕ) (spent : Spent kept initial now i) where
  pub Spent-more : (now' : List (List Cell)) (rest : List Cell) → i < length now → now' ≡ set now i rest → IsSameOrSpent kept now i (list_at now i) rest → Spent kept initial now' (i + 1)
  Spent-more now' rest l is one = record {
    done = below_more (λ k. IsSameOrSpent kept now' k (list_at initial k) (list_at now' k)) i
        (λ k m. subst (λ (xs : List Cell). IsSameOrSpent kept now' k (list_at initial k) xs) (sym (other k (omega arith))) (later k (list_at initial k) (list_at now k) (spent.done k m))) here;
    ahead = λ k m. other k (omega arith) ∙ spent.ahead k (omega arith);
  }
    where
      other : (k : ℕ) → (k ≡ i → ⊥) → list_at now' k ≡ list_at now k
      other k h = ap (λ (xs : List (List Cell)). list_at xs k) is ∙ get_or-set_other now i k rest [] h

      own : list_at now' i ≡ rest
      own = ap (λ (xs : List (List Cell)). list_at xs i) is ∙ get_or-set_same now i rest [] l

      -- nothing comes back
      ended : (k : ℕ) → list_at now k ≡ [] → list_at now' k ≡ []
      ended k e = by (cases_eq k i)
        where
          emptied : IsSameOrSpent kept now i (list_at now i) rest → list_at now i ≡ [] → rest ≡ []
          emptied (inl same) none = same ∙ none
          emptied (inr w) none = w.0

          by : (k ≡ i) ⊎ (k ≡ i → ⊥) → list_at now' k ≡ []
          by (inl same) = subst (λ (n : ℕ). list_at now' n ≡ []) (sym same) (own ∙ emptied one (subst (λ (n : ℕ). list_at now n ≡ []) same e))
          by (inr h) = other k h ∙ e

      later : (k : ℕ) (old new : List Cell) → IsSameOrSpent kept now k old new → IsSameOrSpent kept now' k old new
      later k old new (inl e) = inl e
      later k old new (inr w) = inr (w.0, (λ d m h. ((w.1 d m h).0, still d (w.1 d m h).1)))
        where
          still : (d : ℕ) → (may kept d k ≡ false) ⊎ (list_at now d ≡ []) → (may kept d k ≡ false) ⊎ (list_at now' d ≡ [])
          still d (inl e) = inl e
          still d (inr e) = inr (ended d e)

      here : IsSameOrSpent kept now' i (list_at initial i) (list_at now' i)
      here =
          subst (λ (xs : List Cell). IsSameOrSpent kept now' i (list_at initial i) xs) (sym own)
          (subst (λ (xs : List Cell). IsSameOrSpent kept now' i xs rest) (spent.ahead i (omega arith)) (later i (list_at now i) rest one))

-- what is known in the midst of a pass stays so
module _ (lists rests rests' : List (List Cell)) (kept : Candidates) (wide : kept.columns ≡ length lists) (merged : Merged lists rests (may kept)) (same : length rests' ≡ length rests)
    (spent : (k : ℕ) → k < length rests → IsSameOrSpent kept rests' k (list_at rests k) (list_at rests' k)) where
  at : (c : ℕ) → c < length lists → IsSameOrSpent kept rests' c (list_at rests c) (list_at rests' c)
  at c l = let e = merged.same in spent c (omega arith)

  passed_all : (c : ℕ) → c < length lists → list_at rests' c ≡ [] → IsSpent kept rests' c → Passed lists (list_at rests' c) c (may kept c)
  passed_all c l none all = record {
    passed = list_at lists c;
    whole = sym (append-nil (list_at lists c)) ∙ ap (λ (xs : List Cell). list_at lists c ++ xs) (sym none);
    told = λ d m. (tells d m, needs d m);
  }
    where
      tells : (d : ℕ) → d < length lists → may kept c d ≡ true → IsPart (list_at lists c) (list_at lists d)
      tells d m e = by (cases_eq d c)
        where
          by : (d ≡ c) ⊎ (d ≡ c → ⊥) → IsPart (list_at lists c) (list_at lists d)
          by (inl i) = subst (λ (n : ℕ). IsPart (list_at lists c) (list_at lists n)) (sym i) (λ a h. h)
          by (inr other) = absurd (false≢true (sym (all d (omega arith) other).0 ∙ e))

      needs : (d : ℕ) → d < length lists → IsPart (list_at lists c) (list_at lists d) → may kept c d ≡ true
      needs d m h =
          let p = merged.passed c l in
          (p.told d m).1 (λ a g. h a (subst (λ (xs : List Cell). Listed a xs) (sym p.whole) (Listed-append_left a p.passed (list_at rests c) g)))

  passed : (c : ℕ) → c < length lists → Passed lists (list_at rests' c) c (may kept c)
  passed c l = by (at c l)
    where
      by : IsSameOrSpent kept rests' c (list_at rests c) (list_at rests' c) → Passed lists (list_at rests' c) c (may kept c)
      by (inl e) = subst (λ (xs : List Cell). Passed lists xs c (may kept c)) (sym e) (merged.passed c l)
      by (inr w) = passed_all c l w.0 w.1

  left : (c d : ℕ) → c < length lists → d < length lists → (a : Cell) → may kept c d ≡ true → Listed a (list_at rests' c) → Listed a (list_at lists d) → Listed a (list_at rests' d)
  left c d l m a e h g = by (at c l) (at d m)
    where
      by : IsSameOrSpent kept rests' c (list_at rests c) (list_at rests' c) → IsSameOrSpent kept rests' d (list_at rests d) (list_at rests' d) → Listed a (list_at rests' d)
      by (inr w) other = absurd (subst (λ (xs : List Cell). Listed a xs) w.0 h)
      by (inl i) (inl j) = subst (λ (xs : List Cell). Listed a xs) (sym j) (merged.left c d l m a e (subst (λ (xs : List Cell). Listed a xs) i h) g)
      by (inl i) (inr w) = apart (cases_eq c d)
        where
          told : (may kept c d ≡ false) ⊎ (list_at rests' c ≡ []) → Listed a (list_at rests' d)
          told (inl f) = absurd (false≢true (sym f ∙ e))
          told (inr none) = absurd (subst (λ (xs : List Cell). Listed a xs) none h)

          apart : (c ≡ d) ⊎ (c ≡ d → ⊥) → Listed a (list_at rests' d)
          apart (inl k) = subst (λ (n : ℕ). Listed a (list_at rests' n)) k h
          apart (inr other) = told (w.1 c (omega arith) other).1

  pub Merged-spent : Merged lists rests' (may kept)
  Merged-spent = record { same = same ∙ merged.same; passed = passed; left = left }

pub total_spent : (kept : Candidates) (rests rests' : List (List Cell)) → length rests' ≡ length rests → ((k : ℕ) → k < length rests → IsSameOrSpent kept rests' k (list_at rests k) (list_at rests' k))
    → total rests' ≤ total rests
total_spent kept rests rests' same spent = total_le rests rests' same (λ k l. by k (spent k l))
  where
    by : (k : ℕ) → IsSameOrSpent kept rests' k (list_at rests k) (list_at rests' k) → length (list_at rests' k) ≤ length (list_at rests k)
    by k (inl e) = let f = ap (λ (xs : List Cell). length xs) e in omega arith
    by k (inr w) = let f = ap (λ (xs : List Cell). length xs) w.0 in omega arith
