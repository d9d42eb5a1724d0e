-- What one row more makes of a chain, and what a walk down it finds.
use Rattle.std.proofs.Common.{inl, inr, ◌≡◌, ◌≢◌, ◌⊎◌, ℕ, zero, suc, ◌+◌, ◌-◌, ◌<◌, ◌≤◌, Bool, true, false, ◌&&◌, refl, sym, ap, ◌∙◌, subst, arith, List, [], ◌∷◌, ◌++◌, length, get_or, set, Some, None}
use Rattle.std.specs.List.{range_with_len}
use Rattle.std.proofs.lemmas.Bool.{cases_eq, cases_lt, true≢false, and_from}
use Rattle.std.proofs.lemmas.List.{get_or_append_left, get_or_push, get_or-set_same, get_or-set_other, length_push}
use Rattle.col_set.specs.ColSet.{has, first, without}
use Rattle.col_set.specs.Lists.{Listed, Listed-filter, Listed-filter_parts}
use Rattle.col_set.specs.Subsets.{same_test}
use Rattle.col_set.proofs.EachColumn.{first-Some}
use Rattle.rel_base.specs.CodeTable.{CodeTable, code_at, live_at}
use Rattle.rel_base.specs.Shows.{live_numbers}
use Rattle.stripped_partition.specs.Stripped.{agree_on}
use Rattle.stripped_partition.proofs.Agreeing.{code_agree-parts, code_agree-from, agree_on-subset, agree_on-empty, agree_on-with_parts, agree_on-with}
use Rattle.stripped_partition.proofs.Live.{live_within}
use Rattle.validator.specs.declared.chain.Chain.{Chain}
use Rattle.validator.specs.Chains.{IsLatest, IsChain}
use Rattle.validator.proofs.Refinements.{no_columns, with-without}

-- ---- chains
pub chain_none : (codes : List ℕ) (chain : Chain) → chain.before.items ≡ [] → chain.last.items ≡ [] → IsChain codes chain
chain_none codes chain b l =
    let n = ap length b in record {
      short = omega arith;
      linked = λ k m. absurd (omega arith);
      latest = λ code.
          let z : get_or chain.last.items code 0 ≡ 0 = ap (λ (xs : List ℕ). get_or xs code 0) l in record {
            within = omega arith;
            has = λ p. absurd (omega arith);
            none = λ k m o. absurd (omega arith);
          };
    }

module _ (codes : List ℕ) (old new : Chain) (place code : ℕ) (last : List ℕ) (next : place ≡ length old.before.items) (more : place < length codes) (is : get_or codes place 0 ≡ code)
    (same : (c : ℕ) → get_or last c 0 ≡ get_or old.last.items c 0) (room : code < length last) (before : new.before.items ≡ old.before.items ++ get_or last code 0 ∷ [])
    (after : new.last.items ≡ set last code (place + 1)) (h : IsChain codes old) where
  longer : length new.before.items ≡ place + 1
  longer = ap length before ∙ length_push old.before.items (get_or last code 0) ∙ ap (λ (n : ℕ). n + 1) (sym next)

  link_at : (k : ℕ) → k < length new.before.items → (k < length old.before.items) ⊎ (length old.before.items ≤ k) → IsLatest codes k (get_or codes k 0) (get_or new.before.items k 0)
  link_at k l (inl m) =
      subst (λ (r : ℕ). IsLatest codes k (get_or codes k 0) r) (sym (ap (λ (xs : List ℕ). get_or xs k 0) before ∙ get_or_append_left old.before.items (get_or last code 0 ∷ []) 0 k m)) (h.linked k m)
  link_at k l (inr m) =
      let n = longer in
      let e : length old.before.items ≡ k = omega arith in
      let at : k ≡ place = omega arith in
      let c : get_or codes k 0 ≡ code = ap (λ (i : ℕ). get_or codes i 0) at ∙ is in
      let r : get_or new.before.items k 0 ≡ get_or old.last.items code 0 = ap (λ (xs : List ℕ). get_or xs k 0) before ∙ get_or_push old.before.items (get_or last code 0) 0 k e ∙ same code in
      subst (λ (r : ℕ). IsLatest codes k (get_or codes k 0) r) (sym r)
      (subst (λ (d : ℕ). IsLatest codes k d (get_or old.last.items code 0)) (sym c)
      (subst (λ (n : ℕ). IsLatest codes n code (get_or old.last.items code 0)) e (h.latest code)))

  other_row : (c : ℕ) → c ≢ code → (k : ℕ) → get_or old.last.items c 0 ≤ k → k < place + 1 → get_or codes k 0 ≢ c
  other_row c ne k l m = elim (cases_eq k place) as (λ _. get_or codes k 0 ≢ c) [
    | inl e ↦ λ q. ne (sym q ∙ ap (λ (i : ℕ). get_or codes i 0) e ∙ is)
    | inr o ↦ (h.latest c).none k l (omega arith)
  ]

  last_at : (c : ℕ) → (c ≡ code) ⊎ (c ≢ code) → IsLatest codes (length new.before.items) c (get_or new.last.items c 0)
  last_at c (inl e) =
      let r : get_or new.last.items c 0 ≡ place + 1 = ap (λ (xs : List ℕ). get_or xs c 0) after ∙ ap (λ (i : ℕ). get_or (set last code (place + 1)) i 0) e ∙ get_or-set_same last code (place + 1) 0 room in
      let n = longer in
      record {
        within = omega arith;
        has = λ p. let a : get_or new.last.items c 0 - 1 ≡ place = omega arith in ap (λ (i : ℕ). get_or codes i 0) a ∙ is ∙ sym e;
        none = λ k l m. absurd (omega arith);
      }
  last_at c (inr ne) =
      let r : get_or new.last.items c 0 ≡ get_or old.last.items c 0 = ap (λ (xs : List ℕ). get_or xs c 0) after ∙ get_or-set_other last code c (place + 1) 0 ne ∙ same c in
      let n = longer in
      let was = h.latest c in
      let w = was.within in
      record {
        within = omega arith;
        has = λ p. ap (λ (i : ℕ). get_or codes (i - 1) 0) r ∙ was.has (omega arith);
        none = λ k l m. other_row c ne k (omega arith) (omega arith);
      }

  pub chain_more : IsChain codes new
  chain_more = record {
    short = let n = longer in omega arith;
    linked = λ k l. link_at k l (cases_lt k (length old.before.items));
    latest = λ c. last_at c (cases_eq c code);
  }

-- a chain of codes that another list begins with
pub chain_moved : (codes others : List ℕ) (chain : Chain) → IsChain codes chain → length chain.before.items ≤ length others
    → ((k : ℕ) → k < length chain.before.items → get_or codes k 0 ≡ get_or others k 0) → IsChain others chain
chain_moved codes others chain h short same = record {
  short = short;
  linked = λ k l.
      subst (λ (c : ℕ). IsLatest others k c (get_or chain.before.items k 0)) (same k l) (latest_moved k (get_or codes k 0) (get_or chain.before.items k 0) (omega arith) (h.linked k l));
  latest = λ c. latest_moved (length chain.before.items) c (get_or chain.last.items c 0) (omega arith) (h.latest c);
}
  where
    latest_moved : (n c r : ℕ) → n ≤ length chain.before.items → IsLatest codes n c r → IsLatest others n c r
    latest_moved n c r m w =
        let i = w.within in record {
          within = w.within;
          has = λ p. sym (same (r - 1) (omega arith)) ∙ w.has p;
          none = λ k l o e. w.none k l o (same k (omega arith) ∙ e);
        }

-- ---- agreement, column by column
module _ (s : CodeTable) (i j : ℕ) where
  pub agreeing_more : (rest column now : ℕ) → Some column ≡ first rest → column < length s.codes → code_at s i column ≡ code_at s j column → now ≡ without rest column → agree_on s now i j ≡ agree_on s rest i j
  agreeing_more rest column now e l same n =
      let had = (first-Some rest column e).had in
      ap (λ (x : ℕ). agree_on s x i j) n ∙ same_test _ _
      (λ a. ap (λ (x : ℕ). agree_on s x i j) (sym (with-without rest column had)) ∙ agree_on-with s (without rest column) column i j a (code_agree-from s i j column l same))
      (λ a. (agree_on-with_parts s (without rest column) column i j (ap (λ (x : ℕ). agree_on s x i j) (with-without rest column had) ∙ a)).0)

  pub agreeing_not : (rest column : ℕ) → has rest column ≡ true → code_at s i column ≢ code_at s j column → agree_on s rest i j ≡ false
  agreeing_not rest column h ne = by (agree_on s rest i j) refl
    where
      by : (b : Bool) → agree_on s rest i j ≡ b → agree_on s rest i j ≡ false
      by true e = absurd (ne (code_agree-parts s i j column ((agree_on-subset s rest i j e).each column h)).1)
      by false e = e

  pub agreeing_end : (rest : ℕ) → None ≡ first rest → agree_on s rest i j ≡ true
  agreeing_end rest e = ap (λ (x : ℕ). agree_on s x i j) (no_columns rest e) ∙ agree_on-empty s i j

-- ---- the walk down a chain
pub live_flag : (s : CodeTable) (i : ℕ) → Listed i (live_numbers s) → live_at s i ≡ true
unfolding live_numbers
live_flag s i g = (Listed-filter_parts (live_at s) i (range_with_len 1 (s.to - 1)) g).1

pub record Walking (s : CodeTable) (x column j k : ℕ) : Type 0 where
  pub below : k < j
  pub same : 0 < k → code_at s k column ≡ code_at s j column
  pub rest : (i : ℕ) → Listed i (live_numbers s) → i < j → agree_on s x i j ≡ true → i ≤ k

module _ (s : CodeTable) (x column j : ℕ) (chain : Chain) (has_it : has x column ≡ true) (h : IsChain (get_or s.codes column []) chain) (whole : length chain.before.items + 1 ≡ s.to) where
  same_code : (i : ℕ) → agree_on s x i j ≡ true → code_at s i column ≡ code_at s j column
  same_code i a = (code_agree-parts s i j column ((agree_on-subset s x i j a).each column has_it)).1

  pub walking_start : 0 < j → j < s.to → (k : ℕ) → k ≡ get_or chain.before.items (j - 1) 0 → Walking s x column j k
  walking_start p l k e =
      let w = h.linked (j - 1) (omega arith) in
      let a = w.within in
      record {
        below = omega arith;
        same = λ q. ap (λ (n : ℕ). code_at s n column) e ∙ w.has (omega arith);
        rest = λ i g m f.
            let b = live_within s i g in
            let c = b.0 in
            elim (cases_lt (i - 1) k) as (λ _. i ≤ k) [
              | inl o ↦ omega arith
              | inr o ↦ absurd (w.none (i - 1) (omega arith) (omega arith) (same_code i f))
            ];
      }

  pub walking_more : (k next : ℕ) → 0 < k → j < s.to → Walking s x column j k → (live_at s k && agree_on s x k j) ≡ false → next ≡ get_or chain.before.items (k - 1) 0 → Walking s x column j next × (next < k)
  walking_more k next p l w not_it e =
      let v = h.linked (k - 1) (let b = w.below in omega arith) in
      let a = v.within in
      let below = w.below in (
        record {
          below = omega arith;
          same = λ q. ap (λ (n : ℕ). code_at s n column) e ∙ v.has (omega arith) ∙ w.same p;
          rest = λ i g m f.
              let b = live_within s i g in
              let c = b.0 in
              let r = w.rest i g m f in
              elim (cases_eq i k) as (λ _. i ≤ next) [
                | inl q ↦ absurd (true≢false (sym (and_from _ _ (ap (live_at s) (sym q) ∙ live_flag s i g) (ap (λ (n : ℕ). agree_on s x n j) (sym q) ∙ f)) ∙ not_it))
                | inr ne ↦ elim (cases_lt (i - 1) next) as (λ _. i ≤ next) [
                  | inl o ↦ omega arith
                  | inr o ↦ absurd (v.none (i - 1) (omega arith) (omega arith) (same_code i f ∙ sym (w.same p)))
                ]
              ];
        },
        omega arith,
      )

  pub walking_none : (k : ℕ) → k ≡ 0 → Walking s x column j k → (i : ℕ) → Listed i (live_numbers s) → i < j → agree_on s x i j ≡ true → ⊥
  walking_none k e w i g m f = let a = (live_within s i g).0 in let r = w.rest i g m f in omega arith

-- a number that is flagged is of a live row
pub flagged_live : (s : CodeTable) (k : ℕ) → 0 < k → k < s.to → live_at s k ≡ true → Listed k (live_numbers s)
unfolding live_numbers
flagged_live s k p l e = Listed-filter (live_at s) k (range_with_len 1 (s.to - 1)) (in_range 1 (s.to - 1) k p (omega arith)) e
  where
    in_range : (a n k : ℕ) → a ≤ k → k < a + n → Listed k (range_with_len a n)
    in_range a zero k l h = absurd (omega arith)
    in_range a (suc n) k l h = elim (cases_eq k a) as (λ _. Listed k (range_with_len a (suc n))) [ inl e ↦ inl e | inr ne ↦ inr (in_range (a + 1) n k (omega arith) (omega arith)) ]
