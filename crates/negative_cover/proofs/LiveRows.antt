-- Live rows.
use Rattle.std.proofs.Common.{inl, inr, ◌≡◌, ◌⊎◌, ℕ, ◌+◌, ◌<◌, ◌≤◌, true, false, sym, ap, ◌∙◌, subst, arith, List, [], ◌∷◌, ◌++◌}
use Rattle.std.proofs.lemmas.Bool.{true≢false, cases_eq}
use Rattle.std.proofs.lemmas.List.Elements.{All-push}
use Rattle.col_set.specs.Lists.{Listed, Listed-append_left, Listed-append_right}
use Rattle.rel_base.specs.CodeTable.{CodeTable, live_at}
use Rattle.rel_base.proofs.States.{All-from}
use Rattle.negative_cover.specs.LiveRows.{AreLiveBetween}

pub live_none : (s : CodeTable) (from : ℕ) → AreLiveBetween s from from []
live_none s from = record {
  below = All-from (λ (i : ℕ). (0 < i) × (i < s.to)) [] (λ i h. absurd h);
  live = All-from (λ (i : ℕ). live_at s i ≡ true) [] (λ i h. absurd h);
  every = λ i f m h. absurd (omega arith);
}

pub live_more : (s : CodeTable) (from n : ℕ) (rows new : List ℕ) (row : ℕ) → new ≡ rows ++ row ∷ [] → row ≡ n → 0 < n → n < s.to → live_at s row ≡ true → AreLiveBetween s from n rows → AreLiveBetween s from (n + 1) new
live_more s from n rows new row e m p l h a = subst (AreLiveBetween s from (n + 1)) (sym e) (record {
  below = All-push (λ (i : ℕ). (0 < i) × (i < s.to)) rows row a.below (omega arith, omega arith);
  live = All-push (λ (i : ℕ). live_at s i ≡ true) rows row a.live h;
  every = λ i f k g. at i f g (cases_eq i n) k;
})
  where
    at : (i : ℕ) → from ≤ i → live_at s i ≡ true → (i ≡ n) ⊎ (i ≡ n → ⊥) → i < n + 1 → Listed i (rows ++ row ∷ [])
    at i f g (inl q) k = Listed-append_right i rows (row ∷ []) (inl (q ∙ sym m))
    at i f g (inr ne) k = let less : i < n = omega arith in Listed-append_left i rows (row ∷ []) (a.every i f less g)

pub live_same : (s : CodeTable) (from n : ℕ) (rows new : List ℕ) → new ≡ rows → live_at s n ≡ false → AreLiveBetween s from n rows → AreLiveBetween s from (n + 1) new
live_same s from n rows new e dead a = subst (AreLiveBetween s from (n + 1)) (sym e) (record {
  below = a.below;
  live = a.live;
  every = λ i f k g. at i f g (cases_eq i n) k;
})
  where
    at : (i : ℕ) → from ≤ i → live_at s i ≡ true → (i ≡ n) ⊎ (i ≡ n → ⊥) → i < n + 1 → Listed i rows
    at i f g (inl q) k = absurd (true≢false (sym g ∙ ap (live_at s) q ∙ dead))
    at i f g (inr ne) k = let less : i < n = omega arith in a.every i f less g

pub live_done : (s : CodeTable) (from n to : ℕ) (rows : List ℕ) → to ≤ n → AreLiveBetween s from n rows → AreLiveBetween s from to rows
live_done s from n to rows l a = record {
  below = a.below;
  live = a.live;
  every = λ i f k g. let less : i < n = omega arith in a.every i f less g;
}
