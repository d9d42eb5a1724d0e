-- The tables that lie inside no other one.
use Rattle.std.proofs.Common.{◌≡◌, ℕ, suc, ◌+◌, ◌<◌, ◌≤◌, Bool, true, false, cond, refl, sym, ap, ◌∙◌, List, [], ◌∷◌, ◌++◌, length, get_or, take, drop, append_assoc, add-one}
use Rattle.std.proofs.Math.Seq.{drop-cons}
use Rattle.std.proofs.lemmas.List.{take_more, drop_all, append-nil}
use Rattle.rel_base.specs.declared.dependency.Table.{Table}
use Rattle.synth_3nf.specs.Tables.{is_inside, outermost}

-- what was kept of the first tables, and what will be of the others
abbrev pub AreOuter : List Table → ℕ → List Table → Type 0
AreOuter ts k kept = kept ++ outermost (take k ts) (drop k ts) ≡ outermost [] ts

module _ (ts : List Table) (k : ℕ) (t : Table) (kept : List Table) (l : k < length ts) (is : t ≡ get_or ts k t) (w : AreOuter ts k kept) where
  opened : (b : Bool) → is_inside (take k ts) (drop (k + 1) ts) t ≡ b → kept ++ (cond b [] (t ∷ []) ++ outermost (take (k + 1) ts) (drop (k + 1) ts)) ≡ outermost [] ts
  unfolding outermost
  opened b e =
      ap (λ (c : Bool). kept ++ (cond c [] (t ∷ []) ++ outermost (take (k + 1) ts) (drop (k + 1) ts))) (sym e)
      ∙ ap (λ (before : List Table). kept ++ (cond (is_inside (take k ts) (drop (k + 1) ts) t) [] (t ∷ []) ++ outermost before (drop (k + 1) ts))) (take_more ts k t l ∙ ap (λ (u : Table). take k ts ++ u ∷ []) (sym is))
      ∙ ap (λ (rest : List Table). kept ++ outermost (take k ts) (t ∷ rest)) (ap (λ (j : ℕ). drop j ts) (add-one k))
      ∙ ap (λ (u : Table). kept ++ outermost (take k ts) (u ∷ drop (suc k) ts)) is
      ∙ ap (λ (rest : List Table). kept ++ outermost (take k ts) rest) (sym (drop-cons ts k t l)) ∙ w

  pub outer-kept : (next : List Table) → is_inside (take k ts) (drop (k + 1) ts) t ≡ false → next ≡ kept ++ t ∷ [] → AreOuter ts (k + 1) next
  outer-kept next e n = ap (λ (xs : List Table). xs ++ outermost (take (k + 1) ts) (drop (k + 1) ts)) n ∙ append_assoc kept (t ∷ []) (outermost (take (k + 1) ts) (drop (k + 1) ts)) ∙ opened false e

  pub outer-skipped : is_inside (take k ts) (drop (k + 1) ts) t ≡ true → AreOuter ts (k + 1) kept
  outer-skipped e = opened true e

pub outer-begin : (ts : List Table) → AreOuter ts 0 []
outer-begin ts = refl

pub outer-end : (ts : List Table) (k : ℕ) (kept : List Table) → length ts ≤ k → AreOuter ts k kept → kept ≡ outermost [] ts
unfolding outermost
outer-end ts k kept l w = sym (append-nil kept) ∙ ap (λ (rest : List Table). kept ++ outermost (take k ts) rest) (sym (drop_all k ts l)) ∙ w
