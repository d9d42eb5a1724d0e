-- What sweeps find, piece by piece.
use Rattle.std.proofs.Common.{◌≡◌, ◌∙◌, ℕ, ◌<◌, ◌^◌, true, false, refl, sym, subst, Option, None, List, [], ◌∷◌, ◌++◌, length, get_or}
use Rattle.std.specs.List.{All}
use Rattle.std.proofs.lemmas.Bool.{ltb-true}
use Rattle.std.proofs.lemmas.List.Elements.{All-append}
use Rattle.col_set.specs.ColSet.{subset, all}
use Rattle.col_set.specs.Members.{has-all}
use Rattle.col_set.specs.Subsets.{subset-true, below_from}
use Rattle.col_set.specs.declared.target.Target.{Target}
use Rattle.col_set.specs.declared.target.Target.TheVariants.{Col}
use Rattle.col_set.specs.Target.{has_target}
use Rattle.stripped_partition.specs.Removed.{up_to}
use Rattle.rel_base.specs.CodeTable.{CodeTable}
use Rattle.approx_fd.specs.declared.found.Approx.{Approx}
use Rattle.approx_fd.specs.declared.found.NearKey.{NearKey}
use Rattle.approx_fd.specs.declared.seen.Failure.{Failure}
use Rattle.approx_fd.specs.declared.sweeps.Findings.{Findings}
use Rattle.approx_fd.specs.Search.{IsFailing, IsCounted}
use Rattle.approx_fd.specs.Sweeps.{IsFailure, IsCount, AreFindings}
use Rattle.approx_fd.specs.Removal.{removed_in}
use Rattle.approx_fd.proofs.Calls.{up_to-none}
use Rattle.approx_fd.proofs.Judging.{none-yet, one-more, failing-in}

-- a part of the first columns
pub within : (x n : ℕ) → subset x (all n) ≡ true → x < 2 ^ n
within x n e = below_from x n (λ k h. ltb-true k n (sym (has-all n k) ∙ (subset-true e).each k h))

pub found-in : (s u : CodeTable) (most m : ℕ) (found : Findings) → u ≡ s → m ≡ most → AreFindings u m found → AreFindings s most found
found-in s u most m found e f h = subst (λ (v : CodeTable). AreFindings v most found) e (subst (λ (n : ℕ). AreFindings u n found) f h)

-- a left side of which too many rows are to be removed
pub failing-after : (s u : CodeTable) (most m x : ℕ) (t : Target) (found : Option ℕ) → u ≡ s → m ≡ most → has_target x t ≡ false → found ≡ up_to most (removed_in s x t) → found ≡ None → IsFailing u m t x
failing-after s u most m x t found e f lacks value none = failing-in u m t s most x (sym e) (sym f) (record { lacks = lacks; above = up_to-none most (removed_in s x t) (sym value ∙ none) })

module _ (s : CodeTable) (most : ℕ) where
  pub nothing-found : (found : Findings) → found.failures.items ≡ [] → found.counts.items ≡ [] → AreFindings s most found
  nothing-found found e f = record { failures = none-yet (IsFailure s most) found.failures.items e; counts = none-yet (IsCount s most) found.counts.items f }

  pub more-found : (old more new : Findings) → AreFindings s most old → AreFindings s most more
      → new.failures.items ≡ old.failures.items ++ more.failures.items → new.counts.items ≡ old.counts.items ++ more.counts.items → AreFindings s most new
  more-found old more new a b e f = record {
    failures = subst (All (IsFailure s most)) (sym e) (All-append (IsFailure s most) old.failures.items more.failures.items a.failures b.failures);
    counts = subst (All (IsCount s most)) (sym f) (All-append (IsCount s most) old.counts.items more.counts.items a.counts b.counts);
  }

  pub failure-found : (old new : Findings) (f : Failure) → AreFindings s most old → IsFailure s most f → new.failures.items ≡ old.failures.items ++ f ∷ [] → new.counts.items ≡ old.counts.items → AreFindings s most new
  failure-found old new f a i e g = record {
    failures = subst (All (IsFailure s most)) (sym e) (one-more (IsFailure s most) old.failures.items f a.failures i);
    counts = subst (All (IsCount s most)) (sym g) a.counts;
  }

  pub count-found : (old new : Findings) (k : Approx) → AreFindings s most old → IsCount s most k → new.failures.items ≡ old.failures.items → new.counts.items ≡ old.counts.items ++ k ∷ [] → AreFindings s most new
  count-found old new k a i e g = record {
    failures = subst (All (IsFailure s most)) (sym e) a.failures;
    counts = subst (All (IsCount s most)) (sym g) (one-more (IsCount s most) old.counts.items k a.counts i);
  }

  -- those of one column
  pub failure-of : (failures : List Failure) (k column : ℕ) (f : Failure) (sets more : List ℕ) → All (IsFailure s most) failures → k < length failures → f ≡ get_or failures k f → f.column ≡ column
      → All (IsFailing s most (Col column)) sets → more ≡ sets ++ f.set ∷ [] → All (IsFailing s most (Col column)) more
  failure-of failures k column f sets more all l is e held m =
      let i : IsFailure s most f = subst (IsFailure s most) (sym is) (all k f l) in
      subst (All (IsFailing s most (Col column))) (sym m) (one-more (IsFailing s most (Col column)) sets f.set held (subst (λ (a : ℕ). IsFailing s most (Col a) f.set) e i))

  pub count-of : (counts : List Approx) (k column : ℕ) (c : Approx) (held more : List NearKey) → All (IsCount s most) counts → k < length counts → c ≡ get_or counts k c → c.fd.right ≡ column
      → All (IsCounted s most (Col column)) held → more ≡ held ++ record { columns = c.fd.left; removed = c.removed } ∷ [] → All (IsCounted s most (Col column)) more
  count-of counts k column c held more all l is e before m =
      let i : IsCount s most c = subst (IsCount s most) (sym is) (all k c l) in
      subst (All (IsCounted s most (Col column))) (sym m)
      (one-more (IsCounted s most (Col column)) held (record { columns = c.fd.left; removed = c.removed }) before (subst (λ (a : ℕ). IsCounted s most (Col a) (record { columns = c.fd.left; removed = c.removed })) e i))
