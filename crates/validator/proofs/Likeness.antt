-- What is found on a snapshot is so on each that is alike.
use Rattle.std.proofs.Common.{◌≡◌, ℕ, ◌<◌, ◌^◌, sym, ap, ◌∙◌, subst, arith, leb, List, length, get_or}
use Rattle.std.specs.List.{Contains, count_by}
use Rattle.col_set.specs.declared.target.Target.{Target}
use Rattle.col_set.specs.ColSet.{IsSubset}
use Rattle.col_set.specs.Target.{has_target, IsColumnTarget}
use Rattle.rel_base.specs.Alike.{Alike}
use Rattle.rel_base.specs.CodeTable.{CodeTable}
use Rattle.rel_base.specs.JobParts.{JobParts}
use Rattle.rel_base.specs.Shows.{holds_in_below}
use Rattle.rel_base.proofs.Alike.{code_agree-alike, holds_in-alike, holds_in_below-alike}
use Rattle.validator.specs.Asking.{IsAsked}
use Rattle.validator.specs.Verdicts.{AreFound, IsViolation, IsFitting, new_rows}
use Rattle.validator.specs.declared.cache.Asked.{Asked}

module _ (s u : CodeTable) (alike : Alike s u) where
  violation-alike : (x : ℕ) (t : Target) (i j : ℕ) → IsViolation s x t i j → IsViolation u x t i j
  violation-alike x t i j b =
      let e = code_agree-alike s u alike i j b.first b.second in record {
        first = subst (λ (ns : List ℕ). Contains ns i) alike.live b.first;
        second = subst (λ (ns : List ℕ). Contains ns j) alike.live b.second;
        rising = b.rising;
        left = subst (IsSubset x) e b.left;
        target = ap (λ (w : ℕ). has_target w t) (sym e) ∙ b.target;
      }

  pub found-alike : (x : ℕ) (t : Target) (pairs : List (ℕ × ℕ)) → AreFound s x t pairs → AreFound u x t pairs
  found-alike x t pairs found = record {
    each = λ k d l. violation-alike x t (get_or pairs k d).0 (get_or pairs k d).1 (found.each k d l);
    apart = λ i j d l m sub.
        let a = (found.each i d (within i j (length pairs) l m)).first in
        let b = (found.each j d m).first in
        found.apart i j d l m (subst (IsSubset x) (sym (code_agree-alike s u alike (get_or pairs i d).0 (get_or pairs j d).0 a b)) sub);
    none = λ e. sym (holds_in-alike s u alike x t) ∙ found.none e;
  }
    where
      within : (i j n : ℕ) → i < j → j < n → i < n
      within i j n l m = omega arith

  pub new_rows-alike : (from : ℕ) → new_rows s from ≡ new_rows u from
  new_rows-alike from = ap (λ (ns : List ℕ). count_by (λ i. leb from i) ns) alike.live

pub asked-alike : (s : CodeTable) (job : JobParts) (asked : Asked) → Alike s job.snapshot → IsFitting job
    → asked.left ≡ job.left → asked.target ≡ job.target → asked.from ≡ job.from → 0 < asked.most → IsAsked s asked
asked-alike s job asked alike fits left target from some = record {
  left = subst (λ (x : ℕ). x < 2 ^ length s.codes) (sym left) (subst (λ (n : ℕ). job.left < 2 ^ n) (sym alike.columns) fits.left);
  target = subst (IsColumnTarget (length s.codes)) (sym target) (subst (λ (n : ℕ). IsColumnTarget n job.target) (sym alike.columns) fits.target);
  below =
      ap (λ (n : ℕ). holds_in_below n s asked.left asked.target) from
      ∙ ap (λ (x : ℕ). holds_in_below job.from s x asked.target) left
      ∙ ap (holds_in_below job.from s job.left) target
      ∙ holds_in_below-alike s job.snapshot alike job.from job.left job.target
      ∙ fits.below;
  some = some;
}

pub found_for : (s : CodeTable) (job : JobParts) (asked : Asked) (pairs : List (ℕ × ℕ)) → Alike s job.snapshot → asked.left ≡ job.left → asked.target ≡ job.target
    → AreFound s asked.left asked.target pairs → AreFound job.snapshot job.left job.target pairs
found_for s job asked pairs alike left target found =
    subst (λ (x : ℕ). AreFound job.snapshot x job.target pairs) left
    (subst (λ (t : Target). AreFound job.snapshot asked.left t pairs) target (found-alike s job.snapshot alike asked.left asked.target pairs found))
