-- Left sides of a target, one after another.
use Rattle.std.proofs.Common.{◌≡◌, ℕ, ◌+◌, ◌<◌, sym, ap, ◌∙◌, List, ◌∷◌, ◌++◌, length, get_or, drop}
use Rattle.std.proofs.lemmas.List.{drop_more}
use Rattle.col_set.specs.declared.target.Target.{Target}
use Rattle.cover_cert.specs.declared.line.Claim.{Claim}
use Rattle.cover_cert.specs.Comparing.{claims_to}

pub left_first : (t : Target) (lefts : List ℕ) (i x : ℕ) (more : List Claim) → i < length lefts → x ≡ get_or lefts i x
    → claims_to t (drop i lefts) ++ more ≡ record { left = x; target = t } ∷ (claims_to t (drop (i + 1) lefts) ++ more)
left_first t lefts i x more l e = ap (λ (xs : List ℕ). claims_to t xs ++ more) (drop_more lefts i x l ∙ ap (λ (y : ℕ). y ∷ drop (i + 1) lefts) (sym e))
