use Rattle.std.proofs.Common.{◌≡◌, ◌∷◌, [], ℕ, false, sym, subst}
use Rattle.rel_base.specs.Inclusion.{all_columns, included}
use Rattle.profile_text.proofs.Inclusions.{included_itself}
use Rattle.profile_text.proofs.kept_inclusions.KeptInclusions.is_included.Goals as goal

pub returns-then-dependent-referenced : goal.returns-then-dependent-referenced
returns-then-dependent-referenced c =
    subst (λ (d : ℕ). false ≡ included (all_columns (c.args.live.now ∷ [])) c.args.dependent d) c.if-dependent-referenced.true (sym (included_itself (all_columns (c.args.live.now ∷ [])) c.args.dependent))
