use Rattle.std.proofs.Common.{subst, sym, ap, ◌∙◌, ℕ, true, []}
use Rattle.col_set.specs.ColSet.{minus}
use Rattle.negative_cover.specs.Concerning.{AreConcerned}
use Rattle.negative_cover.proofs.Concerning.{lacking-none}
use Rattle.negative_cover.proofs.concerned.Concerned.lacking.Goals as goal

pub returns : goal.returns
returns c = subst (λ (x : ℕ). AreConcerned c.args.columns [] c.args.agree (record { row_id = true; columns = x })) (sym (c.minus.ensures ∙ ap (λ (y : ℕ). minus y c.args.agree) c.all.ensures)) (lacking-none c.args.columns c.args.agree)
