use Rattle.std.proofs.Common.{◌≡◌, ◌∙◌, ap, arith, length}
use Rattle.std.proofs.lemmas.List.{length-map}
use Rattle.col_set.specs.declared.target.Target.TheVariants.{Col}
use Rattle.candidate_cover.specs.Cands.{cands_of}
use Rattle.cover_core.proofs.known.Known.is_long.Goals as goal

pub returns-then-lefts-most-2-clause-long : goal.returns-then-lefts-most-2-clause-long
returns-then-lefts-most-2-clause-long c =
    let same : length c.lefts-in-loop-column.result.now ≡ length (cands_of c.args.self.now.candidates (Col c.loop-column.column)) = ap length c.lefts-in-loop-column.ensures.lefts ∙ length-map _ _ in
    λ _. (Col c.loop-column.column, omega (arith, c.loop-column-test.true, c.columns-column-end.ensures.width), omega (arith, same, c.if-lefts-most-2.true))
