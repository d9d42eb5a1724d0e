use Rattle.std.proofs.Common.{◌∙◌}
use Rattle.nary_ind.specs.ListInclusions.{tuples_at, rows_at}
use Rattle.nary_ind.proofs.Among.{codes-tell, tuple-length}
use Rattle.nary_ind.proofs.laws.codes_tell_inclusions.Goals as goal

pub returns : goal.returns
returns c rs d i n code l m is = codes-tell n code (tuples_at rs d.rel d.columns) (tuples_at rs i.rel i.columns)
    (λ t h. tuple-length d.columns (rows_at rs d.rel) t h ∙ l) (λ u h. tuple-length i.columns (rows_at rs i.rel) u h ∙ m) is
