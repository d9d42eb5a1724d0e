use Rattle.col_set.specs.Evidence.{least}
use Rattle.col_set.proofs.Places.{Contains-listed, Listed-contained}
use Rattle.col_set.proofs.More.{refuted_more}
use Rattle.col_set.proofs.Whole.{least-same}
use Rattle.col_set.proofs.laws.evidence_that_holds_is_whole.Goals as goal

pub returns : goal.returns
returns c n ws vs t = record {
  stronger = λ more stand. least-same n ws vs t more (λ x h. stand x (Contains-listed x (least n ws t) h));
  among = λ more stand. least-same n ws vs t (λ x b. refuted_more ws vs t x (λ w h. Listed-contained w vs (more w (Contains-listed w ws h)))) (λ x h. stand x (Contains-listed x (least n ws t) h));
}
