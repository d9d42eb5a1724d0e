-- What `CandidateCover` is seen as.
use Rattle.std.specs.Prelude.{List}
use Rattle.candidate_cover.specs.declared.cand.Cand.{Cand}

-- the candidates for which row it is, and for each column
pub record CandLists : Type 0 where
  pub row_id : List Cand
  pub columns : List (List Cand)
