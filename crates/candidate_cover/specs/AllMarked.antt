-- Candidates that are all marked at once, or of which nothing is known any more.
use Rattle.std.specs.Prelude.{ℕ, false, List, map, max}
use Rattle.candidate_cover.specs.declared.cand.Cand.{Cand}
use Rattle.candidate_cover.specs.Lists.{CandLists}
use Rattle.candidate_cover.specs.Cands.{fresh, lefts}

-- each candidate of the list is marked up to a row at least, and none is held any more
abbrev pub all_marked : ℕ → List Cand → List Cand
all_marked to cands = map (λ c. record { left = c.left; upto = max c.upto to; held = false }) cands

-- each candidate of all targets
abbrev pub marked_throughout : ℕ → CandLists → CandLists
marked_throughout to c = record { row_id = all_marked to c.row_id; columns = map (all_marked to) c.columns }

-- of each candidate of the list nothing is known, and none is held
abbrev pub refreshed : List Cand → List Cand
refreshed cands = map fresh (lefts cands)

-- of each candidate of all targets
abbrev pub refreshed_throughout : CandLists → CandLists
refreshed_throughout c = record { row_id = refreshed c.row_id; columns = map refreshed c.columns }
