use Rattle.std.proofs.Common.{◌≡◌, take}
use Rattle.std.specs.List.{filter}
use Rattle.candidate_cover.specs.Marks.{cands}
use Rattle.candidate_cover.specs.Sizes.{is_between}
use Rattle.candidate_cover.proofs.cand_list.CandList.of_sizes.Given as goal

abbrev pub invariant-loop-place : goal.invariant-loop-place
invariant-loop-place l = l.list.items ≡ filter (is_between l.least l.most) (take l.place (cands l.self))
