use Rattle.std.proofs.Common.{◌≡◌, arith, sym, subst, Bool, MatchBool, length, ℕ}
use Rattle.inclusion_merge.specs.WideSet.{has_wide}
use Rattle.inclusion_merge.specs.Sharing.{AllEnded, LeastSoFar, SharesLeast, lists_of}
use Rattle.inclusion_merge.proofs.Meeting.{met_all, met_none}
use Rattle.inclusion_merge.proofs.merge.mark_least.Goals as goal

pub loop-place-init : goal.loop-place-init
loop-place-init c = met_none (lists_of c.args.rests.now) (has_wide c.clear_wide.new.parts) c.clear_wide.ensures

pub returns : goal.returns
returns c =
    let lists = lists_of c.args.rests.now in
    let n = length c.args.rests.now in
    let shared = has_wide c.loop-place.shared in
    let all : c.loop-place.place ≡ n = omega arith in
    subst (λ (b : Bool). MatchBool b (SharesLeast shared lists n) (AllEnded lists n)) (sym c.is_some.ensures)
    (met_all c.loop-place.least shared lists n (subst (λ (count : ℕ). LeastSoFar c.loop-place.least shared lists count) all c.loop-place.invariant))
