use Rattle.std.proofs.Common.{◌≡◌, ◌||◌, ◌<◌, ℕ, Bool, false, List, IfOk, filter, get_or, length, subst, sym}
use Rattle.col_set.specs.Lists.{Listed}
use Rattle.inclusion_merge.specs.Candidates.{may}
use Rattle.inclusion_merge.specs.Open.{is_settled}
use Rattle.inclusion_merge.proofs.open.Open.kept.Goals as goal

pub settled_or_kept-requires-clause-settled : goal.settled_or_kept-requires-clause-settled
settled_or_kept-requires-clause-settled c p h =
    let w = c.requires.settled p (subst (λ (pairs : List (ℕ × ℕ)). Listed p pairs) c.deref.ensures.value h) in
    subst (λ (settled : List Bool). (p.0 < length settled) × (p.1 < length settled)) (sym c.deref-2.ensures.value) w

pub settled_or_kept-requires-clause-kept : goal.settled_or_kept-requires-clause-kept
settled_or_kept-requires-clause-kept c p h = c.requires.kept p (subst (λ (pairs : List (ℕ × ℕ)). Listed p pairs) c.deref.ensures.value h)

pub returns : goal.returns
returns c =
    let may_be = may c.args.kept.now in
    let lent =
    subst (λ (settled : List Bool). IfOk c.settled_or_kept.result (λ both. both.items ≡ filter (λ (p : ℕ × ℕ). get_or settled p.0 false || may_be p.0 p.1) c.deref.result.now)) c.deref-2.ensures.value c.settled_or_kept.ensures in
    subst (λ (pairs : List (ℕ × ℕ)). IfOk c.settled_or_kept.result (λ both. both.items ≡ filter (λ (p : ℕ × ℕ). is_settled c.args.self.now p.0 || may_be p.0 p.1) pairs)) c.deref.ensures.value lent
