use Rattle.std.proofs.Common.{◌≡◌, ◌<◌, ℕ, Bool, false, List, IfOk, filter, get_or, length, not, subst, sym}
use Rattle.col_set.specs.Lists.{Listed}
use Rattle.inclusion_merge.specs.Open.{is_settled}
use Rattle.inclusion_merge.proofs.open.Open.left.Goals as goal

pub unsettled-requires : goal.unsettled-requires
unsettled-requires c p h =
    let w = c.requires p (subst (λ (pairs : List (ℕ × ℕ)). Listed p pairs) c.deref.ensures.value h) in
    subst (λ (settled : List Bool). (p.0 < length settled) × (p.1 < length settled)) (sym c.deref-2.ensures.value) w

pub returns : goal.returns
returns c =
    let lent = subst (λ (settled : List Bool). IfOk c.unsettled.result (λ left. left.items ≡ filter (λ (p : ℕ × ℕ). not (get_or settled p.0 false)) c.deref.result.now)) c.deref-2.ensures.value c.unsettled.ensures in
    subst (λ (pairs : List (ℕ × ℕ)). IfOk c.unsettled.result (λ left. left.items ≡ filter (λ (p : ℕ × ℕ). not (is_settled c.args.self.now p.0)) pairs)) c.deref.ensures.value lent
