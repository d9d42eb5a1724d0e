use Rattle.std.specs.Prelude.{nat_lt}
use Rattle.plain_base.proofs.Rows.{fewer-state}
use Rattle.plain_base.proofs.plain_rows.PlainRows.end_from.Goals as goal

pub invariant_of-self : goal.invariant_of-self
invariant_of-self c =
    let s = c.self.inside in
    fewer-state (record { names = s.names; nulls = s.nulls; limit = s.limit; given = s.given.items; live = s.live.items }) (λ i. nat_lt i c.args.bound) c.keep_below.new.numbers.items c.self.invariant c.keep_below.ensures
