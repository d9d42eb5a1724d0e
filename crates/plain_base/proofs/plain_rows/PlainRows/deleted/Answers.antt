use Rattle.std.specs.Prelude.{nat_eq, not}
use Rattle.plain_base.proofs.Rows.{fewer-state}
use Rattle.plain_base.proofs.plain_rows.PlainRows.deleted.Goals as goal

pub invariant_of-rows : goal.invariant_of-rows
invariant_of-rows c =
    let s = c.rows.inside in
    fewer-state (record { names = s.names; nulls = s.nulls; limit = s.limit; given = s.given.items; live = s.live.items }) (λ i. not (nat_eq c.args.number i)) c.remove_number.new.numbers.items c.rows.invariant c.remove_number.ensures
