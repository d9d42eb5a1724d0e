use Rattle.std.proofs.Common.{rules}
use Rattle.desk_lock.proofs.Keeps.{draws}
use Rattle.desk_lock.proofs.desk.TicketDesk.draw.Goals as goal

pub fetch_add-requires : goal.fetch_add-requires
fetch_add-requires g c = let own = c.requires in (own.of_desk, search rules, draws g.K.Turns.step g.K.Turns.may _ _ _ _ g.G.Said.said own.idle own.bears)
