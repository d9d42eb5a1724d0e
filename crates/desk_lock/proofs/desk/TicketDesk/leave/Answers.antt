use Rattle.std.proofs.Common.{rules}
use Rattle.desk_lock.proofs.Keeps.{leaves}
use Rattle.desk_lock.proofs.desk.TicketDesk.leave.Goals as goal

pub fetch_add-served-requires : goal.fetch_add-served-requires
fetch_add-served-requires g c = let s = c.requires.served in (search rules, search rules, leaves g.K.Turns.step g.K.Turns.may _ _ _ _ s.0 s.1 _ s.2 _ s.3 s.4 c.requires.said s.5)
