use Rattle.std.proofs.Common.{Some}
use Rattle.desk_lock.proofs.desk.TicketDesk.turn.Given as goal

abbrev pub ghosts-ask : goal.ghosts-ask
ghosts-ask g a = record { said = Some a._call.now }

abbrev pub ghosts-leave : goal.ghosts-leave
ghosts-leave g a = record { said = Some a._reply.now }
