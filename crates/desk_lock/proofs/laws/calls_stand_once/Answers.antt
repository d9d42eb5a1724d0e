use Rattle.desk_lock.proofs.Turning.{once}
use Rattle.desk_lock.proofs.laws.calls_stand_once.Goals as goal

pub returns : goal.returns
returns g c opened v w call reply = once opened g.K.Turns.step g.K.Turns.may v w call reply
