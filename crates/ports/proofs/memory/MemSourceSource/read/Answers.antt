use Rattle.std.proofs.Common.{rules}
use Rattle.ports.proofs.Moving.{LeavesRest-front}
use Rattle.ports.proofs.memory.MemSourceSource.read.Goals as goal

pub returns-clause-rest : goal.returns-clause-rest
returns-clause-rest c =
    rw c.reading_of.ensures (LeavesRest-front c.move_first.result c.min-most.result c.args.buffer.now c.move_first.new.buffer (search rules) (search rules) c.move_first.ensures.rest)
