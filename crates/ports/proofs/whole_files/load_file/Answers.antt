use Rattle.std.proofs.Common.{arith}
use Rattle.ports.proofs.Counting.{most_taken-bound}
use Rattle.ports.proofs.whole_files.load_file.Goals as goal

pub returns-in-Failed-close-clause-taken : goal.returns-in-Failed-close-clause-taken
returns-in-Failed-close-clause-taken g c =
    let loaded = c.load_opened-answer in
    omega (arith, most_taken-bound loaded.result c.args.limit loaded.ensures.within, loaded.ensures.taken, c.in-Opened.ensures.taken, c.close.ensures.taken)
