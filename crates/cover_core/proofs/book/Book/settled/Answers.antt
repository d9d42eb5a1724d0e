use Rattle.cover_core.proofs.Turn.{settled-first}
use Rattle.cover_core.proofs.book.Book.settled.Goals as goal

pub returns : goal.returns
returns c = settled-first c.args.self.now c.first.result c.is_none.result c.first.ensures c.is_none.ensures
