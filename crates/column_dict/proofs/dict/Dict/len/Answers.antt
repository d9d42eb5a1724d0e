use Rattle.column_dict.proofs.Coded.{coding}
use Rattle.column_dict.proofs.dict.Dict.len.Goals as goal

pub returns-clause-coding : goal.returns-clause-coding
returns-clause-coding c =
    let kept = c.self.invariant in
    coding c.self.inside.nulls c.self.inside.known.entries c.self.inside.places.items c.args.self.now c.self.view_is kept.1 c.len-cells.ensures.unique
