use Rattle.std.proofs.Common.{◌∙◌, sym}
use Rattle.column_dict.proofs.Coded.{lacked-new, seen-cell, seen-code-of, seen-old}
use Rattle.column_dict.proofs.dict.Dict.find.Goals as goal

pub returns-clause-old : goal.returns-clause-old
returns-clause-old c =
    let kept = c.self.invariant in
    seen-old c.self.inside.nulls c.self.inside.known.entries c.self.inside.places.items c.args.self.now c.self.view_is c.args.cell.now c.known_code.result kept.1 c.known_code.ensures.code

pub returns-clause-cell : goal.returns-clause-cell
returns-clause-cell c =
    let kept = c.self.invariant in
    seen-cell c.self.inside.nulls c.self.inside.known.entries c.self.inside.places.items c.args.self.now c.self.view_is c.args.cell.now c.known_code.result kept.1 c.known_code.ensures.code

pub returns-clause-agrees : goal.returns-clause-agrees
returns-clause-agrees c =
    let kept = c.self.invariant in
    seen-code-of c.self.inside.nulls c.self.inside.known.entries c.self.inside.places.items c.args.self.now c.self.view_is c.args.cell.now c.known_code.result kept.1 c.known_code.ensures.unique
    c.known_code.ensures.code

pub returns-clause-lacking : goal.returns-clause-lacking
returns-clause-lacking c n =
    let kept = c.self.invariant in
    lacked-new c.self.inside.nulls c.self.inside.known.entries c.self.inside.places.items c.args.self.now c.self.view_is c.args.cell.now kept.1 (sym c.known_code.ensures.code ∙ n)
