use Rattle.std.proofs.Common.{◌≡◌, ◌∙◌, ◌<◌, ◌&&◌, ◌-◌, Bool, ap, ap₂, arith, length, sym}
use Rattle.col_set.proofs.Places.{Listed-get_or}
use Rattle.nary_ind.specs.ListInclusions.{width_at}
use Rattle.nary_ind.specs.Laws.{is_unary}
use Rattle.nary_ind.specs.Levels.{is_candidate, last_column}
use Rattle.nary_ind.proofs.known.Known.is_candidate.Goals as goal

pub returns-then-not-is_formed : goal.returns-then-not-is_formed
unfolding is_candidate
returns-then-not-is_formed c =
    sym (ap (λ (b : Bool). b && is_unary c.args.self.now c.args.dependent.now.rel (last_column c.args.dependent.now) c.args.referenced.now.rel (last_column c.args.referenced.now)) (sym c.is_formed.ensures ∙ c.if-not-is_formed.true))

pub has-included-requires-clause-dependent : goal.has-included-requires-clause-dependent
has-included-requires-clause-dependent c = let v = ap length c.self.view_is in let r = c.last_place-last.ensures.rel in let l = c.requires.dependent.rel in omega arith

pub has-included-requires-clause-referenced : goal.has-included-requires-clause-referenced
has-included-requires-clause-referenced c = let v = ap length c.self.view_is in let r = c.last_place-into.ensures.rel in let l = c.requires.referenced.rel in omega arith

pub has-included-requires-clause-column : goal.has-included-requires-clause-column
has-included-requires-clause-column c =
    let some = c.requires.some in
    let w : last_column c.args.dependent.now < width_at c.args.self.now c.args.dependent.now.rel = c.requires.dependent.within (last_column c.args.dependent.now) (Listed-get_or c.args.dependent.now.columns (length c.args.dependent.now.columns - 1) 0 (omega arith)) in
    let e : width_at c.self.inside.unary c.last_place-last.result.0 ≡ width_at c.args.self.now c.args.dependent.now.rel = ap₂ width_at c.self.view_is c.last_place-last.ensures.rel in
    let f = c.last_place-last.ensures.column in
    omega arith

pub has-included-requires-clause-other : goal.has-included-requires-clause-other
has-included-requires-clause-other c =
    let some = c.requires.some in
    let long = c.requires.referenced.long in
    let w : last_column c.args.referenced.now < width_at c.args.self.now c.args.referenced.now.rel = c.requires.referenced.within (last_column c.args.referenced.now) (Listed-get_or c.args.referenced.now.columns (length c.args.referenced.now.columns - 1) 0 (omega arith)) in
    let e : width_at c.self.inside.unary c.last_place-into.result.0 ≡ width_at c.args.self.now c.args.referenced.now.rel = ap₂ width_at c.self.view_is c.last_place-into.ensures.rel in
    let f = c.last_place-into.ensures.column in
    omega arith

pub returns : goal.returns
unfolding is_candidate
returns c =
    c.has-included.ensures
    ∙ (λ i. is_unary (c.self.view_is i) (c.last_place-last.ensures.rel i) (c.last_place-last.ensures.column i) (c.last_place-into.ensures.rel i) (c.last_place-into.ensures.column i))
    ∙ sym (ap (λ (b : Bool). b && is_unary c.args.self.now c.args.dependent.now.rel (last_column c.args.dependent.now) c.args.referenced.now.rel (last_column c.args.referenced.now)) (sym c.is_formed.ensures ∙ c.if-not-is_formed.false))
