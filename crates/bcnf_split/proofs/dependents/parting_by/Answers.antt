use Rattle.std.proofs.Common.{◌∙◌, sym}
use Rattle.std.proofs.lemmas.Bool.{eqb-true, eqb-false}
use Rattle.bcnf_split.proofs.Testing.{IsParting-parted, answered, all-not_violating, whole-not_violating, own-not_violating, IsViolation-found}
use Rattle.bcnf_split.proofs.dependents.parting_by.Goals as goal
use Rattle.bcnf_split.proofs.dependents.parting_by.Goals.{then-eq-via-then-eq, then-eq-via-else-eq+then-eq-2}

pub returns-then-determines_by-clause-told : goal.returns-then-determines_by-clause-told
returns-then-determines_by-clause-told c r t = all-not_violating c.args.covers.now r c.args.s t c.args.left c.requires.inside
    (sym (answered c.args.covers.now r c.args.s t c.args.left c.requires.inside c.determines_by.result c.determines_by.ensures) ∙ c.if-determines_by.true)

pub returns-then-eq-clause-told : goal.returns-then-eq-clause-told
returns-then-eq-clause-told c r t =
    elim c.then-eq.branch [
      | then-eq-via-then-eq w ↦ whole-not_violating c.args.covers.now r c.args.s t c.args.left c.requires.inside c.closure_by.result c.inter-determined.result c.closure_by.ensures.value c.inter-determined.ensures
          (eqb-true c.inter-determined.result c.args.s (sym c.eq.ensures ∙ w.if-eq.true))
      | then-eq-via-else-eq+then-eq-2 w ↦ own-not_violating c.args.covers.now r c.args.s t c.args.left c.requires.inside c.closure_by.result c.inter-determined.result c.closure_by.ensures.value c.inter-determined.ensures
          (eqb-true c.inter-determined.result c.args.left (sym w.eq-else-eq.ensures ∙ w.if-eq-2.true))
    ]

pub returns-clause-smaller : goal.returns-clause-smaller
returns-clause-smaller c = IsParting-parted c.args.s c.args.left c.closure_by.result c.inter-determined.result c.requires.inside c.closure_by.ensures.own c.inter-determined.ensures c.minus.result c.minus.ensures
    (eqb-false c.inter-determined.result c.args.s (sym c.eq.ensures ∙ c.if-eq.false))
    (eqb-false c.inter-determined.result c.args.left (sym c.eq-else-eq.ensures ∙ c.if-eq-2.false))

pub returns-clause-told : goal.returns-clause-told
returns-clause-told c r t = IsViolation-found c.args.covers.now r c.args.s t c.args.left c.requires.inside c.closure_by.result c.inter-determined.result c.closure_by.ensures.value c.inter-determined.ensures
    c.minus.result c.closure_by.ensures.own c.minus.ensures
    (eqb-false c.inter-determined.result c.args.left (sym c.eq-else-eq.ensures ∙ c.if-eq-2.false))
    (sym (answered c.args.covers.now r c.args.s t c.args.left c.requires.inside c.determines_by.result c.determines_by.ensures) ∙ c.if-determines_by.false)
