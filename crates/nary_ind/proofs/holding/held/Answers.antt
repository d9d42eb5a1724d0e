use Rattle.std.proofs.Common.{◌∙◌, List, ap, arith, subst, sym}
use Rattle.std.specs.List.{filter}
use Rattle.std.proofs.lemmas.List.{take_all}
use Rattle.nary_ind.specs.declared.found.Side.{Side}
use Rattle.nary_ind.specs.ListInclusions.{from_to, holds_among}
use Rattle.nary_ind.specs.Tables.{Coded, table_at}
use Rattle.nary_ind.specs.Keys.{AreKeysIn}
use Rattle.nary_ind.proofs.Widening.{member-at, taken-kept, taken-left}
use Rattle.nary_ind.proofs.holding.held.Goals as goal
use Rattle.nary_ind.proofs.holding.held.Goals.{then-is_in+in_ok-push, else-is_in}

pub loop-candidate-init : goal.loop-candidate-init
loop-candidate-init c = record {
  lists = c.in_ok-keys.ensures.lists;
  keys = subst (λ (ts : List Coded). AreKeysIn (table_at ts c.args.dependent.now.rel) c.args.dependent.now.columns c.in_ok-keys.keys.items) (sym (ap (λ v. v.items) c.in_ok-keys.ensures.tables)) c.in_ok-keys.ensures.keys;
  held = c.new-held.ensures.items;
}

pub is_held-requires-clause-candidate : goal.is_held-requires-clause-candidate
is_held-requires-clause-candidate c =
    (c.requires.candidates c.candidate-item.result (member-at c.args.candidates.now c.loop-candidate.candidate-index c.candidate-item.result c.loop-candidate-test.true c.candidate-item.is)).0

pub is_held-requires-clause-asked : goal.is_held-requires-clause-asked
is_held-requires-clause-asked c =
    (c.requires.candidates c.candidate-item.result (member-at c.args.candidates.now c.loop-candidate.candidate-index c.candidate-item.result c.loop-candidate-test.true c.candidate-item.is)).1

pub is_held-requires-clause-keys : goal.is_held-requires-clause-keys
is_held-requires-clause-keys c =
    subst (AreKeysIn (table_at c.loop-candidate.lists.tables.items c.args.dependent.now.rel) c.args.dependent.now.columns) (sym c.deref.ensures.value) c.loop-candidate.invariant.keys

pub loop-candidate-preserved : goal.loop-candidate-preserved
loop-candidate-preserved c = record {
  lists = c.in_ok-is_in.ensures.lists;
  keys = subst (λ (ts : List Coded). AreKeysIn (table_at ts c.args.dependent.now.rel) c.args.dependent.now.columns c.in_ok-keys.keys.items) (sym (ap (λ v. v.items) c.in_ok-is_in.ensures.tables)) c.loop-candidate.invariant.keys;
  held = elim c.if-is_in.branch [
    | then-is_in+in_ok-push w ↦
        taken-kept (λ (i : Side). holds_among c.args.unary.now (from_to c.args.dependent.now i)) c.args.candidates.now c.loop-candidate.candidate-index c.candidate-item.result c.loop-candidate.held.items c.if-is_in.held.items
        c.loop-candidate-test.true c.candidate-item.is c.loop-candidate.invariant.held (sym c.in_ok-is_in.ensures.held ∙ w.if-is_in.true) (let r = w.held-is in let i = w.in_ok-push.ensures.items in let e = w.copied.ensures in cc)
    | else-is_in w ↦
        taken-left (λ (i : Side). holds_among c.args.unary.now (from_to c.args.dependent.now i)) c.args.candidates.now c.loop-candidate.candidate-index c.candidate-item.result c.loop-candidate.held.items c.if-is_in.held.items
        c.loop-candidate-test.true c.candidate-item.is c.loop-candidate.invariant.held (sym c.in_ok-is_in.ensures.held ∙ w.if-is_in.false) (let r = w.held-is in cc)
  ];
}

pub returns-clause-held : goal.returns-clause-held
returns-clause-held c =
    c.loop-candidate.invariant.held ∙ ap (filter (λ (i : Side). holds_among c.args.unary.now (from_to c.args.dependent.now i))) (take_all c.loop-candidate.candidate-index c.args.candidates.now (omega arith))
