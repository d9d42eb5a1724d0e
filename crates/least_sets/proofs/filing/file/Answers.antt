use Rattle.std.proofs.Common.{◌∙◌, ◌+◌, ◌++◌, ◌∷◌, [], ℕ, List, sym, ap, subst, arith}
use Rattle.std.proofs.lemmas.List.{length-map}
use Rattle.least_sets.specs.Drafts.{lists_behind}
use Rattle.least_sets.proofs.Filed.{FiledSoFar, filing_none, filing_has, filing_lacks, filing_all, behind_set}
use Rattle.least_sets.proofs.filing.file.Goals as goal
use Rattle.least_sets.proofs.filing.file.Goals.{then-has+in_ok-push, else-has}

pub loop-column-init : goal.loop-column-init
loop-column-init c = filing_none c.args.z c.args.places (lists_behind c.args.lists.now.items)

pub loop-column-preserved : goal.loop-column-preserved
loop-column-preserved c =
    let old : List (List ℕ) = lists_behind c.args.lists.now.items in
    let now : List (List ℕ) = lists_behind c.loop-column.lists.items in
    let k = c.loop-column.column in
    let many = length-map c.loop-column.lists.items (λ v. v.items) in
    let many_old = length-map c.args.lists.now.items (λ v. v.items) in
    let same = c.loop-column.invariant.count in
    let all = c.requires.all in
    let test = c.loop-column-test.true in
    elim c.if-has.branch [
      | then-has+in_ok-push w ↦ filing_has c.args.z c.args.places old now k c.loop-column.invariant (sym c.has.ensures ∙ w.if-has.true) (omega (arith, same, many_old, all, test)) (lists_behind c.if-has.lists.items)
          (ap (λ v. lists_behind v.items) w.lists-is
          ∙ behind_set c.loop-column.lists.items k c.args.z w.index_mut.result.now w.push.new.self (omega (arith, same, many, many_old, all, test)) (w.in_ok-push.ensures.items ∙ ap (λ v. v.items ++ c.args.z ∷ []) w.index_mut.ensures.value))
      | else-has w ↦ subst (λ v. FiledSoFar c.args.z c.args.places old (lists_behind v.items) (k + 1)) (sym w.lists-is) (filing_lacks c.args.z c.args.places old now k c.loop-column.invariant (sym c.has.ensures ∙ w.if-has.false))
    ]

pub returns : goal.returns
returns c = filing_all c.args.z c.args.places (lists_behind c.args.lists.now.items) (lists_behind c.loop-column.lists.items) c.loop-column.column c.loop-column.invariant c.args.columns c.loop-column-test.false
