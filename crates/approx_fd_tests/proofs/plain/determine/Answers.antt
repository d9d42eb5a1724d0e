use Rattle.std.proofs.Common.{◌∙◌, ◌<◌, ℕ, sym}
use Rattle.approx_fd_tests.proofs.PlainSteps.{none-left, determined-more, determined-not, determined-end, first-of, rest-of}
use Rattle.approx_fd_tests.proofs.plain.determine.Goals as goal

pub go_with-requires-clause-row : goal.go_with-requires-clause-row
go_with-requires-clause-row c = first-of (λ (r : ℕ). r < c.args.snapshot.now.to) c.in-Some.row.now c.in-Some.others.now c.loop-row.rest.now c.in-Some.ensures.cases.0 c.loop-row.invariant.given

pub go_with-requires-clause-others : goal.go_with-requires-clause-others
go_with-requires-clause-others c = rest-of (λ (r : ℕ). r < c.args.snapshot.now.to) c.in-Some.row.now c.in-Some.others.now c.loop-row.rest.now c.in-Some.ensures.cases.0 c.loop-row.invariant.given

pub returns-then-not-go_with : goal.returns-then-not-go_with
returns-then-not-go_with c = determined-not c.args.snapshot.now c.args.columns c.args.target c.in-Some.row.now c.in-Some.others.now c.loop-row.rest.now _ c.in-Some.ensures.cases.0 c.loop-row.invariant.told
    (sym c.go_with.ensures ∙ c.if-not-go_with.true)

pub loop-row-preserved : goal.loop-row-preserved
loop-row-preserved c = record {
  told = determined-more c.args.snapshot.now c.args.columns c.args.target c.in-Some.row.now c.in-Some.others.now c.loop-row.rest.now _ c.in-Some.ensures.cases.0 c.loop-row.invariant.told
      (sym c.go_with.ensures ∙ c.if-not-go_with.false);
  given = rest-of (λ (r : ℕ). r < c.args.snapshot.now.to) c.in-Some.row.now c.in-Some.others.now c.loop-row.rest.now c.in-Some.ensures.cases.0 c.loop-row.invariant.given;
}

pub returns : goal.returns
returns c = determined-end c.args.snapshot.now c.args.columns c.args.target c.loop-row.rest.now _ (none-left c.loop-row.rest.now c.in_default.ensures.cases) c.loop-row.invariant.told
