use Rattle.std.proofs.Common.{◌∙◌, ◌<◌, ℕ, sym}
use Rattle.approx_fd_tests.proofs.PlainSteps.{none-left, goes, all-more, all-not, all-none, first-of, rest-of}
use Rattle.approx_fd_tests.proofs.plain.go_with.Goals as goal

pub goes_with-requires-clause-other : goal.goes_with-requires-clause-other
goes_with-requires-clause-other c = first-of (λ (r : ℕ). r < c.args.snapshot.now.to) c.in-Some.other.now c.in-Some.later.now c.loop-other.rest.now c.in-Some.ensures.cases.0 c.loop-other.invariant.given

pub returns-then-not-goes_with : goal.returns-then-not-goes_with
returns-then-not-goes_with c = all-not (goes c.args.snapshot.now c.args.columns c.args.target c.args.row) c.in-Some.other.now c.in-Some.later.now c.loop-other.rest.now _ c.in-Some.ensures.cases.0 c.loop-other.invariant.told
    (sym c.goes_with.ensures ∙ c.if-not-goes_with.true)

pub loop-other-preserved : goal.loop-other-preserved
loop-other-preserved c = record {
  told = all-more (goes c.args.snapshot.now c.args.columns c.args.target c.args.row) c.in-Some.other.now c.in-Some.later.now c.loop-other.rest.now _ c.in-Some.ensures.cases.0 c.loop-other.invariant.told
      (sym c.goes_with.ensures ∙ c.if-not-goes_with.false);
  given = rest-of (λ (r : ℕ). r < c.args.snapshot.now.to) c.in-Some.other.now c.in-Some.later.now c.loop-other.rest.now c.in-Some.ensures.cases.0 c.loop-other.invariant.given;
}

pub returns : goal.returns
returns c = all-none (goes c.args.snapshot.now c.args.columns c.args.target c.args.row) c.loop-other.rest.now _ (none-left c.loop-other.rest.now c.in_default.ensures.cases) c.loop-other.invariant.told
