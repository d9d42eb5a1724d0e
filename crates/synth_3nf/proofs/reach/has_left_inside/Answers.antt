use Rattle.std.proofs.Common.{◌∙◌, sym}
use Rattle.synth_3nf.proofs.Block.{block-past, block-found, block-skipped, block-none}
use Rattle.synth_3nf.proofs.Ends.{from-rest}
use Rattle.synth_3nf.proofs.Rest.{none-left}
use Rattle.synth_3nf.proofs.reach.has_left_inside.Goals as goal

pub returns-then-fd-right : goal.returns-then-fd-right
returns-then-fd-right c = sym (sym c.loop-fd.invariant.same ∙ block-past c.in-Some.fd.now c.in-Some.others.now c.loop-fd.rest.now c.args.x c.args.right c.in-Some.ensures.cases.0 c.loop-fd.invariant.from c.if-fd-right.true)

pub returns-then-subset_of : goal.returns-then-subset_of
returns-then-subset_of c = sym (sym c.loop-fd.invariant.same ∙ block-found c.in-Some.fd.now c.in-Some.others.now c.loop-fd.rest.now c.args.x c.args.right c.in-Some.ensures.cases.0 c.if-fd-right.false (sym c.subset_of.ensures ∙ c.if-subset_of.true))

pub loop-fd-preserved : goal.loop-fd-preserved
loop-fd-preserved c = record {
  same = block-skipped c.in-Some.fd.now c.in-Some.others.now c.loop-fd.rest.now c.args.x c.args.right c.in-Some.ensures.cases.0 (sym c.subset_of.ensures ∙ c.if-subset_of.false) ∙ c.loop-fd.invariant.same;
  from = from-rest c.args.right c.in-Some.fd.now c.in-Some.others.now c.loop-fd.rest.now c.in-Some.ensures.cases.0 c.loop-fd.invariant.from;
}

pub returns : goal.returns
returns c = sym (sym c.loop-fd.invariant.same ∙ block-none c.loop-fd.rest.now c.args.x c.args.right (none-left c.loop-fd.rest.now c.in_default.ensures.cases))
