use Rattle.std.proofs.Common.{◌∙◌, ℕ, length, sym}
use Rattle.approx_fd.specs.Removal.{removed_in}
use Rattle.approx_fd_tests.proofs.PlainSteps.{minimal-target, minimal-many, minimal-part, minimal-all, below-end, end-below}
use Rattle.approx_fd_tests.proofs.plain.is_minimal.Goals as goal

pub returns-then-has_target : goal.returns-then-has_target
returns-then-has_target c = minimal-target (length c.args.snapshot.now.codes) (λ x. removed_in c.args.snapshot.now x c.args.target) c.args.most c.args.target c.args.columns (sym c.has_target.ensures ∙ c.if-has_target.true)

pub returns-then-count-most : goal.returns-then-count-most
returns-then-count-most c = minimal-many (length c.args.snapshot.now.codes) (λ x. removed_in c.args.snapshot.now x c.args.target) c.args.most c.args.target c.args.columns c.in_ok-count.count c.in_ok-count.ensures c.if-count-most.true

pub returns-then-is_smaller : goal.returns-then-is_smaller
returns-then-is_smaller c = minimal-part (length c.args.snapshot.now.codes) (λ x. removed_in c.args.snapshot.now x c.args.target) c.args.most c.args.target c.args.columns c.of_bits-part.result
    (below-end c.of_bits-part.result c.loop-bits.bits c.number_of_sets-bits-end.result c.columns.result (length c.args.snapshot.now.codes) (c.of_bits-part.ensures ∙ c.from.ensures) c.loop-bits-test.true
    c.number_of_sets-bits-end.ensures c.columns.ensures.value)
    (sym c.in_ok-is_smaller.ensures ∙ c.if-is_smaller.true)

pub returns : goal.returns
returns c = minimal-all (length c.args.snapshot.now.codes) (λ x. removed_in c.args.snapshot.now x c.args.target) c.args.most c.args.target c.args.columns c.in_ok-count.count c.loop-bits.bits
    (sym c.has_target.ensures ∙ c.if-has_target.false) c.in_ok-count.ensures c.if-count-most.false c.loop-bits.invariant
    (end-below c.loop-bits.bits c.number_of_sets-bits-end.result c.columns.result (length c.args.snapshot.now.codes) c.loop-bits-test.false c.number_of_sets-bits-end.ensures c.columns.ensures.value)
