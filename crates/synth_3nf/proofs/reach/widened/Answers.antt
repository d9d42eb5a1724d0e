use Rattle.std.proofs.Common.{◌∙◌, sym, refl}
use Rattle.synth_3nf.proofs.Widening.{widened-behind, widened-own, widened-kept}
use Rattle.synth_3nf.proofs.reach.widened.Goals as goal

pub returns-then-has_left_inside-clause-grown : goal.returns-then-has_left_inside-clause-grown
returns-then-has_left_inside-clause-grown c = (widened-behind c.args.sides.now c.args.kept.now c.args.later.now c.args.right c.args.start c.with_later-behind.result c.requires.kept c.requires.told (c.with_later-behind.ensures c.requires.told.fds c.requires.told.told) c.with.result (sym c.has_left_inside.ensures ∙ c.if-has_left_inside.true) c.with.ensures).grown

pub returns-then-has_left_inside-clause-within : goal.returns-then-has_left_inside-clause-within
returns-then-has_left_inside-clause-within c = (widened-behind c.args.sides.now c.args.kept.now c.args.later.now c.args.right c.args.start c.with_later-behind.result c.requires.kept c.requires.told (c.with_later-behind.ensures c.requires.told.fds c.requires.told.told) c.with.result (sym c.has_left_inside.ensures ∙ c.if-has_left_inside.true) c.with.ensures).within

pub returns-then-has_left_inside-clause-settled : goal.returns-then-has_left_inside-clause-settled
returns-then-has_left_inside-clause-settled c = (widened-behind c.args.sides.now c.args.kept.now c.args.later.now c.args.right c.args.start c.with_later-behind.result c.requires.kept c.requires.told (c.with_later-behind.ensures c.requires.told.fds c.requires.told.told) c.with.result (sym c.has_left_inside.ensures ∙ c.if-has_left_inside.true) c.with.ensures).settled

pub returns-then-has_left_inside-clause-fewer : goal.returns-then-has_left_inside-clause-fewer
returns-then-has_left_inside-clause-fewer c = (widened-behind c.args.sides.now c.args.kept.now c.args.later.now c.args.right c.args.start c.with_later-behind.result c.requires.kept c.requires.told (c.with_later-behind.ensures c.requires.told.fds c.requires.told.told) c.with.result (sym c.has_left_inside.ensures ∙ c.if-has_left_inside.true) c.with.ensures).fewer

pub returns-then-has_left_inside-2-clause-grown : goal.returns-then-has_left_inside-2-clause-grown
returns-then-has_left_inside-2-clause-grown c = (widened-own c.args.sides.now c.args.kept.now c.args.later.now c.args.right c.args.start c.with_later-behind.result c.requires.kept c.requires.told (c.with_later-behind.ensures c.requires.told.fds c.requires.told.told) c.walked-more.result c.walked-more.ensures.grown c.walked-more.ensures.within c.walked-more.ensures.settled c.with-then-has_left_inside-2.result (sym c.has_left_inside-2.ensures ∙ c.if-has_left_inside-2.true) c.with-then-has_left_inside-2.ensures).grown

pub returns-then-has_left_inside-2-clause-within : goal.returns-then-has_left_inside-2-clause-within
returns-then-has_left_inside-2-clause-within c = (widened-own c.args.sides.now c.args.kept.now c.args.later.now c.args.right c.args.start c.with_later-behind.result c.requires.kept c.requires.told (c.with_later-behind.ensures c.requires.told.fds c.requires.told.told) c.walked-more.result c.walked-more.ensures.grown c.walked-more.ensures.within c.walked-more.ensures.settled c.with-then-has_left_inside-2.result (sym c.has_left_inside-2.ensures ∙ c.if-has_left_inside-2.true) c.with-then-has_left_inside-2.ensures).within

pub returns-then-has_left_inside-2-clause-settled : goal.returns-then-has_left_inside-2-clause-settled
returns-then-has_left_inside-2-clause-settled c = (widened-own c.args.sides.now c.args.kept.now c.args.later.now c.args.right c.args.start c.with_later-behind.result c.requires.kept c.requires.told (c.with_later-behind.ensures c.requires.told.fds c.requires.told.told) c.walked-more.result c.walked-more.ensures.grown c.walked-more.ensures.within c.walked-more.ensures.settled c.with-then-has_left_inside-2.result (sym c.has_left_inside-2.ensures ∙ c.if-has_left_inside-2.true) c.with-then-has_left_inside-2.ensures).settled

pub returns-then-has_left_inside-2-clause-fewer : goal.returns-then-has_left_inside-2-clause-fewer
returns-then-has_left_inside-2-clause-fewer c = (widened-own c.args.sides.now c.args.kept.now c.args.later.now c.args.right c.args.start c.with_later-behind.result c.requires.kept c.requires.told (c.with_later-behind.ensures c.requires.told.fds c.requires.told.told) c.walked-more.result c.walked-more.ensures.grown c.walked-more.ensures.within c.walked-more.ensures.settled c.with-then-has_left_inside-2.result (sym c.has_left_inside-2.ensures ∙ c.if-has_left_inside-2.true) c.with-then-has_left_inside-2.ensures).fewer

pub returns-clause-grown : goal.returns-clause-grown
returns-clause-grown c = (widened-kept c.args.sides.now c.args.kept.now c.args.later.now c.args.right c.args.start c.with_later-behind.result c.requires.kept c.requires.told (c.with_later-behind.ensures c.requires.told.fds c.requires.told.told) c.walked-more.result c.walked-more.ensures.grown c.walked-more.ensures.within c.walked-more.ensures.settled c.walked-more.result (sym c.has_left_inside-2.ensures ∙ c.if-has_left_inside-2.false) refl).grown

pub returns-clause-within : goal.returns-clause-within
returns-clause-within c = (widened-kept c.args.sides.now c.args.kept.now c.args.later.now c.args.right c.args.start c.with_later-behind.result c.requires.kept c.requires.told (c.with_later-behind.ensures c.requires.told.fds c.requires.told.told) c.walked-more.result c.walked-more.ensures.grown c.walked-more.ensures.within c.walked-more.ensures.settled c.walked-more.result (sym c.has_left_inside-2.ensures ∙ c.if-has_left_inside-2.false) refl).within

pub returns-clause-settled : goal.returns-clause-settled
returns-clause-settled c = (widened-kept c.args.sides.now c.args.kept.now c.args.later.now c.args.right c.args.start c.with_later-behind.result c.requires.kept c.requires.told (c.with_later-behind.ensures c.requires.told.fds c.requires.told.told) c.walked-more.result c.walked-more.ensures.grown c.walked-more.ensures.within c.walked-more.ensures.settled c.walked-more.result (sym c.has_left_inside-2.ensures ∙ c.if-has_left_inside-2.false) refl).settled

pub returns-clause-fewer : goal.returns-clause-fewer
returns-clause-fewer c = (widened-kept c.args.sides.now c.args.kept.now c.args.later.now c.args.right c.args.start c.with_later-behind.result c.requires.kept c.requires.told (c.with_later-behind.ensures c.requires.told.fds c.requires.told.told) c.walked-more.result c.walked-more.ensures.grown c.walked-more.ensures.within c.walked-more.ensures.settled c.walked-more.result (sym c.has_left_inside-2.ensures ∙ c.if-has_left_inside-2.false) refl).fewer
