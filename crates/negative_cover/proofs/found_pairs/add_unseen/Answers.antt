use Rattle.std.proofs.Common.{sym, ◌∙◌}
use Rattle.std.proofs.lemmas.Bool.{not-false, MatchBool-at_true}
use Rattle.negative_cover.proofs.FoundPairs.{seen_at, seen_more, added_known, added_new}
use Rattle.negative_cover.proofs.found_pairs.add_unseen.Goals as goal

pub returns-then-not-added-clause-added : goal.returns-then-not-added-clause-added
returns-then-not-added-clause-added c =
    added_known c.args.pair c.args.pairs.now.items (seen_at c.args.seen.now.keys c.args.pairs.now.items c.args.pair.agree (not-false _ (sym c.in_ok-added.ensures.added ∙ c.if-not-added.true)) c.requires)

pub returns-clause-seen : goal.returns-clause-seen
returns-clause-seen c =
    seen_more c.args.seen.now.keys c.insert.new.self.keys c.args.pairs.now.items c.push.new.self.items c.args.pair (MatchBool-at_true _ _ c.if-not-added.false c.in_ok-added.ensures.keys) c.in_ok-push.ensures.items c.requires

pub returns-clause-added : goal.returns-clause-added
returns-clause-added c = added_new c.args.pair c.args.pairs.now.items c.push.new.self.items c.in_ok-push.ensures.items
