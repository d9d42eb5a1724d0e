use Rattle.std.proofs.Common.{◌<◌, ◌+◌, ◌++◌, ◌∷◌, [], ◌∙◌, ℕ, length, refl, ap, arith}
use Rattle.std.specs.Vec.{with_item}
use Rattle.std.proofs.lemmas.List.{get_or_read}
use Rattle.validator.proofs.Chained.{chain_more}
use Rattle.validator.proofs.chain.Chain.linked.Goals as goal

pub returns-clause-chain : goal.returns-clause-chain
returns-clause-chain c codes h l e =
    let room : c.args.code < length c.reach.new.slots.items = (let r = c.in_ok-reach.ensures.room in omega (arith, c.reach.new.slots.ok.0)) in
    chain_more codes c.args.self (record { before = c.push.new.self; last = with_item c.reach.new.slots c.args.code (c.args.place + 1) }) c.args.place c.args.code c.reach.new.slots.items
    c.requires.next l e c.reach.ensures.kept room
    (c.in_ok-push.ensures.items ∙ ap (λ (n : ℕ). c.args.self.before.items ++ n ∷ []) (get_or_read c.reach.new.slots.items c.args.code c.index.result.now room c.index.ensures 0)) refl h
