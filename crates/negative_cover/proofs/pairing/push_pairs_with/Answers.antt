use Rattle.std.proofs.Common.{◌≡◌, ◌+◌, ◌++◌, arith, length, length-append, take, drop}
use Rattle.std.proofs.lemmas.List.{length-take-le}
use Rattle.negative_cover.proofs.AllPairs.{compared_before}
use Rattle.negative_cover.proofs.pairing.push_pairs_with.Goals as goal

pub returns-clause-compared : goal.returns-clause-compared
returns-clause-compared c =
    let count = c.min-count.result in
    let m = c.min-count.ensures in
    let a = c.number.ensures.value in
    let b = c.number-2.ensures.value in
    let first = length-take-le count c.args.sets.now (omega arith) in
    let same = c.write_agreement.auto.sets in
    let both = length-append c.write_agreement.new.sets (drop count c.args.sets.now) in
    let long : length (take count (c.write_agreement.new.sets ++ drop count c.args.sets.now)) ≡ count = length-take-le count (c.write_agreement.new.sets ++ drop count c.args.sets.now) (omega arith) in
    compared_before c.args.snapshot.now c.args.first (c.args.first + length (take count (c.write_agreement.new.sets ++ drop count c.args.sets.now))) (c.args.first + length c.args.sets.now) c.args.other
    c.args.found.now.pairs.items c.add_pairs.new.found.pairs.items (λ l. omega arith) c.in_ok-add_pairs.ensures.compared
