use Rattle.std.proofs.Common.{◌≡◌, ◌*◌, ◌/◌, ◌∙◌, length, take, ap₂, arith}
use Rattle.std.proofs.lemmas.List.{take_all}
use Rattle.agree_sets.specs.Agreement.{agreement_bits}
use Rattle.agree_sets.proofs.Places.{bits-agree_set}
use Rattle.agree_sets.proofs.agree_blocks.Goals as goal

pub returns : goal.returns
returns c =
    let a = c.args.a.now in
    let b = c.args.b.now in
    let first : take (16 * (length c.args.a.now / 16)) c.args.a.now ≡ c.args.a.now = take_all _ a (omega (arith, c.requires.whole)) in
    let second : take (16 * (length c.args.a.now / 16)) c.args.b.now ≡ c.args.b.now = take_all _ b (omega (arith, c.requires.whole, c.requires.same)) in
    c.of_bits.ensures ∙ c.whole_blocks.ensures ∙ ap₂ agreement_bits first second ∙ bits-agree_set a b c.requires.same
