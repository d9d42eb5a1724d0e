use Rattle.std.proofs.Common.{◌∙◌, ◌++◌, List, ℕ, ap, arith, sym, append_assoc}
use Rattle.nary_text.specs.Inclusions.{head_of}
use Rattle.nary_text.proofs.Heads.{first_heads, heads-all, heads-more}
use Rattle.nary_text.proofs.listing.push_heads.Goals as goal

pub loop-place-preserved : goal.loop-place-preserved
loop-place-preserved c =
    let files = c.args.files.now in
    let coded = c.args.coded.now in
    let place = c.loop-place.place in
    c.in_ok-push_head.ensures ∙ ap (λ (text : List ℕ). text ++ head_of (c.index-files-place.result, c.index-coded-place.result)) c.loop-place.invariant
    ∙ append_assoc c.args.lines.now (first_heads place files coded) (head_of (c.index-files-place.result, c.index-coded-place.result))
    ∙ ap (λ (text : List ℕ). c.args.lines.now ++ text) (sym (heads-more files coded place c.index-files-place.result c.index-coded-place.result (omega arith) (omega arith) c.index-files-place.is c.index-coded-place.is))

pub returns : goal.returns
returns c = c.loop-place.invariant ∙ ap (λ (text : List ℕ). c.args.lines.now ++ text) (heads-all c.args.files.now c.args.coded.now c.loop-place.place (omega arith) (omega arith))
