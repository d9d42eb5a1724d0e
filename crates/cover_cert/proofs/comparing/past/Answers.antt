use Rattle.std.proofs.Common.{◌∙◌, ◌+◌, ◌++◌, List, ap, sym, drop, arith}
use Rattle.cover_cert.specs.declared.line.Claim.{Claim}
use Rattle.cover_cert.specs.Comparing.{same_claim, claims_to, departs_at}
use Rattle.cover_cert.proofs.Firsts.{departs-short, departs-other, departs-same}
use Rattle.cover_cert.proofs.Past.{left_first}
use Rattle.cover_cert.proofs.comparing.past.Goals as goal
use Rattle.cover_cert.proofs.comparing.past.Goals.{then-place-claims-via-then-place-claims, then-place-claims-via-else-place-claims+then-not-is_claim}

pub returns-then-place-claims-clause-told : goal.returns-then-place-claims-clause-told
returns-then-place-claims-clause-told c number more =
    let t = c.args.target in let lefts = c.args.lefts.now in let claims = c.args.claims.now in let place = c.loop-left.place in
    let w : Claim = record { left = c.left-item.result; target = t } in
    let ws : List Claim = claims_to t (drop (c.loop-left.left-index + 1) lefts) ++ more in
    c.loop-left.invariant.told number more
    ∙ ap (λ (cs : List Claim). departs_at (number + place) cs (drop place claims)) (left_first t lefts c.loop-left.left-index c.left-item.result more c.loop-left-test.true c.left-item.is)
    ∙ elim c.then-place-claims.branch [
      | then-place-claims-via-then-place-claims v ↦ departs-short number claims place w ws v.if-place-claims.true
      | then-place-claims-via-else-place-claims+then-not-is_claim v ↦ departs-other number claims place w ws v.index-claims-place.result v.if-place-claims.false
          (ap (λ (x : Claim). same_claim x w) (sym v.index-claims-place.is) ∙ sym v.is_claim.ensures ∙ v.if-not-is_claim.true)
    ]

pub loop-left-preserved : goal.loop-left-preserved
loop-left-preserved c = record {
  place = let l = c.if-place-claims.false in omega arith;
  told = λ number more.
      let t = c.args.target in let lefts = c.args.lefts.now in let claims = c.args.claims.now in let place = c.loop-left.place in
      let w : Claim = record { left = c.left-item.result; target = t } in
      let ws : List Claim = claims_to t (drop (c.loop-left.left-index + 1) lefts) ++ more in
      c.loop-left.invariant.told number more
      ∙ ap (λ (cs : List Claim). departs_at (number + place) cs (drop place claims)) (left_first t lefts c.loop-left.left-index c.left-item.result more c.loop-left-test.true c.left-item.is)
      ∙ departs-same number claims place w ws c.index-claims-place.result c.if-place-claims.false
      (ap (λ (x : Claim). same_claim x w) (sym c.index-claims-place.is) ∙ sym c.is_claim.ensures ∙ c.if-not-is_claim.false);
}
