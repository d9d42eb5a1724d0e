use Rattle.std.proofs.Common.{◌≡◌, ◌<◌, ◌-◌, ◌∙◌, ℕ, List, sym, ap, arith, get_or}
use Rattle.rel_base.specs.CodeTable.{code_at, live_at}
use Rattle.sampler.proofs.Among.{neighbours_more}
use Rattle.sampler.proofs.Lasts.{last_dead, last_live, pair_of_last}
use Rattle.sampler.proofs.spread.neighbours.Goals as goal
use Rattle.sampler.proofs.spread.neighbours.Goals.{then-is_live+in_ok-before+then-before-gt0+in_ok-offer, then-is_live+in_ok-before+else-before-gt0, else-is_live}

pub loop-number-preserved : goal.loop-number-preserved
loop-number-preserved c =
    let s = c.args.snapshot.now in let column = c.args.column in
    let n = c.loop-number.number in
    let first = c.loop-number.auto.number in let last = c.loop-number-test.true in
    let to = c.to.ensures.value in let end = c.number-number-end.ensures.value in
    let inside : n < s.to = omega arith in
    let positive : 0 < n = omega arith in
    let row = c.of-row.ensures in
    let flag = ap (live_at s) (sym row) ∙ sym c.is_live.ensures in
    let was = c.loop-number.invariant in
    let old = c.loop-number.last.items in
    elim c.if-is_live.branch [
      | then-is_live+in_ok-before+then-before-gt0+in_ok-offer w ↦
          let live = flag ∙ w.if-is_live.true in
          let code : code_at s n column ≡ w.get.result = sym (w.get.ensures ∙ ap (λ (codes : List ℕ). get_or codes (n - 1) 0) c.column-codes.ensures.value) in
          let pair = pair_of_last s column n old w.get.result w.in_ok-before.before w.of.result c.of-row.result was.last inside live code w.in_ok-before.ensures.before w.if-before-gt0.true w.of.ensures row in
          rw (w.last-is, w.spread-is) (record {
            last = last_live s column n old w.noted.new.last.items w.get.result was.last positive live code w.in_ok-before.ensures.noted;
            neighbours = neighbours_more s column c.loop-number.spread.pairs.items w.offer.new.self.pairs.items w.of.result c.of-row.result was.neighbours pair w.in_ok-offer.ensures.among;
            few = w.in_ok-offer.ensures.few was.few;
          })
      | then-is_live+in_ok-before+else-before-gt0 w ↦
          let live = flag ∙ w.if-is_live.true in
          let code : code_at s n column ≡ w.get.result = sym (w.get.ensures ∙ ap (λ (codes : List ℕ). get_or codes (n - 1) 0) c.column-codes.ensures.value) in
          rw (w.last-is, w.spread-is) (record {
            last = last_live s column n old w.noted.new.last.items w.get.result was.last positive live code w.in_ok-before.ensures.noted;
            neighbours = was.neighbours;
            few = was.few;
          })
      | else-is_live w ↦ rw (w.last-is, w.spread-is) (record { last = last_dead s column n old was.last (flag ∙ w.if-is_live.false); neighbours = was.neighbours; few = was.few })
    ]
