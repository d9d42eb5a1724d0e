use Rattle.std.proofs.Common.{◌∙◌, ap, sym, refl, arith, length}
use Rattle.batch_update.proofs.Few.{few_records}
use Rattle.cover_cert.specs.Form.{said}
use Rattle.cover_cert.proofs.Forms.{row-out, row-misplaced, row-more, text-open, text-listed}
use Rattle.cover_cert.proofs.listing.read.Goals as goal

pub returns-in_default-clause-reads : goal.returns-in_default-clause-reads
returns-in_default-clause-reads c =
    let found = rw c.if-branch.true at c.in_ok-next.ensures.found in
    row-out c.args.wanted (said c.args.text.now) c.loop-listing.part c.loop-listing.record c.loop-listing.listing.is_shaped c.loop-listing.listing.pairs.items c.loop-listing.listing.claims.items
    c.loop-listing.reader.left c.loop-listing.invariant.read _ _ found c.line_of.result c.line_of.ensures c.in_default.is

pub returns-in_default-after-clause-reads : goal.returns-in_default-after-clause-reads
returns-in_default-after-clause-reads c =
    let found = rw c.if-branch.true at c.in_ok-next.ensures.found in
    row-misplaced c.args.wanted (said c.args.text.now) c.loop-listing.part c.loop-listing.record c.loop-listing.listing.is_shaped c.loop-listing.listing.pairs.items c.loop-listing.listing.claims.items
    c.loop-listing.reader.left c.loop-listing.invariant.read _ _ found c.line_of.result c.line_of.ensures c.in-Some.line c.in-Some.is c.after.result c.after.ensures c.in_default-after.is

pub overflow_add-record : goal.overflow_add-record
overflow_add-record c =
    let found = rw c.if-branch.true at c.in_ok-next.ensures.found in
    let one = ap length found in
    let few = few_records c.args.text.now in
    let count = c.loop-listing.invariant.count in
    record { fits = omega arith }

pub loop-listing-preserved : goal.loop-listing-preserved
loop-listing-preserved c =
    let found = rw c.if-branch.true at c.in_ok-next.ensures.found in
    let one = ap length found in
    let count = c.loop-listing.invariant.count in
    record {
      read = row-more c.args.wanted (said c.args.text.now) c.loop-listing.part c.loop-listing.record c.loop-listing.listing.is_shaped c.loop-listing.listing.pairs.items c.loop-listing.listing.claims.items
          c.loop-listing.reader.left c.loop-listing.invariant.read _ _ found c.line_of.result c.line_of.ensures c.in-Some.line c.in-Some.is c.after.result c.after.ensures
          c.in-Some-after.next c.push.new.self.is_shaped c.push.new.self.pairs.items c.push.new.self.claims.items c.in-Some-after.is c.in_ok-push.ensures.shaped c.in_ok-push.ensures.pairs c.in_ok-push.ensures.claims;
      count = omega arith;
    }

pub returns-then-is_end-clause-reads : goal.returns-then-is_end-clause-reads
returns-then-is_end-clause-reads c =
    let end = rw c.if-branch.false at c.in_ok-next.ensures.end in
    text-listed c.args.wanted (said c.args.text.now) c.loop-listing.part c.loop-listing.record c.loop-listing.listing.is_shaped c.loop-listing.listing.pairs.items c.loop-listing.listing.claims.items
    c.loop-listing.reader.left c.loop-listing.invariant.read end.0 c.loop-listing.listing refl refl refl (sym c.is_end.ensures ∙ c.if-is_end.true)

pub returns-then-is_end-clause-few : goal.returns-then-is_end-clause-few
returns-then-is_end-clause-few c =
    let few = few_records c.args.text.now in
    let count = c.loop-listing.invariant.count in
    let all = c.loop-listing.invariant.read.few in
    record { records = omega arith }

pub returns-clause-reads : goal.returns-clause-reads
returns-clause-reads c =
    let end = rw c.if-branch.false at c.in_ok-next.ensures.end in
    text-open c.args.wanted (said c.args.text.now) c.loop-listing.part c.loop-listing.record c.loop-listing.listing.is_shaped c.loop-listing.listing.pairs.items c.loop-listing.listing.claims.items
    c.loop-listing.reader.left c.loop-listing.invariant.read end.0 (sym c.is_end.ensures ∙ c.if-is_end.false)
