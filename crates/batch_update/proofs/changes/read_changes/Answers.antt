use Rattle.std.proofs.Common.{◌≡◌, ◌∙◌, ◌++◌, [], List, ap, map, sym, arith, refl}
use Rattle.std.proofs.lemmas.List.{append-nil}
use Rattle.csv_load.specs.Records.{records_of}
use Rattle.batch_update.specs.declared.entry.Entry.{Entry}
use Rattle.batch_update.specs.Changes.{changes}
use Rattle.batch_update.specs.Coming.{coming}
use Rattle.batch_update.specs.Entry.{entry_of}
use Rattle.batch_update.proofs.Few.{few_records}
use Rattle.batch_update.proofs.Numbered.{changes_are_numbered}
use Rattle.batch_update.proofs.Parts.{parts_are}
use Rattle.batch_update.proofs.Wide.{changes_are_wide}
use Rattle.batch_update.proofs.changes.read_changes.Goals as goal
use Rattle.batch_update.proofs.changes.read_changes.Goals.{In_ok-cut_off}

pub loop-parted-init : goal.loop-parted-init
unfolding changes coming
loop-parted-init c = record {
  items = rw c.new-items.ensures.items refl;
  some = omega arith;
  numbered = omega arith;
  few = omega (arith, few_records c.args.bytes.now);
}

pub loop-parted-preserved : goal.loop-parted-preserved
loop-parted-preserved c =
    let say = entry_of c.args.columns c.args.limits.now in
    let before = c.loop-parted.invariant in
    let stand = c.loop-parted.so_far in
    let parts = parts_are c.args.columns _ c.args.limits.now c.loop-parted.rest.now c.in-Some.parted.upto.now c.in-Some.parted.behind.now (omega (arith, c.ranges.columns.fits)) c.in-Some.ensures in
    let few = before.few in
    let count = parts.count in
    let read = c.in_ok-so_far.ensures.count in
    let some = before.some in
    record {
      items = before.items
          ∙ ap (λ (es : List Entry). c.loop-parted.items.items ++ coming stand.place.no stand.place.rec stand.begun es) parts.entries
          ∙ c.in_ok-so_far.ensures.entries (map say (records_of c.in-Some.parted.behind.now));
      some = omega (arith, read, some);
      numbered = c.in_ok-so_far.ensures.numbered;
      few = omega (arith, few, count, read);
    }

-- what is listed where the text ends
listed : (c : In_ok-cut_off) → c.cut_off.new.items.items ≡ changes c.args.bytes.now c.args.columns c.args.limits.now
listed c =
    let all = c.loop-parted.invariant.items in
    let last = rw append-nil at (c.in_ok-begun.ensures.entries []) in
    c.in_ok-cut_off.ensures ∙ sym (all ∙ last)

pub returns-clause-numbers : goal.returns-clause-numbers
returns-clause-numbers c = rw (listed c) (changes_are_numbered c.args.bytes.now c.args.columns c.args.limits.now)

pub returns-clause-wide : goal.returns-clause-wide
returns-clause-wide c = rw (listed c) (changes_are_wide c.args.bytes.now c.args.columns c.args.limits.now)
