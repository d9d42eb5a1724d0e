use Rattle.std.proofs.Common.{◌≡◌, ◌∙◌, ◌+◌, ◌≤◌, ◌++◌, ◌∷◌, ℕ, Bool, true, false, cond, List, ap, map, sym, arith, length, refl, rules}
use Rattle.rel_base.specs.Cells.{Row}
use Rattle.batch_update.specs.declared.entry.Entry.{Entry}
use Rattle.batch_update.specs.Coming.{coming, number_after}
use Rattle.batch_update.specs.Entry.{entry_of, is_end}
use Rattle.batch_update.proofs.changes.read_part.Goals as goal

-- the number of a batch grows by no more than that of a record
at_most_one_more : (number rec next n : ℕ) (ends : Bool) → next ≡ cond ends (number + 1) number → n ≡ rec + 1 → number ≤ rec → next ≤ n
at_most_one_more number rec next n true e m h = omega (arith, e, m, h)
at_most_one_more number rec next n false e m h = omega (arith, e, m, h)

pub loop-fields-init : goal.loop-fields-init
loop-fields-init c = record {
  items = λ left. rw c.new-reader.ensures.records refl;
  some = c.requires.some;
  numbered = c.requires.numbered;
  count = rw c.new-reader.ensures.records refl;
}

pub returns-clause-entries : goal.returns-clause-entries
returns-clause-entries c = λ left.
    let end = rw c.if-branch.false at c.in_ok-next.ensures.end in
    rw end.0 at (c.loop-fields.invariant.items left)

pub returns-clause-count : goal.returns-clause-count
returns-clause-count c =
    let end = rw c.if-branch.false at c.in_ok-next.ensures.end in
    let none = ap length end.0 in
    omega (arith, none, c.loop-fields.invariant.count)

pub returns-clause-numbered : goal.returns-clause-numbered
returns-clause-numbered c = c.loop-fields.invariant.numbered

pub loop-fields-preserved : goal.loop-fields-preserved
loop-fields-preserved c =
    let say = entry_of c.args.columns c.args.limits.now in
    let more = map say c.next.new.self.left in
    let before = c.loop-fields.invariant in
    let place = c.loop-fields.place in
    let found = rw c.if-branch.true at c.in_ok-next.ensures.found in
    let number : number_after place.no c.in_ok-entry.entry ≡ c.next-place.result.no = search rules in
    let one = ap length found in
    let rec = c.next-place.ensures.rec in
    let count = before.count in
    let some = before.some in
    let numbered = before.numbered in
    record {
      items = λ left.
          before.items left
          ∙ ap (λ (rows : List Row). c.loop-fields.items.items ++ coming place.no place.rec c.loop-fields.begun (map say rows ++ left)) found
          ∙ ap (λ (entry : Entry). c.loop-fields.items.items ++ coming place.no place.rec c.loop-fields.begun (entry ∷ (more ++ left))) (sym c.in_ok-entry.ensures)
          ∙ c.in_ok-begun.ensures (more ++ left)
          ∙ ap (λ (n : ℕ). c.after.new.items.items ++ coming n (place.rec + 1) c.in_ok-begun.begun (more ++ left)) number
          ∙ ap (λ (n : ℕ). c.after.new.items.items ++ coming c.next-place.result.no n c.in_ok-begun.begun (more ++ left)) (sym rec);
      some = omega (arith, rec);
      numbered = at_most_one_more place.no place.rec c.next-place.result.no c.next-place.result.rec (is_end c.in_ok-entry.entry) (sym number) rec numbered;
      count = omega (arith, one, rec, count);
    }

pub next-place-requires-clause-no : goal.next-place-requires-clause-no
next-place-requires-clause-no c =
    let found = rw c.if-branch.true at c.in_ok-next.ensures.found in
    let count = ap length found in
    omega (arith, count, c.loop-fields.invariant.count, c.loop-fields.invariant.numbered, c.requires.few)

pub next-place-requires-clause-rec : goal.next-place-requires-clause-rec
next-place-requires-clause-rec c =
    let found = rw c.if-branch.true at c.in_ok-next.ensures.found in
    let count = ap length found in
    omega (arith, count, c.loop-fields.invariant.count, c.requires.few)
