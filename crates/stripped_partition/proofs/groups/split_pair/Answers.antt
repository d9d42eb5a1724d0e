use Rattle.std.proofs.Common.{inl, inr, ◌≡◌, ◌∷◌, [], ◌++◌, ℕ, zip, get_or, ap, ◌∙◌, arith, vec_len}
use Rattle.stripped_partition.specs.Splits.{parts}
use Rattle.stripped_partition.proofs.PairParts.{adds_none, adds_one, rows_kept, ends_kept, rows_grown, ends_grown, first_of, second_of}
use Rattle.stripped_partition.proofs.groups.split_pair.Goals as goal
use Rattle.stripped_partition.proofs.groups.split_pair.Goals.{Joined-then-codes-code, In_ok-push-3, then-codes-code-via-then-codes-code, then-codes-code-via-else-codes-code+then-code-slots}

-- the rows are no part
none : (c : Joined-then-codes-code) → parts c.args.slots (zip c.args.rows.now c.args.codes.now) ≡ []
none c = elim c.then-codes-code.branch [
  | then-codes-code-via-then-codes-code w ↦ adds_none c.args.slots c.args.rows.now c.args.codes.now c.requires.pair c.requires.coded (inl w.if-codes-code.true)
  | then-codes-code-via-else-codes-code+then-code-slots w ↦ adds_none c.args.slots c.args.rows.now c.args.codes.now c.requires.pair c.requires.coded (inr w.if-code-slots.true)
]

pub returns-then-codes-code : goal.returns-then-codes-code
returns-then-codes-code c = record {
  laid = rows_kept c.args.groups.now.rows.items _ (none c);
  cuts = ends_kept c.args.groups.now.ends.items (vec_len c.args.groups.now.rows) _ (none c);
}

-- they are one part
one : (c : In_ok-push-3) → parts c.args.slots (zip c.args.rows.now c.args.codes.now) ≡ (get_or c.args.rows.now 0 0 ∷ get_or c.args.rows.now 1 0 ∷ []) ∷ []
one c = adds_one c.args.slots c.args.rows.now c.args.codes.now c.requires.pair c.requires.coded c.if-codes-code.false c.if-code-slots.false

pub returns : goal.returns
returns c = record {
  laid =
      rows_grown c.args.groups.now.rows.items c.push.new.self.items c.push-2.new.self.items (get_or c.args.rows.now 0 0) (get_or c.args.rows.now 1 0) _ (one c)
      (c.in_ok-push.ensures.items ∙ ap (λ (r : ℕ). c.args.groups.now.rows.items ++ r ∷ []) (c.index-rows-0.is ∙ first_of c.args.rows.now c.index-rows-0.result c.requires.pair))
      (c.in_ok-push-2.ensures.items ∙ ap (λ (r : ℕ). c.push.new.self.items ++ r ∷ []) (c.index-rows-1.is ∙ second_of c.args.rows.now c.index-rows-1.result c.requires.pair));
  cuts =
      (let a = c.in_ok-push.ensures.len in
      let b = c.in_ok-push-2.ensures.len in
      let l = c.len.ensures in
      ends_grown c.args.groups.now.ends.items c.push-3.new.self.items (vec_len c.args.groups.now.rows) c.len.result _ _ _ (one c) (omega (arith, a, b, l)) c.in_ok-push-3.ensures.items);
}
