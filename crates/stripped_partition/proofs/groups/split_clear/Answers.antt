use Rattle.std.proofs.Common.{vec_len}
use Rattle.std.proofs.lemmas.Slice.Zip.{seconds-zip}
use Rattle.stripped_partition.proofs.Distinct.{distinct_parts}
use Rattle.stripped_partition.proofs.PairParts.{rows_kept, ends_kept}
use Rattle.stripped_partition.proofs.groups.split_clear.Goals as goal

pub returns-then-are_distinct-clause-parts : goal.returns-then-are_distinct-clause-parts
returns-then-are_distinct-clause-parts c =
    let none = distinct_parts _ _ _ (seconds-zip c.args.rows.now c.args.codes.now c.requires.coded) (c.are_distinct.ensures c.if-are_distinct.true) in
    record {
      laid = rows_kept c.args.groups.now.rows.items _ none;
      cuts = ends_kept c.args.groups.now.ends.items (vec_len c.args.groups.now.rows) _ none;
    }
