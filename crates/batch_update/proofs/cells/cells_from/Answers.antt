use Rattle.std.proofs.Common.{◌≡◌, ◌<◌, ◌+◌, ◌++◌, ◌∷◌, append_assoc, arith, ℕ, List, [], length, drop, get_or}
use Rattle.std.proofs.lemmas.List.{drop_more}
use Rattle.csv.specs.Records.{fields_of, partial_of}
use Rattle.rel_base.proofs.Fields.{field-there, field-now}
use Rattle.batch_update.proofs.cells.cells_from.Goals as goal

-- one more cell is copied
copied_more : (fields before after all : List (List ℕ)) (part cell : List ℕ) (place : ℕ) → place < length fields → cell ≡ get_or fields place []
    → part ≡ [] → after ≡ before ++ (part ++ cell) ∷ [] → before ++ drop place fields ≡ all → after ++ drop (place + 1) fields ≡ all
copied_more fields before after all part cell place there is none copied e =
    rw (copied, none, is, append_assoc) (rw (drop_more fields place [] there) at e)

pub unwrap-requires : goal.unwrap-requires
unwrap-requires c =
    let there : c.loop-place.place < length (fields_of c.args.fields.now) = omega (arith, c.len-place-end.ensures, c.loop-place-test.true) in
    field-there c.get.result (fields_of c.args.fields.now) c.loop-place.place there c.get.ensures.value

pub loop-place-preserved : goal.loop-place-preserved
loop-place-preserved c =
    let there : c.loop-place.place < length (fields_of c.args.fields.now) = omega (arith, c.len-place-end.ensures) in
    let is = field-now c.get.result c.unwrap.result (fields_of c.args.fields.now) c.loop-place.place c.unwrap.ensures there c.get.ensures.value in
    record {
      copied = copied_more (fields_of c.args.fields.now) (fields_of c.loop-place.cells) (fields_of c.push_field.new.self) (drop c.args.start (fields_of c.args.fields.now))
          (partial_of c.loop-place.cells) c.unwrap.result.now c.loop-place.place there is c.loop-place.invariant.between c.in_ok-push_field.ensures.fields c.loop-place.invariant.copied;
      between = c.in_ok-push_field.ensures.partial;
    }
