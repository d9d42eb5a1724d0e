use Rattle.std.proofs.Common.{◌≡◌, ◌++◌, ◌+◌, ◌-◌, ◌<◌, ◌^◌, length}
use Rattle.normalize_text.specs.Demo.{rows_from}
use Rattle.normalize_text.proofs.demo.relation_of.Given as goal

abbrev pub invariant-loop-place : goal.invariant-loop-place
invariant-loop-place l = record {
  text : l.relation.rows ++ rows_from (l.count - l.place) (l.place + 1) l.generator.state ≡ rows_from l.count 1 l.seed;
  below : l.generator.state < 2 ^ 32;
  names : l.relation.names ≡ l.fn.names;
  long : length l.relation.rows ≡ l.place;
}
