use Rattle.std.proofs.Common.{◌≡◌, ◌<◌, ◌^◌, ◌++◌, ℕ, [], take}
use Rattle.std.specs.List.{All, enumerate_from, flat_map}
use Rattle.table_files.specs.Keys.{numbered_keys_within, other_keys_within}
use Rattle.table_files.proofs.keys.keys_by.Given as goal

abbrev pub invariant-loop-place : goal.invariant-loop-place
invariant-loop-place l = record {
  every : (n : ℕ) → All (λ table. table.columns < 2 ^ n) l.tables → l.all.items ≡ [] ++ flat_map (numbered_keys_within n l.agree_sets) (take l.place (enumerate_from 1 l.tables));
  besides : (n : ℕ) → All (λ table. table.columns < 2 ^ n) l.tables → l.others.items ≡ [] ++ flat_map (other_keys_within n l.agree_sets) (take l.place (enumerate_from 1 l.tables));
}
