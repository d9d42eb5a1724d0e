-- What the first round leaves open.
use Rattle.std.specs.Prelude.{◌≡◌, ℕ, Bool, true, false, List, length, slice_index_or}
use Rattle.col_set.specs.Lists.{Listed}
use Rattle.rel_base.specs.Cells.{Cell}
use Rattle.rel_base.specs.Inclusion.{included}
use Rattle.inclusion_merge.specs.Asked.{AreOpen}
use Rattle.inclusion_merge.specs.declared.open.Open.{Open}

-- whether a column is included wherever it is the first of a pair
abbrev pub is_settled : Open → ℕ → Bool
is_settled o column = slice_index_or o.settled.items column false

-- all inclusions are among the pairs, and those of settled columns are inclusions
pub record IsOpen (columns : List (List Cell)) (o : Open) : Type 0 where
  pub pairs : AreOpen columns o.pairs.items
  pub count : length o.settled.items ≡ length columns
  pub settled : (p : ℕ × ℕ) → Listed p o.pairs.items → is_settled o p.0 ≡ true → included columns p.0 p.1 ≡ true
