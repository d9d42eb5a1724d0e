-- The definitions at work on small relations, by computing.
use Rattle.std.proofs.Common.{◌≡◌, [], ◌∷◌, ◌++◌, refl, Ok, Err}
use Rattle.col_set.specs.ColSet.{has, with, subset, columns, set_of, combinations, all_sets}
use Rattle.col_set.specs.Target.{has_target}
use Rattle.col_set.specs.Minimal.{proper_subset, is_minimal}
use Rattle.rel_base.specs.declared.nulls.Nulls.TheVariants.{Equal, Distinct}
use Rattle.rel_base.specs.declared.why.Why.TheVariants.{Rows, Missing}
use Rattle.rel_base.specs.Agreement.{agree}
use Rattle.rel_base.specs.Validity.{pairs, agree_sets, holds}
use Rattle.rel_base.specs.Minimality.{min_fd, min_key}
use Rattle.rel_base.specs.Covers.{covers}
use Rattle.rel_base.specs.Batches.{after, insert_count, delete_count}
use Rattle.rel_base.specs.Shows.{code_agree, live_numbers, code_agree_sets}
use Rattle.rel_base.specs.Inclusion.{all_columns, included, inclusions}
use Rattle.rel_base.specs.Projection.{part, distinct, projected, projection}
use Rattle.rel_base.specs.Worked.{one, two, letters, letter_codes, blanks, parity, exchange, misses, repeats}

evidence : agree_sets letters ≡ 1 ∷ 0 ∷ 0 ∷ []
unfolding letters agree_sets pairs agree set_of with
evidence = refl

-- the second column is the key, and determines the first
pub covers-letters : covers letters ≡ record { keys = 2 ∷ []; fds = record { left = 2; right = 0 } ∷ [] }
unfolding covers letters min_key min_fd holds is_minimal proper_subset has_target agree_sets pairs agree all_sets combinations set_of with subset has
covers-letters = refl

-- each two columns are a key, and determine the third
pub covers-parity : covers parity ≡ record { keys = 3 ∷ 5 ∷ 6 ∷ []; fds = record { left = 6; right = 0 } ∷ record { left = 5; right = 1 } ∷ record { left = 3; right = 2 } ∷ [] }
unfolding covers parity min_key min_fd holds is_minimal proper_subset has_target agree_sets pairs agree all_sets combinations set_of with subset has
covers-parity = refl

-- where NULL equals NULL, nothing is needed to know the first column
pub covers-blanks_equal : covers (blanks Equal) ≡ record { keys = 2 ∷ []; fds = record { left = 0; right = 0 } ∷ [] }
unfolding covers blanks min_key min_fd holds is_minimal proper_subset has_target agree_sets pairs agree all_sets combinations set_of with subset has
covers-blanks_equal = refl

-- where it agrees with nothing, each column is a key
pub covers-blanks_distinct : covers (blanks Distinct) ≡ record { keys = 1 ∷ 2 ∷ []; fds = record { left = 2; right = 0 } ∷ record { left = 1; right = 1 } ∷ [] }
unfolding covers blanks min_key min_fd holds is_minimal proper_subset has_target agree_sets pairs agree all_sets combinations set_of with subset has
covers-blanks_distinct = refl

shown : code_agree_sets letter_codes ≡ agree_sets letters
unfolding letters letter_codes code_agree_sets live_numbers code_agree agree_sets pairs agree set_of with
shown = refl

-- row 2 ends, and the new row has number 4
pub after-exchange : after letters exchange ≡ Ok (record letters { given = letters.given ++ two (one 53) (one 113) ∷ []; live = 1 ∷ 3 ∷ 4 ∷ [] })
unfolding letters exchange
after-exchange = refl

-- the second operation fails, since no row has number 9
pub after-misses : after letters misses ≡ Err (2, Missing)
unfolding letters misses
after-misses = refl

-- at a limit of three rows the first one does
after-misses_full : after (record letters { limit = 3 }) misses ≡ Err (1, Rows)
unfolding letters misses
after-misses_full = refl

-- an update is a delete and an insert in one, and rows 1 and 4 are equal now
pub after-repeats : after letters repeats ≡ Ok (record letters { given = letters.given ++ two (one 49) (one 120) ∷ []; live = 1 ∷ 3 ∷ 4 ∷ [] })
unfolding letters repeats
after-repeats = refl

-- the first column's cells, each once
parts-letters : projection letters 1 ≡ (one 49 ∷ []) ∷ (one 50 ∷ []) ∷ []
unfolding letters projection projected distinct part columns has
parts-letters = refl

-- NULL is no cell that another column must have
included-blanks : inclusions (all_columns (blanks Equal ∷ [])) ≡ (0, 1) ∷ []
unfolding blanks inclusions included
included-blanks = refl

-- an update counts as an insert and as a delete
brought : insert_count (repeats ++ exchange) ≡ 2
unfolding repeats exchange
brought = refl

ended : delete_count (repeats ++ exchange) ≡ 2
unfolding repeats exchange
ended = refl
