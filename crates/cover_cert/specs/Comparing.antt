-- Keys and dependencies as one sequence, and where one sequence departs from another.
use Rattle.std.specs.Prelude.{if◌then◌else◌, ◌+◌, ◌==◌, ◌&&◌, ℕ, suc, Bool, true, false, List, [], ◌∷◌, ◌++◌, map, drop, Option, Some, None}
use Rattle.col_set.specs.ColSet.{Columns}
use Rattle.col_set.specs.declared.target.Target.{Target}
use Rattle.col_set.specs.declared.target.Target.TheVariants.{Col, RowId}
use Rattle.rel_base.specs.Covers.{CoverLists}
use Rattle.rel_base.specs.declared.dependency.Fd.{Fd}
use Rattle.cover_cert.specs.declared.line.Claim.{Claim}
use Rattle.cover_cert.specs.declared.comparing.Compared.{Compared}

-- these left sides for a target
abbrev pub claims_to : Target → List Columns → List Claim
claims_to target lefts = map (λ left. record { left = left; target = target }) lefts

-- left sides for columns, a list for each
unfoldable pub claims_beside : List ℕ → List (List Columns) → List Claim
claims_beside (column ∷ columns) (lefts ∷ lists) = claims_to (Col column) lefts ++ claims_beside columns lists
claims_beside (column ∷ columns) [] = []
claims_beside [] lists = []

abbrev pub claim_of : Fd → Claim
claim_of fd = record { left = fd.left; target = Col fd.right }

-- covers as one sequence: the keys, then the dependencies, in order
abbrev pub claims_of : CoverLists → List Claim
claims_of lists = claims_to RowId lists.keys ++ map claim_of lists.fds

abbrev pub same_target : Target → Target → Bool
same_target (Col a) (Col b) = a == b
same_target (Col a) RowId = false
same_target RowId (Col b) = false
same_target RowId RowId = true

abbrev pub same_claim : Claim → Claim → Bool
same_claim one other = (one.left == other.left) && same_target one.target other.target

-- The first place, counted from a number, at which what is listed departs from what is wanted: another element, one too many, or one too few.
unfoldable pub departs_at : ℕ → List Claim → List Claim → Option ℕ
departs_at number [] [] = None
departs_at number [] (claim ∷ claims) = Some number
departs_at number (one ∷ others) [] = Some number
departs_at number (one ∷ others) (claim ∷ claims) = if same_claim claim one then departs_at (suc number) others claims else Some number

-- the same where so much has been compared, and this is still to come
abbrev pub departs_then : ℕ → List Claim → Compared → List Claim → Option ℕ
departs_then number claims so_far more =
    if so_far.departs then Some (number + so_far.place) else departs_at (number + so_far.place) more (drop so_far.place claims)

-- the first element, counted from a number, that passes a test
unfoldable pub first_where : {A : Type 0} → (A → Bool) → ℕ → List A → Option ℕ
first_where passes number [] = None
first_where passes number (one ∷ others) = if passes one then Some number else first_where passes (suc number) others
