-- The form of a certificate: one `cert` line, `pair` lines, `key` lines, `fd` lines, and `end`.
use Rattle.std.specs.Prelude.{◌≡◌, ◌<◌, ◌+◌, ◌^◌, length, if◌then◌else◌, ◌&&◌, ◌==◌, nat_le, ℕ, suc, Bool, List, [], ◌∷◌, map, Option, Some, None}
use Rattle.std.specs.List.{flat_map, list_all}
use Rattle.col_set.specs.declared.target.Target.TheVariants.{Col, RowId}
use Rattle.csv_load.specs.Records.{records_of}
use Rattle.cover_cert.specs.declared.line.Line.{Line}
use Rattle.cover_cert.specs.declared.line.Line.TheVariants as line
use Rattle.cover_cert.specs.declared.line.Shape.{Shape}
use Rattle.cover_cert.specs.declared.line.RowPair.{RowPair}
use Rattle.cover_cert.specs.declared.line.Claim.{Claim}
use Rattle.cover_cert.specs.declared.part.Part.{Part}
use Rattle.cover_cert.specs.declared.part.Part.TheVariants as part
use Rattle.cover_cert.specs.declared.listing.Listing.{Listing}
use Rattle.cover_cert.specs.declared.listing.Reading.{Reading}
use Rattle.cover_cert.specs.declared.listing.Reading.TheVariants.{Listed, OutOfForm}
use Rattle.cover_cert.specs.Lines.{line_of}

-- what the records of a text say
abbrev pub Said : Type 0
Said = List (Option Line)

abbrev pub said : List ℕ → Said
said bytes = map line_of (records_of bytes)

-- ---- the order of the lines
-- the parts of a text in their order
abbrev pub place_of : Part → ℕ
place_of part.Start = 0
place_of part.Pairs = 1
place_of part.Keys = 2
place_of part.Fds = 3
place_of part.Ended = 4

-- the part, where a text that stands at another one may go on to it: from one of these parts
abbrev pub from_to : ℕ → ℕ → Part → Part → Option Part
from_to first last next before = if nat_le first (place_of before) && nat_le (place_of before) last then Some next else None

-- where a text stands behind a line, if the line may stand there
abbrev pub after_line : Part → Line → Option Part
after_line before (line.Cert shape) = from_to 0 0 part.Pairs before
after_line before (line.Pair pair) = from_to 1 1 part.Pairs before
after_line before (line.Key key) = from_to 1 2 part.Keys before
after_line before (line.Fd fd) = from_to 1 3 part.Fds before
after_line before line.End = from_to 1 3 part.Ended before

abbrev pub after : Part → Option Line → Option Part
after before None = None
after before (Some line) = after_line before line

-- the record, or what comes of the rest, where the record may stand there
abbrev pub out_or : Option Part → ℕ → (Part → Option ℕ) → Option ℕ
out_or None number rest = Some number
out_or (Some next) number rest = rest next

-- the first record out of form, or one past the last where `end` is missing; the next record has this number
unfoldable pub form_flaw : Part → ℕ → Said → Option ℕ
form_flaw before number [] = if place_of before == 4 then None else Some number
form_flaw before number (one ∷ others) = out_or (after before one) number (λ next. form_flaw next (suc number) others)

-- ---- what is listed
abbrev pub shape_in : Option Line → List Shape
shape_in None = []
shape_in (Some (line.Cert shape)) = shape ∷ []
shape_in (Some (line.Pair pair)) = []
shape_in (Some (line.Key key)) = []
shape_in (Some (line.Fd fd)) = []
shape_in (Some line.End) = []

abbrev pub pair_in : Option Line → List RowPair
pair_in None = []
pair_in (Some (line.Cert shape)) = []
pair_in (Some (line.Pair pair)) = pair ∷ []
pair_in (Some (line.Key key)) = []
pair_in (Some (line.Fd fd)) = []
pair_in (Some line.End) = []

-- a key determines which row it is
abbrev pub claim_in : Option Line → List Claim
claim_in None = []
claim_in (Some (line.Cert shape)) = []
claim_in (Some (line.Pair pair)) = []
claim_in (Some (line.Key key)) = record { left = key; target = RowId } ∷ []
claim_in (Some (line.Fd fd)) = record { left = fd.left; target = Col fd.right } ∷ []
claim_in (Some line.End) = []

-- the sizes, the pairs of rows, and the keys and dependencies of a text
abbrev pub shapes_in : Said → List Shape
shapes_in = flat_map shape_in

abbrev pub pairs_in : Said → List RowPair
pairs_in = flat_map pair_in

abbrev pub claims_in : Said → List Claim
claims_in = flat_map claim_in

-- whether a size is this one
abbrev pub same_shape : Shape → Shape → Bool
same_shape wanted shape = (shape.columns == wanted.columns) && (shape.rows == wanted.rows)

-- ---- what reading a text comes to
-- what a text in form lists, and whether its size is this one
pub record IsListing (wanted : Shape) (text : Said) (listing : Listing) : Type 0 where
  pub form : form_flaw part.Start 1 text ≡ None
  pub shaped : listing.is_shaped ≡ list_all (same_shape wanted) (shapes_in text)
  pub pairs : listing.pairs.items ≡ pairs_in text
  pub claims : listing.claims.items ≡ claims_in text

abbrev pub Reads : Shape → Said → Reading → Type 0
Reads wanted text (Listed listing) = IsListing wanted text listing
Reads wanted text (OutOfForm number) = form_flaw part.Start 1 text ≡ Some number

-- so few are listed that each record has a number
pub record AreFew (pairs : List RowPair) (claims : List Claim) : Type 0 where
  pub records : length pairs + length claims + 2 < 2 ^ 64

abbrev pub ListsFew : Reading → Type 0
ListsFew (Listed listing) = AreFew listing.pairs.items listing.claims.items
ListsFew (OutOfForm number) = Unit {0}
