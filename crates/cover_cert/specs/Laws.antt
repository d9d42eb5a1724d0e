-- Laws of certificates: what a text is of which yes is said, and that it lists the covers.
use Rattle.std.specs.Prelude.{◌≡◌, ◌<◌, ◌≤◌, ◌↔◌, ◌++◌, ℕ, List, [], ◌∷◌, length, map, Some}
use Rattle.std.specs.List.{All, Contains}
use Rattle.rel_base.specs.declared.nulls.Nulls.{Nulls}
use Rattle.rel_base.specs.Relation.{Content}
use Rattle.rel_base.specs.RowState.{RowState, IsRowState, width, opened}
use Rattle.rel_base.specs.Covers.{CoverLists, covers, least_covers}
use Rattle.rel_base.specs.Laws.{AllHold}
use Rattle.cover_cert.specs.declared.line.Line.{Line}
use Rattle.cover_cert.specs.declared.line.Line.TheVariants as line
use Rattle.cover_cert.specs.declared.line.Shape.{Shape}
use Rattle.cover_cert.specs.declared.line.RowPair.{RowPair}
use Rattle.cover_cert.specs.declared.answer.Answer.TheVariants.{Yes}
use Rattle.cover_cert.specs.Form.{said, claims_in}
use Rattle.cover_cert.specs.Comparing.{claims_of}
use Rattle.cover_cert.specs.Certificates.{rows_of, shape_of, agree_sets_of, answer}

-- it names two live rows, the lesser number first
pub record NamesRows (r : RowState) (pair : RowPair) : Type 0 where
  pub positive : 1 ≤ pair.first
  pub rising : pair.first < pair.second
  pub first : Contains r.live pair.first
  pub second : Contains r.live pair.second

-- in a relation as it was read these are two different numbers from 1 to that of its rows
abbrev pub RowsHaveTheirNumbers : Type 0
RowsHaveTheirNumbers = (nulls : Nulls) (limit : ℕ) (c : Content) (pair : RowPair)
    → NamesRows (opened nulls limit c) pair ↔ ((1 ≤ pair.first) × (pair.first < pair.second) × (pair.second ≤ length c.rows))

-- the lines that list a size, pairs, and covers
abbrev pub lines_of : Shape → List RowPair → CoverLists → List Line
lines_of shape pairs lists = line.Cert shape ∷ (map line.Pair pairs ++ (map line.Key lists.keys ++ (map line.Fd lists.fds ++ line.End ∷ [])))

-- the covers that the agree sets of pairs leave
abbrev pub left_by : RowState → List RowPair → CoverLists
left_by r pairs = least_covers (width r) (agree_sets_of (rows_of r) pairs)

-- The text is a certificate: its lines are the size of the rows, pairs of them, and exactly the covers that these leave, which hold.
pub record IsCertificate (r : RowState) (bytes : List ℕ) : Type 0 where
  pub pairs : List RowPair
  pub named : All (NamesRows r) pairs
  pub text : said bytes ≡ map Some (lines_of (shape_of (rows_of r)) pairs (left_by r pairs))
  pub hold : AllHold r (left_by r pairs)

-- Yes is said of certificates, and of nothing else.
abbrev pub YesIsSaidOfCertificates : Type 0
YesIsSaidOfCertificates = (r : RowState) (bytes : List ℕ) → IsRowState r → (answer r bytes ≡ Yes) ↔ IsCertificate r bytes

-- The keys and dependencies of a text of which yes is said are the covers of the rows, whoever made it.
abbrev pub CertificatesListCovers : Type 0
CertificatesListCovers = (r : RowState) (bytes : List ℕ) → IsRowState r → answer r bytes ≡ Yes → claims_in (said bytes) ≡ claims_of (covers r)
