-- When a text is made as a certificate.
use Rattle.std.specs.Prelude.{◌≡◌, ℕ, List, length}
use Rattle.std.specs.List.{All}
use Rattle.cover_cert.specs.Laws.{IsCertificate}
use Rattle.cover_steps.specs.Sound.{IsWitness}
use Rattle.negative_cover.specs.declared.negative_cover.Witness.{Witness}
use Rattle.negative_cover.specs.Witnesses.{sets_of}
use Rattle.rel_base.specs.Covers.{CoverLists, covers, least_covers}
use Rattle.rel_base.specs.RowState.{RowState, IsRowState, width}

-- These are the columns, the rows, the covers and witnesses of a row state, and the witnesses leave its covers.
pub record AreOf (r : RowState) (columns rows : ℕ) (witnesses : List Witness) (found : CoverLists) : Type 0 where
  pub state : IsRowState r
  pub columns_of : width r ≡ columns
  pub rows_of : length r.live ≡ rows
  pub witnesses_of : All (IsWitness r) witnesses
  pub covers_of : found ≡ covers r
  pub evidence : covers r ≡ least_covers (width r) (sets_of witnesses)

-- It is a certificate of whatever rows these are of.
abbrev pub CertifiesAll : ℕ → ℕ → List Witness → CoverLists → List ℕ → Type 0
CertifiesAll columns rows witnesses found text = (r : RowState) → AreOf r columns rows witnesses found → IsCertificate r text
