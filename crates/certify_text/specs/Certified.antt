-- What `certify` writes.
use Rattle.std.specs.Prelude.{◌≡◌, ℕ, List, [], ◌∷◌}
use Rattle.cover_cert.specs.Laws.{IsCertificate}
use Rattle.profile_text.specs.Reports.{report_of}
use Rattle.rel_base.specs.RowState.{RowState}
use Rattle.task_base.specs.Written.{Written}

-- A certificate of the rows, whichever one, in the file of this name, and behind it the report of the rows. Which pairs of rows the certificate
-- names is open.
pub record Certifies (name file : List ℕ) (r : RowState) (w : Written) : Type 0 where
  pub certificate : List ℕ
  pub certifies : IsCertificate r certificate
  pub written : w ≡ record { files = (name, certificate) ∷ []; text = report_of file r }
