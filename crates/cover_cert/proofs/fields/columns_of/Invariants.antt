use Rattle.std.proofs.Common.{length}
use Rattle.cover_cert.proofs.Words.{ColumnsFrom}
use Rattle.cover_cert.proofs.fields.columns_of.Given as goal

abbrev pub invariant-words : goal.invariant-words
invariant-words l = ColumnsFrom l.field l.columns l.least l.rest

abbrev pub decreases-words : goal.decreases-words
decreases-words l = length l.rest
