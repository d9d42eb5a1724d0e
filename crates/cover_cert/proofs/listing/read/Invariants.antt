use Rattle.std.proofs.Common.{◌≡◌, ◌+◌, length, map}
use Rattle.csv_load.specs.Records.{records_of}
use Rattle.cover_cert.specs.Lines.{line_of}
use Rattle.cover_cert.specs.Form.{said}
use Rattle.cover_cert.proofs.Forms.{ReadTo}
use Rattle.cover_cert.proofs.listing.read.Given as goal

abbrev pub invariant-loop-listing : goal.invariant-loop-listing
invariant-loop-listing l = record {
  read : ReadTo l.wanted (said l.text) l.part l.record l.listing.is_shaped l.listing.pairs.items l.listing.claims.items (map line_of l.reader.left);
  count : l.record + length l.reader.left ≡ length (records_of l.text) + 1;
}

abbrev pub decreases-loop-listing : goal.decreases-loop-listing
decreases-loop-listing l = length l.reader.left
