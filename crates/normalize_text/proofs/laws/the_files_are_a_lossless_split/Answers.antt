use Rattle.normalize_text.proofs.Joined.{lossless_tables}
use Rattle.normalize_text.proofs.laws.the_files_are_a_lossless_split.Goals as goal

pub returns : goal.returns
returns c prefix name r is equal = lossless_tables prefix name r is equal
