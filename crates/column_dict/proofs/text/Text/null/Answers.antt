use Rattle.std.proofs.Common.{refl}
use Rattle.column_dict.proofs.text.Text.null.Goals as goal

pub returns : goal.returns
returns c = refl
