use Rattle.profile_cli.proofs.Commands.{one_standard_output}
use Rattle.profile_cli.proofs.laws.a_run_has_one_standard_output.Goals as goal

pub returns : goal.returns
returns c words limits files input a b is are = one_standard_output words limits files input a b is are
