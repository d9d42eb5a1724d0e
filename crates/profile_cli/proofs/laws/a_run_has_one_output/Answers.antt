use Rattle.profile_cli.proofs.Commands.{one_output}
use Rattle.profile_cli.proofs.laws.a_run_has_one_output.Goals as goal

pub returns : goal.returns
returns c words limits files input a b fixed is are = one_output words limits files input a b fixed is are
