use Rattle.synth_laws.proofs.Bernstein.{TablesAreThirdNormalFor-synthesis}
use Rattle.synth_laws.proofs.laws.tables_of_chosen_dependencies_are_in_third_normal_form.Goals as goal

pub returns : goal.returns
returns c n fds reduced = TablesAreThirdNormalFor-synthesis n fds reduced
