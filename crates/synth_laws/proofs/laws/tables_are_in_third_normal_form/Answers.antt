use Rattle.synth_laws.proofs.CoversReach.{TablesAreThirdNormal-synthesis}
use Rattle.synth_laws.proofs.laws.tables_are_in_third_normal_form.Goals as goal

pub returns : goal.returns
returns c r is = TablesAreThirdNormal-synthesis r is
