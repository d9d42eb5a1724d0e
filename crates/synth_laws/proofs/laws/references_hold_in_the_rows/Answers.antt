use Rattle.synth_laws.proofs.Referring.{ReferencesHold-references}
use Rattle.synth_laws.proofs.laws.references_hold_in_the_rows.Goals as goal

pub returns : goal.returns
returns c r ts keys = ReferencesHold-references r ts keys
