use Rattle.synth_laws.proofs.Kept.{CanonicalMeans-canonical}
use Rattle.synth_laws.proofs.laws.canonical_dependencies_are_a_minimum_cover.Goals as goal

pub returns : goal.returns
returns c fds = CanonicalMeans-canonical fds
