-- How a run ends whose words can't be gathered.
use Rattle.profile_cli.specs.declared.outcome.Outcome.{Outcome}
use Rattle.profile_cli.specs.declared.outcome.Outcome.TheVariants as ends
use Rattle.depprof.specs.declared.words.WordsFault.{WordsFault}
use Rattle.depprof.specs.declared.words.WordsFault.TheVariants.{NoMemory, NotText}

-- words that are no text are no command
abbrev pub end_of : WordsFault → Outcome
end_of NoMemory = ends.NoMemory
end_of NotText = ends.Usage
