use Rattle.std.proofs.Common.{◌∙◌, refl, sym, true, false}
use Rattle.clap.specs.Matches.{found_of}
use Rattle.cli_words.proofs.Found.{nulls_of-word}
use Rattle.cli_words.proofs.command.nulls_of.Goals as goal

pub returns-then-eq : goal.returns-then-eq
returns-then-eq c =
    nulls_of-word (found_of c.args.found.now) c.get_str.result c.unwrap_or-word.result _ true c.get_str.ensures c.unwrap_or-word.ensures refl (sym c.if-eq.true ∙ c.eq.ensures)

pub returns-else-eq : goal.returns-else-eq
returns-else-eq c =
    nulls_of-word (found_of c.args.found.now) c.get_str.result c.unwrap_or-word.result _ false c.get_str.ensures c.unwrap_or-word.ensures refl (sym c.if-eq.false ∙ c.eq.ensures)
