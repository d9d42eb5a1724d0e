use Rattle.std.proofs.Common.{◌∙◌, map, Some, None}
use Rattle.std.proofs.lemmas.Result.{IfOk-weaker}
use Rattle.clap.specs.Matches.{found_of}
use Rattle.cli_words.proofs.Found.{files_of-words}
use Rattle.cli_words.proofs.command.files_of.Goals as goal

pub returns-in-Some : goal.returns-in-Some
returns-in-Some c =
    IfOk-weaker c.names_of.result _ _ (λ names e. e ∙ files_of-words (found_of c.args.found.now) (Some (map (λ word. word.now) c.in-Some.words.now)) c.in-Some.ensures) c.names_of.ensures

pub returns-in-None : goal.returns-in-None
returns-in-None c = c.new.ensures.items ∙ files_of-words (found_of c.args.found.now) None c.in-None.ensures
