use Rattle.std.proofs.Common.{refl}
use Rattle.std.proofs.lemmas.Result.{IfOk-weaker}
use Rattle.clap.specs.Simple.{new_app, with_rule}
use Rattle.cli_words.specs.Words.{files_rule, width_rule}
use Rattle.std.specs.Prelude.{codes}
use Rattle.cli_words.proofs.TheApp.{with_arg}
use Rattle.cli_words.proofs.words.nary_words.Goals as goal

pub returns : goal.returns
returns c =
    let one = with_arg c.new.result c.width_option.result c.in_ok-arg.field-0 (new_app (codes "nary")) width_rule c.in_ok-arg.ensures c.new.ensures.app c.width_option.ensures refl in
    IfOk-weaker c.arg-2.result _ _
    (λ m adds. with_arg c.in_ok-arg.field-0 c.file_words.result m (with_rule (new_app (codes "nary")) width_rule) files_rule adds one c.file_words.ensures refl)
    c.arg-2.ensures
