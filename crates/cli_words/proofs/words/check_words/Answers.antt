use Rattle.std.proofs.Common.{refl}
use Rattle.std.proofs.lemmas.Result.{IfOk-weaker}
use Rattle.clap.specs.Simple.{new_app, with_rule}
use Rattle.cli_words.specs.Words.{cert_rule, file_rule}
use Rattle.std.specs.Prelude.{codes}
use Rattle.cli_words.proofs.TheApp.{with_arg}
use Rattle.cli_words.proofs.words.check_words.Goals as goal

pub returns : goal.returns
returns c =
    let one = with_arg c.new.result c.file_word.result c.in_ok-arg.field-0 (new_app (codes "check")) file_rule c.in_ok-arg.ensures c.new.ensures.app c.file_word.ensures refl in
    IfOk-weaker c.arg-2.result _ _
    (λ m adds. with_arg c.in_ok-arg.field-0 c.certificate_word.result m (with_rule (new_app (codes "check")) file_rule) cert_rule adds one c.certificate_word.ensures refl)
    c.arg-2.ensures
