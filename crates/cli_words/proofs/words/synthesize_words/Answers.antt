use Rattle.std.proofs.Common.{refl}
use Rattle.std.proofs.lemmas.Result.{IfOk-weaker}
use Rattle.clap.specs.Simple.{new_app, with_rule}
use Rattle.cli_words.specs.Words.{file_rule, most_rule, out_rule, workers_rule}
use Rattle.std.specs.Prelude.{codes}
use Rattle.cli_words.proofs.TheApp.{with_arg}
use Rattle.cli_words.proofs.words.synthesize_words.Goals as goal

pub returns : goal.returns
returns c =
    let one = with_arg c.new.result c.workers_option.result c.in_ok-arg.field-0 (new_app (codes "synthesize")) workers_rule c.in_ok-arg.ensures c.new.ensures.app c.workers_option.ensures refl in
    let two = with_arg c.in_ok-arg.field-0 c.out_option.result c.in_ok-arg-2.field-0 (with_rule (new_app (codes "synthesize")) workers_rule) out_rule c.in_ok-arg-2.ensures one c.out_option.ensures refl in
    let three = with_arg c.in_ok-arg-2.field-0 c.most_option.result c.in_ok-arg-3.field-0 (with_rule (with_rule (new_app (codes "synthesize")) workers_rule) out_rule) most_rule c.in_ok-arg-3.ensures two c.most_option.ensures refl in
    IfOk-weaker c.arg-4.result _ _
    (λ m adds. with_arg c.in_ok-arg-3.field-0 c.file_word.result m (with_rule (with_rule (with_rule (new_app (codes "synthesize")) workers_rule) out_rule) most_rule) file_rule adds three c.file_word.ensures refl)
    c.arg-4.ensures
