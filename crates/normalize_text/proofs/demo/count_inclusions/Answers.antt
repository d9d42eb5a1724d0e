use Rattle.std.proofs.Common.{◌∷◌, []}
use Rattle.task_base.proofs.Facts.{IfOk-map}
use Rattle.normalize_text.proofs.demo.count_inclusions.Goals as goal

pub returns : goal.returns
returns g c = IfOk-map c.count_inclusions.result (λ count e. e (c.args.rows.now ∷ []) (c.in_ok-push.ensures [] c.new-columns.ensures)) c.count_inclusions.ensures
