use Rattle.std.proofs.Common.{◌∙◌, length, ap, sym}
use Rattle.rel_base.specs.Inclusion.{all_columns, inclusions}
use Rattle.profile_text.proofs.Inclusions.{inclusions_same}
use Rattle.profile_text.proofs.columns.Columns.count_inclusions.Goals as goal

pub returns : goal.returns
returns g c states are =
    c.len.ensures ∙ c.in_ok-included.field-0.ok.0 ∙ ap length (c.in_ok-included.ensures ∙ ap inclusions c.deref.ensures.value ∙ sym (inclusions_same (all_columns states) c.args.self.now.cells.items are.each))
