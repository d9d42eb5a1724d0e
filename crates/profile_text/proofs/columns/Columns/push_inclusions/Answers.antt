use Rattle.std.proofs.Common.{◌∙◌, ◌++◌, ◌<◌, ℕ, List, ap, subst, sym}
use Rattle.std.specs.List.{All, sum}
use Rattle.rel_base.specs.Inclusion.{inclusions}
use Rattle.profile_text.proofs.Inclusions.{inclusion_lines-found, pairs_within}
use Rattle.task_base.proofs.Facts.{OnOk-map}
use Rattle.profile_text.proofs.columns.Columns.push_inclusions.Goals as goal

pub push_inclusions-requires : goal.push_inclusions-requires
push_inclusions-requires g c =
    subst (λ (widths : List ℕ). All (λ pair. (pair.0 < sum widths) × (pair.1 < sum widths)) c.deref-3.result.now) (sym c.deref-2.ensures.value)
    (pairs_within c.requires.0 c.args.self.now.widths.items c.args.self.now.cells.items c.deref-3.result.now c.requires.1
    (c.deref-3.ensures.value ∙ c.in_ok-pairs.ensures ∙ ap inclusions c.deref.ensures.value))

pub returns : goal.returns
returns g c = OnOk-map c.push_inclusions.result
    (λ e states are. e ∙ ap (λ text. c.args.lines.now ++ text)
    (inclusion_lines-found states c.deref-2.result.now c.args.self.now.widths.items c.args.self.now.cells.items c.deref-3.result.now are c.deref-2.ensures.value
    (c.deref-3.ensures.value ∙ c.in_ok-pairs.ensures ∙ ap inclusions c.deref.ensures.value)))
    c.push_inclusions.ensures.ok
