use Rattle.std.proofs.Common.{◌≡◌, ◌∙◌, ◌++◌, ◌∷◌, [], length, ap, refl}
use Rattle.rel_base.specs.Inclusion.{all_columns}
use Rattle.rel_base.specs.RowState.{width}
use Rattle.profile_text.proofs.Inclusions.{are_columns, inclusion_lines-found, pairs_within}
use Rattle.task_base.proofs.Facts.{OnOk-map}
use Rattle.profile_text.proofs.kept_inclusions.KeptInclusions.push_inclusions.Goals as goal

pub push_inclusions-requires : goal.push_inclusions-requires
push_inclusions-requires c =
    let wide : c.len-width.result ≡ width c.args.rows.now = c.len-width.ensures ∙ ap length c.names.ensures.value in
    pairs_within (c.args.rows.now ∷ []) (c.len-width.result ∷ []) (all_columns (c.args.rows.now ∷ [])) c.deref.result.now (are_columns c.args.rows.now c.len-width.result wide) (c.deref.ensures.value ∙ c.in_ok-pairs.ensures)

pub returns : goal.returns
returns c =
    let wide : c.len-width.result ≡ width c.args.rows.now = c.len-width.ensures ∙ ap length c.names.ensures.value in
    OnOk-map c.push_inclusions.result
    (λ e. e ∙ ap (λ text. c.args.lines.now ++ text)
    (inclusion_lines-found (c.args.rows.now ∷ []) (c.len-width.result ∷ []) (c.len-width.result ∷ []) (all_columns (c.args.rows.now ∷ [])) c.deref.result.now (are_columns c.args.rows.now c.len-width.result wide) refl (c.deref.ensures.value ∙ c.in_ok-pairs.ensures)))
    c.push_inclusions.ensures.ok
