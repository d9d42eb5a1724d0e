use Rattle.std.proofs.Common.{◌≡◌, ◌∙◌, ℕ, List, length, ap, ap₂, subst}
use Rattle.std.specs.List.{All}
use Rattle.rel_base.specs.RowState.{RowState, opened, width}
use Rattle.batch_update.specs.Changes.{changes}
use Rattle.batch_update.specs.declared.item.Item.{Item}
use Rattle.cover_steps.specs.Core.{Core}
use Rattle.profile_text.specs.Items.{IsAnswerable}
use Rattle.profile_text.specs.Session.{answers}
use Rattle.profile_text.proofs.SessionAnswers.{all_answerable}
use Rattle.task_base.proofs.Facts.{IfOk-map}
use Rattle.profile_text.proofs.session.session_of.Goals as goal

pub answers_to-requires-clause-items : goal.answers_to-requires-clause-items
answers_to-requires-clause-items g c κs within =
    let wide : c.len-columns.result ≡ width c.in_ok-book.book.rows = c.len-columns.ensures ∙ ap length c.names.ensures.value ∙ ap width c.rows.ensures.rows in
    subst (λ (n : ℕ). All (IsAnswerable n) c.in_ok-items.items.items) wide
    (all_answerable c.len-columns.result (length c.args.bytes.now) c.in_ok-items.items.items c.requires.short c.in_ok-items.ensures.numbers c.in_ok-items.ensures.wide)

pub returns : goal.returns
returns g c =
    let wide : c.len-columns.result ≡ width c.in_ok-book.book.rows = c.len-columns.ensures ∙ ap length c.names.ensures.value ∙ ap width c.rows.ensures.rows in
    let rows : c.in_ok-book.book.rows ≡ opened c.args.nulls c.args.means.now.limits.rows c.args.relation = ap (λ (b : Core). b.rows) c.in_ok-book.ensures in
    IfOk-map c.answers_to.result
    (λ text e. e ∙ ap₂ (λ (r : RowState) (items : List Item). answers c.args.name.now r items) rows
    (c.in_ok-items.ensures.items ∙ ap (λ (n : ℕ). changes c.args.bytes.now n c.args.means.now.limits) (wide ∙ ap width rows)))
    c.answers_to.ensures
