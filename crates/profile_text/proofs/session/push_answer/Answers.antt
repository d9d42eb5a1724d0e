use Rattle.std.proofs.Common.{◌≡◌, ◌∙◌, ◌++◌, ◌+◌, ◌-◌, ℕ, List, length, ap, sym, subst, arith, Result}
use Rattle.rel_base.specs.RowState.{RowState}
use Rattle.rel_base.specs.Batches.{after, kept_or_after}
use Rattle.rel_base.specs.declared.batch.Op.{Op}
use Rattle.rel_base.specs.declared.why.Why.{Why}
use Rattle.row_log.specs.declared.applying.Applying.{Applying}
use Rattle.row_log.specs.declared.applying.Applying.TheVariants.{Applied}
use Rattle.report_text.specs.Outcome.{applied_line}
use Rattle.profile_text.specs.Session.{batch_line}
use Rattle.profile_text.specs.Waiting.{IsReply}
use Rattle.profile_text.proofs.Waits.{adds_up, refused_at}
use Rattle.profile_text.proofs.session.push_answer.Goals as goal

pub overflow_add-live : goal.overflow_add-live
overflow_add-live c =
    let a = adds_up c.args.first c.requires.0 c.requires.1 c.in-Applied.inserted c.in-Applied.deleted c.args.live
    (subst (λ (reply : Applying). IsReply c.args.first c.requires.0 c.requires.1 reply c.args.live) c.in-Applied.is c.requires.2) in
    let fits = a.fits in
    omega arith

pub overflow_sub-live : goal.overflow_sub-live
overflow_sub-live c =
    let a = adds_up c.args.first c.requires.0 c.requires.1 c.in-Applied.inserted c.in-Applied.deleted c.args.live
    (subst (λ (reply : Applying). IsReply c.args.first c.requires.0 c.requires.1 reply c.args.live) c.in-Applied.is c.requires.2) in
    let sum = a.live_is in
    omega arith

pub overflow_add-first : goal.overflow_add-first
overflow_add-first c =
    let is = subst (λ (reply : Applying). IsReply c.args.first c.requires.0 c.requires.1 reply c.args.live) c.in-Refused.is c.requires.2 in
    let w = refused_at c.args.first c.requires.0 c.requires.1 c.in-Refused.at c.in-Refused.why c.args.live is in
    let most = w.2 in
    let short = is.short in
    omega arith

pub overflow_sub-first : goal.overflow_sub-first
overflow_sub-first c =
    let w = refused_at c.args.first c.requires.0 c.requires.1 c.in-Refused.at c.in-Refused.why c.args.live
    (subst (λ (reply : Applying). IsReply c.args.first c.requires.0 c.requires.1 reply c.args.live) c.in-Refused.is c.requires.2) in
    let least = w.1 in
    omega arith

-- the rows after a batch that was applied
live_after : (first : ℕ) (r : RowState) (ops : List Op) (inserted deleted live : ℕ) (reply : Applying) → reply ≡ Applied inserted deleted → IsReply first r ops reply live
    → live + inserted - deleted ≡ length (kept_or_after r (after r ops)).live
live_after first r ops inserted deleted live reply is h =
    let a = adds_up first r ops inserted deleted live (subst (λ (given : Applying). IsReply first r ops given live) is h) in
    let sum = a.live_is in
    let same : live + inserted - deleted ≡ length a.rows.live = omega arith in
    same ∙ ap (λ (o : Result RowState (ℕ × Why)). length (kept_or_after r o).live) (sym a.after_is)

line_after : (number first : ℕ) (r : RowState) (ops : List Op) (inserted deleted live : ℕ) (reply : Applying) → reply ≡ Applied inserted deleted → IsReply first r ops reply live
    → applied_line number inserted deleted (live + inserted - deleted) ≡ batch_line number first ops (after r ops)
line_after number first r ops inserted deleted live reply is h =
    let a = adds_up first r ops inserted deleted live (subst (λ (given : Applying). IsReply first r ops given live) is h) in
    let sum = a.live_is in
    let same : live + inserted - deleted ≡ length a.rows.live = omega arith in
    (λ i. applied_line number (a.inserts i) (a.deletes i) (same i)) ∙ ap (batch_line number first ops) (sym a.after_is)

pub returns-in_ok-push_applied_line-in-Applied-clause-text : goal.returns-in_ok-push_applied_line-in-Applied-clause-text
returns-in_ok-push_applied_line-in-Applied-clause-text c r ops h =
    c.in_ok-push_applied_line-in-Applied.ensures.ok ∙ ap (λ (line : List ℕ). c.args.lines.now ++ line) (line_after c.args.no c.args.first r ops c.in-Applied.inserted c.in-Applied.deleted c.args.live c.args.reply c.in-Applied.is h)

pub returns-in_ok-push_applied_line-in-Applied-clause-live : goal.returns-in_ok-push_applied_line-in-Applied-clause-live
returns-in_ok-push_applied_line-in-Applied-clause-live c r ops h = live_after c.args.first r ops c.in-Applied.inserted c.in-Applied.deleted c.args.live c.args.reply c.in-Applied.is h
