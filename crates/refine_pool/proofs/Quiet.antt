-- What others than the feeder do leaves the rows as they are.
use Rattle.std.proofs.Common.{◌≡◌, ℕ, false, List, [], ◌∷◌, ◌++◌, refl, sym, ap, ◌∙◌, subst, inl, inr, ⊎_elim}
use Rattle.rel_base.specs.RowState.{RowState}
use Rattle.rel_base.proofs.States.{All-from, All-listed}
use Rattle.candidate_cover.specs.declared.cand.Marking.{Marking}
use Rattle.candidate_cover.specs.declared.cand.Marking.TheVariants as marks
use Rattle.cover_steps.specs.declared.step.Call.{Call}
use Rattle.cover_steps.specs.declared.step.Call.TheVariants.{Draw, Refute, Mark, Release, Apply, Settle}
use Rattle.cover_steps.specs.Core.{Core}
use Rattle.cover_steps.specs.Histories.{Entry as Turn, rows_after, rows_after_call, is_accepted, IsQuiet}
use Rattle.cover_steps.specs.declared.step.Reply.{Reply as Answer}
use Rattle.cover_steps.specs.declared.step.Reply.TheVariants as answers
use Rattle.cover_core.specs.declared.answers.Draw.{Draw as Draws}
use Rattle.cover_core.specs.declared.answers.Draw.TheVariants as draws
use Rattle.cover_core.specs.declared.answers.Refutation.{Refutation}
use Rattle.cover_core.specs.declared.answers.Refutation.TheVariants as refutations
use Rattle.cover_core.specs.declared.answers.Release.{Release as Given}
use Rattle.cover_core.specs.declared.answers.Release.TheVariants as releases
use Rattle.cover_core.specs.declared.answers.Settling.{Settling}
use Rattle.cover_core.specs.declared.answers.Settling.TheVariants as settlings
use Rattle.cover_core.specs.Replies.{reply_of_draw, reply_of_refutation, reply_of_mark, reply_of_release, reply_of_settle}
use Rattle.desk_lock.specs.History.{NoneIn, GoesOn, LegalFrom, Legal}
use Rattle.desk_lock.proofs.Histories.{legal-begins}
use Rattle.desk.specs.declared.turns.Reply.{Reply}
use Rattle.desk.specs.declared.turns.Reply.TheVariants.{Drawn, Refuted, Marked, Released, Applied, Settled, NoMemory}
use Rattle.desk.specs.Turns.{answer, booked, allowed, turn_of, turns_of, IsTo}
use Rattle.desk.specs.Desks.{History}
use Rattle.desk.proofs.Running.{turns_of-append}

-- ---- which turns accept a batch
draw-quiet : (d : Draws) → is_accepted (reply_of_draw d) ≡ false
draw-quiet (draws.Job job) = refl
draw-quiet (draws.Busy t x) = refl
draw-quiet draws.Settled = refl

refutation-quiet : (r : Refutation) → is_accepted (reply_of_refutation r) ≡ false
refutation-quiet (refutations.Gone row) = refl
refutation-quiet refutations.Known = refl
refutation-quiet refutations.Booked = refl

mark-quiet : (m : Marking) → is_accepted (reply_of_mark m) ≡ false
mark-quiet marks.Marked = refl
mark-quiet marks.Dropped = refl

release-quiet : (r : Given) → is_accepted (reply_of_release r) ≡ false
release-quiet releases.Released = refl
release-quiet releases.Dropped = refl

settle-quiet : (s : Settling) → is_accepted (reply_of_settle s) ≡ false
settle-quiet (settlings.Ready covers) = refl
settle-quiet (settlings.NotYet t x number) = refl

-- who does not bear 0 applies nothing
turn-quiet : (opened : Core) (number : ℕ) (past : History) (call : Call) (reply : Reply) → allowed opened number past call → IsTo call reply → ¬ (number ≡ 0) → is_accepted (answer reply) ≡ false
turn-quiet opened number past call (Drawn d) m to other = draw-quiet d
turn-quiet opened number past call (Refuted r outdated) m to other = refutation-quiet r
turn-quiet opened number past call (Marked k back) m to other = mark-quiet k
turn-quiet opened number past call (Released r back) m to other = release-quiet r
turn-quiet opened number past call (Settled s) m to other = settle-quiet s
turn-quiet opened number past call NoMemory m to other = refl
turn-quiet opened number past (Apply ops) (Applied applying back outdated) m to other = absurd (other m.1.0)
turn-quiet opened number past Draw (Applied applying back outdated) m to other = absurd to
turn-quiet opened number past (Refute i j) (Applied applying back outdated) m to other = absurd to
turn-quiet opened number past (Mark job) (Applied applying back outdated) m to other = absurd to
turn-quiet opened number past (Release job) (Applied applying back outdated) m to other = absurd to
turn-quiet opened number past Settle (Applied applying back outdated) m to other = absurd to

-- ---- whole lists of turns
quiet-one_more : (e : Turn) (es : List Turn) → is_accepted e.reply ≡ false → IsQuiet es → IsQuiet (e ∷ es)
quiet-one_more e es now later =
    let P : Turn → Type 0 = λ x. is_accepted x.reply ≡ false in
    All-from P (e ∷ es) (λ x h. ⊎_elim (λ is. subst P (sym is) now) (λ l. All-listed P x es later l) h)

pub quiet-others : (opened : Core) (past : History) (x : Core) (es : History) (y : Core) → LegalFrom booked allowed opened past x es y → NoneIn (λ n. n ≡ 0) es → IsQuiet (turns_of es)
quiet-others opened past x [] y l none = All-from (λ (e : Turn). is_accepted e.reply ≡ false) [] (λ e h. absurd h)
quiet-others opened past x (e ∷ es) y l none = quiet-one_more (turn_of e) (turns_of es)
    (turn-quiet opened e.number past e.call e.reply l.0 l.1.1.1 none.0)
    (quiet-others opened (past ++ e ∷ []) l.1.0 es y l.1.2 none.1)

-- ---- their rows
kept-rows : (r : RowState) (call : Call) (reply : Answer) → is_accepted reply ≡ false → rows_after_call r call reply ≡ r
kept-rows r (Apply ops) (answers.Applied inserted deleted) quiet = absurd (cc)
kept-rows r (Apply ops) _ quiet = refl
kept-rows r _ reply quiet = refl

quiet-rows : (r : RowState) (es : List Turn) → IsQuiet es → rows_after r es ≡ r
quiet-rows r [] q = refl
quiet-rows r (e ∷ es) q =
    let P : Turn → Type 0 = λ x. is_accepted x.reply ≡ false in
    ap (λ (s : RowState). rows_after s es) (kept-rows r e.call e.reply (All-listed P e (e ∷ es) q (inl refl)))
    ∙ quiet-rows r es (All-from P es (λ x h. All-listed P x (e ∷ es) q (inr h)))

rows-append : (r : RowState) (es fs : List Turn) → rows_after r (es ++ fs) ≡ rows_after (rows_after r es) fs
rows-append r [] fs = refl
rows-append r (e ∷ es) fs = rows-append (rows_after_call r e.call e.reply) es fs

-- where the feeder makes no call, the rows stay
pub others-rows : (opened : Core) (seen later : History) (x : Core) → GoesOn (λ n. n ≡ 0) seen later → Legal booked allowed opened later x → rows_after opened.rows (turns_of later) ≡ rows_after opened.rows (turns_of seen)
others-rows opened seen later x g l =
    let parts = legal-begins booked allowed opened seen g.0 x (subst (λ (h : History). Legal booked allowed opened h x) g.1 l) in
    ap (λ (h : History). rows_after opened.rows (turns_of h)) g.1
    ∙ ap (rows_after opened.rows) (turns_of-append seen g.0)
    ∙ rows-append opened.rows (turns_of seen) (turns_of g.0)
    ∙ quiet-rows (rows_after opened.rows (turns_of seen)) (turns_of g.0) (quiet-others opened seen parts.0 g.0 x parts.2 g.2)
