-- What the book's calls answer, as replies of the shared cover.
use Rattle.rel_base.specs.JobParts.{JobParts}
use Rattle.rel_base.specs.Covers.{CoverLists}
use Rattle.candidate_cover.specs.declared.cand.Marking.{Marking}
use Rattle.candidate_cover.specs.declared.cand.Marking.TheVariants as marks
use Rattle.row_log.specs.declared.applying.Applying.{Applying}
use Rattle.row_log.specs.declared.applying.Applying.TheVariants as changes
use Rattle.cover_steps.specs.declared.step.Reply.{Reply}
use Rattle.cover_steps.specs.declared.step.Reply.TheVariants as replies
use Rattle.cover_core.specs.declared.answers.Draw.{Draw}
use Rattle.cover_core.specs.declared.answers.Draw.TheVariants as draws
use Rattle.cover_core.specs.declared.answers.Refutation.{Refutation}
use Rattle.cover_core.specs.declared.answers.Refutation.TheVariants as refutations
use Rattle.cover_core.specs.declared.answers.Release.{Release}
use Rattle.cover_core.specs.declared.answers.Release.TheVariants as releases
use Rattle.cover_core.specs.declared.answers.Settling.{Settling}
use Rattle.cover_core.specs.declared.answers.Settling.TheVariants as settlings

abbrev pub reply_of_draw : Draw → Reply
reply_of_draw (draws.Job job) = replies.Job job
reply_of_draw (draws.Busy t x) = replies.Busy t x
reply_of_draw draws.Settled = replies.Settled

abbrev pub reply_of_refutation : Refutation → Reply
reply_of_refutation (refutations.Gone row) = replies.Gone row
reply_of_refutation refutations.Known = replies.Known
reply_of_refutation refutations.Booked = replies.Booked

abbrev pub reply_of_mark : Marking → Reply
reply_of_mark marks.Marked = replies.Marked
reply_of_mark marks.Dropped = replies.Dropped

abbrev pub reply_of_release : Release → Reply
reply_of_release releases.Released = replies.Released
reply_of_release releases.Dropped = replies.Dropped

abbrev pub reply_of_batch : Applying → Reply
reply_of_batch (changes.Applied inserted deleted) = replies.Applied inserted deleted
reply_of_batch (changes.Refused at why) = replies.Refused at why
reply_of_batch changes.NoMemory = replies.NoMemory

-- a fact of the covers that an answer carries
abbrev pub IfReady : Settling → (CoverLists → Type 0) → Type 0
IfReady (settlings.Ready covers) P = P covers
IfReady (settlings.NotYet t x number) P = Unit {0}

-- a fact of the job that an answer carries
abbrev pub IfJob : Draw → (JobParts → Type 0) → Type 0
IfJob (draws.Job job) P = P job
IfJob (draws.Busy t x) P = Unit {0}
IfJob draws.Settled P = Unit {0}

abbrev pub reply_of_settle : Settling → Reply
reply_of_settle (settlings.Ready covers) = replies.Ready covers
reply_of_settle (settlings.NotYet t x number) = replies.NotYet t x number
