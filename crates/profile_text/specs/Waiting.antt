-- What waits in a session for its next report, or for its end.
use Rattle.std.specs.Prelude.{◌≡◌, ◌<◌, ◌+◌, ◌++◌, ◌^◌, ℕ, List, [], ◌∷◌, length}
use Rattle.std.specs.List.{All}
use Rattle.rel_base.specs.declared.batch.Op.{Op}
use Rattle.rel_base.specs.Batches.{after, IsAsWide}
use Rattle.rel_base.specs.RowState.{RowState, IsRowState, width}
use Rattle.batch_update.specs.declared.item.Item.{Item}
use Rattle.batch_update.specs.declared.item.Item.TheVariants.{Batch, Bad}
use Rattle.row_log.specs.declared.applying.Applying.{Applying}
use Rattle.refine_pool.specs.Phases.{answer, answers as answers_of}
use Rattle.profile_text.specs.declared.session.Asked.{Asked}
use Rattle.profile_text.specs.declared.session.Asked.TheVariants.{Sound, Faulty}
use Rattle.profile_text.specs.Items.{IsAnswerable}
use Rattle.profile_text.specs.Session.{answers}

-- the items that were asked, where these are the batches of the sound ones
abbrev pub waiting : List Asked → List (List Op) → List Item
waiting [] batches = []
waiting (Sound number first ∷ asked) [] = []
waiting (Sound number first ∷ asked) (ops ∷ batches) = Batch number first ops ∷ waiting asked batches
waiting (Faulty number rec why ∷ asked) batches = Bad number rec why ∷ waiting asked batches

-- how many of them are sound
abbrev pub sound_count : List Asked → ℕ
sound_count [] = 0
sound_count (Sound number first ∷ asked) = sound_count asked + 1
sound_count (Faulty number rec why ∷ asked) = sound_count asked

-- the whole text of a session whose lines so far are these, where the rows are r before what waits and where more is to come
abbrev pub text_with : List ℕ → List ℕ → RowState → List Asked → List (List Op) → List Item → List ℕ
text_with name lines r asked batches more = lines ++ answers name r (waiting asked batches ++ more)

-- each sound one has its batch, and all can be answered
pub record AreWaiting (n : ℕ) (asked : List Asked) (batches : List (List Op)) : Type 0 where
  pub each : sound_count asked ≡ length batches
  pub answerable : All (IsAnswerable n) (waiting asked batches)

-- From the rows r, of which so many are live, the batches of what waits got these replies.
pub record AreTold (r : RowState) (batches : List (List Op)) (asked : List Asked) (replies : List Applying) (live : ℕ) : Type 0 where
  pub rows : IsRowState r
  pub live_is : live ≡ length r.live
  pub replies_are : replies ≡ answers_of r batches
  pub are_waiting : AreWaiting (width r) asked batches

-- From the rows r, of which so many are live, a batch got this reply, whose first operation is record `first` of the change text.
pub record IsReply (first : ℕ) (r : RowState) (ops : List Op) (reply : Applying) (live : ℕ) : Type 0 where
  pub rows : IsRowState r
  pub live_is : live ≡ length r.live
  pub wide : All (IsAsWide (width r)) ops
  pub short : first + length ops < 2 ^ 32
  pub reply_is : reply ≡ answer ops (after r ops)
