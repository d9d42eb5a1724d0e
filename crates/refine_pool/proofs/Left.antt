-- What comes before a desk, what a desk leaves, and what is left behind two things after each other.
use Rattle.std.proofs.Common.{◌≡◌, ◌∙◌, ℕ, suc, ◌<◌, List, [], ◌∷◌, take, length, refl, sym, ap, subst, arith, Some, None, Vec}
use Rattle.std.specs.Prelude.{IfOk, IfErr, Result, Ok, Err}
use Rattle.std.specs.List.{Contains}
use Rattle.std.proofs.Math.Seq.{take-length}
use Rattle.std.proofs.lemmas.List.Elements.{Contains-append_left}
use Rattle.std.specs.declared.alloc.Global.{Global}
use Rattle.rel_base.specs.declared.batch.Op.{Op}
use Rattle.rel_base.specs.RowState.{RowState}
use Rattle.rel_base.specs.Batches.{after, kept_or_after}
use Rattle.negative_cover.specs.declared.negative_cover.Witness.{Witness}
use Rattle.row_log.specs.declared.applying.Applying.{Applying}
use Rattle.cover_steps.specs.Core.{Core, first_unfinished}
use Rattle.cover_steps.specs.Laws.{Stands}
use Rattle.cover_steps.specs.Sound.{Sound}
use Rattle.cover_core.specs.Work.{Extends}
use Rattle.desk.specs.declared.desk.Desk.{Desk}
use Rattle.desk.specs.Desks.{Place, LeadsTo, numbers, opened_book, seen}
use Rattle.refine_pool.specs.Crews.{IsFed, Owns, SettledLast, WentOn}
use Rattle.desk_lock.specs.declared.desk.NoMemory.{NoMemory}
use Rattle.desk_lock.specs.Views.{InHome, fresh}
use Rattle.desk_lock.specs.Passes.{view}
use Rattle.refine_pool.specs.declared.refining.Refined.{Refined}
use Rattle.refine_pool.specs.Phases.{answers, KeepsWitnesses, AreThoseOf, IsLeft, IsSoFar, IsWhole}
use Rattle.refine_pool.proofs.Crewing.{has_all}
use Rattle.refine_pool.proofs.Feeding.{fed_end}
use Rattle.refine_pool.proofs.Passing.{V, over_went}
use Rattle.refine_pool.proofs.Ending.{finished, keeps_witnesses}

contains_extended : (ws vs : List Witness) (w : Witness) → Extends ws vs → Contains ws w → Contains vs w
contains_extended ws vs w e h = subst (λ (us : List Witness). Contains us w) (sym e.1) (Contains-append_left ws e.0 w h)

-- nothing was done
pub nothing_left : (book : Core) (batches : List (List Op)) → Sound book → IsSoFar book batches book []
nothing_left book batches sound = record {
  sound = sound;
  witnesses = λ w listed stands. listed;
  those = record { rows = refl; replies = refl };
}

-- a book that found further witnesses first
pub left_grown : (given grown book : Core) (batches : List (List Op)) (told : List Applying) → grown.rows ≡ given.rows → Extends given.witnesses grown.witnesses → IsLeft grown batches book told → IsLeft given batches book told
left_grown given grown book batches told rows more left = record {
  sound = left.sound;
  witnesses = λ w listed stands. left.witnesses w (contains_extended given.witnesses grown.witnesses w more listed) stands;
  those = subst (λ (r : RowState). AreThoseOf r batches book.rows told) rows left.those;
}

-- what is left without any batch, after these
pub left_after : (given mid book : Core) (batches : List (List Op)) (told : List Applying) → IsLeft given batches mid told → IsLeft mid [] book [] → IsLeft given batches book told
left_after given mid book batches told first second = record {
  sound = second.sound;
  witnesses = λ w listed stands. second.witnesses w (first.witnesses w listed (subst (λ (r : RowState). Stands r w) second.those.rows stands)) stands;
  those = record { rows = second.those.rows ∙ first.those.rows; replies = first.those.replies };
}

-- all of the batches were answered
pub left_all : (given book : Core) (batches : List (List Op)) (told : List Applying) → length told ≡ length batches → IsSoFar given batches book told → IsLeft given batches book told
left_all given book batches told all left = subst (λ (bs : List (List Op)). IsLeft given bs book told) (ap (λ (n : ℕ). take n batches) all ∙ take-length batches) left

-- what a desk leaves that was opened with the given book
module _ (desk : Desk) (p : Place) (given book : Core) (batches : List (List Op)) (told : List Applying) (opened : opened_book desk ≡ given) (sound : Sound (opened_book desk)) (kept : Sound book) (lead : LeadsTo desk (seen p) book) where
  pub desk_left : IsFed desk p (take (length told) batches) told → IsSoFar given batches book told
  desk_left fed = record {
    sound = kept;
    witnesses = subst (λ (o : Core). KeepsWitnesses o book) opened (keeps_witnesses (opened_book desk) book (seen p) sound lead.legal);
    those = subst (λ (o : Core). AreThoseOf o.rows (take (length told) batches) book.rows told) opened (fed_end desk p (take (length told) batches) told book sound fed lead.legal);
  }

  pub desk_finished : SettledLast (seen p) → first_unfinished book ≡ None
  desk_finished settled = finished (opened_book desk) book (seen p) sound lead.legal settled

-- and by a book that found further witnesses first, and takes its stores back in the end
pub phase_left : (desk : Desk) (p : Place) (given grown closed book : Core) (batches : List (List Op)) (told : List Applying) → grown.rows ≡ given.rows → Extends given.witnesses grown.witnesses → opened_book desk ≡ grown → Sound (opened_book desk) → Sound closed → LeadsTo desk (seen p) closed → IsFed desk p (take (length told) batches) told → book ≡ closed → IsSoFar given batches book told
phase_left desk p given grown closed book batches told rows more opened sound kept lead fed same =
    subst (λ (b : Core). IsSoFar given batches b told) (sym same)
    (left_grown given grown closed (take (length told) batches) told rows more (desk_left desk p grown closed batches told opened sound kept lead fed))

length-answers : (r : RowState) (batches : List (List Op)) → length (answers r batches) ≡ length batches
length-answers r [] = refl
length-answers r (ops ∷ more) = ap suc (length-answers (kept_or_after r (after r ops)) more)

-- as many as were answered are all
pub those_so_far : (given book : Core) (batches : List (List Op)) (told : List Applying) → IsLeft given batches book told → AreThoseOf given.rows (take (length told) batches) book.rows told
those_so_far given book batches told left =
    subst (λ (bs : List (List Op)). AreThoseOf given.rows bs book.rows told)
    (sym (ap (λ (n : ℕ). take n batches) (ap length left.those.replies ∙ length-answers given.rows batches) ∙ take-length batches)) left.those

on_ok : {T E : Type 0} (P Q : T → Type 0) (r : Result T E) → ((x : T) → P x → Q x) → IfOk r P → IfOk r Q
on_ok P Q (Ok x) f p = f x p
on_ok P Q (Err e) f p = p

on_err : {T E : Type 0} (P Q : E → Type 0) (r : Result T E) → ((e : E) → P e → Q e) → IfErr r P → IfErr r Q
on_err P Q (Ok x) f p = p
on_err P Q (Err e) f p = f e p

-- what two things after each other leave of the witnesses and the batches
module _ (given mid : Core) (batches : List (List Op)) (told : List Applying) (first : IsLeft given batches mid told) where
  pub witnesses_whole : (r : Result Refined (NoMemory Refined)) → IfOk r (λ r. IsWhole mid [] r.book []) → IfOk r (λ r. KeepsWitnesses given r.book)
  witnesses_whole r = on_ok (λ r. IsWhole mid [] r.book []) (λ r. KeepsWitnesses given r.book) r (λ x w. (left_after given mid x.book batches told first w.left).witnesses)

  pub witnesses_so_far : (r : Result Refined (NoMemory Refined)) → IfErr r (λ r. IsSoFar mid [] r.0.book []) → IfErr r (λ r. KeepsWitnesses given r.0.book)
  witnesses_so_far r = on_err (λ r. IsSoFar mid [] r.0.book []) (λ r. KeepsWitnesses given r.0.book) r (λ x w. (left_after given mid x.0.book batches told first w).witnesses)

-- what two things after each other leave of the batches, where memory is wanting in the second
pub those_after : (given mid : Core) (batches : List (List Op)) (told : Vec Applying Global) → IsLeft given batches mid told.items → (r : Result Refined (NoMemory Refined)) → IfErr r (λ r. IsSoFar mid [] r.0.book []) → IfErr r (λ r. r.0.replies ≡ told) → IfErr r (λ r. AreThoseOf given.rows (take (length r.0.replies.items) batches) r.0.book.rows r.0.replies.items)
those_after given mid batches told first (Ok x) so_far same = tt
those_after given mid batches told first (Err e) so_far same =
    subst (λ (v : Vec Applying Global). AreThoseOf given.rows (take (length v.items) batches) e.0.book.rows v.items) (sym same)
    (those_so_far given e.0.book batches told.items (left_after given mid e.0.book batches told.items first so_far))

-- a feeder that is alone at its desk has all of its numbers
pub alone : (desk : Desk) (p q : Place) (book closed : Core) → view p ≡ fresh (Some book) 0 1 [] → numbers desk ≡ 1 → WentOn p q → (((n : ℕ) → n < numbers desk → InHome (view q) n) → LeadsTo desk (seen q) closed) → LeadsTo desk (seen q) closed
alone desk p q book closed is one on whole =
    let owns : Owns p 0 1 = record { low_is = ap (λ (v : V). v.low) is; high_is = ap (λ (v : V). v.high) is; some = omega arith } in
    whole (λ n below. has_all p q n 1 (numbers desk) owns one (over_went p q on) below)
