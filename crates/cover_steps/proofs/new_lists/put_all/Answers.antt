use Rattle.std.proofs.Common.{◌≡◌, ◌<◌, ◌+◌, refl, sym, ap, ◌∙◌, arith, [], ◌∷◌, length}
use Rattle.std.proofs.lemmas.List.{length-append}
use Rattle.col_set.specs.declared.target.Target.TheVariants.{Col, RowId}
use Rattle.cover_steps.proofs.Putting.{put, IsPutSoFar-first, IsPutSoFar-more, IsPutSoFar-whole, none_left}
use Rattle.cover_steps.proofs.new_lists.put_all.Goals as goal
use Rattle.cover_steps.proofs.new_lists.put_all.Goals.{in-Some, in_default, After-len}

pub loop-new_list-init : goal.loop-new_list-init
loop-new_list-init c = elim c.match-row_id.branch [
  | in-Some w ↦ IsPutSoFar-first c.args.candidates.now c.match-row_id.candidates c.args.new_lists.row_id c.args.new_lists.columns.items c.requires (w.candidates-is ∙ w.put.ensures ∙ sym (ap (put c.args.candidates.now RowId) w.in-Some.is))
  | in_default w ↦ IsPutSoFar-first c.args.candidates.now c.match-row_id.candidates c.args.new_lists.row_id c.args.new_lists.columns.items c.requires (w.candidates-is ∙ sym (ap (put c.args.candidates.now RowId) w.in_default.is))
]

-- the column of the new list that was popped
within : (c : After-len) → c.len.result < length c.args.candidates.now.columns
within c =
    let e : length c.loop-new_list.columns.items ≡ length c.pop.new.self.items + 1 = ap length c.in-Some-pop.ensures.items ∙ length-append c.pop.new.self.items (c.in-Some-pop.new_list ∷ []) in
    let f = c.loop-new_list.invariant.few in
    let g : c.len.result ≡ length c.pop.new.self.items = c.len.ensures ∙ c.pop.new.self.ok.0 in omega arith

pub overflow_cast-len : goal.overflow_cast-len
overflow_cast-len c = let l = within c in omega (arith, c.columns-count.ensures.bound, c.columns-count.ensures.width)

pub put-requires-in-Some-new_list : goal.put-requires-in-Some-new_list
put-requires-in-Some-new_list c = let l = within c in omega (arith, c.loop-new_list.invariant.width)

pub loop-new_list-preserved-in-Some-new_list : goal.loop-new_list-preserved-in-Some-new_list
loop-new_list-preserved-in-Some-new_list c = IsPutSoFar-more c.args.candidates.now c.loop-new_list.candidates c.put-in-Some-new_list.new.self c.args.new_lists.row_id c.args.new_lists.columns.items c.loop-new_list.columns.items c.pop.new.self.items c.in-Some-pop.new_list c.len.result
    c.in-Some-pop.ensures.items (c.len.ensures ∙ c.pop.new.self.ok.0) c.loop-new_list.invariant (c.put-in-Some-new_list.ensures ∙ sym (ap (put c.loop-new_list.candidates (Col c.len.result)) c.in-Some-new_list.is))

pub loop-new_list-preserved : goal.loop-new_list-preserved
loop-new_list-preserved c = IsPutSoFar-more c.args.candidates.now c.loop-new_list.candidates c.loop-new_list.candidates c.args.new_lists.row_id c.args.new_lists.columns.items c.loop-new_list.columns.items c.pop.new.self.items c.in-Some-pop.new_list _
    c.in-Some-pop.ensures.items refl c.loop-new_list.invariant (sym (ap (put c.loop-new_list.candidates (Col _)) c.in_default-new_list.is))

pub returns : goal.returns
returns c = IsPutSoFar-whole c.args.candidates.now c.loop-new_list.candidates c.args.new_lists.row_id c.args.new_lists.columns.items c.loop-new_list.columns.items (none_left c.loop-new_list.columns.items (sym c.loop-new_list.columns.ok.0 ∙ c.in_default-pop.ensures.cases.0)) c.loop-new_list.invariant
