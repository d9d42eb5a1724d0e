use Rattle.std.proofs.Common.{◌<◌, ◌∙◌, List, length, slice_index_or, sym, ap, subst}
use Rattle.std.specs.List.{AllZip}
use Rattle.candidate_cover.specs.Cands.{width}
use Rattle.col_set.specs.Target.{IsColumnTarget}
use Rattle.col_set.specs.declared.target.Target.{Target}
use Rattle.cover_steps.specs.Core.{targets}
use Rattle.cover_steps.specs.NewLists.{IsNewList}
use Rattle.cover_steps.proofs.Drafting.{IfOk-with, some_parts, targets_fit}
use Rattle.cover_steps.proofs.new_lists.drafted_by.Goals as goal

pub drafted_lists-requires-clause-targets : goal.drafted_lists-requires-clause-targets
drafted_lists-requires-clause-targets g c κs o k d l =
    let e = c.deref.ensures.value ∙ c.in_ok-targets.ensures ∙ ap targets c.columns.ensures.width in
    subst (λ (ts : List Target). IsColumnTarget (width c.args.candidates.now) (slice_index_or ts k d)) (sym e) (targets_fit (width c.args.candidates.now) k d (subst (λ (ts : List Target). k < length ts) e l))

pub gathered-requires : goal.gathered-requires
gathered-requires g c =
    some_parts (width c.args.candidates.now) c.args.draft.now.agree_sets c.args.candidates.now c.in_ok-drafted_lists.field-0.items
    (subst (λ (ts : List Target). AllZip (IsNewList (width c.args.candidates.now) c.args.draft.now.agree_sets c.args.candidates.now) ts c.in_ok-drafted_lists.field-0.items)
    (c.deref.ensures.value ∙ c.in_ok-targets.ensures ∙ ap targets c.columns.ensures.width) c.in_ok-drafted_lists.ensures)

pub returns : goal.returns
returns g c = IfOk-with c.gathered.result c.gathered.ensures (λ made h. h (width c.args.candidates.now) c.args.draft.now.agree_sets c.args.candidates.now
    (subst (λ (ts : List Target). AllZip (IsNewList (width c.args.candidates.now) c.args.draft.now.agree_sets c.args.candidates.now) ts c.in_ok-drafted_lists.field-0.items)
    (c.deref.ensures.value ∙ c.in_ok-targets.ensures ∙ ap targets c.columns.ensures.width) c.in_ok-drafted_lists.ensures))
