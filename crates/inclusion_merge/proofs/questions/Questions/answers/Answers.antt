use Rattle.std.proofs.Common.{◌≡◌, ◌∙◌, ap, sym, subst, Bool, List, Option, Vec, length}
use Rattle.std.specs.Borrow.{Bor}
use Rattle.std.specs.List.{AllZip}
use Rattle.std.specs.declared.alloc.Global.{Global}
use Rattle.rayon.proofs.ListFacts.{IfOk-then}
use Rattle.rel_base.specs.Cells.{Cell}
use Rattle.inclusion_merge.specs.Asked.{TellsPicked, asked_cells, cells_asked}
use Rattle.inclusion_merge.specs.Candidates.{may}
use Rattle.inclusion_merge.specs.Marks.{is_marked}
use Rattle.inclusion_merge.specs.Sharing.{values_behind}
use Rattle.inclusion_merge.specs.Values.{IsValuesOf}
use Rattle.inclusion_merge.proofs.Pairing.{length-values_behind, parts-picked, values_rise, values_long}
use Rattle.inclusion_merge.proofs.questions.Questions.answers.Goals as goal

-- the lists that are merged have the values of the columns
module _ (picked : Cell → Bool) (asked : List (Option (Bor (List Cell)))) (made lent : List (Vec Cell Global)) where
  lent_lists : lent ≡ made → AllZip (λ column list. IsValuesOf picked (asked_cells column) list) asked (values_behind made) → AllZip (λ column list. IsValuesOf picked (asked_cells column) list) asked (values_behind lent)
  lent_lists is all = subst (λ (lists : List (Vec Cell Global)). AllZip (λ column list. IsValuesOf picked (asked_cells column) list) asked (values_behind lists)) (sym is) all

pub merged-requires : goal.merged-requires
merged-requires g c =
    let picked = is_marked c.args.self.now.values in
    let asked = c.deref.result.now in
    values_rise picked asked (values_behind c.deref-2.result.now) (lent_lists picked asked c.in_ok-lists.lists.items c.deref-2.result.now c.deref-2.ensures.value c.in_ok-lists.ensures)

pub returns-clause-size : goal.returns-clause-size
returns-clause-size g c =
    let picked = is_marked c.args.self.now.values in
    let asked = c.deref.result.now in
    let lists = c.deref-2.result.now in
    let all = lent_lists picked asked c.in_ok-lists.lists.items lists c.deref-2.ensures.value c.in_ok-lists.ensures in
    let long = ap (λ (asked : List (Option (Bor (List Cell)))). length (cells_asked asked)) c.deref.ensures.value in
    IfOk-then c.merged.result _ _ c.merged.ensures.size (λ kept h. h ∙ sym (length-values_behind lists) ∙ values_long picked asked (values_behind lists) all ∙ long)

pub returns-clause-tells : goal.returns-clause-tells
returns-clause-tells g c =
    let picked = is_marked c.args.self.now.values in
    let asked = c.deref.result.now in
    let lists = c.deref-2.result.now in
    let all = lent_lists picked asked c.in_ok-lists.lists.items lists c.deref-2.ensures.value c.in_ok-lists.ensures in
    IfOk-then c.merged.result _ _ c.merged.ensures.tells (λ kept h.
    subst (λ (asked : List (Option (Bor (List Cell)))). TellsPicked picked (cells_asked asked) (may kept)) c.deref.ensures.value (parts-picked picked asked (values_behind lists) all (may kept) h))
