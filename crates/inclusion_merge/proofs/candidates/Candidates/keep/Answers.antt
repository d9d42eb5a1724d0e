use Rattle.std.proofs.Common.{◌≡◌, ◌∙◌, ◌*◌, ◌+◌, ◌/◌, ◌<◌, List, ap, get_or, length, inl, inr, arith}
use Rattle.std.proofs.lemmas.Bool.{cases_lt}
use Rattle.std.proofs.lemmas.List.{with_items_is}
use Rattle.col_set.specs.ColSet.{Columns, inter}
use Rattle.inclusion_merge.proofs.Places.{row_before, row_behind}
use Rattle.inclusion_merge.proofs.Wide.{has_wide-common, has_wide-other}
use Rattle.inclusion_merge.proofs.candidates.Candidates.keep.Goals as goal

pub returns-clause-others : goal.returns-clause-others
returns-clause-others c k d l m other =
    let n = c.args.self.now.parts in
    let r = c.args.dependent in
    let place = k * n + d / 128 in
    let long : length c.keep_common.new.kept ≡ c.args.self.now.kept.len = omega arith in
    let is = ap (λ (kept : List Columns). get_or kept place 0) (with_items_is c.args.self.now.kept c.keep_common.new.kept long) in
    let held = ap (λ (kept : List Columns). get_or kept place 0) c.deref_mut.ensures.value in
    let room = c.args.self.now.room in
    let wide = c.requires.shared in
    let part : d / 128 < n = omega arith in
    elim (cases_lt k r) [
      | inl h ↦ has_wide-other c.args.self.now.kept.items _ (k * n) d (is ∙ c.keep_common.ensures.before place (row_before k r n (d / 128) h part) ∙ held)
      | inr h ↦ let w = row_behind k r n (d / 128) (omega arith) in has_wide-other c.args.self.now.kept.items _ (k * n) d (is ∙ c.keep_common.ensures.behind place (omega arith) ∙ held)
    ]

pub returns-clause-kept : goal.returns-clause-kept
returns-clause-kept c d m =
    let n = c.args.self.now.parts in
    let r = c.args.dependent in
    let place = r * n + d / 128 in
    let long : length c.keep_common.new.kept ≡ c.args.self.now.kept.len = omega arith in
    let is = ap (λ (kept : List Columns). get_or kept place 0) (with_items_is c.args.self.now.kept c.keep_common.new.kept long) in
    let held = ap (λ (kept : List Columns). inter (get_or kept place 0) (get_or c.args.shared.now (d / 128) 0)) c.deref_mut.ensures.value in
    let room = c.args.self.now.room in
    let wide = c.requires.shared in
    has_wide-common c.args.self.now.kept.items _ c.args.shared.now (r * n) d (is ∙ c.keep_common.ensures.here (d / 128) (omega arith) ∙ held)
