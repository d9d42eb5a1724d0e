use Rattle.std.proofs.Common.{◌∙◌, ℕ, List, length, subst, sym}
use Rattle.std.proofs.lemmas.Bool.{eqb-true}
use Rattle.std.proofs.lemmas.List.{nil_from_length}
use Rattle.rayon.proofs.ListFacts.{IfOk-then}
use Rattle.inclusion_merge.specs.Asked.{AreAsked, AreWithin, PicksDependents, cells_asked}
use Rattle.inclusion_merge.specs.Candidates.{may}
use Rattle.inclusion_merge.specs.Marks.{is_marked}
use Rattle.inclusion_merge.proofs.Opening.{kept-inclusions, left_within, none_left}
use Rattle.inclusion_merge.proofs.included.Goals as goal

pub left-requires : goal.left-requires
left-requires g c = subst (λ (n : ℕ). AreWithin n c.in_ok-open.open.pairs.items) (sym c.in_ok-open.ensures.count) c.in_ok-open.ensures.pairs.within

pub about-requires : goal.about-requires
about-requires g c =
    subst (λ (pairs : List (ℕ × ℕ)). AreWithin (length c.args.columns.now) pairs) (sym (c.deref.ensures.value ∙ c.in_ok-left.ensures)) (left_within c.args.columns.now c.in_ok-open.open c.in_ok-open.ensures)

pub kept-requires-clause-settled : goal.kept-requires-clause-settled
kept-requires-clause-settled g c = subst (λ (n : ℕ). AreWithin n c.in_ok-open.open.pairs.items) (sym c.in_ok-open.ensures.count) c.in_ok-open.ensures.pairs.within

pub kept-requires-clause-kept : goal.kept-requires-clause-kept
kept-requires-clause-kept g c =
    subst (λ (n : ℕ). AreWithin n c.in_ok-open.open.pairs.items) (sym (c.in_ok-kept.ensures.size ∙ c.in_ok-questions.ensures.asked.count)) c.in_ok-open.ensures.pairs.within

pub returns-then-is_empty : goal.returns-then-is_empty
returns-then-is_empty g c =
    let none = nil_from_length c.in_ok-left.left.items (sym c.in_ok-left.left.ok.0 ∙ eqb-true _ 0 (sym c.if-is_empty.ensures)) in
    c.into_pairs.ensures ∙ none_left c.args.columns.now c.in_ok-open.open c.in_ok-open.ensures (sym c.in_ok-left.ensures ∙ none)

pub returns : goal.returns
returns g c =
    let columns = c.args.columns.now in
    let questions = c.in_ok-questions.questions in
    let asked = cells_asked questions.asked.items in
    let picked = is_marked questions.values in
    let left = c.deref.ensures.value ∙ c.in_ok-left.ensures in
    let asks = subst (λ (pairs : List (ℕ × ℕ)). AreAsked columns pairs asked) left c.in_ok-questions.ensures.asked in
    let picks = subst (λ (pairs : List (ℕ × ℕ)). PicksDependents columns pairs picked) left c.in_ok-questions.ensures.values in
    IfOk-then c.kept.result _ _ c.kept.ensures (λ pairs h. h ∙ kept-inclusions columns c.in_ok-open.open c.in_ok-open.ensures asked picked (may c.in_ok-kept.kept) asks picks c.in_ok-kept.ensures.tells)
