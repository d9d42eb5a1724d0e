use Rattle.std.proofs.Common.{◌∙◌, List, ap, arith, length, suc, sym, subst}
use Rattle.std.specs.List.{filter, flat_map}
use Rattle.std.proofs.lemmas.Bool.{eqb-true, eqb-false}
use Rattle.std.proofs.lemmas.List.{nil_from_length}
use Rattle.col_set.specs.Listing.{Listed}
use Rattle.nary_ind.specs.declared.found.Side.{Side}
use Rattle.nary_ind.specs.ListInclusions.{from_to, holds_among}
use Rattle.nary_ind.specs.Levels.{IsSide, grown, is_candidate}
use Rattle.nary_ind.proofs.Widening.{found-sides, group-held, group-none, group-single, side-long, side-now, side-used, side-with}
use Rattle.nary_ind.proofs.level.group_with.Goals as goal

pub candidates_of-requires-clause-side : goal.candidates_of-requires-clause-side
candidates_of-requires-clause-side c =
    subst (IsSide c.args.known.now (suc c.args.width)) (sym c.with-side.ensures) (side-with c.args.known.now c.args.width c.args.group.now.side c.args.column c.requires.group.side c.requires.column)

pub candidates_of-requires-clause-into : goal.candidates_of-requires-clause-into
candidates_of-requires-clause-into c i h = c.requires.group.into i (subst (λ (xs : List Side). Listed i xs) c.deref.ensures.value h)

pub returns-then-width-eq0-clause-group : goal.returns-then-width-eq0-clause-group
returns-then-width-eq0-clause-group c =
    group-single c.args.known.now c.args.width c.args.group.now.side c.args.group.now.into.items c.requires.group c.args.column c.requires.column c.with-side.result c.with-side.ensures c.in_ok-candidates.candidates.items
    (c.in_ok-candidates.ensures ∙ ap (λ (xs : List Side). filter (is_candidate c.args.known.now c.with-side.result) (flat_map (grown c.args.known.now) xs)) c.deref.ensures.value) (omega arith)

pub returns-then-is_empty-clause-group : goal.returns-then-is_empty-clause-group
returns-then-is_empty-clause-group c =
    group-none c.args.known.now c.args.width c.args.group.now.side c.args.group.now.into.items c.requires.group c.args.column c.requires.column c.with-side.result c.with-side.ensures c.in_ok-candidates.candidates.items
    (c.in_ok-candidates.ensures ∙ ap (λ (xs : List Side). filter (is_candidate c.args.known.now c.with-side.result) (flat_map (grown c.args.known.now) xs)) c.deref.ensures.value)
    (nil_from_length c.in_ok-candidates.candidates.items (sym c.in_ok-candidates.candidates.ok.0 ∙ eqb-true _ 0 (sym c.if-is_empty.ensures)))

pub held-requires-clause-dependent : goal.held-requires-clause-dependent
held-requires-clause-dependent c =
    side-long c.args.known.now c.args.width c.args.group.now.side c.args.group.now.into.items c.requires.group c.args.column c.requires.column c.with-side.result c.with-side.ensures c.in_ok-candidates.candidates.items
    (c.in_ok-candidates.ensures ∙ ap (λ (xs : List Side). filter (is_candidate c.args.known.now c.with-side.result) (flat_map (grown c.args.known.now) xs)) c.deref.ensures.value)

pub held-requires-clause-short : goal.held-requires-clause-short
held-requires-clause-short c =
    let s =
    side-now c.args.known.now c.args.width c.args.group.now.side c.args.group.now.into.items c.requires.group c.args.column c.requires.column c.with-side.result c.with-side.ensures c.in_ok-candidates.candidates.items
    (c.in_ok-candidates.ensures ∙ ap (λ (xs : List Side). filter (is_candidate c.args.known.now c.with-side.result) (flat_map (grown c.args.known.now) xs)) c.deref.ensures.value) in
    let l = s.long in
    let w = c.requires.width in
    omega arith

pub held-requires-clause-used : goal.held-requires-clause-used
held-requires-clause-used c =
    side-used c.args.known.now c.args.width c.args.group.now.side c.args.group.now.into.items c.requires.group c.args.column c.requires.column c.with-side.result c.with-side.ensures c.in_ok-candidates.candidates.items
    (c.in_ok-candidates.ensures ∙ ap (λ (xs : List Side). filter (is_candidate c.args.known.now c.with-side.result) (flat_map (grown c.args.known.now) xs)) c.deref.ensures.value)
    (λ none. eqb-false _ 0 (sym c.if-is_empty.ensures) (c.in_ok-candidates.candidates.ok.0 ∙ ap length none))

pub held-requires-clause-candidates : goal.held-requires-clause-candidates
held-requires-clause-candidates c i h =
    found-sides c.args.known.now c.args.width c.args.group.now.side c.args.group.now.into.items c.requires.group c.args.column c.requires.column c.with-side.result c.with-side.ensures c.in_ok-candidates.candidates.items
    (c.in_ok-candidates.ensures ∙ ap (λ (xs : List Side). filter (is_candidate c.args.known.now c.with-side.result) (flat_map (grown c.args.known.now) xs)) c.deref.ensures.value) i
    (subst (λ (xs : List Side). Listed i xs) c.deref-2.ensures.value h)

pub returns-clause-group : goal.returns-clause-group
returns-clause-group c =
    group-held c.args.known.now c.args.width c.args.group.now.side c.args.group.now.into.items c.requires.group c.args.column c.requires.column c.with-side.result c.with-side.ensures c.in_ok-candidates.candidates.items
    (c.in_ok-candidates.ensures ∙ ap (λ (xs : List Side). filter (is_candidate c.args.known.now c.with-side.result) (flat_map (grown c.args.known.now) xs)) c.deref.ensures.value) c.in_ok-into.into.items
    (c.in_ok-into.ensures.held ∙ ap (filter (λ (i : Side). holds_among c.args.known.now (from_to c.with-side.result i))) c.deref-2.ensures.value)
