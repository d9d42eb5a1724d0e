use Rattle.std.proofs.Common.{◌≡◌, ◌∙◌, ℕ, List, ◌++◌, map, sym, ap, ap₂}
use Rattle.col_set.specs.Evidence.{least}
use Rattle.candidate_cover.specs.declared.cand.Cand.{Cand}
use Rattle.candidate_cover.specs.Cands.{lefts, kept_or_fresh}
use Rattle.candidate_cover.specs.Marks.{cands}
use Rattle.candidate_cover.proofs.Parts.{marks_kept, general_least, general_marks}
use Rattle.candidate_cover.proofs.candidate_cover.CandidateCover.generalise.Goals as goal

pub returns-clause-least : goal.returns-clause-least
returns-clause-least g c =
    let n = c.columns-columns.result in
    let old = c.cand_list.result.now in
    let was : lefts (cands old) ≡ least n (c.args.rest.now ++ c.args.withdrawn.now) c.args.target
    = ap lefts c.cand_list.ensures ∙ c.requires.least ∙ ap (λ (m : ℕ). least m (c.args.rest.now ++ c.args.withdrawn.now) c.args.target) (sym c.columns-columns.ensures.width) in
    ap lefts c.of.ensures
    ∙ general_least n c.args.target c.args.rest.now c.args.withdrawn.now c.in_ok-sets.sets.items old c.in_ok-made.made c.in_ok-made.ensures
    c.in_ok-sets.ensures.found was
    ∙ ap (λ (m : ℕ). least m c.args.rest.now c.args.target) c.columns-columns.ensures.width

pub returns-clause-marks : goal.returns-clause-marks
returns-clause-marks g c =
    let n = c.columns-columns.result in
    let old = c.cand_list.result.now in
    let was : lefts (cands old) ≡ least n (c.args.rest.now ++ c.args.withdrawn.now) c.args.target
    = ap lefts c.cand_list.ensures ∙ c.requires.least ∙ ap (λ (m : ℕ). least m (c.args.rest.now ++ c.args.withdrawn.now) c.args.target) (sym c.columns-columns.ensures.width) in
    c.of.ensures
    ∙ marks_kept old c.in_ok-made.made c.in_ok-made.ensures.from
    (general_marks n c.args.target c.args.rest.now c.args.withdrawn.now c.in_ok-sets.sets.items old c.in_ok-made.made c.in_ok-made.ensures
    c.in_ok-sets.ensures.found was)
    ∙ ap₂ (λ (cs ds : List Cand). map (kept_or_fresh cs) (lefts ds)) c.cand_list.ensures (sym c.of.ensures)
