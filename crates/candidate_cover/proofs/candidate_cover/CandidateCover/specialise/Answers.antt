use Rattle.std.proofs.Common.{◌≡◌, ◌∙◌, ℕ, List, [], ◌∷◌, ◌++◌, map, sym, ap, ap₂, subst}
use Rattle.col_set.specs.Evidence.{least}
use Rattle.col_set.proofs.Specialise.{least-push_known}
use Rattle.candidate_cover.specs.declared.cand.Cand.{Cand}
use Rattle.candidate_cover.specs.declared.cand.Mark.{Mark}
use Rattle.candidate_cover.specs.Cands.{lefts, kept_or_fresh}
use Rattle.candidate_cover.specs.Marks.{cands}
use Rattle.candidate_cover.proofs.Parts.{marks_same, marks_kept, grown_least, grown_marks}
use Rattle.candidate_cover.proofs.candidate_cover.CandidateCover.specialise.Goals as goal
use Rattle.candidate_cover.proofs.candidate_cover.CandidateCover.specialise.Goals.{then-has_target+in_ok-made, else-has_target+in_ok-made-2}

pub returns-clause-least : goal.returns-clause-least
returns-clause-least c = λ ws e.
    let n = c.columns-columns.result in
    let old = c.cand_list-list.result.now in
    let was : lefts (cands old) ≡ least n ws c.args.target = ap lefts c.cand_list-list.ensures ∙ e ∙ ap (λ (m : ℕ). least m ws c.args.target) (sym c.columns-columns.ensures.width) in
    ap lefts c.of.ensures ∙ elim c.if-has_target.branch [
      | then-has_target+in_ok-made w ↦
          ap (λ (ps : List (ℕ × Mark)). lefts (cands ps)) (w.made-is ∙ w.in_ok-made.ensures.same) ∙ was ∙ sym (least-push_known n ws c.args.target c.args.z (sym w.if-has_target.ensures)) ∙ ap (λ (m : ℕ). least m (ws ++ c.args.z ∷ []) c.args.target) c.columns-columns.ensures.width
      | else-has_target+in_ok-made-2 w ↦
          ap (λ (ps : List (ℕ × Mark)). lefts (cands ps)) w.made-is
          ∙ grown_least n c.args.target c.args.z old w.in_ok-made-2.made w.in_ok-made-2.ensures (sym w.if-has_target.ensures) ws was
          ∙ ap (λ (m : ℕ). least m (ws ++ c.args.z ∷ []) c.args.target) c.columns-columns.ensures.width
    ]

pub returns-clause-marks : goal.returns-clause-marks
returns-clause-marks c =
    let old = c.cand_list-list.result.now in
    let told : cands c.if-has_target.made ≡ map (kept_or_fresh (cands old)) (lefts (cands c.if-has_target.made))
    = elim c.if-has_target.branch [
      | then-has_target+in_ok-made w ↦ subst (λ (ps : List (ℕ × Mark)). cands ps ≡ map (kept_or_fresh (cands old)) (lefts (cands ps))) (sym (w.made-is ∙ w.in_ok-made.ensures.same)) (marks_same old w.in_ok-made.ensures.order)
      | else-has_target+in_ok-made-2 w ↦ subst (λ (ps : List (ℕ × Mark)). cands ps ≡ map (kept_or_fresh (cands old)) (lefts (cands ps))) (sym w.made-is)
          (marks_kept old w.in_ok-made-2.made w.in_ok-made-2.ensures.from (grown_marks c.columns-columns.result c.args.target c.args.z old w.in_ok-made-2.made w.in_ok-made-2.ensures))
    ] in
    c.of.ensures ∙ told ∙ ap₂ (λ (cs ds : List Cand). map (kept_or_fresh cs) (lefts ds)) c.cand_list-list.ensures (sym c.of.ensures)
