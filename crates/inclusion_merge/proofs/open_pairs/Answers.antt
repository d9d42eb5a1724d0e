use Rattle.std.proofs.Common.{◌∙◌, ℕ, ap, sym, subst, List, length}
use Rattle.col_set.specs.Lists.{Listed}
use Rattle.rel_base.specs.Cells.{Cell}
use Rattle.inclusion_merge.specs.Asked.{AreOpen, TellsPicked}
use Rattle.inclusion_merge.specs.Candidates.{may}
use Rattle.inclusion_merge.specs.Marks.{is_marked}
use Rattle.inclusion_merge.proofs.Pairing.{left-included, left-open}
use Rattle.inclusion_merge.proofs.open_pairs.Goals as goal

pub returns : goal.returns
returns g c =
    let columns = c.args.columns.now in
    let is = c.in_ok-questions.ensures in
    let kept = c.in_ok-kept.kept in
    let picked = is_marked c.in_ok-questions.questions.values in
    let tells = subst (λ (columns : List (List Cell)). TellsPicked picked columns (may kept)) is c.in_ok-kept.ensures.tells in
    let wide = c.in_ok-kept.ensures.size ∙ ap (λ (columns : List (List Cell)). length columns) is in
    let pairs = c.in_ok-pairs_of.ensures in
    let whole = c.in_ok-wholly_asked.ensures in
    let is_open : AreOpen columns c.in_ok-pairs_of.field-0.items = subst (AreOpen columns) (sym pairs) (left-open columns picked (may kept) tells kept.columns wide) in
    record {
      pairs = is_open;
      count = whole.count;
      settled =
          λ p h e.
          left-included columns picked (may kept) tells kept.columns wide p (subst (λ (ps : List (ℕ × ℕ)). Listed p ps) pairs h) (whole.each p.0 (is_open.within p h).0 e);
    }
