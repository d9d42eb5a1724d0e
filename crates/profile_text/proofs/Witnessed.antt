-- What the witnesses of a settled book leave.
use Rattle.std.proofs.Common.{◌≡◌, ◌∙◌, sym, ap, None}
use Rattle.std.specs.List.{flat_map}
use Rattle.col_set.specs.declared.target.Target.{Target}
use Rattle.col_set.specs.declared.target.Target.TheVariants.{Col, RowId}
use Rattle.col_set.specs.AllSets.{Listed-upto_within}
use Rattle.col_set.specs.ColSet.{upto}
use Rattle.col_set.specs.Evidence.{least}
use Rattle.col_set.specs.Target.{IsColumnTarget}
use Rattle.rel_base.specs.Covers.{covers, fds_to, least_covers}
use Rattle.rel_base.specs.RowState.{width}
use Rattle.rel_base.specs.Validity.{agree_sets}
use Rattle.rel_base.proofs.Minima.{covers-least}
use Rattle.negative_cover.specs.Witnesses.{sets_of}
use Rattle.cover_steps.specs.Core.{Core, first_unfinished}
use Rattle.cover_steps.specs.Sound.{Sound}
use Rattle.cover_steps.proofs.Exact.{lefts-exact}
use Rattle.cover_steps.proofs.Lists.{flat_map_same}

pub witnesses_leave : (s : Core) → Sound s → first_unfinished s ≡ None → covers s.rows ≡ least_covers (width s.rows) (sets_of s.witnesses)
unfolding least_covers
witnesses_leave s sound none = covers-least s.rows ∙ (λ i. record { keys = same RowId tt i; fds = fds i })
  where
    same : (t : Target) → IsColumnTarget (width s.rows) t → least (width s.rows) (agree_sets s.rows) t ≡ least (width s.rows) (sets_of s.witnesses) t
    same t l = sym (lefts-exact s sound none t l) ∙ sound.candidates t l

    fds : flat_map (λ a. fds_to a (least (width s.rows) (agree_sets s.rows) (Col a))) (upto (width s.rows)) ≡ flat_map (λ a. fds_to a (least (width s.rows) (sets_of s.witnesses) (Col a))) (upto (width s.rows))
    fds = flat_map_same _ _ (upto (width s.rows)) (λ a h. ap (fds_to a) (same (Col a) (Listed-upto_within (width s.rows) a h)))
