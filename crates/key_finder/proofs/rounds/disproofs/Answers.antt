use Rattle.std.proofs.Common.{◌≡◌, ◌++◌, ◌∷◌, [], ℕ, List, ◌<◌, Some, None, ap, sym, ◌∙◌, subst}
use Rattle.col_set.specs.ColSet.{minus}
use Rattle.rel_base.specs.CodeTable.{CodeTable}
use Rattle.stripped_partition.specs.AnyOrder.{AreGroupsBy, AreGroupsOf}
use Rattle.stripped_partition.specs.SplitBy.{split_by}
use Rattle.key_finder.proofs.Judging.{Seeking, seeking_start, seeking_column, seeking_smaller, seeking_none, seeking_some, seeking_end, Split-split_by, Split-given}
use Rattle.key_finder.proofs.rounds.disproofs.Goals as goal
use Rattle.key_finder.proofs.rounds.disproofs.Goals.{in-Some-splits_by+in_ok-push, in_default-splits_by}

-- the path's groups, by the snapshot
groups_by : (s t : CodeTable) (x : ℕ) (groups : List (List ℕ)) → t ≡ s → AreGroupsBy t x groups → AreGroupsBy s x groups
groups_by s t x groups e are = subst (λ (u : CodeTable). AreGroupsBy u x groups) e are

given : (s : CodeTable) (x a : ℕ) (groups : List (List ℕ)) (p : ℕ × ℕ) → AreGroupsBy s x groups → Some p ≡ split_by s a groups → (p.0 < s.to) × (p.1 < s.to)
given s x a groups p are e = Split-given s x a p (Split-split_by s x a groups p are (sym e))

pub loop-column-init : goal.loop-column-init
loop-column-init c = seeking_start c.args.snapshot.now c.args.columns c.args.path.now.columns c.minus-left.result c.new-found.result.items c.requires.columns (c.minus-left.ensures ∙ ap (minus c.args.columns) c.columns.ensures) c.new-found.ensures.items

pub splits_by-requires-clause-column : goal.splits_by-requires-clause-column
splits_by-requires-clause-column c = seeking_column c.args.snapshot.now c.args.columns c.args.path.now.columns c.loop-column.left c.loop-column.found.items c.loop-column.invariant c.in-Some.column c.in-Some.ensures.value

pub splits_by-requires-clause-of : goal.splits_by-requires-clause-of
splits_by-requires-clause-of c = subst (λ (u : CodeTable). AreGroupsOf u c.groups-groups.result.now) c.requires.path c.groups-groups.ensures.of

pub agree-requires-clause-first : goal.agree-requires-clause-first
agree-requires-clause-first c = (given c.args.snapshot.now c.args.path.now.columns c.in-Some.column c.groups-groups.result.now c.in-Some-splits_by.pair (groups_by c.args.snapshot.now c.args.path.now.table c.args.path.now.columns c.groups-groups.result.now c.requires.path c.groups-groups.ensures.by) c.in-Some-splits_by.ensures.value).0

pub agree-requires-clause-second : goal.agree-requires-clause-second
agree-requires-clause-second c = (given c.args.snapshot.now c.args.path.now.columns c.in-Some.column c.groups-groups.result.now c.in-Some-splits_by.pair (groups_by c.args.snapshot.now c.args.path.now.table c.args.path.now.columns c.groups-groups.result.now c.requires.path c.groups-groups.ensures.by) c.in-Some-splits_by.ensures.value).1

pub loop-column-smaller : goal.loop-column-smaller
loop-column-smaller c = seeking_smaller c.args.snapshot.now c.args.columns c.args.path.now.columns c.loop-column.left c.loop-column.found.items c.loop-column.invariant c.in-Some.column c.without-left.result c.in-Some.ensures.value c.without-left.ensures

pub loop-column-preserved : goal.loop-column-preserved
loop-column-preserved c = elim c.match-splits_by.branch [
  | in-Some-splits_by+in_ok-push w ↦ seeking_some c.args.snapshot.now c.args.columns c.args.path.now.columns c.loop-column.left c.loop-column.found.items c.loop-column.invariant
      c.in-Some.column c.without-left.result c.in-Some.ensures.value c.without-left.ensures c.groups-groups.result.now w.in-Some-splits_by.pair w.agree.result c.match-splits_by.found.items
      (groups_by c.args.snapshot.now c.args.path.now.table c.args.path.now.columns c.groups-groups.result.now c.requires.path c.groups-groups.ensures.by) (sym w.in-Some-splits_by.ensures.value)
      w.agree.ensures (ap (λ m. m.items) w.found-is ∙ w.in_ok-push.ensures.items)
  | in_default-splits_by w ↦ subst (λ (found : List ℕ). Seeking c.args.snapshot.now c.args.columns c.args.path.now.columns c.without-left.result found) (sym (ap (λ m. m.items) w.found-is))
      (seeking_none c.args.snapshot.now c.args.columns c.args.path.now.columns c.loop-column.left c.loop-column.found.items c.loop-column.invariant
      c.in-Some.column c.without-left.result c.in-Some.ensures.value c.without-left.ensures
      c.groups-groups.result.now (groups_by c.args.snapshot.now c.args.path.now.table c.args.path.now.columns c.groups-groups.result.now c.requires.path c.groups-groups.ensures.by) (sym w.in_default-splits_by.ensures.value))
]

pub returns-clause-none : goal.returns-clause-none
returns-clause-none c = seeking_end c.args.snapshot.now c.args.columns c.args.path.now.columns c.loop-column.left c.loop-column.found.items c.loop-column.invariant c.in_default.ensures.value
