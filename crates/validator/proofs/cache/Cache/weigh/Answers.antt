use Rattle.std.proofs.Common.{◌≡◌, ◌<◌, ℕ, List, length, set, sym, ap, ◌∙◌, subst, get_or, arith}
use Rattle.col_set.proofs.EachColumn.{first-Some}
use Rattle.validator.specs.Kept.{AreKept, AreWeights, weight_of}
use Rattle.validator.specs.declared.cache.Cache.{Cache}
use Rattle.validator.proofs.KeptLists.{keeping_column, keeping_next}
use Rattle.validator.proofs.Weights.{set_known, set_other, weighing_start, weighing_more, weighing_end}
use Rattle.validator.proofs.cache.Cache.weigh.Goals as goal
use Rattle.validator.proofs.cache.Cache.weigh.Goals.{then-self-column+in_ok-weigh_column, else-self-column}

pub loop-column-init : goal.loop-column-init
loop-column-init c = record {
  keeping = record { are = c.requires.kept; within = c.requires.columns };
  weighing = weighing_start c.args.snapshot.now c.args.columns c.args.self.now.weights c.requires.weights;
}

pub weigh_column-requires-clause-column : goal.weigh_column-requires-clause-column
weigh_column-requires-clause-column c = keeping_column c.args.snapshot.now c.loop-column.self.kept.items c.loop-column.left c.in-Some.column c.loop-column.invariant.keeping c.in-Some.ensures.value

pub loop-column-smaller : goal.loop-column-smaller
loop-column-smaller c = subst (λ (n : ℕ). n < c.loop-column.left) (sym c.without-left.ensures) (first-Some c.loop-column.left c.in-Some.column c.in-Some.ensures.value).smaller

pub loop-column-preserved : goal.loop-column-preserved
loop-column-preserved c =
    let room : c.in-Some.column < length c.loop-column.self.weights = omega (arith, c.in-Some.ensures.bound) in
    elim c.if-self-column.branch [
      | then-self-column+in_ok-weigh_column w ↦
          let e : c.if-self-column.self.weights ≡ set c.loop-column.self.weights c.in-Some.column (weight_of c.args.snapshot.now c.in-Some.column) = ap (λ (v : Cache). v.weights) w.self-is ∙ w.in_ok-weigh_column.ensures.known in
          record {
            keeping = keeping_next c.args.snapshot.now c.loop-column.self.kept.items c.if-self-column.self.kept.items c.loop-column.left c.in-Some.column c.without-left.result c.loop-column.invariant.keeping c.in-Some.ensures.value
                (subst (λ (v : Cache). AreKept c.args.snapshot.now v.kept.items) (sym w.self-is) w.weigh_column.ensures.kept) c.without-left.ensures;
            weighing = weighing_more c.args.snapshot.now c.args.columns c.loop-column.self.weights c.loop-column.left c.loop-column.invariant.weighing c.in-Some.column c.without-left.result c.without-left.ensures c.if-self-column.self.weights
                (subst (λ (v : Cache). AreWeights c.args.snapshot.now v.weights) (sym w.self-is) w.weigh_column.ensures.weights)
                (set_known c.args.snapshot.now c.loop-column.self.weights c.if-self-column.self.weights c.in-Some.column room e)
                (set_other c.args.snapshot.now c.loop-column.self.weights c.if-self-column.self.weights c.in-Some.column room e);
          }
      | else-self-column w ↦
          let e : c.if-self-column.self.weights ≡ c.loop-column.self.weights = ap (λ (v : Cache). v.weights) w.self-is in
          record {
            keeping = keeping_next c.args.snapshot.now c.loop-column.self.kept.items c.if-self-column.self.kept.items c.loop-column.left c.in-Some.column c.without-left.result c.loop-column.invariant.keeping c.in-Some.ensures.value
                (subst (λ (v : Cache). AreKept c.args.snapshot.now v.kept.items) (sym w.self-is) c.loop-column.invariant.keeping.are) c.without-left.ensures;
            weighing = weighing_more c.args.snapshot.now c.args.columns c.loop-column.self.weights c.loop-column.left c.loop-column.invariant.weighing c.in-Some.column c.without-left.result c.without-left.ensures c.if-self-column.self.weights
                (subst (AreWeights c.args.snapshot.now) (sym e) c.loop-column.invariant.weighing.are)
                (ap (λ (v : List ℕ). get_or v c.in-Some.column 0) e ∙ c.loop-column.invariant.weighing.are c.in-Some.column room w.if-self-column.false)
                (λ k ne. ap (λ (v : List ℕ). get_or v k 0) e);
          }
    ]

pub returns-clause-known : goal.returns-clause-known
returns-clause-known c = weighing_end c.args.snapshot.now c.args.columns c.loop-column.self.weights c.loop-column.left c.loop-column.invariant.weighing c.in_default.ensures.value
