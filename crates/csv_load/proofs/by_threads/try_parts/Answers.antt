use Rattle.std.proofs.Common.{◌≡◌, ◌++◌, ◌∙◌, ap, sym, ℕ, List, take, drop}
use Rattle.rel_base.specs.Cells.{Row}
use Rattle.csv_load.specs.Records.{records_of, without_marks}
use Rattle.csv_load.specs.Cuts.{IsCut}
use Rattle.csv_load.proofs.Cuts.{records_unmarked, unmarked}
use Rattle.csv_load.proofs.RowsBelow.{header_within, if_reads_both}
use Rattle.csv_load.proofs.by_threads.try_parts.Goals as goal

pub cut-requires : goal.cut-requires
cut-requires g c = unmarked c.args.bytes.now c.after_marks-text.result.now c.after_marks-text.ensures

pub rows_by-requires-clause-header : goal.rows_by-requires-clause-header
rows_by-requires-clause-header g c = λ _ _. rw c.names.ensures.value (header_within c.args.limits.now c.in-Read.relation c.in-Read.ensures.bounds.some c.in-Read.ensures.within)

-- the records of the two parts
parts : (bytes text start rest : List ℕ) (size : ℕ) (rows : List Row) → text ≡ without_marks bytes → IsCut text size → start ≡ take size text → rest ≡ drop size text
    → rows ≡ records_of rest → records_of bytes ≡ records_of start ++ rows
parts bytes text start rest size rows is cut front back below =
    sym (records_unmarked bytes text is) ∙ cut.records_are ∙ ap (λ (xs : List ℕ). records_of xs ++ records_of (drop size text)) (sym front)
    ∙ ap (λ (xs : List ℕ). records_of start ++ records_of xs) (sym back) ∙ ap (λ (others : List Row). records_of start ++ others) (sym below)

pub returns-in-Some-2 : goal.returns-in-Some-2
returns-in-Some-2 g c =
    let others = rw c.in-Some-2.is at c.in_ok-others.ensures in
    if_reads_both c.args.limits.now (records_of c.args.bytes.now) (records_of c.split_at.result.0.now) c.in-Some-2.others.rows c.in-Read.relation c.put_together.result
    (parts c.args.bytes.now c.after_marks-text.result.now c.split_at.result.0.now c.split_at.result.1.now c.in-Some.size c.in-Some-2.others.rows c.after_marks-text.ensures c.in-Some.ensures
    c.split_at.ensures.front c.split_at.ensures.back others.rows_are)
    c.in-Read.ensures c.put_together.ensures
