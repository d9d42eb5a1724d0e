use Rattle.std.proofs.Common.{◌∙◌, ◌++◌, ◌∷◌, ℕ, [], ap, arith}
use Rattle.std.specs.List.{enumerate_from}
use Rattle.rel_base.specs.declared.dependency.Table.{Table}
use Rattle.report_text.proofs.Numbered.{numbered-all, numbered-more}
use Rattle.table_files.proofs.Tables.{flat-one}
use Rattle.table_files.proofs.numbers.numbered.Goals as goal

pub loop-place-preserved : goal.loop-place-preserved
loop-place-preserved c =
    numbered-more (λ (one : ℕ × Table). one ∷ []) c.args.tables.now c.loop-place.place _ c.index-tables-place.result [] c.loop-place.numbered.items c.push.new.self.items c.loop-place-test.true c.index-tables-place.is
    (c.in_ok-push.ensures.items ∙ ap (λ (number : ℕ). c.loop-place.numbered.items ++ (number, c.index-tables-place.result) ∷ []) c.in_ok-number_at.ensures) c.loop-place.invariant

pub returns : goal.returns
returns c =
    numbered-all (λ (one : ℕ × Table). one ∷ []) c.args.tables.now c.loop-place.place [] c.loop-place.numbered.items (omega arith) c.loop-place.invariant
    ∙ flat-one (enumerate_from 1 c.args.tables.now)
