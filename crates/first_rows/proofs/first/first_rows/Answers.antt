use Rattle.std.proofs.Common.{◌≡◌, ◌<◌, ◌^◌, ◌-◌, ◌∙◌, ℕ, Bool, List, length, map, subst, ap, Result, Ok, Err, IfOk}
use Rattle.rel_base.specs.declared.nulls.Nulls.TheVariants.{Equal}
use Rattle.rel_base.specs.Projection.{part, projection}
use Rattle.rel_base.specs.RowState.{RowState, IsRowState, row, width}
use Rattle.rel_base.specs.Shows.{Shows}
use Rattle.rel_base.specs.CodeTable.{CodeTable}
use Rattle.stripped_partition.specs.AnyOrder.{AreGroupsBy}
use Rattle.first_rows.specs.First as specs
use Rattle.first_rows.specs.Marked.{MarkedBy, unmarked_rows}
use Rattle.first_rows.proofs.Firsts.{unmarked-first}
use Rattle.first_rows.proofs.Parts.{parts-projected}
use Rattle.first_rows.proofs.first.first_rows.Goals as goal

-- what is not marked comes first, by the groups of the path
firsts : (s t : CodeTable) (x : ℕ) (groups : List (List ℕ)) (later given : List Bool) → t ≡ s → AreGroupsBy t x groups → MarkedBy groups (s.to - 1) (length groups) later → given ≡ later → unmarked_rows s given ≡ specs.first_rows s x
firsts s t x groups later given e are m i = ap (unmarked_rows s) i ∙ unmarked-first s x groups (subst (λ (u : CodeTable). AreGroupsBy u x groups) e are) later m

if_ok : {X E : Type 0} (r : Result X E) (P Q : X → Type 0) → ((x : X) → P x → Q x) → IfOk r P → IfOk r Q
if_ok (Ok x) P Q f h = f x h
if_ok (Err e) P Q f h = h

pub returns-clause-first : goal.returns-clause-first
returns-clause-first c = if_ok c.unmarked.result (λ rows. rows.items ≡ unmarked_rows c.args.snapshot.now c.deref.result.now) (λ rows. rows.items ≡ specs.first_rows c.args.snapshot.now c.args.path.now.columns)
    (λ rows e. e ∙ firsts c.args.snapshot.now c.args.path.now.table c.args.path.now.columns c.groups.result.now c.in_ok-later.later.items c.deref.result.now c.requires c.groups.ensures.by c.in_ok-later.ensures c.deref.ensures.value) c.unmarked.ensures

pub returns-clause-parts : goal.returns-clause-parts
returns-clause-parts c = if_ok c.unmarked.result (λ rows. rows.items ≡ specs.first_rows c.args.snapshot.now c.args.path.now.columns)
    (λ rows. (r : RowState) → IsRowState r → Shows c.args.snapshot.now r → r.nulls ≡ Equal → c.args.path.now.columns < 2 ^ width r → map (λ number. part c.args.path.now.columns (row r number)) rows.items ≡ projection r c.args.path.now.columns)
    (λ rows e r is shows equal inside. parts-projected c.args.snapshot.now r c.args.path.now.columns is shows equal inside rows.items e) (returns-clause-first c)
