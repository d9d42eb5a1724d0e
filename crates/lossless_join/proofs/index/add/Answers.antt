use Rattle.std.proofs.Common.{◌∙◌, ◌++◌, ◌∷◌, [], ℕ, List, sym, ap, ap₂}
use Rattle.std.proofs.Math.ListN.{set}
use Rattle.std.proofs.lemmas.Bool.{not-true}
use Rattle.rel_base.specs.Cells.{Row}
use Rattle.lossless_join.specs.Joining.{part_within}
use Rattle.lossless_join.proofs.Indexing.{index_new, index_old, index_place, get_or-default, was_there}
use Rattle.lossless_join.proofs.index.add.Goals as goal

pub returns-in_ok-push : goal.returns-in_ok-push
returns-in_ok-push c = index_new c.args.table.now c.args.columns c.args.place c.args.keys.now.keys c.args.groups.now.items c.requires.index c.in_ok-part.part (c.in_ok-part.ensures ∙ ap₂ (λ (s : ℕ) (p : Row). part_within s c.args.columns p) c.columns.ensures.value c.row.ensures.value) c.insert_full.new.self.keys c.in_ok-group.ensures.keys
    c.push.new.self.items (not-true _ (sym c.in_ok-group.ensures.added ∙ c.if-is_new.true)) (c.in_ok-push.ensures.items ∙ ap (λ (g : List ℕ). c.args.groups.now.items ++ g ∷ []) c.in_ok-of.ensures)

pub returns-in_ok-push-2 : goal.returns-in_ok-push-2
returns-in_ok-push-2 c = index_old c.args.table.now c.args.columns c.args.place c.args.keys.now.keys c.args.groups.now.items c.requires.index c.in_ok-part.part (c.in_ok-part.ensures ∙ ap₂ (λ (s : ℕ) (p : Row). part_within s c.args.columns p) c.columns.ensures.value c.row.ensures.value) c.insert_full.new.self.keys c.in_ok-group.ensures.keys
    c.in_ok-group.group _ (was_there _ (sym c.in_ok-group.ensures.added ∙ c.if-is_new.false)) c.in_ok-group.ensures.index
    (ap (set c.args.groups.now.items c.in_ok-group.group) (c.in_ok-push-2.ensures ∙ ap (λ (g : List ℕ). g ++ c.args.place ∷ []) (c.index_mut.ensures.value
    ∙ get_or-default c.args.groups.now.items c.in_ok-group.group c.index_mut.result.now [] (index_place c.args.table.now c.args.columns c.args.place c.args.keys.now.keys c.args.groups.now.items c.requires.index c.in_ok-part.part (c.in_ok-part.ensures ∙ ap₂ (λ (s : ℕ) (p : Row). part_within s c.args.columns p) c.columns.ensures.value c.row.ensures.value) c.insert_full.new.self.keys c.in_ok-group.ensures.keys
    c.in_ok-group.group (was_there _ (sym c.in_ok-group.ensures.added ∙ c.if-is_new.false)) c.in_ok-group.ensures.within))))
