use Rattle.std.proofs.Common.{◌≡◌, ◌∙◌, [], List, ap, subst, sym}
use Rattle.std.specs.List.{All}
use Rattle.std.proofs.lemmas.List.Elements.{All-nil}
use Rattle.nary_ind.specs.declared.key_lists.Entry.{Entry}
use Rattle.nary_ind.specs.declared.key_lists.KeyLists.{KeyLists}
use Rattle.nary_ind.specs.Keys.{AreEntries, IsEntry}
use Rattle.nary_ind.proofs.key_lists.KeyLists.make_room.Goals as goal
use Rattle.nary_ind.proofs.key_lists.KeyLists.make_room.Goals.{then-self-gt-MOST_KEPT, else-self-gt-MOST_KEPT}

pub returns-clause-entries : goal.returns-clause-entries
returns-clause-entries c =
    elim c.if-self-gt-MOST_KEPT.branch [
      | then-self-gt-MOST_KEPT w ↦
          let none : c.if-self-gt-MOST_KEPT.self.entries.items ≡ [] = ap (λ (l : KeyLists). l.entries.items) w.self-is ∙ w.new.ensures.items in
          subst (λ (es : List Entry). All (IsEntry c.if-self-gt-MOST_KEPT.self.tables.items) es) (sym none) (All-nil (IsEntry c.if-self-gt-MOST_KEPT.self.tables.items))
      | else-self-gt-MOST_KEPT w ↦ subst AreEntries (sym w.self-is) c.requires.entries
    ]
