use Rattle.std.proofs.Common.{◌++◌, ◌∷◌, [], ℕ, ap, ◌∙◌}
use Rattle.indexmap.proofs.MapLemmas.{absent_from_lookup, insert_entry-absent}
use Rattle.column_dict.proofs.table.add_known.Goals as goal

pub returns-in-Ok-clause-entries : goal.returns-in-Ok-clause-entries
returns-in-Ok-clause-entries c =
    c.in-Ok.ensures.entries
    ∙ insert_entry-absent _ _ _ c.args.known.now.entries (absent_from_lookup _ c.args.known.now.entries c.requires.absent)
    ∙ ap (λ (n : ℕ). c.args.known.now.entries ++ (c.args.cell, n) ∷ []) (c.len-code.ensures ∙ c.args.places.now.ok.0)
