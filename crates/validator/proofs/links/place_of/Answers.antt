use Rattle.std.proofs.Common.{◌∙◌, ap, sym, get_or}
use Rattle.std.proofs.lemmas.List.{get_or_push}
use Rattle.validator.specs.declared.links.Link.{Link}
use Rattle.validator.proofs.links.place_of.Goals as goal

pub returns-clause-column : goal.returns-clause-column
returns-clause-column c d =
    ap (λ xs. (get_or xs c.len-k.result d).column) c.in_ok-push.ensures.items
    ∙ ap (λ (link : Link). link.column) (get_or_push c.args.links.now.items c.in_ok-of.field-0 d c.len-k.result (sym (c.len-k.ensures ∙ c.args.links.now.ok.0))) ∙ c.in_ok-of.ensures.column
