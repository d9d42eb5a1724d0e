use Rattle.std.proofs.Common.{sym, ap, ◌∙◌}
use Rattle.std.specs.Option.{option_map}
use Rattle.cover_steps.specs.Core.{is_unfinished}
use Rattle.cover_core.specs.Past.{place}
use Rattle.cover_core.proofs.searching.first_unfinished.Goals as goal

pub returns-in-Some-clause-found : goal.returns-in-Some-clause-found
returns-in-Some-clause-found c = sym (ap (option_map place) (sym (c.first_where-found.ensures.found (is_unfinished c.args.next) (λ k b h. h.1) c.requires) ∙ c.in-Some.is))

pub returns-in-Some-clause-past : goal.returns-in-Some-clause-past
returns-in-Some-clause-past c = c.first_where-found.ensures.past (is_unfinished c.args.next) (λ k b h. h.1) c.requires

pub returns-in-None-clause-found : goal.returns-in-None-clause-found
returns-in-None-clause-found c = sym (ap (option_map place) (sym (c.first_where-found.ensures.found (is_unfinished c.args.next) (λ k b h. h.1) c.requires) ∙ c.in-None.is))

pub returns-in-None-clause-past : goal.returns-in-None-clause-past
returns-in-None-clause-past c = c.first_where-found.ensures.past (is_unfinished c.args.next) (λ k b h. h.1) c.requires
