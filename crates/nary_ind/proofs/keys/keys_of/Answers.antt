use Rattle.nary_ind.proofs.keys.keys_of.Goals as goal

pub returns-clause-each : goal.returns-clause-each
returns-clause-each c key = (
  (λ h. (c.in_ok-keys.ensures key).0 ((c.distinct_in_order.ensures.each key).0 h)),
  (λ h. (c.distinct_in_order.ensures.each key).1 ((c.in_ok-keys.ensures key).1 h)),
)
