use Rattle.nary_ind.proofs.key_lists.KeyLists.known_place.Goals as goal

pub returns : goal.returns
returns c = (c.entry.result.now, c.entry.ensures, c.are_same.ensures c.if-not-are_same.false)
