use Rattle.rel_base.proofs.Changes.{insert_breaks, delete_mends}
use Rattle.rel_base.proofs.laws.inserts_break_and_deletes_mend.Goals as goal

pub returns : goal.returns
returns c = record { insert = insert_breaks; delete = delete_mends }
