use Rattle.bcnf_split.proofs.tests.plain.+push_tables.Given as goal

abbrev pub decreases-push_tables : goal.decreases-push_tables
decreases-push_tables l = l.steps
