use Rattle.cover_core.proofs.book.Book.apply.Given as goal

abbrev pub ghosts-renewed_after : goal.ghosts-renewed_after
ghosts-renewed_after a = record { name = a.blank.name; parts = a.blank.parts }
