use Rattle.store_tests.proofs.key_rows.a_row.Given as goal

abbrev pub ghosts-pushed : goal.ghosts-pushed
ghosts-pushed g a = record { name = a.blank.name; parts = a.blank.parts }
