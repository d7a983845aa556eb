use Rattle.tests_replies.proofs.rows.tell_alone.Given as goal

abbrev pub ghosts-tell_in : goal.ghosts-tell_in
ghosts-tell_in a = record { name = a.blank.name; parts = a.blank.parts }
