use Rattle.tests_janus.proofs.schedules.tell_calls.Given as goal

abbrev pub ghosts-tell_in : goal.ghosts-tell_in
ghosts-tell_in a = record { name = a.blank.name; parts = a.blank.parts }
