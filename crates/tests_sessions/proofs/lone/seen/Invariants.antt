use Rattle.tests_sessions.proofs.lone.seen.Given as goal

abbrev pub ghosts-seen_in : goal.ghosts-seen_in
ghosts-seen_in a = record { name = a.blank.name; parts = a.blank.parts }
