use Rattle.tests_janus.proofs.steps.answer_call.Given as goal

abbrev pub ghosts-answer_in : goal.ghosts-answer_in
ghosts-answer_in a = record { name = a.blank.name; parts = a.blank.parts }
