use Rattle.tests_replay.proofs.sessions.replay_alone.Given as goal

abbrev pub ghosts-replay_session : goal.ghosts-replay_session
ghosts-replay_session a = record { name = a.blank.name; parts = a.blank.parts }
