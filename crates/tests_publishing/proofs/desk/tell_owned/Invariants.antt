use Rattle.tests_publishing.proofs.desk.tell_owned.Given as goal

abbrev pub ghosts-tell_in-W-Ledger : goal.ghosts-tell_in-W-Ledger
ghosts-tell_in-W-Ledger g a = record { name = a.writes.name; parts = a.writes.parts }

abbrev pub ghosts-tell_in-L-Ledger : goal.ghosts-tell_in-L-Ledger
ghosts-tell_in-L-Ledger g a = record { name = a.posts.name; parts = a.posts.parts }

abbrev pub ghosts-tell_in-L-HistoryName : goal.ghosts-tell_in-L-HistoryName
ghosts-tell_in-L-HistoryName g a = record { history = a.history; beside = a.notes; bell = a.bell }
