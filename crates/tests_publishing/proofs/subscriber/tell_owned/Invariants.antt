use Rattle.tests_publishing.proofs.subscriber.tell_owned.Given as goal

-- the ledger of a subscriber is the one that its blank names
abbrev pub ghosts-tell_in : goal.ghosts-tell_in
ghosts-tell_in g a = record { name = a.blank.name; parts = a.blank.parts }
