use Rattle.kernel_program.proofs.program.serve_file.Given as goal

-- the program names its ledgers, its histories and its bell after what it hands over
abbrev pub ghosts-serve_new_kernel-W-Ledger : goal.ghosts-serve_new_kernel-W-Ledger
ghosts-serve_new_kernel-W-Ledger g a = record { name = a.writes.name; parts = a.writes.parts }

abbrev pub ghosts-serve_new_kernel-L-Ledger : goal.ghosts-serve_new_kernel-L-Ledger
ghosts-serve_new_kernel-L-Ledger g a = record { name = a.posts.name; parts = a.posts.parts }

abbrev pub ghosts-serve_new_kernel-L-HistoryName : goal.ghosts-serve_new_kernel-L-HistoryName
ghosts-serve_new_kernel-L-HistoryName g a = record { history = a.history; beside = a.notes; bell = a.bell }

abbrev pub ghosts-serve_new_kernel-S-Ledger : goal.ghosts-serve_new_kernel-S-Ledger
ghosts-serve_new_kernel-S-Ledger g a = record { name = a.strangers.name; parts = a.strangers.parts }
