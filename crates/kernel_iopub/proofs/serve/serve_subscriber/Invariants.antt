use Rattle.kernel_iopub.proofs.serve.serve_subscriber.Given as goal

-- the ledger of a connection is the one that its blank names
abbrev pub ghosts-serve_counted : goal.ghosts-serve_counted
ghosts-serve_counted g a = record { name = a.blank.name; parts = a.blank.parts }
