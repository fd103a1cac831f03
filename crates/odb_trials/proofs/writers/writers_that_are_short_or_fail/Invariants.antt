use Rattle.odb_trials.proofs.writers.writers_that_are_short_or_fail.Given as goal

-- the ledger of the seats is the one that the blank names
abbrev pub ghosts-trial : goal.ghosts-trial
ghosts-trial g a = record { name = a.blank.name; parts = a.blank.parts }
