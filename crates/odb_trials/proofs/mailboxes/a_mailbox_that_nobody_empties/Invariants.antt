use Rattle.odb_trials.proofs.mailboxes.a_mailbox_that_nobody_empties.Given as goal

-- the ledger of the seats is the one that the blank names
abbrev pub ghosts-trial : goal.ghosts-trial
ghosts-trial g a = record { name = a.blank.name; parts = a.blank.parts }

abbrev pub ghosts-alone : goal.ghosts-alone
ghosts-alone g a = record { name = a.blank.name; parts = a.blank.parts }
