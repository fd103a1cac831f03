use Rattle.odb_trials.proofs.refusals.play.Given as goal

-- the ledger of the seats is the one that the blank names
abbrev pub ghosts-play_to_hub : goal.ghosts-play_to_hub
ghosts-play_to_hub g a = record { name = a.blank.name; parts = a.blank.parts }
