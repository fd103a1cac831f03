use Rattle.ovsdbd.proofs.serve.serve_all.Given as goal

-- the ledgers of the seats are those that the blanks name
abbrev pub ghosts-serve_under-L-Ledger : goal.ghosts-serve_under-L-Ledger
ghosts-serve_under-L-Ledger g a = record { name = a.blanks.first.name; parts = a.blanks.first.parts }

abbrev pub ghosts-serve_under-M-Ledger : goal.ghosts-serve_under-M-Ledger
ghosts-serve_under-M-Ledger g a = record { name = a.blanks.second.name; parts = a.blanks.second.parts }
