-- Which requests are transactions.
use Rattle.std.specs.Prelude.{Bool, true, false}
use Rattle.odb_rpc.specs.Message.{Call, answered, cancel, cancel_monitor, change_filters, lock, monitor, passed_over, steal, transact, unlock}

-- whether a call is a transaction
abbrev pub asks_transaction : Call → Bool
asks_transaction (transact id ops) = true
asks_transaction (answered d) = false
asks_transaction (monitor id n i requests since) = false
asks_transaction (change_filters id old new filters) = false
asks_transaction (cancel_monitor id i) = false
asks_transaction (lock id name) = false
asks_transaction (steal id name) = false
asks_transaction (unlock id name) = false
asks_transaction (cancel id) = false
asks_transaction passed_over = false
