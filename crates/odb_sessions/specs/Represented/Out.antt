-- What outs are.
use Rattle.std.specs.Prelude.{ℕ, List, [], ◌++◌, Some, None}
use Rattle.odb_sessions.specs.declared.out.Out.{Out}

-- the three parts in order
abbrev pub text_of_out : Out → List ℕ
text_of_out o = o.before.items ++ elim o.body [ None ↦ [] | Some shared ↦ shared.value.items ] ++ o.after.items

abbrev pub sent_in : Out → ℕ × List ℕ
sent_in o = (o.session, text_of_out o)
