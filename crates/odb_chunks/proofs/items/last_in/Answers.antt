use mathlib.Core.Path.{sym}
use Rattle.odb_chunks.proofs.Lasts.{last_at}
use Rattle.odb_chunks.proofs.items.last_in.Goals as goal

pub returns-in-len1-up : goal.returns-in-len1-up
returns-in-len1-up g c = sym (last_at c.args.items.now c.last-item.result c.in-len1-up.len_at_least c.last-item.is)
