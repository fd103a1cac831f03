use Rattle.std.proofs.Common.{map, IfSome, sym, subst}
use Rattle.std.proofs.lemmas.Result.{on_ok_weaker}
use Rattle.odb_atoms.specs.Represented.Atom.{uuid_of}
use Rattle.odb_tables.specs.Represented.RowIndex.{Suffices}
use Rattle.odb_tables.proofs.Candidates.{among-Appends}
use Rattle.odb_tables.proofs.draft.find_untouched.Goals as goal

pub returns-in-Some : goal.returns-in-Some
returns-in-Some g c suffices =
    let p = g.T.Test.passes c.args.test.now in
    let t = c.args.base.now in
    let here : Suffices c.in-Some.keys.items p t = subst (λ o. IfSome o (λ keys. Suffices keys.items p t)) c.in-Some.is suffices in
    let lent : Suffices c.as_slice.result.now p t = subst (λ us. Suffices us p t) (sym c.as_slice.ensures.value) here in
    on_ok_weaker c.find_among.result (λ e. among-Appends p c.args.overlay.now t c.as_slice.result.now (map uuid_of c.args.found.now.items) (map uuid_of c.find_among.new.found.items) lent e) c.find_among.ensures
