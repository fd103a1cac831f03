use Rattle.std.proofs.Common.{◌≡◌, [], ◌∷◌, map, Ok, subst, sym}
use Rattle.odb_service.specs.Run.{round}
use Rattle.odb_service.specs.Server.{serve}
use Rattle.odb_sessions.specs.Represented.Out.{sent_in}
use Rattle.odb_hub.proofs.composing.round_of.Goals as goal

pub returns-clause-ok : goal.returns-clause-ok
returns-clause-ok g c =
    subst (λ k. serve (round (c.args.session ∷ [])) c.args.core.now ≡ Ok (k, map sent_in c.in_ok-outs.outs.items)) (sym c.shorten_owed.ensures.same) c.in_ok-outs.ensures.ok
