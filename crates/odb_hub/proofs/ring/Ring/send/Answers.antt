use Rattle.std.proofs.Common.{rules, ◌≡◌, true, List, ℕ, [], ◌∷◌, ◌++◌, map, ap, ◌∙◌}
use Rattle.std.specs.Prelude.{option_map}
use Rattle.std.proofs.lemmas.List.{map-append}
use Rattle.rtrb.specs.Ring.{sent}
use Rattle.odb_sessions.specs.Represented.Out.{text_of_out}
use Rattle.odb_hub.specs.Represented.Ends.{producer_name}
use Rattle.odb_hub.specs.Rings.{Ring}
use Rattle.odb_hub.specs.Room.{has_room, size_of}
use Rattle.odb_hub.proofs.HandingOver.{sent_is_put}
use Rattle.odb_hub.proofs.ring.Ring.send.Goals as goal

pub returns-clause-ok : goal.returns-clause-ok
returns-clause-ok c =
    let text : List ℕ = text_of_out c.args.out in
    let mid : Ring = c.makes_room.new.self in
    let size : c.size_of-size.result ≡ size_of text = search rules in
    let room : has_room mid.waiting (size_of text) ≡ true = search rules in
    let name : producer_name c.push_reserved.new.self ≡ producer_name c.self.inside.producer = search rules in
    let all : map text_of_out (sent c.push_reserved.new.self) ≡ map text_of_out (sent c.self.inside.producer) ++ text ∷ [] =
    ap (map text_of_out) c.push_reserved.ensures.sent.0 ∙ map-append text_of_out (sent c.self.inside.producer) (c.args.out ∷ []) in
    let waiting : c.push.new.self ≡ c.self.inside.waiting ++ size_of text ∷ [] = search rules in
    sent_is_put text c.args.self.now mid _ c.requires c.makes_room.ensures.looked room
    ((λ i. record { name = name i; sent = all i; waiting = waiting i; held = option_map text_of_out c.self.inside.held })
    ∙ (λ i. let r : Ring = c.self.view_is i in record { name = r.name; sent = r.sent ++ text ∷ []; waiting = r.waiting ++ size_of text ∷ []; held = r.held }))
