use Rattle.std.proofs.Common.{◌≡◌, ◌∙◌, ◌∷◌, ◌++◌, Bool, true, false, ap, codes, not, refl}
use Rattle.serde_json.specs.Data.{put}
use Rattle.odb_schema.specs.Json.{Data, Members, boolean, no_members, object, object_of}
use Rattle.odb_schema.specs.Represented.Members.{onto}
use Rattle.odb_schema.specs.SchemaText.{unless, write_type}
use Rattle.odb_schema.proofs.write.column.write_column.Goals as goal

members : (type : Data) (is_ephemeral is_mutable : Bool) → object (put (codes "type") type (onto (unless (not is_ephemeral) (codes "ephemeral") (boolean true)) (onto (unless is_mutable (codes "mutable") (boolean false)) no_members))) ≡ object_of ((codes "type", type) ∷ unless (not is_ephemeral) (codes "ephemeral") (boolean true) ++ unless is_mutable (codes "mutable") (boolean false))
members type true true = refl
members type true false = refl
members type false true = refl
members type false false = refl

pub returns : goal.returns
returns c =
    let type = write_type c.args.column.now.type in
    let is_ephemeral = c.args.column.now.ephemeral in
    let is_mutable = c.args.column.now.mutable in
    let one : c.put_flag.new.self ≡ onto (unless is_mutable (codes "mutable") (boolean false)) no_members =
    c.in_ok-put_flag.ensures
    ∙ ap (λ b. onto (unless b (codes "mutable") (boolean false)) c.new-object.result) c.is_mutable.ensures
    ∙ ap (λ (ms : Members). onto (unless is_mutable (codes "mutable") (boolean false)) ms) c.new-object.ensures in
    let two : c.put_flag-2.new.self ≡ onto (unless (not is_ephemeral) (codes "ephemeral") (boolean true)) (onto (unless is_mutable (codes "mutable") (boolean false)) no_members) =
    c.in_ok-put_flag-2.ensures
    ∙ ap (λ b. onto (unless (not b) (codes "ephemeral") (boolean true)) c.put_flag.new.self) c.is_ephemeral.ensures
    ∙ ap (λ (ms : Members). onto (unless (not is_ephemeral) (codes "ephemeral") (boolean true)) ms) one in
    c.into_value.ensures
    ∙ ap (λ (ms : Members). object ms) (c.in_ok-put.ensures ∙ ap (λ d. put (codes "type") d c.put_flag-2.new.self) (c.in_ok-column_type.ensures ∙ ap write_type c.column_type.ensures) ∙ ap (λ (ms : Members). put (codes "type") type ms) two)
    ∙ members type is_ephemeral is_mutable
