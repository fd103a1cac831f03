-- Schemas that are found by the names of their databases.
use Rattle.std.proofs.Common.{◌≡◌, if◌then◌else◌, Bool, true, false, ℕ, Option, Some, None, List, [], ◌∷◌, map, option_map, refl, sym}
use Rattle.std.proofs.lemmas.Option.{none-some, same_Some}
use Rattle.serde_json.specs.Data.{Data}
use Rattle.serde_json.specs.Written.{compact_text}
use Rattle.std.specs.Prelude.{bytes_eq}
use Rattle.odb_rpc.specs.Message.{failure, reply, unknown_database}
use Rattle.odb_front.specs.Answers.{beside}
use Rattle.odb_front.specs.Front.{Text}
use Rattle.odb_front.specs.Represented.Answers.{printed}

by_test : (b : Bool) (d : Data) (t : Option (List ℕ)) (o : Option Data) → t ≡ option_map compact_text o
    → (if b then Some (compact_text d) else t) ≡ option_map compact_text (if b then Some d else o)
by_test true d t o e = refl
by_test false d t o e = e

pub beside_printed : (name : List ℕ) (ss : List (Text × Data)) → beside name (map printed ss) ≡ option_map compact_text (beside name ss)
beside_printed name [] = refl
beside_printed name (s ∷ ss) = by_test (bytes_eq name s.0) s.1 (beside name (map printed ss)) (beside name ss) (beside_printed name ss)

-- the reply with the text of what was found, or of a failure where nothing was
pub replied : (text t : List ℕ) (id : Data) (o : Option Data) → Some t ≡ option_map compact_text o → ((d : Data) → t ≡ compact_text d → text ≡ compact_text (reply id d))
    → text ≡ compact_text (elim o [ None ↦ failure id unknown_database | Some d ↦ reply id d ])
replied text t id None e h = absurd (none-some t (sym e))
replied text t id (Some d) e h = h d (same_Some _ _ e)

pub refused : (text : List ℕ) (id : Data) (o : Option Data) → None ≡ option_map compact_text o → text ≡ compact_text (failure id unknown_database)
    → text ≡ compact_text (elim o [ None ↦ failure id unknown_database | Some d ↦ reply id d ])
refused text id None e h = h
refused text id (Some d) e h = absurd (none-some (compact_text d) e)
