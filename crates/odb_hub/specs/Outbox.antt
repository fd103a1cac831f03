-- What was taken out of a mailbox, and what is left to be written. [P 15.2]
use Rattle.std.specs.Prelude.{◌≡◌, ◌≢◌, ℕ, Bool, true, false, List, [], ◌++◌, Option, Some, None, refl}
use Rattle.std.specs.Coded.{Coded, code_by, coded×, coded_ℕ, coded_list}
use Rattle.std.specs.Io.KnownBytes.{Appends}
use Rattle.std.specs.List.{concat}
use Rattle.odb_hub.specs.Probe.{probe_text}
use Rattle.odb_hub.specs.Rings.{Name, Text, name_code}

-- the ring whose messages are written, the texts of all messages that were taken out of it, in order, and the bytes that are left to be written
pub record Outbox : Type 0 where
  pub name : Name
  pub taken : List Text
  pub left : List ℕ

abbrev pub outbox_code : Coded Outbox
outbox_code = code_by (Name × (List Text × List ℕ)) (coded× name_code (coded× (coded_list (coded_list coded_ℕ)) (coded_list coded_ℕ))) (λ o. (o.name, (o.taken, o.left))) (λ p. record { name = p.0; taken = p.1.0; left = p.1.1 }) (λ _. refl)

-- the bytes that an option has
abbrev pub bytes_of : Option (List ℕ) → List ℕ
bytes_of None = []
bytes_of (Some bytes) = bytes

-- a beginning of the bytes was written, and the rest is left
abbrev pub Sends : List ℕ → List ℕ → Option (List ℕ) → Option (List ℕ) → Type 0
Sends old new contents filled = (front : List ℕ) × (front ≢ []) × (old ≡ front ++ new) × Appends contents filled front

-- messages were taken out, and are left to be written after what was left
abbrev pub Takes : Outbox → Outbox → Type 0
Takes old new = (outs : List Text) × (new.name ≡ old.name) × (new.taken ≡ old.taken ++ outs) × (new.left ≡ old.left ++ concat outs)

-- messages were taken out. Of what was left and, after it, of these the front was written, and the rest is left
abbrev pub Writes : List ℕ → Outbox → Outbox → Option (List ℕ) → Option (List ℕ) → Type 0
Writes front old new contents filled = (outs : List Text) × (new.name ≡ old.name) × (new.taken ≡ old.taken ++ outs) × (old.left ++ concat outs ≡ front ++ new.left) × Appends contents filled front

abbrev pub Moves : Outbox → Outbox → Option (List ℕ) → Option (List ℕ) → Type 0
Moves old new contents filled = (front : List ℕ) × Writes front old new contents filled

-- and something was written
abbrev pub MovesSome : Outbox → Outbox → Option (List ℕ) → Option (List ℕ) → Type 0
MovesSome old new contents filled = (front : List ℕ) × (front ≢ []) × Writes front old new contents filled

-- the peer is to be asked after all that is left; or nothing happens, since something is left that a request may not come after
abbrev pub ProbesBy : Bool → Outbox → Outbox → Type 0
ProbesBy true old new = new ≡ record { name = old.name; taken = old.taken; left = old.left ++ probe_text }
ProbesBy false old new = (old.left ≢ []) × (new ≡ old)
