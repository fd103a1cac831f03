-- A stream that comes in pieces, piece by piece.
use Rattle.std.proofs.Common.{◌≡◌, ℕ, ◌+◌, ◌<◌, ◌++◌, List, [], ◌∷◌, All, Bor, map, take, get_or, length, ap, subst, ◌∙◌, sym}
use Rattle.std.proofs.lemmas.List.{append-nil, take_more, map-append}
use Rattle.std.proofs.lemmas.List.Elements.{All-append}
use Rattle.std.proofs.lemmas.Grind.{flat_map-append}
use Rattle.std.specs.List.{flat_map}
use Rattle.odb_wire.specs.Stream as stream
use Rattle.odb_wire.specs.Feeding.{Adds}
use Rattle.odb_wire.specs.Shown.{message_data, IsOfItsKind}
use Rattle.odb_wire.specs.declared.message.Message.{Message}

-- so many of the pieces were taken in, and these messages were found
pub record ReadUpTo (most : ℕ) (pieces : List (Bor (List ℕ))) (i : ℕ) (framer : List ℕ) (found : List Message) : Type 0 where
  pub bytes : framer ≡ flat_map (λ piece. piece.now) (take i pieces)
  pub messages : map message_data found ≡ (stream.messages most framer).0
  pub kinds : All IsOfItsKind found

bytes-more : (pieces : List (Bor (List ℕ))) (i : ℕ) (d : Bor (List ℕ)) → i < length pieces
    → flat_map (λ piece. piece.now) (take (i + 1) pieces) ≡ flat_map (λ piece. piece.now) (take i pieces) ++ (get_or pieces i d).now
bytes-more pieces i d h =
    ap (flat_map {X = Bor (List ℕ)} {A = ℕ} (λ piece. piece.now)) (take_more pieces i d h)
    ∙ flat_map-append {X = Bor (List ℕ)} {A = ℕ} (λ piece. piece.now) (take i pieces) (get_or pieces i d ∷ []) ∙ ap (λ bs. flat_map {X = Bor (List ℕ)} {A = ℕ} (λ piece. piece.now) (take i pieces) ++ bs) (append-nil (get_or pieces i d).now)

-- a piece that adds messages
pub read-adds : (most : ℕ) (pieces : List (Bor (List ℕ))) (i : ℕ) (d : Bor (List ℕ)) (old new : List ℕ) (found ms all : List Message) → i < length pieces → ReadUpTo most pieces i old found
    → Adds most old (get_or pieces i d).now new (map message_data ms) → All IsOfItsKind ms → all ≡ found ++ ms → ReadUpTo most pieces (i + 1) new all
read-adds most pieces i d old new found ms all h so grown kinds e =
    subst (λ (ws : List Message). ReadUpTo most pieces (i + 1) new ws) (sym e)
    (record {
      bytes = grown.bytes ∙ ap (λ bs. bs ++ (get_or pieces i d).now) so.bytes ∙ sym (bytes-more pieces i d h);
      messages = map-append message_data found ms ∙ ap (λ ds. ds ++ map message_data ms) so.messages ∙ sym grown.messages;
      kinds = All-append IsOfItsKind found ms so.kinds kinds;
    })
