-- Texts that jobs have: shared, or composed of them.
use Rattle.std.proofs.Common.{Bor, List, None, Option, Some, ap, is_some, sym, ℕ, ◌∙◌, ◌≡◌}
use Rattle.std.specs.Prelude.{IfSome, Vec, option_map}
use Rattle.std.specs.declared.sync.Arc.{Arc}
use Rattle.std.proofs.lemmas.Option.{none-some}
use Rattle.serde_json.specs.Written.{compact_text}
use Rattle.odb_monitor.specs.Job.{Job, updates_of}
use Rattle.odb_sessions.specs.Composed.{composition}
use Rattle.odb_sessions.specs.Represented.Composed.{bytes_in, bytes_of}
use Rattle.odb_round.proofs.Rests.{is_mapped}

-- what is shared is what was there
pub text_shared : {Y Z : Type 0} (own : Option (Arc (Vec ℕ Y) Z)) (text : Option (Bor (Arc (Vec ℕ Y) Z))) (told : Option (List ℕ))
    → bytes_in own ≡ option_map (λ t. bytes_of t.now) text → IfSome text (λ t. Some (bytes_of t.now) ≡ told) → IfSome own (λ t. Some (bytes_of t) ≡ told)
text_shared None text told e h = tt
text_shared (Some t) None told e h = absurd (none-some (bytes_of t) (sym e))
text_shared (Some t) (Some k) told e h = e ∙ h

-- what was composed is all that there is
pub text_composed : {Y Z : Type 0} (body : Option (Arc (Vec ℕ Y) Z)) (told : Option (List ℕ)) → bytes_in body ≡ told → IfSome body (λ t. Some (bytes_of t) ≡ told)
text_composed None told e = tt
text_composed (Some t) told e = e

-- something is composed where something is sent
pub composed_sent : {Y Z : Type 0} (body : Option (Arc (Vec ℕ Y) Z)) (j : Job) → bytes_in body ≡ composition j → is_some body ≡ is_some (updates_of j)
composed_sent body j e = sym (is_mapped bytes_of body) ∙ ap is_some e ∙ is_mapped compact_text (updates_of j)
