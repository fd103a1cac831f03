-- Parts of commands, one after the other.
use Rattle.std.proofs.Common.{◌≡◌, ℕ, List, [], ◌∷◌, ◌++◌, sym, ◌∙◌, append_assoc, append-nil}
use Rattle.serde_json.specs.Data.{Data}
use Rattle.odb_service.specs.Service.{Service}
use Rattle.odb_script.specs.Script.{Script, drain_all, deliver_all, dispatch}
use Rattle.odb_script.specs.Represented.Steps.{Does}

module _ (h : Service) (n : List ℕ) (s : ℕ) where
  -- all of these messages are delivered on after a text
  abbrev pub delivered_from : List Data → Script → List ℕ → Script × List ℕ
  delivered_from ds p t = ((deliver_all h n s ds p).0, t ++ (deliver_all h n s ds p).1)

  pub delivers_next : (d : Data) (ds : List Data) (p q : Script) (t u : List ℕ) → Does (λ r. drain_all h (dispatch h n s d r)) p t q u → delivered_from (d ∷ ds) p t ≡ delivered_from ds q u
  delivers_next d ds p q t u does =
      let one = drain_all h (dispatch h n s d p) in
      (λ i. let r : Script × List ℕ = ((deliver_all h n s ds one.0).0, sym (append_assoc t one.1 (deliver_all h n s ds one.0).1) i) in r)
      ∙ (λ i. let r : Script × List ℕ = ((deliver_all h n s ds (does.0 i)).0, does.1 i ++ (deliver_all h n s ds (does.0 i)).1) in r)

  pub delivers_none : (p : Script) (t : List ℕ) → delivered_from [] p t ≡ (p, t)
  delivers_none p t = λ i. let r : Script × List ℕ = (p, append-nil t i) in r
