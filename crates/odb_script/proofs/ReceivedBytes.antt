-- Bytes that are taken in for a session: its messages are delivered on, and a fault after them ends it.
use Rattle.std.proofs.Common.{◌≡◌, ℕ, List, [], ◌++◌, codes, drop, slice_get, slice_set, Some, refl, ap, sym, ◌∙◌, append_assoc}
use Rattle.serde_json.specs.Data.{Data}
use Rattle.odb_service.specs.Service.{Service}
use Rattle.odb_wire.specs.Stream.{Ending, fault_bad, fault_too_long, goes_on, max_message, messages}
use Rattle.odb_script.specs.Script.{ScriptSession, Script, at_ending, at_name, deliver_all, shut_with, receive, with_bytes}
use Rattle.odb_script.specs.Represented.Names.{AreApart, place_in}
use Rattle.odb_script.specs.Represented.Steps.{Does}
use Rattle.odb_script.proofs.NamePlaces.{at_place}

module _ (h : Service) (n : List ℕ) (s : ℕ) where
  abbrev behind : List ℕ → Script × List ℕ → Script × List ℕ
  behind t r = (r.0, t ++ r.1)

  shut_after : (line t : List ℕ) (r : Script × List ℕ) → shut_with h n s line (behind t r) ≡ behind t (shut_with h n s line r)
  shut_after line t r = λ i. let a : Script × List ℕ = ((shut_with h n s line r).0, append_assoc t r.1 (shut_with h n s line (r.0, [])).1 i) in a

  ending_after : (e : Ending) (t : List ℕ) (r : Script × List ℕ) → at_ending h n s e (behind t r) ≡ behind t (at_ending h n s e r)
  ending_after goes_on t r = refl
  ending_after fault_too_long t r = shut_after (codes "!fault 2") t r
  ending_after fault_bad t r = shut_after (codes "!fault 3") t r

  pub ends_after : (f : Script → Script × List ℕ) (e : Ending) (p q r : Script) (t u v : List ℕ) → Does f p t q u → at_ending h n s e (q, u) ≡ (r, v) → Does (λ x. at_ending h n s e (f x)) p t r v
  ends_after f e p q r t u v does ended =
      let all : behind t (at_ending h n s e (f p)) ≡ (r, v) = sym (ending_after e t (f p)) ∙ (λ i. at_ending h n s e (does.0 i, does.1 i)) ∙ ended in
      (ap (λ (a : Script × List ℕ). a.0) all, ap (λ (a : Script × List ℕ). a.1) all)

-- what the code did with the bytes
pub received : (h : Service) (x : ScriptSession) (n bytes : List ℕ) (s k : ℕ) (p q r : Script) (ys : List ScriptSession) (t u v : List ℕ) (ds : List Data) → AreApart p.sessions → x.name ≡ n → s ≡ x.session → place_in n p.sessions ≡ Some k → slice_get p.sessions k ≡ Some x
    → ys ≡ slice_set p.sessions k (with_bytes bytes x) → ds ≡ drop x.delivered (messages max_message (x.bytes ++ bytes)).0 → Does (deliver_all h n s ds) (record p { sessions = ys }) t q u
    → at_ending h n s (messages max_message (x.bytes ++ bytes)).1 (q, u) ≡ (r, v) → Does (receive h x bytes) p t r v
received h x n bytes s k p q r ys t u v ds apart named number place there set messages_are does ended =
    let fed : Script → Script = λ o. record o { sessions = at_name x.name (with_bytes bytes) o.sessions } in
    let same : record p { sessions = ys } ≡ fed p = (λ i. record p { sessions = set i }) ∙ (λ i. record p { sessions = sym (at_place n (with_bytes bytes) p.sessions k x apart place there) i }) ∙ (λ i. record p { sessions = at_name (sym named i) (with_bytes bytes) p.sessions }) in
    let d : Does (λ o. deliver_all h n s ds (record o { sessions = ys })) p t q u = does in
    let e : Does (λ o. at_ending h n s (messages max_message (x.bytes ++ bytes)).1 (deliver_all h n s ds (record o { sessions = ys }))) p t r v = ends_after h n s (λ o. deliver_all h n s ds (record o { sessions = ys })) (messages max_message (x.bytes ++ bytes)).1 p q r t u v d ended in
    let all : at_ending h n s (messages max_message (x.bytes ++ bytes)).1 (deliver_all h n s ds (record p { sessions = ys })) ≡ receive h x bytes p = (λ i. at_ending h (sym named i) (number i) (messages max_message (x.bytes ++ bytes)).1 (deliver_all h (sym named i) (number i) (messages_are i) (same i))) in
    (ap (λ (a : Script × List ℕ). a.0) (sym all) ∙ e.0, ap (λ (a : Script × List ℕ). t ++ a.1) (sym all) ∙ e.1)
