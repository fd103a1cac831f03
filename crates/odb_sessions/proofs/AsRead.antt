-- The requests that are read of a monitor ask for no table twice.
use Rattle.std.proofs.Common.{◌≡◌, Bool, true, false, ◌&&◌, cond, List, Result, Ok, Err, refl, sym, ap, subst, true≢false}
use Rattle.std.specs.Prelude.{is_err}
use Rattle.odb_atoms.specs.Error.{Error, syntax_error}
use Rattle.odb_atoms.specs.First.{◌>>=◌}
use Rattle.odb_request.specs.Request.{Notation, Request}
use Rattle.odb_request.specs.Requests.{are_named, if_named, read_requests, requests_in}
use Rattle.odb_schema.specs.Json.{Data}
use Rattle.odb_schema.specs.Schema.{Schema}
use Rattle.odb_sessions.specs.Started.{AreApart}

first_true : (a b : Bool) → (a && b) ≡ true → a ≡ true
first_true true b is = refl
first_true false b is = absurd (true≢false (sym is))

same_Ok : (a b : List Request) → ◌≡◌ {A = Result (List Request) Error} (Ok a) (Ok b) → a ≡ b
same_Ok a b e = cc

no_error : (e : Error) (b : List Request) → ◌≡◌ {A = Result (List Request) Error} (Err e) (Ok b) → ⊥
no_error e b is = true≢false (ap is_err is)

pub apart_read : (s : Schema) (n : Notation) (d : Data) (qs : List Request) → read_requests s n d ≡ Ok qs → AreApart qs
apart_read s n d qs e = by (requests_in s n d) e
  where
    named : (ps : List Request) (b : Bool) → are_named ps ≡ b → (let r : Result (List Request) Error = cond b (Ok ps) (Err syntax_error) in r) ≡ Ok qs → AreApart qs
    named ps true is e = subst AreApart (same_Ok ps qs e) (first_true _ _ is)
    named ps false is e = absurd (no_error syntax_error qs e)

    by : (r : Result (List Request) Error) → ◌>>=◌ r if_named ≡ Ok qs → AreApart qs
    by (Ok ps) e = named ps (are_named ps) refl e
    by (Err x) e = absurd (no_error x qs e)
