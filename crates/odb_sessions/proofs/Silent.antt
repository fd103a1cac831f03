-- Tables of which nothing is sent may be left out of a job.
use Rattle.std.proofs.Common.{◌≡◌, ◌&&◌, ◌||◌, false, not, List, [], ◌∷◌, ◌++◌, map, Option, Some, None, refl, sym, ap, subst, ◌∙◌}
use Rattle.std.specs.Prelude.{option_to_list, if◌then◌else◌}
use Rattle.serde_json.specs.Data.{Data, Members, member, object}
use Rattle.odb_monitor.specs.Job.{Part, updates_of}
use Rattle.odb_monitor.specs.Represented.Part.{changes_shown}
use Rattle.odb_monitor.specs.Update.{members, table_parts, table_update}
use Rattle.odb_monitor.specs.View.{Contents, Delta, delta, is_empty, is_none, selected, shown}
use Rattle.odb_monitor.proofs.Seen.{none_shown}
use Rattle.odb_request.specs.Request.{Notation, shapes, table_names}
use Rattle.odb_sessions.specs.Composed.{IsLacking, later_job, part_to}
use Rattle.odb_sessions.specs.Marked.{Watched}
use Rattle.odb_tables.specs.Change.{Changes}
use Rattle.odb_tables.specs.Database.{Db, table_at}

abbrev shown_of : List Part → Delta
shown_of ps = shown false (map (λ p. p.request) ps) (delta (map (λ p. p.told) ps) (map (λ p. p.asked) ps))

abbrev told_of : Notation → List Part → Members
told_of n ps = members (table_names (shapes (map (λ p. p.request) ps))) (table_parts n false (shapes (map (λ p. p.request) ps)) (shown_of ps))

-- as much is sent of these as of the others
abbrev pub Same : List Part → List Part → Type 0
Same ps qs = (is_none (shown_of ps) ≡ is_none (shown_of qs)) × ((n : Notation) → told_of n ps ≡ told_of n qs)

pub same_none : Same [] []
same_none = (refl, λ n. refl)

same_more : (p : Part) (ps qs : List Part) → Same ps qs → Same (p ∷ ps) (p ∷ qs)
same_more p ps qs h = (ap (λ b. is_empty (changes_shown false p).entries && b) h.0, λ n. by n (table_update n false p.request.shape.columns (changes_shown false p).entries))
  where
    tables : Notation → Option Data → List Part → Members
    tables n o rs =
        members (p.request.shape.name ∷ table_names (shapes (map (λ r. r.request) rs))) (o ∷ table_parts n false (shapes (map (λ r. r.request) rs)) (shown_of rs))

    by : (n : Notation) (o : Option Data) → tables n o ps ≡ tables n o qs
    by n None = h.1 n
    by n (Some d) = ap (λ ms. member p.request.shape.name d ms) (h.1 n)

same_silent : (p : Part) (ps qs : List Part) → (changes_shown false p).entries ≡ [] → Same ps qs → Same (p ∷ ps) qs
same_silent p ps qs none h = (
  ap (λ es. is_empty es && is_none (shown_of ps)) none ∙ h.0,
  λ n. ap (λ es. members (p.request.shape.name ∷ table_names (shapes (map (λ r. r.request) ps))) (table_update n false p.request.shape.columns es ∷ table_parts n false (shapes (map (λ r. r.request) ps)) (shown_of ps))) none ∙ h.1 n,
)

silent : (db : Db) (w : Watched) → (part_to db w).told ≡ (part_to db w).asked → (changes_shown false (part_to db w)).entries ≡ []
silent db w same =
    ap (λ (m : Contents). let p : Part = record { request = w.request; told = m; asked = selected w.request (table_at db w.request.place) } in (changes_shown false p).entries) same
    ∙ none_shown (λ (c : Changes). c) false w.request (table_at db w.request.place) None refl

-- one table more
pub same_step : (db : Db) (w : Watched) (o : Option Part) (ps qs : List Part) → IsLacking db w o → Same ps qs → Same (part_to db w ∷ ps) (option_to_list o ++ qs)
same_step db w None ps qs is h = same_silent (part_to db w) ps qs (silent db w is) h
same_step db w (Some p) ps qs is h = subst (λ (x : Part). Same (part_to db w ∷ ps) (x ∷ qs)) (sym is) (same_more (part_to db w) ps qs h)

pub same_updates : (n : Notation) (ps qs : List Part) → Same ps qs → updates_of (later_job n ps) ≡ updates_of (later_job n qs)
same_updates n ps qs h = (λ i. if false || not (h.0 i) then Some (object (h.1 n i)) else None)
