-- Reading a set's elements: all in front of the first fault, and only then whether one stands twice.
use Rattle.std.specs.Prelude.{◌≡◌, true, not, ◌&&◌, List, Option, Some, None}
use Rattle.std.specs.List.{list_all}
use mathlib.Core.Path.{refl, sym, ap, ◌∙◌}
use Rattle.odb_atoms.specs.FinSet as set
use Rattle.odb_atoms.specs.Atom.{Atom, Kind, kind_of, same_kind}
use Rattle.odb_atoms.specs.Error.{Error, syntax_error}
use Rattle.odb_atoms.specs.First.{Err, Ok, Result, demand, ◌>>=◌, ◌>>◌}
use Rattle.odb_atoms.specs.Members.{ListFault, are_of_one_kind, repeats, set_fault}
use Rattle.odb_atoms.specs.Value.{Atoms, atoms}
use Rattle.odb_schema.specs.Json.{Items, item, no_items}
use Rattle.odb_schema.specs.Notation.{Names, read_atom, read_elements}
use Rattle.odb_schema.proofs.Elements.{OfKind, fresh, fresh-repeats, of_one_kind, once_of, put_all, put_all-empty, read_of_kind, twice_of}
use Rattle.odb_json.specs.Represented.Parts.{Front, atom_or_fault, elements_front, followed, set_value}
use Rattle.odb_json.proofs.Fronts.{answer, seen, verdict}

-- all are of the kind
abbrev pub AreAll : Kind → List Atom → Type 0
AreAll k list = list_all (λ a. same_kind (kind_of a) k) list ≡ true

module _ (names : Option Names) (k : Kind) where
  abbrev elements : Items → Front Atom
  elements = elements_front names k

  -- ---- all at once

  abbrev made : Atoms → Front Atom → Result Atoms Error
  made s p = verdict (fresh s p.0) p.1 (put_all s p.0)

  read_one : (s : Atoms) (ds : Items) (r : Result Atom Error) → ((a : Atom) → read_elements names k (set.insert s a) ds ≡ made (set.insert s a) (elements ds))
      → ◌>>=◌ r (λ a. ◌>>◌ (demand (not (set.contains s a)) syntax_error) (read_elements names k (set.insert s a) ds)) ≡ made s (followed (atom_or_fault r).0 (atom_or_fault r).1 (elements ds))
  read_one s ds (Err e) h = refl
  read_one s ds (Ok a) h = seen (set.contains s a) (fresh (set.insert s a) (elements ds).0) (elements ds).1 (put_all (set.insert s a) (elements ds).0) (read_elements names k (set.insert s a) ds) (h a)

  read_all : (s : Atoms) (ds : Items) → read_elements names k s ds ≡ made s (elements ds)
  read_all s no_items = refl
  read_all s (item d ds) = read_one s ds (read_atom names k d) (λ a. read_all (set.insert s a) ds)

  -- ---- each is of the kind

  one_of_kind : (r : Result Atom Error) (p : Front Atom) → OfKind k r → AreAll k p.0 → AreAll k (followed (atom_or_fault r).0 (atom_or_fault r).1 p).0
  one_of_kind (Err e) p h g = refl
  one_of_kind (Ok a) p h g = λ j. h j && g j

  of_kind : (ds : Items) → AreAll k (elements ds).0
  of_kind no_items = refl
  of_kind (item d ds) = one_of_kind (read_atom names k d) (elements ds) (read_of_kind names k d) (of_kind ds)

  -- ---- by the answer of `Value::set`

  module _ (ds : Items) (list : List Atom) (o : Option Error) (found : list ≡ (elements ds).0) (fault : o ≡ (elements ds).1) where
    by_repeats : read_elements names k set.empty ds ≡ verdict (not (repeats list)) o (atoms list)
    by_repeats =
        read_all set.empty ds
        ∙ (λ j. verdict (fresh set.empty (sym found j)) (sym fault j) (put_all set.empty (sym found j)))
        ∙ (λ j. verdict (fresh-repeats list j) o (put_all-empty list j))

    pub elements_made : None ≡ set_fault list → set_value (read_elements names k set.empty ds) ≡ set_value (answer o (atoms list))
    elements_made e = ap set_value (by_repeats ∙ ap (λ b. verdict (not b) o (atoms list)) (once_of (are_of_one_kind list) (repeats list) e))

    pub elements_twice : (f : ListFault) → Some f ≡ set_fault list → set_value (read_elements names k set.empty ds) ≡ Err syntax_error
    elements_twice f e =
        ap set_value (by_repeats ∙ ap (λ b. verdict (not b) o (atoms list)) (twice_of (are_of_one_kind list) (repeats list) f e (of_one_kind k list (ap (list_all (λ a. same_kind (kind_of a) k)) found ∙ of_kind ds))))
