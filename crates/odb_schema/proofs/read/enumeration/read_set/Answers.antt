use Rattle.std.proofs.Common.{◌≡◌, ◌∙◌, codes, Option, None, Some, ap, refl, subst, sym}
use Rattle.std.proofs.lemmas.Result.{err_from_is_err_and}
use Rattle.serde_json.specs.View.{items_view, view}
use Rattle.odb_atoms.specs.Atom.{Atom, Kind}
use Rattle.odb_atoms.specs.Error.{Error, syntax_error}
use Rattle.odb_atoms.specs.FinSet as set
use Rattle.odb_atoms.specs.First.{Err, Ok, Result, ok_or, ◌>>=◌}
use Rattle.odb_atoms.specs.Represented.Atom.{kind_in}
use Rattle.odb_atoms.specs.Value.{Atoms, Value, set_of}
use Rattle.odb_schema.specs.Json.{Data, Items, as_array}
use Rattle.odb_schema.specs.Notation.{read_atom, read_elements, tagged}
use Rattle.odb_schema.specs.SchemaText.{SchemaFault, bad_as}
use Rattle.odb_schema.specs.Represented.Fault.{Reads}
use Rattle.odb_schema.specs.Represented.Parts.{as_value, atom_in, elements_in, set_in}
use Rattle.odb_schema.proofs.Faults.{passed_on}
use Rattle.odb_schema.proofs.read.enumeration.read_set.Goals as goal

abbrev next : {A B : Type 0} → Result A Error → (A → Result B Error) → Result B Error
next = ◌>>=◌

abbrev one : Atom → Value
one a = set_of (set.insert set.empty a)

-- what an atom alone is
abbrev alone : Result Atom SchemaFault → Result Value SchemaFault
alone (Ok a) = Ok (one a)
alone (Err f) = Err f

module _ (k : Kind) (d : Data) where
  -- the set by what stands after its tag, and that by its items
  abbrev of_items : Option Items → Result Atoms Error
  of_items o = next (ok_or o syntax_error) (λ ds. read_elements None k set.empty ds)

  abbrev by_content : Option Data → Result Atoms Error
  by_content None = next (read_atom None k d) (λ a. Ok (set.insert set.empty a))
  by_content (Some content) = of_items (as_array content)

  of_atom : (r : Result Atom Error) → as_value (bad_as (next r (λ a. Ok (set.insert set.empty a)))) ≡ alone (bad_as r)
  of_atom (Ok a) = refl
  of_atom (Err e) = refl

  untagged : None ≡ tagged (codes "set") d → as_value (set_in k d) ≡ alone (atom_in k d)
  untagged is = ap (λ o. as_value (bad_as (by_content o))) (sym is) ∙ of_atom (read_atom None k d)

  with_content : (content : Data) (o : Option Items) → Some content ≡ tagged (codes "set") d → o ≡ as_array content → as_value (set_in k d) ≡ as_value (bad_as (of_items o))
  with_content content o is items_are =
      ap (λ o. as_value (bad_as (by_content o))) (sym is) ∙ ap (λ o. as_value (bad_as (of_items o))) (sym items_are)

pub returns-in_err-read_atom : goal.returns-in_err-read_atom
returns-in_err-read_atom c =
    let p = err_from_is_err_and c.from_residual.result c.from_residual.ensures.1 in
    let k = kind_in c.args.kind in
    let d = view c.args.value.now in
    rw (p.1, p.2)
    (passed_on c.in_err-read_atom.field-0.0 (atom_in k d) (as_value (set_in k d)) (λ f is. untagged k d c.in_default.ensures ∙ ap alone is) c.in_err-read_atom.ensures)

pub returns-in_default : goal.returns-in_default
returns-in_default c =
    untagged (kind_in c.args.kind) (view c.args.value.now) c.in_default.ensures ∙ ap alone c.in_ok-read_atom.ensures ∙ ap Ok (sym c.one.ensures)

pub returns-in-None : goal.returns-in-None
returns-in-None c =
    with_content (kind_in c.args.kind) (view c.args.value.now) (view c.in-Some.content.now) None c.in-Some.ensures c.in-None.ensures

pub returns-in-Some-as_array : goal.returns-in-Some-as_array
returns-in-Some-as_array c =
    let k = kind_in c.args.kind in
    let all = with_content k (view c.args.value.now) (view c.in-Some.content.now) (Some (items_view c.in-Some-as_array.items.now.items)) c.in-Some.ensures c.in-Some-as_array.ensures in
    subst (Reads (λ v. v) c.read_elements.result) (ap (λ vs. as_value (elements_in k (items_view vs))) c.as_slice.ensures.value ∙ sym all) c.read_elements.ensures
