-- What an array holds in front of its first fault, and what that says of its reading item by item.
use Rattle.std.specs.Prelude.{◌≡◌, ◌<◌, ◌≤◌, ℕ, suc, Bool, true, false, cond, not, ◌&&◌, List, ◌∷◌, ◌++◌, drop, get_or, length, Option, Some, None, option_map}
use Rattle.std.specs.Option.{is_some}
use mathlib.Core.Path.{refl, sym, ap, ◌∙◌}
use mathlib.Core.Bool.{true≢false}
use Rattle.std.proofs.Math.Seq.{drop-cons}
use Rattle.std.proofs.lemmas.List.{append-nil, append_assoc, drop_all}
use Rattle.serde_json.specs.View.{items_view, view}
use Rattle.serde_json.specs.declared.value.Value.{Value}
use Rattle.odb_atoms.specs.Error.{Error, syntax_error}
use Rattle.odb_atoms.specs.First.{Err, Ok, Result, demand, ◌>>◌}
use Rattle.odb_schema.specs.Json.{Data}
use Rattle.odb_json.specs.Represented.Parts.{Front, followed, front}

-- of the whole, what is done, and the rest from an item on
abbrev pub Stands : {A : Type 0} → (Data → Front A) → List Value → ℕ → List A → Type 0
Stands f vs i done = front f (items_view vs) ≡ followed done None (front f (items_view (drop i vs)))

-- an item's own fault, of which the code has another type
module _ {A E : Type 0} (f : Data → Front A) (vs : List Value) (i : ℕ) (v : Value) (done new : List A) (fault_of : E → Error) (fault : Option E) where
  abbrev rest : Front A
  rest = front f (items_view (drop (suc i) vs))

  -- the whole, with the next item apart
  abbrev Next : Type 0
  Next = front f (items_view vs) ≡ followed done None (followed (f (view v)).0 (f (view v)).1 rest)

  pub front_next : Stands f vs i done → i < length vs → v ≡ get_or vs i v → Next
  front_next e low at =
      e ∙ ap (λ l. followed done None (front f (items_view l))) (drop-cons vs i v low ∙ ap (λ w. w ∷ drop (suc i) vs) (sym at))

  -- one more item without a fault
  pub front_more : Next → new ≡ done ++ (f (view v)).0 → option_map fault_of fault ≡ (f (view v)).1 → is_some fault ≡ false → Stands f vs (suc i) new
  front_more e more is h =
      e
      ∙ ap (λ o. followed done None (followed (f (view v)).0 o rest)) (sym is ∙ none fault h)
      ∙ ap (λ xs. (xs, rest.1)) (sym (append_assoc done (f (view v)).0 rest.0))
      ∙ ap (λ xs. followed xs None rest) (sym more)
    where
      none : (o : Option E) → is_some o ≡ false → option_map fault_of o ≡ None
      none None h = refl
      none (Some x) h = absurd (true≢false h)

  -- the first fault
  pub front_fault : Next → new ≡ done ++ (f (view v)).0 → option_map fault_of fault ≡ (f (view v)).1 → is_some fault ≡ true → front f (items_view vs) ≡ (new, option_map fault_of fault)
  front_fault e more is h =
      e
      ∙ ap (λ o. followed done None (followed (f (view v)).0 o rest)) (sym is)
      ∙ some fault h
      ∙ ap (λ xs. (xs, option_map fault_of fault)) (sym more)
    where
      some : (o : Option E) → is_some o ≡ true → followed done None (followed (f (view v)).0 (option_map fault_of o) rest) ≡ (done ++ (f (view v)).0, option_map fault_of o)
      some (Some x) h = refl
      some None h = absurd (true≢false (sym h))

-- no fault at all
pub front_end : {A : Type 0} (f : Data → Front A) (vs : List Value) (i : ℕ) (done : List A) → Stands f vs i done → length vs ≤ i → front f (items_view vs) ≡ (done, None)
front_end f vs i done e long =
    e
    ∙ ap (λ l. followed done None (front f (items_view l))) (drop_all i vs long)
    ∙ ap (λ xs. (xs, None)) (append-nil done)

module _ {A : Type 0} where
  -- the fault, if there is one
  abbrev pub answer : Option Error → A → Result A Error
  answer None x = Ok x
  answer (Some e) x = Err e

  -- unless an entry stands twice
  abbrev pub verdict : Bool → Option Error → A → Result A Error
  verdict is_fresh o x = cond is_fresh (answer o x) (Err syntax_error)

  -- one more entry, which has been seen before or not
  pub seen : (b is_fresh : Bool) (o : Option Error) (x : A) (r : Result A Error) → r ≡ verdict is_fresh o x → ◌>>◌ (demand (not b) syntax_error) r ≡ verdict (not b && is_fresh) o x
  seen true is_fresh o x r h = refl
  seen false is_fresh o x r h = h
