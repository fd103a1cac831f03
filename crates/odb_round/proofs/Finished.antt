-- A session whose queue begins with a finished text: a taking gives it, and uses up that item alone.
use Rattle.std.proofs.Common.{◌≡◌, ℕ, ◌<◌, Bool, true, false, List, [], ◌∷◌, is_some, length, slice_index_or, Option, Some, None, refl, sym, ap, arith, true≢false, ◌∙◌}
use Rattle.std.specs.Prelude.{IfNone, IfSome, option_map}
use Rattle.odb_schema.specs.Schema.{Schema}
use Rattle.odb_service.specs.Server.{served_by}
use Rattle.odb_service.specs.Session as machine
use Rattle.odb_service.specs.Session.{Revision, Session}
use Rattle.odb_sessions.specs.Carried.{finished_text}
use Rattle.odb_sessions.specs.declared.item.Item.{Item}
use Rattle.odb_round.specs.Taken.{IsReadyFor, Ready, begins_finished, is_finished, last_text, text_taken}
use Rattle.odb_round.proofs.Leading.{all_seen, seen_item}

-- one item, and its text
abbrev pub one_item : Ready
one_item = record { items = 1; monitors = 0; text = last_text }

module _ (s : Schema) (revision : Revision) where
  pub finished_ready : (o : Option Session) → is_finished o ≡ true → IsReadyFor s revision o one_item
  finished_ready None e = absurd (true≢false (sym e))
  finished_ready (Some x) e = by x.queue e
    where
      by : (is : List machine.Item) → begins_finished is ≡ true → IsReadyFor s revision (Some (let y : Session = record { queue = is; monitors = x.monitors } in y)) one_item
      by [] e = absurd (true≢false (sym e))
      by (machine.say a d ∷ is) e = (refl, refl)
      by (machine.start d k ∷ is) e = absurd (true≢false (sym e))
      by (machine.sync i ∷ is) e = absurd (true≢false (sym e))
      by (machine.shift i fs ∷ is) e = absurd (true≢false (sym e))
      by (machine.renamed d old new fs ∷ is) e = (refl, refl)
      by (machine.stopped d i ∷ is) e = (refl, refl)

  pub finished_given : (o : Option Session) → is_finished o ≡ true → is_some (text_taken (served_by s) revision o) ≡ true
  finished_given None e = absurd (true≢false (sym e))
  finished_given (Some x) e = by x.queue e
    where
      by : (is : List machine.Item) → begins_finished is ≡ true → is_some (text_taken (served_by s) revision (Some (let y : Session = record { queue = is; monitors = x.monitors } in y))) ≡ true
      by [] e = absurd (true≢false (sym e))
      by (machine.say a d ∷ is) e = refl
      by (machine.start d k ∷ is) e = absurd (true≢false (sym e))
      by (machine.sync i ∷ is) e = absurd (true≢false (sym e))
      by (machine.shift i fs ∷ is) e = absurd (true≢false (sym e))
      by (machine.renamed d old new fs ∷ is) e = refl
      by (machine.stopped d i ∷ is) e = refl

pub first_finished : (xs : List Item) (x : Item) → 0 < length xs → x ≡ slice_index_or xs 0 x → is_some (finished_text (seen_item x)) ≡ begins_finished (all_seen xs)
first_finished [] x low at = absurd (omega (arith, low))
first_finished (y ∷ ys) x low at = ap (λ z. is_some (finished_text (seen_item z))) at

-- ---- what is given, if something is

pub if_given : {A : Type 0} (P : A → Type 0) (o : Option A) → ((a : A) → o ≡ Some a → P a) → IfSome o P
if_given P None f = tt
if_given P (Some a) f = f a refl

pub surely_given : {A : Type 0} (P : Type 0) (o : Option A) → is_some o ≡ true → IfNone o P
surely_given P None e = absurd (true≢false (sym e))
surely_given P (Some a) e = tt

pub given_as : {A B : Type 0} (f : A → B) (o : Option A) → is_some (option_map f o) ≡ is_some o
given_as f None = refl
given_as f (Some a) = refl

-- in either case
pub given_or_not : {A G : Type 0} (P : A → Type 0) (Q : Type 0) (o : Option A) → IfSome o P → IfNone o Q → ((a : A) → P a → G) → (Q → G) → G
given_or_not P Q None some none f g = g none
given_or_not P Q (Some a) some none f g = f a some

pub given_weaker : {A : Type 0} (P R : A → Type 0) (o : Option A) → IfSome o P → ((a : A) → P a → R a) → IfSome o R
given_weaker P R None some f = tt
given_weaker P R (Some a) some f = f a some

pub not_given_weaker : {A : Type 0} (P R : Type 0) (o : Option A) → IfNone o P → (P → R) → IfNone o R
not_given_weaker P R None none f = f none
not_given_weaker P R (Some a) none f = tt
