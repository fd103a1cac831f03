-- What was read has a property.
use Rattle.std.specs.Prelude.{◌≡◌, Bool, true, false, Result, Ok, Err}
use mathlib.Core.Path.{refl, ap, subst, ◌∙◌}
use Rattle.odb_atoms.specs.First.{demand, ◌>>=◌, ◌>>◌}
use Rattle.odb_schema.specs.SchemaText.{SchemaFault}

abbrev pub next : {A B E : Type 0} → Result A E → (A → Result B E) → Result B E
next = ◌>>=◌

abbrev pub behind : {A B E : Type 0} → Result A E → Result B E → Result B E
behind = ◌>>◌

unfoldable pub Holds : {A E : Type 0} → (A → Type 0) → Result A E → Type 0
Holds P (Ok x) = P x
Holds P (Err e) = Unit {0}

pub read_in : {A : Type 0} (E : Type 0) (P : A → Type 0) (x : A) → P x → Holds {E = E} P (Ok x)
unfolding Holds
read_in E P x h = h

pub in_read : {A : Type 0} (E : Type 0) (P : A → Type 0) (x : A) → Holds {E = E} P (Ok x) → P x
unfolding Holds
in_read E P x h = h

pub read_so : {A : Type 0} (P : A → Type 0) (x : A) → P x → Holds {E = SchemaFault} P (Ok x)
read_so = read_in SchemaFault

pub so_read : {A : Type 0} (P : A → Type 0) (x : A) → Holds {E = SchemaFault} P (Ok x) → P x
so_read = in_read SchemaFault

-- a fault has nothing to show
pub none_read : {A E : Type 0} (P : A → Type 0) (e : E) → Holds P (Err e)
unfolding Holds
none_read P e = tt

pub then_holds : {A B E : Type 0} (P : B → Type 0) (r : Result A E) (f : A → Result B E) → ((x : A) → Holds P (f x)) → Holds P (next r f)
unfolding Holds
then_holds P (Ok x) f h = h x
then_holds P (Err e) f h = tt

pub tested_holds : {A B E : Type 0} (P : B → Type 0) (r : Result A E) (q : Result B E) → Holds P q → Holds P (behind r q)
unfolding Holds
tested_holds P (Ok x) q h = h
tested_holds P (Err e) q h = tt

pub with_holds : {A B E : Type 0} (P : A → Type 0) (Q : B → Type 0) (r : Result A E) (f : A → Result B E) → Holds P r → ((x : A) → P x → Holds Q (f x)) → Holds Q (next r f)
unfolding Holds
with_holds P Q (Ok x) f h g = g x h
with_holds P Q (Err e) f h g = tt

-- after a test, which holds there
pub passed_holds : {A E : Type 0} (P : A → Type 0) (b : Bool) (e : E) (q : Result A E) → (b ≡ true → Holds P q) → Holds P (behind (demand b e) q)
unfolding Holds
passed_holds P true e q h = h refl
passed_holds P false e q h = tt

-- a reading that was made with the value that it gave
pub once_more : {A B E : Type 0} (r : Result A E) (x : A) (f : A → Result B E) (y : Result B E) → r ≡ Ok x → f x ≡ y → next r f ≡ y
once_more r x f y e h = ap (λ r. next r f) e ∙ h

pub test_passed : {A E : Type 0} (b : Bool) (e : E) (q r : Result A E) → b ≡ true → q ≡ r → behind (demand b e) q ≡ r
test_passed b e q r h g = ap (λ b. behind (demand b e) q) h ∙ g

pub so_holds : {A E : Type 0} (P Q : A → Type 0) (r : Result A E) → ((x : A) → P x → Q x) → Holds P r → Holds Q r
unfolding Holds
so_holds P Q (Ok x) h g = h x g
so_holds P Q (Err e) h g = tt

pub both_hold : {A E : Type 0} (P Q : A → Type 0) (r : Result A E) → Holds P r → Holds Q r → Holds (λ x. P x × Q x) r
unfolding Holds
both_hold P Q (Ok x) h g = (h, g)
both_hold P Q (Err e) h g = tt

-- after a test, by another reading that is the same where it holds
pub same_behind : {A E : Type 0} (P : A → Type 0) (b : Bool) (e : E) (q r : Result A E) → (b ≡ true → r ≡ behind (demand b e) q) → (b ≡ true → Holds P r) → Holds P (behind (demand b e) q)
unfolding Holds
same_behind P true e q r same h = subst (Holds P) (same refl) (h refl)
same_behind P false e q r same h = tt
