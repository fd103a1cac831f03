-- A schema's JSON has no fractions, and nests ten deep at most.
use Rattle.std.specs.Prelude.{◌≡◌, ◌≤◌, ◌==◌, ℕ, ℤ, suc, pos, negsuc, max, Bool, true, false, ◌&&◌, ◌||◌, not, cond, codes, length, List, [], ◌∷◌, ◌++◌, map as map_list, Option, Some, None, option_map, unwrap_or, IfOk, Result, Ok, Err, Vec}
use Rattle.std.specs.declared.alloc.Global.{Global}
use mathlib.Core.Bool.{true≢false}
use mathlib.Core.Path.{refl, sym, ap, subst, ◌∙◌}
use Rattle.std.proofs.Common.{arith}
use Rattle.std.proofs.Math.Nat.{le-max_left, le-max_right, max-le}
use Rattle.std.specs.declared.cmp.Ordering.{Ordering}
use Rattle.std.specs.declared.cmp.Ordering.TheVariants.{Less, Equal, Greater}
use Rattle.std.specs.Ordering.{match_ordering}
use Rattle.serde_json.specs.Data.{depth, items_depth, members_depth, put}
use Rattle.serde_json.specs.Written.{compact_text, has_float, items_have_float, members_have_float}
use Rattle.odb_atoms.specs.FinSet as set
use Rattle.odb_atoms.specs.Atom.{Atom, integer, text, uuid}
use Rattle.odb_atoms.specs.Atom as atom
use Rattle.odb_atoms.specs.ColType.{Base, ColType, Reference, is_scalar}
use Rattle.odb_atoms.specs.Text.{text_cmp}
use Rattle.odb_atoms.specs.Uuid.{uuid_text}
use Rattle.odb_atoms.specs.Value.{set_of}
use Rattle.serde_json.specs.Read.{max_depth, read}
use Rattle.odb_schema.specs.Json as json
use Rattle.odb_schema.specs.Json.{Data, Items, Members, array, array_of, item, items_of, member, members_of, no_items, no_members, object, object_of, present, string}
use Rattle.odb_schema.specs.Notation.{write_atom, write_atoms, write_value}
use Rattle.odb_schema.specs.Schema.{Column, Schema, TableSchema}
use Rattle.odb_schema.specs.SchemaText.{is_plain, kind_name, of_natural, unless, write_base, write_column, write_index, write_max, write_reference, write_schema, write_table, write_type}

-- no fractions, and at most n deep
abbrev pub Fits : ℕ → Data → Type 0
Fits n d = (has_float d ≡ false) × (depth d ≤ n)

abbrev ItemsFit : ℕ → Items → Type 0
ItemsFit n ds = (items_have_float ds ≡ false) × (items_depth ds ≤ n)

abbrev MembersFit : ℕ → Members → Type 0
MembersFit n ms = (members_have_float ms ≡ false) × (members_depth ms ≤ n)

neither : (a b : Bool) → a ≡ false → b ≡ false → (a || b) ≡ false
neither true b e h = e
neither false b e h = h

at_most : (a b n : ℕ) → a ≤ n → b ≤ n → max a b ≤ n
at_most a b n h g = max-le h g

higher : (m n : ℕ) (d : Data) → Fits m d → m ≤ n → Fits n d
higher m n d h low = let deep : depth d ≤ m = h.1 in (h.0, omega arith)

-- ---- arrays

one_item : (n : ℕ) (d : Data) (ds : Items) → Fits n d → ItemsFit n ds → ItemsFit n (item d ds)
one_item n d ds h g = (neither (has_float d) (items_have_float ds) h.0 g.0, at_most (depth d) (items_depth ds) n h.1 g.1)

array_fits : (n : ℕ) (ds : Items) → ItemsFit n ds → Fits (suc n) (array ds)
array_fits n ds h = let deep : items_depth ds ≤ n = h.1 in (h.0, omega arith)

none_fit : (n : ℕ) → ItemsFit n no_items
none_fit n = (refl, omega arith)

items_fit : {A : Type 0} (n : ℕ) (f : A → Data) → ((x : A) → Fits n (f x)) → (xs : List A) → ItemsFit n (items_of (map_list f xs))
items_fit n f h [] = none_fit n
items_fit n f h (x ∷ xs) = one_item n (f x) (items_of (map_list f xs)) (h x) (items_fit n f h xs)

-- ---- objects

one_member : (n : ℕ) (k : List ℕ) (d : Data) (ms : Members) → Fits n d → MembersFit n ms → MembersFit n (member k d ms)
one_member n k d ms h g = (neither (has_float d) (members_have_float ms) h.0 g.0, at_most (depth d) (members_depth ms) n h.1 g.1)

rest_fits : (n : ℕ) (k : List ℕ) (d : Data) (ms : Members) → MembersFit n (member k d ms) → Fits n d × MembersFit n ms
rest_fits n k d ms h =
    let deep : max (depth d) (members_depth ms) ≤ n = h.1 in
    by (has_float d) (members_have_float ms) h.0 (omega (arith, le-max_left (depth d) (members_depth ms))) (omega (arith, le-max_right (depth d) (members_depth ms)))
  where
    by : (a b : Bool) → (a || b) ≡ false → depth d ≤ n → members_depth ms ≤ n → ((a ≡ false) × (depth d ≤ n)) × ((b ≡ false) × (members_depth ms ≤ n))
    by true b e p q = absurd (true≢false e)
    by false b e p q = ((refl, p), (e, q))

chosen_fits : (n : ℕ) (o : Ordering) (a b c : Members) → MembersFit n a → MembersFit n b → MembersFit n c → MembersFit n (match_ordering o a b c)
chosen_fits n Less a b c h g f = h
chosen_fits n Equal a b c h g f = g
chosen_fits n Greater a b c h g f = f

put_fits : (n : ℕ) (k : List ℕ) (d : Data) (ms : Members) → Fits n d → MembersFit n ms → MembersFit n (put k d ms)
put_fits n k d no_members h g = one_member n k d no_members h g
put_fits n k d (member l e ms) h g =
    let rest : Fits n e × MembersFit n ms = rest_fits n l e ms g in
    chosen_fits n (text_cmp k l) (member k d (member l e ms)) (member l d ms) (member l e (put k d ms))
    (one_member n k d (member l e ms) h g)
    (one_member n l d ms h rest.1)
    (one_member n l e (put k d ms) rest.0 (put_fits n k d ms h rest.1))

AllFit : ℕ → List (List ℕ × Data) → Type 0
AllFit n [] = Unit {0}
AllFit n (m ∷ ms) = Fits n m.1 × AllFit n ms

members_fit : (n : ℕ) (ms : List (List ℕ × Data)) → AllFit n ms → MembersFit n (members_of ms)
unfolding AllFit
members_fit n [] h = (refl, omega arith)
members_fit n (m ∷ ms) h = put_fits n m.0 m.1 (members_of ms) h.0 (members_fit n ms h.1)

object_fits : (n : ℕ) (ms : List (List ℕ × Data)) → AllFit n ms → Fits (suc n) (object_of ms)
object_fits n ms h =
    let fit : MembersFit n (members_of ms) = members_fit n ms h in
    let deep : members_depth (members_of ms) ≤ n = fit.1 in
    (fit.0, omega arith)

no_more : (n : ℕ) → AllFit n []
unfolding AllFit
no_more n = tt

one_more : (n : ℕ) (k : List ℕ) (d : Data) (ms : List (List ℕ × Data)) → Fits n d → AllFit n ms → AllFit n ((k, d) ∷ ms)
unfolding AllFit
one_more n k d ms h g = (h, g)

joined : (n : ℕ) (xs ys : List (List ℕ × Data)) → AllFit n xs → AllFit n ys → AllFit n (xs ++ ys)
unfolding AllFit
joined n [] ys h g = g
joined n (x ∷ xs) ys h g = (h.0, joined n xs ys h.1 g)

given : {A : Type 0} (n : ℕ) (k : List ℕ) (f : A → Data) → ((x : A) → Fits n (f x)) → (o : Option A) → AllFit n (present k (option_map f o))
unfolding AllFit
given n k f h None = tt
given n k f h (Some x) = (h x, tt)

unless_default : (n : ℕ) (b : Bool) (k : List ℕ) (d : Data) → Fits n d → AllFit n (unless b k d)
unfolding AllFit
unless_default n true k d h = tt
unless_default n false k d h = (h, tt)

each_member : {A : Type 0} (n : ℕ) (name : A → List ℕ) (f : A → Data) → ((x : A) → Fits n (f x)) → (xs : List A) → AllFit n (map_list (λ x. (name x, f x)) xs)
unfolding AllFit
each_member n name f h [] = tt
each_member n name f h (x ∷ xs) = (h x, each_member n name f h xs)

-- ---- the parts of a schema

text_fits : (n : ℕ) (s : List ℕ) → Fits n (string s)
text_fits n s = (refl, omega arith)

flag_fits : (n : ℕ) (b : Bool) → Fits n (json.boolean b)
flag_fits n b = (refl, omega arith)

integer_fits : (n : ℕ) (z : ℤ) → Fits n (json.of_integer z)
integer_fits n (pos m) = (refl, omega arith)
integer_fits n (negsuc m) = (refl, omega arith)

pair_fits : (n : ℕ) (d e : Data) → Fits n d → Fits n e → Fits (suc n) (array_of (d ∷ e ∷ []))
pair_fits n d e h g = array_fits n (item d (item e no_items)) (one_item n d (item e no_items) h (one_item n e no_items g (none_fit n)))

atom_fits : (a : Atom) → Fits 1 (write_atom a)
atom_fits (integer z) = integer_fits 1 z
atom_fits (atom.boolean b) = flag_fits 1 b
atom_fits (text s) = text_fits 1 s
atom_fits (uuid u) = pair_fits 0 (string (codes "uuid")) (string (uuid_text u)) (text_fits 0 (codes "uuid")) (text_fits 0 (uuid_text u))

set_fits : (xs : List Atom) → Fits 3 (array_of (string (codes "set") ∷ array_of (map_list write_atom xs) ∷ []))
set_fits xs = pair_fits 2 (string (codes "set")) (array_of (map_list write_atom xs)) (text_fits 2 (codes "set")) (array_fits 1 (items_of (map_list write_atom xs)) (items_fit 1 write_atom atom_fits xs))

atoms_fit : (xs : List Atom) → Fits 3 (write_atoms xs)
atoms_fit [] = set_fits []
atoms_fit (a ∷ []) = higher 1 3 (write_atom a) (atom_fits a) (omega arith)
atoms_fit (a ∷ b ∷ xs) = set_fits (a ∷ b ∷ xs)

reference_fits : (r : Option Reference) → AllFit 3 (unwrap_or (option_map write_reference r) [])
reference_fits None = no_more 3
reference_fits (Some r) = one_more 3 (codes "refTable") (string r.table) (unless (not r.weak) (codes "refType") (string (codes "weak"))) (text_fits 3 r.table) (unless_default 3 (not r.weak) (codes "refType") (string (codes "weak")) (text_fits 3 (codes "weak")))

chosen : (n : ℕ) (b : Bool) (d e : Data) → Fits n d → Fits n e → Fits n (cond b d e)
chosen n true d e h g = h
chosen n false d e h g = g

base_fits : (b : Base) → Fits 4 (write_base b)
base_fits b = chosen 4 (is_plain b) _ _ (text_fits 4 (kind_name b.kind))
    (object_fits 3 _
    (joined 3 _ _ (joined 3 _ _ (joined 3 _ _ (joined 3 _ _ (joined 3 _ _
    (one_more 3 _ _ _ (text_fits 3 (kind_name b.kind)) (given 3 (codes "enum") (λ s. write_value (set_of s)) (λ s. atoms_fit (set.items s)) b.enum))
    (given 3 (codes "minInteger") json.of_integer (integer_fits 3) b.min_integer))
    (given 3 (codes "maxInteger") json.of_integer (integer_fits 3) b.max_integer))
    (given 3 (codes "minLength") json.of_integer (integer_fits 3) b.min_length))
    (given 3 (codes "maxLength") json.of_integer (integer_fits 3) b.max_length))
    (reference_fits b.reference)))

max_fits : (o : Option ℕ) → AllFit 4 (write_max o)
max_fits None = one_more 4 _ _ _ (text_fits 4 (codes "unlimited")) (no_more 4)
max_fits (Some n) = unless_default 4 (n == 1) (codes "max") (of_natural n) (integer_fits 4 (pos n))

type_fits : (t : ColType) → Fits 5 (write_type t)
type_fits t = chosen 5 (is_scalar t && is_plain t.key) _ _ (text_fits 5 (kind_name t.key.kind))
    (object_fits 4 _
    (joined 4 _ _ (joined 4 _ _
    (one_more 4 _ _ _ (base_fits t.key) (given 4 (codes "value") write_base base_fits t.value))
    (unless_default 4 (t.min == 1) (codes "min") (of_natural t.min) (integer_fits 4 (pos t.min))))
    (max_fits t.max)))

column_fits : (c : Column) → Fits 6 (write_column c)
column_fits c = object_fits 5 _
    (joined 5 _ _
    (one_more 5 _ _ _ (type_fits c.type) (unless_default 5 (not c.ephemeral) (codes "ephemeral") (json.boolean true) (flag_fits 5 true)))
    (unless_default 5 c.mutable (codes "mutable") (json.boolean false) (flag_fits 5 false)))

index_fits : (names : List (List ℕ)) → Fits 1 (write_index names)
index_fits names = array_fits 0 _ (items_fit 0 string (text_fits 0) names)

table_fits : (t : TableSchema) → Fits 8 (write_table t)
table_fits t = object_fits 7 _
    (joined 7 _ _ (joined 7 _ _
    (one_more 7 _ _ _ (object_fits 6 _ (each_member 6 (λ c. c.name) write_column column_fits t.columns)) (given 7 (codes "maxRows") of_natural (λ n. integer_fits 7 (pos n)) t.max_rows))
    (unless_default 7 (not t.is_root) (codes "isRoot") (json.boolean true) (flag_fits 7 true)))
    (unless_default 7 (length t.indexes == 0) (codes "indexes") (array_of (map_list write_index t.indexes)) (higher 2 7 (array_of (map_list write_index t.indexes)) (array_fits 1 _ (items_fit 1 write_index index_fits t.indexes)) (omega arith))))

pub schema_fits : (s : Schema) → Fits 10 (write_schema s)
unfolding write_schema
schema_fits s = object_fits 9 _
    (one_more 9 _ _ _ (text_fits 9 s.name) (one_more 9 _ _ _ (text_fits 9 s.version) (one_more 9 _ _ _ (object_fits 8 _ (each_member 8 (λ t. t.name) write_table table_fits s.tables)) (given 9 (codes "cksum") string (text_fits 9) s.cksum))))

pub no_fractions : (s : Schema) → has_float (write_schema s) ≡ false
no_fractions s = (schema_fits s).0

pub is_shallow : (s : Schema) → depth (write_schema s) ≤ max_depth
is_shallow s = let deep : depth (write_schema s) ≤ 10 = (schema_fits s).1 in omega arith

-- the text of a schema's JSON
pub its_text : {E : Type 0} (r : Result (Vec ℕ Global) E) (d : Data) (s : Schema) → d ≡ write_schema s → IfOk r (λ b. has_float d ≡ false → b.items ≡ compact_text d) → IfOk r (λ b. b.items ≡ compact_text (write_schema s))
its_text (Ok b) d s e h = h (ap has_float e ∙ no_fractions s) ∙ ap compact_text e
its_text (Err f) d s e h = tt

-- a schema's JSON is read of its text
pub its_json : {E : Type 0} (r : Result (Vec ℕ Global) E) (d : Data) (s : Schema) → d ≡ write_schema s → IfOk r (λ b. depth d ≤ max_depth → read b.items ≡ Some d) → IfOk r (λ b. read b.items ≡ Some (write_schema s))
its_json (Ok b) d s e h = h (subst (λ e. depth e ≤ max_depth) (sym e) (is_shallow s)) ∙ ap Some e
its_json (Err f) d s e h = tt
