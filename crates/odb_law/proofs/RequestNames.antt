-- Monitor requests that are read name each table once, and in each its columns once.
use Rattle.std.proofs.Common.{◌≡◌, ℕ, Bool, true, false, cond, not, ◌&&◌, List, [], ◌∷◌, map, Result, Ok, Err, refl, sym, ap, subst, true≢false}
use Rattle.std.specs.List.{list_all}
use Rattle.odb_atoms.specs.Error.{Error, syntax_error}
use Rattle.odb_atoms.specs.First.{◌>>=◌}
use Rattle.odb_atoms.specs.Text.{same_text}
use Rattle.odb_service.proofs.Results.{err_ok}
use Rattle.odb_law.specs.Headline.{ReadsNamed}
use Rattle.odb_service.specs.Session.{shapes}
use Rattle.odb_monitor.specs.Names.{AreDistinct, AreNamed, ColumnsDistinct, IsApart}
use Rattle.odb_request.specs.Request.{Request, column_names, table_names}
use Rattle.odb_request.specs.Requests.{are_distinct, are_named, if_named, requests_in}
use Rattle.odb_schema.specs.Schema.{Schema}
use Rattle.odb_service.specs.Service.{service_of}

not_true : (b : Bool) → not b ≡ true → b ≡ false
not_true true e = sym e
not_true false e = refl

both : (a b : Bool) → (a && b) ≡ true → (a ≡ true) × (b ≡ true)
both true b e = (refl, e)
both false b e = absurd (true≢false (sym e))

apart : (n : List ℕ) (ns : List (List ℕ)) → list_all (λ m. not (same_text n m)) ns ≡ true → IsApart n ns
apart n [] e = tt
apart n (m ∷ ns) e =
    let h : (not (same_text n m) ≡ true) × (list_all (λ m. not (same_text n m)) ns ≡ true) = both (not (same_text n m)) (list_all (λ m. not (same_text n m)) ns) e in
    (not_true (same_text n m) h.0, apart n ns h.1)

distinct : (ns : List (List ℕ)) → are_distinct ns ≡ true → AreDistinct ns
distinct [] e = tt
distinct (n ∷ ns) e =
    let h : (list_all (λ m. not (same_text n m)) ns ≡ true) × (are_distinct ns ≡ true) = both (list_all (λ m. not (same_text n m)) ns) (are_distinct ns) e in
    (apart n ns h.0, distinct ns h.1)

-- ---- what follows from a reading that gave a value

ok_is : {A E : Type 0} (x y : A) → ◌≡◌ {A = Result A E} (Ok x) (Ok y) → x ≡ y
ok_is x y e = cc

columns_distinct : (qs : List Request) → list_all (λ q. are_distinct (column_names q.shape.columns)) qs ≡ true → ColumnsDistinct (shapes qs)
columns_distinct [] e = tt
columns_distinct (q ∷ qs) e =
    let h : (are_distinct (column_names q.shape.columns) ≡ true) × (list_all (λ q. are_distinct (column_names q.shape.columns)) qs ≡ true) = both (are_distinct (column_names q.shape.columns)) (list_all (λ q. are_distinct (column_names q.shape.columns)) qs) e in
    (distinct (column_names q.shape.columns) h.0, columns_distinct qs h.1)

same_names : (qs : List Request) → map (λ q. q.shape.name) qs ≡ table_names (shapes qs)
same_names [] = refl
same_names (q ∷ qs) = ap (λ ns. q.shape.name ∷ ns) (same_names qs)

named : (qs : List Request) → are_named qs ≡ true → AreNamed (shapes qs)
named qs e =
    let h : (are_distinct (map (λ q. q.shape.name) qs) ≡ true) × (list_all (λ q. are_distinct (column_names q.shape.columns)) qs ≡ true) = both (are_distinct (map (λ q. q.shape.name) qs)) (list_all (λ q. are_distinct (column_names q.shape.columns)) qs) e in
    (subst AreDistinct (same_names qs) (distinct (map (λ q. q.shape.name) qs) h.0), columns_distinct qs h.1)

if_named_is : (b : Bool) (qs ps : List Request) → are_named qs ≡ b → ◌≡◌ {A = Result (List Request) Error} (cond b (Ok qs) (Err syntax_error)) (Ok ps) → AreNamed (shapes ps)
if_named_is true qs ps is e = subst (λ (qs : List Request). AreNamed (shapes qs)) (ok_is qs ps e) (named qs is)
if_named_is false qs ps is e = absurd (err_ok syntax_error ps e)

then_named : (r : Result (List Request) Error) (ps : List Request) → ◌>>=◌ r if_named ≡ Ok ps → AreNamed (shapes ps)
then_named (Ok qs) ps e = if_named_is (are_named qs) qs ps refl e
then_named (Err x) ps e = absurd (err_ok x ps e)

pub reads_named : (serves : List ℕ → Bool) (s : Schema) → ReadsNamed (service_of serves s)
reads_named serves s = record { named = λ n d qs e. then_named (requests_in s n d) qs e }
