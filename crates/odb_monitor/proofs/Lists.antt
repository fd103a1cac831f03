-- Facts on lists of names and on finite maps.
use Rattle.std.proofs.Common.{◌≡◌, ℕ, true, cond, List, [], ◌∷◌, Option, Some, None, refl, ◌∙◌, ap}
use Rattle.std.specs.Prelude.{option_map, bytes_eq}
use Rattle.std.specs.Cmp.Lexicographic.{nat_list_eq_equiv}
use Rattle.serde_json.specs.Data.{Data}
pub use Rattle.odb_monitor.specs.Law.{IsAsLong}
use Rattle.odb_monitor.specs.Names.{IsApart, AreDistinct}
use Rattle.odb_monitor.specs.Update.{members}
use Rattle.odb_monitor.specs.Fold.{pairs, named}

pub bytes_eq-itself : (n : List ℕ) → bytes_eq n n ≡ true
bytes_eq-itself n = nat_list_eq_equiv.refl n

pub named-past : (n : List ℕ) (ns ms : List (List ℕ)) (ds : List (Option Data)) → IsApart n ms → named (n ∷ ns) (pairs (members ms ds)) ≡ option_map (λ es. None ∷ es) (named ns (pairs (members ms ds)))
named-past n ns [] ds a = refl
named-past n ns (m ∷ ms) [] a = refl
named-past n ns (m ∷ ms) (None ∷ ds) a = named-past n ns ms ds a.1
named-past n ns (m ∷ ms) (Some d ∷ ds) a = ap (λ b. cond b (option_map (λ es. Some d ∷ es) (named ns (pairs (members ms ds)))) (option_map (λ es. None ∷ es) (named ns ((m, d) ∷ pairs (members ms ds))))) a.0

pub named-members : (ns : List (List ℕ)) (ds : List (Option Data)) → AreDistinct ns → IsAsLong ns ds → named ns (pairs (members ns ds)) ≡ Some ds
named-members [] [] a l = refl
named-members [] (d ∷ ds) a l = absurd l
named-members (n ∷ ns) [] a l = absurd l
named-members (n ∷ ns) (None ∷ ds) a l = named-past n ns ns ds a.0 ∙ ap (option_map (λ es. None ∷ es)) (named-members ns ds a.1 l)
named-members (n ∷ ns) (Some d ∷ ds) a l =
    ap (λ b. cond b (option_map (λ es. Some d ∷ es) (named ns (pairs (members ns ds)))) (option_map (λ es. None ∷ es) (named ns ((n, d) ∷ pairs (members ns ds))))) (bytes_eq-itself n)
    ∙ ap (option_map (λ es. Some d ∷ es)) (named-members ns ds a.1 l)
