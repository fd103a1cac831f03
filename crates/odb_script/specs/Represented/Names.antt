-- Sessions by their names, of which no two are the same, and by their numbers, which rise.
use Rattle.std.specs.Prelude.{◌≡◌, ℕ, suc, T, List, [], ◌∷◌, if◌then◌else◌, find, map, Option, Some, None, option_map, bytes_eq}
use Rattle.std.specs.declared.cmp.Ordering.TheVariants.{Less}
use Rattle.std.specs.FinMap.Entries.{is_sorted}
use Rattle.std.specs.List.{AllByRecursion}
use Rattle.std.specs.Ordering.{nat_cmp}
use Rattle.odb_script.specs.Script.{ScriptSession}

abbrev pub AreApart : List ScriptSession → Type 0
AreApart [] = Unit {0}
AreApart (x ∷ xs) = (find (λ y. bytes_eq y.name x.name) xs ≡ None) × AreApart xs

abbrev pub by_number : ScriptSession → ℕ × ScriptSession
by_number x = (x.session, x)

-- their numbers rise
abbrev pub AreInOrder : List ScriptSession → Type 0
AreInOrder xs = T (is_sorted nat_cmp (map by_number xs))

-- their names differ, and their numbers rise and are below the next one
abbrev pub AreOpened : ℕ → List ScriptSession → Type 0
AreOpened next xs = AreApart xs × (AreInOrder xs × AllByRecursion (λ x. nat_cmp x.session next ≡ Less) xs)

-- where the first session of the name stands
abbrev pub place_in : List ℕ → List ScriptSession → Option ℕ
place_in n [] = None
place_in n (x ∷ xs) = if bytes_eq x.name n then Some 0 else option_map suc (place_in n xs)
