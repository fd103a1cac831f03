-- Bytes that are appended in parts.
use Rattle.std.proofs.Common.{◌≡◌, ℕ, List, [], ◌++◌, None, Some, ap, sym, ◌∙◌, append_assoc, append-nil, take, drop, length, ◌-◌, arith, take_all, length-drop, take-append-drop}
use Rattle.std.specs.declared.option.Option.{Option}
use Rattle.std.specs.Io.KnownBytes.{Appends, Keeps}

pub appends_nothing : (a : Option (List ℕ)) → Appends a a []
appends_nothing None = tt
appends_nothing (Some xs) = sym (append-nil xs)

pub appends_more : (a b c : Option (List ℕ)) (s t : List ℕ) → Appends a b s → Appends b c t → Appends a c (s ++ t)
appends_more None b c s t p q = tt
appends_more (Some xs) None c s t p q = absurd p
appends_more (Some xs) (Some ys) None s t p q = absurd q
appends_more (Some xs) (Some ys) (Some zs) s t p q = q ∙ ap (λ l. l ++ t) p ∙ append_assoc xs s t

pub appends_kept : (a b c : Option (List ℕ)) (s : List ℕ) → Appends a b s → Keeps b c → Appends a c s
appends_kept None b c s p q = tt
appends_kept (Some xs) None c s p q = absurd p
appends_kept (Some xs) (Some ys) None s p q = absurd q
appends_kept (Some xs) (Some ys) (Some zs) s p q = q ∙ p

pub keeps_appends : (a b : Option (List ℕ)) → Keeps a b → Appends a b []
keeps_appends None b p = tt
keeps_appends (Some xs) None p = absurd p
keeps_appends (Some xs) (Some ys) p = p ∙ sym (append-nil xs)

-- a write took n bytes of the rest
pub wrote_more : (buf front rest next : List ℕ) (a b c : Option (List ℕ)) (n : ℕ) → buf ≡ front ++ rest → Appends a b front → Appends b c (take n rest)
    → next ≡ take (length rest - n) (drop n rest) → (x : List ℕ) × (buf ≡ x ++ next) × Appends a c x
wrote_more buf front rest next a b c n is p q left =
    let shown : take (length rest - n) (drop n rest) ≡ drop n rest = take_all (length rest - n) (drop n rest) (let len = length-drop n rest in omega (arith, len)) in (
      front ++ take n rest,
      is ∙ ap (λ l. front ++ l) (sym (take-append-drop n rest)) ∙ sym (append_assoc front (take n rest) (drop n rest)) ∙ ap (λ l. (front ++ take n rest) ++ l) (sym (left ∙ shown)),
      appends_more a b c front (take n rest) p q,
    )
