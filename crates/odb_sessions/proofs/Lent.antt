-- Marks that are lent one after the other; those of all sessions are all that are counted.
use Rattle.std.proofs.Common.{◌≡◌, Bor, ℕ, ◌+◌, List, [], ◌∷◌, ◌++◌, append_assoc, flat_map, map, refl, sym, ap, ◌∙◌}
use mathlib.Core.Logic.{inl, inr}
use Rattle.std.proofs.lemmas.List.{append-nil}
use Rattle.std.specs.Cmp.{nat_cmp_total}
use Rattle.odb_atoms.proofs.EachEntry.{get-entry}
use Rattle.odb_atoms.proofs.Lists.{Member}
use Rattle.odb_atoms.specs.FinMap.{entries_of}
use Rattle.odb_chain.specs.Chains.{Chains, Mark}
use Rattle.odb_chain.specs.Marks.{AreAllMarks}
use Rattle.odb_sessions.specs.Marked.{MarkedSession, Sessions, marks_of}
use Rattle.odb_sessions.specs.Tied.{AreLive, IsTied, all_marks, entry_marks, total, uses}
use Rattle.odb_sessions.proofs.Adds.{live_joined}
use Rattle.odb_sessions.proofs.Releases.{uses-++}

abbrev pub seen : List (Bor Mark) → List Mark
seen ms = map (λ m. m.now) ms

module _ {X : Type 0} (f : X → List Mark) where
  -- with those of the rest they are those of all
  abbrev pub Lends : List (Bor Mark) → List X → List (Bor Mark) → List X → Type 0
  Lends initial all marks rest = seen marks ++ flat_map f rest ≡ seen initial ++ flat_map f all

  pub lends_on : (initial marks new : List (Bor Mark)) (all rest : List X) (x : X) → Lends initial all marks (x ∷ rest) → seen new ≡ seen marks ++ f x → Lends initial all new rest
  lends_on initial marks new all rest x h e = ap (λ ms. ms ++ flat_map f rest) e ∙ append_assoc (seen marks) (f x) (flat_map f rest) ∙ h

  pub lends_all : (initial marks : List (Bor Mark)) (all rest : List X) → rest ≡ [] → Lends initial all marks rest → seen marks ≡ seen initial ++ flat_map f all
  lends_all initial marks all rest none h = sym (append-nil (seen marks)) ∙ ap (λ xs. seen marks ++ flat_map f xs) (sym none) ∙ h

-- ---- those of all sessions

all_used : (t p : ℕ) (es : List (ℕ × MarkedSession)) → uses t p (flat_map entry_marks es) ≡ total (λ x. uses t p (marks_of x)) es
all_used t p [] = refl
all_used t p (e ∷ es) = uses-++ t p (marks_of e.1) (flat_map entry_marks es) ∙ ap (λ n. uses t p (marks_of e.1) + n) (all_used t p es)

all_live : (k : Chains) (es : List (ℕ × MarkedSession)) → ((e : ℕ × MarkedSession) → Member e es → AreLive k (marks_of e.1)) → AreLive k (flat_map entry_marks es)
all_live k [] h = tt
all_live k (e ∷ es) h = live_joined k (marks_of e.1) (flat_map entry_marks es) (h e (inl refl)) (all_live k es (λ x there. h x (inr there)))

pub are_all_marks : (k : Chains) (m : Sessions) → IsTied k m → AreAllMarks k (all_marks m)
are_all_marks k m h = (
  all_live k (entries_of m) (λ e there. h.2 e.0 e.1 (get-entry nat_cmp_total m e there)),
  λ t p. all_used t p (entries_of m) ∙ sym (h.1 t p),
)
