-- A session that is given a number: nothing changes that the machine sees.
use Rattle.std.proofs.Common.{◌≡◌, ℕ, Option, Some, None, refl, sym, ap, subst, ◌∙◌}
use Rattle.odb_atoms.specs.FinMap.{get}
use Rattle.odb_chain.specs.Chains.{Chains}
use Rattle.odb_sessions.specs.Marked.{MarkedSession, Sessions, all_seen, marks_of}
use Rattle.odb_sessions.specs.Posts.{at_number}
use Rattle.odb_sessions.specs.Tied.{IsTied, uses}
use Rattle.odb_sessions.specs.Watches.{IsWatchFor, with_watch}
use Rattle.odb_sessions.proofs.Posts.{at_open, at_shut, reinserted}
use Rattle.odb_sessions.proofs.Sums.{slot}
use Rattle.odb_sessions.proofs.Ties.{seen-insert, tied_put}

pub named_seen : (m : Sessions) (s n : ℕ) → all_seen (at_number (with_watch n) m s) ≡ all_seen m
named_seen m s n = by (get m s) refl
  where
    by : (o : Option MarkedSession) → get m s ≡ o → all_seen (at_number (with_watch n) m s) ≡ all_seen m
    by None is = ap all_seen (at_shut (with_watch n) m s is)
    by (Some x) is = ap all_seen (at_open (with_watch n) m s x is) ∙ seen-insert m s (with_watch n x) ∙ sym (seen-insert m s x) ∙ ap all_seen (reinserted m s x is)

pub named_tied : (k : Chains) (m : Sessions) (s n : ℕ) → IsWatchFor m s n → IsTied k m → IsTied k (at_number (with_watch n) m s)
named_tied k m s n for h = by (get m s) refl
  where
    by : (o : Option MarkedSession) → get m s ≡ o → IsTied k (at_number (with_watch n) m s)
    by None is = subst (IsTied k) (sym (at_shut (with_watch n) m s is)) h
    by (Some x) is =
        subst (IsTied k) (sym (at_open (with_watch n) m s x is))
        (tied_put k m s (with_watch n x) h (λ t p. sym (ap (slot (λ (y : MarkedSession). uses t p (marks_of y))) is)) (h.2 s x is) (for x is))
