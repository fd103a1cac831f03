use Rattle.std.proofs.Common.{rules, ◌≡◌, ℕ, List, true, ◌∷◌, [], Option, Some, None, IsSome, option_copied, option_map, OnOk, OnErr, refl, subst, sym, ap, ◌∙◌}
use Rattle.std.proofs.lemmas.Result.{on_ok_weaker}
use Rattle.std.specs.Ordering.{eq_by_cmp}
use Rattle.indexmap.specs.IndexMap.{Updates, get_by}
use Rattle.odb_atoms.specs.FinMap as finite
use Rattle.odb_atoms.specs.Row.{Row}
use Rattle.odb_atoms.specs.Uuid.{uuid_cmp}
use Rattle.odb_tables.specs.Represented.Keyed.{keyed}
use Rattle.odb_tables.specs.Represented.Overlay.{row_of}
use Rattle.odb_tables.proofs.KeyedMaps.{inserted}
use Rattle.odb_chain.specs.OldRows.{History, Rows, is_reached}
use Rattle.odb_chain.specs.Represented.Log.{AreRecorded, OldRows, Recorded, is_recorded}
use Rattle.odb_chain.specs.Represented.MarkedVersions.{AsBefore}
use Rattle.odb_chain.proofs.Histories.{reached_pushed}
use Rattle.odb_chain.proofs.Keeps.{as_it_is, got, inserted_here, only_at, push_else, push_here, put_back, reached_else, start_else, start_here}
use Rattle.odb_chain.proofs.Recorded.{still_noted}
use Rattle.odb_chain.proofs.old_rows.OldRows.record.Goals as goal

abbrev Old : Type 0
Old = ℕ × Option Row

-- ---- nothing was kept of the row

pub returns-in_err-old-clause-rows : goal.returns-in_err-old-clause-rows
returns-in_err-old-clause-rows c = λ t at u.
    let r = finite.get t u in
    let o = finite.get c.args.self.now.rows u in
    subst (λ (x : Rows). AsBefore c.args.newest c.args.live.now r o (finite.get x u)) (sym (ap (keyed (λ (h : History). h)) c.get_mut.follows.holds-at-none ∙ (ap (λ (y : OldRows). y.rows) c.self.view_is))) (as_it_is c.args.newest c.args.live.now r o)

pub returns-in_default-clause-ok : goal.returns-in_default-clause-ok
returns-in_default-clause-ok c =
    let m : Rows = c.args.self.now.rows in
    let k = c.args.key in
    let n = c.args.newest in
    let old : Old = c.in_ok-old.old in
    let r : Option Row = row_of (option_copied c.args.now) in
    let is : old ≡ (n, r) = search rules in
    let new : Rows = keyed (λ (h : History). h) c.start.new.rows in
    let made : OnOk c.start.result (new ≡ finite.insert m k (old ∷ [])) = subst (λ (x : Rows). OnOk c.start.result (new ≡ finite.insert x k (old ∷ []))) (ap (keyed (λ (h : History). h)) c.get_mut.follows.holds-at-none ∙ (ap (λ (y : OldRows). y.rows) c.self.view_is)) c.start.ensures.ok in
    on_ok_weaker c.start.result (λ e. ap (λ (r : Rows). is_reached n (finite.get r k)) e ∙ ap (is_reached n) (inserted_here m k (old ∷ [])) ∙ ap (λ (x : Old). is_reached n (Some (x ∷ []))) is ∙ reached_pushed n r []) made

pub returns-in_default-clause-rows : goal.returns-in_default-clause-rows
returns-in_default-clause-rows c = λ t at.
    let m : Rows = c.args.self.now.rows in
    let k = c.args.key in
    let n = c.args.newest in
    let r : Option Row = row_of (option_copied c.args.now) in
    let ls = c.args.live.now in
    let old : Old = c.in_ok-old.old in
    let is : old ≡ (n, r) = search rules in
    let none : get_by (eq_by_cmp uuid_cmp k) c.self.inside.rows ≡ None = search rules in
    let had : finite.get m k ≡ None = got c.self.inside.rows m k (ap (λ (y : OldRows). y.rows) c.self.view_is) ∙ ap (option_map (λ (h : History). h)) none in
    let new : Rows = keyed (λ (h : History). h) c.start.new.rows in
    let same : keyed (λ (h : History). h) c.get_mut.follows.lender-at-none ≡ m = ap (keyed (λ (h : History). h)) c.get_mut.follows.holds-at-none ∙ (ap (λ (y : OldRows). y.rows) c.self.view_is) in
    let made : OnOk c.start.result (new ≡ finite.insert m k (old ∷ [])) = subst (λ (x : Rows). OnOk c.start.result (new ≡ finite.insert x k (old ∷ []))) same c.start.ensures.ok in
    let kept : OnErr c.start.result (new ≡ m) = subst (λ (x : Rows). OnErr c.start.result (new ≡ x)) same c.start.ensures.err in
    only_at n ls t m new k r at (start_here n ls r m new k old c.start.result is had made kept) (start_else n ls r m new k old c.start.result is had made kept)

pub returns-in_default-clause-reached : goal.returns-in_default-clause-reached
returns-in_default-clause-reached c =
    let m : Rows = c.args.self.now.rows in
    let k = c.args.key in
    let n = c.args.newest in
    let r : Option Row = row_of (option_copied c.args.now) in
    let ls = c.args.live.now in
    let old : Old = c.in_ok-old.old in
    let is : old ≡ (n, r) = search rules in
    let none : get_by (eq_by_cmp uuid_cmp k) c.self.inside.rows ≡ None = search rules in
    let had : finite.get m k ≡ None = got c.self.inside.rows m k (ap (λ (y : OldRows). y.rows) c.self.view_is) ∙ ap (option_map (λ (h : History). h)) none in
    let new : Rows = keyed (λ (h : History). h) c.start.new.rows in
    let same : keyed (λ (h : History). h) c.get_mut.follows.lender-at-none ≡ m = ap (keyed (λ (h : History). h)) c.get_mut.follows.holds-at-none ∙ (ap (λ (y : OldRows). y.rows) c.self.view_is) in
    let made : OnOk c.start.result (new ≡ finite.insert m k (old ∷ [])) = subst (λ (x : Rows). OnOk c.start.result (new ≡ finite.insert x k (old ∷ []))) same c.start.ensures.ok in
    let kept : OnErr c.start.result (new ≡ m) = subst (λ (x : Rows). OnErr c.start.result (new ≡ x)) same c.start.ensures.err in
    reached_else n m new k (ap (is_reached n) had) (start_else n ls r m new k old c.start.result is had made kept)

pub invariant_of-self-in_default : goal.invariant_of-self-in_default
invariant_of-self-in_default c =
    let m : Rows = c.args.self.now.rows in
    let k = c.args.key in
    let n = c.args.newest in
    let r : Option Row = row_of (option_copied c.args.now) in
    let ls = c.args.live.now in
    let old : Old = c.in_ok-old.old in
    let is : old ≡ (n, r) = search rules in
    let none : get_by (eq_by_cmp uuid_cmp k) c.self.inside.rows ≡ None = search rules in
    let had : finite.get m k ≡ None = got c.self.inside.rows m k (ap (λ (y : OldRows). y.rows) c.self.view_is) ∙ ap (option_map (λ (h : History). h)) none in
    let rows : Rows = keyed (λ (h : History). h) c.self.inside.rows in
    let new : Rows = keyed (λ (h : History). h) c.start.new.rows in
    let same : keyed (λ (h : History). h) c.get_mut.follows.lender-at-none ≡ m = ap (keyed (λ (h : History). h)) c.get_mut.follows.holds-at-none ∙ (ap (λ (y : OldRows). y.rows) c.self.view_is) in
    let made : OnOk c.start.result (new ≡ finite.insert m k (old ∷ [])) = subst (λ (x : Rows). OnOk c.start.result (new ≡ finite.insert x k (old ∷ []))) same c.start.ensures.ok in
    let kept : OnErr c.start.result (new ≡ m) = subst (λ (x : Rows). OnErr c.start.result (new ≡ x)) same c.start.ensures.err in
    let ns : List Recorded = c.recorded.new.log in
    let tidied : AreRecorded rows c.tidy.new.self = c.tidy.ensures c.self.invariant in
    let before : AreRecorded m ns = subst (λ (x : Rows). AreRecorded x ns) (ap (λ (y : OldRows). y.rows) c.self.view_is) (λ p u e. c.recorded.ensures.still p u (tidied p u e)) in
    let here : is_recorded n k ns ≡ true = search rules in
    still_noted m new ns n k before here (start_else n ls r m new k old c.start.result is had made kept) (start_here n ls r m new k old c.start.result is had made kept).2

-- ---- the newest version is reached, or memory is refused: the history is put back as it was

pub returns-then-reaches-clause-ok : goal.returns-then-reaches-clause-ok
returns-then-reaches-clause-ok c =
    let k = c.args.key in
    let rows = c.self.inside.rows in
    let h : History = c.in-Some.history.now in
    let there : get_by (eq_by_cmp uuid_cmp k) rows ≡ Some h = search rules in
    let had : finite.get c.args.self.now.rows k ≡ Some h = got rows c.args.self.now.rows k (ap (λ (y : OldRows). y.rows) c.self.view_is) ∙ ap (option_map (λ (x : History). x)) there in
    let changed : Updates (eq_by_cmp uuid_cmp) rows (c.get_mut.follows.lender h) k (Some h) = (c.get_mut.follows.holds h).3 (subst IsSome (sym there) refl) in
    let back : keyed (λ (x : History). x) (c.get_mut.follows.lender h) ≡ c.args.self.now.rows = inserted (λ (x : History). x) rows (c.get_mut.follows.lender h) k h changed ∙ ap (λ (x : Rows). finite.insert x k h) (ap (λ (y : OldRows). y.rows) c.self.view_is) ∙ put_back c.args.self.now.rows k h had in
    ap (λ (x : Rows). is_reached c.args.newest (finite.get x k)) back ∙ ap (is_reached c.args.newest) had ∙ sym c.reaches.ensures ∙ c.if-reaches.true

pub returns-then-reaches-clause-rows : goal.returns-then-reaches-clause-rows
returns-then-reaches-clause-rows c = λ t at u.
    let k = c.args.key in
    let rows = c.self.inside.rows in
    let h : History = c.in-Some.history.now in
    let there : get_by (eq_by_cmp uuid_cmp k) rows ≡ Some h = search rules in
    let had : finite.get c.args.self.now.rows k ≡ Some h = got rows c.args.self.now.rows k (ap (λ (y : OldRows). y.rows) c.self.view_is) ∙ ap (option_map (λ (x : History). x)) there in
    let changed : Updates (eq_by_cmp uuid_cmp) rows (c.get_mut.follows.lender h) k (Some h) = (c.get_mut.follows.holds h).3 (subst IsSome (sym there) refl) in
    let back : keyed (λ (x : History). x) (c.get_mut.follows.lender h) ≡ c.args.self.now.rows = inserted (λ (x : History). x) rows (c.get_mut.follows.lender h) k h changed ∙ ap (λ (x : Rows). finite.insert x k h) (ap (λ (y : OldRows). y.rows) c.self.view_is) ∙ put_back c.args.self.now.rows k h had in
    subst (λ (x : Rows). AsBefore c.args.newest c.args.live.now (finite.get t u) (finite.get c.args.self.now.rows u) (finite.get x u)) (sym back) (as_it_is c.args.newest c.args.live.now (finite.get t u) (finite.get c.args.self.now.rows u))

pub returns-then-reaches-clause-reached : goal.returns-then-reaches-clause-reached
returns-then-reaches-clause-reached c = λ u was.
    let k = c.args.key in
    let rows = c.self.inside.rows in
    let h : History = c.in-Some.history.now in
    let there : get_by (eq_by_cmp uuid_cmp k) rows ≡ Some h = search rules in
    let had : finite.get c.args.self.now.rows k ≡ Some h = got rows c.args.self.now.rows k (ap (λ (y : OldRows). y.rows) c.self.view_is) ∙ ap (option_map (λ (x : History). x)) there in
    let changed : Updates (eq_by_cmp uuid_cmp) rows (c.get_mut.follows.lender h) k (Some h) = (c.get_mut.follows.holds h).3 (subst IsSome (sym there) refl) in
    let back : keyed (λ (x : History). x) (c.get_mut.follows.lender h) ≡ c.args.self.now.rows = inserted (λ (x : History). x) rows (c.get_mut.follows.lender h) k h changed ∙ ap (λ (x : Rows). finite.insert x k h) (ap (λ (y : OldRows). y.rows) c.self.view_is) ∙ put_back c.args.self.now.rows k h had in
    ap (λ (x : Rows). is_reached c.args.newest (finite.get x u)) back ∙ was

pub invariant_of-self-then-reaches : goal.invariant_of-self-then-reaches
invariant_of-self-then-reaches c =
    let k = c.args.key in
    let rows = c.self.inside.rows in
    let h : History = c.in-Some.history.now in
    let there : get_by (eq_by_cmp uuid_cmp k) rows ≡ Some h = search rules in
    let had : finite.get c.args.self.now.rows k ≡ Some h = got rows c.args.self.now.rows k (ap (λ (y : OldRows). y.rows) c.self.view_is) ∙ ap (option_map (λ (x : History). x)) there in
    let changed : Updates (eq_by_cmp uuid_cmp) rows (c.get_mut.follows.lender h) k (Some h) = (c.get_mut.follows.holds h).3 (subst IsSome (sym there) refl) in
    let back : keyed (λ (x : History). x) (c.get_mut.follows.lender h) ≡ c.args.self.now.rows = inserted (λ (x : History). x) rows (c.get_mut.follows.lender h) k h changed ∙ ap (λ (x : Rows). finite.insert x k h) (ap (λ (y : OldRows). y.rows) c.self.view_is) ∙ put_back c.args.self.now.rows k h had in
    subst (λ (x : Rows). AreRecorded x c.tidy.new.self) ((ap (λ (y : OldRows). y.rows) c.self.view_is) ∙ sym back) (c.tidy.ensures c.self.invariant)

pub returns-in_err-old-2-clause-rows : goal.returns-in_err-old-2-clause-rows
returns-in_err-old-2-clause-rows c = λ t at u.
    let k = c.args.key in
    let rows = c.self.inside.rows in
    let h : History = c.in-Some.history.now in
    let there : get_by (eq_by_cmp uuid_cmp k) rows ≡ Some h = search rules in
    let had : finite.get c.args.self.now.rows k ≡ Some h = got rows c.args.self.now.rows k (ap (λ (y : OldRows). y.rows) c.self.view_is) ∙ ap (option_map (λ (x : History). x)) there in
    let changed : Updates (eq_by_cmp uuid_cmp) rows (c.get_mut.follows.lender h) k (Some h) = (c.get_mut.follows.holds h).3 (subst IsSome (sym there) refl) in
    let back : keyed (λ (x : History). x) (c.get_mut.follows.lender h) ≡ c.args.self.now.rows = inserted (λ (x : History). x) rows (c.get_mut.follows.lender h) k h changed ∙ ap (λ (x : Rows). finite.insert x k h) (ap (λ (y : OldRows). y.rows) c.self.view_is) ∙ put_back c.args.self.now.rows k h had in
    subst (λ (x : Rows). AsBefore c.args.newest c.args.live.now (finite.get t u) (finite.get c.args.self.now.rows u) (finite.get x u)) (sym back) (as_it_is c.args.newest c.args.live.now (finite.get t u) (finite.get c.args.self.now.rows u))

pub returns-in_err-old-2-clause-reached : goal.returns-in_err-old-2-clause-reached
returns-in_err-old-2-clause-reached c = λ u was.
    let k = c.args.key in
    let rows = c.self.inside.rows in
    let h : History = c.in-Some.history.now in
    let there : get_by (eq_by_cmp uuid_cmp k) rows ≡ Some h = search rules in
    let had : finite.get c.args.self.now.rows k ≡ Some h = got rows c.args.self.now.rows k (ap (λ (y : OldRows). y.rows) c.self.view_is) ∙ ap (option_map (λ (x : History). x)) there in
    let changed : Updates (eq_by_cmp uuid_cmp) rows (c.get_mut.follows.lender h) k (Some h) = (c.get_mut.follows.holds h).3 (subst IsSome (sym there) refl) in
    let back : keyed (λ (x : History). x) (c.get_mut.follows.lender h) ≡ c.args.self.now.rows = inserted (λ (x : History). x) rows (c.get_mut.follows.lender h) k h changed ∙ ap (λ (x : Rows). finite.insert x k h) (ap (λ (y : OldRows). y.rows) c.self.view_is) ∙ put_back c.args.self.now.rows k h had in
    ap (λ (x : Rows). is_reached c.args.newest (finite.get x u)) back ∙ was

pub invariant_of-self-in_err-old-2 : goal.invariant_of-self-in_err-old-2
invariant_of-self-in_err-old-2 c =
    let k = c.args.key in
    let rows = c.self.inside.rows in
    let h : History = c.in-Some.history.now in
    let there : get_by (eq_by_cmp uuid_cmp k) rows ≡ Some h = search rules in
    let had : finite.get c.args.self.now.rows k ≡ Some h = got rows c.args.self.now.rows k (ap (λ (y : OldRows). y.rows) c.self.view_is) ∙ ap (option_map (λ (x : History). x)) there in
    let changed : Updates (eq_by_cmp uuid_cmp) rows (c.get_mut.follows.lender h) k (Some h) = (c.get_mut.follows.holds h).3 (subst IsSome (sym there) refl) in
    let back : keyed (λ (x : History). x) (c.get_mut.follows.lender h) ≡ c.args.self.now.rows = inserted (λ (x : History). x) rows (c.get_mut.follows.lender h) k h changed ∙ ap (λ (x : Rows). finite.insert x k h) (ap (λ (y : OldRows). y.rows) c.self.view_is) ∙ put_back c.args.self.now.rows k h had in
    subst (λ (x : Rows). AreRecorded x c.recorded-2.new.log) ((ap (λ (y : OldRows). y.rows) c.self.view_is) ∙ sym back) (λ p u e. c.recorded-2.ensures.still p u (c.tidy.ensures c.self.invariant p u e))

-- ---- an old row more

pub returns-clause-ok : goal.returns-clause-ok
returns-clause-ok c =
    let m : Rows = c.args.self.now.rows in
    let k = c.args.key in
    let n = c.args.newest in
    let r : Option Row = row_of (option_copied c.args.now) in
    let rows = c.self.inside.rows in
    let old : Old = c.in_ok-old-2.old in
    let is : old ≡ (n, r) = search rules in
    let w : History = c.push.new.self in
    let there : get_by (eq_by_cmp uuid_cmp k) rows ≡ Some c.in-Some.history.now = search rules in
    let had : finite.get m k ≡ Some c.in-Some.history.now = got rows m k (ap (λ (y : OldRows). y.rows) c.self.view_is) ∙ ap (option_map (λ (h : History). h)) there in
    let changed : Updates (eq_by_cmp uuid_cmp) rows (c.get_mut.follows.lender w) k (Some w) = (c.get_mut.follows.holds w).3 (subst IsSome (sym there) refl) in
    let new : Rows = keyed (λ (h : History). h) (c.get_mut.follows.lender w) in
    let made : new ≡ finite.insert m k w = inserted (λ (h : History). h) rows (c.get_mut.follows.lender w) k w changed ∙ ap (λ (x : Rows). finite.insert x k w) (ap (λ (y : OldRows). y.rows) c.self.view_is) in
    on_ok_weaker c.push.result (λ e. ap (λ (x : Rows). is_reached n (finite.get x k)) made ∙ ap (is_reached n) (inserted_here m k w) ∙ ap (λ (x : Old). is_reached x.0 (Some w)) (sym is) ∙ e) c.push.ensures.ok

pub returns-clause-rows : goal.returns-clause-rows
returns-clause-rows c = λ t at.
    let m : Rows = c.args.self.now.rows in
    let k = c.args.key in
    let n = c.args.newest in
    let r : Option Row = row_of (option_copied c.args.now) in
    let rows = c.self.inside.rows in
    let old : Old = c.in_ok-old-2.old in
    let is : old ≡ (n, r) = search rules in
    let w : History = c.push.new.self in
    let there : get_by (eq_by_cmp uuid_cmp k) rows ≡ Some c.in-Some.history.now = search rules in
    let had : finite.get m k ≡ Some c.in-Some.history.now = got rows m k (ap (λ (y : OldRows). y.rows) c.self.view_is) ∙ ap (option_map (λ (h : History). h)) there in
    let changed : Updates (eq_by_cmp uuid_cmp) rows (c.get_mut.follows.lender w) k (Some w) = (c.get_mut.follows.holds w).3 (subst IsSome (sym there) refl) in
    let new : Rows = keyed (λ (h : History). h) (c.get_mut.follows.lender w) in
    let made : new ≡ finite.insert m k w = inserted (λ (h : History). h) rows (c.get_mut.follows.lender w) k w changed ∙ ap (λ (x : Rows). finite.insert x k w) (ap (λ (y : OldRows). y.rows) c.self.view_is) in
    only_at n c.args.live.now t m new k r at (push_here n c.args.live.now r m new k old c.in-Some.history.now w is had made (c.push.ensures.same, c.push.ensures.past, c.push.ensures.labels)) (push_else n c.args.live.now r m new k old c.in-Some.history.now w is had made)

pub returns-clause-reached : goal.returns-clause-reached
returns-clause-reached c =
    let m : Rows = c.args.self.now.rows in
    let k = c.args.key in
    let n = c.args.newest in
    let r : Option Row = row_of (option_copied c.args.now) in
    let rows = c.self.inside.rows in
    let old : Old = c.in_ok-old-2.old in
    let is : old ≡ (n, r) = search rules in
    let w : History = c.push.new.self in
    let there : get_by (eq_by_cmp uuid_cmp k) rows ≡ Some c.in-Some.history.now = search rules in
    let had : finite.get m k ≡ Some c.in-Some.history.now = got rows m k (ap (λ (y : OldRows). y.rows) c.self.view_is) ∙ ap (option_map (λ (h : History). h)) there in
    let changed : Updates (eq_by_cmp uuid_cmp) rows (c.get_mut.follows.lender w) k (Some w) = (c.get_mut.follows.holds w).3 (subst IsSome (sym there) refl) in
    let new : Rows = keyed (λ (h : History). h) (c.get_mut.follows.lender w) in
    let made : new ≡ finite.insert m k w = inserted (λ (h : History). h) rows (c.get_mut.follows.lender w) k w changed ∙ ap (λ (x : Rows). finite.insert x k w) (ap (λ (y : OldRows). y.rows) c.self.view_is) in
    reached_else n m new k (ap (is_reached n) had ∙ sym c.reaches.ensures ∙ c.if-reaches.false) (push_else n c.args.live.now r m new k old c.in-Some.history.now w is had made)

pub invariant_of-self-2 : goal.invariant_of-self-2
invariant_of-self-2 c =
    let m : Rows = c.args.self.now.rows in
    let k = c.args.key in
    let n = c.args.newest in
    let r : Option Row = row_of (option_copied c.args.now) in
    let rows = c.self.inside.rows in
    let old : Old = c.in_ok-old-2.old in
    let is : old ≡ (n, r) = search rules in
    let w : History = c.push.new.self in
    let there : get_by (eq_by_cmp uuid_cmp k) rows ≡ Some c.in-Some.history.now = search rules in
    let had : finite.get m k ≡ Some c.in-Some.history.now = got rows m k (ap (λ (y : OldRows). y.rows) c.self.view_is) ∙ ap (option_map (λ (h : History). h)) there in
    let changed : Updates (eq_by_cmp uuid_cmp) rows (c.get_mut.follows.lender w) k (Some w) = (c.get_mut.follows.holds w).3 (subst IsSome (sym there) refl) in
    let new : Rows = keyed (λ (h : History). h) (c.get_mut.follows.lender w) in
    let made : new ≡ finite.insert m k w = inserted (λ (h : History). h) rows (c.get_mut.follows.lender w) k w changed ∙ ap (λ (x : Rows). finite.insert x k w) (ap (λ (y : OldRows). y.rows) c.self.view_is) in
    let ns : List Recorded = c.recorded-2.new.log in
    let before : AreRecorded m ns = subst (λ (x : Rows). AreRecorded x ns) (ap (λ (y : OldRows). y.rows) c.self.view_is) (λ p u e. c.recorded-2.ensures.still p u (c.tidy.ensures c.self.invariant p u e)) in
    let here : is_recorded n k ns ≡ true = search rules in
    still_noted m new ns n k before here (push_else n c.args.live.now r m new k old c.in-Some.history.now w is had made) (push_here n c.args.live.now r m new k old c.in-Some.history.now w is had made (c.push.ensures.same, c.push.ensures.past, c.push.ensures.labels)).2
