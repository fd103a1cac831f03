use Rattle.std.proofs.Common.{◌≡◌, ℕ, Bool, List, length, map, false, is_err, subst, sym, ap, ◌∙◌}
use Rattle.odb_tables.specs.Change.{Changes, all_changed_by}
use Rattle.odb_tables.specs.Database.{Db, table_at}
use Rattle.odb_tables.specs.Installing.{IsChangeOf}
use Rattle.odb_chain.specs.Chains.{Chains, IsNow, absorbed}
use Rattle.odb_chain.specs.Represented.Chain.{AreChainsOf, Chain, IsReadyFor, IsStepped, StandsAsBefore, chain_at, change_at, is_moved, moved_at, shown}
use Rattle.odb_chain.proofs.Absorbed.{absorbed_chains, absorbed_shown, moved_shown, ready_chains, ready_shown}
use Rattle.odb_chain.proofs.Keeps.{given_ok, on_any_err}
use Rattle.odb_chain.proofs.Shown.{is_now}
use Rattle.odb_chain.proofs.chains.Chains.absorb.Goals as goal

pub returns-then-is_err-clause-err : goal.returns-then-is_err-clause-err
returns-then-is_err-clause-err c =
    let db : Db = c.self.inside.db in
    let old : List Chain = c.self.inside.chains.items in
    let mid : List Chain = c.prepare.new.chains.items in
    let long : length mid ≡ length old = c.prepare.ensures.same_length in
    let stands : (t : ℕ) → StandsAsBefore (table_at db t) (chain_at old t) (chain_at mid t) = c.prepare.ensures.stands db (subst (λ (es : List Changes). IsChangeOf db es) (sym c.tables.ensures) (subst (λ (k : Chains). IsChangeOf k.db c.args.change) (sym c.self.view_is) c.requires)) in
    ready_shown db old mid c.self.invariant long stands ∙ c.self.view_is

pub returns-then-is_err-clause-now : goal.returns-then-is_err-clause-now
returns-then-is_err-clause-now c =
    let db : Db = c.self.inside.db in
    let old : List Chain = c.self.inside.chains.items in
    let mid : List Chain = c.prepare.new.chains.items in
    let long : length mid ≡ length old = c.prepare.ensures.same_length in
    let stands : (t : ℕ) → StandsAsBefore (table_at db t) (chain_at old t) (chain_at mid t) = c.prepare.ensures.stands db (subst (λ (es : List Changes). IsChangeOf db es) (sym c.tables.ensures) (subst (λ (k : Chains). IsChangeOf k.db c.args.change) (sym c.self.view_is) c.requires)) in
    is_now db mid (ready_chains db old mid c.self.invariant long stands)

pub returns-in_default-clause-err : goal.returns-in_default-clause-err
returns-in_default-clause-err c =
    let db : Db = c.self.inside.db in
    let old : List Chain = c.self.inside.chains.items in
    let mid : List Chain = c.prepare.new.chains.items in
    let long : length mid ≡ length old = c.prepare.ensures.same_length in
    let stands : (t : ℕ) → StandsAsBefore (table_at db t) (chain_at old t) (chain_at mid t) = c.prepare.ensures.stands db (subst (λ (es : List Changes). IsChangeOf db es) (sym c.tables.ensures) (subst (λ (k : Chains). IsChangeOf k.db c.args.change) (sym c.self.view_is) c.requires)) in
    ready_shown db old mid c.self.invariant long stands ∙ c.self.view_is

pub returns-in_default-clause-now : goal.returns-in_default-clause-now
returns-in_default-clause-now c =
    let db : Db = c.self.inside.db in
    let old : List Chain = c.self.inside.chains.items in
    let mid : List Chain = c.prepare.new.chains.items in
    let long : length mid ≡ length old = c.prepare.ensures.same_length in
    let stands : (t : ℕ) → StandsAsBefore (table_at db t) (chain_at old t) (chain_at mid t) = c.prepare.ensures.stands db (subst (λ (es : List Changes). IsChangeOf db es) (sym c.tables.ensures) (subst (λ (k : Chains). IsChangeOf k.db c.args.change) (sym c.self.view_is) c.requires)) in
    is_now db mid (ready_chains db old mid c.self.invariant long stands)

pub returns-in_err-install-clause-err : goal.returns-in_err-install-clause-err
returns-in_err-install-clause-err c =
    let db : Db = c.self.inside.db in
    let old : List Chain = c.self.inside.chains.items in
    let mid : List Chain = c.prepare.new.chains.items in
    let long : length mid ≡ length old = c.prepare.ensures.same_length in
    let stands : (t : ℕ) → StandsAsBefore (table_at db t) (chain_at old t) (chain_at mid t) = c.prepare.ensures.stands db (subst (λ (es : List Changes). IsChangeOf db es) (sym c.tables.ensures) (subst (λ (k : Chains). IsChangeOf k.db c.args.change) (sym c.self.view_is) c.requires)) in
    let same : c.install.new.self ≡ db = c.in_err-install.ensures.err in
    on_any_err c.from_residual.result (ap (λ (d : Db). shown d mid) same ∙ ready_shown db old mid c.self.invariant long stands ∙ c.self.view_is)

pub returns-in_err-install-clause-now : goal.returns-in_err-install-clause-now
returns-in_err-install-clause-now c =
    let db : Db = c.self.inside.db in
    let old : List Chain = c.self.inside.chains.items in
    let mid : List Chain = c.prepare.new.chains.items in
    let long : length mid ≡ length old = c.prepare.ensures.same_length in
    let stands : (t : ℕ) → StandsAsBefore (table_at db t) (chain_at old t) (chain_at mid t) = c.prepare.ensures.stands db (subst (λ (es : List Changes). IsChangeOf db es) (sym c.tables.ensures) (subst (λ (k : Chains). IsChangeOf k.db c.args.change) (sym c.self.view_is) c.requires)) in
    let same : c.install.new.self ≡ db = c.in_err-install.ensures.err in
    subst (λ (d : Db). IsNow (shown d mid)) (sym same) (is_now db mid (ready_chains db old mid c.self.invariant long stands))

pub step-requires-clause-ready : goal.step-requires-clause-ready
step-requires-clause-ready c = λ t moved.
    let db : Db = c.self.inside.db in
    let old : List Chain = c.self.inside.chains.items in
    let mid : List Chain = c.prepare.new.chains.items in
    let long : length mid ≡ length old = c.prepare.ensures.same_length in
    let stands : (t : ℕ) → StandsAsBefore (table_at db t) (chain_at old t) (chain_at mid t) = c.prepare.ensures.stands db (subst (λ (es : List Changes). IsChangeOf db es) (sym c.tables.ensures) (subst (λ (k : Chains). IsChangeOf k.db c.args.change) (sym c.self.view_is) c.requires)) in
    let ds : List Changes = c.args.change in
    let passed : is_err c.prepare.result ≡ false = sym c.is_err.ensures.value ∙ c.if-is_err.false in
    let ready : (t : ℕ) → IsReadyFor (change_at ds t) (chain_at mid t) = subst (λ (es : List Changes). (t : ℕ) → IsReadyFor (change_at es t) (chain_at mid t)) c.tables.ensures (given_ok c.prepare.result passed c.prepare.ensures.ok) in
    let flags : c.as_slice.result.now ≡ map is_moved ds = c.as_slice.ensures.value ∙ c.in-Ok.ensures ∙ ap (map is_moved) c.tables-2.ensures in
    (ready t).0 (sym (ap (λ (ms : List Bool). moved_at ms t) flags ∙ moved_shown ds t) ∙ moved)

pub invariant_of-self-2 : goal.invariant_of-self-2
invariant_of-self-2 c =
    let db : Db = c.self.inside.db in
    let old : List Chain = c.self.inside.chains.items in
    let mid : List Chain = c.prepare.new.chains.items in
    let long : length mid ≡ length old = c.prepare.ensures.same_length in
    let stands : (t : ℕ) → StandsAsBefore (table_at db t) (chain_at old t) (chain_at mid t) = c.prepare.ensures.stands db (subst (λ (es : List Changes). IsChangeOf db es) (sym c.tables.ensures) (subst (λ (k : Chains). IsChangeOf k.db c.args.change) (sym c.self.view_is) c.requires)) in
    let ds : List Changes = c.args.change in
    let passed : is_err c.prepare.result ≡ false = sym c.is_err.ensures.value ∙ c.if-is_err.false in
    let ready : (t : ℕ) → IsReadyFor (change_at ds t) (chain_at mid t) = subst (λ (es : List Changes). (t : ℕ) → IsReadyFor (change_at es t) (chain_at mid t)) c.tables.ensures (given_ok c.prepare.result passed c.prepare.ensures.ok) in
    let flags : c.as_slice.result.now ≡ map is_moved ds = c.as_slice.ensures.value ∙ c.in-Ok.ensures ∙ ap (map is_moved) c.tables-2.ensures in
    let new : List Chain = c.step.new.chains.items in
    let as_many : length ds ≡ length db = subst (λ (k : Chains). length ds ≡ length k.db) (sym c.self.view_is) c.requires.0 in
    let stepped : (t : ℕ) → IsStepped (moved_at (map is_moved ds) t) (chain_at mid t) (chain_at new t) = subst (λ (ms : List Bool). (t : ℕ) → IsStepped (moved_at ms t) (chain_at mid t) (chain_at new t)) flags c.step.ensures.stepped in
    let made : c.install.new.self ≡ all_changed_by db ds = c.in_ok-install.ensures.ok in
    subst (λ (d : Db). AreChainsOf d new) (sym made) (absorbed_chains db old mid c.self.invariant long stands ds new as_many c.step.ensures.same_length ready stepped)

pub returns-clause-ok : goal.returns-clause-ok
returns-clause-ok c =
    let db : Db = c.self.inside.db in
    let old : List Chain = c.self.inside.chains.items in
    let mid : List Chain = c.prepare.new.chains.items in
    let long : length mid ≡ length old = c.prepare.ensures.same_length in
    let stands : (t : ℕ) → StandsAsBefore (table_at db t) (chain_at old t) (chain_at mid t) = c.prepare.ensures.stands db (subst (λ (es : List Changes). IsChangeOf db es) (sym c.tables.ensures) (subst (λ (k : Chains). IsChangeOf k.db c.args.change) (sym c.self.view_is) c.requires)) in
    let ds : List Changes = c.args.change in
    let passed : is_err c.prepare.result ≡ false = sym c.is_err.ensures.value ∙ c.if-is_err.false in
    let ready : (t : ℕ) → IsReadyFor (change_at ds t) (chain_at mid t) = subst (λ (es : List Changes). (t : ℕ) → IsReadyFor (change_at es t) (chain_at mid t)) c.tables.ensures (given_ok c.prepare.result passed c.prepare.ensures.ok) in
    let flags : c.as_slice.result.now ≡ map is_moved ds = c.as_slice.ensures.value ∙ c.in-Ok.ensures ∙ ap (map is_moved) c.tables-2.ensures in
    let new : List Chain = c.step.new.chains.items in
    let as_many : length ds ≡ length db = subst (λ (k : Chains). length ds ≡ length k.db) (sym c.self.view_is) c.requires.0 in
    let stepped : (t : ℕ) → IsStepped (moved_at (map is_moved ds) t) (chain_at mid t) (chain_at new t) = subst (λ (ms : List Bool). (t : ℕ) → IsStepped (moved_at ms t) (chain_at mid t) (chain_at new t)) flags c.step.ensures.stepped in
    let made : c.install.new.self ≡ all_changed_by db ds = c.in_ok-install.ensures.ok in
    ap (λ (d : Db). shown d new) made ∙ absorbed_shown db old mid c.self.invariant long stands ds new as_many c.step.ensures.same_length ready stepped ∙ ap (absorbed ds) c.self.view_is

pub returns-clause-now : goal.returns-clause-now
returns-clause-now c = is_now c.install.new.self c.step.new.chains.items (invariant_of-self-2 c)
