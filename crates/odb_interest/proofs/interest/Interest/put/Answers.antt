use Rattle.std.proofs.Common.{rules, ◌≡◌, ◌<◌, ◌≤◌, get_or, length, slice_get, Some, None, refl, sym, ap, ◌∙◌}
use Rattle.std.proofs.lemmas.Option.{slice_get_past, slice_get_read}
use Rattle.std.specs.Arc.{arc_value}
use Rattle.odb_interest.specs.Keys.{Asked, Interests, asked_at}
use Rattle.odb_interest.specs.Represented.Lists.{with_filter}
use Rattle.odb_interest.proofs.Agreeing.{past_last}
use Rattle.odb_interest.proofs.Asking.{asks_kept}
use Rattle.odb_interest.proofs.interest.Interest.put.Goals as goal

pub returns-in_default-clause-ok : goal.returns-in_default-clause-ok
returns-in_default-clause-ok c =
    let v = c.args.self.now in
    let session = c.args.session in
    let f = arc_value c.args.filter.now in
    let asks : c.get.result.now ≡ asked_at v session = c.get.ensures ∙ ap (λ (u : Interests). asked_at u session) c.self.view_is in
    let past : length c.get.result.now ≤ c.args.place = search rules in
    let gone : slice_get c.get.result.now c.args.place ≡ None = slice_get_past c.get.result.now c.args.place past in
    asks_kept session v (with_filter (asked_at v session) c.args.place f)
    (sym (past_last (asked_at v session) c.args.place f (ap (λ fs. slice_get fs c.args.place) (sym asks) ∙ gone)))

pub exchange-requires-clause-there : goal.exchange-requires-clause-there
exchange-requires-clause-there c =
    let v = c.args.self.now in
    let session = c.args.session in
    let there : Asked = c.in-Some.asked.now in
    let old : Asked = c.in_ok-old.old in
    let asks : c.get.result.now ≡ asked_at v session = c.get.ensures ∙ ap (λ (u : Interests). asked_at u session) c.self.view_is in
    let low : c.args.place < length c.get.result.now = search rules in
    let is : there ≡ get_or c.get.result.now c.args.place there = search rules in
    let at : slice_get c.get.result.now c.args.place ≡ Some there = slice_get_read c.get.result.now (length c.get.result.now) c.args.place there refl low is in
    let same : there ≡ old = search rules in
    ap (λ fs. slice_get fs c.args.place) (sym asks) ∙ at ∙ ap Some same
