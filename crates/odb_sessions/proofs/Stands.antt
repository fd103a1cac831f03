-- How clients stand to tables of which the same is asked, one by one.
use Rattle.std.proofs.Common.{List, [], ap, arith, get_or, length, map, refl, suc, sym, take, zero, ℕ, ◌++◌, ◌+◌, ◌<◌, ◌∙◌, ◌∷◌, ◌≡◌}
use Rattle.odb_request.specs.Request.{Request}
use Rattle.odb_sessions.proofs.Loops.{mapped_more}
use Rattle.odb_sessions.specs.Composed.{asked_of}
use Rattle.odb_sessions.specs.Marked.{Watched}
use Rattle.odb_sessions.specs.Represented.Alike.{stand_in}
use Rattle.odb_sessions.specs.declared.way.Way.TheVariants as way

-- ---- tables, one by one

requests_at : (xs ys : List Watched) (i : ℕ) (x y : Watched) → i < length xs → length xs ≡ length ys → asked_of xs ≡ asked_of ys → (get_or xs i x).request ≡ (get_or ys i y).request
requests_at xs ys i x y low long same = sym (at xs i x) ∙ (λ j. get_or (same j) i x.request) ∙ within ys i x.request y (omega (arith, low, long))
  where
    at : (zs : List Watched) (k : ℕ) (d : Watched) → get_or (asked_of zs) k d.request ≡ (get_or zs k d).request
    at [] k d = refl
    at (z ∷ zs) zero d = refl
    at (z ∷ zs) (suc k) d = at zs k d

    within : (zs : List Watched) (k : ℕ) (q : Request) (d : Watched) → k < length zs → get_or (asked_of zs) k q ≡ (get_or zs k d).request
    within [] k q d low = absurd (omega (arith, low))
    within (z ∷ zs) zero q d low = refl
    within (z ∷ zs) (suc k) q d low = within zs k q d (omega (arith, low))

pub one_more_stands : (xs ys : List Watched) (i : ℕ) (x y : Watched) → i < length xs → length xs ≡ length ys → x ≡ get_or xs i x → y ≡ get_or ys i y
    → (x.request ≡ y.request → stand_in way.Asked x ≡ stand_in way.Asked y) → asked_of xs ≡ asked_of ys
    → map (stand_in way.Asked) (take i xs) ≡ map (stand_in way.Asked) (take i ys) → map (stand_in way.Asked) (take (i + 1) xs) ≡ map (stand_in way.Asked) (take (i + 1) ys)
one_more_stands xs ys i x y low long at its stands same before =
    let one : stand_in way.Asked x ≡ stand_in way.Asked y = stands (ap (λ (w : Watched). w.request) at ∙ requests_at xs ys i x y low long same ∙ ap (λ (w : Watched). w.request) (sym its)) in
    mapped_more (stand_in way.Asked) xs i x low at ∙ (λ j. before j ++ one j ∷ []) ∙ sym (mapped_more (stand_in way.Asked) ys i y (omega (arith, low, long)) its)
