-- Laws of tests.
use Rattle.std.specs.Prelude.{◌≡◌, ℕ, Bool, true, false, cond, not, ◌&&◌, ◌||◌, ◌==◌, Result, Ok, Err, OnErr}
use Rattle.std.specs.Cmp.{both_ways, unsigned_Decides}
use mathlib.Core.Bool.{true≢false}
use mathlib.Core.Path.{refl, sym, ap, ◌∙◌}

pub turned : (m n : ℕ) → (m == n) ≡ (n == m)
turned m n = both_ways (m == n) (n == m) (λ e. (unsigned_Decides n m).1 (sym ((unsigned_Decides m n).0 e))) (λ e. (unsigned_Decides m n).1 (sym ((unsigned_Decides n m).0 e)))

-- one that is put in, before or after what was there
pub put_in : (t b : Bool) → cond t true b ≡ (b || t)
put_in true true = refl
put_in true false = refl
put_in false true = refl
put_in false false = refl

pub grouped : (a b c : Bool) → ((a || b) || c) ≡ (a || (b || c))
grouped true b c = refl
grouped false b c = refl

pub or_false : (a : Bool) → a ≡ (a || false)
or_false true = refl
or_false false = refl

-- a key of a session and a table is one of some keys
pub put_among : (b t k s : Bool) → cond (t && (k && s)) true b ≡ (b || ((t && s) && k))
put_among true true true true = refl
put_among true true true false = refl
put_among true true false s = refl
put_among true false k s = refl
put_among false true true true = refl
put_among false true true false = refl
put_among false true false true = refl
put_among false true false false = refl
put_among false false k s = refl

-- one key more
pub one_more : (b o p q : Bool) → ((b || (o && p)) || (o && q)) ≡ (b || (o && (p || q)))
one_more true o p q = refl
one_more false true p q = refl
one_more false false p q = refl

-- one key fewer, where the others haven't it
pub one_fewer : (b o p q n : Bool) → ((b && not (o && (p && n))) && not (o && (q && n))) ≡ (b && not (o && ((p || q) && n)))
one_fewer false o p q n = refl
one_fewer true false p q n = refl
one_fewer true true true true true = refl
one_fewer true true true true false = refl
one_fewer true true true false true = refl
one_fewer true true true false false = refl
one_fewer true true false q n = refl

-- nothing of it is left
pub none_fewer : (b o : Bool) → b ≡ (b && not (o && false))
none_fewer true true = refl
none_fewer true false = refl
none_fewer false o = refl

-- some of the keys, by those that were reached
pub some_reached : (b o p q : Bool) → (p ≡ true → q ≡ true) → (b || (o && p)) ≡ (b || (p && (o && q)))
some_reached true o p q h = refl
some_reached false true true q h = sym (h refl)
some_reached false false true q h = refl
some_reached false true false q h = refl
some_reached false false false q h = refl

-- a key that goes, since no other filter has it; and one that stays
pub goes : (b t k s n : Bool) → (t ≡ true → k ≡ true → n ≡ false) → cond (t && (k && s)) false b ≡ (b && not ((t && s) && (k && not n)))
goes false true true true n h = refl
goes false true true false n h = refl
goes false true false s n h = refl
goes false false k s n h = refl
goes true false k s n h = refl
goes true true false true n h = refl
goes true true false false n h = refl
goes true true true false n h = refl
goes true true true true n h = ap (λ m. not (not m)) (sym (h refl refl))

pub stays : (b t k s n : Bool) → (t ≡ true → k ≡ true → n ≡ true) → b ≡ (b && not ((t && s) && (k && not n)))
stays false t k s n h = refl
stays true false k s n h = refl
stays true true k false n h = refl
stays true true false true n h = refl
stays true true true true n h = ap (λ m. not (not m)) (sym (h refl refl))

-- what was entered in part goes again
pub back : (l n some o h : Bool) → (o ≡ true → n ≡ l) → ((l || (some && (o && h))) && not (o && (h && not n))) ≡ l
back true n some false h e = refl
back true n some true false e = refl
back true n some true true e = ap (λ m. not (not m)) (e refl)
back false n true false h e = refl
back false n false false h e = refl
back false n true true false e = refl
back false n false true h e = refl
back false n true true true e = ap (λ m. not (not m)) (e refl)

-- of three parts the middle one goes
pub middle_out : (f t h b : Bool) → ((f || ((t && h) || b)) && not (t && (h && not (f || b)))) ≡ (f || b)
middle_out true true true b = refl
middle_out true true false b = refl
middle_out true false h b = refl
middle_out false true true true = refl
middle_out false true true false = refl
middle_out false true false true = refl
middle_out false true false false = refl
middle_out false false h true = refl
middle_out false false h false = refl

pub all_out : (l : Bool) → (l && not l) ≡ false
all_out true = refl
all_out false = refl

pub stays_so : (l : Bool) → (l && true) ≡ l
stays_so true = refl
stays_so false = refl

-- a filter more, of another session or of this one
pub not_own : (l t h : Bool) → (l || ((t && false) && h)) ≡ l
not_own true t h = refl
not_own false true h = refl
not_own false false h = refl

pub own : (l t h : Bool) → (l || ((t && true) && h)) ≡ (l || ((t && h) || false))
own true t h = refl
own false true true = refl
own false true false = refl
own false false h = refl

pub never_own : (t : Bool) → (t && false) ≡ false
never_own true = refl
never_own false = refl

pub whatever : {X E : Type 0} (P : Type 0) (r : Result X E) → P → OnErr r P
whatever P (Ok x) p = tt
whatever P (Err e) p = p

pub or_turned : (a b : Bool) → (a || b) ≡ (b || a)
or_turned true true = refl
or_turned true false = refl
or_turned false true = refl
or_turned false false = refl

-- some keys of two parts
pub both_parts : (b o p q c d : Bool) → ((b || (c && (o && p))) || (d && (o && q))) ≡ (b || (((c && p) || (d && q)) && (o && (p || q))))
both_parts true o p q c d = refl
both_parts false true true true true true = refl
both_parts false true true true true false = refl
both_parts false true true true false true = refl
both_parts false true true true false false = refl
both_parts false true true false true true = refl
both_parts false true true false true false = refl
both_parts false true true false false true = refl
both_parts false true true false false false = refl
both_parts false true false true true true = refl
both_parts false true false true true false = refl
both_parts false true false true false true = refl
both_parts false true false true false false = refl
both_parts false true false false true true = refl
both_parts false true false false true false = refl
both_parts false true false false false true = refl
both_parts false true false false false false = refl
both_parts false false p q true true = sym (never_own (p || q))
both_parts false false p q true false = sym (never_own (p || false))
both_parts false false p q false true = sym (never_own q)
both_parts false false p q false false = refl

-- each key of two parts is found, or the other filter has it
pub each_part : (p q c d n : Bool) → (p ≡ true → (c || n) ≡ true) → (q ≡ true → (d || n) ≡ true) → (p || q) ≡ true → (((c && p) || (d && q)) || n) ≡ true
each_part p q c d true h g e = or_turned ((c && p) || (d && q)) true
each_part true q true d false h g e = refl
each_part true q false d false h g e = absurd (true≢false (sym (h refl)))
each_part false true c true false h g e = ap (λ b. (b || true) || false) (never_own c)
each_part false true c false false h g e = absurd (true≢false (sym (g refl)))
each_part false false c d false h g e = absurd (true≢false (sym e))

-- the keys that were reached, of all
pub part_reached : (b o p t c : Bool) → (p ≡ true → t ≡ true) → (b || (c && (o && p))) ≡ (b || ((c && p) && (o && t)))
part_reached true o p t c h = refl
part_reached false o p t false h = refl
part_reached false o true t true h = ap (λ x. o && x) (sym (h refl))
part_reached false o false t true h = never_own o

-- one filter in the place of another: what both have stays, what the old one alone has goes, what the new one alone has comes
pub exchanged_one : (f o n c g : Bool) → (n ≡ true → (c || o) ≡ true) → (o ≡ true → (g || n) ≡ true) → (((f || o) || (c && (true && n))) && not (true && (o && ((g && o) && not (f || n))))) ≡ (f || n)
exchanged_one true o n c g comes goes = ap (λ b. true && not (o && b)) (never_own (g && o)) ∙ ap (λ b. true && not b) (never_own o)
exchanged_one false true true c g comes goes = ap (λ b. true && not b) (never_own (g && true))
exchanged_one false true false c true comes goes = refl
exchanged_one false true false c false comes goes = absurd (true≢false (sym (goes refl)))
exchanged_one false false true true g comes goes = refl
exchanged_one false false true false g comes goes = absurd (true≢false (sym (comes refl)))
exchanged_one false false false c g comes goes = ap (λ b. b && true) (never_own c)

-- where nothing of its own is
pub exchanged_none : (x c n r : Bool) → ((x || (c && (false && n))) && not (false && r)) ≡ x
exchanged_none true c n r = refl
exchanged_none false true n r = refl
exchanged_none false false n r = refl

pub twice_not : (b : Bool) → not (not b) ≡ b
twice_not true = refl
twice_not false = refl

-- two parts that go, one after the other
pub one_filter_fewer : (b o p q : Bool) → ((b && not (o && p)) && not (o && q)) ≡ (b && not (o && (p || q)))
one_filter_fewer false o p q = refl
one_filter_fewer true false p q = refl
one_filter_fewer true true true q = refl
one_filter_fewer true true false q = refl
