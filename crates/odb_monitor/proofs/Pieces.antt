-- Texts of pieces, put together: they are the text of the whole.
use Rattle.std.proofs.Common.{◌≡◌, ℕ, zero, suc, Bool, true, false, not, ◌&&◌, ◌||◌, if◌then◌else◌, List, [], ◌∷◌, ◌++◌, drop, flat_map, fold, length, map, nat_lt, take, refl, sym, ap, subst, ◌∙◌, arith, append_assoc, append-nil, length-append, take-append-drop, true≢false}
use Rattle.std.specs.List.{drop-map, list_all, take-map}
use Rattle.std.proofs.lemmas.Bool.Decides.{nat_tests}
use Rattle.std.proofs.lemmas.Grind.{flat_map-append, fold-append}
use Rattle.json.specs.Print.{ends, print, print_from}
use Rattle.json.specs.Token.{Token, begin_object, end_object, key}
use Rattle.json.proofs.Printed.Tokens.{ends_push, print_from-append}
use Rattle.odb_monitor.specs.Listing.{AreOfRows, Listing, all_tokens, listed_tokens, rows_text}
use Rattle.odb_monitor.specs.Represented.Joining.{with_comma, with_piece, with_pieces, with_table}
use Rattle.odb_monitor.specs.Represented.Members.{AreMembers, AreRows, ended}
use Rattle.odb_monitor.specs.View.{is_empty}

pub members_more : (a b : Bool) (ts us : List Token) → AreMembers a ts → AreMembers b us → AreMembers (a || b) (ts ++ us)
members_more false b ts us h k = subst (λ vs. AreMembers b (vs ++ us)) (sym h) k
members_more true false ts us h k = subst (λ vs. AreMembers true (ts ++ vs)) (sym k) (subst (AreMembers true) (sym (append-nil ts)) h)
members_more true true ts us h k = ((h.0.0, h.0.1 ++ us, ap (λ vs. vs ++ us) h.0.2), λ after. fold-append (λ _ t. ends t) after ts us ∙ k.1 (ended after ts))

-- where each row is members or nothing, so are all of them
pub all_members : (rows : List (List Token)) → AreRows rows → (b : Bool) × AreMembers b (all_tokens rows)
all_members [] h = (false, refl)
all_members (ts ∷ rows) h = let rest = all_members rows h.1 in (h.0.0 || rest.0, members_more h.0.0 rest.0 ts (all_tokens rows) h.0.1 rest.1)

rows_taken : (n : ℕ) (rows : List (List Token)) → AreRows rows → AreRows (take n rows)
rows_taken zero rows h = tt
rows_taken (suc n) [] h = tt
rows_taken (suc n) (ts ∷ rows) h = (h.0, rows_taken n rows h.1)

rows_dropped : (n : ℕ) (rows : List (List Token)) → AreRows rows → AreRows (drop n rows)
rows_dropped zero rows h = h
rows_dropped (suc n) [] h = tt
rows_dropped (suc n) (ts ∷ rows) h = rows_dropped n rows h.1

-- ---- texts

-- members have a text
pub has_text : (b : Bool) (ts : List Token) → AreMembers b ts → is_empty (print ts) ≡ not b
unfolding print_from
has_text false ts h = ap (λ us. is_empty (print us)) h
has_text true ts h = ap (λ us. is_empty (print us)) h.0.2

pub are_some : (b : Bool) (ts : List Token) → AreMembers b ts → is_empty ts ≡ not b
are_some false ts h = ap is_empty h
are_some true ts h = ap is_empty h.0.2

has_length : (text : List ℕ) (b : Bool) (start : ℕ) (before : List ℕ) → length before ≡ start → is_empty text ≡ not b → nat_lt start (length (before ++ text)) ≡ b
has_length [] false start before long e = ap (λ xs. nat_lt start (length xs)) (append-nil before) ∙ grind (arith, nat_tests)
has_length [] true start before long e = absurd (true≢false e)
has_length (x ∷ xs) false start before long e = absurd (true≢false (sym e))
has_length (x ∷ xs) true start before long e = let more = length-append before (x ∷ xs) in grind (arith, nat_tests)

-- a text of members after others
after_members : (a b : Bool) (done ts : List Token) → AreMembers a done → AreMembers b ts → print (done ++ ts) ≡ print done ++ ((if a && b then 44 ∷ [] else []) ++ print ts)
unfolding print_from
after_members a b done ts h k = print_from-append false done ts ∙ ap (λ xs. print done ++ xs) (by a b h k)
  where
    by : (a b : Bool) → AreMembers a done → AreMembers b ts → print_from (ended false done) ts ≡ (if a && b then 44 ∷ [] else []) ++ print ts
    by false b h k = ap (λ us. print_from (ended false us) ts) h
    by true false h k = ap (print_from (ended false done)) k ∙ sym (ap print k)
    by true true h k = ap (λ c. print_from c ts) (h.1 false) ∙ ap (print_from true) k.0.2 ∙ ap (λ xs. 44 ∷ xs) (sym (ap print k.0.2))

-- and with its comma
commas : (a : Bool) (start : ℕ) (before : List ℕ) (done : List Token) → length before ≡ start → AreMembers a done → with_comma start (before ++ print done) ≡ (before ++ print done) ++ (if a then 44 ∷ [] else [])
commas a start before done long h = by a (has_length (print done) a start before long (has_text a done h))
  where
    by : (a : Bool) → nat_lt start (length (before ++ print done)) ≡ a → with_comma start (before ++ print done) ≡ (before ++ print done) ++ (if a then 44 ∷ [] else [])
    by false e = ap (λ c. if c then (before ++ print done) ++ 44 ∷ [] else (before ++ print done)) e ∙ sym (append-nil (before ++ print done))
    by true e = ap (λ c. if c then (before ++ print done) ++ 44 ∷ [] else (before ++ print done)) e

and_true : (c : Bool) → (c && true) ≡ c
and_true true = refl
and_true false = refl

-- one piece more
piece_more : (a b : Bool) (start : ℕ) (before : List ℕ) (done ts : List Token) → length before ≡ start → AreMembers a done → AreMembers b ts
    → with_piece start (before ++ print done) (print ts) ≡ before ++ print (done ++ ts)
piece_more a b start before done ts long h k = by b k
  where
    old : List ℕ
    old = before ++ print done

    by : (b : Bool) → AreMembers b ts → with_piece start (before ++ print done) (print ts) ≡ before ++ print (done ++ ts)
    by false k = ap (λ c. if c then (before ++ print done) else with_comma start (before ++ print done) ++ print ts) (has_text false ts k) ∙ ap (λ us. before ++ print us) (sym (append-nil done) ∙ ap (λ us. done ++ us) (sym k))
    by true k =
        ap (λ c. if c then (before ++ print done) else with_comma start (before ++ print done) ++ print ts) (has_text true ts k)
        ∙ ap (λ xs. xs ++ print ts) (commas a start before done long h)
        ∙ append_assoc (before ++ print done) (if a then 44 ∷ [] else []) (print ts)
        ∙ append_assoc before (print done) ((if a then 44 ∷ [] else []) ++ print ts)
        ∙ ap (λ c. before ++ (print done ++ ((if c then 44 ∷ [] else []) ++ print ts))) (sym (and_true a))
        ∙ ap (λ xs. before ++ xs) (sym (after_members a true done ts h k))

-- all pieces
pieces_from : (texts : List (List ℕ)) (a : Bool) (start : ℕ) (before : List ℕ) (done : List Token) (rows : List (List Token)) → length before ≡ start → AreMembers a done → AreRows rows → AreOfRows rows texts
    → fold (with_piece start) (before ++ print done) texts ≡ before ++ print (done ++ all_tokens rows)
pieces_from [] a start before done rows long h each of = ap (λ ts. before ++ print ts) (sym (append-nil done) ∙ ap (λ rs. done ++ all_tokens rs) (sym of))
pieces_from (text ∷ texts) a start before done rows long h each of =
    let n : ℕ = of.0 in
    let here = all_members (take n rows) (rows_taken n rows each) in
    let ts : List Token = all_tokens (take n rows) in
    ap (λ xs. fold (with_piece start) (with_piece start (before ++ print done) xs) texts) of.1
    ∙ ap (λ xs. fold (with_piece start) xs texts) (piece_more a here.0 start before done ts long h here.1)
    ∙ pieces_from texts (a || here.0) start before (done ++ ts) (drop n rows) long (members_more a here.0 done ts h here.1) (rows_dropped n rows each) of.2
    ∙ ap (λ us. before ++ print us) (append_assoc done ts (all_tokens (drop n rows)) ∙ ap (λ us. done ++ us) (sym (flat_map-append (λ us. us) (take n rows) (drop n rows)) ∙ ap all_tokens (take-append-drop n rows)))

pub pieces_joined : (before : List ℕ) (texts : List (List ℕ)) (rows : List (List Token)) → AreRows rows → AreOfRows rows texts → with_pieces before texts ≡ before ++ rows_text rows
unfolding print_from
pieces_joined before texts rows each of =
    ap (λ xs. fold (with_piece (length before)) xs texts) (sym (append-nil before)) ∙ pieces_from texts false (length before) before [] rows refl refl each of

-- where each piece is empty, no row is shown
pub none_shown : (texts : List (List ℕ)) (rows : List (List Token)) → AreRows rows → AreOfRows rows texts → list_all is_empty texts ≡ is_empty (all_tokens rows)
none_shown [] rows each of = ap (λ rs. is_empty (all_tokens rs)) (sym of)
none_shown (text ∷ texts) rows each of =
    let n : ℕ = of.0 in
    let here = all_members (take n rows) (rows_taken n rows each) in
    let later = all_members (drop n rows) (rows_dropped n rows each) in
    let whole : all_tokens rows ≡ all_tokens (take n rows) ++ all_tokens (drop n rows) = sym (ap all_tokens (take-append-drop n rows)) ∙ flat_map-append (λ us. us) (take n rows) (drop n rows) in
    (λ i. (ap is_empty of.1 ∙ has_text here.0 (all_tokens (take n rows)) here.1) i && (none_shown texts (drop n rows) (rows_dropped n rows each) of.2 ∙ are_some later.0 (all_tokens (drop n rows)) later.1) i)
    ∙ neither here.0 later.0
    ∙ sym (ap is_empty whole ∙ are_some (here.0 || later.0) (all_tokens (take n rows) ++ all_tokens (drop n rows)) (members_more here.0 later.0 (all_tokens (take n rows)) (all_tokens (drop n rows)) here.1 later.1))
  where
    neither : (a b : Bool) → (not a && not b) ≡ not (a || b)
    neither true b = refl
    neither false b = refl

-- ---- a table

closed : (c : Bool) → print_from c (end_object ∷ []) ≡ 125 ∷ []
unfolding print_from
closed true = refl
closed false = refl

abbrev pub table_with : List ℕ → List Token → List Token
table_with name rows = key name ∷ begin_object ∷ (rows ++ end_object ∷ [])

pub table_members : (name : List ℕ) (rows : List Token) → AreMembers true (table_with name rows)
table_members name rows = ((name, begin_object ∷ (rows ++ end_object ∷ []), refl), λ after. ends_push false rows end_object)

table_text : (name : List ℕ) (rows : List Token) → print (table_with name rows) ≡ print (key name ∷ begin_object ∷ []) ++ (print rows ++ 125 ∷ [])
table_text name rows =
    print_from-append false (key name ∷ begin_object ∷ []) (rows ++ end_object ∷ [])
    ∙ ap (λ xs. print (key name ∷ begin_object ∷ []) ++ xs) (print_from-append false rows (end_object ∷ []) ∙ ap (λ xs. print rows ++ xs) (closed (ended false rows)))

begun : (ts : List Token) → print (begin_object ∷ ts) ≡ 123 ∷ print ts
unfolding print_from
begun ts = refl

-- a table with rows, after others
pub table_put : (a : Bool) (l : Listing) (done : List Token) (texts : List (List ℕ)) (text : List ℕ) → AreMembers a done → AreRows l.rows → AreOfRows l.rows texts → is_empty (all_tokens l.rows) ≡ false → text ≡ print (begin_object ∷ done)
    → with_table text (print (key l.name ∷ begin_object ∷ [])) texts ≡ print (begin_object ∷ (done ++ listed_tokens l))
table_put a l done texts text h each of some is =
    let rows : List Token = all_tokens l.rows in
    let head : List ℕ = print (key l.name ∷ begin_object ∷ []) in
    let before : List ℕ = 123 ∷ print done in
    let comma : List ℕ = if a then 44 ∷ [] else [] in
    let start : List ℕ = (before ++ comma) ++ head in
    ap (λ xs. with_table xs head texts) (is ∙ begun done)
    ∙ ap (λ xs. with_pieces (xs ++ head) texts ++ 125 ∷ []) (commas a 1 (123 ∷ []) done refl h)
    ∙ ap (λ xs. xs ++ 125 ∷ []) (pieces_joined start texts l.rows each of)
    ∙ append_assoc start (print rows) (125 ∷ [])
    ∙ append_assoc (before ++ comma) head (print rows ++ 125 ∷ [])
    ∙ ap (λ xs. (before ++ comma) ++ xs) (sym (table_text l.name rows))
    ∙ append_assoc before comma (print (table_with l.name rows))
    ∙ ap (λ c. 123 ∷ (print done ++ ((if c then 44 ∷ [] else []) ++ print (table_with l.name rows)))) (sym (and_true a))
    ∙ ap (λ xs. 123 ∷ xs) (sym (after_members a true done (table_with l.name rows) h (table_members l.name rows)))
    ∙ sym (begun (done ++ table_with l.name rows))
    ∙ ap (λ c. print (begin_object ∷ (done ++ (if c then [] else table_with l.name rows)))) (sym some)

-- the text of an object of members, as far as its closing bracket, and whether there are some
pub object_text : (a : Bool) (ts : List Token) (text : List ℕ) → AreMembers a ts → text ≡ print (begin_object ∷ ts) → nat_lt 1 (length text) ≡ a
object_text a ts text h is = ap (λ xs. nat_lt 1 (length xs)) (is ∙ begun ts) ∙ has_length (print ts) a 1 (123 ∷ []) refl (has_text a ts h)

pub object_closed : (ts : List Token) (text : List ℕ) → text ≡ print (begin_object ∷ ts) → text ++ 125 ∷ [] ≡ print (begin_object ∷ (ts ++ end_object ∷ []))
object_closed ts text is = ap (λ xs. xs ++ 125 ∷ []) is ∙ sym (print_from-append false (begin_object ∷ ts) (end_object ∷ []) ∙ ap (λ xs. print (begin_object ∷ ts) ++ xs) (closed (ended false ts)))

pub object_begun : 123 ∷ [] ≡ print (begin_object ∷ [])
unfolding print_from
object_begun = refl

pub all_mapped : {X Y : Type 0} (p : Y → Bool) (f : X → Y) (xs : List X) → list_all (λ x. p (f x)) xs ≡ list_all p (map f xs)
all_mapped p f [] = refl
all_mapped p f (x ∷ xs) = ap (λ b. p (f x) && b) (all_mapped p f xs)

-- where each row is printed from something, it is so of some of them
pub rows_cut : {X Y : Type 0} (f : X → List Y) (n k : ℕ) (xs : List X) → flat_map f (take n (drop k xs)) ≡ flat_map (λ ys. ys) (take n (drop k (map f xs)))
rows_cut {X = X} f n k xs = flat_mapped (take n (drop k xs)) ∙ ap (flat_map (λ ys. ys)) (sym (take-map f n (drop k xs)) ∙ ap (take n) (sym (drop-map f k xs)))
  where
    flat_mapped : (ys : List X) → flat_map f ys ≡ flat_map (λ zs. zs) (map f ys)
    flat_mapped [] = refl
    flat_mapped (y ∷ ys) = ap (λ zs. f y ++ zs) (flat_mapped ys)
