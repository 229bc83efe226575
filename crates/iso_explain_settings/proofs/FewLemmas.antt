-- What is told of a value has few lines: what is shown of a file has no line feed in it.
use Rattle.std.proofs.Common.{◌≡◌, ◌<◌, ◌≤◌, ◌^◌, ℕ, ◌+◌, ◌%◌, List, [], ◌∷◌, ◌++◌, Bool, true, false, ◌&&◌, ◌==◌, nat_lt, cond, length, take, filter, fold, map, codes, slice_get, Option, None, Some, IfSome, unwrap_or, refl, ap₂, arith}
use Rattle.std.proofs.lemmas.Bool.Decides.{nat_tests}
use Rattle.std.proofs.lemmas.Fmt.{decimal_by_steps}
use Rattle.std.specs.Fmt.{decimal}
use Rattle.std.specs.Int.{is_in_range}
use Rattle.std.specs.List.{list_all}
use Rattle.toml.specs.Data.{Data, string, integer, float, boolean, datetime, array, table, no_members, as_str}
use Rattle.iso_hints.specs.Nearest.{distance, is_near, near_words, put_by_distance}
use Rattle.iso_hints.specs.Pictures.{cut, shown_byte}
use Rattle.iso_settings.specs.Worlds.{is_printable}
use Rattle.iso_explain_settings.specs.Parts.{in_front, shown_text}
use Rattle.iso_explain_settings.specs.Printable.{line_feeds}
use Rattle.iso_explain_settings.specs.Told.{advice_text, found_text, mending_note, table_text, takes_line, twice_text, value_text}
use Rattle.iso_explain_settings.specs.Values.{count_hint, flag_hint, hint, is_long_text, kind_text, left_out_hint, near, subject, text_hint, wrong_hint}
use Rattle.iso_explain_settings.specs.Wanted.{before_key, nearest_of, takes, words}
use Rattle.iso_explain_settings.specs.declared.value.Kind.{Kind}
use Rattle.iso_explain_settings.specs.declared.value.Kind.TheVariants as K
use Rattle.iso_explain_settings.specs.declared.wanted.Wanted.{Wanted}
use Rattle.iso_explain_settings.specs.declared.wanted.Wanted.TheVariants as W
use Rattle.iso_explain_settings.proofs.SafeLemmas.{both}

-- no byte of a text is a line feed
abbrev IsInner : List ℕ → Type 0
IsInner text = line_feeds text ≡ 0

feeds-append : (s t : List ℕ) → line_feeds (s ++ t) ≡ line_feeds s + line_feeds t
feeds-append [] t = omega arith
feeds-append (b ∷ bs) t = by (feeds-append bs t) (b == 10)
  where
    by : line_feeds (bs ++ t) ≡ line_feeds bs + line_feeds t → (c : Bool)
        → length (cond c (b ∷ filter (λ x. x == 10) (bs ++ t)) (filter (λ x. x == 10) (bs ++ t))) ≡ length (cond c (b ∷ filter (λ x. x == 10) bs) (filter (λ x. x == 10) bs)) + line_feeds t
    by e true = omega (arith, e)
    by e false = e

inner-append : (s t : List ℕ) → IsInner s → IsInner t → IsInner (s ++ t)
inner-append s t h k = let e = feeds-append s t in omega (arith, e)

-- texts, each with so many line feeds
abbrev HaveFeeds : List (List ℕ × ℕ) → Type 0
HaveFeeds [] = Unit {0}
HaveFeeds (p ∷ ps) = (line_feeds p.0 ≡ p.1) × HaveFeeds ps

abbrev total : List (List ℕ × ℕ) → ℕ
total [] = 0
total (p ∷ ps) = p.1 + total ps

front-feeds : (ps : List (List ℕ × ℕ)) (last : List ℕ) → HaveFeeds ps → line_feeds (in_front (map (λ p. p.0) ps) last) ≡ total ps + line_feeds last
front-feeds [] last h = omega arith
front-feeds (p ∷ ps) last h =
    let first = h.0 in
    let rest = front-feeds ps last h.1 in
    let e = feeds-append p.0 (in_front (map (λ p. p.0) ps) last) in
    omega (arith, first, rest, e)

-- digits
digit_is_inner : (d : ℕ) → d < 10 → ((48 + d) == 10) ≡ false
digit_is_inner d h = grind (arith, nat_tests)

decimal_is_inner : (n : ℕ) → n < 2 ^ 64 → IsInner (decimal n)
decimal_is_inner n h =
    decimal_by_steps (λ n ds. IsInner ds) (λ n h. rw (digit_is_inner n h) refl)
    (λ n ds h k. inner-append ds ((48 + n % 10) ∷ []) k (rw (digit_is_inner (n % 10) (omega arith)) refl)) n h

-- what is shown of a text
byte_is_inner : (b : ℕ) → (shown_byte b == 10) ≡ false
byte_is_inner b = by (b == 9) (is_in_range 32 126 b) refl
  where
    by : (s t : Bool) → is_in_range 32 126 b ≡ t → (cond s 32 (cond t b 63) == 10) ≡ false
    by true t e = refl
    by false true e = let other : (b == 10) ≡ false = grind (arith, nat_tests) in other
    by false false e = refl

bytes_are_inner : (bs : List ℕ) → IsInner (map shown_byte bs)
bytes_are_inner [] = refl
bytes_are_inner (b ∷ bs) = rw (byte_is_inner b) (bytes_are_inner bs)

cut_is_inner : (t : Bool) → IsInner (cut t)
cut_is_inner true = refl
cut_is_inner false = refl

shown_is_inner : (most : ℕ) (text : List ℕ) → IsInner (shown_text most text)
shown_is_inner most text = inner-append (map shown_byte (take most text)) (cut (nat_lt most (length text))) (bytes_are_inner (take most text)) (cut_is_inner (nat_lt most (length text)))

-- words of the code
kind_is_inner : (value : Data) → IsInner (kind_text value)
kind_is_inner (string s) = refl
kind_is_inner (integer z) = refl
kind_is_inner (float x) = refl
kind_is_inner (boolean b) = refl
kind_is_inner (datetime dt) = refl
kind_is_inner (array ds) = refl
kind_is_inner (table ms) = refl

before_is_inner : (w : Wanted) → IsInner (before_key w)
before_is_inner W.Flag = refl
before_is_inner W.Mode = refl
before_is_inner W.Strategy = refl
before_is_inner W.Count = refl
before_is_inner W.Lifecycle = refl
before_is_inner W.Text = refl
before_is_inner W.Table = refl
before_is_inner W.Nothing = refl

takes_is_inner : (w : Wanted) → IsInner (takes w)
takes_is_inner W.Flag = refl
takes_is_inner W.Mode = refl
takes_is_inner W.Strategy = refl
takes_is_inner W.Count = refl
takes_is_inner W.Lifecycle = refl
takes_is_inner W.Text = refl
takes_is_inner W.Table = refl
takes_is_inner W.Nothing = refl

-- of words without line feeds the nearest has none
abbrev AllInner : List (List ℕ) → Type 0
AllInner words = list_all (λ w. line_feeds w == 0) words ≡ true

put_is_inner : (word : List ℕ) (xs : List (List ℕ)) (x : List ℕ) → AllInner xs → (line_feeds x == 0) ≡ true → AllInner (put_by_distance word xs x)
put_is_inner word [] x h k = ap₂ (λ (a b : Bool). a && b) k refl
put_is_inner word (y ∷ ys) x h k =
    let parts = both (line_feeds y == 0) (list_all (λ w. line_feeds w == 0) ys) h in
    by parts.0 (put_is_inner word ys x parts.1 k) (nat_lt (distance word x) (distance word y))
  where
    by : (line_feeds y == 0) ≡ true → AllInner (put_by_distance word ys x) → (b : Bool) → AllInner (cond b (x ∷ y ∷ ys) (y ∷ put_by_distance word ys x))
    by first rest true = ap₂ (λ (a b : Bool). a && b) k h
    by first rest false = ap₂ (λ (a b : Bool). a && b) first rest

fold_is_inner : (word : List ℕ) (done xs : List (List ℕ)) → AllInner done → AllInner xs → AllInner (fold (put_by_distance word) done xs)
fold_is_inner word done [] h k = h
fold_is_inner word done (x ∷ xs) h k =
    let parts = both (line_feeds x == 0) (list_all (λ w. line_feeds w == 0) xs) k in
    fold_is_inner word (put_by_distance word done x) xs (put_is_inner word done x h parts.0) parts.1

filter_is_inner : (q : List ℕ → Bool) (xs : List (List ℕ)) → AllInner xs → AllInner (filter q xs)
filter_is_inner q [] h = refl
filter_is_inner q (x ∷ xs) h =
    let parts = both (line_feeds x == 0) (list_all (λ w. line_feeds w == 0) xs) h in
    by parts.0 (filter_is_inner q xs parts.1) (q x)
  where
    by : (line_feeds x == 0) ≡ true → AllInner (filter q xs) → (b : Bool) → AllInner (cond b (x ∷ filter q xs) (filter q xs))
    by first rest true = ap₂ (λ (a b : Bool). a && b) first rest
    by first rest false = rest

is_nought : (n : ℕ) → (n == 0) ≡ true → n ≡ 0
is_nought n h = grind (arith, nat_tests)

first_is_inner : (xs : List (List ℕ)) → AllInner xs → IfSome (slice_get xs 0) IsInner
first_is_inner [] h = tt
first_is_inner (x ∷ xs) h = is_nought (line_feeds x) (both (line_feeds x == 0) (list_all (λ w. line_feeds w == 0) xs) h).0

nearest_is_inner : (word : List ℕ) (xs : List (List ℕ)) → AllInner xs → IfSome (nearest_of word xs) IsInner
unfolding nearest_of
nearest_is_inner word xs h =
    first_is_inner (near_words word xs) (fold_is_inner word [] (filter (is_near word) xs) refl (filter_is_inner (is_near word) xs h))

words_are_inner : (w : Wanted) → AllInner (words w)
words_are_inner W.Flag = refl
words_are_inner W.Mode = refl
words_are_inner W.Strategy = refl
words_are_inner W.Count = refl
words_are_inner W.Lifecycle = refl
words_are_inner W.Text = refl
words_are_inner W.Table = refl
words_are_inner W.Nothing = refl

near_is_inner : (word : Option (List ℕ)) (w : Wanted) → IfSome (near word (words w)) IsInner
near_is_inner None w = tt
near_is_inner (Some word) w = nearest_is_inner word (words w) (words_are_inner w)

-- hints
flag_hint_is_inner : (value : Data) → IfSome (flag_hint value) IsInner
flag_hint_is_inner (string s) = refl
flag_hint_is_inner (integer z) = tt
flag_hint_is_inner (float x) = tt
flag_hint_is_inner (boolean b) = tt
flag_hint_is_inner (datetime dt) = tt
flag_hint_is_inner (array ds) = tt
flag_hint_is_inner (table ms) = tt

count_hint_is_inner : (value : Data) → IfSome (count_hint value) IsInner
count_hint_is_inner (string s) = refl
count_hint_is_inner (integer z) = tt
count_hint_is_inner (float x) = refl
count_hint_is_inner (boolean b) = tt
count_hint_is_inner (datetime dt) = tt
count_hint_is_inner (array ds) = tt
count_hint_is_inner (table ms) = tt

key_hint_is_inner : (b : Bool) → IsInner (cond b (codes "a byte of the text isn't printable ASCII") (codes "a byte of the key isn't printable ASCII"))
key_hint_is_inner true = refl
key_hint_is_inner false = refl

text_hint_is_inner : (key : List ℕ) (value : Data) → IfSome (text_hint key value) IsInner
text_hint_is_inner key (string s) = key_hint_is_inner (is_printable key)
text_hint_is_inner key (integer z) = refl
text_hint_is_inner key (float x) = refl
text_hint_is_inner key (boolean b) = refl
text_hint_is_inner key (datetime dt) = refl
text_hint_is_inner key (array ds) = refl
text_hint_is_inner key (table ms) = refl

wrong_hint_is_inner : (w : Wanted) (key : List ℕ) (value : Data) → IfSome (wrong_hint w key value) IsInner
wrong_hint_is_inner W.Flag key value = flag_hint_is_inner value
wrong_hint_is_inner W.Mode key value = tt
wrong_hint_is_inner W.Strategy key value = tt
wrong_hint_is_inner W.Count key value = count_hint_is_inner value
wrong_hint_is_inner W.Lifecycle key value = tt
wrong_hint_is_inner W.Text key value = text_hint_is_inner key value
wrong_hint_is_inner W.Table key value = refl
wrong_hint_is_inner W.Nothing key value = tt

left_out_is_inner : (w : Wanted) → IsInner (left_out_hint w)
left_out_is_inner W.Flag = refl
left_out_is_inner W.Mode = refl
left_out_is_inner W.Strategy = refl
left_out_is_inner W.Count = refl
left_out_is_inner W.Lifecycle = refl
left_out_is_inner W.Text = refl
left_out_is_inner W.Table = refl
left_out_is_inner W.Nothing = refl

hint_is_inner : (kind : Kind) (w : Wanted) (key : List ℕ) (value : Data) → IfSome (hint kind w key value) IsInner
hint_is_inner K.Wrong w key value = wrong_hint_is_inner w key value
hint_is_inner K.Unsupported w key value = left_out_is_inner w
hint_is_inner K.OutOfRange w key value = tt

-- lines
mending_is_a_line : (meant hint : Option (List ℕ)) → IfSome meant IsInner → IfSome hint IsInner → line_feeds (mending_note meant hint) ≤ 1
mending_is_a_line (Some word) hint h k =
    let e : line_feeds (mending_note (Some word) hint) ≡ 1 = front-feeds ((codes " = did you mean `", 0) ∷ (word, 0) ∷ (codes "`?\n", 1) ∷ []) [] (refl, (h, (refl, tt))) in
    omega (arith, e)
mending_is_a_line None (Some text) h k =
    let e : line_feeds (mending_note None (Some text)) ≡ 1 = front-feeds ((codes " = ", 0) ∷ (text, 0) ∷ (codes "\n", 1) ∷ []) [] (refl, (k, (refl, tt))) in
    omega (arith, e)
mending_is_a_line None None h k = omega arith

found_is_a_line : (is_long : Bool) (value : Data) (text : List ℕ) → length (unwrap_or (as_str value) []) < 2 ^ 64 → line_feeds (found_text is_long value text) ≡ 1
found_is_a_line true value text fits =
    front-feeds
    ((codes " = found: ", 0) ∷ (shown_text 60 text, 0) ∷ (codes ", a text of ", 0) ∷ (decimal (length (unwrap_or (as_str value) [])), 0) ∷ (codes " bytes\n", 1) ∷ []) []
    (refl, (shown_is_inner 60 text, (refl, (decimal_is_inner (length (unwrap_or (as_str value) [])) fits, (refl, tt)))))
found_is_a_line false value text fits =
    front-feeds ((codes " = found: ", 0) ∷ (shown_text 60 text, 0) ∷ (codes ", ", 0) ∷ (kind_text value, 0) ∷ (codes "\n", 1) ∷ []) []
    (refl, (shown_is_inner 60 text, (refl, (kind_is_inner value, (refl, tt)))))

takes_is_a_line : (w : Wanted) (key last : List ℕ) → line_feeds (in_front (takes_line w key) last) ≡ 1 + line_feeds last
takes_is_a_line w key last =
    front-feeds ((codes " = ", 0) ∷ (before_key w, 0) ∷ (shown_text 160 key, 0) ∷ (takes w, 0) ∷ (codes "\n", 1) ∷ []) last
    (refl, (before_is_inner w, (shown_is_inner 160 key, (takes_is_inner w, (refl, tt)))))

advice_has_two : (is_long : Bool) (kind : Kind) (w : Wanted) (key : List ℕ) (value : Data) → length key < 2 ^ 64 → line_feeds (advice_text is_long kind w key value) ≤ 2
advice_has_two true kind w key value fits =
    let own : line_feeds (advice_text true kind w key value) ≡ 2 =
    front-feeds
    ((codes " = ", 0) ∷ (before_key w, 0) ∷ (shown_text 160 key, 0) ∷ (takes w, 0) ∷ (codes "\n", 1)
    ∷ (codes " = the key has ", 0) ∷ (decimal (length key), 0) ∷ (codes " bytes: behind files. or properties. at most 4096\n", 1) ∷ []) []
    (refl, (before_is_inner w, (shown_is_inner 160 key, (takes_is_inner w, (refl, (refl, (decimal_is_inner (length key) fits, (refl, tt)))))))) in
    omega (arith, own)
advice_has_two false kind w key value fits =
    let last = mending_note (near (subject w key value) (words w)) (hint kind w key value) in
    let one = takes_is_a_line w key last in
    let mended = mending_is_a_line (near (subject w key value) (words w)) (hint kind w key value) (near_is_inner (subject w key value) w) (hint_is_inner kind w key value) in
    omega (arith, one, mended)

pub value-has-three : (kind : Kind) (w : Wanted) (key : List ℕ) (value : Data) (text : List ℕ) → length key < 2 ^ 64 → length (unwrap_or (as_str value) []) < 2 ^ 64
    → line_feeds (value_text kind w key value text) ≤ 3
value-has-three kind w key value text key_fits text_fits =
    let is_long = is_long_text kind w in
    let whole = feeds-append (found_text is_long value text) (advice_text is_long kind w key value) in
    let found = found_is_a_line is_long value text text_fits in
    let advice = advice_has_two is_long kind w key value key_fits in
    omega (arith, whole, found, advice)

pub table-has-three : (w : Wanted) (key : List ℕ) → line_feeds (table_text w key) ≤ 3
table-has-three w key =
    let last = mending_note (near (subject w key (table no_members)) (words w)) None in
    let whole = feeds-append (codes " = found: a table\n") (in_front (takes_line w key) last) in
    let one = takes_is_a_line w key last in
    let mended = mending_is_a_line (near (subject w key (table no_members)) (words w)) None (near_is_inner (subject w key (table no_members)) w) tt in
    omega (arith, whole, one, mended)

pub twice-has-two : (key : List ℕ) → line_feeds (twice_text key) ≡ 2
twice-has-two key =
    front-feeds
    ((codes " = ", 0) ∷ (shown_text 160 key, 0) ∷ (codes " stands twice: keep one\n", 1)
    ∷ (codes " = a table, dots and quotes may spell the same key: [a] with b = 1, a.b = 1, and \"a.b\" = 1\n", 1) ∷ []) []
    (refl, (shown_is_inner 160 key, (refl, (refl, tt))))
