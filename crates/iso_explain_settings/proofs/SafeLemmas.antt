-- What is told is printable ASCII and line feeds.
use Rattle.std.proofs.Common.{◌≡◌, ◌<◌, ◌^◌, ℕ, ◌+◌, ◌%◌, List, [], ◌∷◌, ◌++◌, Bool, true, false, ◌&&◌, ◌==◌, nat_lt, cond, length, take, filter, fold, map, codes, slice_get, Option, None, Some, IfSome, unwrap_or, refl, ap₂, ◌∙◌, arith}
use Rattle.std.proofs.lemmas.Bool.Decides.{nat_tests}
use Rattle.std.proofs.lemmas.Fmt.{decimal_by_steps}
use Rattle.std.proofs.lemmas.List.Folds.{list_all-append}
use Rattle.std.specs.Fmt.{decimal}
use Rattle.std.specs.Int.{is_in_range}
use Rattle.std.specs.List.{list_all}
use Rattle.toml.specs.Data.{Data, string, integer, float, boolean, datetime, array, table, no_members, as_str}
use Rattle.iso_hints.specs.Nearest.{distance, is_near, near_words, put_by_distance}
use Rattle.iso_hints.specs.Pictures.{cut, shown_byte}
use Rattle.iso_settings.specs.Worlds.{is_printable}
use Rattle.iso_explain_settings.specs.Parts.{in_front, shown_text}
use Rattle.iso_explain_settings.specs.Printable.{IsSafe, is_safe}
use Rattle.iso_explain_settings.specs.Told.{advice_text, found_text, mending_note, table_text, takes_line, twice_text, value_text}
use Rattle.iso_explain_settings.specs.Values.{count_hint, flag_hint, hint, is_long_text, kind_text, left_out_hint, near, subject, text_hint, wrong_hint}
use Rattle.iso_explain_settings.specs.Wanted.{before_key, nearest_of, takes, words}
use Rattle.iso_explain_settings.specs.declared.value.Kind.{Kind}
use Rattle.iso_explain_settings.specs.declared.value.Kind.TheVariants as K
use Rattle.iso_explain_settings.specs.declared.wanted.Wanted.{Wanted}
use Rattle.iso_explain_settings.specs.declared.wanted.Wanted.TheVariants as W

pub both : (a b : Bool) → (a && b) ≡ true → (a ≡ true) × (b ≡ true)
both true b h = (refl, h)
both false b h = absurd (no h)
  where
    no : false ≡ true → ⊥
    no e = cc

safe-append : (s t : List ℕ) → IsSafe s → IsSafe t → IsSafe (s ++ t)
safe-append s t h k = list_all-append is_safe s t ∙ ap₂ (λ (a b : Bool). a && b) h k

-- texts, each safe
abbrev AreSafe : List (List ℕ) → Type 0
AreSafe [] = Unit {0}
AreSafe (t ∷ ts) = IsSafe t × AreSafe ts

front_is_safe : (ts : List (List ℕ)) (last : List ℕ) → AreSafe ts → IsSafe last → IsSafe (in_front ts last)
front_is_safe [] last h k = k
front_is_safe (t ∷ ts) last h k = safe-append t (in_front ts last) h.0 (front_is_safe ts last h.1 k)

-- digits
digit_is_safe : (d : ℕ) → d < 10 → is_safe (48 + d) ≡ true
digit_is_safe d h = grind (arith, nat_tests)

decimal_is_safe : (n : ℕ) → n < 2 ^ 64 → IsSafe (decimal n)
decimal_is_safe n h =
    decimal_by_steps (λ n ds. IsSafe ds) (λ n h. rw (digit_is_safe n h) refl)
    (λ n ds h k. safe-append ds ((48 + n % 10) ∷ []) k (rw (digit_is_safe (n % 10) (omega arith)) refl)) n h

-- what is shown of a text
byte_is_safe : (b : ℕ) → is_safe (shown_byte b) ≡ true
byte_is_safe b = by (b == 9) (is_in_range 32 126 b) refl
  where
    by : (s t : Bool) → is_in_range 32 126 b ≡ t → is_safe (cond s 32 (cond t b 63)) ≡ true
    by true t e = refl
    by false true e = let other : is_safe b ≡ true = grind (arith, nat_tests) in other
    by false false e = refl

bytes_are_safe : (bs : List ℕ) → IsSafe (map shown_byte bs)
bytes_are_safe [] = refl
bytes_are_safe (b ∷ bs) = ap₂ (λ (s t : Bool). s && t) (byte_is_safe b) (bytes_are_safe bs)

cut_is_safe : (t : Bool) → IsSafe (cut t)
cut_is_safe true = refl
cut_is_safe false = refl

shown_is_safe : (most : ℕ) (text : List ℕ) → IsSafe (shown_text most text)
shown_is_safe most text = safe-append (map shown_byte (take most text)) (cut (nat_lt most (length text))) (bytes_are_safe (take most text)) (cut_is_safe (nat_lt most (length text)))

-- words of the code
kind_is_safe : (value : Data) → IsSafe (kind_text value)
kind_is_safe (string s) = refl
kind_is_safe (integer z) = refl
kind_is_safe (float x) = refl
kind_is_safe (boolean b) = refl
kind_is_safe (datetime dt) = refl
kind_is_safe (array ds) = refl
kind_is_safe (table ms) = refl

before_is_safe : (w : Wanted) → IsSafe (before_key w)
before_is_safe W.Flag = refl
before_is_safe W.Mode = refl
before_is_safe W.Strategy = refl
before_is_safe W.Count = refl
before_is_safe W.Lifecycle = refl
before_is_safe W.Text = refl
before_is_safe W.Table = refl
before_is_safe W.Nothing = refl

takes_is_safe : (w : Wanted) → IsSafe (takes w)
takes_is_safe W.Flag = refl
takes_is_safe W.Mode = refl
takes_is_safe W.Strategy = refl
takes_is_safe W.Count = refl
takes_is_safe W.Lifecycle = refl
takes_is_safe W.Text = refl
takes_is_safe W.Table = refl
takes_is_safe W.Nothing = refl

-- of safe words the nearest is safe
abbrev AllSafe : List (List ℕ) → Type 0
AllSafe words = list_all (list_all is_safe) words ≡ true

put_is_safe : (word : List ℕ) (xs : List (List ℕ)) (x : List ℕ) → AllSafe xs → IsSafe x → AllSafe (put_by_distance word xs x)
put_is_safe word [] x h k = ap₂ (λ (a b : Bool). a && b) k refl
put_is_safe word (y ∷ ys) x h k =
    let parts = both (list_all is_safe y) (list_all (list_all is_safe) ys) h in
    by parts.0 (put_is_safe word ys x parts.1 k) (nat_lt (distance word x) (distance word y))
  where
    by : IsSafe y → AllSafe (put_by_distance word ys x) → (b : Bool) → AllSafe (cond b (x ∷ y ∷ ys) (y ∷ put_by_distance word ys x))
    by first rest true = ap₂ (λ (a b : Bool). a && b) k h
    by first rest false = ap₂ (λ (a b : Bool). a && b) first rest

fold_is_safe : (word : List ℕ) (done xs : List (List ℕ)) → AllSafe done → AllSafe xs → AllSafe (fold (put_by_distance word) done xs)
fold_is_safe word done [] h k = h
fold_is_safe word done (x ∷ xs) h k =
    let parts = both (list_all is_safe x) (list_all (list_all is_safe) xs) k in
    fold_is_safe word (put_by_distance word done x) xs (put_is_safe word done x h parts.0) parts.1

filter_is_safe : (q : List ℕ → Bool) (xs : List (List ℕ)) → AllSafe xs → AllSafe (filter q xs)
filter_is_safe q [] h = refl
filter_is_safe q (x ∷ xs) h =
    let parts = both (list_all is_safe x) (list_all (list_all is_safe) xs) h in
    by parts.0 (filter_is_safe q xs parts.1) (q x)
  where
    by : IsSafe x → AllSafe (filter q xs) → (b : Bool) → AllSafe (cond b (x ∷ filter q xs) (filter q xs))
    by first rest true = ap₂ (λ (a b : Bool). a && b) first rest
    by first rest false = rest

first_is_safe : (xs : List (List ℕ)) → AllSafe xs → IfSome (slice_get xs 0) IsSafe
first_is_safe [] h = tt
first_is_safe (x ∷ xs) h = (both (list_all is_safe x) (list_all (list_all is_safe) xs) h).0

nearest_is_safe : (word : List ℕ) (xs : List (List ℕ)) → AllSafe xs → IfSome (nearest_of word xs) IsSafe
unfolding nearest_of
nearest_is_safe word xs h =
    first_is_safe (near_words word xs) (fold_is_safe word [] (filter (is_near word) xs) refl (filter_is_safe (is_near word) xs h))

words_are_safe : (w : Wanted) → AllSafe (words w)
words_are_safe W.Flag = refl
words_are_safe W.Mode = refl
words_are_safe W.Strategy = refl
words_are_safe W.Count = refl
words_are_safe W.Lifecycle = refl
words_are_safe W.Text = refl
words_are_safe W.Table = refl
words_are_safe W.Nothing = refl

near_is_safe : (word : Option (List ℕ)) (w : Wanted) → IfSome (near word (words w)) IsSafe
near_is_safe None w = tt
near_is_safe (Some word) w = nearest_is_safe word (words w) (words_are_safe w)

-- hints
flag_hint_is_safe : (value : Data) → IfSome (flag_hint value) IsSafe
flag_hint_is_safe (string s) = refl
flag_hint_is_safe (integer z) = tt
flag_hint_is_safe (float x) = tt
flag_hint_is_safe (boolean b) = tt
flag_hint_is_safe (datetime dt) = tt
flag_hint_is_safe (array ds) = tt
flag_hint_is_safe (table ms) = tt

count_hint_is_safe : (value : Data) → IfSome (count_hint value) IsSafe
count_hint_is_safe (string s) = refl
count_hint_is_safe (integer z) = tt
count_hint_is_safe (float x) = refl
count_hint_is_safe (boolean b) = tt
count_hint_is_safe (datetime dt) = tt
count_hint_is_safe (array ds) = tt
count_hint_is_safe (table ms) = tt

key_hint_is_safe : (b : Bool) → IsSafe (cond b (codes "a byte of the text isn't printable ASCII") (codes "a byte of the key isn't printable ASCII"))
key_hint_is_safe true = refl
key_hint_is_safe false = refl

text_hint_is_safe : (key : List ℕ) (value : Data) → IfSome (text_hint key value) IsSafe
text_hint_is_safe key (string s) = key_hint_is_safe (is_printable key)
text_hint_is_safe key (integer z) = refl
text_hint_is_safe key (float x) = refl
text_hint_is_safe key (boolean b) = refl
text_hint_is_safe key (datetime dt) = refl
text_hint_is_safe key (array ds) = refl
text_hint_is_safe key (table ms) = refl

wrong_hint_is_safe : (w : Wanted) (key : List ℕ) (value : Data) → IfSome (wrong_hint w key value) IsSafe
wrong_hint_is_safe W.Flag key value = flag_hint_is_safe value
wrong_hint_is_safe W.Mode key value = tt
wrong_hint_is_safe W.Strategy key value = tt
wrong_hint_is_safe W.Count key value = count_hint_is_safe value
wrong_hint_is_safe W.Lifecycle key value = tt
wrong_hint_is_safe W.Text key value = text_hint_is_safe key value
wrong_hint_is_safe W.Table key value = refl
wrong_hint_is_safe W.Nothing key value = tt

left_out_is_safe : (w : Wanted) → IsSafe (left_out_hint w)
left_out_is_safe W.Flag = refl
left_out_is_safe W.Mode = refl
left_out_is_safe W.Strategy = refl
left_out_is_safe W.Count = refl
left_out_is_safe W.Lifecycle = refl
left_out_is_safe W.Text = refl
left_out_is_safe W.Table = refl
left_out_is_safe W.Nothing = refl

hint_is_safe : (kind : Kind) (w : Wanted) (key : List ℕ) (value : Data) → IfSome (hint kind w key value) IsSafe
hint_is_safe K.Wrong w key value = wrong_hint_is_safe w key value
hint_is_safe K.Unsupported w key value = left_out_is_safe w
hint_is_safe K.OutOfRange w key value = tt

mending_is_safe : (meant hint : Option (List ℕ)) → IfSome meant IsSafe → IfSome hint IsSafe → IsSafe (mending_note meant hint)
mending_is_safe (Some word) hint h k = front_is_safe (codes " = did you mean `" ∷ word ∷ codes "`?\n" ∷ []) [] (refl, (h, (refl, tt))) refl
mending_is_safe None (Some text) h k = front_is_safe (codes " = " ∷ text ∷ codes "\n" ∷ []) [] (refl, (k, (refl, tt))) refl
mending_is_safe None None h k = refl

-- lines
takes_line_is_safe : (w : Wanted) (key : List ℕ) → AreSafe (takes_line w key)
takes_line_is_safe w key = (refl, (before_is_safe w, (shown_is_safe 160 key, (takes_is_safe w, (refl, tt)))))

found_is_safe : (is_long : Bool) (value : Data) (text : List ℕ) → length (unwrap_or (as_str value) []) < 2 ^ 64 → IsSafe (found_text is_long value text)
found_is_safe true value text fits =
    front_is_safe
    (codes " = found: " ∷ shown_text 60 text ∷ codes ", a text of " ∷ decimal (length (unwrap_or (as_str value) [])) ∷ codes " bytes\n" ∷ []) []
    (refl, (shown_is_safe 60 text, (refl, (decimal_is_safe (length (unwrap_or (as_str value) [])) fits, (refl, tt))))) refl
found_is_safe false value text fits =
    front_is_safe (codes " = found: " ∷ shown_text 60 text ∷ codes ", " ∷ kind_text value ∷ codes "\n" ∷ []) []
    (refl, (shown_is_safe 60 text, (refl, (kind_is_safe value, (refl, tt))))) refl

advice_is_safe : (is_long : Bool) (kind : Kind) (w : Wanted) (key : List ℕ) (value : Data) → length key < 2 ^ 64 → IsSafe (advice_text is_long kind w key value)
advice_is_safe true kind w key value fits =
    front_is_safe
    (codes " = " ∷ before_key w ∷ shown_text 160 key ∷ takes w ∷ codes "\n"
    ∷ codes " = the key has " ∷ decimal (length key) ∷ codes " bytes: behind files. or properties. at most 4096\n" ∷ []) []
    (refl, (before_is_safe w, (shown_is_safe 160 key, (takes_is_safe w, (refl, (refl, (decimal_is_safe (length key) fits, (refl, tt)))))))) refl
advice_is_safe false kind w key value fits =
    front_is_safe (takes_line w key) (mending_note (near (subject w key value) (words w)) (hint kind w key value)) (takes_line_is_safe w key)
    (mending_is_safe (near (subject w key value) (words w)) (hint kind w key value) (near_is_safe (subject w key value) w) (hint_is_safe kind w key value))

pub value-is-safe : (kind : Kind) (w : Wanted) (key : List ℕ) (value : Data) (text : List ℕ) → length key < 2 ^ 64 → length (unwrap_or (as_str value) []) < 2 ^ 64
    → IsSafe (value_text kind w key value text)
value-is-safe kind w key value text key_fits text_fits =
    safe-append (found_text (is_long_text kind w) value text) (advice_text (is_long_text kind w) kind w key value)
    (found_is_safe (is_long_text kind w) value text text_fits) (advice_is_safe (is_long_text kind w) kind w key value key_fits)

pub table-is-safe : (w : Wanted) (key : List ℕ) → IsSafe (table_text w key)
table-is-safe w key =
    front_is_safe (codes " = found: a table\n" ∷ takes_line w key) (mending_note (near (subject w key (table no_members)) (words w)) None)
    (refl, takes_line_is_safe w key)
    (mending_is_safe (near (subject w key (table no_members)) (words w)) None (near_is_safe (subject w key (table no_members)) w) tt)

pub twice-is-safe : (key : List ℕ) → IsSafe (twice_text key)
twice-is-safe key =
    front_is_safe
    (codes " = " ∷ shown_text 160 key ∷ codes " stands twice: keep one\n"
    ∷ codes " = a table, dots and quotes may spell the same key: [a] with b = 1, a.b = 1, and \"a.b\" = 1\n" ∷ []) []
    (refl, (shown_is_safe 160 key, (refl, (refl, tt)))) refl
