-- A shell reads back what was quoted for it.
use Rattle.std.proofs.Common.{◌≡◌, ◌<◌, ◌^◌, ◌%◌, ℕ, suc, ◌+◌, List, [], ◌∷◌, ◌++◌, Option, None, Some, Bool, true, false, ◌&&◌, ◌==◌, cond, drop, not, length, codes, refl, sym, ap, ap₂, ◌∙◌, true≢false, arith, append_assoc, append-nil}
use Rattle.std.proofs.lemmas.Bool.Decides.{nat_tests}
use Rattle.std.proofs.lemmas.Fmt.{decimal_by_steps}
use Rattle.std.proofs.lemmas.List.Folds.{list_all-append}
use Rattle.std.specs.Char.{is_ascii_digit}
use Rattle.std.specs.Fmt.{decimal}
use Rattle.std.specs.List.{flat_map, list_all}
use Rattle.std.specs.Option.{IfSome}
use Rattle.iso_summary.specs.Entries.{command_line}
use Rattle.iso_summary.specs.Lines.{file_option, number_option}
use Rattle.iso_summary.specs.Shells.{between_quotes, between_words, command_words, file_words, in_word, named_file, number_words, read_from, read_words, with_byte, with_word}
use Rattle.iso_summary.specs.Views.{AgainView, LocatedView}
use Rattle.iso_summary.specs.Words.{begins_with_dash, file_word, in_quotes, is_plain, is_plain_word, shell_word}

-- a plain byte is none that means something
plain_is : (b n : ℕ) → is_plain n ≡ false → is_plain b ≡ true → (b == n) ≡ false
plain_is b n odd h = by (b == n) refl
  where
    by : (t : Bool) → (b == n) ≡ t → (b == n) ≡ false
    by true e = let same : b ≡ n = grind (arith, nat_tests) in absurd (true≢false (sym h ∙ ap is_plain same ∙ odd))
    by false e = e

both : (a b : Bool) → (a && b) ≡ true → (a ≡ true) × (b ≡ true)
both true b h = (refl, h)
both false b h = absurd (true≢false (sym h))

-- bytes more at the beginning of the first word
abbrev with_text : List ℕ → Option (List (List ℕ)) → Option (List (List ℕ))
with_text [] words = words
with_text (b ∷ bs) words = with_byte b (with_text bs words)

with_more : (word more : List ℕ) (words : Option (List (List ℕ))) → with_text (word ++ more) words ≡ with_text word (with_text more words)
with_more [] more words = refl
with_more (b ∷ bs) more words = ap (with_byte b) (with_more bs more words)

with_first : (word w : List ℕ) (ws : List (List ℕ)) → with_text word (Some (w ∷ ws)) ≡ Some ((word ++ w) ∷ ws)
with_first [] w ws = refl
with_first (b ∷ bs) w ws = ap (with_byte b) (with_first bs w ws)

-- plain bytes stand for themselves
plain_run : (word t : List ℕ) → list_all is_plain word ≡ true → read_from in_word (word ++ t) ≡ with_text word (read_from in_word t)
plain_run [] t h = refl
plain_run (b ∷ bs) t h =
    let p = both (is_plain b) (list_all is_plain bs) h in
    rw (plain_is b 10 refl p.0, plain_is b 32 refl p.0, plain_is b 39 refl p.0, plain_is b 92 refl p.0, p.0, plain_run bs t p.1) refl

-- and they begin a word
plain_word : (word t : List ℕ) → is_plain_word word ≡ true → read_from between_words (word ++ t) ≡ with_text word (read_from in_word t)
plain_word [] t h = absurd (true≢false (sym h))
plain_word (b ∷ bs) t h =
    let q = both (list_all is_plain (b ∷ bs)) (not (length (b ∷ bs) == 0)) h in
    let p = both (is_plain b) (list_all is_plain bs) q.0 in
    rw (plain_is b 10 refl p.0, plain_is b 32 refl p.0, plain_is b 39 refl p.0, plain_is b 92 refl p.0, p.0, plain_run bs t p.1) refl

-- bytes between quotes stand for themselves
quoted_run : (word t : List ℕ) → read_from between_quotes (flat_map in_quotes word ++ 39 ∷ t) ≡ with_text word (read_from in_word t)
quoted_run [] t = refl
quoted_run (b ∷ bs) t = by (b == 39) refl (quoted_run bs t)
  where
    by : (q : Bool) → (b == 39) ≡ q → read_from between_quotes (flat_map in_quotes bs ++ 39 ∷ t) ≡ with_text bs (read_from in_word t)
        → read_from between_quotes ((cond q (codes "'\\''") (b ∷ []) ++ flat_map in_quotes bs) ++ 39 ∷ t) ≡ with_text (b ∷ bs) (read_from in_word t)
    by true e rest = let same : b ≡ 39 = grind (arith, nat_tests) in rw (rest, same) refl
    by false e rest = rw (e, rest) refl

-- a quoted word, at the beginning of one or in it
in_quotes_all : (word t : List ℕ) → (codes "'" ++ flat_map in_quotes word ++ codes "'") ++ t ≡ 39 ∷ (flat_map in_quotes word ++ 39 ∷ t)
in_quotes_all word t = ap (λ (bs : List ℕ). 39 ∷ bs) (append_assoc (flat_map in_quotes word) (codes "'") t)

begin_word : (word t : List ℕ) → read_from between_words (shell_word word ++ t) ≡ with_text word (read_from in_word t)
begin_word word t = by (is_plain_word word) refl
  where
    by : (p : Bool) → is_plain_word word ≡ p
        → read_from between_words (cond p word (codes "'" ++ flat_map in_quotes word ++ codes "'") ++ t) ≡ with_text word (read_from in_word t)
    by true e = plain_word word t e
    by false e = ap (read_from between_words) (in_quotes_all word t) ∙ quoted_run word t

go_on_word : (word t : List ℕ) → read_from in_word (shell_word word ++ t) ≡ with_text word (read_from in_word t)
go_on_word word t = by (is_plain_word word) refl
  where
    by : (p : Bool) → is_plain_word word ≡ p
        → read_from in_word (cond p word (codes "'" ++ flat_map in_quotes word ++ codes "'") ++ t) ≡ with_text word (read_from in_word t)
    by true e = plain_run word t (both (list_all is_plain word) (not (length word == 0)) e).0
    by false e = ap (read_from in_word) (in_quotes_all word t) ∙ quoted_run word t

begin_file : (name t : List ℕ) → read_from between_words (file_word name ++ t) ≡ with_text (named_file name) (read_from in_word t)
begin_file name t = by (begins_with_dash name)
  where
    by : (d : Bool) → read_from between_words ((cond d (codes "./") [] ++ shell_word name) ++ t) ≡ with_text (cond d (codes "./") [] ++ name) (read_from in_word t)
    by true = ap (with_text (codes "./")) (go_on_word name t)
    by false = begin_word name t

-- What follows a word reads as these words.
abbrev FollowsAs : List ℕ → List (List ℕ) → Type 0
FollowsAs t ws = read_from in_word t ≡ Some ([] ∷ ws)

-- a word and what follows it
reads_word : (text word t : List ℕ) (ws : List (List ℕ)) → read_from between_words (text ++ t) ≡ with_text word (read_from in_word t)
    → FollowsAs t ws → read_from between_words (text ++ t) ≡ Some (word ∷ ws)
reads_word text word t ws h k = h ∙ ap (with_text word) k ∙ with_first word [] ws ∙ ap (λ (w : List ℕ). Some (w ∷ ws)) (append-nil word)

next_word : (text word t : List ℕ) (ws : List (List ℕ)) → read_from between_words (text ++ t) ≡ with_text word (read_from in_word t)
    → FollowsAs t ws → FollowsAs (32 ∷ (text ++ t)) (word ∷ ws)
next_word text word t ws h k = ap (with_word []) (reads_word text word t ws h k)

pub read-back : (word : List ℕ) → read_words (shell_word word) ≡ Some (word ∷ [])
read-back word = ap read_words (sym (append-nil (shell_word word))) ∙ reads_word (shell_word word) word [] [] (begin_word word []) refl

some : (n : ℕ) → not (suc n == 0) ≡ true
some n = let more : (suc n == 0) ≡ false = grind (arith, nat_tests) in ap not more

-- a number's digits are plain
digit_is_plain : (n : ℕ) → n < 10 → is_plain (48 + n) ≡ true
digit_is_plain n h = let digit : is_ascii_digit (48 + n) ≡ true = grind (arith, nat_tests) in rw digit refl

decimal_is_plain : (n : ℕ) → n < 2 ^ 64 → is_plain_word (decimal n) ≡ true
decimal_is_plain n h =
    decimal_by_steps (λ n ds. is_plain_word ds ≡ true) (λ n h. rw (digit_is_plain n h) refl) (λ n ds h k. more ds (48 + n % 10) k (digit_is_plain (n % 10) (omega arith))) n h
  where
    more : (ds : List ℕ) (d : ℕ) → is_plain_word ds ≡ true → is_plain d ≡ true → is_plain_word (ds ++ d ∷ []) ≡ true
    more [] d h k = absurd (true≢false (sym h))
    more (b ∷ bs) d h k =
        let p = both (list_all is_plain (b ∷ bs)) (not (length (b ∷ bs) == 0)) h in
        let all = list_all-append is_plain (b ∷ bs) (d ∷ []) ∙ ap₂ (λ (x y : Bool). x && (y && true)) p.0 k in
        ap₂ (λ (x y : Bool). x && y) all (some (length (bs ++ d ∷ [])))

-- an option with its word
option_text : (option word t : List ℕ) → ((32 ∷ (option ++ 32 ∷ [])) ++ word) ++ t ≡ 32 ∷ (option ++ 32 ∷ (word ++ t))
option_text option word t = ap (λ (bs : List ℕ). 32 ∷ bs) (append_assoc (option ++ 32 ∷ []) word t ∙ append_assoc option (32 ∷ []) (word ++ t))

file_follows : (option : List ℕ) → is_plain_word option ≡ true → (file : Option (List ℕ)) (t : List ℕ) (ws : List (List ℕ)) → FollowsAs t ws
    → FollowsAs (file_option (32 ∷ (option ++ 32 ∷ [])) file ++ t) (file_words option file ++ ws)
file_follows option plain None t ws h = h
file_follows option plain (Some name) t ws h =
    let rest : List ℕ = 32 ∷ (file_word name ++ t) in
    ap (read_from in_word) (option_text option (file_word name) t)
    ∙ next_word option option rest (named_file name ∷ ws) (plain_word option rest plain) (next_word (file_word name) (named_file name) t ws (begin_file name t) h)

number_follows : (option : List ℕ) → is_plain_word option ≡ true → (number : Option ℕ) → IfSome number (λ n. n < 2 ^ 64) → (t : List ℕ) (ws : List (List ℕ)) → FollowsAs t ws
    → FollowsAs (number_option (32 ∷ (option ++ 32 ∷ [])) number ++ t) (number_words option number ++ ws)
number_follows option plain None fits t ws h = h
number_follows option plain (Some n) fits t ws h =
    let rest : List ℕ = 32 ∷ (decimal n ++ t) in
    ap (read_from in_word) (option_text option (decimal n) t)
    ∙ next_word option option rest (decimal n ∷ ws) (plain_word option rest plain) (next_word (decimal n) (decimal n) t ws (plain_word (decimal n) t (decimal_is_plain n fits)) h)

pub command-back : (again : AgainView) (at : LocatedView) (path : List ℕ) → is_plain_word path ≡ true → IfSome again.processors (λ n. n < 2 ^ 64)
    → read_words (drop 9 (command_line again at path)) ≡ Some (command_words again at path)
command-back again at path plain fits =
    let file : List ℕ = at.file in
    let last : List ℕ = 32 ∷ (file_word file ++ codes "\n") in
    let kept : List ℕ = 32 ∷ (path ++ last) in
    let only : List ℕ = 32 ∷ (codes "--only" ++ kept) in
    let processors : List ℕ = number_option (codes " --processors ") again.processors ++ only in
    let world : List ℕ = file_option (codes " --world ") again.world ++ processors in
    let settings : List ℕ = file_option (codes " --settings ") again.settings ++ world in
    let kept_words : List (List ℕ) = codes "--only" ∷ path ∷ named_file file ∷ [] in
    let processor_words : List (List ℕ) = number_words (codes "--processors") again.processors ++ kept_words in
    let world_words : List (List ℕ) = file_words (codes "--world") again.world ++ processor_words in
    let words : List (List ℕ) = file_words (codes "--settings") again.settings ++ world_words in
    let of_file = next_word (file_word file) (named_file file) (codes "\n") [] (begin_file file (codes "\n")) refl in
    let of_path = next_word path path last (named_file file ∷ []) (plain_word path last plain) of_file in
    let of_only = next_word (codes "--only") (codes "--only") kept (path ∷ named_file file ∷ []) (plain_word (codes "--only") kept refl) of_path in
    let of_processors = number_follows (codes "--processors") refl again.processors fits only kept_words of_only in
    let of_world = file_follows (codes "--world") refl again.world processors processor_words of_processors in
    let of_settings = file_follows (codes "--settings") refl again.settings world world_words of_world in
    let of_run = next_word (codes "run") (codes "run") settings words (plain_word (codes "run") settings refl) of_settings in
    let rest : List ℕ = 32 ∷ (codes "run" ++ settings) in
    reads_word (codes "jtap") (codes "jtap") rest (codes "run" ∷ words) (plain_word (codes "jtap") rest refl) of_run
