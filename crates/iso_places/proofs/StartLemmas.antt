-- Where the lines of a text start, and which line starts where.
use Rattle.std.proofs.Common.{◌≡◌, ◌≢◌, ◌<◌, ◌≤◌, ℕ, zero, suc, ◌+◌, ◌-◌, List, [], ◌∷◌, take, drop, length, get_or, Bool, true, false, not, ◌==◌, cond, nat_lt, Some, None, refl, sym, ap, ◌∙◌, arith}
use Rattle.std.proofs.lemmas.Bool.Decides.{nat_tests}
use Rattle.std.proofs.lemmas.List.{drop-drop, get_or_default, length-drop}
use Rattle.std.specs.List.{position, position_or_len}
use Rattle.std.specs.Str.Lines.{lines, strip_carriage_return}
use Rattle.iso_places.proofs.LineLemmas.{first-line, in-last, past-last}
use Rattle.iso_places.specs.LineStarts.{line_starts, starts_from}
use Rattle.iso_places.specs.SourceLines.{source_line}

abbrev is_feed : ℕ → Bool
is_feed b = b == 10

-- the first line feed of a text that begins at a place, and what starts behind it
record FirstFeed (place : ℕ) (text : List ℕ) (next : ℕ) (more : List ℕ) : Type 0 where
  feed : ℕ
  found : position_or_len is_feed text ≡ feed
  within : feed < length text
  is : next ≡ place + feed + 1
  rest : starts_from next (drop (feed + 1) text) ≡ more

head_is : (a b : ℕ) (xs ys : List ℕ) → a ∷ xs ≡ b ∷ ys → a ≡ b
head_is a b xs ys h = cc

tail_is : (a b : ℕ) (xs ys : List ℕ) → a ∷ xs ≡ b ∷ ys → xs ≡ ys
tail_is a b xs ys h = cc

feed_by : (place x : ℕ) (xs : List ℕ) (next : ℕ) (more : List ℕ) (b : Bool) → is_feed x ≡ b
    → cond b ((place + 1) ∷ starts_from (place + 1) xs) (starts_from (place + 1) xs) ≡ next ∷ more
    → (starts_from (place + 1) xs ≡ next ∷ more → FirstFeed (place + 1) xs next more)
    → FirstFeed place (x ∷ xs) next more
feed_by place x xs next more true e h below =
    let here = head_is (place + 1) next (starts_from (place + 1) xs) more h in
    record {
      feed = 0;
      found = ap (λ (t : Bool). cond (not t) (1 + position_or_len is_feed xs) 0) e;
      within = omega arith;
      is = omega arith;
      rest = ap (λ (at : ℕ). starts_from at xs) (sym here) ∙ tail_is (place + 1) next (starts_from (place + 1) xs) more h;
    }
feed_by place x xs next more false e h below =
    let r = below h in
    let within = r.within in
    let is = r.is in
    let one : 1 + r.feed ≡ suc r.feed = omega arith in
    let on : suc r.feed + 1 ≡ suc (r.feed + 1) = omega arith in
    record {
      feed = suc r.feed;
      found = ap (λ (t : Bool). cond (not t) (1 + position_or_len is_feed xs) 0) e ∙ ap (λ (n : ℕ). 1 + n) r.found ∙ one;
      within = omega arith;
      is = omega arith;
      rest = ap (λ (n : ℕ). starts_from next (drop n (x ∷ xs))) on ∙ r.rest;
    }

first_feed : (place : ℕ) (text : List ℕ) (next : ℕ) (more : List ℕ) → starts_from place text ≡ next ∷ more → FirstFeed place text next more
first_feed place [] next more h = absurd (cc)
first_feed place (x ∷ xs) next more h = feed_by place x xs next more (is_feed x) refl h (first_feed (place + 1) xs next more)

-- a text in which nothing starts has no line feed
none_by : (place x : ℕ) (xs : List ℕ) (b : Bool) → cond b ((place + 1) ∷ starts_from (place + 1) xs) (starts_from (place + 1) xs) ≡ []
    → (starts_from (place + 1) xs ≡ [] → length xs ≤ position_or_len is_feed xs)
    → suc (length xs) ≤ cond (not b) (1 + position_or_len is_feed xs) 0
none_by place x xs true h below = absurd (cc)
none_by place x xs false h below = let l = below h in omega arith

no_feed : (place : ℕ) (text : List ℕ) → starts_from place text ≡ [] → length text ≤ position_or_len is_feed text
no_feed place [] h = omega arith
no_feed place (x ∷ xs) h = none_by place x xs (is_feed x) h (no_feed (place + 1) xs)

position_is : (text : List ℕ) (e : ℕ) → position_or_len is_feed text ≡ e → e < length text → position (λ b. b == 10) text ≡ Some e
position_is text e h less =
    let within : nat_lt (position_or_len is_feed text) (length text) ≡ true = grind (arith, nat_tests) in
    rw within (ap Some h)

position_none : (text : List ℕ) → length text ≤ position_or_len is_feed text → position (λ b. b == 10) text ≡ None
position_none text h =
    let beyond : nat_lt (position_or_len is_feed text) (length text) ≡ false = grind (arith, nat_tests) in
    rw beyond refl

-- of a text whose lines start at these places from one of them on: where a line starts, and what it is
record AtLine (text : List ℕ) (start : ℕ) (more : List ℕ) (k : ℕ) : Type 0 where
  fits : k ≤ length more → get_or (start ∷ more) k 0 ≤ length text
  less : k < length more → get_or (start ∷ more) k 0 < get_or more k 0
  next : k < length more → get_or more k 0 ≤ length text
  ended : k < length more
      → get_or (lines (drop start text)) k []
      ≡ strip_carriage_return (take (get_or more k 0 - 1 - get_or (start ∷ more) k 0) (drop (get_or (start ∷ more) k 0) text))
  last : k ≡ length more → get_or (lines (drop start text)) k [] ≡ drop (get_or (start ∷ more) k 0) text
  past : length more < k → get_or (lines (drop start text)) k [] ≡ []

at_line : (text more : List ℕ) (start k : ℕ) → start ≤ length text → starts_from start (drop start text) ≡ more → AtLine text start more k
at_line text [] start zero low h =
    record {
      fits = λ _. low;
      less = λ l. absurd (omega arith);
      next = λ l. absurd (omega arith);
      ended = λ l. absurd (omega arith);
      last = λ _. in-last (drop start text) (position_none (drop start text) (no_feed start (drop start text) h));
      past = λ l. absurd (omega arith);
    }
at_line text [] start (suc k) low h =
    record {
      fits = λ l. absurd (omega arith);
      less = λ l. absurd (omega arith);
      next = λ l. absurd (omega arith);
      ended = λ l. absurd (omega arith);
      last = λ l. absurd (omega arith);
      past = λ _. past-last (drop start text) k (position_none (drop start text) (no_feed start (drop start text) h));
    }
at_line text (n ∷ ns) start zero low h =
    let rest = drop start text in
    let f = first_feed start rest n ns h in
    let size = length-drop start text in
    let within = f.within in
    let is = f.is in
    let found = position_is rest f.feed f.found f.within in
    let width : f.feed ≡ n - 1 - start = omega arith in
    record {
      fits = λ _. low;
      less = λ _. omega arith;
      next = λ _. omega arith;
      ended = λ _.
          ap (λ (ls : List (List ℕ)). get_or ls 0 []) (first-line rest f.feed found) ∙ ap (λ (w : ℕ). strip_carriage_return (take w rest)) width;
      last = λ l. absurd (omega arith);
      past = λ l. absurd (omega arith);
    }
at_line text (n ∷ ns) start (suc k) low h =
    let rest = drop start text in
    let f = first_feed start rest n ns h in
    let size = length-drop start text in
    let within = f.within in
    let is = f.is in
    let found = position_is rest f.feed f.found f.within in
    let behind : drop (f.feed + 1) rest ≡ drop n text = drop-drop (f.feed + 1) start text ∙ ap (λ (m : ℕ). drop m text) (omega arith) in
    let same = ap (λ (ls : List (List ℕ)). get_or ls (suc k) []) (first-line rest f.feed found) ∙ ap (λ (t : List ℕ). get_or (lines t) k []) behind in
    let fits : n ≤ length text = omega arith in
    let i = at_line text ns n k fits (ap (starts_from n) (sym behind) ∙ f.rest) in
    record {
      fits = λ l. i.fits (omega arith);
      less = λ l. i.less (omega arith);
      next = λ l. i.next (omega arith);
      ended = λ l. same ∙ i.ended (omega arith);
      last = λ l. same ∙ i.last (omega arith);
      past = λ l. same ∙ i.past (omega arith);
    }

-- The line of a number, by the places where lines start: it starts at the one before, and ends before the next.
pub record FoundLine (text : List ℕ) (n : ℕ) : Type 0 where
  pub fits : n ≤ length (line_starts text) → get_or (line_starts text) (n - 1) 0 ≤ length text
  pub less : n < length (line_starts text) → get_or (line_starts text) (n - 1) 0 < get_or (line_starts text) n 0
  pub next : n < length (line_starts text) → get_or (line_starts text) n 0 ≤ length text
  pub ended : n < length (line_starts text)
      → strip_carriage_return (take (get_or (line_starts text) n 0 - 1 - get_or (line_starts text) (n - 1) 0) (drop (get_or (line_starts text) (n - 1) 0) text))
      ≡ source_line text n
  pub last : n ≡ length (line_starts text) → drop (get_or (line_starts text) (n - 1) 0) text ≡ source_line text n
  pub past : length (line_starts text) < n → [] ≡ source_line text n

pub found-line : (text : List ℕ) (n : ℕ) → n ≢ 0 → FoundLine text n
found-line text zero h = absurd (h refl)
found-line text (suc k) h =
    let i = at_line text (starts_from 0 text) 0 k (omega arith) refl in
    let above : suc k - 1 ≡ k = omega arith in
    record {
      fits = λ l. rw above (i.fits (omega arith));
      less = λ l. rw above (i.less (omega arith));
      next = λ l. i.next (omega arith);
      ended = λ l. rw above (sym (i.ended (omega arith)));
      last = λ l. rw above (sym (i.last (omega arith)));
      past = λ l. sym (i.past (omega arith));
    }

-- what is read of a table of a text at a number
pub place-read : (text starts : List ℕ) (n place : ℕ) → starts ≡ line_starts text → n < length starts → place ≡ get_or starts n place → place ≡ get_or (line_starts text) n 0
place-read text starts n place are within read =
    read ∙ get_or_default starts n place 0 within ∙ ap (λ (ss : List ℕ). get_or ss n 0) are
