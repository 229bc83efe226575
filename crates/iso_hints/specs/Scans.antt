-- Where the statement at a place begins, and where it ends so far, beside texts and comments.
use Rattle.std.specs.Prelude.{◌≡◌, ℕ, ◌+◌, ◌<◌, ◌≤◌, List, Bool, true, false, ◌&&◌, ◌==◌, cond, fold, length, not, slice_index, take}
use Rattle.iso_hints.specs.Bytes.{ends_statement, is_blank}
use Rattle.iso_hints.specs.declared.scan.Inside.{Inside}
use Rattle.iso_hints.specs.declared.scan.Inside.TheVariants.{Code, Text, Escape, Comment}
use Rattle.iso_hints.specs.declared.scan.Seen.{Seen}

-- what follows a byte: a quote begins and ends a text, a slash begins a comment, and a line feed
-- ends it
abbrev pub inside_next : Inside → ℕ → Inside
inside_next Code b = cond (b == 34) Text (cond (b == 47) Comment Code)
inside_next Text b = cond (b == 34) Code (cond (b == 92) Escape Text)
inside_next Escape b = Text
inside_next Comment b = cond (b == 10) Code Comment

-- the byte is of a token: neither a blank nor of a comment
abbrev pub is_of_token : Inside → ℕ → Bool
is_of_token Code b = not (is_blank b) && not (b == 47)
is_of_token Text b = true
is_of_token Escape b = true
is_of_token Comment b = false

-- the byte is a `;`, `{` or `}` that ends a statement or a head
abbrev pub ends_here : Inside → ℕ → Bool
ends_here Code b = ends_statement b
ends_here Text b = false
ends_here Escape b = false
ends_here Comment b = false

-- where the statement begins that is begun behind a byte of a token: behind what ends one, or at
-- the byte where none was begun
abbrev pub start_behind : Seen → ℕ → ℕ
start_behind seen b = cond (ends_here seen.inside b) (seen.passed + 1)
    (cond (seen.start == seen.end) seen.passed seen.start)

-- what is known behind one byte more
abbrev pub step : Seen → ℕ → Seen
step seen b =
    record {
      passed = seen.passed + 1;
      start = cond (is_of_token seen.inside b) (start_behind seen b) seen.start;
      end = cond (is_of_token seen.inside b) (seen.passed + 1) seen.end;
      inside = inside_next seen.inside b;
    }

abbrev pub nothing_passed : Seen
nothing_passed = record { passed = 0; start = 0; end = 0; inside = Code }

-- what is known of these bytes
abbrev pub scan_of : List ℕ → Seen
scan_of bytes = fold step nothing_passed bytes

-- what is known behind `n` bytes more of a token, which begins with the first of them where
-- none is begun
abbrev pub past_token : Seen → ℕ → Seen
past_token seen n =
    cond (n == 0) seen record {
      passed = seen.passed + n;
      start = cond (seen.start == seen.end) seen.passed seen.start;
      end = seen.passed + n;
      inside = seen.inside;
    }

-- what is known behind `n` bytes more that are of no token
abbrev pub past_others : Seen → ℕ → Seen
past_others seen n =
    record { passed = seen.passed + n; start = seen.start; end = seen.end; inside = seen.inside }

-- a byte that is of a token, or of none, ends no statement, and is followed by what it stands in
pub record GoesOn (inside : Inside) (of_token : Bool) (b : ℕ) : Type 0 where
  pub same : inside_next inside b ≡ inside
  pub token : is_of_token inside b ≡ of_token
  pub ends : ends_here inside b ≡ false

-- the first `n` bytes go on so
pub record IsRun (inside : Inside) (of_token : Bool) (bytes : List ℕ) (n : ℕ) : Type 0 where
  pub within : n ≤ length bytes
  pub each : (k : ℕ) → k < n → GoesOn inside of_token (slice_index bytes k)

-- it is known behind some of these bytes
pub record IsBehind (seen : Seen) (bytes : List ℕ) (next : Seen) : Type 0 where
  pub count : ℕ
  pub within : count ≤ length bytes
  pub is : next ≡ fold step seen (take count bytes)
