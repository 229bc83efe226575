-- How the lines are kept: by the nodes themselves, each of which knows the one behind it.
--
-- how lines are kept: Along a line numbers rise, and none stands between two neighbours
-- (`IsLinked`, `AreLinked`, `IsTable`); each line that isn't empty is marked, and has ends
-- (`ends_in`, `HaveRoom`, `AreFilled`). No public clause cites it.
use Rattle.std.specs.Prelude.{◌≡◌, ◌≤◌, ◌<◌, ◌≢◌, ℕ, ◌+◌, ◌*◌, List, Option, None, Some, MatchOption, length, cond, is_some, ◌==◌, map, slice_index, slice_index_or, slice_set}
use Rattle.std.specs.List.{range_with_len}
use Rattle.iso_desk.specs.Lines.{IsLineOf, line_number}
use Rattle.iso_desk.specs.Marking.{has, room}
use Rattle.iso_desk.specs.Places.{line_in, place_of, since_in}
use Rattle.iso_desk.specs.declared.line.Line.{Line}
use Rattle.iso_desk.specs.declared.place.Place.{Place}
use Rattle.iso_desk.specs.declared.ends.Ends.{Ends}
use Rattle.iso_desk.specs.declared.marks.Marks.{Marks}

-- one more than the number of the line that a node is in, or 0
abbrev pub mark_of : Option Line → ℕ
mark_of None = 0
mark_of (Some l) = line_number l + 1

-- the same, by node
abbrev pub mark : List Place → ℕ → ℕ
mark places n = mark_of (line_in (place_of places n))

-- since when a node stands in its line, by node
abbrev pub since : List Place → ℕ → ℕ
since places n = since_in (place_of places n)

-- a line with a first and a last node, by who is in it (at), since when (since) and who is
-- behind whom (next)
pub record IsLinked (at since next : ℕ → ℕ) (i first last : ℕ) : Type 0 where
  pub head : at first ≡ i
  pub tail : at last ≡ i
  pub low : (n : ℕ) → at n ≡ i → since first ≤ since n
  pub high : (n : ℕ) → at n ≡ i → since n ≤ since last
  pub stays : (n : ℕ) → at n ≡ i → n ≢ last → at (next n) ≡ i
  pub rises : (n : ℕ) → at n ≡ i → n ≢ last → since n < since (next n)
  pub close : (n m : ℕ) → at n ≡ i → n ≢ last → at m ≡ i → since n < since m
      → since (next n) ≤ since m

-- a line, with its ends if it has any
abbrev pub IsKept : (ℕ → ℕ) → (ℕ → ℕ) → (ℕ → ℕ) → ℕ → Option Ends → Type 0
IsKept at since next i ends =
    MatchOption ends ((n : ℕ) → at n ≢ i) (λ e. IsLinked at since next i e.first e.last)

-- all lines of a table
pub record AreLinked (workers : ℕ) (places : List Place) (next : List ℕ) (ends : List (Option Ends))
    (clock : ℕ) : Type 0 where
  pub nodes : length next ≡ length places
  pub lines : length ends ≡ 576 * (workers + 1)
  pub known : (n : ℕ) → MatchOption (line_in (place_of places n)) (Unit {0})
      (λ l. IsLineOf workers l)
  pub old : (n : ℕ) → mark places n ≢ 0 → since places n < clock
  pub apart : (n m : ℕ) → mark places n ≢ 0 → mark places m ≢ 0 → since places n
      ≡ since places m → n ≡ m
  pub kept : (i : ℕ) → i < length ends → IsKept (mark places) (since places) (slice_index next)
      (i + 1) (slice_index_or ends i None)

-- the ends of each line, as they are stored: by the marks of the lines in which somebody stands, and
-- by their first and their last nodes
abbrev pub ends_in : Marks → List ℕ → List ℕ → List (Option Ends)
ends_in filled first last =
    map (λ i. cond (has filled i)
    (Some (record { first = slice_index first i; last = slice_index last i })) None)
    (range_with_len 0 (length first))

-- there is room for each line
pub record HaveRoom (filled : Marks) (first last : List ℕ) : Type 0 where
  pub lines : length last ≡ length first
  pub marks : length first ≤ room filled

-- the lines in which somebody stands are marked
pub record AreFilled (ends : List (Option Ends)) (filled : Marks) : Type 0 where
  pub room : length ends ≤ room filled
  pub each : (i : ℕ) → i < length ends → has filled i ≡ is_some (slice_index_or ends i None)

-- the ends of a line that a node joins at its end
abbrev pub longer : Option Ends → ℕ → Ends
longer None n = record { first = n; last = n }
longer (Some e) n = record { first = e.first; last = n }

-- who is behind whom then
abbrev pub linked : Option Ends → ℕ → List ℕ → List ℕ
linked None n next = next
linked (Some e) n next = slice_set next e.last n

-- the ends of a line that a node joins at its front
abbrev pub wider : Option Ends → ℕ → Ends
wider None n = record { first = n; last = n }
wider (Some e) n = record { first = n; last = e.last }

-- who is behind whom then
abbrev pub leading : Option Ends → ℕ → List ℕ → List ℕ
leading None n next = next
leading (Some e) n next = slice_set next n e.first

-- the ends of a line that its first node leaves
abbrev pub shorter : Option Ends → List ℕ → Option Ends
shorter None next = None
shorter (Some e) next = cond (e.first == e.last) None
    (Some (record { first = slice_index next e.first; last = e.last }))

-- the first node of a line, if it has any, is below a number
abbrev pub FirstBelow : Option Ends → ℕ → Type 0
FirstBelow None k = Unit {0}
FirstBelow (Some e) k = e.first < k

-- so is the last one
abbrev pub LastBelow : Option Ends → ℕ → Type 0
LastBelow None k = Unit {0}
LastBelow (Some e) k = e.last < k

-- a table's fields fit together
pub record IsTable (workers : ℕ) (places : List Place) (next : List ℕ) (ends : List (Option Ends))
    (clock front : ℕ) : Type 0 where
  pub order : front ≤ clock
  pub young : (n : ℕ) → mark places n ≢ 0 → front ≤ since places n
  pub linked : AreLinked workers places next ends clock
