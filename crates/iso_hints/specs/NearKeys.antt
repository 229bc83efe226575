-- The known key that is nearest to one that is unknown.
use Rattle.std.specs.Prelude.{ℕ, ◌+◌, List, [], ◌∷◌, Bool, ◌&&◌, ◌==◌, not, if◌then◌else◌, bytes_eq, cond, length, nat_le, nat_lt, Option, None, Some}
use Rattle.std.specs.List.{after_first, position_or_len}
use Rattle.iso_hints.specs.Nearest.{distance, is_near}
use Rattle.iso_hints.specs.declared.nearest.Near.{Near}

-- what two keys have behind the last dot up to which they are the same, by what is still to be
-- compared, and what both have behind the last dot so far
abbrev pub rests_from : (key known : List ℕ) → (left known_left : List ℕ) → List ℕ × List ℕ
rests_from key known (x ∷ xs) (y ∷ ys) =
    if not (x == y) then (key, known)
    else if x == 46 then rests_from xs ys xs ys
    else rests_from key known xs ys
rests_from key known left known_left = (key, known)

-- what two keys have behind the last dot up to which they are the same: all of both where there is
-- none
abbrev pub rests : List ℕ → List ℕ → List ℕ × List ℕ
rests key known = rests_from key known key known

-- the byte is a dot
abbrev pub is_dot : ℕ → Bool
is_dot b = b == 46

-- a known key is a segment, a dot and this key: the segment is left out
abbrev pub lacks_segment : List ℕ → List ℕ → Bool
lacks_segment key known = nat_lt (position_or_len is_dot known) (length known)
    && bytes_eq (after_first is_dot known) key

-- how far a key is from a known one, if it is near enough: as many bytes as are left out, or by the
-- distance of words
abbrev pub rest_distance : List ℕ → List ℕ → Option ℕ
rest_distance key known =
    cond (lacks_segment key known) (Some (position_or_len is_dot known + 1))
    (cond (is_near key known) (Some (distance key known)) None)

-- the same by what both have behind the last dot up to which they are the same
abbrev pub key_distance : List ℕ → List ℕ → Option ℕ
key_distance key known = rest_distance (rests key known).0 (rests key known).1

-- of a key and one more with its distance the nearer, of equal ones the first
abbrev pub nearer : Option (List ℕ × ℕ) → List ℕ → Option ℕ → Option (List ℕ × ℕ)
nearer best known None = best
nearer None known (Some d) = Some (known, d)
nearer (Some best) known (Some d) = cond (nat_le best.1 d) (Some best) (Some (known, d))

-- of a key and these known ones the nearest, of equal ones the first
abbrev pub nearest_from : List ℕ → Option (List ℕ × ℕ) → List (List ℕ) → Option (List ℕ × ℕ)
nearest_from key best [] = best
nearest_from key best (known ∷ more) =
    nearest_from key (nearer best known (key_distance key known)) more

-- a key and its distance, as the code has them
abbrev pub measured : Near → List ℕ × ℕ
measured near = (near.word.now, near.distance)
