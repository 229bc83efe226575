-- The lines of a file, of which one ends at a line feed.
use Rattle.std.proofs.Common.{length-drop, get_or-drop, not, ◌≡◌, ℕ, zero, suc, ◌+◌, ◌-◌, ◌<◌, ◌≤◌, List, [], ◌∷◌, ◌++◌, take, drop, filter, length, get_or, Bool, true, false, ◌==◌, cond, refl, sym, ap, ◌∙◌, arith}
use Rattle.std.proofs.lemmas.Bool.Decides.{nat_tests}
use Rattle.std.proofs.lemmas.List.{drop-drop, get_or_default}
use Rattle.std.specs.List.{onto_first, slice_split}
use Rattle.std.specs.Str.Lines.{lines, lines_of_parts, strip_carriage_return}
use Rattle.iso_selection.specs.Lists.{has_bytes}

abbrev is_feed : ℕ → Bool
is_feed b = b == 10

-- no byte from one place on and before another is a line feed
pub record IsLine (file : List ℕ) (begin end : ℕ) : Type 0 where
  pub plain : (k d : ℕ) → begin ≤ k → k < end → (get_or file k d == 10) ≡ false

-- the parts of a text have a first one
record HasFirst (parts : List (List ℕ)) : Type 0 where
  first : List ℕ
  more : List (List ℕ)
  is : parts ≡ first ∷ more

has_onto : (x : ℕ) (parts : List (List ℕ)) → HasFirst parts → HasFirst (onto_first x parts)
has_onto x parts h = record { first = x ∷ h.first; more = h.more; is = ap (onto_first x) h.is }

has_by : (x : ℕ) (parts : List (List ℕ)) (b : Bool) → HasFirst parts → HasFirst (cond b ([] ∷ parts) (onto_first x parts))
has_by x parts true h = record { first = []; more = parts; is = refl }
has_by x parts false h = has_onto x parts h

has_first : (text : List ℕ) → HasFirst (slice_split is_feed text)
has_first [] = record { first = []; more = []; is = refl }
has_first (x ∷ xs) = has_by x (slice_split is_feed xs) (is_feed x) (has_first xs)

split-step : (x : ℕ) (xs : List ℕ) → is_feed x ≡ false → slice_split is_feed (x ∷ xs) ≡ onto_first x (slice_split is_feed xs)
split-step x xs e = ap (λ (b : Bool). cond b ([] ∷ slice_split is_feed xs) (onto_first x (slice_split is_feed xs))) e

-- the first part of a text with a line feed after n bytes that are none
split-at : (n : ℕ) (text : List ℕ) → n < length text → ((k d : ℕ) → k < n → is_feed (get_or text k d) ≡ false) → is_feed (get_or text n 0) ≡ true
    → slice_split is_feed text ≡ take n text ∷ slice_split is_feed (drop (n + 1) text)
split-at n [] h plain feed = absurd (omega arith)
split-at zero (x ∷ xs) h plain feed = ap (λ (b : Bool). cond b ([] ∷ slice_split is_feed xs) (onto_first x (slice_split is_feed xs))) feed
split-at (suc n) (x ∷ xs) h plain feed =
    split-step x xs (plain 0 0 (omega arith))
    ∙ ap (onto_first x) (split-at n xs (omega arith) (λ k d less. plain (suc k) d (omega arith)) feed)
    ∙ ap (λ (m : ℕ). (x ∷ take n xs) ∷ slice_split is_feed (drop m (x ∷ xs))) next
  where
    next : suc (n + 1) ≡ suc n + 1
    next = omega arith

split-none : (text : List ℕ) → ((k d : ℕ) → k < length text → is_feed (get_or text k d) ≡ false) → slice_split is_feed text ≡ text ∷ []
split-none [] plain = refl
split-none (x ∷ xs) plain = split-step x xs (plain 0 0 (omega arith)) ∙ ap (onto_first x) (split-none xs (λ k d less. plain (suc k) d (omega arith)))

-- a line that ends at a line feed is the first
lines-first : (line rest first : List ℕ) (more : List (List ℕ)) → slice_split is_feed rest ≡ first ∷ more → lines_of_parts (line ∷ slice_split is_feed rest) ≡ strip_carriage_return line ∷ lines rest
lines-first line rest first more e =
    ap (λ (parts : List (List ℕ)). lines_of_parts (line ∷ parts)) e ∙ ap (λ (parts : List (List ℕ)). strip_carriage_return line ∷ lines_of_parts parts) (sym e)

module _ (file : List ℕ) (begin : ℕ) where
  in_rest : (at : ℕ) → begin ≤ at → at < length file → IsLine file begin at → (k d : ℕ) → k < at - begin → is_feed (get_or (drop begin file) k d) ≡ false
  in_rest at h less line k d low = ap is_feed (get_or-drop begin file k d) ∙ line.plain (begin + k) d (omega arith) (omega arith)

  -- a line feed at a place ends a line there
  pub lines-at : (at d : ℕ) → begin ≤ at → at < length file → IsLine file begin at → get_or file at d ≡ 10
      → lines (drop begin file) ≡ strip_carriage_return (take (at - begin) (drop begin file)) ∷ lines (drop (at + 1) file)
  lines-at at d h less line feed =
      let rest = drop begin file in
      let long : length rest ≡ length file - begin = length-drop begin file in
      let here : get_or rest (at - begin) 0 ≡ 10 =
      get_or-drop begin file (at - begin) 0 ∙ ap (λ (k : ℕ). get_or file k 0) (omega arith) ∙ get_or_default file at 0 d less ∙ feed in
      let is : is_feed (get_or rest (at - begin) 0) ≡ true = grind (arith, nat_tests) in
      let next : drop (at - begin + 1) rest ≡ drop (at + 1) file = drop-drop (at - begin + 1) begin file ∙ ap (λ (k : ℕ). drop k file) (omega arith) in
      let first = has_first (drop (at + 1) file) in
      ap lines_of_parts (split-at (at - begin) rest (omega arith) (in_rest at h less line) is ∙ ap (λ (r : List ℕ). take (at - begin) rest ∷ slice_split is_feed r) next)
      ∙ lines-first (take (at - begin) rest) (drop (at + 1) file) first.first first.more first.is

  -- and where none is left the rest is the last line, if it has a byte
  pub lines-last : IsLine file begin (length file) → begin ≤ length file → lines (drop begin file) ≡ cond (length (drop begin file) == 0) [] (drop begin file ∷ [])
  lines-last line h =
      let long : length (drop begin file) ≡ length file - begin = length-drop begin file in
      ap lines_of_parts (split-none (drop begin file) (λ k d low. ap is_feed (get_or-drop begin file k d) ∙ line.plain (begin + k) d (omega arith) (omega arith)))

has_last : (text : List ℕ) (b : Bool) → (length text == 0) ≡ b → filter has_bytes (cond b [] (text ∷ [])) ≡ filter has_bytes (text ∷ [])
has_last text true e = sym (ap (λ (t : Bool). cond (not t) (text ∷ []) []) e)
has_last text false e = refl

pub kept-last : (text : List ℕ) → filter has_bytes (cond (length text == 0) [] (text ∷ [])) ≡ filter has_bytes (text ∷ [])
kept-last text = has_last text (length text == 0) refl

kept_one : (x : List ℕ) (b : Bool) (xs : List (List ℕ)) → cond b (x ∷ xs) xs ≡ cond b (x ∷ []) [] ++ xs
kept_one x true xs = refl
kept_one x false xs = refl

pub kept-first : (x : List ℕ) (xs : List (List ℕ)) → filter has_bytes (x ∷ xs) ≡ filter has_bytes (x ∷ []) ++ filter has_bytes xs
kept-first x xs = kept_one x (has_bytes x) (filter has_bytes xs)
