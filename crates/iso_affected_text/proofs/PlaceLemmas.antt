-- What stands at places of lists.
use Rattle.std.proofs.Common.{◌≡◌, ℕ, ◌<◌, ◌≤◌, List, [], Option, Some, None, get_or, length, map, option_map, unwrap_or, ap, ◌∙◌, arith}
use Rattle.std.proofs.lemmas.List.{get_or-map, length-map}
use Rattle.std.proofs.lemmas.Option.{slice_get-get_or, slice_get_past}
use Rattle.std.specs.Borrow.{Bor}
use Rattle.std.specs.List.{slice_get}
use Rattle.std.specs.Option.{option_or}
use Rattle.iso_affected_text.specs.PartRows.{name_at, named_at}
use Rattle.iso_affected_text.specs.Spots.{source_at}
use Rattle.iso_model.specs.declared.heads.Variable.{Variable}
use Rattle.iso_places.specs.LineStarts.{line_starts}
use Rattle.iso_places.specs.SourceLines.{source_line}
use Rattle.iso_places.specs.declared.end.ScriptLine.{ScriptLine}
use Rattle.iso_plan.specs.KeptNodes.{texts_of}

-- a text of what stands at a place, and past the end
pub at-place : {A : Type 0} (f : A → List ℕ) (xs : List A) (i : ℕ) (d : A) → i < length xs → unwrap_or (option_map f (slice_get xs i)) [] ≡ f (get_or xs i d)
at-place f xs i d h = ap (λ (o : Option _). unwrap_or (option_map f o) []) (slice_get-get_or xs i d h)

pub past-place : {A : Type 0} (f : A → List ℕ) (xs : List A) (i : ℕ) → length xs ≤ i → unwrap_or (option_map f (slice_get xs i)) [] ≡ []
past-place f xs i h = ap (λ (o : Option _). unwrap_or (option_map f o) []) (slice_get_past xs i h)

named-there : (xs : List Variable) (i : ℕ) (d : Variable) → i < length xs → named_at xs i ≡ Some (get_or xs i d).name
named-there xs i d h = ap (option_map (λ (v : Variable). v.name)) (slice_get-get_or xs i d h)

named-past : (xs : List Variable) (i : ℕ) → length xs ≤ i → named_at xs i ≡ None
named-past xs i h = ap (option_map (λ (v : Variable). v.name)) (slice_get_past xs i h)

-- the name of the variable at a place of two lists
pub name-now : (was now : List Variable) (i : ℕ) (d : Variable) → i < length now → name_at was now i ≡ (get_or now i d).name
name-now was now i d h = ap (λ (o : Option (List ℕ)). unwrap_or (option_or o (named_at was i)) []) (named-there now i d h)

pub name-was : (was now : List Variable) (i : ℕ) (d : Variable) → length now ≤ i → i < length was → name_at was now i ≡ (get_or was i d).name
name-was was now i d h k =
    ap (λ (o : Option (List ℕ)). unwrap_or (option_or o (named_at was i)) []) (named-past now i h) ∙ ap (λ (o : Option (List ℕ)). unwrap_or o []) (named-there was i d k)

pub name-none : (was now : List Variable) (i : ℕ) → length now ≤ i → length was ≤ i → name_at was now i ≡ []
name-none was now i h k =
    ap (λ (o : Option (List ℕ)). unwrap_or (option_or o (named_at was i)) []) (named-past now i h) ∙ ap (λ (o : Option (List ℕ)). unwrap_or o []) (named-past was i k)

abbrev lent : Bor (List ℕ) → List ℕ
lent t = t.now

module _ (texts : List (Bor (List ℕ))) (i : ℕ) (d : Bor (List ℕ)) (h : i < length texts) where
  inside : i < length (texts_of texts)
  inside = omega (arith, length-map texts lent)

  text-at : get_or (texts_of texts) i [] ≡ (get_or texts i d).now
  text-at = get_or-map lent texts i d [] h

  -- the table of the script at a place
  pub table-at : (tables : List (List ℕ)) (e : List ℕ) → tables ≡ map line_starts (texts_of texts) → get_or tables i e ≡ line_starts (get_or texts i d).now
  table-at tables e is = ap (λ (ts : List (List ℕ)). get_or ts i e) is ∙ get_or-map line_starts (texts_of texts) i [] e inside ∙ ap line_starts text-at

  -- a line of it
  pub line-at : (line : ScriptLine) → line.script ≡ i → source_at (texts_of texts) line ≡ source_line (get_or texts i d).now line.line
  line-at line is =
      ap (λ (k : ℕ). unwrap_or (option_map (λ (t : List ℕ). source_line t line.line) (slice_get (texts_of texts) k)) []) is
      ∙ at-place (λ (t : List ℕ). source_line t line.line) (texts_of texts) i [] inside ∙ ap (λ (t : List ℕ). source_line t line.line) text-at
