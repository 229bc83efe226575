-- The word that was meant is one of the reserved words, so each byte of it has what the bytes of all these have.
use Rattle.std.proofs.Common.{◌≡◌, ℕ, List, [], ◌∷◌, Bool, true, false, ◌&&◌, cond, nat_lt, filter, fold, map, slice_get, Option, Some, None, IfSome, refl, ap₂}
use Rattle.std.specs.List.{list_all}
use Rattle.iso_hints.specs.Nearest.{distance, is_near, near_words, put_by_distance}
use Rattle.iso_hints.specs.Places.{PlaceView, name_of}
use Rattle.iso_script.specs.declared.explain.Explained.{Explained}
use Rattle.iso_script_lexer.specs.Spelling.{spelling}
use Rattle.iso_script_lexer.specs.declared.symbol.Symbol.TheVariants.{Equals}
use Rattle.iso_script_lexer.specs.declared.token.Token.{Token}
use Rattle.iso_script_lexer.specs.declared.token.Token.TheVariants as T
use Rattle.iso_script_lexer.specs.declared.word.Word.{Word}
use Rattle.iso_script_statements.specs.declared.fault.ScriptFault.{ScriptFault}
use Rattle.iso_script_statements.specs.declared.reason.Reason.{Reason}
use Rattle.iso_script_statements.specs.declared.reason.Reason.TheVariants as R
use Rattle.iso_script_statements.specs.declared.unmet.Unmet.{Unmet}
use Rattle.iso_script_statements.specs.declared.wanted.Wanted.{Wanted}
use Rattle.iso_explain.specs.Meant.{begun_for, meant_at, meant_by, meant_for, meant_of, nearest_of, statement_words, words_of}
use Rattle.iso_explain.specs.Spots.{place_at_fault}
use Rattle.iso_explain.specs.Wants.{is_symbol, symbol_wanted}
use Rattle.iso_explain.proofs.SafeLemmas.{both}

module _ (p : ℕ → Bool) (spelled : (w : Word) → list_all p (spelling w) ≡ true) where
  abbrev IsPassing : List ℕ → Type 0
  IsPassing word = list_all p word ≡ true

  abbrev ArePassing : List (List ℕ) → Type 0
  ArePassing words = list_all (list_all p) words ≡ true

  put_passes : (word : List ℕ) (xs : List (List ℕ)) (x : List ℕ) → ArePassing xs → IsPassing x → ArePassing (put_by_distance word xs x)
  put_passes word [] x h k = ap₂ (λ (a b : Bool). a && b) k refl
  put_passes word (y ∷ ys) x h k =
      let parts = both (list_all p y) (list_all (list_all p) ys) h in
      by parts.0 (put_passes word ys x parts.1 k) (nat_lt (distance word x) (distance word y))
    where
      by : IsPassing y → ArePassing (put_by_distance word ys x) → (b : Bool) → ArePassing (cond b (x ∷ y ∷ ys) (y ∷ put_by_distance word ys x))
      by first rest true = ap₂ (λ (a b : Bool). a && b) k h
      by first rest false = ap₂ (λ (a b : Bool). a && b) first rest

  fold_passes : (word : List ℕ) (done xs : List (List ℕ)) → ArePassing done → ArePassing xs → ArePassing (fold (put_by_distance word) done xs)
  fold_passes word done [] h k = h
  fold_passes word done (x ∷ xs) h k =
      let parts = both (list_all p x) (list_all (list_all p) xs) k in
      fold_passes word (put_by_distance word done x) xs (put_passes word done x h parts.0) parts.1

  filter_passes : (q : List ℕ → Bool) (xs : List (List ℕ)) → ArePassing xs → ArePassing (filter q xs)
  filter_passes q [] h = refl
  filter_passes q (x ∷ xs) h =
      let parts = both (list_all p x) (list_all (list_all p) xs) h in
      by parts.0 (filter_passes q xs parts.1) (q x)
    where
      by : IsPassing x → ArePassing (filter q xs) → (b : Bool) → ArePassing (cond b (x ∷ filter q xs) (filter q xs))
      by first rest true = ap₂ (λ (a b : Bool). a && b) first rest
      by first rest false = rest

  first_passes : (xs : List (List ℕ)) → ArePassing xs → IfSome (slice_get xs 0) IsPassing
  first_passes [] h = tt
  first_passes (x ∷ xs) h = (both (list_all p x) (list_all (list_all p) xs) h).0

  words_pass : (words : List Word) → ArePassing (map spelling words)
  words_pass [] = refl
  words_pass (w ∷ ws) = ap₂ (λ (a b : Bool). a && b) (spelled w) (words_pass ws)

  nearest_passes : (name : List ℕ) (words : List Word) → IfSome (nearest_of name (map spelling words)) IsPassing
  unfolding nearest_of
  nearest_passes name words =
      first_passes (near_words name (map spelling words))
      (fold_passes name [] (filter (is_near name) (map spelling words)) refl (filter_passes (is_near name) (map spelling words) (words_pass words)))

  found_passes : (wanted : Wanted) (found : Token) → IfSome (meant_for wanted found) IsPassing
  found_passes wanted (T.Name name) = nearest_passes name.now (words_of wanted)
  found_passes wanted (T.Number n) = tt
  found_passes wanted (T.Text text) = tt
  found_passes wanted (T.Word word) = tt
  found_passes wanted (T.Symbol symbol) = tt
  found_passes wanted T.End = tt
  found_passes wanted (T.Bad fault) = tt

  begun_passes : (name : Option (List ℕ)) → IfSome (begun_for name) IsPassing
  begun_passes (Some name) = nearest_passes name statement_words
  begun_passes None = tt

  at_passes : (place : PlaceView) (unmet : Unmet) → IfSome (meant_at place unmet) IsPassing
  at_passes place unmet = by (is_symbol Equals (symbol_wanted unmet.wanted))
    where
      by : (t : Bool) → IfSome (cond t (begun_for (name_of place.statement)) (meant_for unmet.wanted unmet.found)) IsPassing
      by true = begun_passes (name_of place.statement)
      by false = found_passes unmet.wanted unmet.found

  of_passes : (bytes : List ℕ) (fault : ScriptFault) (reason : Reason) → IfSome (meant_of bytes fault reason) IsPassing
  of_passes bytes fault (R.Unmet unmet) = at_passes (place_at_fault bytes fault) unmet
  of_passes bytes fault R.Kind = tt
  of_passes bytes fault (R.Beyond limit) = tt

  pub meant-passes : (bytes : List ℕ) (told : Explained) → IfSome (meant_by bytes told) IsPassing
  meant-passes bytes told = of_passes bytes told.fault told.reason
