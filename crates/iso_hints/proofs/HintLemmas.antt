-- Rows of the table, one after another.
use Rattle.std.proofs.Common.{◌≡◌, ℕ, ◌+◌, ◌<◌, ◌≤◌, List, [], ◌∷◌, Bool, true, false, ◌||◌, ◌++◌, cond, drop, get_or, length, map, Option, Some, None, option_map, refl, ap, ap₂, sym, ◌∙◌, suc, arith, Bor}
use Rattle.std.proofs.Math.Seq.{drop-cons}
use Rattle.std.proofs.lemmas.List.{drop_all}
use Rattle.std.specs.List.{find, list_any}
use Rattle.std.specs.Option.{option_or}
use Rattle.iso_hints.specs.declared.place.Place.{Place}
use Rattle.iso_hints.specs.Patterns.{is_any_next}
use Rattle.iso_hints.specs.Places.{IsPlace, PlaceView, view_of}
use Rattle.iso_hints.specs.Rows.{CodeRow, Row, fits, hint_in, row_of}
use Rattle.iso_hints.specs.Tokens.{is_next}

-- tokens as references and as texts
pub any-text : (tokens : List (Bor (List ℕ))) (bytes : List ℕ) → list_any (λ (t : Bor (List ℕ)). is_next t.now bytes) tokens ≡ is_any_next (map (λ (t : Bor (List ℕ)). t.now) tokens) bytes
any-text [] bytes = refl
any-text (t ∷ ts) bytes = ap (λ (b : Bool). is_next t.now bytes || b) (any-text ts bytes)

-- the hint of rows is the first one's, if it fits, or that of the others
hint-cons : (row : Row) (rows : List Row) (place : PlaceView) → hint_in (row ∷ rows) place ≡ cond (fits place row) (Some row.hint) (hint_in rows place)
hint-cons row rows place = by (fits place row)
  where
    by : (b : Bool) → option_map (λ (r : Row). r.hint) (cond b (Some row) (find (fits place) rows)) ≡ cond b (Some row.hint) (hint_in rows place)
    by true = refl
    by false = refl

-- the hint of the rows that are left, by the next one
hint-next : (rows : List CodeRow) (i : ℕ) (d : CodeRow) (place : PlaceView) → i < length rows
    → hint_in (map row_of (drop i rows)) place
    ≡ cond (fits place (row_of (get_or rows i d))) (Some (get_or rows i d).3.now) (hint_in (map row_of (drop (i + 1) rows)) place)
hint-next rows i d place here =
    let plus : suc i ≡ i + 1 = omega arith in
    let split : drop i rows ≡ get_or rows i d ∷ drop (i + 1) rows =
    drop-cons rows i d here ∙ ap (λ (n : ℕ). get_or rows i d ∷ drop n rows) plus in
    ap (λ (rs : List CodeRow). hint_in (map row_of rs) place) split ∙ hint-cons (row_of (get_or rows i d)) (map row_of (drop (i + 1) rows)) place

-- the next row fits
pub hint-found : (rows : List CodeRow) (i : ℕ) (d : CodeRow) (place : PlaceView) (b : Bool) → i < length rows
    → hint_in (map row_of rows) place ≡ hint_in (map row_of (drop i rows)) place
    → b ≡ fits place (row_of (get_or rows i d)) → b ≡ true → Some (get_or rows i d).3.now ≡ hint_in (map row_of rows) place
hint-found rows i d place b here so_far is fit =
    sym (so_far ∙ hint-next rows i d place here
    ∙ ap (λ (t : Bool). cond t (Some (get_or rows i d).3.now) (hint_in (map row_of (drop (i + 1) rows)) place)) (sym is ∙ fit))

-- the next row doesn't fit
pub hint-passed : (rows : List CodeRow) (i : ℕ) (d : CodeRow) (place : PlaceView) (b : Bool) → i < length rows
    → hint_in (map row_of rows) place ≡ hint_in (map row_of (drop i rows)) place
    → b ≡ fits place (row_of (get_or rows i d)) → b ≡ false
    → hint_in (map row_of rows) place ≡ hint_in (map row_of (drop (i + 1) rows)) place
hint-passed rows i d place b here so_far is unfit =
    so_far ∙ hint-next rows i d place here
    ∙ ap (λ (t : Bool). cond t (Some (get_or rows i d).3.now) (hint_in (map row_of (drop (i + 1) rows)) place)) (sym is ∙ unfit)

-- no row is left
pub hint-none : (rows : List CodeRow) (i : ℕ) (place : PlaceView) → length rows ≤ i
    → hint_in (map row_of rows) place ≡ hint_in (map row_of (drop i rows)) place → None ≡ hint_in (map row_of rows) place
hint-none rows i place end so_far = sym (so_far ∙ ap (λ (rs : List CodeRow). hint_in (map row_of rs) place) (drop_all i rows end))

-- the hint of rows and further ones
hint-append : (xs ys : List Row) (place : PlaceView) → hint_in (xs ++ ys) place ≡ option_or (hint_in xs place) (hint_in ys place)
hint-append [] ys place = refl
hint-append (x ∷ xs) ys place =
    hint-cons x (xs ++ ys) place ∙ by (fits place x) (hint-append xs ys place) ∙ sym (ap (λ (o : Option (List ℕ)). option_or o (hint_in ys place)) (hint-cons x xs place))
  where
    by : (b : Bool) → hint_in (xs ++ ys) place ≡ option_or (hint_in xs place) (hint_in ys place)
        → cond b (Some x.hint) (hint_in (xs ++ ys) place) ≡ option_or (cond b (Some x.hint) (hint_in xs place)) (hint_in ys place)
    by true more = refl
    by false more = more

text_or : (a b : Option (Bor (List ℕ)))
    → option_map (λ (t : Bor (List ℕ)). t.now) (option_or a b) ≡ option_or (option_map (λ (t : Bor (List ℕ)). t.now) a) (option_map (λ (t : Bor (List ℕ)). t.now) b)
text_or None b = refl
text_or (Some x) b = refl

-- what the rows tell with those of one part more
pub or-next : (xs ys : List Row) (place seen : PlaceView) (a b r : Option (Bor (List ℕ)))
    → option_map (λ (t : Bor (List ℕ)). t.now) a ≡ hint_in xs place → seen ≡ place → option_map (λ (t : Bor (List ℕ)). t.now) b ≡ hint_in ys seen → r ≡ option_or a b
    → option_map (λ (t : Bor (List ℕ)). t.now) r ≡ hint_in (xs ++ ys) place
or-next xs ys place seen a b r first same second is =
    ap (option_map (λ (t : Bor (List ℕ)). t.now)) is ∙ text_or a b
    ∙ ap₂ (λ (o p : Option (List ℕ)). option_or o p) first (second ∙ ap (hint_in ys) same) ∙ sym (hint-append xs ys place)

viewed : List ℕ → List ℕ → Bool → List ℕ → PlaceView
viewed before statement leads rest = record { before = before; statement = statement; leads = leads; rest = rest }

-- the code's place as the definition has it
pub place-is : (place : Place) (view : PlaceView) → IsPlace place view → view_of place ≡ view
unfolding viewed
place-is place view is =
    ap (λ (b : List ℕ). viewed b place.statement.now place.leads place.rest.now) is.before
    ∙ ap (λ (s : List ℕ). viewed view.before s place.leads place.rest.now) is.statement
    ∙ ap (λ (l : Bool). viewed view.before view.statement l place.rest.now) is.leads
    ∙ ap (λ (r : List ℕ). viewed view.before view.statement view.leads r) is.rest
