-- Items that are read one after another, until none begins.
use Rattle.std.proofs.Common.{◌≡◌, ◌≢◌, List, [], ◌∷◌, ◌++◌, Option, Some, None, append-nil, append_assoc, refl, ap, subst, ◌∙◌, sym}
use Rattle.std.proofs.lemmas.List.Elements.{filter_map-append}
use Rattle.std.specs.List.{filter_map, cons_option}
use Rattle.std.specs.Option.{option_to_list}
use Rattle.iso_script_lexer.specs.Piece.{Piece, name_at, number_at, text_at, word_at, symbol_at, bad_at, tail}
use Rattle.iso_script_lexer.specs.declared.word.Word.{Word}
use Rattle.iso_script.specs.Readings.{AreRead, ArePlaced, meant_next}
use Rattle.iso_script.specs.declared.place.NodePlace.{NodePlace}
use Rattle.iso_script_lexer.specs.declared.token.Position.{Position}

-- a word that is next and means this stands in front
pub meant_word : {A : Type 0} (meaning : Word → Option A) (x : A) (ps : List Piece) → meant_next meaning ps ≡ Some x → (r : Position) × (w : Word) × (ps ≡ word_at r w ∷ tail ps) × (meaning w ≡ Some x)
meant_word meaning x (word_at r w ∷ ps) h = (r, w, refl, h)
meant_word meaning x (name_at r n ∷ ps) h = cc
meant_word meaning x (number_at r n ∷ ps) h = cc
meant_word meaning x (text_at r n ∷ ps) h = cc
meant_word meaning x (symbol_at r n ∷ ps) h = cc
meant_word meaning x (bad_at r fault ∷ ps) h = cc
meant_word meaning x [] h = cc

-- one item more
pub read_push : {W : Type 0} (Is : W → List Piece → List Piece → Type 0) (ws : List W) (w : W) (first here next : List Piece)
    → AreRead Is ws first here → Is w here next → AreRead Is (ws ++ w ∷ []) first next
read_push Is [] w first here next h k = (next, subst (λ ps. Is w ps next) (sym h) k, refl)
read_push Is (v ∷ vs) w first here next h k = (h.0, h.1, read_push Is vs w h.0 here next h.2 k)

-- where some have been read and one begins, whatever is read to the end goes on with one
pub goes_on : {W B : Type 0} (Is : W → List Piece → List Piece → Type 0) (next : List Piece → Option B)
    → ((w v : W) (ps qs rs : List Piece) → Is w ps qs → Is v ps rs → (w ≡ v) × (qs ≡ rs))
    → ((w : W) (ps qs : List Piece) → Is w ps qs → next ps ≢ None)
    → (ws all : List W) (first here rest : List Piece) → AreRead Is ws first here → AreRead Is all first rest → next rest ≡ None → next here ≢ None
    → (w : W) × (more : List W) × (qs : List Piece) × (all ≡ ws ++ w ∷ more) × Is w here qs
goes_on Is next one some [] [] first here rest h k e n = absurd (n (ap next (sym h ∙ k) ∙ e))
goes_on Is next one some [] (w ∷ more) first here rest h k e n = (w, more, k.0, refl, subst (λ ps. Is w ps k.0) h k.1)
goes_on Is next one some (v ∷ vs) [] first here rest h k e n = absurd (some v first h.0 h.1 (ap next k ∙ e))
goes_on Is next one some (v ∷ vs) (w ∷ more) first here rest h k e n =
    let u = one v w first h.0 k.0 h.1 k.1 in
    let g = goes_on Is next one some vs more h.0 here rest h.2 (subst (λ ps. AreRead Is more ps rest) (sym u.1) k.2) e n in
    (g.0, g.1, g.2, ap (λ x. x ∷ more) (sym u.0) ∙ ap (λ xs. v ∷ xs) g.3, g.4)

-- what is read until none begins is one list
pub one_reading : {W B : Type 0} (Is : W → List Piece → List Piece → Type 0) (next : List Piece → Option B)
    → ((w v : W) (ps qs rs : List Piece) → Is w ps qs → Is v ps rs → (w ≡ v) × (qs ≡ rs))
    → ((w : W) (ps qs : List Piece) → Is w ps qs → next ps ≢ None)
    → (ws vs : List W) (first here rest : List Piece) → AreRead Is ws first here → next here ≡ None → AreRead Is vs first rest → next rest ≡ None → (ws ≡ vs) × (here ≡ rest)
one_reading Is next one some [] [] first here rest h d k e = (refl, sym h ∙ k)
one_reading Is next one some [] (v ∷ vs) first here rest h d k e = absurd (some v first k.0 k.1 (ap next h ∙ d))
one_reading Is next one some (w ∷ ws) [] first here rest h d k e = absurd (some w first h.0 h.1 (ap next k ∙ e))
one_reading Is next one some (w ∷ ws) (v ∷ vs) first here rest h d k e =
    let u = one w v first h.0 k.0 h.1 k.1 in
    let t = one_reading Is next one some ws vs h.0 here rest h.2 d (subst (λ ps. AreRead Is vs ps rest) (sym u.1) k.2) e in
    (ap (λ x. x ∷ ws) u.0 ∙ ap (λ xs. v ∷ xs) t.0, t.1)

one_or_none : {A : Type 0} (o : Option A) → cons_option o [] ≡ option_to_list o
one_or_none None = refl
one_or_none (Some x) = refl

-- what one item more gives
pub gives_more : {W A : Type 0} (f : W → Option A) (ws : List W) (w : W) (old new : List A) → filter_map f ws ≡ old → old ++ option_to_list (f w) ≡ new → filter_map f (ws ++ w ∷ []) ≡ new
gives_more f ws w old new h k = filter_map-append f ws (w ∷ []) ∙ ap (λ xs. xs ++ filter_map f (w ∷ [])) h ∙ ap (λ xs. old ++ xs) (one_or_none (f w)) ∙ k

-- an item that is read, whatever places it has
abbrev pub Somewhere : {W : Type 0} → (W → List NodePlace → List Piece → List Piece → Type 0) → W → List Piece → List Piece → Type 0
Somewhere Is w ps qs = (places : List NodePlace) × Is w places ps qs

pub read_somewhere : {W : Type 0} (Is : W → List NodePlace → List Piece → List Piece → Type 0) (ws : List W) (places : List NodePlace) (ps rs : List Piece)
    → ArePlaced Is ws places ps rs → AreRead (Somewhere Is) ws ps rs
read_somewhere Is [] places ps rs h = h.1
read_somewhere Is (w ∷ ws) places ps rs h = (h.2, (h.0, h.4), read_somewhere Is ws h.1 h.2 rs h.5)

-- one item with places more
pub placed_push : {W : Type 0} (Is : W → List NodePlace → List Piece → List Piece → Type 0) (ws : List W) (w : W) (places own : List NodePlace) (first here next : List Piece)
    → ArePlaced Is ws places first here → Is w own here next → ArePlaced Is (ws ++ w ∷ []) (places ++ own) first next
placed_push Is [] w places own first here next h k = (own, [], next, ap (λ ls. ls ++ own) h.0 ∙ sym (append-nil own), subst (λ ps. Is w own ps next) (sym h.1) k, (refl, refl))
placed_push Is (v ∷ vs) w places own first here next h k = (h.0, h.1 ++ own, h.2, ap (λ ls. ls ++ own) h.3 ∙ append_assoc h.0 h.1 own, h.4, placed_push Is vs w h.1 own h.2 here next h.5 k)

-- what is read until none begins has one list of places
pub one_placing : {W B : Type 0} (Is : W → List NodePlace → List Piece → List Piece → Type 0) (next : List Piece → Option B)
    → ((w v : W) (own other : List NodePlace) (ps qs rs : List Piece) → Is w own ps qs → Is v other ps rs → (w ≡ v) × (own ≡ other) × (qs ≡ rs))
    → ((w : W) (own : List NodePlace) (ps qs : List Piece) → Is w own ps qs → next ps ≢ None)
    → (ws vs : List W) (places others : List NodePlace) (first here rest : List Piece) → ArePlaced Is ws places first here → next here ≡ None → ArePlaced Is vs others first rest → next rest ≡ None
    → (ws ≡ vs) × (places ≡ others) × (here ≡ rest)
one_placing Is next one some [] [] places others first here rest h d k e = (refl, h.0 ∙ sym k.0, sym h.1 ∙ k.1)
one_placing Is next one some [] (v ∷ vs) places others first here rest h d k e = absurd (some v k.0 first k.2 k.4 (ap next h.1 ∙ d))
one_placing Is next one some (w ∷ ws) [] places others first here rest h d k e = absurd (some w h.0 first h.2 h.4 (ap next k.1 ∙ e))
one_placing Is next one some (w ∷ ws) (v ∷ vs) places others first here rest h d k e =
    let u = one w v h.0 k.0 first h.2 k.2 h.4 k.4 in
    let t = one_placing Is next one some ws vs h.1 k.1 h.2 here rest h.5 d (subst (λ ps. ArePlaced Is vs k.1 ps rest) (sym u.2) k.5) e in
    (ap (λ x. x ∷ ws) u.0 ∙ ap (λ xs. v ∷ xs) t.0, h.3 ∙ ap (λ ls. ls ++ h.1) u.1 ∙ ap (λ ls. k.0 ++ ls) t.1 ∙ sym k.3, t.2)
