-- Classes in the midst of their members.
use Rattle.std.proofs.Common.{◌≡◌, ◌≢◌, ℕ, List, [], ◌∷◌, ◌++◌, Option, Some, None, map, refl, ap, subst, sym, ◌∙◌}
use Rattle.std.proofs.lemmas.List.{map-append}
use Rattle.std.specs.List.{IsDistinct}
use Rattle.std.specs.Str.{bytes_eq}
use Rattle.iso_script_lexer.specs.Piece.{Piece, name_at, number_at, text_at, word_at, symbol_at, bad_at}
use Rattle.iso_script_lexer.specs.Tokens.{after}
use Rattle.iso_script_lexer.specs.declared.symbol.Symbol.TheVariants.{CloseBrace}
use Rattle.iso_script_lexer.proofs.Afters.{after-Some, after-symbol_at}
use Rattle.iso_model.specs.Scripts.{Member, Members, no_members, member}
use Rattle.iso_model.specs.ScriptView.{members_of}
use Rattle.iso_script.specs.Readings.{AreRead, ArePlaced}
use Rattle.iso_script.specs.declared.place.NodePlace.{NodePlace}
use Rattle.iso_script.proofs.Distinct.{is_among-before}
use Rattle.iso_script.proofs.Readings.{Somewhere, read_somewhere, goes_on}
use Rattle.iso_script.specs.Grammar.{name_of, names_of, IsMember, HasMembers, has_members, IsMembers, closed, and_then, IsNewMember}
use Rattle.iso_script.proofs.Unique.{no_member, one_member}
use Rattle.iso_script_lexer.specs.declared.token.Position.{Position}

-- the members, as a list
abbrev pub list_of : Members → List Member
list_of no_members = []
list_of (member m ms) = m ∷ list_of ms

names_of-list : (ms : Members) → names_of ms ≡ map name_of (list_of ms)
names_of-list no_members = refl
names_of-list (member m ms) = ap (λ ns. name_of m ∷ ns) (names_of-list ms)

pub names_of-members_of : (ms : List Member) → names_of (members_of ms) ≡ map name_of ms
names_of-members_of [] = refl
names_of-members_of (m ∷ ms) = ap (λ ns. name_of m ∷ ns) (names_of-members_of ms)

pub members_of-some : (ms : List Member) → ms ≢ [] → members_of ms ≢ no_members
members_of-some [] some = λ e. some refl
members_of-some (m ∷ ms) some = λ e. cc

-- the pieces, where no brace closes
abbrev if_none : Option (List Piece) → List Piece → Option (List Piece)
if_none None ps = Some ps
if_none (Some qs) ps = None

abbrev unclosed : List Piece → Option (List Piece)
unclosed ps = if_none (after CloseBrace ps) ps

is_unclosed : (d : ℕ) (taken : List (List ℕ)) (m : Member) (ps qs : List Piece) → Somewhere (IsMember d taken) m ps qs → unclosed ps ≢ None
is_unclosed d taken m [] qs h = λ e. cc
is_unclosed d taken m (name_at r n ∷ ps) qs h = λ e. cc
is_unclosed d taken m (number_at r n ∷ ps) qs h = λ e. cc
is_unclosed d taken m (text_at r t ∷ ps) qs h = λ e. cc
is_unclosed d taken m (word_at r w ∷ ps) qs h = λ e. cc
is_unclosed d taken m (symbol_at r s ∷ ps) qs h = absurd (no_member h.1)
is_unclosed d taken m (bad_at r fault ∷ ps) qs h = λ e. cc

one_somewhere : (d : ℕ) (taken : List (List ℕ)) (m n : Member) (ps qs rs : List Piece) → Somewhere (IsMember d taken) m ps qs → Somewhere (IsMember d taken) n ps rs → (m ≡ n) × (qs ≡ rs)
one_somewhere d taken m n ps qs rs h k = let u = one_member h.1 k.1 in (u.0, u.2)

-- all members up to the brace, one after another
pub all_read : (d : ℕ) (taken : List (List ℕ)) (ms : List Member) (places : List NodePlace) (first here rest : List Piece)
    → ArePlaced (IsMember d taken) ms places first here → after CloseBrace here ≡ Some rest → IsMembers d taken (members_of ms) places first rest
all_read d taken [] places first here rest h brace =
    let s = after-Some CloseBrace here rest brace in
    subst (λ ls. IsMembers d taken no_members ls first rest) (sym h.0) (subst (λ ps. IsMembers d taken no_members [] ps rest) (sym (h.1 ∙ s.1)) closed)
all_read d taken (m ∷ ms) places first here rest h brace = subst (λ ls. IsMembers d taken (member m (members_of ms)) ls first rest) (sym h.3)
    (and_then h.4 (all_read d taken ms h.1 h.2 here rest h.5 brace))

as_read : {d : ℕ} {taken : List (List ℕ)} {ms : Members} {places : List NodePlace} {ps rest : List Piece}
    → IsMembers d taken ms places ps rest → (r : Position) × AreRead (Somewhere (IsMember d taken)) (list_of ms) ps (symbol_at r CloseBrace ∷ rest)
as_read (closed {r = r}) = (r, refl)
as_read (and_then {own = own} {qs = qs} h k) = let p = as_read k in (p.0, (qs, (own, h), p.1))

none_some : (ps : List Piece) → if_none None ps ≡ None → ⊥
none_some ps h = cc

-- where no brace closes, whatever is read goes on with a member of another name
pub next_member : (d : ℕ) (taken : List (List ℕ)) (ms : List Member) (places : List NodePlace) (first here : List Piece) → ArePlaced (IsMember d taken) ms places first here
    → after CloseBrace here ≡ None → (all : Members) (others : List NodePlace) (rest : List Piece) → HasMembers d taken all others first rest
    → (m : Member) × (own : List NodePlace) × (qs : List Piece) × IsNewMember (map name_of ms) d taken m own here qs
next_member d taken ms places first here read unended all others rest (has_members h some distinct) =
    let p = as_read h in
    let ends : unclosed (symbol_at p.0 CloseBrace ∷ rest) ≡ None = ap (λ o. if_none o (symbol_at p.0 CloseBrace ∷ rest)) (after-symbol_at p.0 CloseBrace rest) in
    let g = goes_on (Somewhere (IsMember d taken)) unclosed (one_somewhere d taken) (is_unclosed d taken) ms (list_of all) first here _
    (read_somewhere (IsMember d taken) ms places first here read) p.1 ends (λ e. none_some here (ap (λ o. if_none o here) (sym unended) ∙ e)) in
    let names : names_of all ≡ map name_of ms ++ name_of g.0 ∷ map name_of g.1 = names_of-list all ∙ ap (map name_of) g.3 ∙ map-append name_of ms (g.0 ∷ g.1) in
    (g.0, g.4.0, g.2, (g.4.1, is_among-before (map name_of ms) (map name_of g.1) (name_of g.0) (subst (IsDistinct bytes_eq) names distinct)))

-- a class that is closed before its first member has none
pub empty_refused : (d : ℕ) (r : Position) (taken : List (List ℕ)) (ms : List Member) (places : List NodePlace) (first here rest : List Piece) → ArePlaced (IsMember d taken) ms places first here
    → ms ≡ [] → here ≡ symbol_at r CloseBrace ∷ rest → (all : Members) (others : List NodePlace) (end : List Piece) → HasMembers d taken all others first end → ⊥
empty_refused d r taken ms places first here rest read none is all others end h =
    let same : (places ≡ []) × (first ≡ here) = subst (λ ms. ArePlaced (IsMember d taken) ms places first here) none read in
    closes (subst (λ ps. HasMembers d taken all others ps end) (same.1 ∙ is) h)
  where
    closes : {d : ℕ} {r : Position} {taken : List (List ℕ)} {all : Members} {places : List NodePlace} {ps end : List Piece} → HasMembers d taken all places (symbol_at r CloseBrace ∷ ps) end → ⊥
    closes (has_members closed some distinct) = some refl
    closes (has_members (and_then h k) some distinct) = no_member h
