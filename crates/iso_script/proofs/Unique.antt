-- Pieces are one script at most: each rule has one clause.
use Rattle.std.proofs.Common.{◌≡◌, ◌≢◌, ℕ, List, [], ◌∷◌, ◌++◌, Option, Some, None, refl, ap, subst, sym, ◌∙◌}
use Rattle.iso_script_lexer.specs.LexicalGrammar.{PiecesAreUnique}
use Rattle.iso_script_lexer.specs.Piece.{Piece, name_at, word_at, symbol_at}
use Rattle.iso_script_lexer.specs.declared.symbol.Symbol.{Symbol}
use Rattle.iso_script_lexer.specs.declared.word.Word.{Word}
use Rattle.iso_script_lexer.specs.declared.word.Word.TheVariants as W
use Rattle.iso_model.specs.Scripts.{Test, Class, class, Member, class_member, test_member, Members, Script}
use Rattle.iso_script.specs.Blocks.{IsBlocks}
use Rattle.iso_script.specs.Marks.{Marks, Marking, IsMarking}
use Rattle.iso_script.specs.Readings.{AreRead}
use Rattle.iso_script.specs.Variables.{Variables, IsVariables}
use Rattle.iso_script.specs.Variables as V
use Rattle.iso_script.proofs.Blocks.{one_blocks}
use Rattle.iso_script.proofs.Displays.{one_display}
use Rattle.iso_script.proofs.Marks.{one_marks}
use Rattle.iso_script.proofs.Readings as R
use Rattle.iso_script.proofs.Variables.{one_variables}
use Rattle.iso_script_statements.specs.Statements.{IsBlock}
use Rattle.iso_script_statements.proofs.Unique.{one_block}
use Rattle.iso_script.specs.Grammar.{test, title, IsTest, a_test, IsMember, as_test, as_class, IsClass, a_class, HasMembers, has_members, IsMembers, closed, and_then, IsTopClass, IsScript, a_script, ReadsPlaced}
use Rattle.iso_script.specs.Places.{test_place, class_place}
use Rattle.iso_script.specs.declared.place.NodePlace.{NodePlace}
use Rattle.iso_script_lexer.specs.declared.token.Position.{Position}

-- a member begins with a word
no_mark : {r : Position} {s : Symbol} {x : Marking} {ps qs : List Piece} → IsMarking x (symbol_at r s ∷ ps) qs → ⊥
no_mark h = elim h [ ]

no_mark_left : {x : Marking} {qs : List Piece} → IsMarking x [] qs → ⊥
no_mark_left h = elim h [ ]

none_marked : (r q : Position) (s : Symbol) (w : Word) (ps qs : List Piece) (xs : List Marking) → AreRead IsMarking xs (symbol_at r s ∷ ps) (word_at q w ∷ qs) → ⊥
none_marked r q s w ps qs [] h = cc
none_marked r q s w ps qs (x ∷ xs) h = no_mark h.1

none_marked_left : (q : Position) (w : Word) (qs : List Piece) (xs : List Marking) → AreRead IsMarking xs [] (word_at q w ∷ qs) → ⊥
none_marked_left q w qs [] h = cc
none_marked_left q w qs (x ∷ xs) h = no_mark_left h.1

pub no_member : {d : ℕ} {r : Position} {taken : List (List ℕ)} {s : Symbol} {m : Member} {places : List NodePlace} {ps qs : List Piece} → IsMember d taken m places (symbol_at r s ∷ ps) qs → ⊥
no_member {r = r} {s = s} {ps = ps} (as_test {r = q} {q = l} {n = n} {qs = qs} h fit k) = none_marked r q s W.Test ps (name_at l n ∷ qs) h.written h.read
no_member {r = r} {s = s} {ps = ps} (as_class {r = q} {q = l} {n = n} {qs = qs} h k) = none_marked r q s W.Class ps (name_at l n ∷ qs) h.written h.read

no_member_left : {d : ℕ} {taken : List (List ℕ)} {m : Member} {places : List NodePlace} {qs : List Piece} → IsMember d taken m places [] qs → ⊥
no_member_left (as_test {r = q} {q = l} {n = n} {qs = qs} h fit k) = none_marked_left q W.Test (name_at l n ∷ qs) h.written h.read
no_member_left (as_class {r = q} {q = l} {n = n} {qs = qs} h k) = none_marked_left q W.Class (name_at l n ∷ qs) h.written h.read

-- what stands in front is the same
pub same_named : {r q s p : Position} {w v : Word} {n k : List ℕ} {ps qs : List Piece} → word_at r w ∷ name_at q n ∷ ps ≡ word_at s v ∷ name_at p k ∷ qs → (w ≡ v) × (n ≡ k) × (q ≡ p) × (ps ≡ qs)
same_named h = (cc, cc, cc, cc)

pub same_symbol : {r s : Position} {x y : Symbol} {ps qs : List Piece} → symbol_at r x ∷ ps ≡ symbol_at s y ∷ qs → ps ≡ qs
same_symbol h = cc

pub same_position : {r s : Position} {x y : Symbol} {ps qs : List Piece} → symbol_at r x ∷ ps ≡ symbol_at s y ∷ qs → r ≡ s
same_position h = cc

pub not_one_word : W.Test ≡ W.Class → ⊥
not_one_word h = cc

pub told_test : {marks more : Marks} {n k : List ℕ} {at other : Position} {t : Test} {places : List NodePlace} {ps qs rs : List Piece} → marks ≡ more → n ≡ k → at ≡ other → ps ≡ qs
    → IsTest more k other t places qs rs → IsTest marks n at t places ps rs
told_test {more = more} {n = n} {k = k} {at = at} {other = other} {t = t} {places = places} {ps = ps} {rs = rs} same name stands left h =
    subst (λ x. IsTest x n at t places ps rs) (sym same)
    (subst (λ x. IsTest more x at t places ps rs) (sym name) (subst (λ x. IsTest more k x t places ps rs) (sym stands) (subst (λ x. IsTest more k other t places x rs) (sym left) h)))

pub told_class : {d : ℕ} {taken : List (List ℕ)} {marks more : Marks} {n k : List ℕ} {at other : Position} {c : Class} {places : List NodePlace} {ps qs rs : List Piece}
    → marks ≡ more → n ≡ k → at ≡ other → ps ≡ qs
    → IsClass d taken more k other c places qs rs → IsClass d taken marks n at c places ps rs
told_class {d = d} {taken = taken} {more = more} {n = n} {k = k} {at = at} {other = other} {c = c} {places = places} {ps = ps} {rs = rs} same name stands left h =
    subst (λ x. IsClass d taken x n at c places ps rs) (sym same)
    (subst (λ x. IsClass d taken more x at c places ps rs) (sym name)
    (subst (λ x. IsClass d taken more k x c places ps rs) (sym stands) (subst (λ x. IsClass d taken more k other c places x rs) (sym left) h)))

pub one_test : {marks : Marks} {n : List ℕ} {at : Position} {t u : Test} {own other : List NodePlace} {ps qs rs : List Piece}
    → IsTest marks n at t own ps qs → IsTest marks n at u other ps rs → (t ≡ u) × (own ≡ other) × (qs ≡ rs)
one_test {marks = marks} {n = n} {at = at} (a_test {body = body} h k) (a_test {display = display} {body = other} {rs = rs} i j) =
    let u = one_display h i in
    let v = one_block k (subst (λ ps. IsBlock other ps rs) (sym u.1) j) in
    (ap (λ t. test marks n t body) u.0 ∙ ap (test marks n display) v.0, ap (λ (b : Position). test_place at b.line ∷ []) (same_position u.1), v.1)

mutual
  pub one_member : {d : ℕ} {taken : List (List ℕ)} {m n : Member} {own other : List NodePlace} {ps qs rs : List Piece}
      → IsMember d taken m own ps qs → IsMember d taken n other ps rs → (m ≡ n) × (own ≡ other) × (qs ≡ rs)
  one_member (as_test h fit k) (as_test i also j) =
      let u = one_marks _ _ _ _ _ h i in
      let e = same_named u.1 in
      let v = one_test k (told_test u.0 e.1 e.2 e.3 j) in
      (ap test_member v.0, v.1, v.2)
  one_member (as_class h k) (as_class i j) =
      let u = one_marks _ _ _ _ _ h i in
      let e = same_named u.1 in
      let v = one_class k (told_class u.0 e.1 e.2 e.3 j) in
      (ap class_member v.0, v.1, v.2)
  one_member (as_test h fit k) (as_class i j) = absurd (not_one_word (same_named (one_marks _ _ _ _ _ h i).1).0)
  one_member (as_class h k) (as_test i fit j) = absurd (not_one_word (sym (same_named (one_marks _ _ _ _ _ h i).1).0))

  pub one_class : {d : ℕ} {taken : List (List ℕ)} {marks : Marks} {n : List ℕ} {at : Position} {c b : Class} {own other : List NodePlace} {ps qs rs : List Piece}
      → IsClass d taken marks n at c own ps qs → IsClass d taken marks n at b other ps rs
      → (c ≡ b) × (own ≡ other) × (qs ≡ rs)
  one_class {d = d} {taken = taken} {marks = marks} {n = n} {at = at} (a_class {variables = variables} {blocks = blocks} {ms = ms} {places = places} h k l m)
      (a_class {display = t} {variables = vs} {blocks = bs} {ms = ns} {places = others} {rs = rs} {ss = ss} {ts = ts} a b c e) =
      let u = one_display h a in
      let v = one_variables taken _ _ _ _ _ k (subst (λ ps. IsVariables taken vs ps rs) (sym (same_symbol u.1)) b) in
      let w = one_blocks _ _ _ _ _ l (subst (λ ps. IsBlocks bs ps ss) (sym v.1) c) in
      let x = one_content m (subst (λ ps. HasMembers d (V.names_of variables ++ taken) ns others ps ts) (sym w.1)
      (subst (λ (x : Variables). HasMembers d (V.names_of x ++ taken) ns others ss ts) (sym v.0) e)) in (
        ap (λ o. class (title marks n o variables blocks) ms) u.0 ∙ ap (λ (x : Variables). class (title marks n t x blocks) ms) v.0
            ∙ ap (λ o. class (title marks n t vs o) ms) w.0 ∙ ap (class (title marks n t vs bs)) x.0,
        ap (λ o. class_place at o ∷ places) w.0 ∙ ap (λ ls. class_place at bs ∷ ls) x.1,
        x.2,
      )

  pub one_content : {d : ℕ} {taken : List (List ℕ)} {ms ns : Members} {own other : List NodePlace} {ps qs rs : List Piece}
      → HasMembers d taken ms own ps qs → HasMembers d taken ns other ps rs → (ms ≡ ns) × (own ≡ other) × (qs ≡ rs)
  one_content (has_members h some distinct) (has_members k also too) = one_members h k

  one_members : {d : ℕ} {taken : List (List ℕ)} {ms ns : Members} {own other : List NodePlace} {ps qs rs : List Piece}
      → IsMembers d taken ms own ps qs → IsMembers d taken ns other ps rs → (ms ≡ ns) × (own ≡ other) × (qs ≡ rs)
  one_members closed closed = (refl, refl, refl)
  one_members {d = d} {taken = taken} (and_then {own = own} {more = mine} h hs) (and_then {ms = more} {own = others} {more = rest} {rs = rs} k ks) =
      let u = one_member h k in
      let v = one_members hs (subst (λ ps. IsMembers d taken more rest ps rs) (sym u.2) ks) in
      (cc (u.0, v.0), ap (λ ls. ls ++ mine) u.1 ∙ ap (λ ls. others ++ ls) v.1, v.2)
  one_members closed (and_then k ks) = absurd (no_member k)
  one_members (and_then h hs) closed = absurd (no_member h)

-- what is left of the pieces, if anything
abbrev pub left : List Piece → Option (List Piece)
left [] = None
left (p ∷ ps) = Some (p ∷ ps)

abbrev the_class : Member → Class → Class
the_class (class_member c) b = c
the_class (test_member t) b = b

pub one_top_class : (c b : Class) (own other : List NodePlace) (ps qs rs : List Piece) → IsTopClass c own ps qs → IsTopClass b other ps rs → (c ≡ b) × (own ≡ other) × (qs ≡ rs)
one_top_class c b own other ps qs rs h k = let u = one_member h k in (ap (λ m. the_class m c) u.0, u.1, u.2)

pub some_class : (c : Class) (own : List NodePlace) (ps qs : List Piece) → IsTopClass c own ps qs → left ps ≢ None
some_class c own [] qs h = absurd (no_member_left h)
some_class c own (p ∷ ps) qs h = λ e. cc

pub one_script : {s t : Script} {places others : List NodePlace} {ps : List Piece} → IsScript s places ps → IsScript t others ps → (s ≡ t) × (places ≡ others)
one_script (a_script {n = n} {cs = cs} {ps = ps} h) (a_script {cs = bs} k) =
    let u = R.one_placing IsTopClass left one_top_class some_class cs bs _ _ ps [] [] h refl k refl in
    (ap (λ cs. record { team = n; classes = cs }) u.0, u.1)

pub one_reading : PiecesAreUnique → (bytes : List ℕ) (s t : Script) (places others : List NodePlace) → ReadsPlaced bytes s places → ReadsPlaced bytes t others → (s ≡ t) × (places ≡ others)
one_reading unique bytes s t places others a b = one_script a.read (subst (IsScript t others) (sym (unique _ bytes a.pieces b.pieces a.spelled b.spelled)) b.read)
