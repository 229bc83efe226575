-- Tests and classes by their rules, with what stands where as equations.
use Rattle.std.proofs.Common.{◌≡◌, ℕ, suc, List, [], ◌∷◌, ◌++◌, Bool, true, false, ◌&&◌, Option, Some, None, is_some, refl, ap, subst, sym, ◌∙◌}
use Rattle.iso_script_lexer.specs.Piece.{Piece, name_at, word_at, symbol_at, tail}
use Rattle.iso_script_lexer.specs.Tokens.{front, after, after_word}
use Rattle.iso_script_lexer.specs.declared.symbol.Symbol.TheVariants.{OpenBrace}
use Rattle.iso_script_lexer.specs.declared.word.Word.{Word}
use Rattle.iso_script_lexer.specs.declared.word.Word.TheVariants as W
use Rattle.iso_script_lexer.proofs.Afters.{after-Some, after-symbol_at, after_word-Some, after_word-word_at}
use Rattle.iso_model.specs.Scripts.{Test, Class, class, Member, class_member, test_member, Members}
use Rattle.iso_model.specs.Syntax.{Acts}
use Rattle.iso_model.specs.NameSets.{is_among}
use Rattle.iso_script_statements.specs.Pieces.{name_next}
use Rattle.iso_script_statements.specs.Statements.{IsBlock}
use Rattle.iso_script_statements.proofs.Taken.{name_is}
use Rattle.iso_script.specs.Blocks.{Blocks, IsBlocks}
use Rattle.iso_script.specs.Displays.{IsDisplayed}
use Rattle.iso_script.specs.Marks.{Marks, IsMarks, fits_test}
use Rattle.iso_script.specs.Variables.{Variables, IsVariables}
use Rattle.iso_script.specs.Variables as V
use Rattle.iso_script.proofs.Blocks.{block_brace, one_blocks}
use Rattle.iso_script.proofs.Displays.{one_display}
use Rattle.iso_script.proofs.Marks.{one_marks}
use Rattle.iso_script.proofs.Variables.{one_variables}
use Rattle.iso_script.specs.Grammar as G
use Rattle.iso_script.specs.Grammar.{title, name_of, IsTest, a_test, IsMember, as_test, as_class, IsClass, a_class, HasMembers}
use Rattle.iso_script.proofs.Unique.{same_symbol, not_one_word, told_test, told_class}
use Rattle.iso_script_lexer.specs.declared.token.Position.{Position}
use Rattle.iso_script_lexer.specs.declared.token.Token.{Token}
use Rattle.iso_script_lexer.specs.declared.token.Token.TheVariants as T
use Rattle.iso_script.specs.Places.{test_place, class_place}
use Rattle.iso_script.specs.declared.place.NodePlace.{NodePlace}

-- a word that is next stands in front
pub word_in_front : (w : Word) (ps : List Piece) → true ≡ is_some (after_word w ps) → (r : Position) × (ps ≡ word_at r w ∷ tail ps)
word_in_front w ps h = go (after_word w ps) refl h
  where
    go : (o : Option (List Piece)) → after_word w ps ≡ o → true ≡ is_some o → (r : Position) × (ps ≡ word_at r w ∷ tail ps)
    go (Some rest) e h = let a = after_word-Some w ps rest e in (a.0, a.1 ∙ ap (λ qs. word_at a.0 w ∷ qs) (sym (ap tail a.1)))
    go None e h = cc

-- what it means that a test may be next, and that none may
pub may_test : (a b : Bool) → true ≡ (a && b) → (a ≡ true) × (true ≡ b)
may_test true b h = (refl, h)
may_test false b h = cc

may_no_test : (a b : Bool) → false ≡ (a && b) → a ≡ true → b ≡ true → ⊥
may_no_test true true h e f = cc
may_no_test true false h e f = cc
may_no_test false b h e f = cc

pub no_test : (fits : Bool) (ps : List Piece) → false ≡ (fits && is_some (after_word W.Test ps)) → (r : Position) (qs : List Piece) → fits ≡ true → ps ≡ word_at r W.Test ∷ qs → ⊥
no_test fits ps h r qs fit is = may_no_test fits (is_some (after_word W.Test ps)) h fit (ap (λ xs. is_some (after_word W.Test xs)) is ∙ ap is_some (after_word-word_at r W.Test qs))

-- a name that is next stands at the position of the token that is next
pub name_stands : (n : List ℕ) (at : Position) (t : Token) (ps rest : List Piece) → ps ≡ front at t (tail ps) → name_next ps ≡ Some (n, rest) → ps ≡ name_at at n ∷ rest
name_stands n at t ps rest next name =
    let b = name_is n ps rest name in
    b.1 ∙ ap (λ q. name_at q n ∷ rest) (sym (go b.0 t (sym next ∙ b.1)))
  where
    go : (q : Position) (t : Token) → front at t (tail ps) ≡ name_at q n ∷ rest → at ≡ q
    go q (T.Name m) h = cc
    go q (T.Number m) h = cc
    go q (T.Text m) h = cc
    go q (T.Word w) h = cc
    go q (T.Symbol s) h = cc
    go q T.End h = cc
    go q (T.Bad fault) h = cc

same_name : {q p : Position} {n k : List ℕ} {ps qs : List Piece} → name_at q n ∷ ps ≡ name_at p k ∷ qs → (n ≡ k) × (q ≡ p) × (ps ≡ qs)
same_name h = (cc, cc, cc)

-- what follows the display text of a test
pub test_body : {marks : Marks} {n : List ℕ} {at : Position} {t : Test} {places : List NodePlace} {display : Option (List ℕ)} {ps mid rest : List Piece}
    → IsDisplayed display ps mid → IsTest marks n at t places ps rest → (b : Acts) × IsBlock b mid rest
test_body {rest = rest} h (a_test {body = body} i k) = let u = one_display h i in (body, subst (λ ps. IsBlock body ps rest) (sym u.1) k)

-- a test, whose body's brace is the token that is next after the display text
pub is_bodied : {marks : Marks} {n : List ℕ} {at : Position} {display : Option (List ℕ)} {body : Acts} {old mid new : List Piece} (b : Position) (t : Token)
    → IsDisplayed display old mid → mid ≡ front b t (tail mid) → IsBlock body mid new
    → IsTest marks n at (G.test marks n display body) (test_place at b.line ∷ []) old new
is_bodied {display = display} {body = body} {old = old} {new = new} b t h next k =
    let s = block_brace t k next in
    a_test (subst (IsDisplayed display old) s.1 h) (subst (λ ps. IsBlock body ps new) s.1 k)

-- what stands between the braces of a class
pub record Inside (d : ℕ) (taken : List (List ℕ)) (ps rest : List Piece) : Type 0 where
  pub variables : Variables
  pub blocks : Blocks
  pub members : Members
  pub places : List NodePlace
  pub after_variables : List Piece
  pub after_blocks : List Piece
  pub variables_read : IsVariables taken variables ps after_variables
  pub blocks_read : IsBlocks blocks after_variables after_blocks
  pub members_read : HasMembers d (V.names_of variables ++ taken) members places after_blocks rest

-- where the opening brace of a class stands
brace_next : {d : ℕ} {taken : List (List ℕ)} {marks : Marks} {n : List ℕ} {at : Position} {c : Class} {places : List NodePlace} {display : Option (List ℕ)} {ps mid rest : List Piece}
    → IsDisplayed display ps mid → IsClass d taken marks n at c places ps rest
    → (b : Position) × (qs : List Piece) × (mid ≡ symbol_at b OpenBrace ∷ qs) × Inside d taken qs rest
brace_next h (a_class {b = b} {variables = variables} {blocks = blocks} {ms = ms} {places = places} {qs = qs} {rs = rs} {ss = ss} i k l m) = (
  b,
  qs,
  (one_display h i).1,
  record { variables = variables; blocks = blocks; members = ms; places = places; after_variables = rs; after_blocks = ss; variables_read = k; blocks_read = l; members_read = m },
)

pub display_next : {d : ℕ} {taken : List (List ℕ)} {marks : Marks} {n : List ℕ} {at : Position} {c : Class} {places : List NodePlace} {ps rest : List Piece}
    → IsClass d taken marks n at c places ps rest → (display : Option (List ℕ)) × (qs : List Piece) × IsDisplayed display ps qs
display_next (a_class {b = b} {display = display} {qs = qs} h v bs ms) = (display, symbol_at b OpenBrace ∷ qs, h)

pub not_opened : {d : ℕ} {taken : List (List ℕ)} {marks : Marks} {n : List ℕ} {at : Position} {c : Class} {places : List NodePlace} {display : Option (List ℕ)} {ps mid rest : List Piece}
    → IsDisplayed display ps mid → after OpenBrace mid ≡ None → IsClass d taken marks n at c places ps rest → ⊥
not_opened h none k =
    let b = brace_next h k in
    let e : None ≡ Some b.1 = sym none ∙ ap (after OpenBrace) b.2 ∙ after-symbol_at b.0 OpenBrace b.1 in
    cc

pub opened : {d : ℕ} {taken : List (List ℕ)} {marks : Marks} {n : List ℕ} {at : Position} {c : Class} {places : List NodePlace} {display : Option (List ℕ)} {ps mid qs rest : List Piece}
    → IsDisplayed display ps mid → after OpenBrace mid ≡ Some qs → IsClass d taken marks n at c places ps rest → Inside d taken qs rest
opened {d = d} {taken = taken} {mid = mid} {qs = qs} {rest = rest} h taken_is k =
    let b = brace_next h k in
    let s = after-Some OpenBrace mid qs taken_is in
    subst (λ ps. Inside d taken ps rest) (same_symbol (sym b.2 ∙ s.1)) b.3

pub blocks_next : {d : ℕ} {taken : List (List ℕ)} {variables : Variables} {ps mid rest : List Piece}
    → Inside d taken ps rest → IsVariables taken variables ps mid → (bs : Blocks) × (end : List Piece) × IsBlocks bs mid end
blocks_next {taken = taken} i h =
    let u = one_variables taken _ _ _ _ _ i.variables_read h in
    (i.blocks, i.after_blocks, subst (λ ps. IsBlocks i.blocks ps i.after_blocks) u.1 i.blocks_read)

pub members_next : {d : ℕ} {taken : List (List ℕ)} {variables : Variables} {blocks : Blocks} {ps mid here rest : List Piece}
    → Inside d taken ps rest → IsVariables taken variables ps mid → IsBlocks blocks mid here
    → (ms : Members) × (places : List NodePlace) × HasMembers d (V.names_of variables ++ taken) ms places here rest
members_next {d = d} {taken = taken} {variables = variables} {rest = rest} i h k =
    let u = one_variables taken _ _ _ _ _ i.variables_read h in
    let v = one_blocks _ _ _ _ _ (subst (λ ps. IsBlocks i.blocks ps i.after_blocks) u.1 i.blocks_read) k in (
      i.members,
      i.places,
      subst (λ ps. HasMembers d (V.names_of variables ++ taken) i.members i.places ps rest) v.1
          (subst (λ (x : Variables). HasMembers d (V.names_of x ++ taken) i.members i.places i.after_blocks rest) u.0 i.members_read),
    )

pub is_class : {d : ℕ} {taken : List (List ℕ)} {marks : Marks} {n : List ℕ} {at : Position} {display : Option (List ℕ)} {variables : Variables} {blocks : Blocks} {ms : Members}
    {places : List NodePlace} {old mid qs rs ss new : List Piece}
    → IsDisplayed display old mid → after OpenBrace mid ≡ Some qs → IsVariables taken variables qs rs → IsBlocks blocks rs ss → HasMembers d (V.names_of variables ++ taken) ms places ss new
    → IsClass d taken marks n at (class (title marks n display variables blocks) ms) (class_place at blocks ∷ places) old new
is_class {display = display} {old = old} {mid = mid} {qs = qs} h taken_is k l m =
    let s = after-Some OpenBrace mid qs taken_is in
    a_class (subst (IsDisplayed display old) s.1 h) k l m

-- a test has its name, and so has a class
pub test_name : {marks : Marks} {n : List ℕ} {at : Position} {t : Test} {places : List NodePlace} {ps qs : List Piece} → IsTest marks n at t places ps qs → name_of (test_member t) ≡ n
test_name (a_test h k) = refl

pub class_name : {d : ℕ} {taken : List (List ℕ)} {marks : Marks} {n : List ℕ} {at : Position} {c : Class} {places : List NodePlace} {ps qs : List Piece}
    → IsClass d taken marks n at c places ps qs → name_of (class_member c) ≡ n
class_name (a_class h k l m) = refl

-- the marks of a member are next
pub marks_next : {d : ℕ} {taken : List (List ℕ)} {m : Member} {places : List NodePlace} {ps rest : List Piece}
    → IsMember d taken m places ps rest → (marks : Marks) × (qs : List Piece) × IsMarks marks ps qs
marks_next (as_test {r = r} {q = q} {marks = marks} {n = n} {qs = qs} h fit k) = (marks, word_at r W.Test ∷ name_at q n ∷ qs, h)
marks_next (as_class {r = r} {q = q} {marks = marks} {n = n} {qs = qs} h k) = (marks, word_at r W.Class ∷ name_at q n ∷ qs, h)

pub is_test : {d : ℕ} {taken : List (List ℕ)} {marks : Marks} {n : List ℕ} {at : Position} {t : Test} {places : List NodePlace} {old mid ps qs rest : List Piece}
    → IsMarks marks old mid → fits_test marks ≡ true → true ≡ is_some (after_word W.Test mid) → ps ≡ tail mid
    → ps ≡ name_at at n ∷ qs → IsTest marks n at t places qs rest → IsMember d taken (test_member t) places old rest
is_test {marks = marks} {old = old} {mid = mid} h fit word ahead name k =
    let a = word_in_front W.Test mid word in
    as_test (subst (IsMarks marks old) (a.1 ∙ ap (λ ps. word_at a.0 W.Test ∷ ps) (sym ahead ∙ name)) h) fit k

-- a test after its marks and its word
pub record TestNext (marks : Marks) (m : Member) (places : List NodePlace) (ps rest : List Piece) : Type 0 where
  pub name : List ℕ
  pub position : Position
  pub test : Test
  pub left : List Piece
  pub is : m ≡ test_member test
  pub named : ps ≡ name_at position name ∷ left
  pub read : IsTest marks name position test places left rest
  pub called : name_of m ≡ name

pub test_next : {d : ℕ} {taken : List (List ℕ)} {marks : Marks} {m : Member} {places : List NodePlace} {old mid ps rest : List Piece}
    → IsMarks marks old mid → true ≡ is_some (after_word W.Test mid) → ps ≡ tail mid → IsMember d taken m places old rest → TestNext marks m places ps rest
test_next {mid = mid} h word ahead (as_test {r = r} {q = q} {n = n} {t = t} {qs = qs} i fit k) =
    let u = one_marks _ _ _ _ _ h i in
    record { name = n; position = q; test = t; left = qs; is = refl; named = ahead ∙ ap tail u.1; read = told_test u.0 refl refl refl k; called = test_name k }
test_next {mid = mid} h word ahead (as_class {r = r} {q = q} {n = n} {qs = qs} i k) =
    let u = one_marks _ _ _ _ _ h i in
    let s = word_in_front W.Test mid word in
    absurd (not_one_word (front_word (sym s.1 ∙ u.1)))
  where
    front_word : {r q : Position} {w v : Word} {ps qs : List Piece} → word_at r w ∷ ps ≡ word_at q v ∷ qs → w ≡ v
    front_word h = cc

pub is_nested : {d more : ℕ} {taken : List (List ℕ)} {marks : Marks} {n : List ℕ} {at : Position} {c : Class} {places : List NodePlace} {old mid ps qs rest : List Piece}
    → IsMarks marks old mid → d ≡ suc more → after_word W.Class mid ≡ Some ps → ps ≡ name_at at n ∷ qs
    → IsClass more taken marks n at c places qs rest → IsMember d taken (class_member c) places old rest
is_nested {taken = taken} {marks = marks} {c = c} {places = places} {old = old} {mid = mid} {ps = ps} {rest = rest} h depth word name k =
    let s = after_word-Some W.Class mid ps word in
    subst (λ d. IsMember d taken (class_member c) places old rest) (sym depth) (as_class (subst (IsMarks marks old) (s.1 ∙ ap (λ ps. word_at s.0 W.Class ∷ ps) name) h) k)

-- a class after its marks and its word
pub record ClassNext (d : ℕ) (taken : List (List ℕ)) (marks : Marks) (m : Member) (places : List NodePlace) (ps rest : List Piece) : Type 0 where
  pub more : ℕ
  pub name : List ℕ
  pub position : Position
  pub class : Class
  pub left : List Piece
  pub depth : d ≡ suc more
  pub is : m ≡ class_member class
  pub word : after_word W.Class ps ≡ Some (tail ps)
  pub named : tail ps ≡ name_at position name ∷ left
  pub read : IsClass more taken marks name position class places left rest
  pub called : name_of m ≡ name

-- What comes after the marks of a member is a class where no test can be: the marks fit none, or no test is next.
pub class_next : {d : ℕ} {taken : List (List ℕ)} {marks : Marks} {m : Member} {places : List NodePlace} {old mid rest : List Piece}
    → IsMarks marks old mid → ((r : Position) (ps : List Piece) → fits_test marks ≡ true → mid ≡ word_at r W.Test ∷ ps → ⊥)
    → IsMember d taken m places old rest → ClassNext d taken marks m places mid rest
class_next {marks = marks} h no_test (as_test {r = r} {q = q} {marks = others} {n = n} {qs = qs} i fit k) =
    let u = one_marks _ _ _ _ _ h i in
    absurd (no_test r (name_at q n ∷ qs) (ap fits_test u.0 ∙ fit) u.1)
class_next {mid = mid} h no_test (as_class {d = more} {r = r} {q = q} {n = n} {c = c} {qs = qs} i k) =
    let u = one_marks _ _ _ _ _ h i in
    record {
      more = more;
      name = n;
      position = q;
      class = c;
      left = qs;
      depth = refl;
      is = refl;
      word = ap (after_word W.Class) u.1 ∙ after_word-word_at r W.Class (name_at q n ∷ qs) ∙ ap (λ ps. Some (tail ps)) (sym u.1);
      named = ap tail u.1;
      read = told_class u.0 refl refl refl k;
      called = class_name k;
    }

-- the parts of a top-level class
pub top_next : {d : ℕ} {taken : List (List ℕ)} {marks : Marks} {c : Class} {places : List NodePlace} {old mid rest : List Piece}
    → IsMarks marks old mid → IsMember d taken (class_member c) places old rest → ClassNext d taken marks (class_member c) places mid rest
top_next {mid = mid} h (as_class {d = more} {r = r} {q = q} {n = n} {c = c} {qs = qs} i k) =
    let u = one_marks _ _ _ _ _ h i in
    record {
      more = more;
      name = n;
      position = q;
      class = c;
      left = qs;
      depth = refl;
      is = refl;
      word = ap (after_word W.Class) u.1 ∙ after_word-word_at r W.Class (name_at q n ∷ qs) ∙ ap (λ ps. Some (tail ps)) (sym u.1);
      named = ap tail u.1;
      read = told_class u.0 refl refl refl k;
      called = class_name k;
    }

none_some : {A : Type 0} (x : A) → None ≡ Some x → ⊥
none_some x h = cc

-- no class is next where none may be opened, or its word is not next
pub not_next : {d : ℕ} {taken : List (List ℕ)} {marks : Marks} {m : Member} {places : List NodePlace} {ps rest : List Piece}
    → ((more : ℕ) → d ≡ suc more → after_word W.Class ps ≡ None) → ClassNext d taken marks m places ps rest → ⊥
not_next none k = none_some _ (sym (none k.more k.depth) ∙ k.word)

-- what follows the word of a class, as the code has it
pub word_left : {d : ℕ} {taken : List (List ℕ)} {marks : Marks} {m : Member} {places : List NodePlace} {ps qs rest : List Piece}
    → after_word W.Class ps ≡ Some qs → ClassNext d taken marks m places ps rest → qs ≡ tail ps
word_left {ps = ps} {qs = qs} word k = let e : Some qs ≡ Some (tail ps) = sym word ∙ k.word in cc

-- and that this is the name
pub name_left : {d : ℕ} {taken : List (List ℕ)} {marks : Marks} {m : Member} {places : List NodePlace} {ps qs rest : List Piece}
    → after_word W.Class ps ≡ Some qs → (k : ClassNext d taken marks m places ps rest) → name_next qs ≡ Some (k.name, k.left)
name_left word k = ap name_next (word_left word k ∙ k.named)

-- no class is next where no name follows its word
pub not_named : {d : ℕ} {taken : List (List ℕ)} {marks : Marks} {m : Member} {places : List NodePlace} {ps qs rest : List Piece}
    → after_word W.Class ps ≡ Some qs → name_next qs ≡ None → ClassNext d taken marks m places ps rest → ⊥
not_named word none k = none_some _ (sym none ∙ name_left word k)

one_less : {d more left : ℕ} → d ≡ suc more → d ≡ suc left → more ≡ left
one_less h k = let e = sym h ∙ k in cc

-- the class that is next, as the code has its word and its name
pub class_left : {d more : ℕ} {taken : List (List ℕ)} {marks : Marks} {m : Member} {places : List NodePlace} {n : List ℕ} {at : Position} {ps qs end rest : List Piece}
    → d ≡ suc more → after_word W.Class ps ≡ Some qs → qs ≡ name_at at n ∷ end → ClassNext d taken marks m places ps rest
    → (c : Class) × (m ≡ class_member c) × IsClass more taken marks n at c places end rest
class_left {more = more} {taken = taken} {marks = marks} {places = places} {n = n} {at = at} {end = end} {rest = rest} depth word name k =
    let same = same_name (sym name ∙ word_left word k ∙ k.named) in
    (k.class, k.is, subst (λ d. IsClass d taken marks n at k.class places end rest) (one_less k.depth depth) (told_class refl same.0 same.1 same.2 k.read))

abbrev class_in : Member → Class → Class
class_in (class_member c) b = c
class_in (test_member t) b = b

-- the same of a top-level class
pub top_inner : {d more : ℕ} {taken : List (List ℕ)} {marks : Marks} {b : Class} {places : List NodePlace} {n : List ℕ} {at : Position} {ps qs end rest : List Piece}
    → d ≡ suc more → after_word W.Class ps ≡ Some qs → qs ≡ name_at at n ∷ end
    → ClassNext d taken marks (class_member b) places ps rest → IsClass more taken marks n at b places end rest
top_inner {more = more} {taken = taken} {marks = marks} {b = b} {places = places} {n = n} {at = at} {end = end} {rest = rest} depth word name k =
    let c = class_left depth word name k in
    subst (λ x. IsClass more taken marks n at x places end rest) (sym (ap (λ m. class_in m b) c.1)) c.2

-- and the test that is next
pub test_left : {marks : Marks} {m : Member} {places : List NodePlace} {n : List ℕ} {at : Position} {ps end rest : List Piece}
    → ps ≡ name_at at n ∷ end → TestNext marks m places ps rest → (t : Test) × IsTest marks n at t places end rest
test_left name k =
    let same = same_name (sym name ∙ k.named) in
    (k.test, told_test refl same.0 same.1 same.2 k.read)

-- the name of a member is new where that of the test or class is
pub name_is_new : (names : List (List ℕ)) (m : Member) (n : List ℕ) → name_of m ≡ n → is_among names (name_of m) ≡ false → is_among names n ≡ false
name_is_new names m n same new = ap (is_among names) (sym same) ∙ new
