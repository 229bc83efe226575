-- Statements and bodies by their rules, with what stands where as equations.
use Rattle.std.proofs.Common.{◌≡◌, ◌≢◌, ℕ, suc, ◌-◌, List, [], ◌∷◌, Some, None, true, refl, ap, subst, ◌∙◌, sym}
use Rattle.std.proofs.lemmas.Option.{some_pair_parts}
use Rattle.iso_script_lexer.specs.Piece.{Piece, name_at, number_at, text_at, word_at, symbol_at, bad_at, tail}
use Rattle.iso_script_lexer.specs.Tokens.{front, after, after_word}
use Rattle.iso_script_lexer.specs.declared.token.Token.{Token}
use Rattle.iso_script_lexer.specs.declared.token.Token.TheVariants as T
use Rattle.iso_script_lexer.specs.declared.symbol.Symbol.{Symbol}
use Rattle.iso_script_lexer.specs.declared.symbol.Symbol.TheVariants.{OpenBrace, CloseBrace, Semicolon, Comma, Equals}
use Rattle.iso_script_lexer.specs.declared.word.Word.{Word}
use Rattle.iso_script_lexer.specs.declared.word.Word.TheVariants as W
use Rattle.iso_script_lexer.proofs.Afters.{after-Some, after-symbol_at, after_word-Some, after_word-word_at}
use Rattle.iso_model.specs.declared.limits.TheConstants.{BODY_DEPTH, PARENTHESES}
use Rattle.iso_model.specs.declared.tree.TwoOperands.{TwoOperands}
use Rattle.iso_model.specs.Syntax.{Term, assign, assume, fail, Act, plain, Acts, no_acts, act}
use Rattle.iso_model.specs.SyntaxView.{acts_of}
use Rattle.iso_script_statements.specs.Expressions.{IsExpression, IsBefore}
use Rattle.iso_script_statements.specs.Pieces.{name_next, row_in, text_next}
use Rattle.iso_script_statements.specs.Statements.{simple_of, simple_next, is_display, IsDisplay, a_display, IsBinding, a_binding, IsSimple, of_two, an_assumption, a_fail, IsStatement, a_simple, an_assignment, an_if, a_repeat, IsElse, no_else, an_else, IsStatements, closed, and_then, IsBody, a_body, IsBlock, a_block}
use Rattle.iso_script_statements.specs.declared.simple.Simple.{Simple}
use Rattle.iso_script_statements.specs.declared.simple.Simple.TheVariants.{Two, Assume, Fail}
use Rattle.iso_script_statements.proofs.Repetitions.{onto, HaveRead}
use Rattle.iso_script_statements.proofs.Taken.{name_is}
use Rattle.iso_script_statements.proofs.Unique.{one_before, one_body, one_display, one_expression, one_statement}
use Rattle.iso_script_lexer.specs.declared.token.Position.{Position}

-- a simple statement that is next stands in front
simple_first : (k : Simple) (ps : List Piece) → simple_next ps ≡ Some k → (r : Position) × (w : Word) × (simple_of w ≡ Some k) × (ps ≡ word_at r w ∷ tail ps)
simple_first k [] h = cc
simple_first k (word_at r w ∷ ps) h = (r, w, h, refl)
simple_first k (name_at r n ∷ ps) h = cc
simple_first k (number_at r n ∷ ps) h = cc
simple_first k (text_at r t ∷ ps) h = cc
simple_first k (symbol_at r s ∷ ps) h = cc
simple_first k (bad_at r fault ∷ ps) h = cc

pub is_simple : (d above : ℕ) (k : Simple) (a : Act) (old mid rest : List Piece) → simple_next old ≡ Some k → mid ≡ tail old → IsSimple k a mid rest → IsStatement d above a old rest
is_simple d above k a old mid rest next ahead h =
    let s = simple_first k old next in
    subst (λ ps. IsStatement d above a ps rest) (sym s.3) (a_simple s.2 (subst (λ ps. IsSimple k a ps rest) ahead h))

from_simple : {d above : ℕ} {r : Position} {w : Word} {k : Simple} {a : Act} {ps rest : List Piece} → simple_of w ≡ Some k → IsStatement d above a (word_at r w ∷ ps) rest → IsSimple k a ps rest
from_simple {k = k} {a = a} {ps = ps} {rest = rest} is (a_simple {k = l} also h) = let same : l ≡ k = cc in subst (λ k. IsSimple k a ps rest) same h
from_simple is (an_if h i j) = cc
from_simple is (a_repeat h i) = cc

pub simple_only : (d above : ℕ) (k : Simple) (a : Act) (old mid rest : List Piece) → simple_next old ≡ Some k → mid ≡ tail old → IsStatement d above a old rest → IsSimple k a mid rest
simple_only d above k a old mid rest next ahead h =
    let s = simple_first k old next in
    subst (λ ps. IsSimple k a ps rest) (sym ahead) (from_simple s.2 (subst (λ ps. IsStatement d above a ps rest) s.3 h))

-- a binding alone is an assignment
pub is_assignment : (d above : ℕ) (b : List ℕ × Term) (old rest : List Piece) → IsBinding b old rest → IsStatement d above (plain (assign b.0 b.1)) old rest
is_assignment d above b old rest (a_binding h) = an_assignment (a_binding h)

pub assignment_only : (d above : ℕ) (a : Act) (old rest : List Piece) → simple_next old ≡ None → after_word W.If old ≡ None
    → after_word W.Repeat old ≡ None → IsStatement d above a old rest → (b : List ℕ × Term) × IsBinding b old rest
assignment_only d above a old rest s i r (a_simple is h) = cc
assignment_only d above a old rest s i r (an_assignment {b = b} h) = (b, h)
assignment_only d above a old rest s i r (an_if {r = q} {ps = ps} h k l) = let e : None ≡ Some ps = sym i ∙ after_word-word_at q W.If ps in cc
assignment_only d above a old rest s i r (a_repeat {r = q} {ps = ps} h k) = let e : None ≡ Some ps = sym r ∙ after_word-word_at q W.Repeat ps in cc

-- the parts of an `if` after its condition, and after its first body
pub if_body : (d above : ℕ) (r : Position) (e : Term) (a : Act) (ps mid rest : List Piece) → IsExpression PARENTHESES e ps mid
    → IsStatement d above a (word_at r W.If ∷ ps) rest → (b : Acts) × (c : Acts) × (qs : List Piece) × IsBody d above b mid qs × IsElse d above c qs rest
if_body d above r e a ps mid rest h (a_simple is k) = cc
if_body d above r e a ps mid rest h (an_if {a = b} {b = c} {rs = qs} k i j) = let u = one_expression h k in (b, c, qs, subst (λ ps. IsBody d above b ps qs) (sym u.1) i, j)

pub if_else : (d above : ℕ) (r : Position) (e : Term) (b : Acts) (a : Act) (ps mid next rest : List Piece) → IsExpression PARENTHESES e ps mid
    → IsBody d above b mid next → IsStatement d above a (word_at r W.If ∷ ps) rest → (c : Acts) × IsElse d above c next rest
if_else d above r e b a ps mid next rest h k s =
    let p = if_body d above r e a ps mid rest h s in
    let u = one_body k p.3 in
    (p.1, subst (λ ps. IsElse d above p.1 ps rest) (sym u.1) p.4)

-- the body of a `repeat`
pub repeat_body : (d above : ℕ) (r : Position) (e : Term) (a : Act) (ps mid rest : List Piece) → IsExpression PARENTHESES e ps mid
    → IsStatement d above a (word_at r W.Repeat ∷ ps) rest → (b : Acts) × IsBody d above b mid rest
repeat_body d above r e a ps mid rest h (a_simple is k) = cc
repeat_body d above r e a ps mid rest h (a_repeat {a = b} k i) = let u = one_expression h k in (b, subst (λ ps. IsBody d above b ps rest) (sym u.1) i)

-- the body of an `else`
pub is_else : (d above : ℕ) (b : Acts) (old mid rest : List Piece) → after_word W.Else old ≡ Some mid → IsBody d above b mid rest → IsElse d above b old rest
is_else d above b old mid rest taken h = let s = after_word-Some W.Else old mid taken in subst (λ ps. IsElse d above b ps rest) (sym s.1) (an_else h)

pub else_only : (d above : ℕ) (b : Acts) (old mid rest : List Piece) → after_word W.Else old ≡ Some mid → IsElse d above b old rest → IsBody d above b mid rest
else_only d above b old mid rest taken (no_else none) = let e : None ≡ Some mid = sym none ∙ taken in cc
else_only d above b old mid rest taken (an_else {r = r} {ps = ps} h) =
    let e : Some ps ≡ Some mid = sym (after_word-word_at r W.Else ps) ∙ taken in
    let f : ps ≡ mid = cc in
    subst (λ ps. IsBody d above b ps rest) f h

-- the second expression of a statement of two
pub second_only : (o : TwoOperands) (e : Term) (a : Act) (ps mid rest : List Piece) → IsBefore Comma e ps mid → IsSimple (Two o) a ps rest → (f : Term) × IsBefore Semicolon f mid rest
second_only o e a ps mid rest h (of_two {f = f} k i) = let u = one_before h k in (f, subst (λ ps. IsBefore Semicolon f ps rest) (sym u.1) i)

-- the reason of an `assume`, and the semicolon after it
pub reason_only : (e : Term) (a : Act) (ps mid rest : List Piece) → IsBefore Comma e ps mid → IsSimple Assume a ps rest → (t : List ℕ) × (q : Position) × IsDisplay t mid (symbol_at q Semicolon ∷ rest)
reason_only e a ps mid rest h (an_assumption {q = q} {t = t} k i) = let u = one_before h k in (t, q, subst (λ ps. IsDisplay t ps (symbol_at q Semicolon ∷ rest)) (sym u.1) i)

pub reason_closes : (e : Term) (t : List ℕ) (a : Act) (ps mid next rest : List Piece) → IsBefore Comma e ps mid → IsDisplay t mid next → after Semicolon next ≡ None → IsSimple Assume a ps rest → ⊥
reason_closes e t a ps mid next rest h k none s =
    let p = reason_only e a ps mid rest h s in
    let u = one_display k p.2 in
    let e : None ≡ Some rest = sym none ∙ ap (after Semicolon) u.1 ∙ after-symbol_at p.1 Semicolon rest in
    cc

pub is_assumption : (e : Term) (t : List ℕ) (ps mid next rest : List Piece) → IsBefore Comma e ps mid
    → IsDisplay t mid next → after Semicolon next ≡ Some rest → IsSimple Assume (plain (assume e t)) ps rest
is_assumption e t ps mid next rest h k taken = let s = after-Some Semicolon next rest taken in an_assumption h (subst (IsDisplay t mid) s.1 k)

-- a text that is next stands in front
text_first : (t : List ℕ) (ps rest : List Piece) → text_next ps ≡ Some (t, rest) → (r : Position) × (ps ≡ text_at r t ∷ rest)
text_first t [] rest h = cc
text_first t (text_at r s ∷ ps) rest h = let e = some_pair_parts s t ps rest h in (r, ap (λ s. text_at r s ∷ ps) e.0 ∙ ap (λ ps. text_at r t ∷ ps) e.1)
text_first t (name_at r n ∷ ps) rest h = cc
text_first t (number_at r n ∷ ps) rest h = cc
text_first t (word_at r w ∷ ps) rest h = cc
text_first t (symbol_at r s ∷ ps) rest h = cc
text_first t (bad_at r fault ∷ ps) rest h = cc

pub is_fail : (t : List ℕ) (old mid rest : List Piece) → text_next old ≡ Some (t, mid) → after Semicolon mid ≡ Some rest → IsSimple Fail (plain (fail t)) old rest
is_fail t old mid rest next taken =
    let f = text_first t old mid next in
    let s = after-Some Semicolon mid rest taken in
    subst (λ ps. IsSimple Fail (plain (fail t)) ps rest) (sym (f.1 ∙ ap (λ ps. text_at f.0 t ∷ ps) s.1)) a_fail

pub fail_text : (a : Act) (ps rest : List Piece) → text_next ps ≡ None → IsSimple Fail a ps rest → ⊥
fail_text a ps rest none a_fail = cc

pub fail_closes : (t : List ℕ) (a : Act) (old mid rest : List Piece) → text_next old ≡ Some (t, mid) → after Semicolon mid ≡ None → IsSimple Fail a old rest → ⊥
fail_closes t a old mid rest next none (a_fail {q = q} {t = s} {ps = ps}) =
    let p = some_pair_parts s t (symbol_at q Semicolon ∷ ps) mid next in
    let e : None ≡ Some ps = sym none ∙ ap (after Semicolon) (sym p.1) ∙ after-symbol_at q Semicolon ps in
    cc

-- a name and its expression
pub is_binding : (n : List ℕ) (e : Term) (old ps mid rest : List Piece) → name_next old ≡ Some (n, ps) → after Equals ps ≡ Some mid → IsBefore Semicolon e mid rest → IsBinding (n, e) old rest
is_binding n e old ps mid rest name taken h =
    let f = name_is n old ps name in
    let s = after-Some Equals ps mid taken in
    let b : List ℕ × Term = (n, e) in
    subst (λ qs. IsBinding b qs rest) (sym (f.1 ∙ ap (λ ps. name_at f.0 n ∷ ps) s.1)) (a_binding h)

pub binding_name : (b : List ℕ × Term) (ps rest : List Piece) → name_next ps ≡ None → IsBinding b ps rest → ⊥
binding_name b ps rest none (a_binding h) = cc

pub binding_equals : (n : List ℕ) (b : List ℕ × Term) (old ps rest : List Piece) → name_next old ≡ Some (n, ps) → after Equals ps ≡ None → IsBinding b old rest → ⊥
binding_equals n b old ps rest next none (a_binding {q = q} {n = m} {ps = qs} h) =
    let p = some_pair_parts m n (symbol_at q Equals ∷ qs) ps next in
    let e : None ≡ Some qs = sym none ∙ ap (after Equals) (sym p.1) ∙ after-symbol_at q Equals qs in
    cc

pub binding_value : (n : List ℕ) (b : List ℕ × Term) (old ps mid rest : List Piece) → name_next old ≡ Some (n, ps)
    → after Equals ps ≡ Some mid → IsBinding b old rest → (e : Term) × IsBefore Semicolon e mid rest
binding_value n b old ps mid rest next taken (a_binding {q = q} {n = m} {e = e} {ps = qs} h) =
    let p = some_pair_parts m n (symbol_at q Equals ∷ qs) ps next in
    let f : Some qs ≡ Some mid = sym (after-symbol_at q Equals qs) ∙ ap (after Equals) p.1 ∙ taken in
    let g : qs ≡ mid = cc in
    (e, subst (λ ps. IsBefore Semicolon e ps rest) g h)

pub is_display_text : (r : Position) (t s : List ℕ) (old new : List Piece) → old ≡ text_at r t ∷ tail old → new ≡ tail old → s ≡ t → is_display s ≡ true → IsDisplay s old new
is_display_text r t s old new next ahead same is =
    let u : old ≡ text_at r s ∷ new = next ∙ ap (λ t. text_at r t ∷ tail old) (sym same) ∙ ap (λ ps. text_at r s ∷ ps) (sym ahead) in
    subst (λ ps. IsDisplay s ps new) (sym u) (a_display is)

pub statement_some : {d above : ℕ} {a : Act} {ps qs : List Piece} → IsStatement d above a ps qs → ps ≢ []
statement_some (a_simple is h) = λ e. cc
statement_some (an_assignment h) = λ e. cc
statement_some (an_if h i j) = λ e. cc
statement_some (a_repeat h i) = λ e. cc

-- a statement with its row, and those after it
abbrev pub also : ℕ × Act → Acts → Acts
also s body = act s.0 s.1 body

onto-none : (ss : List (ℕ × Act)) → onto also ss no_acts ≡ acts_of ss
onto-none [] = refl
onto-none (s ∷ ss) = ap (act s.0 s.1) (onto-none ss)

-- one statement more
pub goes_on : (d above row : ℕ) (a : Act) (here next : List Piece) → row ≡ row_in above here → IsStatement d above a here next
    → (more : Acts) (rest : List Piece) → IsStatements d above more next rest → IsStatements d above (also (row, a) more) here rest
goes_on d above row a here next at found more rest h = subst (λ r. IsStatements d above (act r a more) here rest) (sym at) (and_then found h)

-- whatever is read where no brace closes begins with a statement
pub next_statement : {d above : ℕ} {all : Acts} {ps rest : List Piece} → IsStatements d above all ps rest → after CloseBrace ps ≡ None
    → (a : Act) × (more : Acts) × (qs : List Piece) × IsStatement d above a ps qs × IsStatements d above more qs rest
next_statement closed h = cc
next_statement (and_then {a = a} {body = more} {qs = qs} s ss) h = (a, more, qs, s, ss)

pub goes_only : (d above : ℕ) (a : Act) (here next : List Piece) → after CloseBrace here ≡ None → IsStatement d above a here next
    → (all : Acts) (rest : List Piece) → IsStatements d above all here rest → (more : Acts) × IsStatements d above more next rest
goes_only d above a here next unclosed found all rest h =
    let n = next_statement h unclosed in
    (n.1, subst (λ ps. IsStatements d above n.1 ps rest) (sym (one_statement found n.3).1) n.4)

is_closed : (d above : ℕ) (here rest : List Piece) → after CloseBrace here ≡ Some rest → IsStatements d above no_acts here rest
is_closed d above here rest taken = let s = after-Some CloseBrace here rest taken in subst (λ ps. IsStatements d above no_acts ps rest) (sym s.1) closed

-- all statements up to the brace
pub all_read : (d above : ℕ) (ss : List (ℕ × Act)) (first here rest : List Piece) → HaveRead also (IsStatements d above) (IsStatements d above) ss first here
    → after CloseBrace here ≡ Some rest → IsStatements d above (acts_of ss) first rest
all_read d above ss first here rest so_far taken = subst (λ all. IsStatements d above all first rest) (onto-none ss) (so_far.found no_acts rest (is_closed d above here rest taken))

pub is_body : (d more above : ℕ) (body : Acts) (old ps new : List Piece) → d ≡ suc more → after OpenBrace old ≡ Some ps → IsStatements more above body ps new → IsBody d above body old new
is_body d more above body old ps new left taken h =
    let s = after-Some OpenBrace old ps taken in
    subst (λ d. IsBody d above body old new) (sym left) (subst (λ qs. IsBody (suc more) above body qs new) (sym s.1) (a_body h))

-- what follows the brace of a body
pub body_inner : (d more above : ℕ) (body : Acts) (old ps new : List Piece) → d ≡ suc more → after OpenBrace old ≡ Some ps → IsBody d above body old new → IsStatements more above body ps new
body_inner d more above body old ps new left taken (a_body {d = m} {r = r} {ps = qs} h) =
    let e : m ≡ more = cc in
    let f : Some qs ≡ Some ps = sym (after-symbol_at r OpenBrace qs) ∙ taken in
    let g : qs ≡ ps = cc in
    subst (λ n. IsStatements n above body ps new) e (subst (λ qs. IsStatements m above body qs new) g h)

-- no body is read where none may be opened, and where none is
pub not_opened : (d above : ℕ) (body : Acts) (old new : List Piece) → ((more : ℕ) → d ≡ suc more → after OpenBrace old ≡ None) → IsBody d above body old new → ⊥
not_opened d above body old new none (a_body {d = m} {r = r} {ps = ps} h) = let e : None ≡ Some ps = sym (none m refl) ∙ after-symbol_at r OpenBrace ps in cc

-- a body begins with a brace
brace_first : {d above : ℕ} {body : Acts} {old new : List Piece} → IsBody d above body old new → (r : Position) × (ps : List Piece) × (old ≡ symbol_at r OpenBrace ∷ ps)
brace_first (a_body {r = r} {ps = ps} h) = (r, ps, refl)

-- the position of a token is that of its piece
position_of-front : (r q : Position) (t : Token) (s : Symbol) (ps qs : List Piece) → front r t ps ≡ symbol_at q s ∷ qs → r ≡ q
position_of-front r q (T.Name n) s ps qs h = cc
position_of-front r q (T.Number n) s ps qs h = cc
position_of-front r q (T.Text n) s ps qs h = cc
position_of-front r q (T.Word w) s ps qs h = cc
position_of-front r q (T.Symbol t) s ps qs h = cc
position_of-front r q T.End s ps qs h = cc
position_of-front r q (T.Bad fault) s ps qs h = cc

-- a body whose rows count from its own line is a block
pub is_block : (r : Position) (above : ℕ) (t : Token) (body : Acts) (old new : List Piece) → above ≡ r.line - 1
    → old ≡ front r t (tail old) → IsBody BODY_DEPTH above body old new → IsBlock body old new
is_block r above t body old new from next h =
    let s = brace_first h in
    let e = position_of-front r s.0 t OpenBrace (tail old) s.1 (sym next ∙ s.2) in
    let rows : above ≡ s.0.line - 1 = from ∙ ap (λ (p : Position). p.line - 1) e in
    subst (λ qs. IsBlock body qs new) (sym s.2) (a_block (subst (λ n. IsBody BODY_DEPTH n body (symbol_at s.0 OpenBrace ∷ s.1) new) rows (subst (λ qs. IsBody BODY_DEPTH above body qs new) s.2 h)))

pub block_inner : (r : Position) (above : ℕ) (t : Token) (body : Acts) (old new : List Piece)
    → above ≡ r.line - 1 → old ≡ front r t (tail old) → IsBlock body old new → IsBody BODY_DEPTH above body old new
block_inner r above t body old new from next (a_block {r = q} {ps = ps} h) =
    let e = position_of-front r q t OpenBrace (tail old) ps (sym next) in
    subst (λ n. IsBody BODY_DEPTH n body old new) (sym (from ∙ ap (λ (p : Position). p.line - 1) e)) h
