-- Expressions by their rules, with what stands where as equations.
use Rattle.std.proofs.Common.{◌≡◌, ℕ, ℤ, pos, ◌^◌, suc, ◌-◌, ◌<◌, ◌≤◌, arith, List, [], ◌∷◌, ◌++◌, length, length-append, Option, Some, None, is_some, option_map, true, false, refl, ap, subst, sym, ◌∙◌}
use Rattle.std.proofs.lemmas.Option.{some_pair_parts}
use Rattle.iso_script_lexer.specs.Piece.{Piece, name_at, number_at, text_at, word_at, symbol_at, bad_at, tail}
use Rattle.iso_script_lexer.specs.Tokens.{after, after_word}
use Rattle.iso_script_lexer.specs.declared.symbol.Symbol.{Symbol}
use Rattle.iso_script_lexer.specs.declared.symbol.Symbol.TheVariants.{OpenParen, CloseParen}
use Rattle.iso_script_lexer.specs.declared.word.Word.{Word}
use Rattle.iso_script_lexer.specs.declared.word.Word.TheVariants as W
use Rattle.iso_script_lexer.proofs.Afters.{after-Some, after-symbol_at, after_word-Some, after_word-word_at}
use Rattle.iso_model.specs.declared.data.Data.{Data}
use Rattle.iso_model.specs.declared.data.Data.TheVariants.{Whole}
use Rattle.iso_model.specs.declared.limits.TheConstants.{PARENTHESES}
use Rattle.iso_model.specs.declared.tree.Comparison.{Comparison}
use Rattle.iso_model.specs.declared.tree.Function.{Function}
use Rattle.iso_model.specs.declared.tree.Operator.{Operator}
use Rattle.iso_model.specs.Syntax.{Term, Terms, literal, name, chain, compare, call, locale, no_terms, term}
use Rattle.iso_model.specs.SyntaxView.{term_of, terms_of}
use Rattle.iso_script_statements.specs.Expressions as E
use Rattle.iso_script_statements.specs.Expressions.{IsLiteral, infix_of, infix_next, function_of, function_next, IsLocale, no_argument, IsOperand, a_literal, a_name, in_parentheses, a_call, the_locale, IsEnclosed, enclosed, IsChained, chained, IsExpression, an_operand, a_chain, a_comparison, IsBefore, before}
use Rattle.iso_script_statements.proofs.Literals.{is_number}
use Rattle.iso_script_statements.specs.Pieces.{name_ahead}
use Rattle.iso_script_statements.specs.declared.expression.Infix.{Infix}
use Rattle.iso_script_statements.specs.declared.expression.Infix.TheVariants.{Chain, Compare}
use Rattle.iso_script_statements.proofs.Repetitions.{onto, HaveRead}
use Rattle.iso_script_statements.proofs.Taken.{stands_in_front}
use Rattle.iso_script_statements.proofs.Unique.{no_parenthesis, no_locale, no_function, one_operand, one_expression}
use Rattle.iso_script_lexer.specs.declared.token.Position.{Position}

pub none_next : {A : Type 0} (o : Option A) → false ≡ is_some o → o ≡ None
none_next None h = refl
none_next (Some x) h = cc

-- an operand in parentheses
pub is_in_parentheses : (d : ℕ) (e : Term) (old rest : List Piece) → true ≡ is_some (after OpenParen old) → IsEnclosed d e old rest → IsOperand d e old rest
is_in_parentheses d e old rest next h =
    let s = stands_in_front OpenParen old next in
    subst (λ ps. IsOperand d e ps rest) (sym s.1) (in_parentheses (subst (λ ps. IsEnclosed d e ps rest) s.1 h))

from_parenthesis : {d : ℕ} {r : Position} {e : Term} {ps rest : List Piece} → IsOperand d e (symbol_at r OpenParen ∷ ps) rest → IsEnclosed d e (symbol_at r OpenParen ∷ ps) rest
from_parenthesis (a_literal h) = absurd (no_parenthesis h)
from_parenthesis (in_parentheses h) = h

pub parentheses_only : (d : ℕ) (e : Term) (old rest : List Piece) → true ≡ is_some (after OpenParen old) → IsOperand d e old rest → IsEnclosed d e old rest
parentheses_only d e old rest next h =
    let s = stands_in_front OpenParen old next in
    subst (λ ps. IsEnclosed d e ps rest) (sym s.1) (from_parenthesis (subst (λ ps. IsOperand d e ps rest) s.1 h))

-- a function that is next stands in front
function_first : (f : Function) (ps : List Piece) → function_next ps ≡ Some f → (r : Position) × (w : Word) × (function_of w ≡ Some f) × (ps ≡ word_at r w ∷ tail ps)
function_first f [] h = cc
function_first f (word_at r w ∷ ps) h = (r, w, h, refl)
function_first f (name_at r n ∷ ps) h = cc
function_first f (number_at r n ∷ ps) h = cc
function_first f (text_at r t ∷ ps) h = cc
function_first f (symbol_at r s ∷ ps) h = cc
function_first f (bad_at r fault ∷ ps) h = cc

pub is_call : (d : ℕ) (f : Function) (e : Term) (old mid rest : List Piece) → function_next old ≡ Some f → mid ≡ tail old → IsEnclosed d e mid rest → IsOperand d (call f e) old rest
is_call d f e old mid rest next ahead h =
    let s = function_first f old next in
    subst (λ ps. IsOperand d (call f e) ps rest) (sym s.3) (a_call s.2 (subst (λ ps. IsEnclosed d e ps rest) ahead h))

from_function : {d : ℕ} {r : Position} {w : Word} {f : Function} {e : Term} {ps rest : List Piece}
    → function_of w ≡ Some f → IsOperand d e (word_at r w ∷ ps) rest → (x : Term) × IsEnclosed d x ps rest
from_function is (a_literal h) = absurd (no_function is h)
from_function is (a_call {e = e} f h) = (e, h)
from_function is (the_locale h) = cc

pub call_only : (d : ℕ) (f : Function) (e : Term) (old mid rest : List Piece) → function_next old ≡ Some f → mid ≡ tail old → IsOperand d e old rest → (x : Term) × IsEnclosed d x mid rest
call_only d f e old mid rest next ahead h =
    let s = function_first f old next in
    let p = from_function s.2 (subst (λ ps. IsOperand d e ps rest) s.3 h) in
    (p.0, subst (λ ps. IsEnclosed d p.0 ps rest) (sym ahead) p.1)

pub is_locale : (d : ℕ) (e : Term) (old mid rest : List Piece) → after_word W.Locale old ≡ Some mid → IsLocale d e mid rest → IsOperand d e old rest
is_locale d e old mid rest taken h = let s = after_word-Some W.Locale old mid taken in subst (λ ps. IsOperand d e ps rest) (sym s.1) (the_locale h)

from_locale : {d : ℕ} {r : Position} {e : Term} {ps rest : List Piece} → IsOperand d e (word_at r W.Locale ∷ ps) rest → IsLocale d e ps rest
from_locale (a_literal h) = absurd (no_locale h)
from_locale (a_call is h) = cc
from_locale (the_locale h) = h

pub locale_only : (d : ℕ) (e : Term) (old mid rest : List Piece) → after_word W.Locale old ≡ Some mid → IsOperand d e old rest → IsLocale d e mid rest
locale_only d e old mid rest taken h = let s = after_word-Some W.Locale old mid taken in from_locale (subst (λ ps. IsOperand d e ps rest) s.1 h)

pub is_no_argument : (d more : ℕ) (old mid new : List Piece) → d ≡ suc more → after OpenParen old ≡ Some mid → after CloseParen mid ≡ Some new → IsLocale d locale old new
is_no_argument d more old mid new left opened shut =
    let s = after-Some OpenParen old mid opened in
    let t = after-Some CloseParen mid new shut in
    subst (λ d. IsLocale d locale old new) (sym left) (subst (λ ps. IsLocale (suc more) locale ps new) (sym (s.1 ∙ ap (λ ps. symbol_at s.0 OpenParen ∷ ps) t.1)) no_argument)

pub locale_opens : (d : ℕ) (e : Term) (old rest : List Piece) → ((more : ℕ) → d ≡ suc more → after OpenParen old ≡ None) → IsLocale d e old rest → ⊥
locale_opens d e old rest none (no_argument {d = m} {r = r} {q = q} {ps = ps}) =
    let e : None ≡ Some (symbol_at q CloseParen ∷ ps) = sym (none m refl) ∙ after-symbol_at r OpenParen (symbol_at q CloseParen ∷ ps) in
    cc

pub locale_closes : (d : ℕ) (e : Term) (old mid rest : List Piece) → after OpenParen old ≡ Some mid → after CloseParen mid ≡ None → IsLocale d e old rest → ⊥
locale_closes d e old mid rest opened none (no_argument {r = r} {q = q} {ps = ps}) =
    let e : Some (symbol_at q CloseParen ∷ ps) ≡ Some mid = sym (after-symbol_at r OpenParen (symbol_at q CloseParen ∷ ps)) ∙ opened in
    let f : symbol_at q CloseParen ∷ ps ≡ mid = cc in
    let g : None ≡ Some ps = sym none ∙ ap (after CloseParen) (sym f) ∙ after-symbol_at q CloseParen ps in
    cc

pub is_name : (d : ℕ) (n : List ℕ) (old new : List Piece) → name_ahead old ≡ Some n → new ≡ tail old → IsOperand d (name n) old new
is_name d n [] new next ahead = cc
is_name d n (name_at r m ∷ ps) new next ahead = let e : m ≡ n = cc in subst (λ n. IsOperand d (name n) (name_at r m ∷ ps) new) e (subst (IsOperand d (name m) (name_at r m ∷ ps)) (sym ahead) a_name)
is_name d n (number_at r m ∷ ps) new next ahead = cc
is_name d n (text_at r t ∷ ps) new next ahead = cc
is_name d n (word_at r w ∷ ps) new next ahead = cc
is_name d n (symbol_at r s ∷ ps) new next ahead = cc
is_name d n (bad_at r fault ∷ ps) new next ahead = cc

pub is_whole : (d : ℕ) (r : Position) (n : ℕ) (z : ℤ) (old new : List Piece) → z ≡ pos n → old ≡ number_at r n ∷ tail old → new ≡ tail old → n < 2 ^ 63 → IsOperand d (literal (Whole z)) old new
is_whole d r n z old new e f g h = a_literal (is_number r n z old new e f g h)

-- what is no parenthesis, function, locale or name is a literal
pub literal_only : (d : ℕ) (e : Term) (old rest : List Piece) → after OpenParen old ≡ None → function_next old ≡ None
    → after_word W.Locale old ≡ None → name_ahead old ≡ None → IsOperand d e old rest → (x : Data) × IsLiteral x old rest
literal_only d e old rest p f l n (a_literal {x = x} h) = (x, h)
literal_only d e old rest p f l n a_name = cc
literal_only d e old rest p f l n (in_parentheses {r = r} {ps = ps} h) = let e : None ≡ Some ps = sym p ∙ after-symbol_at r OpenParen ps in cc
literal_only d e old rest p f l n (a_call is h) = cc
literal_only d e old rest p f l n (the_locale {r = r} {ps = ps} h) = let e : None ≡ Some ps = sym l ∙ after_word-word_at r W.Locale ps in cc

-- between parentheses
pub is_enclosed : (d more : ℕ) (e : Term) (old ps mid rest : List Piece) → d ≡ suc more → after OpenParen old ≡ Some ps
    → IsExpression more e ps mid → after CloseParen mid ≡ Some rest → IsEnclosed d e old rest
is_enclosed d more e old ps mid rest left opened h shut =
    let s = after-Some OpenParen old ps opened in
    let t = after-Some CloseParen mid rest shut in
    subst (λ d. IsEnclosed d e old rest) (sym left) (subst (λ ps. IsEnclosed (suc more) e ps rest) (sym s.1) (enclosed (subst (IsExpression more e ps) t.1 h)))

pub enclosed_only : (d more : ℕ) (e : Term) (old ps rest : List Piece) → d ≡ suc more → after OpenParen old ≡ Some ps
    → IsEnclosed d e old rest → (q : Position) × IsExpression more e ps (symbol_at q CloseParen ∷ rest)
enclosed_only d more e old ps rest left opened (enclosed {d = m} {r = r} {q = q} {ps = qs} h) =
    let same : m ≡ more = cc in
    let f : Some qs ≡ Some ps = sym (after-symbol_at r OpenParen qs) ∙ opened in
    let g : qs ≡ ps = cc in
    (q, subst (λ d. IsExpression d e ps (symbol_at q CloseParen ∷ rest)) same (subst (λ qs. IsExpression m e qs (symbol_at q CloseParen ∷ rest)) g h))

pub enclosed_opens : (d : ℕ) (e : Term) (old rest : List Piece) → ((more : ℕ) → d ≡ suc more → after OpenParen old ≡ None) → IsEnclosed d e old rest → ⊥
enclosed_opens d e old rest none (enclosed {d = m} {r = r} {ps = ps} h) = let e : None ≡ Some ps = sym (none m refl) ∙ after-symbol_at r OpenParen ps in cc

-- a symbol does not follow an expression where another does
pub not_followed : (d : ℕ) (s : Symbol) (e f : Term) (ps mid rest : List Piece) (q : Position) → IsExpression d e ps mid → after s mid ≡ None → IsExpression d f ps (symbol_at q s ∷ rest) → ⊥
not_followed d s e f ps mid rest q h none k =
    let u = one_expression h k in
    let e : None ≡ Some rest = sym none ∙ ap (after s) u.1 ∙ after-symbol_at q s rest in
    cc

-- operands after the first
pub onto-none : (ts : List Term) → onto term ts no_terms ≡ terms_of ts
onto-none [] = refl
onto-none (t ∷ ts) = ap (term t) (onto-none ts)

-- all operands up to what is no operator
pub all_chained : (d n : ℕ) (s : Symbol) (ts : List Term) (first here : List Piece)
    → HaveRead term (IsChained d s 31) (IsChained d s n) ts first here → infix_next here ≡ None → IsChained d s 31 (terms_of ts) first here
all_chained d n s ts first here so_far none = subst (λ es. IsChained d s 31 es first here) (onto-none ts) (so_far.found no_terms here (chained none))

-- one operand more, where there is room for it
pub chain_goes_on : (d n more : ℕ) (s : Symbol) (e : Term) (here mid next : List Piece) → n ≡ suc more → true ≡ is_some (after s here)
    → mid ≡ tail here → IsOperand d e mid next → (es : Terms) (rest : List Piece) → IsChained d s more es next rest → IsChained d s n (term e es) here rest
chain_goes_on d n more s e here mid next room at ahead h es rest k =
    let f = stands_in_front s here at in
    subst (λ n. IsChained d s n (term e es) here rest) (sym room)
    (subst (λ ps. IsChained d s (suc more) (term e es) ps rest) (sym f.1) (E.IsChained.and_then (subst (λ ps. IsOperand d e ps next) ahead h) k))

-- what goes on where an operator is next
next_operand : {d n : ℕ} {s : Symbol} {es : Terms} {here rest : List Piece} → true ≡ is_some (infix_next here) → IsChained d s n es here rest
    → (more : ℕ) × (e : Term) × (fs : Terms) × (r : Position) × (ps : List Piece) × (qs : List Piece) × (n ≡ suc more) × (here ≡ symbol_at r s ∷ ps) × IsOperand d e ps qs
    × IsChained d s more fs qs rest
next_operand some (chained none) = cc
next_operand some (E.IsChained.and_then {n = n} {r = r} {e = e} {es = es} {ps = ps} {qs = qs} h k) = (n, e, es, r, ps, qs, refl, refl, h, k)

pub chain_goes_only : (d n more : ℕ) (s : Symbol) (e : Term) (here mid next : List Piece) → n ≡ suc more → true ≡ is_some (infix_next here) → mid ≡ tail here
    → IsOperand d e mid next → (all : Terms) (rest : List Piece) → IsChained d s n all here rest → (es : Terms) × IsChained d s more es next rest
chain_goes_only d n more s e here mid next room some ahead h all rest k =
    let p = next_operand some k in
    let same : p.0 ≡ more = let f = p.6 in cc in
    let u = one_operand h (subst (λ ps. IsOperand d p.1 ps p.5) (sym (ahead ∙ ap tail p.7)) p.8) in
    (p.2, subst (λ n. IsChained d s n p.2 next rest) same (subst (λ ps. IsChained d s p.0 p.2 ps rest) (sym u.1) p.9))

-- no chain goes on by another operator
pub not_mixed : (d n : ℕ) (s : Symbol) (all : Terms) (here rest : List Piece) → true ≡ is_some (infix_next here) → after s here ≡ None → IsChained d s n all here rest → ⊥
not_mixed d n s all here rest some other k =
    let p = next_operand some k in
    let e : None ≡ Some p.4 = sym other ∙ ap (after s) p.7 ∙ after-symbol_at p.3 s p.4 in
    cc

-- nor where there is no room
pub not_longer : (d n : ℕ) (s : Symbol) (all : Terms) (here rest : List Piece) → true ≡ is_some (infix_next here) → n ≡ 0 → IsChained d s n all here rest → ⊥
not_longer d n s all here rest some full k = let p = next_operand some k in let e = p.6 in absurd (omega (arith, e, full))

-- and an operand is what goes on
pub operand_follows : (d n : ℕ) (s : Symbol) (all : Terms) (here mid rest : List Piece) → true ≡ is_some (infix_next here)
    → mid ≡ tail here → IsChained d s n all here rest → (e : Term) × (qs : List Piece) × IsOperand d e mid qs
operand_follows d n s all here mid rest some ahead k =
    let p = next_operand some k in
    (p.1, p.5, subst (λ ps. IsOperand d p.1 ps p.5) (sym (ahead ∙ ap tail p.7)) p.8)

-- an operator that is next stands in front
infix_first : (s : Symbol) (i : Infix) (ps : List Piece) → infix_next ps ≡ Some (s, i) → (r : Position) × (infix_of s ≡ Some i) × (ps ≡ symbol_at r s ∷ tail ps)
infix_first s i [] h = cc
infix_first s i (symbol_at r t ∷ ps) h = let p = mapped t s i (infix_of t) h in (r, ap infix_of (sym p.0) ∙ p.1, ap (λ t. symbol_at r t ∷ ps) p.0)
  where
    mapped : (t s : Symbol) (i : Infix) (o : Option Infix) → option_map {U = Symbol × Infix} (λ j. (t, j)) o ≡ Some (s, i) → (t ≡ s) × (o ≡ Some i)
    mapped t s i None h = cc
    mapped t s i (Some j) h = let p = some_pair_parts t s j i h in (p.0, ap Some p.1)
infix_first s i (name_at r n ∷ ps) h = cc
infix_first s i (number_at r n ∷ ps) h = cc
infix_first s i (text_at r t ∷ ps) h = cc
infix_first s i (word_at r w ∷ ps) h = cc
infix_first s i (bad_at r fault ∷ ps) h = cc

pub is_chain : (d : ℕ) (s : Symbol) (op : Operator) (e : Term) (es : Terms) (old mid rest : List Piece)
    → infix_next mid ≡ Some (s, Chain op) → IsOperand d e old mid → IsChained d s 31 es mid rest → IsExpression d (chain op e es) old rest
is_chain d s op e es old mid rest next h k =
    let f = infix_first s (Chain op) mid next in
    a_chain f.1 (subst (IsOperand d e old) f.2 h) (subst (λ ps. IsChained d s 31 es ps rest) f.2 k)

pub is_comparison : (d : ℕ) (s : Symbol) (c : Comparison) (e f : Term) (old mid ps rest : List Piece) → infix_next mid ≡ Some (s, Compare c)
    → IsOperand d e old mid → ps ≡ tail mid → IsOperand d f ps rest → infix_next rest ≡ None → IsExpression d (compare c e f) old rest
is_comparison d s c e f old mid ps rest next h ahead k none =
    let g = infix_first s (Compare c) mid next in
    a_comparison g.1 (subst (IsOperand d e old) g.2 h) (subst (λ ps. IsOperand d f ps rest) ahead k) none

pub chain_only : (d : ℕ) (s : Symbol) (op : Operator) (e f : Term) (old mid rest : List Piece) → infix_next mid ≡ Some (s, Chain op)
    → IsOperand d e old mid → IsExpression d f old rest → (es : Terms) × IsChained d s 31 es mid rest
chain_only d s op e f old mid rest next h (an_operand k none) = let u = one_operand h k in let n : infix_next mid ≡ None = ap infix_next u.1 ∙ none in cc
chain_only d s op e f old mid rest next h (a_chain {r = r} {s = t} {es = es} {qs = qs} is k ks) =
    let u = one_operand h k in
    let g = infix_first s (Chain op) mid next in
    let same : s ≡ t = let i = u.1 in let j = g.2 in cc in
    (es, subst (λ ps. IsChained d s 31 es ps rest) (sym u.1) (subst (λ u. IsChained d u 31 es (symbol_at r t ∷ qs) rest) (sym same) ks))
chain_only d s op e f old mid rest next h (a_comparison {s = t} is k j none) =
    let u = one_operand h k in
    let g = infix_first s (Chain op) mid next in
    let same : s ≡ t = let i = u.1 in let j = g.2 in cc in
    let i = g.1 in
    cc

pub comparison_only : (d : ℕ) (s : Symbol) (c : Comparison) (e f : Term) (old mid ps rest : List Piece) → infix_next mid ≡ Some (s, Compare c)
    → IsOperand d e old mid → ps ≡ tail mid → IsExpression d f old rest → (x : Term) × IsOperand d x ps rest × (infix_next rest ≡ None)
comparison_only d s c e f old mid ps rest next h ahead (an_operand k none) = let u = one_operand h k in let n : infix_next mid ≡ None = ap infix_next u.1 ∙ none in cc
comparison_only d s c e f old mid ps rest next h ahead (a_comparison {f = x} is k j none) =
    let u = one_operand h k in
    (x, subst (λ ps. IsOperand d x ps rest) (sym (ahead ∙ ap tail u.1)) j, none)
comparison_only d s c e f old mid ps rest next h ahead (a_chain {s = t} is k ks) =
    let u = one_operand h k in
    let g = infix_first s (Compare c) mid next in
    let same : s ≡ t = let i = u.1 in let j = g.2 in cc in
    let i = g.1 in
    cc

-- no operator follows the second of two that are compared
pub unfollowed : (d : ℕ) (e f : Term) (ps mid rest : List Piece) → IsOperand d e ps mid → true ≡ is_some (infix_next mid) → IsOperand d f ps rest → infix_next rest ≡ None → ⊥
unfollowed d e f ps mid rest h some k none =
    let u = one_operand h k in
    let n : infix_next mid ≡ None = ap infix_next u.1 ∙ none in
    let e : true ≡ false = some ∙ ap is_some n in
    cc

pub is_before : {s : Symbol} {e : Term} {ps mid qs : List Piece} → IsExpression PARENTHESES e ps mid → after s mid ≡ Some qs → IsBefore s e ps qs
is_before {s = s} {e = e} {ps = ps} {mid = mid} {qs = qs} h taken = let a = after-Some s mid qs taken in before (subst (IsExpression PARENTHESES e ps) a.1 h)

-- an expression is not before a symbol where another follows
pub not_before : {s : Symbol} {e f : Term} {ps mid rest : List Piece} → IsExpression PARENTHESES e ps mid → after s mid ≡ None → IsBefore s f ps rest → ⊥
not_before {s = s} {e = e} {f = f} {ps = ps} {mid = mid} {rest = rest} h none (before {q = q} k) = not_followed PARENTHESES s e f ps mid rest q h none k

-- nothing stands between parentheses where another symbol than the closing one follows
pub not_enclosed : (d more : ℕ) (e f : Term) (old mid next rest : List Piece) → d ≡ suc more → after OpenParen old ≡ Some mid
    → IsExpression more e mid next → after CloseParen next ≡ None → IsEnclosed d f old rest → ⊥
not_enclosed d more e f old mid next rest left opened h none k =
    let q = enclosed_only _ _ f _ _ rest left opened k in
    not_followed _ CloseParen _ f _ _ rest q.0 h none q.1

-- an expression begins with an operand
pub operand_first : (d : ℕ) (e : Term) (ps rest : List Piece) → IsExpression d e ps rest → (f : Term) × (qs : List Piece) × IsOperand d f ps qs
operand_first d e ps rest (an_operand {e = f} {qs = qs} h none) = (f, qs, h)
operand_first d e ps rest (a_chain {r = r} {s = s} {e = f} {qs = qs} is h k) = (f, symbol_at r s ∷ qs, h)
operand_first d e ps rest (a_comparison {r = r} {s = s} {e = f} {qs = qs} is h k none) = (f, symbol_at r s ∷ qs, h)

-- one place fewer
pub room_left : {A : Type 0} (xs : List A) (x : A) → length xs < 31 → 31 - length xs ≡ suc (31 - length (xs ++ x ∷ []))
room_left xs x h = let e = length-append xs (x ∷ []) in omega (arith, e, h)

pub still_few : {A : Type 0} (xs : List A) (x : A) → length xs < 31 → length (xs ++ x ∷ []) ≤ 31
still_few xs x h = let e = length-append xs (x ∷ []) in omega (arith, e, h)

pub tail_shorter : (ps : List Piece) → length (tail ps) ≤ length ps
tail_shorter [] = omega arith
tail_shorter (p ∷ ps) = omega arith
