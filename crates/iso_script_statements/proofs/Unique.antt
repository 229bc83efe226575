-- Pieces are one literal, expression, statement or block at most: each rule has one clause.
use Rattle.std.proofs.Common.{◌≡◌, ℕ, List, ◌∷◌, Some, None, option_map, refl, ap, subst, sym, ◌∙◌}
use Rattle.iso_script_lexer.specs.Piece.{Piece, name_at, word_at, symbol_at}
use Rattle.iso_script_lexer.specs.declared.symbol.Symbol.{Symbol}
use Rattle.iso_script_lexer.specs.declared.symbol.Symbol.TheVariants.{OpenParen, Semicolon}
use Rattle.iso_script_lexer.specs.declared.word.Word.{Word}
use Rattle.iso_script_lexer.specs.declared.word.Word.TheVariants as W
use Rattle.iso_model.specs.declared.data.Data.{Data}
use Rattle.iso_model.specs.declared.tree.Function.{Function}
use Rattle.iso_model.specs.Syntax.{Term, Terms, literal, chain, compare, call, term, let_name, assign, assume, Act, plain, choice, repeat, Acts}
use Rattle.iso_model.specs.SyntaxView.{with_one, with_two}
use Rattle.iso_script_statements.specs.Expressions as E
use Rattle.iso_script_statements.specs.Expressions.{IsLiteral, a_number, a_negative, a_text, a_true, a_false, infix_of, infix_next, function_of, IsLocale, no_argument, IsOperand, a_literal, a_name, in_parentheses, a_call, the_locale, IsEnclosed, enclosed, IsChained, chained, IsExpression, an_operand, a_chain, a_comparison, IsBefore, before}
use Rattle.iso_script_statements.specs.declared.expression.Infix.{Infix}
use Rattle.iso_script_statements.specs.declared.simple.Simple.{Simple}
use Rattle.iso_script_statements.specs.Statements.{IsDisplay, a_display, IsBinding, a_binding, IsSimple, of_one, of_two, a_let, an_assumption, a_fail, IsStatement, a_simple, an_assignment, an_if, a_repeat, IsElse, no_else, an_else, IsStatements, closed, and_then, IsBody, a_body, IsBlock, a_block}
use Rattle.iso_script_lexer.specs.declared.token.Position.{Position}

pub one_literal : {x y : Data} {ps qs rs : List Piece} → IsLiteral x ps qs → IsLiteral y ps rs → (x ≡ y) × (qs ≡ rs)
one_literal (a_number h) (a_number k) = (refl, refl)
one_literal (a_negative h) (a_negative k) = (refl, refl)
one_literal a_text a_text = (refl, refl)
one_literal a_true a_true = (refl, refl)
one_literal a_false a_false = (refl, refl)

no_name : {x : Data} {r : Position} {n : List ℕ} {ps qs : List Piece} → IsLiteral x (name_at r n ∷ ps) qs → ⊥
no_name h = elim h [ ]

pub no_parenthesis : {x : Data} {r : Position} {ps qs : List Piece} → IsLiteral x (symbol_at r OpenParen ∷ ps) qs → ⊥
no_parenthesis h = elim h [ ]

pub no_locale : {x : Data} {r : Position} {ps qs : List Piece} → IsLiteral x (word_at r W.Locale ∷ ps) qs → ⊥
no_locale h = elim h [ ]

pub no_function : {x : Data} {r : Position} {w : Word} {f : Function} {ps qs : List Piece} → function_of w ≡ Some f → IsLiteral x (word_at r w ∷ ps) qs → ⊥
no_function is a_true = cc
no_function is a_false = cc

one_locale : {d : ℕ} {e f : Term} {ps qs rs : List Piece} → IsLocale d e ps qs → IsLocale d f ps rs → (e ≡ f) × (qs ≡ rs)
one_locale no_argument no_argument = (refl, refl)

-- no operator follows where one does
unended : {r : Position} {s : Symbol} {i : Infix} (ps qs : List Piece) → infix_next ps ≡ None → ps ≡ symbol_at r s ∷ qs → infix_of s ≡ Some i → ⊥
unended {r = r} {s = s} {i = i} ps qs none next is =
    let e : infix_next ps ≡ Some (s, i) = ap infix_next next ∙ ap (option_map (λ j. (s, j))) is in
    cc

-- of two that stand in front, each is the other
same_front : {r q : Position} {s t : Symbol} {ps qs : List Piece} → symbol_at r s ∷ ps ≡ symbol_at q t ∷ qs → (s ≡ t) × (ps ≡ qs)
same_front e = (cc, cc)

mutual
  pub one_operand : {d : ℕ} {e f : Term} {ps qs rs : List Piece} → IsOperand d e ps qs → IsOperand d f ps rs → (e ≡ f) × (qs ≡ rs)
  one_operand (a_literal h) (a_literal k) = let u = one_literal h k in (ap literal u.0, u.1)
  one_operand a_name a_name = (refl, refl)
  one_operand (in_parentheses h) (in_parentheses k) = one_enclosed h k
  one_operand (a_call {f = f} is h) (a_call {f = g} {e = e} also k) =
      let u = one_enclosed h k in
      let same : f ≡ g = cc in
      (ap (call f) u.0 ∙ ap (λ f. call f e) same, u.1)
  one_operand (the_locale h) (the_locale k) = one_locale h k
  one_operand (a_literal h) a_name = absurd (no_name h)
  one_operand (a_literal h) (in_parentheses k) = absurd (no_parenthesis h)
  one_operand (a_literal h) (a_call is k) = absurd (no_function is h)
  one_operand (a_literal h) (the_locale k) = absurd (no_locale h)
  one_operand a_name (a_literal k) = absurd (no_name k)
  one_operand (in_parentheses h) (a_literal k) = absurd (no_parenthesis k)
  one_operand (a_call is h) (a_literal k) = absurd (no_function is k)
  one_operand (a_call is h) (the_locale k) = cc
  one_operand (the_locale h) (a_literal k) = absurd (no_locale k)
  one_operand (the_locale h) (a_call is k) = cc

  one_enclosed : {d : ℕ} {e f : Term} {ps qs rs : List Piece} → IsEnclosed d e ps qs → IsEnclosed d f ps rs → (e ≡ f) × (qs ≡ rs)
  one_enclosed (enclosed h) (enclosed k) = let u = one_expression h k in (u.0, (same_front u.1).1)

  one_chained : {d n : ℕ} {s t : Symbol} {i j : Infix} {es fs : Terms} {ps qs rs : List Piece} → infix_of s ≡ Some i
      → infix_of t ≡ Some j → IsChained d s n es ps qs → IsChained d t n fs ps rs → (es ≡ fs) × (qs ≡ rs)
  one_chained is also (chained none) (chained none_too) = (refl, refl)
  one_chained {d = d} is also (E.IsChained.and_then {e = e} h hs) (E.IsChained.and_then {n = n} {s = t} {es = more} {rs = rs} k ks) =
      let u = one_operand h k in
      let v = one_chained is also hs (subst (λ ps. IsChained d t n more ps rs) (sym u.1) ks) in
      (ap (term e) v.0 ∙ ap (λ e. term e more) u.0, v.1)
  one_chained is also (chained none) (E.IsChained.and_then {r = r} {s = t} {ps = ps} k ks) = absurd (unended {r = r} {s = t} (symbol_at r t ∷ ps) ps none refl also)
  one_chained is also (E.IsChained.and_then {r = r} {s = s} {ps = ps} h hs) (chained none) = absurd (unended {r = r} {s = s} (symbol_at r s ∷ ps) ps none refl is)

  pub one_expression : {d : ℕ} {e f : Term} {ps qs rs : List Piece} → IsExpression d e ps qs → IsExpression d f ps rs → (e ≡ f) × (qs ≡ rs)
  one_expression (an_operand h none) (an_operand k also) = one_operand h k
  one_expression {d = d} (a_chain {r = r} {s = s} {op = op} {e = e} {es = es} {qs = qs} is h hs) (a_chain {r = p} {s = t} {op = o} {e = f} {es = fs} {qs = ps} {rs = rs} also k ks) =
      let u = one_operand h k in
      let same = same_front u.1 in
      let o_same : op ≡ o = let i = is in let j = also in let e = same.0 in cc in
      let v = one_chained is also hs (subst (λ ps. IsChained d t 31 fs ps rs) (sym u.1) ks) in
      (ap (λ e. chain op e es) u.0 ∙ ap (chain op f) v.0 ∙ ap (λ op. chain op f fs) o_same, v.1)
  one_expression {d = d} (a_comparison {s = s} {c = c} {e = e} {f = f} is h i none) (a_comparison {s = t} {c = b} {e = g} {f = l} {rs = rs} also k j then_none) =
      let u = one_operand h k in
      let same = same_front u.1 in
      let c_same : c ≡ b = let i = is in let j = also in let e = same.0 in cc in
      let v = one_operand i (subst (λ ps. IsOperand d l ps rs) (sym same.1) j) in
      (ap (λ e. compare c e f) u.0 ∙ ap (compare c g) v.0 ∙ ap (λ c. compare c g l) c_same, v.1)
  one_expression (an_operand {qs = mid} h none) (a_chain {r = r} {s = s} {qs = qs} is k ks) = absurd (unended mid qs none (one_operand h k).1 is)
  one_expression (an_operand {qs = mid} h none) (a_comparison {r = r} {s = s} {qs = qs} is k j also) = absurd (unended mid qs none (one_operand h k).1 is)
  one_expression (a_chain {r = r} {s = s} {qs = qs} is h hs) (an_operand {qs = mid} k none) = absurd (unended mid qs none (sym (one_operand h k).1) is)
  one_expression (a_comparison {r = r} {s = s} {qs = qs} is h i also) (an_operand {qs = mid} k none) = absurd (unended mid qs none (sym (one_operand h k).1) is)
  one_expression (a_chain is h hs) (a_comparison also k j none) = let same = same_front (one_operand h k).1 in let e = same.0 in cc
  one_expression (a_comparison is h i none) (a_chain also k ks) = let same = same_front (one_operand h k).1 in let e = same.0 in cc

pub one_before : {s : Symbol} {e f : Term} {ps qs rs : List Piece} → IsBefore s e ps qs → IsBefore s f ps rs → (e ≡ f) × (qs ≡ rs)
one_before (before h) (before k) = let u = one_expression h k in (u.0, cc u.1)

pub one_binding : {b c : List ℕ × Term} {ps qs rs : List Piece} → IsBinding b ps qs → IsBinding c ps rs → (b ≡ c) × (qs ≡ rs)
one_binding (a_binding {n = n} h) (a_binding k) = let u = one_before h k in let with_name : Term → List ℕ × Term = λ e. (n, e) in (ap with_name u.0, u.1)

pub one_display : {t s : List ℕ} {ps qs rs : List Piece} → IsDisplay t ps qs → IsDisplay s ps rs → (t ≡ s) × (qs ≡ rs)
one_display (a_display h) (a_display k) = (refl, refl)

pub one_simple : {k : Simple} {a b : Act} {ps qs rs : List Piece} → IsSimple k a ps qs → IsSimple k b ps rs → (a ≡ b) × (qs ≡ rs)
one_simple (of_one {o = o} h) (of_one k) = let u = one_before h k in (ap (λ e. plain (with_one o e)) u.0, u.1)
one_simple (of_two {o = o} {f = g} h i) (of_two {e = e} {f = f} {rs = rs} k j) =
    let u = one_before h k in
    let v = one_before i (subst (λ ps. IsBefore Semicolon f ps rs) (sym u.1) j) in
    (ap (λ e. plain (with_two o e g)) u.0 ∙ ap (λ f. plain (with_two o e f)) v.0, v.1)
one_simple (a_let h) (a_let k) = let u = one_binding h k in (ap (λ (b : List ℕ × Term). plain (let_name b.0 b.1)) u.0, u.1)
one_simple (an_assumption {t = t} h i) (an_assumption {q = q} {e = e} {t = s} {rs = rs} k j) =
    let u = one_before h k in
    let v = one_display i (subst (λ ps. IsDisplay s ps (symbol_at q Semicolon ∷ rs)) (sym u.1) j) in
    (ap (λ e. plain (assume e t)) u.0 ∙ ap (λ t. plain (assume e t)) v.0, (same_front v.1).1)
one_simple a_fail a_fail = (refl, refl)

no_statement : {d above : ℕ} {r : Position} {s : Symbol} {a : Act} {ps qs : List Piece} → IsStatement d above a (symbol_at r s ∷ ps) qs → ⊥
no_statement h = elim h [ ]

mutual
  pub one_statement : {d above : ℕ} {a b : Act} {ps qs rs : List Piece} → IsStatement d above a ps qs → IsStatement d above b ps rs → (a ≡ b) × (qs ≡ rs)
  one_statement (a_simple {k = k} is h) (a_simple {k = l} {a = b} {ps = ps} {qs = rs} also j) =
      let same : k ≡ l = cc in
      one_simple h (subst (λ k. IsSimple k b ps rs) (sym same) j)
  one_statement (an_assignment h) (an_assignment k) = let u = one_binding h k in (ap (λ (b : List ℕ × Term). plain (assign b.0 b.1)) u.0, u.1)
  one_statement {d = d} {above = above} (an_if {a = a} {b = b} h i j) (an_if {e = e} {a = c} {b = g} {rs = rs} {ts = ts} k l m) =
      let u = one_expression h k in
      let v = one_body i (subst (λ ps. IsBody d above c ps rs) (sym u.1) l) in
      let w = one_else j (subst (λ ps. IsElse d above g ps ts) (sym v.1) m) in
      (ap (λ e. choice e a b) u.0 ∙ ap (λ a. choice e a b) v.0 ∙ ap (choice e c) w.0, w.1)
  one_statement {d = d} {above = above} (a_repeat {a = a} h i) (a_repeat {e = e} {a = c} {rs = rs} k l) =
      let u = one_expression h k in
      let v = one_body i (subst (λ ps. IsBody d above c ps rs) (sym u.1) l) in
      (ap (λ e. repeat e a) u.0 ∙ ap (repeat e) v.0, v.1)
  one_statement (a_simple is h) (an_if k l m) = cc
  one_statement (a_simple is h) (a_repeat k l) = cc
  one_statement (an_if h i j) (a_simple is k) = cc
  one_statement (a_repeat h i) (a_simple is k) = cc

  pub one_else : {d above : ℕ} {a b : Acts} {ps qs rs : List Piece} → IsElse d above a ps qs → IsElse d above b ps rs → (a ≡ b) × (qs ≡ rs)
  one_else (no_else none) (no_else also) = (refl, refl)
  one_else (an_else h) (an_else k) = one_body h k
  one_else (no_else none) (an_else k) = cc
  one_else (an_else h) (no_else none) = cc

  pub one_statements : {d above : ℕ} {a b : Acts} {ps qs rs : List Piece} → IsStatements d above a ps qs → IsStatements d above b ps rs → (a ≡ b) × (qs ≡ rs)
  one_statements closed closed = (refl, refl)
  one_statements {d = d} {above = above} (and_then h hs) (and_then {body = more} {rs = rs} k ks) =
      let u = one_statement h k in
      let v = one_statements hs (subst (λ ps. IsStatements d above more ps rs) (sym u.1) ks) in
      (cc (u.0, v.0), v.1)
  one_statements closed (and_then k ks) = absurd (no_statement k)
  one_statements (and_then h hs) closed = absurd (no_statement h)

  pub one_body : {d above : ℕ} {a b : Acts} {ps qs rs : List Piece} → IsBody d above a ps qs → IsBody d above b ps rs → (a ≡ b) × (qs ≡ rs)
  one_body (a_body h) (a_body k) = one_statements h k

pub one_block : {a b : Acts} {ps qs rs : List Piece} → IsBlock a ps qs → IsBlock b ps rs → (a ≡ b) × (qs ≡ rs)
one_block (a_block h) (a_block k) = one_body h k
