-- What is wanted is not what is next.
use Rattle.std.proofs.Common.{◌≡◌, ℕ, List, [], ◌∷◌, Option, Some, None, is_some, option_map, Bool, true, false, ◌||◌, ◌&&◌, if◌then◌else◌, refl, ap, ◌∙◌}
use Rattle.iso_script_lexer.specs.Piece.{Piece, name_at, number_at, text_at, word_at, symbol_at, bad_at}
use Rattle.iso_script_lexer.specs.Spelling.{same_symbol}
use Rattle.iso_script_lexer.specs.Tokens.{after}
use Rattle.iso_script_lexer.specs.declared.symbol.Symbol.{Symbol}
use Rattle.iso_script_lexer.proofs.Numbered.{same_symbol-true}
use Rattle.iso_model.specs.Syntax.{Term, Terms}
use Rattle.iso_script_statements.specs.Expressions.{infix_of, infix_next, IsChained, chained, and_then, IsExpression, an_operand, a_chain, a_comparison}
use Rattle.iso_script_statements.specs.Wanted.{IsUnmet, after_operand}
use Rattle.iso_script_statements.specs.declared.wanted.Operators.{Operators}
use Rattle.iso_script_statements.specs.declared.wanted.Operators.TheVariants as O
use Rattle.iso_script_statements.specs.declared.wanted.Wanted.TheVariants as V

-- no operator follows a chain, nor an expression
chain_ends : {d n : ℕ} {s : Symbol} {es : Terms} {ps qs : List Piece} → IsChained d s n es ps qs → infix_next qs ≡ None
chain_ends (chained none) = none
chain_ends (and_then h k) = chain_ends k

pub expression_ends : {d : ℕ} {e : Term} {ps qs : List Piece} → IsExpression d e ps qs → infix_next qs ≡ None
expression_ends (an_operand h none) = none
expression_ends (a_chain is h k) = chain_ends k
expression_ends (a_comparison is h k none) = none

-- a symbol that is not after the pieces is not the one in front
pub not_same : (b : Bool) (ps : List Piece) → (if b then Some ps else None) ≡ None → b ≡ false
not_same true ps h = cc
not_same false ps h = refl

none_mapped : {A B : Type 0} (f : A → B) (o : Option A) → option_map f o ≡ None → is_some o ≡ false
none_mapped f None h = refl
none_mapped f (Some x) h = cc

pub neither : (a b : Bool) → a ≡ false → b ≡ false → (a || b) ≡ false
neither a b e f = cc

both_not : (a b : Bool) → a ≡ false → (a && b) ≡ false
both_not a b e = cc

-- what is wanted after an expression is not there, where neither an operator is next nor the symbol that follows
pub unmet_after : (o : Operators) (s : Symbol) (ps : List Piece) → infix_next ps ≡ None → after s ps ≡ None → IsUnmet (after_operand o s) ps
unmet_after O.Any s (symbol_at r t ∷ ps) none symbol = neither _ _ (none_mapped _ (infix_of t) none) (not_same _ ps symbol)
unmet_after (O.Same operator) s (symbol_at r t ∷ ps) none symbol = neither _ _ (both_not _ _ (none_mapped _ (infix_of t) none)) (not_same _ ps symbol)
unmet_after O.None s (symbol_at r t ∷ ps) none symbol = not_same _ ps symbol
unmet_after O.Any s (_ ∷ ps) none symbol = refl
unmet_after (O.Same operator) s (_ ∷ ps) none symbol = refl
unmet_after O.None s (_ ∷ ps) none symbol = refl
unmet_after O.Any s [] none symbol = refl
unmet_after (O.Same operator) s [] none symbol = refl
unmet_after O.None s [] none symbol = refl

some_mapped : {A B : Type 0} (f : A → B) (o : Option A) → true ≡ is_some (option_map f o) → true ≡ is_some o
some_mapped f None h = h
some_mapped f (Some x) h = refl

right_not : (a b : Bool) → b ≡ false → (a && b) ≡ false
right_not true b e = e
right_not false b e = refl

-- an operator is no symbol that is none
no_operator : (t s : Symbol) (b : Bool) → same_symbol t s ≡ b → true ≡ is_some (infix_of t) → infix_of s ≡ None → b ≡ false
no_operator t s false same some none = refl
no_operator t s true same some none =
    let e : t ≡ s = same_symbol-true t s same in
    let f : true ≡ false = some ∙ ap (λ u. is_some (infix_of u)) e ∙ ap is_some none in
    cc

-- where an operator is next, it is the one of the chain or none of what is wanted
pub unmet_operator : (o s : Symbol) (ps : List Piece) → true ≡ is_some (infix_next ps) → infix_of s ≡ None → after o ps ≡ None → IsUnmet (V.SameOperator o s) ps
unmet_operator o s (symbol_at r t ∷ ps) some none other =
    neither _ _ (right_not (is_some (infix_of t)) _ (not_same _ ps other)) (no_operator t s _ refl (some_mapped _ (infix_of t) some) none)
unmet_operator o s (_ ∷ ps) some none other = refl
unmet_operator o s [] some none other = refl
