-- Kinds of what is wanted.
use Rattle.std.specs.Prelude.{Bool, true, false, ◌&&◌, Option, Some, None}
use Rattle.iso_script_lexer.specs.Spelling.{same_symbol}
use Rattle.iso_script_lexer.specs.declared.symbol.Symbol.{Symbol}
use Rattle.iso_script_lexer.specs.declared.symbol.Symbol.TheVariants.{Equals}
use Rattle.iso_script_statements.specs.declared.wanted.Wanted.{Wanted}
use Rattle.iso_script_statements.specs.declared.wanted.Wanted.TheVariants as W
use Rattle.iso_explain.specs.declared.met.Met.{Met}
use Rattle.iso_explain.specs.declared.want.Want as D
use Rattle.iso_explain.specs.declared.want.Want.TheVariants as V

-- the symbol that is wanted, perhaps behind an operator
abbrev pub symbol_wanted : Wanted → Option Symbol
symbol_wanted (W.Symbol symbol) = Some symbol
symbol_wanted (W.Operator symbol) = Some symbol
symbol_wanted (W.SameOperator operator symbol) = Some symbol
symbol_wanted _ = None

-- there is a symbol, and it is this one
abbrev pub is_symbol : Symbol → Option Symbol → Bool
is_symbol symbol (Some given) = same_symbol given symbol
is_symbol symbol None = false

-- the symbol that is wanted where an operator is, too
abbrev pub symbol_or_operator : Wanted → Option Symbol
symbol_or_operator (W.Operator symbol) = Some symbol
symbol_or_operator (W.SameOperator operator symbol) = Some symbol
symbol_or_operator _ = None

-- an operand is wanted
abbrev pub is_operand : Wanted → Bool
is_operand W.Operand = true
is_operand _ = false

-- a number is wanted
abbrev pub is_number : Wanted → Bool
is_number W.Number = true
is_number _ = false

-- a statement is wanted, or what closes the body
abbrev pub is_body : Wanted → Bool
is_body W.Statement = true
is_body W.StatementOrElse = true
is_body _ = false

-- a statement is wanted, and no `else`
abbrev pub is_statement : Wanted → Bool
is_statement W.Statement = true
is_statement _ = false

-- a display text or a body is wanted
abbrev pub is_display : Wanted → Bool
is_display W.Display = true
is_display _ = false

-- a key is wanted, alone or beside `children`
abbrev pub is_key : Wanted → Bool
is_key W.Key = true
is_key W.Target = true
is_key _ = false

-- a top-level class is wanted
abbrev pub is_class : Wanted → Bool
is_class W.TopClass = true
is_class _ = false

-- any part of a class is wanted
abbrev pub is_class_part : Wanted → Bool
is_class_part W.ClassPart = true
is_class_part _ = false

-- a lifecycle block or a member is wanted
abbrev pub is_block_or_member : Wanted → Bool
is_block_or_member W.BlockOrMember = true
is_block_or_member _ = false

-- a member is wanted
abbrev pub is_member : Wanted → Bool
is_member W.Member = true
is_member _ = false

-- what stands behind a mark is wanted
abbrev pub is_marked : Wanted → Bool
is_marked W.MarkedMember = true
is_marked W.MarkedClass = true
is_marked _ = false

-- this kind is wanted where this is met
abbrev pub wants : Met → D.Want → Bool
wants met (V.Symbol symbol) = is_symbol symbol (symbol_wanted met.wanted)
wants met V.Value = met.named && is_symbol Equals (symbol_wanted met.wanted)
wants met (V.Operator symbol) = is_symbol symbol (symbol_or_operator met.wanted)
wants met V.Operand = is_operand met.wanted
wants met V.Number = is_number met.wanted
wants met V.Body = is_body met.wanted
wants met V.Statement = is_statement met.wanted
wants met V.Display = is_display met.wanted
wants met V.Key = is_key met.wanted
wants met V.Class = is_class met.wanted
wants met V.Part = is_class_part met.wanted
wants met V.Block = is_block_or_member met.wanted
wants met V.Member = is_member met.wanted
wants met V.Marked = is_marked met.wanted
