-- The lines of an expression: those of its operations that may have been given values of other
-- kinds than they take.
use Rattle.std.specs.Prelude.{ℕ, List}
use Rattle.iso_explain_block.specs.Operations.{chain_lines, pair_lines, single_lines}
use Rattle.iso_explain_block.specs.Rules.{comparison_rule, function_rule}
use Rattle.iso_explain_block.specs.declared.kind.Kind.TheVariants as K
use Rattle.iso_explain_block.specs.declared.operation.Taking.{Taking}
use Rattle.iso_explain_block.specs.declared.operation.Taking.TheVariants.{Both, Alike}
use Rattle.iso_model.specs.Syntax.{Term, literal, name, chain, compare, call, locale, Terms, no_terms, term}
use Rattle.iso_model.specs.declared.tree.Comparison.{Comparison}
use Rattle.iso_model.specs.declared.tree.Comparison.TheVariants as C
use Rattle.iso_model.specs.declared.tree.Function.{Function}
use Rattle.iso_model.specs.declared.tree.Function.TheVariants as F

-- which values a comparison takes
abbrev pub taking_of : Comparison → Taking
taking_of C.Equal = Alike
taking_of C.NotEqual = Alike
taking_of C.Less = Both K.Whole

-- lines with that of a comparison more
abbrev pub comparison_lines : Comparison → Term → Term → List (List ℕ) → List (List ℕ)
comparison_lines c t u lines = pair_lines (comparison_rule c) (taking_of c) t u lines

-- lines with that of a function more, which `text` never has
abbrev pub call_lines : Function → Term → List (List ℕ) → List (List ℕ)
call_lines F.Text t lines = lines
call_lines f t lines = single_lines (function_rule f) K.Text t lines

-- lines with those of an expression more, and of several: those of the operands come before that of
-- the operation
abbrev mutual
  pub term_lines : Term → List (List ℕ) → List (List ℕ)
  term_lines (literal d) lines = lines
  term_lines (name x) lines = lines
  term_lines (chain o t ts) lines = chain_lines o t ts (terms_lines ts (term_lines t lines))
  term_lines (compare c t u) lines = comparison_lines c t u (term_lines u (term_lines t lines))
  term_lines (call f t) lines = call_lines f t (term_lines t lines)
  term_lines locale lines = lines

  pub terms_lines : Terms → List (List ℕ) → List (List ℕ)
  terms_lines no_terms lines = lines
  terms_lines (term t ts) lines = terms_lines ts (term_lines t lines)
