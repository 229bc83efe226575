-- The lines of operations whose operands aren't shown to be of the kinds that they take.
use Rattle.std.specs.Prelude.{ℕ, List, [], ◌++◌, Bool, true, ◌&&◌, codes, cond}
use Rattle.iso_explain_block.specs.Kinds.{chain_kind, is, is_hidden, is_other, kind_of, kind_words}
use Rattle.iso_explain_block.specs.Lines.{with_line}
use Rattle.iso_explain_block.specs.Rules.{chain_rule}
use Rattle.iso_explain_block.specs.declared.kind.Kind.{Kind}
use Rattle.iso_explain_block.specs.declared.kind.Kind.TheVariants.{Hidden}
use Rattle.iso_explain_block.specs.declared.operation.Taking.{Taking}
use Rattle.iso_explain_block.specs.declared.operation.Taking.TheVariants.{Both, Alike}
use Rattle.iso_model.specs.Syntax.{Term, Terms, no_terms, term}
use Rattle.iso_model.specs.declared.tree.Operator.{Operator}

-- whether values of two kinds are shown to be what an operation takes
abbrev pub fits : Taking → Kind → Kind → Bool
fits (Both kind) left right = is kind left && is kind right
fits Alike left right = is right left

-- the kind of one operand, and those of two, where they are shown
abbrev pub single_words : Kind → List ℕ
single_words kind = cond (is_hidden kind) [] (codes ": this is " ++ kind_words kind)

abbrev pub pair_words : (left right : Kind) → List ℕ
pair_words left right =
    cond (is_hidden left)
    (cond (is_hidden right) [] (codes ": right is " ++ kind_words right))
    (codes ": left is " ++ kind_words left
    ++ cond (is_hidden right) [] (codes ", right " ++ kind_words right))

-- lines with that of an operation of one operand more, unless the operand is shown to be of the
-- kind that it takes
unfoldable pub single_lines : (rule : List ℕ) → (wanted : Kind) → Term → List (List ℕ)
    → List (List ℕ)
single_lines rule wanted t lines =
    cond (is wanted (kind_of t)) lines (with_line (rule ++ single_words (kind_of t)) lines)

-- the same of two operands
unfoldable pub pair_lines : (rule : List ℕ) → Taking → Term → Term → List (List ℕ) → List (List ℕ)
pair_lines rule taking t u lines =
    cond (fits taking (kind_of t) (kind_of u)) lines
    (with_line (rule ++ pair_words (kind_of t) (kind_of u)) lines)

-- whether all operands are shown to be of a kind
abbrev pub all_are : Kind → Terms → Bool
all_are wanted no_terms = true
all_are wanted (term t ts) = is wanted (kind_of t) && all_are wanted ts

-- the kind of the first operand that is shown to be of another kind, or else of the last: of none,
-- this one
abbrev pub right_kind : Kind → Kind → Terms → Kind
right_kind wanted last no_terms = last
right_kind wanted last (term t ts) =
    cond (is_other wanted (kind_of t)) (kind_of t) (right_kind wanted (kind_of t) ts)

-- the same of a chain, whose first operand is its left one
unfoldable pub chain_lines : Operator → Term → Terms → List (List ℕ) → List (List ℕ)
chain_lines o t ts lines =
    cond (all_are (chain_kind o) (term t ts)) lines
    (with_line (chain_rule o ++ pair_words (kind_of t) (right_kind (chain_kind o) Hidden ts)) lines)
