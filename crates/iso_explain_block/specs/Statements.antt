-- The lines of statements.
use Rattle.std.specs.Prelude.{ℕ, List, ◌==◌, cond}
use Rattle.iso_explain_block.specs.Expressions.{term_lines}
use Rattle.iso_explain_block.specs.Operations.{pair_lines, single_lines}
use Rattle.iso_explain_block.specs.Rules.{act_rule}
use Rattle.iso_explain_block.specs.declared.kind.Kind.{Kind}
use Rattle.iso_explain_block.specs.declared.kind.Kind.TheVariants as K
use Rattle.iso_explain_block.specs.declared.operation.Taking.{Taking}
use Rattle.iso_explain_block.specs.declared.operation.Taking.TheVariants.{Both, Alike}
use Rattle.iso_model.specs.Syntax.{Term, let_name, assign, print, assert, assert_equal, assume, fail, set_prop, clear_prop, set_locale, write_file, append_file, delete_file, Act, plain, choice, repeat, Acts, no_acts, act}

-- lines with those of an expression more, and that of what takes it
unfoldable pub plain_single_lines : (rule : List ℕ) → (wanted : Kind) → Term → List (List ℕ)
    → List (List ℕ)
plain_single_lines rule wanted t lines = single_lines rule wanted t (term_lines t lines)

-- the same of two expressions
unfoldable pub plain_pair_lines : (rule : List ℕ) → Taking → Term → Term → List (List ℕ)
    → List (List ℕ)
plain_pair_lines rule taking t u lines =
    pair_lines rule taking t u (term_lines u (term_lines t lines))

-- Lines with those of a statement more, without those of bodies in it: of its expressions, and of
-- what it takes. A value of any kind is taken by `let`, by an assignment and by `print`.
abbrev pub own_lines : Act → List (List ℕ) → List (List ℕ)
own_lines (plain (let_name x t)) lines = term_lines t lines
own_lines (plain (assign x t)) lines = term_lines t lines
own_lines (plain (print t)) lines = term_lines t lines
own_lines (plain (fail x)) lines = lines
own_lines (plain (assert t)) lines = plain_single_lines (act_rule (plain (assert t))) K.Flag t lines
own_lines (plain (assume t x)) lines =
    plain_single_lines (act_rule (plain (assume t x))) K.Flag t lines
own_lines (choice t a b) lines = plain_single_lines (act_rule (choice t a b)) K.Flag t lines
own_lines (repeat t a) lines = plain_single_lines (act_rule (repeat t a)) K.Whole t lines
own_lines (plain (clear_prop t)) lines =
    plain_single_lines (act_rule (plain (clear_prop t))) K.Text t lines
own_lines (plain (set_locale t)) lines =
    plain_single_lines (act_rule (plain (set_locale t))) K.Text t lines
own_lines (plain (delete_file t)) lines =
    plain_single_lines (act_rule (plain (delete_file t))) K.Text t lines
own_lines (plain (assert_equal t u)) lines =
    plain_pair_lines (act_rule (plain (assert_equal t u))) Alike t u lines
own_lines (plain (set_prop t u)) lines =
    plain_pair_lines (act_rule (plain (set_prop t u))) (Both K.Text) t u lines
own_lines (plain (write_file t u)) lines =
    plain_pair_lines (act_rule (plain (write_file t u))) (Both K.Text) t u lines
own_lines (plain (append_file t u)) lines =
    plain_pair_lines (act_rule (plain (append_file t u))) (Both K.Text) t u lines

-- lines with those of the statements of a body more that stand on a row, and of the bodies in a
-- statement
abbrev mutual
  pub acts_lines : (row : ℕ) → Acts → List (List ℕ) → List (List ℕ)
  acts_lines row no_acts lines = lines
  acts_lines row (act r a rest) lines =
      acts_lines row rest (inner_lines row a (cond (r == row) (own_lines a lines) lines))

  pub inner_lines : (row : ℕ) → Act → List (List ℕ) → List (List ℕ)
  inner_lines row (plain p) lines = lines
  inner_lines row (choice t a b) lines = acts_lines row b (acts_lines row a lines)
  inner_lines row (repeat t a) lines = acts_lines row a lines

-- lines with those of a statement more that stands on this row
abbrev pub act_lines : (row : ℕ) → (own : ℕ) → Act → List (List ℕ) → List (List ℕ)
act_lines row own a lines = inner_lines row a (cond (own == row) (own_lines a lines) lines)
