-- Expressions and statements, as contracts see them.
--
-- script: A script as contracts see it, and what the code's tree stands for.
-- Also in: `SyntaxView`, `Scripts`, `ScriptView`.
use Rattle.std.specs.Prelude.{ℕ, List}
use Rattle.iso_model.specs.declared.data.Data.{Data}
use Rattle.iso_model.specs.declared.tree.Operator.{Operator}
use Rattle.iso_model.specs.declared.tree.Comparison.{Comparison}
use Rattle.iso_model.specs.declared.tree.Function.{Function}

-- an expression, and several
mutual
  pub data Term : Type 0 where
    literal : Data → Term
    name : List ℕ → Term
    chain : Operator → Term → Terms → Term
    compare : Comparison → Term → Term → Term
    call : Function → Term → Term
    locale : Term

  pub data Terms : Type 0 where
    no_terms : Terms
    term : Term → Terms → Terms

-- a statement without a body
pub data Plain : Type 0 where
  let_name : List ℕ → Term → Plain
  assign : List ℕ → Term → Plain
  print : Term → Plain
  assert : Term → Plain
  assert_equal : Term → Term → Plain
  assume : Term → List ℕ → Plain
  fail : List ℕ → Plain
  set_prop : Term → Term → Plain
  clear_prop : Term → Plain
  set_locale : Term → Plain
  write_file : Term → Term → Plain
  append_file : Term → Term → Plain
  delete_file : Term → Plain

-- a statement, and the statements of a body, each with the row of its first token
mutual
  pub data Act : Type 0 where
    plain : Plain → Act
    choice : Term → Acts → Acts → Act
    repeat : Term → Acts → Act

  pub data Acts : Type 0 where
    no_acts : Acts
    act : (row : ℕ) → Act → Acts → Acts
