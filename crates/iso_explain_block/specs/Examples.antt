-- Example faults, and lines.
use Prim.Native.String.{String}
use Rattle.std.specs.Prelude.{ℕ, List, [], ◌∷◌, Option, None, Some, codes, map, pos}
use Rattle.iso_explain_block.specs.Views.{BlockFaultView}
use Rattle.iso_model.specs.Chains.{ClassHead, TestHead, empty_head}
use Rattle.iso_model.specs.Syntax.{Term, literal, name, chain, no_terms, term, Acts}
use Rattle.iso_model.specs.declared.data.Data.TheVariants as D
use Rattle.iso_model.specs.declared.fault.FaultKind.{FaultKind}
use Rattle.iso_model.specs.declared.place.BlockName.TheVariants as B
use Rattle.iso_model.specs.declared.place.Lifecycle.TheVariants.{BeforeAll}
use Rattle.iso_model.specs.declared.tree.Operator.TheVariants.{Add}

-- lines as they are told
abbrev pub lines_of : List String → List (List ℕ)
lines_of lines = map (λ line. codes line) lines

-- a name, a number and a text
abbrev pub x : String → Term
x text = name (codes text)

abbrev pub number : ℕ → Term
number n = literal (D.Whole (pos n))

abbrev pub words : String → Term
words text = literal (D.Text (codes text))

-- a sum of two
abbrev pub sum_of : Term → Term → Term
sum_of t u = chain Add t (term u no_terms)

-- a class with the static `price` and the field `count`, and one with nothing
abbrev pub cart : ClassHead
cart =
    record empty_head {
      statics = record { name = codes "price"; value = D.Whole (pos 7) } ∷ [];
      fields = record { name = codes "count"; value = D.Whole (pos 0) } ∷ [];
    }

-- a test with these statements, in that class
abbrev pub test_of : Acts → Option TestHead
test_of body = Some (record { marks = []; disabled = None; body = body })

-- a fault of the test `adds` in that class, on a row of its body
abbrev pub in_test : FaultKind → (message : String) → (row : ℕ) → Acts → BlockFaultView
in_test kind message row body =
    record {
      kind = kind;
      message = codes message;
      block = B.Test;
      row = row;
      heads = cart ∷ [];
      test = test_of body;
      name = codes "adds";
    }

-- a fault of the `before_all` of that class, whose statements these are, on row 1
abbrev pub in_before_all : FaultKind → (message : String) → Acts → BlockFaultView
in_before_all kind message body =
    record {
      kind = kind;
      message = codes message;
      block = B.Class 1 BeforeAll;
      row = 1;
      heads = record cart { before_all = body } ∷ [];
      test = None;
      name = codes "shop.Cart";
    }
