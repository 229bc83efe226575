-- How contracts see a fault that ended a block: with what it borrows.
use Rattle.std.specs.Prelude.{ℕ, List, Option}
use Rattle.std.specs.Option.{option_map}
use Rattle.iso_explain_block.specs.Variables.{heads_of}
use Rattle.iso_explain_block.specs.declared.fault.BlockFault.{BlockFault}
use Rattle.iso_model.specs.Chains.{ClassHead, TestHead}
use Rattle.iso_model.specs.ScriptView.{test_head_of}
use Rattle.iso_model.specs.declared.fault.FaultKind.{FaultKind}
use Rattle.iso_model.specs.declared.place.BlockName.{BlockName}

-- a fault that ended a block of a class or a test: its kind and message, the block and the row of
-- the statement, the heads of the classes around, outermost first and a class's own last, a test's
-- own head, and the name of the class or test
pub record BlockFaultView : Type 0 where
  pub kind : FaultKind
  pub message : List ℕ
  pub block : BlockName
  pub row : ℕ
  pub heads : List ClassHead
  pub test : Option TestHead
  pub name : List ℕ

abbrev pub block_fault_of : BlockFault → BlockFaultView
block_fault_of f =
    record {
      kind = f.kind;
      message = f.message.now;
      block = f.block;
      row = f.row;
      heads = heads_of f.chain.classes.now;
      test = option_map (λ t. test_head_of t.now) f.chain.test;
      name = f.name.now;
    }
