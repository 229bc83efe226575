-- The environment of a block.
--
-- environment: The visible names, each with a value and a sort, the steps left in the block, the
-- bytes that the body has printed, the words that name the block.
-- Also in: `Names`.
use Rattle.std.specs.Prelude.{ℕ, List}
use Rattle.iso_model.specs.declared.limits.TheConstants.{BLOCK_STEPS}
use Rattle.iso_model.specs.declared.names.Binding.{Binding}
use Rattle.iso_model.specs.declared.place.BlockName.{BlockName}

-- the visible names, the steps left in the block, the bytes that its body has printed so far, and
-- the words that name it in a place
pub record Environment : Type 0 where
  pub names : List Binding
  pub steps : ℕ
  pub printed : ℕ
  pub block : BlockName

-- the environment of a block at its beginning
abbrev pub environment : List Binding → ℕ → BlockName → Environment
environment names printed block =
    record { names = names; steps = BLOCK_STEPS; printed = printed; block = block }
