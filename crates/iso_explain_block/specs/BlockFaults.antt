-- The lines that mend a fault.
--
-- hint for a block's fault: The lines that mend a statement whose fault ended a block (`hints`,
-- `lines_of_kind`), none twice and four at most (`with_line`), from what is known of the fault
-- (`BlockFaultView`): what an operation takes and the kinds of its operands that are shown
-- (`kind_of`, `chain_lines`, `pair_lines`, `single_lines`, `acts_lines`), the names that are
-- visible (`lets`, `visible_names`, `name_lines`), the mark that is missing (`mark_text`), the
-- property or file that was meant (`chain_names`, `meant_of`, `missing_lines`), a limit or a rule
-- (`kind_rules`).
-- Also in: `Views`, `Lines`, `Kinds`, `Rules`, `Operations`, `Expressions`, `Statements`, `Blocks`,
-- `Lets`, `Variables`, `Unknown`, `Messages`, `Marks`, `Missing`, `Fixed`.
use Rattle.std.specs.Prelude.{ℕ, List, []}
use Rattle.iso_explain_block.specs.Blocks.{block_acts}
use Rattle.iso_explain_block.specs.Fixed.{fixed_lines}
use Rattle.iso_explain_block.specs.Marks.{undeclared_lines}
use Rattle.iso_explain_block.specs.Missing.{missing_lines}
use Rattle.iso_explain_block.specs.Statements.{acts_lines}
use Rattle.iso_explain_block.specs.Unknown.{unknown_lines}
use Rattle.iso_explain_block.specs.Views.{BlockFaultView}
use Rattle.iso_model.specs.declared.fault.FaultKind.{FaultKind}
use Rattle.iso_model.specs.declared.fault.FaultKind.TheVariants as K

-- Lines with those of a fault of this kind more: what the operations of its statement take, where a
-- value is of another kind; which names are visible; which mark is missing; which property or file
-- was meant, and what gives one; and else the limit or the rule.
abbrev pub lines_of_kind : FaultKind → BlockFaultView → List (List ℕ) → List (List ℕ)
lines_of_kind K.WrongKind f lines = acts_lines f.row (block_acts f.block f.heads f.test) lines
lines_of_kind K.UnknownName f lines = unknown_lines f lines
lines_of_kind K.Undeclared f lines = undeclared_lines f lines
lines_of_kind K.Missing f lines = missing_lines f lines
lines_of_kind kind f lines = fixed_lines kind f.message lines

-- the lines that mend a fault
unfoldable pub hints : BlockFaultView → List (List ℕ)
hints f = lines_of_kind f.kind f []
