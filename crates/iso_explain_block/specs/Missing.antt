-- The lines of a property or a file that is missing.
use Rattle.std.specs.Prelude.{ℕ, List, [], ◌∷◌, ◌++◌, Option, None, Some, codes, cond}
use Rattle.iso_explain_block.specs.Fixed.{fixed_lines}
use Rattle.iso_explain_block.specs.Messages.{after}
use Rattle.iso_explain_block.specs.Unknown.{has_name, nearest_lines, nearest_of}
use Rattle.iso_explain_block.specs.Views.{BlockFaultView}
use Rattle.iso_explain_block.specs.declared.names_in_blocks.Thing.{Thing}
use Rattle.iso_explain_block.specs.declared.names_in_blocks.Thing.TheVariants.{Property, File}
use Rattle.iso_model.specs.Chains.{ClassHead, TestHead}
use Rattle.iso_model.specs.Syntax.{Term, literal, Plain, set_prop, write_file, Act, plain, choice, repeat, Acts, no_acts, act}
use Rattle.iso_model.specs.declared.data.Data.TheVariants as D
use Rattle.iso_model.specs.declared.fault.FaultKind.TheVariants as K

-- names with that of a literal text more
abbrev pub with_literal : Term → List (List ℕ) → List (List ℕ)
with_literal (literal (D.Text name)) names = names ++ name ∷ []
with_literal _ names = names

-- names with that of the property or file more that a statement gives
abbrev pub plain_names : Thing → Plain → List (List ℕ) → List (List ℕ)
plain_names Property (set_prop t u) names = with_literal t names
plain_names File (write_file t u) names = with_literal t names
plain_names thing p names = names

-- names with those more of the properties or files that a body gives: those that literals write
abbrev mutual
  pub body_names : Thing → Acts → List (List ℕ) → List (List ℕ)
  body_names thing no_acts names = names
  body_names thing (act r a rest) names = body_names thing rest (act_names thing a names)

  -- the same of a statement
  pub act_names : Thing → Act → List (List ℕ) → List (List ℕ)
  act_names thing (plain p) names = plain_names thing p names
  act_names thing (choice t a b) names = body_names thing b (body_names thing a names)
  act_names thing (repeat t a) names = body_names thing a names

-- the same of the blocks of a class
abbrev pub class_names : Thing → ClassHead → List (List ℕ) → List (List ℕ)
class_names thing head names =
    body_names thing head.after_all
    (body_names thing head.after_each
    (body_names thing head.before_each (body_names thing head.before_all names)))

-- the same of the blocks of classes
abbrev pub classes_names : Thing → List ClassHead → List (List ℕ) → List (List ℕ)
classes_names thing [] names = names
classes_names thing (head ∷ heads) names = classes_names thing heads (class_names thing head names)

-- the same of a test
abbrev pub test_names : Thing → Option TestHead → List (List ℕ) → List (List ℕ)
test_names thing None names = names
test_names thing (Some head) names = body_names thing head.body names

-- the properties or files that the blocks of a class chain give by literals
unfoldable pub chain_names : Thing → List ClassHead → Option TestHead → List (List ℕ)
chain_names thing heads test = test_names thing test (classes_names thing heads [])

-- of these names the one that was meant by another, if it isn't one of them
abbrev pub meant_of : List ℕ → List (List ℕ) → Option (List ℕ)
meant_of name names = cond (has_name name names) None (nearest_of name names)

-- lines with that of the property or file more that was meant by one, if a block gives it
abbrev pub meant_lines : Thing → Option (List ℕ) → BlockFaultView → List (List ℕ) → List (List ℕ)
meant_lines thing None f lines = lines
meant_lines thing (Some name) f lines =
    nearest_lines (meant_of name (chain_names thing f.heads f.test)) lines

-- lines with those of a property or a file that is missing more: which one was meant, and what
-- gives one
abbrev pub missing_lines : BlockFaultView → List (List ℕ) → List (List ℕ)
missing_lines f lines =
    fixed_lines K.Missing f.message
    (meant_lines File (after (codes "missing file ") f.message) f
    (meant_lines Property (after (codes "missing property ") f.message) f lines))
