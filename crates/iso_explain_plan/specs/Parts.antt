-- The parts of notes, as texts.
use Rattle.std.specs.Prelude.{ℕ, List, [], ◌++◌, Option, None, Some, ◌&&◌, codes, cond, length, map, nat_lt}
use Rattle.std.specs.Fmt.{decimal}
use Rattle.iso_hints.specs.Pictures.{shown_byte}
use Rattle.iso_plan.specs.PathTexts.{path_text}
use Rattle.iso_plan.specs.Tree.{Row}
use Rattle.iso_script_lexer.specs.declared.token.Position.{Position}
use Rattle.iso_summary.specs.Names.{shown_name}
use Rattle.iso_explain_plan.specs.declared.part.NodePart.{NodePart}
use Rattle.iso_explain_plan.specs.declared.part.NodePart.TheVariants.{Of, Node}
use Rattle.iso_explain_plan.specs.declared.part.Part.{Part}
use Rattle.iso_explain_plan.specs.declared.part.Part.TheVariants.{Plain, Number, Shown, Name, Place}

-- a text as a line of a script is shown
abbrev pub shown : List ℕ → List ℕ
shown text = map shown_byte text

-- a place behind a file's name, where it is known
abbrev pub known_place : Position → List ℕ
known_place at = codes ":" ++ decimal at.line ++ codes ":" ++ decimal at.column

abbrev pub place_text : Option Position → List ℕ
place_text None = []
place_text (Some at) = known_place at

-- the path of a node, or its number where it has none
abbrev pub node_text : List Row → ℕ → List ℕ
node_text tree n =
    cond (nat_lt 0 n && nat_lt n (length tree)) (path_text tree n) (codes "node " ++ decimal n)

-- the text of a part
abbrev pub part_text : Part → List ℕ
part_text (Plain text) = text.now
part_text (Number n) = decimal n
part_text (Shown text) = shown text.now
part_text (Name file) = shown_name file.now
part_text (Place at) = place_text at

-- the text of a part about nodes of a tree
abbrev pub node_part_text : List Row → NodePart → List ℕ
node_part_text tree (Of part) = part_text part
node_part_text tree (Node n) = node_text tree n
