-- The parts of lines, as texts.
use Rattle.std.specs.Prelude.{ℕ, List, [], ◌∷◌, ◌++◌, Option, Some, None, Bool, ◌==◌, ◌||◌, cond, codes, length, nat_le, slice_index_or}
use Rattle.std.specs.Fmt.{decimal}
use Rattle.iso_plan.specs.KeyTable.{keys}
use Rattle.iso_plan.specs.PathTexts.{path_text}
use Rattle.iso_plan.specs.Tree.{Row}
use Rattle.iso_stats.specs.Times.{tenths, time}
use Rattle.iso_stats.specs.declared.figures.Link.{Link}
use Rattle.iso_stats.specs.declared.figures.Link.TheVariants.{Key, Class}
use Rattle.iso_stats.specs.declared.part.Part.{Part}
use Rattle.iso_stats.specs.declared.part.Part.TheVariants as P

-- texts, one after another
abbrev pub joined : List (List ℕ) → List ℕ
joined [] = []
joined (t ∷ ts) = t ++ joined ts

-- `n` of what has this word for one
abbrev pub counted : ℕ → List ℕ → List ℕ
counted n word = decimal n ++ word ++ cond (n == 1) [] (codes "s")

-- a node: its path; the root has none, nor has a number that is no node's
abbrev pub node_text : List Row → ℕ → List ℕ
node_text tree n = cond (n == 0 || nat_le (length tree) n) (codes "top level") (path_text tree n)

-- a key by its number
abbrev pub key_text : List Row → ℕ → List ℕ
key_text tree k = slice_index_or (keys tree) k []

-- a node, if there is one
abbrev pub node_if : List Row → Option ℕ → List ℕ
node_if tree None = []
node_if tree (Some n) = node_text tree n

-- a comma, if a node follows
abbrev pub comma : Option ℕ → List ℕ
comma None = []
comma (Some n) = codes ", "

-- what makes a chain
abbrev pub link_text : List Row → Link → List ℕ
link_text tree (Key k) = key_text tree k
link_text tree (Class n) = node_text tree n

-- signs, where there is more
abbrev pub more : Bool → List ℕ → List ℕ
more b signs = cond b signs []

-- the text of a part
abbrev pub part_text : List Row → Part → List ℕ
part_text tree (P.Plain text) = text.now
part_text tree (P.Number n) = decimal n
part_text tree (P.Counted n word) = counted n word.now
part_text tree (P.Time n) = time n
part_text tree (P.Tenths n) = tenths n
part_text tree (P.Key k) = key_text tree k
part_text tree (P.Link l) = link_text tree l
part_text tree (P.Comma n) = comma n
part_text tree (P.Node n) = node_text tree n
part_text tree (P.NodeIf n) = node_if tree n
part_text tree (P.More b signs) = more b signs.now
