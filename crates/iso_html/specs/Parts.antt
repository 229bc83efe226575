-- The parts of texts.
use Rattle.std.specs.Prelude.{ℕ, ◌/◌, ◌%◌, List, [], ◌∷◌, ◌++◌, Option, Some, None, Bool, ◌==◌, ◌||◌, cond, codes, length, nat_le, slice_index_or}
use Rattle.std.specs.Fmt.{decimal}
use Rattle.std.specs.Option.{option_map}
use Rattle.iso_junit.specs.Escapes.{escaped}
use Rattle.iso_junit.specs.Texts.{joined}
use Rattle.iso_junit.specs.Times.{six_digits}
use Rattle.iso_plan.specs.KeyTable.{keys}
use Rattle.iso_plan.specs.PathTexts.{path_text}
use Rattle.iso_plan.specs.Tree.{Row}
use Rattle.iso_summary.specs.Lines.{file_option, number_option}
use Rattle.iso_summary.specs.Words.{file_word}
use Rattle.iso_stats.specs.declared.figures.Link.{Link}
use Rattle.iso_stats.specs.declared.figures.Link.TheVariants as L
use Rattle.iso_html.specs.declared.part.Part.{Part}
use Rattle.iso_html.specs.declared.part.Part.TheVariants.{Plain, Number, Seconds, Micros, Tenths, Hundredths, Node, Link as Anchor, Next, Key, Chain, FileOption, NumberOption, File}

-- microseconds as seconds, with six decimals
abbrev pub seconds : ℕ → List ℕ
seconds t = joined (decimal (t / 1000000) ∷ codes "." ∷ six_digits (t % 1000000) ∷ codes " s" ∷ [])

-- tenths as a number with one decimal, and hundredths as one with two
abbrev pub tenths : ℕ → List ℕ
tenths n = joined (decimal (n / 10) ∷ codes "." ∷ decimal (n % 10) ∷ [])

abbrev pub hundredths : ℕ → List ℕ
hundredths n =
    joined (decimal (n / 100) ∷ codes "." ∷ decimal (n / 10 % 10) ∷ decimal (n % 10) ∷ [])

-- whether a number is none of a test's or a class's
abbrev pub is_none : List Row → ℕ → Bool
is_none tree n = n == 0 || nat_le (length tree) n

-- a node: its path; the root has none, nor has a number that is no node's
abbrev pub node_text : List Row → ℕ → List ℕ
node_text tree n = cond (is_none tree n) (codes "top level") (escaped (path_text tree n))

-- the same as a link to the node in the tree
abbrev pub anchor : List Row → ℕ → List ℕ
anchor tree n = joined (codes "<a href=\"#n" ∷ decimal n ∷ codes "\">" ∷ escaped (path_text tree n)
    ∷ codes "</a>" ∷ [])

abbrev pub link_text : List Row → ℕ → List ℕ
link_text tree n = cond (is_none tree n) (codes "top level") (anchor tree n)

-- a key by its number
abbrev pub key_text : List Row → ℕ → List ℕ
key_text tree k = slice_index_or (keys tree) k []

-- a comma and a link, if there is a node
abbrev pub next_text : List Row → Option ℕ → List ℕ
next_text tree None = []
next_text tree (Some n) = codes ", " ++ link_text tree n

-- what makes a chain: a key, or the class whose worker all of it runs on
abbrev pub chain_name : List Row → Link → List ℕ
chain_name tree (L.Key k) = escaped (key_text tree k)
chain_name tree (L.Class n) = link_text tree n

-- the text of a part
abbrev pub part_text : List Row → Part → List ℕ
part_text tree (Plain text) = text.now
part_text tree (Number n) = decimal n
part_text tree (Seconds nanos) = seconds (nanos / 1000)
part_text tree (Micros micros) = seconds micros
part_text tree (Tenths n) = tenths n
part_text tree (Hundredths n) = hundredths n
part_text tree (Node n) = node_text tree n
part_text tree (Anchor n) = link_text tree n
part_text tree (Next n) = next_text tree n
part_text tree (Chain link) = chain_name tree link
part_text tree (Key k) = escaped (key_text tree k)
part_text tree (FileOption option file) =
    escaped (file_option option.now (option_map (λ f. f.now) file))
part_text tree (NumberOption option n) = number_option option.now n
part_text tree (File name) = escaped (file_word name.now)
