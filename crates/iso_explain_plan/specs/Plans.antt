-- What mends a fault of a plan.
--
-- explanation of a plan's fault: What is told of each (`IsPlanText`): where two classes of one path
-- stand, or which file is named twice (`double_notes`); how many there are of what there are too
-- many of (`nodes_notes`, `keys_notes`, `scripts_note`), and of which classes most are
-- (`all_sizes`, `by_size`); of a word that names nothing what was meant (`unselected_notes`,
-- `first_of_team`, `named_so`, `near_paths`).
-- Also in: `Doubles`, `Sizes`, `Largest`, `Unselected`, `Meant`, `Notes`, `Parts`, `Told`,
-- `Printable`.
use Rattle.std.specs.Prelude.{◌≡◌, ℕ, ◌-◌, List, [], ◌∷◌, ◌++◌, Option, None, Some, codes, drop, length, map, take}
use Rattle.std.specs.Fmt.{decimal}
use Rattle.iso_model.specs.Scripts.{Script}
use Rattle.iso_model.specs.declared.limits.TheConstants.{KEYS, NODES, SCRIPTS}
use Rattle.iso_plan.specs.Faults.{scripts_fault}
use Rattle.iso_plan.specs.TopClasses.{all_paths, all_top_classes}
use Rattle.iso_plan.specs.Tree.{tree}
use Rattle.iso_plan.specs.declared.fault.PlanFault.{PlanFault}
use Rattle.iso_plan.specs.declared.fault.PlanFault.TheVariants.{DoubleClass, NotSelected, TooManyKeys, TooManyNodes, TooManyScripts}
use Rattle.iso_explain_plan.specs.Doubles.{TellsOfTwo}
use Rattle.iso_explain_plan.specs.Largest.{by_size}
use Rattle.iso_explain_plan.specs.Notes.{note}
use Rattle.iso_explain_plan.specs.Sizes.{all_sizes, size_of, sizes_notes}
use Rattle.iso_explain_plan.specs.Unselected.{path_note, unselected_notes}
use Rattle.iso_explain_plan.specs.declared.size.Size.{Size}

-- how many scripts there are, and may be
abbrev pub scripts_note : ℕ → List ℕ
scripts_note count =
    note (codes "there are " ∷ decimal count ∷ codes " scripts, and at most " ∷ decimal SCRIPTS
    ∷ codes " may be given" ∷ [])

-- how a part of a suite is run
abbrev pub part_note : List ℕ
part_note = note (codes "--only, --match and --shard keep a part of a suite" ∷ [])

-- how many classes and tests there are and may be, and which classes are the largest
abbrev pub nodes_note : ℕ → List ℕ
nodes_note count =
    note (codes "the scripts have " ∷ decimal count
    ∷ codes " classes and tests, and a plan has at most " ∷ decimal (NODES - 1) ∷ [])

abbrev pub nodes_notes : ℕ → (largest : List Size) → List ℕ
nodes_notes count largest = nodes_note count ++ sizes_notes largest ++ part_note

-- how many different keys are declared and may be, and which classes declare most
abbrev pub keys_note : ℕ → List ℕ
keys_note count =
    note (codes "the scripts declare " ∷ decimal count
    ∷ codes " different keys, and a plan has at most " ∷ decimal KEYS ∷ [])

abbrev pub keys_notes : ℕ → (largest : List Size) → List ℕ
keys_notes count largest = keys_note count ++ sizes_notes largest ++ part_note

-- A text tells of all classes and tests of scripts, and of their three largest top-level classes.
pub record TellsOfNodes (scripts : List Script) (text : List ℕ) : Type 0 where
  pub sizes : List Size
  pub all : map size_of sizes ≡ all_sizes (all_paths (tree scripts))
      (all_top_classes (tree scripts))
  pub told : text ≡ nodes_notes (length (tree scripts) - 1) (take 3 (by_size sizes))

-- a text tells of `count` keys, and of three top-level classes at most that declare some
pub record TellsOfKeys (text : List ℕ) : Type 0 where
  pub count : ℕ
  pub sizes : List Size
  pub told : text ≡ keys_notes count (take 3 (by_size sizes))

-- a text tells what was meant by a word, where the scripts may stand together
abbrev pub TellsOfWord : List ℕ → List Script → List ℕ → Type 0
TellsOfWord word scripts text = scripts_fault scripts ≡ None
    → text ≡ unselected_notes word scripts (drop 1 (all_paths (tree scripts)))

-- what is told of a fault of scripts, and of a word that names nothing
abbrev pub IsPlanText : PlanFault → List Script → (word : Option (List ℕ)) → List ℕ → Type 0
IsPlanText DoubleClass scripts word text = TellsOfTwo text
IsPlanText TooManyNodes scripts word text = scripts_fault scripts ≡ None → TellsOfNodes scripts text
IsPlanText TooManyKeys scripts word text = TellsOfKeys text
IsPlanText TooManyScripts scripts word text = text ≡ scripts_note (length scripts)
IsPlanText (NotSelected index) scripts None text = text ≡ path_note
IsPlanText (NotSelected index) scripts (Some word) text = TellsOfWord word scripts text
