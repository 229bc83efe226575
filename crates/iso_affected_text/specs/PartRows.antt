-- The rows of what differs of a node and its namesake.
use Rattle.std.specs.Prelude.{ℕ, List, [], ◌∷◌, ◌++◌, Option, Some, None, Bool, bytes_eq, cond, unwrap_or}
use Rattle.std.specs.List.{slice_get}
use Rattle.std.specs.Option.{option_and_then, option_map, option_or}
use Rattle.iso_affected.specs.Parts.{fields_on, statics_on}
use Rattle.iso_affected.specs.declared.difference.Blocks.{Blocks}
use Rattle.iso_affected.specs.declared.difference.Difference.{Difference}
use Rattle.iso_affected.specs.declared.firsts.RowsApart.{RowsApart}
use Rattle.iso_affected_text.specs.Changes.{ChangeView}
use Rattle.iso_affected_text.specs.Rows.{RowView, block_row, part_row, start_row}
use Rattle.iso_affected_text.specs.Spots.{spot_in}
use Rattle.iso_affected_text.specs.declared.row.Block.{Block}
use Rattle.iso_affected_text.specs.declared.row.Block.TheVariants as B
use Rattle.iso_affected_text.specs.declared.row.Part.{Part}
use Rattle.iso_affected_text.specs.declared.row.Part.TheVariants.{NowTest, NowClass, Marks, Disabled, Static, Field}
use Rattle.iso_model.specs.ResourceKeys.{properties_key}
use Rattle.iso_model.specs.declared.heads.Mark.{Mark}
use Rattle.iso_model.specs.declared.heads.Variable.{Variable}
use Rattle.iso_model.specs.declared.place.Lifecycle.TheVariants.{BeforeAll, AfterAll, BeforeEach, AfterEach}
use Rattle.iso_plan.specs.PathTexts.{path_text}
use Rattle.iso_plan.specs.Paths.{is_test, row_at}
use Rattle.iso_plan.specs.Tree.{Row}
use Rattle.iso_suites.specs.PlanSuites.{head_of}
use Rattle.iso_suites.specs.ScriptLanguage.{Head, is_of_test, marks_on}

-- the class that is named, where a row is of a class
abbrev pub of_class : List Row → ℕ → Option (List ℕ)
of_class tree n = cond (is_test (row_at tree n).kind) None (Some (path_text tree n))

-- the row of a part, where it differs
abbrev pub part_rows : Bool → Part → (of_class : Option (List ℕ)) → List RowView
part_rows is_apart part of_it = cond is_apart (part_row part None of_it ∷ []) []

-- which kind a head has become
abbrev pub kind_part : Head → Part
kind_part now = cond (is_of_test now) NowTest NowClass

-- the names of variables, and the name of the one at a place: the one that is there now, else the
-- one that was
abbrev pub named_at : List Variable → ℕ → Option (List ℕ)
named_at xs place = option_map (λ (v : Variable). v.name) (slice_get xs place)

abbrev pub name_at : (was now : List Variable) → ℕ → List ℕ
name_at was now place = unwrap_or (option_or (named_at now place) (named_at was place)) []

-- the row of the first variable that differs, where one does
abbrev pub variable_rows : (place : Option ℕ) → Part → (was now : List Variable)
    → (of_class : Option (List ℕ)) → List RowView
variable_rows None part was now of_it = []
variable_rows (Some place) part was now of_it =
    part_row part (Some (name_at was now place)) of_it ∷ []

-- the rows of what differs of what two heads declare
abbrev pub declared_rows : (was now : Head) → Difference → (of_class : Option (List ℕ))
    → List RowView
declared_rows was now d of_it =
    part_rows d.kind (kind_part now) of_it ++ part_rows d.declared.marks Marks of_it
    ++ part_rows d.declared.disabled Disabled of_it
    ++ variable_rows d.declared.statics Static (statics_on was) (statics_on now) of_it
    ++ variable_rows d.declared.fields Field (fields_on was) (fields_on now) of_it

-- the row of a block of node n, whose namesake is node m, where it differs
abbrev pub block_rows : ChangeView → (n m : ℕ) → Block → Option RowsApart
    → (of_class : Option (List ℕ)) → List RowView
block_rows c n m block None of_it = []
block_rows c n m block (Some rows) of_it =
    block_row block of_it (option_and_then (spot_in c.names c.new n block) rows.now)
    (option_and_then (spot_in c.names c.old m block) rows.before) ∷ []

-- the rows of its blocks, in the order in which they run
abbrev pub blocks_rows : ChangeView → (n m : ℕ) → Blocks → (of_class : Option (List ℕ))
    → List RowView
blocks_rows c n m b of_it =
    block_rows c n m (B.Class BeforeAll) b.before_all of_it ++ block_rows c n m
    (B.Class BeforeEach) b.before_each of_it ++ block_rows c n m B.Test b.test of_it
    ++ block_rows c n m (B.Class AfterEach) b.after_each of_it
    ++ block_rows c n m (B.Class AfterAll) b.after_all of_it

-- the key of the mark at a place, and the property that is told where it is that of the properties
abbrev pub key_at : List Mark → ℕ → List ℕ
key_at marks place = unwrap_or (option_map (λ (m : Mark). m.key) (slice_get marks place)) []

abbrev pub property_of : (key : List ℕ) → Option (List ℕ) → Option (List ℕ)
property_of key property = cond (bytes_eq key properties_key) property None

-- the row of the first mark whose key starts with another value, where one does
abbrev pub start_rows : (property : Option (List ℕ)) → List Mark → (place : Option ℕ)
    → (of_class : Option (List ℕ)) → List RowView
start_rows property marks None of_it = []
start_rows property marks (Some place) of_it =
    start_row (key_at marks place) of_it (property_of (key_at marks place) property) ∷ []

-- the rows of what differs of node n and its namesake, node m
abbrev pub difference_rows : ChangeView → (n m : ℕ) → Difference → List RowView
difference_rows c n m d =
    let was = head_of (row_at c.old.tree m).kind in
    let now = head_of (row_at c.new.tree n).kind in
    let of_it = of_class c.new.tree n in
    declared_rows was now d of_it ++ blocks_rows c n m d.blocks of_it
    ++ start_rows c.property (marks_on now) d.start of_it
