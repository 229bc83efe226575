-- The words of the examples.
use Prim.Native.String.{String}
use Rattle.std.specs.Prelude.{ℕ, List, [], ◌∷◌, ◌++◌, Option, Some, codes}
use Rattle.iso_model.specs.Scripts.{Script}
use Rattle.iso_plan.specs.Examples.{cart, desk, shop}
use Rattle.iso_schedule.specs.declared.fault.ScheduleFault.{ScheduleFault}
use Rattle.iso_schedule.specs.declared.fault.ScheduleFaultKind.{ScheduleFaultKind}
use Rattle.iso_script_lexer.specs.declared.token.Position.{Position}
use Rattle.iso_explain_plan.specs.Doubles.{Spot}
use Rattle.iso_explain_plan.specs.declared.size.Size.{Size}

-- lines with their line ends
abbrev pub lines_of : List String → List ℕ
lines_of [] = []
lines_of (line ∷ lines) = codes line ++ codes "\n" ++ lines_of lines

-- a place in a file
abbrev pub at : String → (line column : ℕ) → Spot
at file line column = (codes file, Some (record { line = line; column = column }))

-- a class with `count` things
abbrev pub sized : String → ℕ → Size
sized path count = record { path = record { ref_ptr = (0, 0); now = codes path }; count = count }

-- the fault of a line
abbrev pub fault_at : ScheduleFaultKind → ℕ → ScheduleFault
fault_at kind line = record { kind = kind; line = line }

-- the classes Cart and Desk of team shop, and paths of some
abbrev pub shop_scripts : List Script
shop_scripts = shop (cart ∷ desk ∷ []) ∷ []

abbrev pub some_paths : List (List ℕ)
some_paths = codes "shop.Cart" ∷ codes "shop.Cart.adds" ∷ codes "shop.Desk" ∷ []
