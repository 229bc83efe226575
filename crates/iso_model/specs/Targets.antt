-- Marks of a class for itself and for its children (JUnit 5 User Guide, `ResourceLockTarget`).
--
-- effective marks: Those that count for a node: of the marks that are written on it the ones for
-- itself, and of those on its parent class the ones for that class's children, each as a mark of
-- the node itself (`effective`, `marks_for`, `is_for_children`). Of marks of one key and target on
-- one node the stronger counts, and 513 are kept (`merged`), which no node of a plan has.
-- Also in: `Merged` of `iso_plan`.
-- Standard: JUnit 5 User Guide, parallel execution (`ResourceLockTarget`).
use Rattle.std.specs.Prelude.{List, ◌++◌, Bool, true, false, filter, map}
use Rattle.iso_model.specs.declared.heads.Mark.{Mark}
use Rattle.iso_model.specs.declared.heads.Target.{Target}
use Rattle.iso_model.specs.declared.heads.Target.TheVariants.{Itself, Children}

-- whether two targets are one
abbrev pub is_target : Target → Target → Bool
is_target Itself Itself = true
is_target Itself Children = false
is_target Children Itself = false
is_target Children Children = true

-- whether a mark is for the children of the class on which it is written
abbrev pub is_for_children : Mark → Bool
is_for_children m = is_target Children m.target

-- a mark as that of the node for which it is
abbrev pub for_itself : Mark → Mark
for_itself m = record m { target = Itself }

-- of marks as they are written, those for this target, as marks of the nodes for which they are
abbrev pub marks_for : Target → List Mark → List Mark
marks_for target written = map for_itself (filter (λ m. is_target target m.target) written)

-- the effective marks of a node: of those that are written on it the ones for itself, and of those
-- that are written on its parent class the ones for that class's children
abbrev pub effective : List Mark → List Mark → List Mark
effective above written = marks_for Itself written ++ marks_for Children above
