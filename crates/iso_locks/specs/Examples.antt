-- Example trees, and values in trays.
use Rattle.std.specs.Prelude.{ℕ, List, [], ◌∷◌, Some, None, Bool, true, false, codes}
use Rattle.iso_model.specs.Scripts.{Class, member, no_members}
use Rattle.iso_model.specs.declared.resource.Change.TheVariants.{WriteFile}
use Rattle.iso_model.specs.declared.resource.Resource.TheVariants.{File}
use Rattle.iso_plan.specs.Examples.{a_class, a_test, reads, shop, writes}
use Rattle.iso_plan.specs.Tree.{Row, tree}
use Rattle.iso_store.specs.Histories.{History, after}
use Rattle.iso_locks.specs.Slots.{Slots}

abbrev pub file_a : List ℕ
file_a = codes "file:a"

abbrev pub file_b : List ℕ
file_b = codes "file:b"

-- write "file:a" class A { test t { } }
abbrev pub writer_of_a : Class
writer_of_a = a_class (codes "A") None false (writes file_a ∷ [])
    (member (a_test (codes "t") None []) no_members)

-- write "file:b" class B { test u { } }
abbrev pub writer_of_b : Class
writer_of_b = a_class (codes "B") None false (writes file_b ∷ [])
    (member (a_test (codes "u") None []) no_members)

-- nodes 1 to 4: A, t, B, u; file:a is key 1 and file:b key 2
abbrev pub two_writers : List Row
two_writers = tree (shop (writer_of_a ∷ writer_of_b ∷ []) ∷ [])

-- read "file:a" class C { test v { } write "file:b" test w { } }
abbrev pub reader_of_a : Class
reader_of_a =
    a_class (codes "C") None false (reads file_a ∷ [])
    (member (a_test (codes "v") None [])
    (member (a_test (codes "w") None (writes file_b ∷ [])) no_members))

-- nodes 1 to 3: C, v, w
abbrev pub one_reader : List Row
one_reader = tree (shop (reader_of_a ∷ []) ∷ [])

-- a file that is missing, and that was written then
abbrev pub missing : History
missing = record { now = File None; past = [] }

abbrev pub written : History
written = after (WriteFile (codes "m")) missing

-- file:a is there alone, and both files are there, each with this value
abbrev pub a_alone : History → Slots
a_alone h = None ∷ Some h ∷ None ∷ []

abbrev pub both : History → History → Slots
both a b = None ∷ Some a ∷ Some b ∷ []

-- of five nodes node 1 is lent, and of four nodes node 2
abbrev pub first_lent : List Bool
first_lent = false ∷ true ∷ false ∷ false ∷ false ∷ []

abbrev pub second_lent : List Bool
second_lent = false ∷ false ∷ true ∷ false ∷ []
