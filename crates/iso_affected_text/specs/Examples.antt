-- Rows of the examples.
use Rattle.std.specs.Prelude.{ℕ, List, [], ◌∷◌, None, Some, codes}
use Rattle.iso_affected_text.specs.Rows.{RowView, SpotView, block_row, node_row, start_row}
use Rattle.iso_affected_text.specs.Texts.{LastView}
use Rattle.iso_affected_text.specs.declared.row.Became.TheVariants.{Changed, New, Gone}
use Rattle.iso_affected_text.specs.declared.row.Block.TheVariants as B
use Rattle.iso_model.specs.declared.place.Lifecycle.TheVariants.{BeforeEach}

-- a line of a script
abbrev pub spot : ℕ → (file : List ℕ) → ℕ → (source : List ℕ) → SpotView
spot script file line source = record { script = script; file = file; line = line; source = source }

-- a test that is changed in its body, one in the before_each of its class and in a property, one
-- that is new, and one that is gone
abbrev pub some_rows : List RowView
some_rows =
    node_row Changed (codes "shop.Cart.adds")
    ∷ block_row B.Test None (Some
    (spot 0 (codes "cart.jtap") 12 (codes "    assert_equal 6, price + 2;")))
    (Some (spot 0 (codes "cart.jtap") 11 (codes "assert_equal 6, price + 1;")))
    ∷ node_row Changed (codes "shop.Env.reads")
    ∷ block_row (B.Class BeforeEach) (Some (codes "shop.Env"))
    (Some (spot 1 (codes "env.jtap") 7 (codes "  set_prop \"mode\", \"fast\";")))
    (Some (spot 1 (codes "env.jtap") 7 (codes "  set_prop \"mode\", \"slow\";")))
    ∷ start_row (codes "java.lang.System.properties") None (Some (codes "db.url"))
    ∷ node_row New (codes "shop.Cart.removes")
    ∷ node_row Gone (codes "shop.Cart.deletes")
    ∷ []

-- a test whose body was in another file
abbrev pub moved_row : RowView
moved_row = block_row B.Test None (Some (spot 1 (codes "b.jtap") 4 (codes "print 1;")))
    (Some (spot 0 (codes "a.jtap") 9 (codes "print 2;")))

-- 401 tests, of which 397 are the same; no file was missing
abbrev pub last_of_all : LastView
last_of_all = record {
  counts = record { same = 397; changed = 2; new = 1; gone = 1 };
  folder = codes "../base";
  missing = 0;
}
