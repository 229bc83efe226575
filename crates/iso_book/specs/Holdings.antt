-- Which nodes are held after an event as they were before it.
use Rattle.std.specs.Prelude.{◌≡◌, ◌≢◌, ◌<◌, ℕ, length}
use Rattle.iso_book.specs.Books.{BookView, state_in}
use Rattle.iso_isolation.specs.States.{is_held}
use Rattle.iso_lifecycle.specs.declared.kind.BodyKind.{BodyKind}
use Rattle.iso_lifecycle.specs.declared.kind.BodyKind.TheVariants.{AfterAll, BeforeAll, Test}

-- of two books of one plan each node but the root is held in both or in neither
abbrev pub HoldSame : BookView → BookView → Type 0
HoldSame b c = (m : ℕ) → 0 < m → m < length b.plan.rows → is_held ((state_in c).nodes.status m)
    ≡ is_held ((state_in b).nodes.status m)

-- the same of each node but the root and this one
abbrev pub HoldAlike : ℕ → BookView → BookView → Type 0
HoldAlike n b c = (m : ℕ) → 0 < m → m < length b.plan.rows → m ≢ n
    → is_held ((state_in c).nodes.status m) ≡ is_held ((state_in b).nodes.status m)

-- a body of a node was left: after a `before_all` each node is held as before, after the last body
-- of a node each but this one
abbrev pub HoldAfter : BodyKind → ℕ → BookView → BookView → Type 0
HoldAfter BeforeAll n b c = HoldSame b c
HoldAfter Test n b c = HoldAlike n b c
HoldAfter AfterAll n b c = HoldAlike n b c
