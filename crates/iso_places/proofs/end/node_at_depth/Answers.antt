use Rattle.std.proofs.Common.{◌≡◌, ◌≢◌, ℕ, zero, suc, ◌<◌, List, [], drop, length, Some, refl, ap, sym, ◌∙◌, arith}
use Rattle.std.proofs.lemmas.List.{drop-drop, length-drop}
use Rattle.iso_places.proofs.PathLemmas.{from_back}
use Rattle.iso_places.specs.Ends as E
use Rattle.iso_plan.specs.Paths.{parent, parent_of, path}
use Rattle.iso_plan.specs.Tree.{Row}
use Rattle.iso_places.proofs.end.node_at_depth.Goals as goal

-- a node with a path is not the root, and has a parent
has_parent : (tree : List Row) (n : ℕ) → n ≢ 0 → parent_of tree n ≡ Some (parent tree n)
has_parent tree zero h = absurd (h refl)
has_parent tree (suc n) h = refl

-- above the root is nothing
inner : (tree : List Row) (n : ℕ) → path tree 0 ≡ [] → 0 < length (path tree n) → n ≢ 0
inner tree n root some is = let none = ap (λ (m : ℕ). length (path tree m)) is ∙ ap length root in absurd (omega arith)

pub returns-in_err-at : goal.returns-in_err-at
returns-in_err-at c =
    let tree = c.args.plan.now.rows in
    let at = c.levels.at in
    let count = c.depth_of.ensures in
    let more = c.in_ok-below.ensures in
    let left = ap length c.levels.invariant.same ∙ length-drop c.levels._level (path tree c.args.node) in
    let some : 0 < length (path tree at) = omega (arith, more) in
    let up = has_parent tree at (inner tree at c.paths_lead_up.ensures.root some) in
    let none = c.in_err-at.was in
    let is = c.parent.ensures in
    absurd (cc)

-- what has a parent
by_parent : (tree : List Row) (n m : ℕ) → parent_of tree n ≡ Some m → (0 < n) × (parent tree n ≡ m)
by_parent tree zero m h = absurd (cc)
by_parent tree (suc n) m h = (omega arith, cc)

pub levels-preserved : goal.levels-preserved
levels-preserved c =
    let tree = c.args.plan.now.rows in
    let at = c.levels.at in
    let level = c.levels._level in
    let own = path tree c.args.node in
    let up = by_parent tree at c.in_ok-at.at (sym c.parent.ensures ∙ c.in_ok-at.was) in
    let low : parent tree at < at = c.parents_come_first.ensures at up.0 in
    let here = c.levels.invariant.within in
    let is = up.1 in
    let step = c.paths_lead_up.ensures.step at up.0 in
    record {
      within = omega arith;
      same =
          ap (path tree) (sym up.1) ∙ sym (
          ap (λ (k : ℕ). drop k own) (omega arith) ∙ sym (drop-drop 1 level own) ∙ ap (drop 1) (sym c.levels.invariant.same) ∙ ap (drop 1) step);
    }

pub returns : goal.returns
returns c =
    let tree = c.args.plan.now.rows in
    let at = c.levels.at in
    let own = path tree c.args.node in
    let count = c.depth_of.ensures in
    let less = c.in_ok-below.ensures in
    let left = ap length c.levels.invariant.same ∙ length-drop c.levels._level own in
    let last : c.levels._level ≡ c.in_ok-below.below = omega arith in
    let nonzero = c.if-depth-eq0.false in
    let long : length (path tree at) ≡ c.args.depth = omega (arith, less) in
    let some : 0 < length (path tree at) = omega arith in
    let apart = inner tree at c.paths_lead_up.ensures.root some in
    let more = path tree (parent tree at) in
    let step = c.paths_lead_up.ensures.step at (omega arith) in
    let rest : suc (length more) ≡ c.args.depth = sym (ap length step) ∙ long in
    sym (ap (E.node_at_depth tree c.args.node) (sym rest) ∙ from_back own c.levels._level at more (sym c.levels.invariant.same ∙ step))
