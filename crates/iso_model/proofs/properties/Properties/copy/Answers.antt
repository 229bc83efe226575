use Rattle.std.proofs.Common.{◌≡◌, ◌∷◌, [], List, String, Global, ℕ, arith}
use Rattle.std.proofs.lemmas.Grind.{common_steps}
use Rattle.std.specs.Map.Iter.{deref_pair}
use Rattle.iso_model.proofs.NameMapLemmas.{Covers-none, Covers-more, Covers-all, turn}
use Rattle.iso_model.proofs.properties.Properties.copy.Goals as goal

pub entries-init : goal.entries-init
entries-init c =
    let start : c.into_iter-name-iterator.result ≡ c.iter-name-items.result = grind (arith, common_steps) in
    (tt, tt, rw (start, c.new-copied.ensures, ← c.iter-name-items.ensures.entries) (Covers-none c.iter-name-items.result))

pub entries-preserved : goal.entries-preserved
entries-preserved c =
    let (can, finite, covers) = c.entries.invariant in
    let e : String Global × List ℕ = (c.in-Some.name.now, c.in-Some.text.now) in
    let iter : c.entries.name-iterator ≡ e ∷ c.next.new.self = grind (arith, common_steps) in
    let start : c.into_iter-name-iterator.result ≡ c.iter-name-items.result = grind (arith, common_steps) in
    let there = turn deref_pair c.entries.yielded c.into_iter-name-iterator.result c.entries.name-iterator c.next.new.self c.next.result (c.in-Some.name, c.in-Some.text) c.entries.yielded_by
    c.in-Some.is c.next.ensures.steps c.iter-name-items.result start c.iter-name-items.ensures.ordered c.args.self.now c.iter-name-items.ensures.entries in (
      tt,
      tt,
      rw (c.in_ok-set.ensures.ok, c.in_ok-from_str.ensures.ok, c.as_str.ensures.value, c.in_ok-copy.ensures)
          (Covers-more c.entries.copied e c.next.new.self c.args.self.now (rw iter at covers) there),
    )

pub returns : goal.returns
returns c =
    let (can, finite, covers) = c.entries.invariant in
    let none : c.entries.name-iterator ≡ [] = grind (arith, common_steps) in
    Covers-all c.entries.copied c.args.self.now (rw none at covers)
