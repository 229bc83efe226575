use Rattle.std.proofs.Common.{◌≡◌, ◌∷◌, [], List, String, Global, ℕ, refl, arith}
use Rattle.std.proofs.lemmas.Grind.{common_steps}
use Rattle.iso_model.proofs.NameMapLemmas.{Covers-none, Covers-more, Covers-all, itself, turn}
use Rattle.iso_settings.proofs.starts.file_starts.Goals as goal

pub entries-init : goal.entries-init
entries-init c =
    let (of_all, rise) = c.into_iter-path-iterator.ensures.into_iter_gives in
    (tt, tt, rw (c.new-files.ensures, ← of_all) (Covers-none c.into_iter-path-iterator.result))

pub entries-preserved : goal.entries-preserved
entries-preserved c =
    let (can, finite, covers) = c.entries.invariant in
    let (of_all, rise) = c.into_iter-path-iterator.ensures.into_iter_gives in
    let e : String Global × List ℕ = (c.in-Some.path, c.in-Some.text) in
    let iter : c.entries.path-iterator ≡ e ∷ c.next.new.self = grind (arith, common_steps) in
    let there = turn itself c.entries.yielded c.into_iter-path-iterator.result c.entries.path-iterator c.next.new.self c.next.result e c.entries.yielded_by
    c.in-Some.is c.next.ensures.steps c.into_iter-path-iterator.result refl rise c.args.texts of_all in (
      tt,
      tt,
      rw (c.in_ok-set.ensures.ok, c.in_ok-new.ensures) (Covers-more c.entries.files e c.next.new.self c.args.texts (rw iter at covers) there),
    )

pub returns : goal.returns
returns c =
    let (can, finite, covers) = c.entries.invariant in
    let none : c.entries.path-iterator ≡ [] = grind (arith, common_steps) in
    Covers-all c.entries.files c.args.texts (rw none at covers)
