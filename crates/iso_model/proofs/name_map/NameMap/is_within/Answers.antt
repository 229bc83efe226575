use Rattle.std.proofs.Common.{◌≡◌, ◌∷◌, [], Some, None, String, Global, string_bytes, refl, ap, sym, ◌∙◌, arith}
use Rattle.std.proofs.lemmas.Grind.{common_steps}
use Rattle.std.specs.FinMap.{get}
use Rattle.std.specs.Map.Iter.{deref_pair}
use Rattle.iso_model.proofs.NameMapLemmas.{within-none, within-more, turn}
use Rattle.iso_model.proofs.name_map.NameMap.is_within.Goals as goal

pub entries-init : goal.entries-init
entries-init g c =
    let start : c.into_iter-name-iterator.result ≡ c.iter-name-items.result = grind (arith, common_steps) in
    (tt, tt, rw start (within-none c.iter-name-items.result c.args.self.now c.args.other.now (sym c.iter-name-items.ensures.entries)))

pub entries-preserved : goal.entries-preserved
entries-preserved g c =
    let (can, finite, within) = c.entries.invariant in
    let e : String Global × g.row.V.Denot = (c.in-Some.name.now, c.in-Some.value.now) in
    let iter : c.entries.name-iterator ≡ e ∷ c.next.new.self = grind (arith, common_steps) in
    let start : c.into_iter-name-iterator.result ≡ c.iter-name-items.result = grind (arith, common_steps) in
    let here = turn deref_pair c.entries.yielded c.into_iter-name-iterator.result c.entries.name-iterator c.next.new.self c.next.result (c.in-Some.name, c.in-Some.value) c.entries.yielded_by
    c.in-Some.is c.next.ensures.steps c.iter-name-items.result start c.iter-name-items.ensures.ordered c.args.self.now c.iter-name-items.ensures.entries in
    let equal : c.in-Some-get.found.now ≡ c.in-Some.value.now = c.same.ensures.0 c.if-not-same.false in
    let found : Some c.in-Some-get.found.now ≡ get c.args.other.now (string_bytes c.in-Some.name.now) = rw c.as_str.ensures.value at c.in-Some-get.ensures in
    (tt, tt, within-more c.args.self.now c.args.other.now e c.next.new.self (rw iter at within) here (sym found ∙ ap Some equal))

pub returns-then-not-same : goal.returns-then-not-same
returns-then-not-same g c =
    let start : c.into_iter-name-iterator.result ≡ c.iter-name-items.result = grind (arith, common_steps) in
    let here = turn deref_pair c.entries.yielded c.into_iter-name-iterator.result c.entries.name-iterator c.next.new.self c.next.result (c.in-Some.name, c.in-Some.value) c.entries.yielded_by
    c.in-Some.is c.next.ensures.steps c.iter-name-items.result start c.iter-name-items.ensures.ordered c.args.self.now c.iter-name-items.ensures.entries in
    let found : Some c.in-Some-get.found.now ≡ get c.args.other.now (string_bytes c.in-Some.name.now) = rw c.as_str.ensures.value at c.in-Some-get.ensures in (
      λ yes_. absurd cc,
      λ within.
          let both : Some c.in-Some-get.found.now ≡ Some c.in-Some.value.now = found ∙ within _ _ here in
          let equal : c.in-Some-get.found.now ≡ c.in-Some.value.now = cc in
          let told = c.same.ensures.1 equal in
          absurd cc,
    )

pub returns-in_default : goal.returns-in_default
returns-in_default g c =
    let start : c.into_iter-name-iterator.result ≡ c.iter-name-items.result = grind (arith, common_steps) in
    let here = turn deref_pair c.entries.yielded c.into_iter-name-iterator.result c.entries.name-iterator c.next.new.self c.next.result (c.in-Some.name, c.in-Some.value) c.entries.yielded_by
    c.in-Some.is c.next.ensures.steps c.iter-name-items.result start c.iter-name-items.ensures.ordered c.args.self.now c.iter-name-items.ensures.entries in
    let found : None ≡ get c.args.other.now (string_bytes c.in-Some.name.now) = rw c.as_str.ensures.value at c.in_default.ensures in (
      λ yes_. absurd cc,
      λ within. let both : None ≡ Some c.in-Some.value.now = found ∙ within _ _ here in absurd cc,
    )

pub returns : goal.returns
returns g c =
    let (can, finite, within) = c.entries.invariant in
    let none : c.entries.name-iterator ≡ [] = grind (arith, common_steps) in
    (λ yes_ q t. (rw none at within) q t refl, λ _. refl)
