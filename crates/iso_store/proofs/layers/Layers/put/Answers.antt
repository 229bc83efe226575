use Rattle.std.proofs.Common.{◌≡◌, ◌<◌, ℕ, List, ◌∷◌, Some, cond, bytes_eq, map, ap, subst, ◌∙◌, refl}
use Rattle.std.specs.Arc.{arc_value}
use Rattle.std.specs.FinMap.{empty, insert}
use Rattle.std.specs.declared.alloc.Global.{Global}
use Rattle.std.specs.declared.sync.Arc.{Arc}
use Rattle.iso_store.specs.Layers.{place_in}
use Rattle.iso_store.specs.Places.{Places}
use Rattle.iso_store.specs.contracts.layers.Layers.{the_view}
use Rattle.iso_store.proofs.LayerLemmas.{place-first, place-new, set-same}
use Rattle.iso_store.proofs.layers.Layers.put.Goals as goal
use Rattle.iso_store.proofs.layers.Layers.put.Goals.{in_default-via-in-None-1, in_default-via-in-Some+in-None-1}

pub returns-clause-ok : goal.returns-clause-ok
returns-clause-ok c = λ q.
    let xs = c.self.inside.layers.items in
    place-first xs c.in-Some.newest.now c.set.new.self c.args.name c.args.text q (subst (λ (n : ℕ). 0 < n) c.self.inside.layers.ok.0 (c.in-Some.ensures.variant.0 refl)) c.in-Some.ensures.value
    ((rw c.into_string-name.ensures at c.in_ok-set.ensures.ok) ∙ ap (λ (p : Places). insert p c.args.name c.args.text) c.in-Some-get_mut.ensures.value)
    ∙ ap (λ (ps : List Places). cond (bytes_eq q c.args.name) (Some c.args.text) (place_in ps q)) c.self.view_is

pub returns-2-clause-ok : goal.returns-2-clause-ok
returns-2-clause-ok c = λ q.
    let same : map arc_value c.in_default.self-inside.layers.items ≡ c.args.self.now = elim c.in_default.branch [
      | in_default-via-in-None-1 w ↦ ap the_view w.self-inside-is ∙ c.self.view_is
      | in_default-via-in-Some+in-None-1 w ↦ ap the_view w.self-inside-is ∙ ap (map arc_value) (set-same c.self.inside.layers.items w.in-Some.newest.now w.in-Some.ensures.value) ∙ c.self.view_is
    ] in
    let first : arc_value c.in_ok-new.field-0 ≡ insert empty c.args.name c.args.text = c.in_ok-new.ensures.ok ∙ (rw c.into_string-name.ensures at c.in_ok-set-2.ensures.ok)
    ∙ ap (λ (p : Places). insert p c.args.name c.args.text) c.new-places.ensures in
    ap (λ (xs : List (Arc Places Global)). place_in (map arc_value xs) q) c.in_ok-insert.ensures.items
    ∙ ap (λ (p : Places). place_in (p ∷ map arc_value c.in_default.self-inside.layers.items) q) first
    ∙ place-new (map arc_value c.in_default.self-inside.layers.items) c.args.name c.args.text q
    ∙ ap (λ (ps : List Places). cond (bytes_eq q c.args.name) (Some c.args.text) (place_in ps q)) same
