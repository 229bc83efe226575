use Rattle.std.proofs.Common.{◌≡◌, ℕ, List, ◌++◌, ◌∙◌, cond, bytes_eq, sym, ap, subst, Some}
use Rattle.iso_model.specs.KeyMaps.{value_in}
use Rattle.iso_model.specs.Rights.{strongest}
use Rattle.iso_model.proofs.LayerLemmas.{declared-known, declared-set}
use Rattle.iso_model.proofs.rights.Layer.mark.Goals as goal

pub returns-then-covers : goal.returns-then-covers
returns-then-covers c = λ k.
    let mark = c.args.mark.now in
    let all = c.args.self.now.entries ++ c.args.outer.now in
    declared-known mark all k (ap (strongest (Some mark.access)) (sym c.known.ensures) ∙ c.if-covers.ensures.kept ∙ c.known.ensures)

pub returns : goal.returns
returns c =
    let mark = c.args.mark.now in
    let old = c.args.self.now.entries in
    let set = subst (λ q. (k : List ℕ) → value_in c.set.new.self k ≡ cond (bytes_eq k q) (Some mark.access) (value_in old k)) c.in_ok-key.ensures c.in_ok-set.ensures.ok in
    declared-set mark old c.set.new.self c.args.outer.now set (ap (strongest (Some mark.access)) (sym c.known.ensures) ∙ c.if-covers.ensures.changed)
