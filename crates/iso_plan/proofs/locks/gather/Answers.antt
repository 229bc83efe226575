use Rattle.std.proofs.Common.{◌≡◌, ◌+◌, [], ℕ, List, Option, None, drop, get_or, map, ap, sym, ◌∙◌, arith}
use Rattle.iso_model.proofs.RightsLemmas.{strongest-assoc, strongest-comm}
use Rattle.iso_model.specs.Rights.{declared_by, rights_of, strongest}
use Rattle.iso_model.specs.declared.access.Access.{Access}
use Rattle.iso_model.specs.declared.heads.Mark.{Mark}
use Rattle.iso_plan.proofs.Growth.{drop_next}
use Rattle.iso_plan.proofs.locks.gather.Goals as goal

first : (r d t : Option Access) → strongest r (strongest d t) ≡ strongest (strongest d r) t
first r d t = sym (strongest-assoc r d t) ∙ ap (λ (x : Option Access). strongest x t) (strongest-comm r d)

pub marks-preserved : goal.marks-preserved
marks-preserved c =
    let ms = c.args.marks.now in
    let i = c.marks.mark-index in
    let m = c.mark-item.result in
    let next = drop_next m ms i (omega arith) c.mark-item.is in
    let key : ℕ → List ℕ = λ j. get_or (map (λ k. k.now) c.args.keys.now.keys) j [] in
    record {
      fits = c.add_mark-number.ensures.fits ∙ c.marks.invariant.fits;
      rest = λ j h.
          let before = get_or c.marks.table.items j None in
          ap (strongest (rights_of (drop (i + 1) ms) (key j))) (c.add_mark-number.ensures.added j h)
          ∙ first (rights_of (drop (i + 1) ms) (key j)) (declared_by m (key j)) before
          ∙ ap (λ (ns : List Mark). strongest (rights_of ns (key j)) before) (sym next)
          ∙ c.marks.invariant.rest j h;
    }
