use Rattle.std.proofs.Common.{◌≡◌, ◌<◌, ◌+◌, ◌-◌, [], List, Option, get_or, length, map, ap, sym, ◌∙◌, arith}
use Rattle.std.proofs.lemmas.List.{get_or-map, length_push}
use Rattle.std.specs.declared.alloc.Global.{Global}
use Rattle.std.specs.declared.vec.Vec.{Vec}
use Rattle.iso_model.specs.declared.access.Access.{Access}
use Rattle.iso_plan.proofs.ColumnLemmas.{column-push, column-read}
use Rattle.iso_plan.specs.Locks.{locks_from}
use Rattle.iso_plan.proofs.locks.listed_tables.Goals as goal
use Rattle.iso_plan.proofs.locks.listed_tables.Goals.{then-repeated-n+in_ok-own, else-repeated-n+in_ok-listed+in_ok-own-2}

abbrev accesses : Vec (Option Access) Global → List (Option Access)
accesses v = v.items

pub listed-requires : goal.listed-requires
listed-requires c =
    let ts = c.args.tables.now in
    let n = c.tables.n in
    let same : get_or (map accesses ts) n [] ≡ c.deref.result.now = get_or-map accesses ts n c.index-tables-n.result [] (omega arith) ∙ ap accesses (sym c.index-tables-n.is)
    ∙ sym c.deref.ensures.value in
    rw (sym same) (c.requires.fits n (omega arith))

pub tables-preserved : goal.tables-preserved
tables-preserved c =
    let ts = c.args.tables.now in
    let n = c.tables.n in
    let old = c.tables.locks.items in
    let own = c.if-repeated-n.own in
    record {
      each = ap length c.in_ok-push.ensures.items ∙ length_push old own ∙ ap (λ m. m + 1) c.tables.invariant.each;
      listed = λ locks kept same.
          let before = c.tables.invariant.listed locks kept same in
          let this : own ≡ locks n = elim c.if-repeated-n.branch [
            | then-repeated-n+in_ok-own w ↦
                let later : 0 < n = c.requires.later n w.if-repeated-n.true in
                w.own-is ∙ w.in_ok-own.ensures ∙ w.index.ensures ∙ column-read locks old n (n - 1) w.index.result.now before (omega arith) ∙ same n (omega arith) w.if-repeated-n.true
            | else-repeated-n+in_ok-listed+in_ok-own-2 w ↦
                w.own-is ∙ w.in_ok-own-2.ensures ∙ w.in_ok-listed.ensures
                ∙ ap (locks_from 0) (w.deref.ensures.value ∙ ap accesses w.index-tables-n.is ∙ sym (get_or-map accesses ts n w.index-tables-n.result [] (omega arith)))
                ∙ kept n (omega arith) w.if-repeated-n.false
          ] in
          c.in_ok-push.ensures.items ∙ column-push locks old n own before this;
    }
