use Rattle.std.proofs.Common.{◌<◌, List, None, get_or, length, ap, ◌∙◌, take_all, arith}
use Rattle.std.proofs.lemmas.List.{get_or_default}
use Rattle.iso_critical.specs.Needs.{last_wait}
use Rattle.iso_critical.proofs.HolderLemmas.{more}
use Rattle.iso_plan.proofs.ColumnLemmas.{column-from}
use Rattle.iso_waits.specs.declared.wait.NodeWait.{NodeWait}
use Rattle.iso_critical.proofs.holders.last_waits.Goals as goal

pub loop-wait-preserved : goal.loop-wait-preserved
loop-wait-preserved c =
    let i = c.loop-wait.wait-index in
    let waits = c.args.waits.now in
    record {
      size = c.note.ensures.size ∙ c.loop-wait.invariant.size;
      found = λ n h.
          more c.loop-wait.last.items c.note.new.last.items waits i (get_or waits i _) n c.loop-wait-test.true
          (get_or_default waits i _ _ c.loop-wait-test.true) (c.note.ensures.noted n (let size = c.loop-wait.invariant.size in omega arith)) (c.loop-wait.invariant.found n h);
    }

pub returns : goal.returns
returns c =
    let waits = c.args.waits.now in
    let xs = c.loop-wait.last.items in
    column-from (λ n. last_wait n None waits) xs c.args.nodes c.loop-wait.invariant.size
    (λ m d h.
    let inside : m < length xs = let size = c.loop-wait.invariant.size in omega arith in
    get_or_default xs m d None inside ∙ c.loop-wait.invariant.found m h
    ∙ ap (λ (ws : List NodeWait). last_wait m None ws) (take_all c.loop-wait.wait-index waits (omega arith)))
