use Rattle.std.proofs.Common.{ℕ, List, [], ◌∷◌, map, get_or, ap, subst, sym, ◌∙◌}
use Rattle.std.proofs.lemmas.List.{get_or-map, map-append}
use Rattle.std.specs.Borrow.{Bor}
use Rattle.iso_model.specs.ScriptView.{script_of}
use Rattle.iso_script.specs.NoScript.{HasScriptFault, UnlessMemory}
use Rattle.iso_run.proofs.Turns.{placed_more, read_more, texts_more}
use Rattle.iso_run.proofs.inputs.read_scripts.Goals as goal

-- what stands where there is no script
abbrev none : Bor (List ℕ)
none = record { ref_ptr = (0, 0); now = [] }

pub loop-index-init : goal.loop-index-init
loop-index-init c = rw (c.new.ensures.items, c.new-2.ensures.items) (tt, λ kept. tt)

pub returns-in-Err-Fault-clause-scripts : goal.returns-in-Err-Fault-clause-scripts
returns-in-Err-Fault-clause-scripts c =
    let bytes = (get_or c.args.inputs.scripts.now c.loop-index.index none).now in
    let here : HasScriptFault bytes c.in-Err-Fault.fault = subst (UnlessMemory (HasScriptFault bytes)) c.in-Err-Fault.field-0-is c.in-Err-Fault.ensures.fault in (
      c.requires,
      record {
        within = c.loop-index-test.true;
        earlier = (map script_of c.loop-index.read.scripts.items, c.loop-index.invariant.0);
        unread = rw c.in-Err-Fault.field-0-is (subst (λ (t : List ℕ). HasScriptFault t c.in-Err-Fault.fault)
            (sym (get_or-map (λ (b : Bor (List ℕ)). b.now) c.args.inputs.scripts.now c.loop-index.index none [] c.loop-index-test.true)) here);
      },
    )

pub loop-index-preserved : goal.loop-index-preserved
loop-index-preserved c =
    let more = texts_more c.args.inputs.scripts.now c.loop-index.index none c.loop-index-test.true in
    let pushed = ap (map script_of) c.in_ok-push-in-Ok.ensures.items ∙ map-append script_of c.loop-index.read.scripts.items (c.in-Ok.script ∷ []) in
    rw (more, pushed) (
      read_more _ _ _ _ c.loop-index.invariant.0 c.in-Ok.ensures.found,
      λ kept.
          let placed = c.in-Ok.ensures.places kept in rw placed.2 (placed_more _ _ _ _ _ placed.0 (c.loop-index.invariant.1 kept) placed.1),
    )
