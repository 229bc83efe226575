use Rattle.std.proofs.Common.{◌≡◌, OnOk}
use Rattle.iso_store.proofs.LayerLemmas.{over-clear, over-set, still_ok}
use Rattle.iso_store.proofs.value.Value.change.Goals as goal

pub returns-in-Props-SetProp-clause-ok : goal.returns-in-Props-SetProp-clause-ok
returns-in-Props-SetProp-clause-ok c =
    let now = c.args.self.now in
    still_ok c.put.result
    (over-set c.put.new.self now.layers now.start c.in-Props-SetProp.field-0-0 c.args.change c.in-Props-SetProp.name c.in-Props-SetProp.text c.in-Props-SetProp.is-0 c.in-Props-SetProp.is-1)
    c.put.ensures.ok

pub returns-in-Props-ClearProp-clause-ok : goal.returns-in-Props-ClearProp-clause-ok
returns-in-Props-ClearProp-clause-ok c =
    let now = c.args.self.now in
    let put = c.put-in-Props-ClearProp in
    still_ok put.result
    (over-clear put.new.self now.layers now.start c.in-Props-ClearProp.field-0-0 c.args.change c.in-Props-ClearProp.name c.in-Props-ClearProp.is-0 c.in-Props-ClearProp.is-1)
    put.ensures.ok
