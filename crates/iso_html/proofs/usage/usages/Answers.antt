use Rattle.std.proofs.Common.{◌≡◌, ◌<◌, ◌≤◌, ℕ, List, [], ◌++◌, append-nil, length, take, take_all, ap, ◌∙◌, arith}
use Rattle.std.proofs.lemmas.List.{drop_all, get_or_default}
use Rattle.std.specs.List.{fold}
use Rattle.iso_html.specs.KeyUses.{no_usage, usage_below, usage_of, with_wait_for}
use Rattle.iso_html.specs.declared.usage.Usage.{Usage}
use Rattle.iso_plan.proofs.ColumnLemmas.{column-from, column-read, length-column}
use Rattle.iso_plan.specs.KeyTable.{keys}
use Rattle.iso_plan.specs.RowView.{tree_of}
use Rattle.iso_html.proofs.usage.usages.Goals as goal

pub returns : goal.returns
returns c =
    let tree = tree_of c.args.plan.now in
    let times = c.args.times.now in
    let waits = c.args.waits.now in
    let count = length (keys tree) in
    let taken : ℕ → Usage = λ key. usage_below tree times key (length c.args.plan.now.rows) in
    let items = c.in_ok-usages.usages.items in
    let new = c.add_waits.new.usages in
    let stored : length items ≡ count = ap length c.in_ok-usages.ensures ∙ length-column taken count in
    let was : length c.deref_mut.result.now ≡ count = ap length c.deref_mut.ensures.value ∙ stored in
    let size : length new ≡ count = c.add_waits.auto.usages ∙ was in
    let room : length new ≤ c.in_ok-usages.usages.len = omega (arith, c.in_ok-usages.usages.ok.0) in
    let none : length items ≤ length new = omega arith in
    let back : take c.in_ok-usages.usages.len (new ++ []) ≡ new = ap (take c.in_ok-usages.usages.len) (append-nil new) ∙ take_all c.in_ok-usages.usages.len new room in
    ap (λ (ys : List Usage). take c.in_ok-usages.usages.len (new ++ ys)) (drop_all (length new) items none)
    ∙ back
    ∙ column-from (usage_of tree times waits) new count size
    (λ m d h.
    let within : m < length new = omega arith in
    let before : m < length c.deref_mut.result.now = omega arith in
    get_or_default new m d no_usage within ∙ c.add_waits.ensures m before
    ∙ ap (λ (u : Usage). fold (with_wait_for m) u waits) (column-read taken c.deref_mut.result.now count m no_usage (c.deref_mut.ensures.value ∙ c.in_ok-usages.ensures) h))
