use Rattle.std.proofs.Common.{◌++◌, Ok, List, ℕ, codes, ap}
use Rattle.iso_conflicts.specs.Chains.{longest}
use Rattle.iso_conflicts.specs.ConflictsText.{counted, shared_text}
use Rattle.iso_conflicts.specs.declared.longest.Chain.{Chain}
use Rattle.iso_plan.specs.RowView.{tree_of}
use Rattle.iso_tap.proofs.PrinterLemmas.{prints_as, prints_cut, prints_stopped, prints_then}
use Rattle.iso_conflicts.proofs.conflicts.last_line.Goals as goal

pub returns-in_err-bytes : goal.returns-in_err-bytes
returns-in_err-bytes g c =
    let plan = c.args.plan.now in
    let tree = tree_of plan in
    let chain = longest tree plan.settings in
    prints_stopped (codes "\n") _ c.from_residual.ensures.0
    (prints_cut (shared_text tree chain.shared) _ _ (prints_cut (codes ", ") _ _ (prints_cut (counted chain.tests) _ _ c.in_err-bytes.ensures)))

pub returns-in_err-counted : goal.returns-in_err-counted
returns-in_err-counted g c =
    let plan = c.args.plan.now in
    let tree = tree_of plan in
    let chain = longest tree plan.settings in
    let count = prints_as c.in_err-counted.ensures (counted chain.tests) (ap (λ (x : Chain). counted x.tests) c.longest-chain.ensures.longest) in
    prints_stopped (codes "\n") _ c.from_residual-in_err-counted.ensures.0
    (prints_cut (shared_text tree chain.shared) _ _ (prints_cut (codes ", ") _ _ (prints_then _ c.in_ok-bytes.ensures count)))

pub returns-in_err-bytes-2 : goal.returns-in_err-bytes-2
returns-in_err-bytes-2 g c =
    let plan = c.args.plan.now in
    let tree = tree_of plan in
    let chain = longest tree plan.settings in
    let count = prints_as c.in_ok-counted.ensures (counted chain.tests) (ap (λ (x : Chain). counted x.tests) c.longest-chain.ensures.longest) in
    prints_stopped (codes "\n") _ c.from_residual-in_err-bytes-2.ensures.0
    (prints_cut (shared_text tree chain.shared) _ _ (prints_then _ (prints_then (Ok tt) c.in_ok-bytes.ensures count) c.in_err-bytes-2.ensures))

pub returns-in_err-shared : goal.returns-in_err-shared
returns-in_err-shared g c =
    let plan = c.args.plan.now in
    let tree = tree_of plan in
    let chain = longest tree plan.settings in
    let count = prints_as c.in_ok-counted.ensures (counted chain.tests) (ap (λ (x : Chain). counted x.tests) c.longest-chain.ensures.longest) in
    let told = prints_as c.in_err-shared.ensures (shared_text tree chain.shared) (ap (λ (x : Chain). shared_text tree x.shared) c.longest-chain.ensures.longest) in
    prints_stopped (codes "\n") _ c.from_residual-in_err-shared.ensures.0
    (prints_then _ (prints_then (Ok tt) (prints_then (Ok tt) c.in_ok-bytes.ensures count) c.in_ok-bytes-2.ensures) told)

pub returns : goal.returns
returns g c =
    let plan = c.args.plan.now in
    let tree = tree_of plan in
    let chain = longest tree plan.settings in
    let count = prints_as c.in_ok-counted.ensures (counted chain.tests) (ap (λ (x : Chain). counted x.tests) c.longest-chain.ensures.longest) in
    let told = prints_as c.in_ok-shared.ensures (shared_text tree chain.shared) (ap (λ (x : Chain). shared_text tree x.shared) c.longest-chain.ensures.longest) in
    prints_then _ (prints_then (Ok tt) (prints_then (Ok tt) (prints_then (Ok tt) c.in_ok-bytes.ensures count) c.in_ok-bytes-2.ensures) told) c.bytes-3.ensures
