use Rattle.std.proofs.Common.{◌≡◌, ◌<◌, ◌≤◌, count_by, length, take, arith}
use Rattle.std.proofs.lemmas.List.{length-take}
use Rattle.std.proofs.lemmas.List.Sums.{count_by-le-length}
use Rattle.iso_affected.specs.Counting.{is_test_at}
use Rattle.iso_plan.specs.RowView.{tree_of}
use Rattle.iso_affected.proofs.counts.tests_among.Goals as goal

pub returns-clause-few : goal.returns-clause-few
returns-clause-few c =
    let tree = tree_of c.args.plan.now in
    let seen = take c.nodes.node-index c.args.nodes.now in
    let small : count_by (is_test_at tree) seen ≤ length seen = count_by-le-length (is_test_at tree) seen in
    let before : c.nodes.tests ≡ count_by (is_test_at tree) seen = c.nodes.invariant in
    let all : length tree < 4294967296 = omega (arith, c.len-count.ensures) in
    let few : length c.args.nodes.now ≤ length tree = c.requires.few in
    omega (arith, length-take c.nodes.node-index c.args.nodes.now)
