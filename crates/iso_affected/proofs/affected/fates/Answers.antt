use Rattle.std.proofs.Common.{◌≡◌, ◌++◌, ◌∷◌, [], List, length, ap, ◌∙◌}
use Rattle.iso_affected.proofs.FateLemmas.{first-fate, root-fate}
use Rattle.iso_affected.specs.Fates.{suites}
use Rattle.iso_affected.specs.declared.affected.Fate.{Fate}
use Rattle.iso_affected.specs.declared.affected.Fate.TheVariants.{Same}
use Rattle.iso_affected.proofs.affected.fates.Goals as goal

pub nodes-init : goal.nodes-init
nodes-init c =
    let s = suites c.args.old.now c.args.before.now c.args.new.now c.args.after.now in
    let all : c.push.new.self.items ≡ Same 0 ∷ [] = c.in_ok-push.ensures.items ∙ ap (λ (fs : List Fate). fs ++ Same 0 ∷ []) c.in_ok-fates.ensures.items in
    (ap length all, λ n h. first-fate s c.push.new.self.items all (root-fate s c.nodes_are_a_tree.ensures c.nodes_are_a_tree-2.ensures) n h, c.new-starts.ensures)
