use Rattle.std.proofs.Common.{◌≡◌, ◌<◌, length, ap, arith}
use Rattle.std.proofs.lemmas.List.{length-map}
use Rattle.std.specs.Arc.{arc_value}
use Rattle.iso_model.specs.Chains.{ClassHead}
use Rattle.iso_model.specs.ScriptView.{class_head_of}
use Rattle.iso_lifecycle.specs.Heads.{heads_in}
use Rattle.iso_lifecycle.specs.JobPlaces.{head_at}
use Rattle.iso_lifecycle.proofs.JobLemmas.{names-more}
use Rattle.iso_lifecycle.proofs.blocks.names_of.Goals as goal

pub loop-depth-preserved : goal.loop-depth-preserved
loop-depth-preserved c =
    let os = heads_in c.args.classes.now in
    let d = c.loop-depth.depth in
    let count : length os ≡ length c.args.classes.now = length-map c.args.classes.now (λ h. class_head_of (arc_value h)) in
    let less : d < length os = omega arith in
    let statics : length (class_head_of c.head.result.now).statics ≡ length (head_at os d).statics = ap (λ (h : ClassHead). length h.statics) c.head.ensures in
    let fields : length (class_head_of c.head.result.now).fields ≡ length (head_at os d).fields = ap (λ (h : ClassHead). length h.fields) c.head.ensures in
    let more = names-more os d less in
    omega (arith, c.more-count.ensures, c.loop-depth.invariant)
