use Rattle.std.proofs.Common.{◌≡◌, true, length, drop, ap, ◌∙◌, subst, arith}
use Rattle.std.proofs.lemmas.Result.{IfOk-weaker}
use Rattle.iso_model.specs.Bodies.{Account}
use Rattle.iso_model.specs.Names.{frozen}
use Rattle.iso_lifecycle.specs.OriginViews.{subject_of_origin}
use Rattle.iso_lifecycle.specs.Origins.{HasCome, outer_names}
use Rattle.iso_lifecycle.specs.BodyRuns.{stage_of}
use Rattle.iso_lifecycle.specs.Subjects.{IsOfClass}
use Rattle.iso_lifecycle.specs.declared.kind.BodyKind.{BodyKind}
use Rattle.iso_lifecycle.specs.declared.kind.BodyKind.TheVariants.{BeforeAll}
use Rattle.iso_lifecycle.proofs.Comings.{Grows, names-outer, node_kind, statics-are}
use Rattle.iso_lifecycle.proofs.RunLemmas.{come-account}
use Rattle.iso_lifecycle.specs.Subjects.{is_kind_of}
use Rattle.iso_lifecycle.proofs.origin.Origin.statics.Goals as goal

pub frozen_past-requires : goal.frozen_past-requires
frozen_past-requires c =
    let o = c.args.self.now in
    let s = subject_of_origin o in
    let run = c.args.run.now in
    let grows : Grows s = c.chains_grow_down.ensures o.node o.inner in
    let fits : IsOfClass s = subst (λ (k : BodyKind). is_kind_of k (node_kind s) ≡ true) c.requires.kind o.fits in
    let come = come-account BeforeAll s run c.requires.ended (subst (λ (k : BodyKind). HasCome k s (stage_of run)) c.requires.kind c.requires.come) in
    let outer = c.requires.outer ∙ ap (λ (k : BodyKind). outer_names k s) c.requires.kind in
    let names = ap length (c.names.ensures ∙ ap (λ (a : Account). a.names) come) in
    let less = names-outer s grows fits in
    omega (arith, outer, names, less)

pub returns : goal.returns
returns c =
    let o = c.args.self.now in
    let s = subject_of_origin o in
    let run = c.args.run.now in
    let grows : Grows s = c.chains_grow_down.ensures o.node o.inner in
    let fits : IsOfClass s = subst (λ (k : BodyKind). is_kind_of k (node_kind s) ≡ true) c.requires.kind o.fits in
    let come = come-account BeforeAll s run c.requires.ended (subst (λ (k : BodyKind). HasCome k s (stage_of run)) c.requires.kind c.requires.come) in
    let outer = c.requires.outer ∙ ap (λ (k : BodyKind). outer_names k s) c.requires.kind in
    let names = c.names.ensures ∙ ap (λ (a : Account). a.names) come in
    let statics = (λ i. frozen (drop (outer i) (names i))) ∙ statics-are s grows fits o.enclosed in
    IfOk-weaker c.new.result _ _ (λ x is. record { class = fits; enclosed = o.enclosed; statics = is ∙ c.in_ok-frozen_past.ensures ∙ statics }) c.new.ensures
