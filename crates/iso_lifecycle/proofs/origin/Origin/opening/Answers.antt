use Rattle.std.proofs.Common.{◌≡◌, ◌++◌, length, true, ap, sym, ◌∙◌, subst}
use Rattle.iso_model.specs.Names.{at_literals}
use Rattle.iso_model.specs.Openings.{statics_of}
use Rattle.iso_model.specs.Rights.{Rights}
use Rattle.iso_model.specs.ScriptView.{class_head_of}
use Rattle.iso_model.specs.SyntaxView.{block_of}
use Rattle.iso_model.specs.declared.heads.ClassContents.{ClassContents}
use Rattle.iso_model.specs.declared.names.Sort.TheVariants.{Static}
use Rattle.iso_lifecycle.specs.OriginViews.{subject_of_origin}
use Rattle.iso_lifecycle.specs.Origins.{outer_names}
use Rattle.iso_lifecycle.specs.Subjects.{begun, classes_of, enclosing, is_kind_of, opened_before}
use Rattle.iso_lifecycle.specs.declared.kind.BodyKind.{BodyKind}
use Rattle.iso_lifecycle.proofs.Beginnings.{opening-begins}
use Rattle.iso_lifecycle.proofs.Comings.{node_kind}
use Rattle.iso_lifecycle.proofs.origin.Origin.opening.Goals as goal

pub class-depth-requires : goal.class-depth-requires
class-depth-requires c =
    let o = c.args.self.now in
    subst (λ (k : BodyKind). is_kind_of k (node_kind (subject_of_origin o)) ≡ true) c.requires.kind o.fits

pub with_frame-requires-clause-rights : goal.with_frame-requires-clause-rights
with_frame-requires-clause-rights c = λ k. ap (λ (r : Rights). r k) (c.in_ok-run.ensures.rights ∙ c.rights.ensures)

pub with_frame-requires-clause-outer : goal.with_frame-requires-clause-outer
with_frame-requires-clause-outer c =
    let s = subject_of_origin c.args.self.now in
    let count : c.len-outer.result ≡ length c.in_ok-names.names = c.len-outer.ensures in
    count ∙ ap length c.in_ok-names.ensures ∙ ap (λ (k : BodyKind). length (statics_of (opened_before k s).frames)) c.requires.kind ∙ ap (λ (k : BodyKind). outer_names k s) (sym c.requires.kind)

pub with_frame-requires-clause-begun : goal.with_frame-requires-clause-begun
with_frame-requires-clause-begun c =
    let s = subject_of_origin c.args.self.now in
    let chain = c.class-depth.ensures.class in
    let count = c.class-depth.ensures.depth ∙ ap length chain in
    let contents = c.deref-contents.ensures in
    let fields = ap (at_literals Static) (c.deref.ensures.value ∙ ap (λ (d : ClassContents). d.statics.items) contents) in
    let before = c.in_ok-names.ensures ∙ ap (λ (k : BodyKind). statics_of (opened_before k s).frames) c.requires.kind in
    let names = c.in_ok-add_variables.ensures ∙ (λ i. before i ++ fields i) in
    c.in_ok-run.ensures.stage
    ∙ opening-begins s (class_head_of c.class-depth.result.0.now) (classes_of (enclosing s)) c.class-depth.result.1 c.deref-contents.result.now.disabled
    (block_of c.deref-contents.result.now.before_all.items) c.add_variables.new.names chain count
    (ap (λ (d : ClassContents). d.disabled) contents) (ap (λ (d : ClassContents). block_of d.before_all.items) contents) names
    ∙ ap (λ (k : BodyKind). (begun k s).stage) (sym c.requires.kind)
