use Rattle.std.proofs.Common.{◌≡◌, length, true, ap, sym, ◌∙◌, subst}
use Rattle.iso_model.specs.Openings.{statics_of}
use Rattle.iso_model.specs.Rights.{Rights}
use Rattle.iso_model.specs.ScriptView.{class_head_of}
use Rattle.iso_model.specs.SyntaxView.{block_of}
use Rattle.iso_model.specs.Disabled.{acts_unless}
use Rattle.iso_model.specs.declared.heads.ClassContents.{ClassContents}
use Rattle.iso_lifecycle.specs.OriginViews.{subject_of_origin}
use Rattle.iso_lifecycle.specs.Subjects.{begun, classes_of, enclosing, is_kind_of, opened_before}
use Rattle.iso_lifecycle.specs.declared.kind.BodyKind.{BodyKind}
use Rattle.iso_lifecycle.proofs.Beginnings.{closing-begins}
use Rattle.iso_lifecycle.proofs.Comings.{closes-class, node_kind}
use Rattle.iso_lifecycle.proofs.origin.Origin.closing.Goals as goal

pub class-depth-requires : goal.class-depth-requires
class-depth-requires c =
    let o = c.args.self.now in
    closes-class (node_kind (subject_of_origin o)) (subst (λ (k : BodyKind). is_kind_of k (node_kind (subject_of_origin o)) ≡ true) c.requires.kind o.fits)

pub with_frame-requires-clause-rights : goal.with_frame-requires-clause-rights
with_frame-requires-clause-rights c = λ k. ap (λ (r : Rights). r k) (c.in_ok-run.ensures.rights ∙ c.rights.ensures)

pub with_frame-requires-clause-begun : goal.with_frame-requires-clause-begun
with_frame-requires-clause-begun c =
    let s = subject_of_origin c.args.self.now in
    let chain = c.class-depth.ensures.class in
    let count = c.class-depth.ensures.depth ∙ ap length chain in
    let block = c.closing_statements-block.ensures ∙ ap (λ (d : ClassContents). acts_unless d.disabled (block_of d.after_all.items)) c.deref.ensures in
    let names = c.in_ok-names.ensures ∙ ap (λ (k : BodyKind). statics_of (opened_before k s).frames) c.requires.kind in
    c.in_ok-run.ensures.stage
    ∙ closing-begins s (class_head_of c.class-depth.result.0.now) (classes_of (enclosing s)) c.class-depth.result.1 (block_of c.closing_statements-block.result.now) c.in_ok-names.names chain
    count block names
    ∙ ap (λ (k : BodyKind). (begun k s).stage) (sym c.requires.kind)
