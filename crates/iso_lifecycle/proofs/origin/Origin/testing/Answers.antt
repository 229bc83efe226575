use Rattle.std.proofs.Common.{◌≡◌, Some, length, map, true, ap, ap₂, sym, ◌∙◌, subst, arith}
use Rattle.std.proofs.lemmas.List.{length-map, length-reverse}
use Rattle.std.specs.Arc.{arc_value}
use Rattle.std.specs.Option.{option_map}
use Rattle.iso_model.specs.ChainView.{innermost_first}
use Rattle.iso_model.specs.Rights.{Rights}
use Rattle.iso_model.specs.ScriptView.{class_head_of, test_head_of}
use Rattle.iso_model.specs.Tests.{test_names}
use Rattle.iso_plan.specs.NodeChains.{chain_test}
use Rattle.iso_plan.specs.RowView.{tree_of}
use Rattle.iso_lifecycle.specs.Heads.{heads_in}
use Rattle.iso_lifecycle.specs.OriginViews.{subject_of_origin}
use Rattle.iso_lifecycle.specs.Subjects.{begun, classes_of, framed, is_kind_of, opened_before, subject}
use Rattle.iso_lifecycle.specs.declared.kind.BodyKind.{BodyKind}
use Rattle.iso_lifecycle.specs.declared.kind.BodyKind.TheVariants.{Test}
use Rattle.iso_lifecycle.proofs.Beginnings.{testing-begins}
use Rattle.iso_lifecycle.proofs.Comings.{node_kind}
use Rattle.iso_lifecycle.proofs.Framing.{Leads, chain-short, names-before}
use Rattle.iso_lifecycle.proofs.origin.Origin.testing.Goals as goal

pub of_test-requires : goal.of_test-requires
of_test-requires c =
    let o = c.args.self.now in
    let s = subject_of_origin o in
    let all : length c.chain-chain.result.classes.now ≡ length (classes_of s) =
    sym (length-map c.chain-chain.result.classes.now (λ h. class_head_of (arc_value h))) ∙ sym (length-reverse (heads_in c.chain-chain.result.classes.now)) ∙ ap length c.chain-chain.ensures.classes in
    let short = chain-short (tree_of s.plan) s.node in
    omega (arith, all, short, o.small)

pub with_frame-requires-clause-rights : goal.with_frame-requires-clause-rights
with_frame-requires-clause-rights c = λ k. ap (λ (r : Rights). r k) (c.in_ok-run.ensures.rights ∙ c.rights.ensures)

pub with_frame-requires-clause-begun : goal.with_frame-requires-clause-begun
with_frame-requires-clause-begun c =
    let s = subject_of_origin c.args.self.now in
    let cs = innermost_first c.chain-chain.result.classes.now in
    let left = c.frames_are_left_before.ensures.left ∙ ap (λ (k : BodyKind). (opened_before k s).frames) c.requires.kind in
    let own : chain_test (tree_of s.plan) s.node ≡ Some (test_head_of c.in-Some.test.now) = sym c.chain-chain.ensures.test ∙ ap (λ x. option_map (λ t. test_head_of t.now) x) c.in-Some.is in
    let o = c.args.self.now in
    let fits : is_kind_of Test (node_kind s) ≡ true = subst (λ (k : BodyKind). is_kind_of k (node_kind s) ≡ true) c.requires.kind o.fits in
    let are = c.requires.frames ∙ ap (λ (k : BodyKind). map (subject s.plan s.start) (framed k s)) c.requires.kind in
    let leads : Leads (tree_of s.plan) = record { root = c.paths_lead_up.ensures.root; step = c.paths_lead_up.ensures.step; grows = c.chains_grow_down.ensures } in
    let seen = names-before s c.args.frames.now leads o.inner fits are c.frames_are_left_before.ensures.classes in
    let names = c.in_ok-names.ensures ∙ seen ∙ ap₂ test_names (sym c.chain-chain.ensures.classes) left in
    c.in_ok-run.ensures.stage
    ∙ testing-begins s (test_head_of c.in-Some.test.now) cs c.in_ok-names.names own c.chain-chain.ensures.classes names
    ∙ ap (λ (k : BodyKind). (begun k s).stage) (sym c.requires.kind)
