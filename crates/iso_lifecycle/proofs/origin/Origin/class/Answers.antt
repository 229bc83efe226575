use Rattle.std.proofs.Common.{◌≡◌, ◌<◌, ◌-◌, suc, ◌∷◌, length, drop, ap, sym, ◌∙◌, arith}
use Rattle.iso_plan.specs.RowView.{tree_of}
use Rattle.iso_lifecycle.specs.Heads.{heads_in}
use Rattle.iso_lifecycle.specs.JobPlaces.{head_at, outside}
use Rattle.iso_lifecycle.specs.OriginViews.{subject_of_origin}
use Rattle.iso_lifecycle.specs.Subjects.{classes_of, enclosing}
use Rattle.iso_lifecycle.proofs.Beginnings.{chain-length, heads-length, last-class, last-within, some-class}
use Rattle.iso_lifecycle.proofs.Comings.{in-class}
use Rattle.iso_lifecycle.proofs.Framing.{chain-short}
use Rattle.iso_lifecycle.proofs.origin.Origin.class.Goals as goal

pub overflow_sub-classes : goal.overflow_sub-classes
overflow_sub-classes c =
    let o = c.args.self.now in
    let s = subject_of_origin o in
    let w = in-class s (c.chains_grow_down.ensures o.node o.inner) c.requires in
    some-class _ (length (classes_of (enclosing s))) (chain-length s c.chain.result.classes.now c.chain.ensures.classes ∙ ap length w.chain)

pub head-requires : goal.head-requires
head-requires c =
    let o = c.args.self.now in
    let s = subject_of_origin o in
    let w = in-class s (c.chains_grow_down.ensures o.node o.inner) c.requires in
    last-within _ (length (classes_of (enclosing s))) (chain-length s c.chain.result.classes.now c.chain.ensures.classes ∙ ap length w.chain)

pub overflow_cast-result : goal.overflow_cast-result
overflow_cast-result c =
    let o = c.args.self.now in
    let s = subject_of_origin o in
    let all = chain-length s c.chain.result.classes.now c.chain.ensures.classes in
    let short = chain-short (tree_of s.plan) s.node in
    let less : length c.chain.result.classes.now < 4294967296 = omega (arith, all, short, o.small) in
    search (arith, less)

pub returns-clause-class : goal.returns-clause-class
returns-clause-class c =
    let o = c.args.self.now in
    let s = subject_of_origin o in
    let w = in-class s (c.chains_grow_down.ensures o.node o.inner) c.requires in
    let heads = c.chain.result.classes.now in
    let os = heads_in heads in
    let d = length heads - 1 in
    let all = chain-length s heads c.chain.ensures.classes in
    let some : length (classes_of s) ≡ suc (length (classes_of (enclosing s))) = ap length w.chain in
    let kept = heads-length heads in
    let next : suc d ≡ length os = omega (arith, kept, all, some) in
    let chain : classes_of s ≡ head_at os d ∷ outside os d = sym c.chain.ensures.classes ∙ last-class os d next in
    let tail : outside os d ≡ classes_of (enclosing s) = ap (drop 1) (sym chain ∙ w.chain) in
    chain ∙ (λ i. sym c.head.ensures i ∷ tail i)

pub returns-clause-depth : goal.returns-clause-depth
returns-clause-depth c = chain-length (subject_of_origin c.args.self.now) c.chain.result.classes.now c.chain.ensures.classes
