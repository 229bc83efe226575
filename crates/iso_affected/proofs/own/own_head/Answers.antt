use Rattle.std.proofs.Common.{◌≡◌, ◌<◌, suc, ◌∷◌, ◌++◌, List, None, option_map, length, map, sym, ap, ◌∙◌, arith}
use Rattle.std.proofs.lemmas.List.{length-map, length-reverse}
use Rattle.std.specs.Arc.{arc_value}
use Rattle.std.specs.declared.alloc.Global.{Global}
use Rattle.std.specs.declared.sync.Arc.{Arc}
use Rattle.iso_affected.proofs.HeadLemmas.{IsClassHead, class-head}
use Rattle.iso_model.specs.ChainView.{innermost_first}
use Rattle.iso_model.specs.Chains.{ClassHead}
use Rattle.iso_model.specs.ScriptView.{class_head_of, test_head_of}
use Rattle.iso_model.specs.declared.heads.ClassHead as D
use Rattle.iso_plan.proofs.PathLemmas.{chain-step}
use Rattle.iso_plan.specs.NodeChains.{chain_classes, own_test}
use Rattle.iso_plan.specs.Paths.{parent, row_at}
use Rattle.iso_plan.specs.RowView.{tree_of}
use Rattle.iso_plan.specs.Tree.{Kind}
use Rattle.iso_affected.proofs.own.own_head.Goals as goal

some : (xs : List (Arc D.ClassHead Global)) (c : ClassHead) (cs : List ClassHead) → innermost_first xs ≡ c ∷ cs → 0 < length xs
some xs c cs e =
    let f = λ (a : Arc D.ClassHead Global). class_head_of (arc_value a) in
    let count : length xs ≡ suc (length cs) = sym (length-reverse (map f xs) ∙ length-map xs f) ∙ ap length e in
    omega arith

pub innermost-requires : goal.innermost-requires
innermost-requires c =
    let one = tree_of c.args.plan.now in
    let m = c.args.node in
    let k : Kind = (row_at one m).kind in
    let no_test : own_test k ≡ None = sym c.chain-chain.ensures.test ∙ ap (option_map (λ t. test_head_of t.now)) c.in-None.is in
    let h : IsClassHead k = class-head k no_test (c.nodes_are_a_tree.ensures.full m c.requires.above c.requires.within) in
    let cs = chain_classes one (parent one m) in
    let first : innermost_first c.chain-chain.result.classes.now ≡ h.class ∷ cs =
    c.chain-chain.ensures.classes ∙ chain-step one c.nodes_are_a_tree.ensures.below m c.requires.above ∙ ap (λ (es : List ClassHead). es ++ cs) h.heads in
    some c.chain-chain.result.classes.now h.class cs first

pub returns-in-None : goal.returns-in-None
returns-in-None c =
    let one = tree_of c.args.plan.now in
    let m = c.args.node in
    let k : Kind = (row_at one m).kind in
    let no_test : own_test k ≡ None = sym c.chain-chain.ensures.test ∙ ap (option_map (λ t. test_head_of t.now)) c.in-None.is in
    let h : IsClassHead k = class-head k no_test (c.nodes_are_a_tree.ensures.full m c.requires.above c.requires.within) in
    let cs = chain_classes one (parent one m) in
    let first : innermost_first c.chain-chain.result.classes.now ≡ h.class ∷ cs =
    c.chain-chain.ensures.classes ∙ chain-step one c.nodes_are_a_tree.ensures.below m c.requires.above ∙ ap (λ (es : List ClassHead). es ++ cs) h.heads in
    c.innermost.ensures h.class cs first ∙ sym h.head
