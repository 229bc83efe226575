use Rattle.std.proofs.Common.{◌<◌, ◌∙◌, ◌==◌, Bool, List, None, Option, Some, ap, arith, cond, is_some, length, set, sym}
use Rattle.iso_desk.specs.Marking.{has}
use Rattle.iso_desk.specs.declared.ends.Ends.{Ends}
use Rattle.iso_desk.proofs.LineEndsLemmas.{ends_cleared, ends_set, lines_in}
use Rattle.iso_desk.proofs.line_ends.LineEnds.set.Goals as goal
use Rattle.iso_desk.proofs.line_ends.LineEnds.set.Goals.{After-self}

low : (c : After-self) → c.args.line < length c.self.inside.first.items
low c =
    let size = lines_in c.self.inside.filled c.self.inside.first.items c.self.inside.last.items in
    let same = ap length c.self.view_is in
    omega (arith, c.requires)

pub set-requires : goal.set-requires
set-requires c =
    let below = low (goal.at.set-requires c).After-self in
    let marks = c.self.invariant.marks in
    omega arith

pub index_mut-requires : goal.index_mut-requires
index_mut-requires c =
    let below = low (goal.at.index_mut-requires c).After-self in
    omega arith

pub index_mut-requires-in-Some : goal.index_mut-requires-in-Some
index_mut-requires-in-Some c =
    let below = low (goal.at.index_mut-requires-in-Some c).After-self in
    let lines = c.self.invariant.lines in
    omega arith

pub returns-in-Some : goal.returns-in-Some
returns-in-Some c =
    ends_set c.self.inside.filled c.set.new.self c.self.inside.first.items c.self.inside.last.items c.args.line c.in-Some.ends (low (goal.at.returns-in-Some c).After-self)
    c.self.invariant.lines (λ k. c.set.ensures.set k ∙ ap (λ (b : Bool). cond (k == c.args.line) b (has c.self.inside.filled k)) (c.is_some.ensures ∙ ap is_some c.in-Some.is))
    ∙ ap (λ (es : List (Option Ends)). set es c.args.line (Some c.in-Some.ends)) c.self.view_is
    ∙ ap (set c.args.self.now c.args.line) (sym c.in-Some.is)

pub returns-in_default : goal.returns-in_default
returns-in_default c =
    ends_cleared c.self.inside.filled c.set.new.self c.self.inside.first.items c.self.inside.last.items c.args.line (low (goal.at.returns-in_default c).After-self)
    (λ k. c.set.ensures.set k ∙ ap (λ (b : Bool). cond (k == c.args.line) b (has c.self.inside.filled k)) (c.is_some.ensures ∙ ap is_some c.in_default.is))
    ∙ ap (λ (es : List (Option Ends)). set es c.args.line None) c.self.view_is
    ∙ ap (set c.args.self.now c.args.line) (sym c.in_default.is)
