use Rattle.std.proofs.Common.{◌<◌, ◌∙◌, List, None, Option, ap, arith, get_or, length, refl, sym}
use Rattle.std.proofs.lemmas.List.{get_or_read_under}
use Rattle.iso_desk.specs.declared.ends.Ends.{Ends}
use Rattle.iso_desk.proofs.LineEndsLemmas.{ends_of, lines_in, no_ends_of}
use Rattle.iso_desk.proofs.line_ends.LineEnds.get.Goals as goal
use Rattle.iso_desk.proofs.line_ends.LineEnds.get.Goals.{After-self}

low : (c : After-self) → c.args.line < length c.self.inside.first.items
low c =
    let size = lines_in c.self.inside.filled c.self.inside.first.items c.self.inside.last.items in
    let same = ap length c.self.view_is in
    omega (arith, c.requires)

pub has-requires : goal.has-requires
has-requires c =
    let below = low c in
    let marks = c.self.invariant.marks in
    omega arith

pub index-requires : goal.index-requires
index-requires c =
    let below = low (goal.at.index-requires c).After-self in
    omega arith

pub index-requires-2 : goal.index-requires-2
index-requires-2 c =
    let below = low (goal.at.index-requires-2 c).After-self in
    let lines = c.self.invariant.lines in
    omega arith

pub returns-then-not-has : goal.returns-then-not-has
returns-then-not-has c =
    no_ends_of c.self.inside.filled c.self.inside.first.items c.self.inside.last.items c.args.line (low (goal.at.returns-then-not-has c).After-self) (sym c.has.ensures ∙ c.if-not-has.true)
    ∙ ap (λ (es : List (Option Ends)). get_or es c.args.line None) c.self.view_is

pub returns : goal.returns
returns c =
    let below = low (goal.at.returns c).After-self in
    let lines = c.self.invariant.lines in
    let other : c.args.line < length c.self.inside.last.items = omega arith in
    ends_of c.self.inside.filled c.self.inside.first.items c.self.inside.last.items c.args.line c.index.result.now c.index-2.result.now below (sym c.has.ensures ∙ c.if-not-has.false)
    (get_or_read_under c.self.inside.first.items c.args.line (length c.self.inside.first.items) c.index.result.now 0 c.index.ensures below refl)
    (get_or_read_under c.self.inside.last.items c.args.line (length c.self.inside.last.items) c.index-2.result.now 0 c.index-2.ensures other refl)
    ∙ ap (λ (es : List (Option Ends)). get_or es c.args.line None) c.self.view_is
