use Rattle.std.proofs.Common.{◌++◌, refl}
use Rattle.iso_hints.specs.Places.{view_of}
use Rattle.iso_hints.specs.Tables.{annotations, beginnings, calls, control, ends, heads, members, methods, modifiers, operators, parentheses, statements, symbols}
use Rattle.iso_hints.proofs.HintLemmas.{or-next}
use Rattle.iso_hints.proofs.hint.hint_for.Goals as goal

pub returns : goal.returns
returns c =
    let place = view_of c.args.place.now in
    let part_0 = c.beginnings.ensures in
    let part_1 = or-next (beginnings) annotations place place c.beginnings.result c.annotations.result c.or.result part_0 refl c.annotations.ensures c.or.ensures in
    let part_2 = or-next (beginnings ++ annotations) operators place place c.or.result c.operators.result c.or-2.result part_1 refl c.operators.ensures c.or-2.ensures in
    let part_3 = or-next (beginnings ++ annotations ++ operators) methods place place c.or-2.result c.methods.result c.or-3.result part_2 refl c.methods.ensures c.or-3.ensures in
    let part_4 = or-next (beginnings ++ annotations ++ operators ++ methods) symbols place place c.or-3.result c.symbols.result c.or-4.result part_3 refl c.symbols.ensures c.or-4.ensures in
    let part_5 = or-next (beginnings ++ annotations ++ operators ++ methods ++ symbols) parentheses place place c.or-4.result c.parentheses.result c.or-5.result part_4 refl
    c.parentheses.ensures c.or-5.ensures in
    let part_6 = or-next (beginnings ++ annotations ++ operators ++ methods ++ symbols ++ parentheses) ends place place c.or-5.result c.ends.result c.or-6.result part_5 refl c.ends.ensures
    c.or-6.ensures in
    let part_7 = or-next (beginnings ++ annotations ++ operators ++ methods ++ symbols ++ parentheses ++ ends) modifiers place place c.or-6.result c.modifiers.result c.or-7.result part_6 refl
    c.modifiers.ensures c.or-7.ensures in
    let part_8 = or-next (beginnings ++ annotations ++ operators ++ methods ++ symbols ++ parentheses ++ ends ++ modifiers) members place place c.or-7.result c.members.result c.or-8.result
    part_7 refl c.members.ensures c.or-8.ensures in
    let part_9 = or-next (beginnings ++ annotations ++ operators ++ methods ++ symbols ++ parentheses ++ ends ++ modifiers ++ members) heads place place c.or-8.result c.heads.result
    c.or-9.result part_8 refl c.heads.ensures c.or-9.ensures in
    let part_10 = or-next (beginnings ++ annotations ++ operators ++ methods ++ symbols ++ parentheses ++ ends ++ modifiers ++ members ++ heads) control place place c.or-9.result
    c.control.result c.or-10.result part_9 refl c.control.ensures c.or-10.ensures in
    let part_11 = or-next (beginnings ++ annotations ++ operators ++ methods ++ symbols ++ parentheses ++ ends ++ modifiers ++ members ++ heads ++ control) statements place place
    c.or-10.result c.statements.result c.or-11.result part_10 refl c.statements.ensures c.or-11.ensures in
    let part_12 = or-next (beginnings ++ annotations ++ operators ++ methods ++ symbols ++ parentheses ++ ends ++ modifiers ++ members ++ heads ++ control ++ statements) calls place place
    c.or-11.result c.calls.result c.or-12.result part_11 refl c.calls.ensures c.or-12.ensures in
    part_12
