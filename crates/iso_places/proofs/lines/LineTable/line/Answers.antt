use Rattle.std.proofs.Common.{◌<◌, ◌≤◌, ℕ, ◌-◌, List, drop, length, sym, take, ap, ap₂, ◌∙◌, arith}
use Rattle.std.proofs.lemmas.List.{take_rest}
use Rattle.std.specs.Str.Lines.{strip_carriage_return}
use Rattle.iso_places.specs.SourceLines.{source_line}
use Rattle.iso_places.proofs.StartLemmas.{found-line, place-read}
use Rattle.iso_places.proofs.lines.LineTable.line.Goals as goal
use Rattle.iso_places.proofs.lines.LineTable.line.Goals.{then-number-eq0-via-then-number-eq0, then-number-eq0-via-else-number-eq0+then-number-len}

pub overflow_sub-next : goal.overflow_sub-next
overflow_sub-next c =
    let text = c.args.bytes.now in
    let starts = c.deref.result.now in
    let are = c.deref.ensures.value ∙ c.self.view_is ∙ c.requires in
    let number = c.args.number in
    let within : number < length starts = c.in-Some.ensures.lookup.3.0 in
    let next = place-read text starts number c.in-Some.next.now are within c.in-Some.ensures.lookup.1 in
    let size = ap (λ (ss : List ℕ). length ss) are in
    let less = (found-line text number c.if-number-eq0.false).less (omega arith) in
    omega arith

pub part-requires-clause-order : goal.part-requires-clause-order
part-requires-clause-order c =
    let text = c.args.bytes.now in
    let starts = c.deref.result.now in
    let are = c.deref.ensures.value ∙ c.self.view_is ∙ c.requires in
    let number = c.args.number in
    let within : number < length starts = c.in-Some.ensures.lookup.3.0 in
    let next = place-read text starts number c.in-Some.next.now are within c.in-Some.ensures.lookup.1 in
    let held = c.self.view_is ∙ c.requires in
    let size = ap (λ (ss : List ℕ). length ss) are in
    let full = ap (λ (ss : List ℕ). length ss) held in
    let some = c.if-number-eq0.false in
    let start = place-read text c.self.inside.starts.items (number - 1) c.index.result.now held (omega arith) c.index.ensures in
    let less = (found-line text number some).less (omega arith) in
    omega arith

pub part-requires-clause-fits : goal.part-requires-clause-fits
part-requires-clause-fits c =
    let text = c.args.bytes.now in
    let starts = c.deref.result.now in
    let are = c.deref.ensures.value ∙ c.self.view_is ∙ c.requires in
    let number = c.args.number in
    let within : number < length starts = c.in-Some.ensures.lookup.3.0 in
    let next = place-read text starts number c.in-Some.next.now are within c.in-Some.ensures.lookup.1 in
    let size = ap (λ (ss : List ℕ). length ss) are in
    let fits = (found-line text number c.if-number-eq0.false).next (omega arith) in
    omega arith

pub part-requires-in-None-clause-order : goal.part-requires-in-None-clause-order
part-requires-in-None-clause-order c =
    let text = c.args.bytes.now in
    let number = c.args.number in
    let held = c.self.view_is ∙ c.requires in
    let full = ap (λ (ss : List ℕ). length ss) held in
    let some = c.if-number-eq0.false in
    let count = c.len.ensures in
    let ok = c.self.inside.starts.ok.0 in
    let most = c.if-number-len.false in
    let start = place-read text c.self.inside.starts.items (number - 1) c.index.result.now held (omega arith) c.index.ensures in
    let fits = (found-line text number some).fits (omega arith) in
    omega arith

pub returns-in-Some : goal.returns-in-Some
returns-in-Some c =
    let text = c.args.bytes.now in
    let starts = c.deref.result.now in
    let are = c.deref.ensures.value ∙ c.self.view_is ∙ c.requires in
    let number = c.args.number in
    let within : number < length starts = c.in-Some.ensures.lookup.3.0 in
    let next = place-read text starts number c.in-Some.next.now are within c.in-Some.ensures.lookup.1 in
    let held = c.self.view_is ∙ c.requires in
    let size = ap (λ (ss : List ℕ). length ss) are in
    let full = ap (λ (ss : List ℕ). length ss) held in
    let some = c.if-number-eq0.false in
    let start = place-read text c.self.inside.starts.items (number - 1) c.index.result.now held (omega arith) c.index.ensures in
    let ended = (found-line text number some).ended (omega arith) in
    c.without_return.ensures ∙ ap strip_carriage_return (c.part.ensures ∙ ap₂ (λ (to from : ℕ). take (to - 1 - from) (drop from text)) next start) ∙ ended

pub returns-in-None : goal.returns-in-None
returns-in-None c =
    let text = c.args.bytes.now in
    let number = c.args.number in
    let held = c.self.view_is ∙ c.requires in
    let full = ap (λ (ss : List ℕ). length ss) held in
    let some = c.if-number-eq0.false in
    let count = c.len.ensures in
    let ok = c.self.inside.starts.ok.0 in
    let most = c.if-number-len.false in
    let start = place-read text c.self.inside.starts.items (number - 1) c.index.result.now held (omega arith) c.index.ensures in
    let read = ap (λ (ss : List ℕ). length ss) (c.deref.ensures.value ∙ held) in
    let beyond : length c.deref.result.now ≤ number = c.in-None.ensures.lookup.3 in
    let last = (found-line text number some).last (omega arith) in
    c.part-in-None.ensures ∙ take_rest text c.index.result.now ∙ ap (λ (n : ℕ). drop n text) start ∙ last

pub returns-then-number-eq0 : goal.returns-then-number-eq0
returns-then-number-eq0 c =
    elim c.then-number-eq0.branch [
      | then-number-eq0-via-then-number-eq0 w ↦ ap (source_line c.args.bytes.now) (sym w.if-number-eq0.true)
      | then-number-eq0-via-else-number-eq0+then-number-len w ↦
          let full = ap (λ (ss : List ℕ). length ss) (c.self.view_is ∙ c.requires) in
          let count = w.len.ensures in
          let ok = c.self.inside.starts.ok.0 in
          let beyond = w.if-number-len.true in
          (found-line c.args.bytes.now c.args.number w.if-number-eq0.false).past (omega arith)
    ]
