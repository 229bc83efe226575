use Rattle.std.proofs.Common.{◌≡◌, Ok, Bool, List, ℕ, [], ◌++◌, codes, cond, replicate, ap, ◌∙◌, append_assoc}
use Rattle.std.specs.Fmt.{decimal}
use Rattle.iso_lifecycle.specs.ResultViews.{verdict_of_view}
use Rattle.iso_model.specs.declared.outcome.Verdict.{Verdict}
use Rattle.iso_tap.specs.Escapes.{escaped}
use Rattle.iso_tap.specs.ReportLines.{directive, point_line}
use Rattle.iso_tap.proofs.BufferLemmas.{buffers_as, buffers_cut, buffers_stopped, buffers_then}
use Rattle.iso_tap.proofs.buffered.BufferedPrinter.point_line.Goals as goal

-- the line, from the texts that it is made of
in_turn : (indent number : ℕ) (ok : Bool) (title : List ℕ) (verdict : Verdict)
    → (replicate indent 32 ++ cond ok (codes "ok ") (codes "not ok ") ++ decimal number ++ codes " - ") ++ escaped title ++ cond ok (directive verdict) [] ++ codes "\n"
    ≡ point_line indent number ok title verdict
in_turn indent number ok title verdict =
    let spaces : List ℕ = replicate indent 32 in
    let answer : List ℕ = cond ok (codes "ok ") (codes "not ok ") in
    let before : List ℕ = answer ++ decimal number in
    let last : List ℕ = cond ok (directive verdict) [] in
    ap (λ (t : List ℕ). t ++ codes "\n")
    (ap (λ (t : List ℕ). t ++ codes " - " ++ escaped title ++ last) (append_assoc spaces answer (decimal number))
    ∙ ap (λ (t : List ℕ). t ++ escaped title ++ last) (append_assoc spaces before (codes " - "))
    ∙ ap (λ (t : List ℕ). t ++ last) (append_assoc spaces (before ++ codes " - ") (escaped title))
    ∙ append_assoc spaces (before ++ codes " - " ++ escaped title) last)

pub returns-in_err-point_start : goal.returns-in_err-point_start
returns-in_err-point_start g c =
    let verdict = verdict_of_view c.args.verdict in
    let begun = buffers_cut (cond c.args.ok (directive verdict) []) _ _ (buffers_cut (escaped c.args.title.now) _ _ c.in_err-point_start.ensures) in
    buffers_as (buffers_stopped (codes "\n") _ c.from_residual.ensures.0 begun) _ (in_turn c.args.indent c.args.number c.args.ok c.args.title.now verdict)

pub returns-in_err-escaped : goal.returns-in_err-escaped
returns-in_err-escaped g c =
    let verdict = verdict_of_view c.args.verdict in
    let title = buffers_as c.in_err-escaped.ensures (escaped c.args.title.now) (ap escaped c.as_bytes.ensures.value) in
    let begun = buffers_cut (cond c.args.ok (directive verdict) []) _ _ (buffers_then _ c.in_ok-point_start.ensures title) in
    buffers_as (buffers_stopped (codes "\n") _ c.from_residual-in_err-escaped.ensures.0 begun) _ (in_turn c.args.indent c.args.number c.args.ok c.args.title.now verdict)

pub returns-in_err-directive : goal.returns-in_err-directive
returns-in_err-directive g c =
    let title = buffers_as c.in_ok-escaped.ensures (escaped c.args.title.now) (ap escaped c.as_bytes.ensures.value) in
    let begun = buffers_then _ (buffers_then (Ok tt) c.in_ok-point_start.ensures title) c.in_err-directive.ensures in
    buffers_as (buffers_stopped (codes "\n") _ c.from_residual-in_err-directive.ensures.0 begun) _
    (in_turn c.args.indent c.args.number c.args.ok c.args.title.now (verdict_of_view c.args.verdict))

pub returns : goal.returns
returns g c =
    let title = buffers_as c.in_ok-escaped.ensures (escaped c.args.title.now) (ap escaped c.as_bytes.ensures.value) in
    let begun = buffers_then (Ok tt) (buffers_then (Ok tt) c.in_ok-point_start.ensures title) c.in_ok-directive.ensures in
    buffers_as (buffers_then _ begun c.bytes.ensures) _ (in_turn c.args.indent c.args.number c.args.ok c.args.title.now (verdict_of_view c.args.verdict))
