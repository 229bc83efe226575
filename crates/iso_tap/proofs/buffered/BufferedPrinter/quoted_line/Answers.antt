use Rattle.std.proofs.Common.{◌≡◌, Ok, List, ℕ, ◌++◌, codes, replicate, ap, sym, ◌∙◌, append_assoc}
use Rattle.iso_tap.specs.Escapes.{quoted_bytes}
use Rattle.iso_tap.specs.ReportLines.{line_at}
use Rattle.iso_tap.proofs.BufferLemmas.{buffers_as, buffers_cut, buffers_stopped, buffers_then}
use Rattle.iso_tap.proofs.buffered.BufferedPrinter.quoted_line.Goals as goal

-- the line, from the texts that it is made of
in_turn : (indent : ℕ) (before text : List ℕ) → replicate indent 32 ++ before ++ text ++ codes "\"\n" ≡ line_at indent (before ++ text ++ codes "\"")
in_turn indent before text =
    let spaces : List ℕ = replicate indent 32 in
    ap (λ (t : List ℕ). t ++ codes "\"\n") (append_assoc spaces before text) ∙ sym (append_assoc (spaces ++ (before ++ text)) (codes "\"") (codes "\n"))
    ∙ ap (λ (t : List ℕ). t ++ codes "\n") (append_assoc spaces (before ++ text) (codes "\""))

pub returns-in_err-bytes : goal.returns-in_err-bytes
returns-in_err-bytes g c =
    let text = quoted_bytes c.args.text.now in
    let begun = buffers_cut text _ _ (buffers_then _ c.in_ok-spaces.ensures c.in_err-bytes.ensures) in
    buffers_as (buffers_stopped (codes "\"\n") _ c.from_residual-in_err-bytes.ensures.0 begun) _ (in_turn c.args.indent c.args.before.now text)

pub returns-in_err-escaped : goal.returns-in_err-escaped
returns-in_err-escaped g c =
    let begun = buffers_then _ (buffers_then (Ok tt) c.in_ok-spaces.ensures c.in_ok-bytes.ensures) c.in_err-escaped.ensures in
    buffers_as (buffers_stopped (codes "\"\n") _ c.from_residual-in_err-escaped.ensures.0 begun) _ (in_turn c.args.indent c.args.before.now (quoted_bytes c.args.text.now))

pub returns : goal.returns
returns g c =
    let begun = buffers_then (Ok tt) (buffers_then (Ok tt) c.in_ok-spaces.ensures c.in_ok-bytes.ensures) c.in_ok-escaped.ensures in
    buffers_as (buffers_then _ begun c.bytes-2.ensures) _ (in_turn c.args.indent c.args.before.now (quoted_bytes c.args.text.now))
