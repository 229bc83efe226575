use Rattle.std.proofs.Common.{◌≡◌, Ok, codes, false, sym, ◌∙◌}
use Rattle.std.specs.List.{flat_map}
use Rattle.iso_html.proofs.WordLemmas.{quoted-is}
use Rattle.iso_junit.specs.Escapes.{escaped}
use Rattle.iso_summary.specs.Words.{in_quotes, is_plain_word}
use Rattle.iso_tap.proofs.PrinterLemmas.{prints_as, prints_cut, prints_stopped, prints_then}
use Rattle.iso_html.proofs.word.word.Goals as goal

pub returns-then-is_plain_word : goal.returns-then-is_plain_word
returns-then-is_plain_word g c =
    let plain = sym c.is_plain_word.ensures ∙ c.if-is_plain_word.true in
    rw plain c.escaped.ensures

pub returns-in_err-bytes : goal.returns-in_err-bytes
returns-in_err-bytes g c =
    let odd : is_plain_word c.args.word.now ≡ false = sym c.is_plain_word.ensures ∙ c.if-is_plain_word.false in
    let inner = flat_map in_quotes c.args.word.now in
    rw odd (prints_as (prints_stopped (codes "'") _ c.from_residual.ensures.0 (prints_cut (escaped inner) _ _ c.in_err-bytes.ensures)) _ (quoted-is inner))

pub returns-in_err-within_quotes : goal.returns-in_err-within_quotes
returns-in_err-within_quotes g c =
    let odd : is_plain_word c.args.word.now ≡ false = sym c.is_plain_word.ensures ∙ c.if-is_plain_word.false in
    let inner = flat_map in_quotes c.args.word.now in
    rw odd (prints_as (prints_stopped (codes "'") _ c.from_residual-in_err-within_quotes.ensures.0 (prints_then _ c.in_ok-bytes.ensures c.in_err-within_quotes.ensures)) _ (quoted-is inner))

pub returns : goal.returns
returns g c =
    let odd : is_plain_word c.args.word.now ≡ false = sym c.is_plain_word.ensures ∙ c.if-is_plain_word.false in
    let inner = flat_map in_quotes c.args.word.now in
    rw odd (prints_as (prints_then _ (prints_then (Ok tt) c.in_ok-bytes.ensures c.in_ok-within_quotes.ensures) c.bytes-2.ensures) _ (quoted-is inner))
