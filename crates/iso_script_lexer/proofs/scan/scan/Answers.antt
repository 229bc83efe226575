use Rattle.std.proofs.Common.{◌≡◌, ◌∙◌, true, false, ap, sym, arith, get_or, refl, ℕ, if◌then◌else◌}
use Rattle.iso_script_lexer.specs.Spelling.{is_printable}
use Rattle.iso_script_lexer.specs.Scan.{no_token, symbol_piece}
use Rattle.iso_script_lexer.specs.declared.scan.Misspelling.{Misspelling}
use Rattle.iso_script_lexer.specs.declared.token.TokenFault.TheVariants.{BadByte, BadToken}
use Rattle.iso_script_lexer.proofs.Begins.{front_of-begun, front_of-begun_name, front_of-begun_number, front_of-begun_text, is_printable-above, is_printable-below, is_printable-inside, letter_begins}
use Rattle.iso_script_lexer.proofs.scan.scan.Goals as goal
use Rattle.iso_script_lexer.proofs.scan.scan.Goals.{in-32-to-126, in_default-matches, in_default-matches-2}

pub scan_name-requires : goal.scan_name-requires
scan_name-requires c =
    letter_begins c.args.bytes.now c.begun_by.result _ record { some = omega arith; byte = omega (arith, c.type_inv.bytes 0); begins = c.begun_by.ensures; back = refl } c.in-97.is

pub returns-in-97-clause-value : goal.returns-in-97-clause-value
returns-in-97-clause-value c at =
    front_of-begun_name at c.args.bytes.now c.begun_by.result _ record { some = omega arith; byte = omega (arith, c.type_inv.bytes 0); begins = c.begun_by.ensures; back = refl } c.in-97.is
    ∙ c.scan_name.ensures.value at

pub returns-in-48-clause-value : goal.returns-in-48-clause-value
returns-in-48-clause-value c at =
    front_of-begun_number at c.args.bytes.now c.begun_by.result _ record { some = omega arith; byte = omega (arith, c.type_inv.bytes 0); begins = c.begun_by.ensures; back = refl } c.in-48.is
    ∙ c.scan_number.ensures.value at

pub returns-in-34-clause-value : goal.returns-in-34-clause-value
returns-in-34-clause-value c at =
    front_of-begun_text at c.args.bytes.now c.begun_by.result _ record { some = omega arith; byte = omega (arith, c.type_inv.bytes 0); begins = c.begun_by.ensures; back = refl } c.in-34.is
    ∙ c.scan_text.ensures.value at

pub returns-in-Some-clause-value : goal.returns-in-Some-clause-value
returns-in-Some-clause-value c at =
    front_of-begun at c.args.bytes.now c.begun_by.result _ record { some = omega arith; byte = omega (arith, c.type_inv.bytes 0); begins = c.begun_by.ensures; back = refl }
    (λ e. absurd (omega arith)) (λ e. absurd (omega arith)) (λ e. absurd (omega arith))
    ∙ ap (symbol_piece at (get_or c.args.bytes.now 0 0)) c.in-Some.ensures.value

pub returns-in-None-clause-value : goal.returns-in-None-clause-value
returns-in-None-clause-value c at =
    let byte : ℕ = get_or c.args.bytes.now 0 0 in
    let printable : is_printable byte ≡ true = elim c.if-matches-2.branch [
      | in-32-to-126 w ↦ let r = w.in-32-to-126 in is_printable-inside byte (omega arith) (omega arith)
      | in_default-matches w ↦ let e : false ≡ true = sym w.matches-is ∙ c.if-matches.true in cc
      | in_default-matches-2 w ↦ let e : false ≡ true = sym w.matches-is ∙ c.if-matches.true in cc
    ] in
    front_of-begun at c.args.bytes.now c.begun_by.result _ record { some = omega arith; byte = omega (arith, c.type_inv.bytes 0); begins = c.begun_by.ensures; back = refl }
    (λ e. absurd (omega arith)) (λ e. absurd (omega arith)) (λ e. absurd (omega arith))
    ∙ ap (symbol_piece at byte) c.in-None.ensures.value
    ∙ ap (λ t. no_token at (if t then BadToken else BadByte)) printable
    ∙ ap (λ (m : Misspelling). no_token at m.fault) (sym c.fault_at.ensures)

pub returns-in-None-2-clause-value : goal.returns-in-None-2-clause-value
returns-in-None-2-clause-value c at =
    let byte : ℕ = get_or c.args.bytes.now 0 0 in
    let printable : is_printable byte ≡ false = elim c.if-matches-2.branch [
      | in-32-to-126 w ↦ let e : true ≡ false = sym w.matches-is ∙ c.if-matches.false in cc
      | in_default-matches w ↦ let r = w.in_default-matches in is_printable-below byte (omega arith)
      | in_default-matches-2 w ↦ let r = w.in_default-matches in is_printable-above byte (omega arith)
    ] in
    front_of-begun at c.args.bytes.now c.begun_by.result _ record { some = omega arith; byte = omega (arith, c.type_inv.bytes 0); begins = c.begun_by.ensures; back = refl }
    (λ e. absurd (omega arith)) (λ e. absurd (omega arith)) (λ e. absurd (omega arith))
    ∙ ap (symbol_piece at byte) c.in-None-2.ensures.value
    ∙ ap (λ t. no_token at (if t then BadToken else BadByte)) printable
    ∙ ap (λ (m : Misspelling). no_token at m.fault) (sym c.fault_at-in-None-2.ensures)
