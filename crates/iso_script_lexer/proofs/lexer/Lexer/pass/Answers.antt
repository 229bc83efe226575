use Rattle.std.proofs.Common.{◌≡◌, ◌≢◌, List, ◌∙◌, ap, sym, [], ◌∷◌}
use Rattle.iso_script_lexer.specs.Cursors.{line_of}
use Rattle.iso_script_lexer.specs.Piece.{Piece, bad_at, tail}
use Rattle.iso_script_lexer.specs.Positions.{Line, position}
use Rattle.iso_script_lexer.specs.Scan.{pieces_of, then_pieces}
use Rattle.iso_script_lexer.specs.Tokens.{front}
use Rattle.iso_script_lexer.specs.declared.token.Position.{Position}
use Rattle.iso_script_lexer.specs.declared.token.TokenFault.{TokenFault}
use Rattle.iso_script_lexer.proofs.Fuel.{pieces_of-step, tail-front, then_pieces-shown}
use Rattle.iso_script_lexer.proofs.Pieces.{pieces_of-nil, then_pieces-no_token}
use Rattle.iso_script_lexer.proofs.lexer.Lexer.pass.Goals as goal

pub returns-in-Ok : goal.returns-in-Ok
returns-in-Ok c =
    let old = c.self.inside in
    let more : List Piece = pieces_of (line_of old.next) old.next.rest.now in
    let held : front old.position old.token more ≡ c.args.self.now = cc (c.self.view_is) in
    let some : front old.position old.token more ≢ [] = λ e. c.requires (sym held ∙ e) in
    let line : Line = line_of c.skip_gap-rest.new.cursor in
    let at : Position = position line c.skip_gap-rest.result.now in
    let there : c.position-self-inside.result ≡ at =
    c.position-self-inside.ensures ∙ ap (λ l. position l c.further-start.result.rest.now) c.further-start.ensures.line ∙ ap (position line) c.further-start.ensures.rest in
    sym (pieces_of-step _ _ _ _ c.skip_gap-rest.ensures.value
    ∙ ap (λ f. then_pieces f (pieces_of line)) (c.in-Ok.ensures.value at)
    ∙ then_pieces-shown at line c.in-Ok.token c.in-Ok.after.now
    ∙ ap (λ p. front p c.in-Ok.token (pieces_of line c.in-Ok.after.now)) (sym there)) ∙ sym (tail-front old.position old.token more some) ∙ ap tail held

pub returns-in-Err : goal.returns-in-Err
returns-in-Err c =
    let old = c.self.inside in
    let more : List Piece = pieces_of (line_of old.next) old.next.rest.now in
    let held : front old.position old.token more ≡ c.args.self.now = cc (c.self.view_is) in
    let some : front old.position old.token more ≢ [] = λ e. c.requires (sym held ∙ e) in
    let line : Line = line_of c.skip_gap-rest.new.cursor in
    let at : Position = position line c.skip_gap-rest.result.now in
    let fault : TokenFault = c.in-Err.misspelling.fault in
    sym (pieces_of-step _ _ _ _ c.skip_gap-rest.ensures.value
    ∙ ap (λ f. then_pieces f (pieces_of line)) (c.in-Err.ensures.value at)
    ∙ then_pieces-no_token at line fault
    ∙ ap (λ (l : Line). bad_at l.0 fault ∷ []) (sym (c.further.ensures.line ∙ c.further-start.ensures.line))
    ∙ ap (λ (p : Position). bad_at p.line fault ∷ []) (sym c.position-self-inside-in-Err.ensures)
    ∙ ap (λ ps. bad_at c.position-self-inside-in-Err.result.line fault ∷ ps) (sym (pieces_of-nil line)))
    ∙ sym (tail-front old.position old.token more some) ∙ ap tail held
