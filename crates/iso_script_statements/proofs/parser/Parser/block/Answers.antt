use Rattle.iso_script_statements.specs.Statements.{IsBlock, IsBody, body_of}
use Rattle.iso_script_statements.proofs.Answers.{parses_from}
use Rattle.iso_script_statements.proofs.Statements.{is_block, block_inner}
use Rattle.iso_script_statements.proofs.parser.Parser.block.Goals as goal

pub returns : goal.returns
returns c =
    parses_from body_of (IsBody 32 _) IsBlock _ _ _ _
    (λ x rest. is_block _ _ _ x _ rest c.saturating_sub-above.ensures c.peek.ensures.next)
    (λ x rest. block_inner _ _ _ x _ rest c.saturating_sub-above.ensures c.peek.ensures.next) c.body.ensures
