use Rattle.std.proofs.Common.{◌≡◌, arith, take, ℕ, List, ap, sym, ◌∙◌, subst, length}
use Rattle.std.specs.List.{prefix_len}
use Rattle.std.proofs.lemmas.List.Sums.{prefix_len-le-length}
use Rattle.iso_script_lexer.specs.Spelling.{in_name}
use Rattle.iso_script_lexer.specs.LexicalGrammar.{IsIdentifier}
use Rattle.iso_script_lexer.specs.Tokens.{IsToken}
use Rattle.iso_script_lexer.proofs.NameLemmas.{begins-identifier}
use Rattle.iso_script_lexer.proofs.Words.{not_reserved}
use Rattle.iso_script_lexer.proofs.Names.{name-IsAscii}
use Rattle.iso_script_lexer.proofs.scan.scan_name.Goals as goal
use Rattle.iso_script_lexer.proofs.scan.scan_name.Goals.{in-Some, in-None}

pub split_at-requires : goal.split_at-requires
split_at-requires c = omega (arith, c.name_length.ensures, prefix_len-le-length in_name c.args.bytes.now)

pub ascii_str-name-requires : goal.ascii_str-name-requires
ascii_str-name-requires c = rw (c.split_at.ensures.front, c.name_length.ensures) (name-IsAscii c.args.bytes.now)

pub returns-clause-token : goal.returns-clause-token
returns-clause-token c =
    let n : List ℕ = c.ascii_str-name.result.now in
    let front : n ≡ take (prefix_len in_name c.args.bytes.now) c.args.bytes.now =
    c.ascii_str-name.ensures ∙ c.split_at.ensures.front ∙ ap (λ k. take k c.args.bytes.now) c.name_length.ensures in
    elim c.match-from_name.branch [
      | in-Some w ↦ subst IsToken (sym w.token-is) tt
      | in-None w ↦ subst IsToken (sym w.token-is) record {
        identifier = subst IsIdentifier (sym front) (begins-identifier c.args.bytes.now c.requires);
        short = let e = ap length c.ascii_str-name.ensures in omega arith;
        free = not_reserved n (sym c.from_name.ensures ∙ w.in-None.is);
      }
    ]
