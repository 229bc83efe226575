use Rattle.std.proofs.Common.{arith, false}
use Rattle.iso_script_lexer.proofs.Texts.{quoted}
use Rattle.iso_script_lexer.proofs.scan.scan_text.Goals as goal

pub split_at-requires : goal.split_at-requires
split_at-requires c = let i = (quoted false 4096 c.in_ok-length.length c.args.bytes.now c.in_ok-length.ensures.value).inside in omega arith

pub split_at-requires-2 : goal.split_at-requires-2
split_at-requires-2 c = let i = (quoted false 4096 c.in_ok-length.length c.args.bytes.now c.in_ok-length.ensures.value).inside in omega arith

pub invariant_of-result : goal.invariant_of-result
invariant_of-result c =
    let t = quoted false 4096 c.in_ok-length.length c.args.bytes.now c.in_ok-length.ensures.value in
    record { quoted = rw c.split_at.ensures.front record { plain = t.plain; short = t.short } }
