use Rattle.std.proofs.Common.{◌≡◌, ◌+◌, ◌<◌, ◌^◌, length, Bool, cond, ap, refl, subst, sym, ◌∙◌, arith}
use Rattle.std.proofs.lemmas.List.{get_or_read_under}
use Rattle.iso_desk.specs.Crews.{awaits, fresh, member_of}
use Rattle.iso_desk.proofs.AwaitingLemmas.{has-room}
use Rattle.iso_desk.proofs.crew.Crew.put.Goals as goal

pub recounted-self-requires-clause-room : goal.recounted-self-requires-clause-room
recounted-self-requires-clause-room c =
    let ms = c.args.self.now.members.items in
    let w = c.args.worker in
    let count = c.args.self.now.awaiting in
    let small : length ms < 2 ^ 64 = omega (arith, c.args.self.now.members.ok.0) in
    let was : c.awaits-was.result ≡ awaits (member_of ms w) =
    c.awaits-was.ensures ∙ ap awaits (get_or_read_under ms w (length ms) c.index.result.now fresh c.index.ensures c.requires refl) in
    subst (λ (b : Bool). count + cond c.awaits.result 1 0 < 2 ^ 64 + cond b 1 0) (sym was)
    (subst (λ (b : Bool). count + cond b 1 0 < 2 ^ 64 + cond (awaits (member_of ms w)) 1 0) (sym c.awaits.ensures)
    (has-room ms w c.args.member count c.requires small c.args.self.now.counted))
