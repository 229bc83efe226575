use Rattle.std.proofs.Common.{◌≡◌, ◌<◌, ◌∷◌, ◌++◌, [], List, length, map, get_or, sym, ap, ◌∙◌, arith}
use Rattle.std.proofs.lemmas.List.{get_or-map, length-map, map-set}
use Rattle.std.proofs.Math.ListN.{length-set}
use Rattle.std.specs.declared.alloc.Global.{Global}
use Rattle.std.specs.declared.vec.Vec.{Vec}
use Rattle.iso_html.proofs.ListLemmas.{put-at}
use Rattle.iso_html.specs.declared.shape.Mark.{Mark}
use Rattle.iso_html.proofs.lists.put.Goals as goal

abbrev marks : Vec Mark Global → List Mark
marks v = v.items

pub returns-in_ok-push : goal.returns-in_ok-push
returns-in_ok-push c =
    let vs = c.args.lists.now.items in
    let p = c.args.number in
    let m = c.args.mark in
    let xs = map marks vs in
    let stored : p < length vs = omega arith in
    let within : p < length xs = rw (length-map vs marks) stored in
    let was : c.index_mut-list.result.now.items ≡ get_or xs p [] = ap marks c.index_mut-list.ensures.value ∙ sym (get_or-map marks vs p c.index_mut-list.result.now [] stored) in
    let more = c.in_ok-push.ensures.items ∙ ap (λ (ms : List Mark). ms ++ m ∷ []) was in
    record {
      size = rw map-set (length-set xs p c.push.new.self.items);
      longer = λ k h. rw map-set (put-at xs p k m c.push.new.self.items within more);
    }
