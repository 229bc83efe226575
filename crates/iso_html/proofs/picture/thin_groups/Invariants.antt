use Rattle.std.proofs.Common.{◌≡◌, drop}
use Rattle.std.specs.List.{fold}
use Rattle.iso_html.specs.Pictures.{thin_groups, with_thin}
use Rattle.iso_html.proofs.picture.thin_groups.Given as goal

-- what is made of the groups so far and the bars to come
abbrev pub invariant-loop-mark : goal.invariant-loop-mark
invariant-loop-mark l = fold (with_thin l.span) l.groups.items (drop l.mark-index l.marks) ≡ thin_groups l.pixels l.span l.marks
