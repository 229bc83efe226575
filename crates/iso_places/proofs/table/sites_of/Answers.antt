use Rattle.std.proofs.Common.{◌≡◌, ℕ, List, Some, length, map, take, ap, ◌∙◌, arith}
use Rattle.std.proofs.Math.Seq.{take-length}
use Rattle.std.specs.Map.{lookup}
use Rattle.std.specs.Str.{bytes_eq}
use Rattle.iso_places.proofs.Entries.{found-more}
use Rattle.iso_places.proofs.table.sites_of.Goals as goal

pub paths-preserved : goal.paths-preserved
paths-preserved c = λ entries finds.
    let find = λ (path : List ℕ). lookup (bytes_eq path) entries in
    let path = c.path-item.result in
    ap (map Some) c.in_ok-push.ensures.items
    ∙ found-more find c.paths.sites.items c.in-Some.site.now c.args.paths.now c.paths.path-index path (omega arith) c.path-item.is
    (c.in-Some.ensures.value ∙ finds c.as_str.result.now ∙ ap find c.as_str.ensures) (c.paths.invariant entries finds)

pub returns-clause-found : goal.returns-clause-found
returns-clause-found c = λ entries finds.
    let last : c.paths.path-index ≡ length c.args.paths.now = omega arith in
    ap (map Some) c.new.ensures ∙ c.paths.invariant entries finds
    ∙ ap (map (λ (path : List ℕ). lookup (bytes_eq path) entries)) (ap (λ (n : ℕ). take n c.args.paths.now) last ∙ take-length c.args.paths.now)
