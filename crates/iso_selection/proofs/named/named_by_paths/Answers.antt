use Rattle.std.proofs.Common.{◌≡◌, ◌&&◌, [], ℕ, Bool, get_or, map, nat_lt, not, ap, sym, ◌∙◌, arith}
use Rattle.std.proofs.lemmas.List.{get_or_default}
use Rattle.iso_model.specs.NameSets.{is_among}
use Rattle.iso_plan.proofs.ColumnLemmas.{column-push}
use Rattle.iso_plan.proofs.PathLemmas.{not-root}
use Rattle.iso_plan.specs.Paths.{is_root}
use Rattle.iso_selection.specs.Wishes.{paths_in, wish_of}
use Rattle.iso_selection.proofs.named.named_by_paths.Goals as goal
use Rattle.iso_selection.proofs.named.named_by_paths.Goals.{then-n-gt0, else-n-gt0}

pub nodes-preserved : goal.nodes-preserved
nodes-preserved c =
    let n = c.nodes.n in
    let paths = c.args.paths.now in
    let asked = paths_in (map wish_of c.args.wanted.now) in
    let f : ℕ → Bool = λ k. not (is_root k) && is_among asked (get_or paths k []) in
    let text : c.as_bytes.result.now ≡ get_or paths n [] =
    c.as_bytes.ensures.value ∙ c.as_str.ensures ∙ c.index-paths-n.is ∙ get_or_default paths n c.index-paths-n.result [] (omega arith) in
    let found : c.contains-is_asked.result ≡ is_among asked (get_or paths n []) = c.contains-is_asked.ensures ∙ c.in_ok-asked.ensures c.as_bytes.result.now ∙ ap (is_among asked) text in
    let this : c.if-n-gt0.push ≡ f n = elim c.if-n-gt0.branch [
      | then-n-gt0 w ↦ w.push-is ∙ found ∙ sym (ap (λ (r : Bool). not r && is_among asked (get_or paths n [])) (not-root n w.if-n-gt0.true))
      | else-n-gt0 w ↦ let h = w.if-n-gt0.false in let zero : n ≡ 0 = omega arith in w.push-is ∙ ap (nat_lt 0) zero ∙ sym (ap (λ (k : ℕ). not (is_root k) && is_among asked (get_or paths n [])) zero)
    ] in
    c.in_ok-push.ensures.items ∙ column-push f c.nodes.named.items n c.if-n-gt0.push c.nodes.invariant this
