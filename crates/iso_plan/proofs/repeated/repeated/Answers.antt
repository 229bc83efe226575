use Rattle.std.proofs.Common.{◌≡◌, ◌+◌, ◌∷◌, [], List, Bool, false, length, map, get_or, inl, inr, subst, ap, sym, ◌∙◌, arith}
use Rattle.std.proofs.lemmas.Bool.{cases_lt}
use Rattle.std.proofs.lemmas.List.{get_or_append_left, get_or_push, length-map, length_push}
use Rattle.iso_plan.specs.Repeated.{Repeats}
use Rattle.iso_plan.specs.RowView.{row_of}
use Rattle.iso_plan.proofs.repeated.repeated.Goals as goal

pub nodes-preserved : goal.nodes-preserved
nodes-preserved c =
    let tree = map row_of c.args.rows.now in
    let n = c.nodes.n in
    let old = c.nodes.repeated.items in
    let new = c.push.new.self.items in
    let x = c.repeats.result in
    let each = c.nodes.invariant.each in
    record {
      each = ap length c.in_ok-push.ensures.items ∙ length_push old x ∙ ap (λ m. m + 1) each;
      repeats = λ m h e. elim (cases_lt m n) [
        | inl less ↦ c.nodes.invariant.repeats m less
            (sym (ap (λ (bs : List Bool). get_or bs m false) c.in_ok-push.ensures.items ∙ get_or_append_left old (x ∷ []) false m (omega arith)) ∙ e)
        | inr past ↦
            let same : m ≡ n = omega arith in
            subst (Repeats tree) (sym same)
            (c.repeats.ensures (sym (ap (λ (bs : List Bool). get_or bs m false) c.in_ok-push.ensures.items ∙ get_or_push old x false m (each ∙ sym same)) ∙ e))
      ];
    }

pub returns : goal.returns
returns c =
    let rows = c.args.rows.now in
    let size : length (map row_of rows) ≡ length rows = length-map rows row_of in
    let each = c.nodes.invariant.each in
    record { each = omega arith; repeats = λ m h e. c.nodes.invariant.repeats m (omega arith) e }
