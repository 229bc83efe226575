use Rattle.std.proofs.Common.{◌≡◌, ◌+◌, ℕ, Bool, true, false, length, ap, sym, ◌∙◌, add-one, arith}
use Rattle.std.proofs.lemmas.List.{length_push}
use Rattle.iso_plan.proofs.ColumnLemmas.{column-push, column-read}
use Rattle.iso_plan.proofs.NumberLemmas.{number-next, those-skip}
use Rattle.iso_plan.specs.KeptNodes.{number_among}
use Rattle.iso_selection.proofs.turns.places.Goals as goal
use Rattle.iso_selection.proofs.turns.places.Goals.{then-passes-n, else-passes-n}

next_place : (test : ℕ → Bool) (n place : ℕ) → test n ≡ true → place ≡ number_among test n → place + 1 ≡ number_among test (n + 1)
next_place test n place e before = ap (λ (p : ℕ). p + 1) before ∙ sym (ap (number_among test) (add-one n) ∙ number-next test n e)

same_place : (test : ℕ → Bool) (n place : ℕ) → test n ≡ false → place ≡ number_among test n → place ≡ number_among test (n + 1)
same_place test n place e before = before ∙ sym (ap (number_among test) (add-one n) ∙ ap length (those-skip test n e))

pub nodes-preserved : goal.nodes-preserved
nodes-preserved c =
    let n = c.nodes.n in
    let i = c.nodes.invariant in
    let few = i.few in
    let passes = c.args.passes.now in
    record {
      few = elim c.if-passes-n.branch [ then-passes-n w ↦ let is = w.place-is in omega arith | else-passes-n w ↦ let is = w.place-is in omega arith ];
      each = ap length c.in_ok-push.ensures.items ∙ length_push c.nodes.places.items c.nodes.place ∙ ap (λ (k : ℕ). k + 1) i.each;
      are = λ test e. c.in_ok-push.ensures.items ∙ column-push (number_among test) c.nodes.places.items n c.nodes.place (i.are test e) (i.next test e);
      next = λ test e. elim c.if-passes-n.branch [
        | then-passes-n w ↦ w.place-is ∙ next_place test n c.nodes.place (sym (column-read test passes (length passes) n false e (omega arith)) ∙ w.if-passes-n.true) (i.next test e)
        | else-passes-n w ↦ w.place-is ∙ same_place test n c.nodes.place (sym (column-read test passes (length passes) n false e (omega arith)) ∙ w.if-passes-n.false) (i.next test e)
      ];
    }
