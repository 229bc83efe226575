use Rattle.std.proofs.Common.{◌≡◌, ◌∙◌, ◌||◌, ◌==◌, ℕ, Bool, ap, ap₂, not, subst, sym}
use Rattle.std.proofs.lemmas.List.{drop_more}
use Rattle.iso_desk.specs.Marking.{has}
use Rattle.iso_desk.specs.declared.marks.Marks.{Marks}
use Rattle.iso_floor.specs.KeyMarks.{AreMarks, is_taken}
use Rattle.iso_model.specs.declared.access.Access.TheVariants.{Read, Write}
use Rattle.iso_plan.specs.RowView.{tree_of}
use Rattle.iso_floor.proofs.KeyLemmas.{renewed-on, renewed-past}
use Rattle.iso_floor.proofs.keys.renew.Goals as goal
use Rattle.iso_floor.proofs.keys.renew.Goals.{else-key-lt-KEYS, then-key-lt-KEYS}

pub locks-preserved : goal.locks-preserved
locks-preserved c =
    let ls = c.args.locks.now in
    let i = c.locks.lock-index in
    let next = drop_more ls i _ c.locks-test.true in
    let tree = tree_of c.args.nodes.now.plan in
    let nodes = c.args.nodes.now.held in
    let writes : ℕ → Bool = λ k. is_taken tree nodes Write k in
    let takes : ℕ → Bool = λ k. is_taken tree nodes Write k || is_taken tree nodes Read k in
    elim c.if-key-lt-KEYS.branch [
      | then-key-lt-KEYS w ↦
          let w-is : not (w.takers-writes.result == 0) ≡ writes _ = ap (λ (n : ℕ). not (n == 0)) w.takers-writes.ensures in
          let r-is : not (w.takers-reads.result == 0) ≡ is_taken tree nodes Read _ = ap (λ (n : ℕ). not (n == 0)) w.takers-reads.ensures in
          record {
            marks =
                subst (λ (m : Marks). AreMarks (record { held = m; written = c.if-key-lt-KEYS.written })) (sym w.held-is)
                (subst (λ (m : Marks). AreMarks (record { held = w.mark.new.held; written = m })) (sym w.written-is) w.mark.ensures.marks);
            written = λ k h.
                renewed-on writes ls i _ k _ (has c.locks.written k) (has c.if-key-lt-KEYS.written k) next w-is (ap (λ (m : Marks). has m k) w.written-is ∙ w.mark.ensures.written k)
                ∙ c.locks.invariant.written k h;
            held = λ k h.
                renewed-on takes ls i _ k _ (has c.locks.held k) (has c.if-key-lt-KEYS.held k) next (ap₂ (λ (a b : Bool). a || b) w-is r-is)
                (ap (λ (m : Marks). has m k) w.held-is ∙ w.mark.ensures.held k)
                ∙ c.locks.invariant.held k h;
          }
      | else-key-lt-KEYS w ↦
          record {
            marks =
                subst (λ (m : Marks). AreMarks (record { held = m; written = c.if-key-lt-KEYS.written })) (sym w.held-is)
                (subst (λ (m : Marks). AreMarks (record { held = c.locks.held; written = m })) (sym w.written-is) c.locks.invariant.marks);
            written = λ k h.
                renewed-past writes ls i _ k (has c.locks.written k) (has c.if-key-lt-KEYS.written k) next h w.if-key-lt-KEYS.false (ap (λ (m : Marks). has m k) w.written-is)
                ∙ c.locks.invariant.written k h;
            held = λ k h.
                renewed-past takes ls i _ k (has c.locks.held k) (has c.if-key-lt-KEYS.held k) next h w.if-key-lt-KEYS.false (ap (λ (m : Marks). has m k) w.held-is) ∙ c.locks.invariant.held k h;
          }
    ]
