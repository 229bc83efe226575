-- Of two entered nodes that may change one key, the one that was entered or ends last stands under
-- the other.
use Rattle.std.proofs.Common.{◌≡◌, ℕ, ◌<◌, ◌≤◌, Some, true, false, inl, inr, sym, ap, ◌∙◌, subst, arith}
use Rattle.iso_suites.proofs.LanguageLaws.{scripts-laws}
use Rattle.iso_suites.proofs.SuiteLaws.{chain-rights, suite-laws}
use Rattle.iso_core.specs.FlatMaps.{BothWrite, FlatView, IsFlatOf, IsInnermost}
use Rattle.iso_suites.specs.ScriptLanguage.{scripts}
use Rattle.iso_suites.specs.SuiteStates.{RunState, IsReached, suite_at}
use Rattle.iso_isolation.proofs.Barred.{keeps_first}
use Rattle.iso_isolation.proofs.Changes.{put_elsewhere, put_here}
use Rattle.iso_isolation.proofs.Invariant.{Kept}
use Rattle.iso_isolation.proofs.Locks.{Locked, isolated, on_le, strictly_above}
use Rattle.iso_isolation.proofs.Runs.{keeps_run}
use Rattle.iso_isolation.proofs.Statuses.{body_held, body_shut}
use Rattle.iso_isolation.specs.Events as E
use Rattle.iso_isolation.specs.Events.{after}
use Rattle.iso_isolation.specs.States.{Begun, Status, body_in, first, is_held, is_open}
use Rattle.iso_isolation.specs.Suites.{SuiteLaws, chain, may_read, may_write}
use Rattle.iso_lifecycle.specs.Subjects.{started}
use Rattle.iso_model.specs.Bodies.{Stage}
use Rattle.iso_model.specs.Openings.{Frame}
use Rattle.iso_model.specs.Rights.{is_writable}
use Rattle.iso_model.specs.declared.outcome.Outcome.{Outcome}
use Rattle.iso_plan.specs.Paths.{IsTree}
use Rattle.iso_plan.specs.Planned.{Planned}
use Rattle.iso_plan.specs.RowView.{tree_of}
use Rattle.iso_settings.specs.Worlds.{Start}

module _ (plan : Planned) (t : IsTree (tree_of plan)) (world : Start) where
  laws : SuiteLaws scripts (suite_at plan world)
  laws = suite-laws (tree_of plan) t plan.settings (started world)

  -- what a state keeps that a run leads to
  kept-in : (s : RunState) → IsReached plan world s → Kept scripts (suite_at plan world) s.nodes
  kept-in s r =
      let x = suite_at plan world in
      subst (λ (q : RunState). Kept scripts (suite_at plan world) q.nodes) r.state
      (keeps_run scripts x laws scripts-laws r.workers r.events (first scripts x) (keeps_first scripts x laws scripts-laws) r.run)

  lower : (st : ℕ → Status Stage Frame Outcome) → Locked (suite_at plan world) st → (m n : ℕ) → (m ≡ n → ⊥) → is_held (st m) ≡ true → is_held (st n) ≡ true → is_open (st n) ≡ false
      → BothWrite (tree_of plan) m n → m < n
  lower st locked m n apart held_m held_n shut both =
      let x = suite_at plan world in
      let k = both.key in
      let left : may_write scripts (suite_at plan world) m k ≡ true = ap is_writable (chain-rights (tree_of plan) t plan.settings (started world) k m) ∙ both.left in
      let right : may_write scripts (suite_at plan world) n k ≡ true = ap is_writable (chain-rights (tree_of plan) t plan.settings (started world) k n) ∙ both.right in
      let reads : may_read scripts (suite_at plan world) n k ≡ true = scripts-laws.rights.write_reads (chain x n) k right in
      elim (isolated scripts x laws scripts-laws st locked m n k left reads held_m held_n) [
        | inl on ↦ let most : m ≤ n = on_le scripts x laws on in omega arith
        | inr on ↦
            let back : n ≡ m → ⊥ = λ e. apart (sym e) in
            let open_n : is_open (st n) ≡ true = strictly_above scripts x laws scripts-laws st locked on back held_m in
            absurd (cc)
      ]

  module _ (v : FlatView) (same : v.tray.plan ≡ plan) (s : RunState) (of : IsFlatOf v s.nodes) where
    with-plan : (m n : ℕ) → BothWrite (tree_of v.tray.plan) m n → BothWrite (tree_of plan) m n
    with-plan m n both = subst (λ (p : Planned). BothWrite (tree_of p) m n) same both

    pub apart-entered : (w n : ℕ) → IsReached plan world (after scripts (suite_at plan world) s (E.Enter w n)) → IsInnermost v n
    apart-entered w n reached m has apart both =
        let next = after scripts (suite_at plan world) s (E.Enter w n) in
        let begins : Status Stage Frame Outcome = Begun (scripts.begin (chain (suite_at plan world) n) (E.frames_of (s.nodes.status ((suite_at plan world).parent n)))) in
        let held_m : is_held (next.nodes.status m) ≡ true = ap is_held (put_elsewhere m n begins s.nodes.status apart) ∙ (of.marked m has).1 in
        let held_n : is_held (next.nodes.status n) ≡ true = ap is_held (put_here n begins s.nodes.status) in
        let shut : is_open (next.nodes.status n) ≡ false = ap is_open (put_here n begins s.nodes.status) in
        lower next.nodes.status (kept-in next reached).locked m n apart held_m held_n shut (with-plan m n both)

    pub apart-leaving : (n : ℕ) (b : Stage) → IsReached plan world s → body_in (s.nodes.status n) ≡ Some b → IsInnermost v n
    apart-leaving n b reached here m has apart both =
        lower s.nodes.status (kept-in s reached).locked m n apart (of.marked m has).1 (body_held (s.nodes.status n) b here) (body_shut (s.nodes.status n) b here) (with-plan m n both)
