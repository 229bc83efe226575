-- The outcome of a class whose two bodies were put.
use Rattle.std.proofs.Common.{◌≡◌, ℕ, List, [], ◌∷◌, ◌++◌, Some, None, Bool, true, false, ◌||◌, cond, refl, sym, ap, subst, ◌∙◌}
use Rattle.std.proofs.Math.ListN.{get_or-map}
use Rattle.iso_model.specs.Verdicts.{verdict}
use Rattle.iso_model.specs.declared.outcome.Outcome.{Outcome}
use Rattle.iso_plan.specs.Planned.{Planned}
use Rattle.iso_settings.specs.Worlds.{Start}
use Rattle.iso_lifecycle.specs.Ends.{outcome_of}
use Rattle.iso_lifecycle.specs.Entries.{AreKept, IsClosed, IsKept, entry_at, has_ended, seen}
use Rattle.iso_lifecycle.specs.ResultViews.{ResultsView, is_barred, is_ended, result_in}
use Rattle.iso_lifecycle.specs.Subjects.{Subject, subject}
use Rattle.iso_lifecycle.specs.declared.done.Closed as Closings
use Rattle.iso_lifecycle.specs.declared.done.Opened as Openings
use Rattle.iso_lifecycle.specs.declared.entry.Entry.{Entry}
use Rattle.iso_lifecycle.specs.declared.entry.Entry.TheVariants.{Empty, Closed}

-- the combined outcome of the two bodies of a class
abbrev pub combined : Openings.Opened → Closings.Closed → Outcome
combined o c = record { verdict = verdict (o.ending ∷ c.ending ∷ []); output = o.lines ++ c.lines }

ended_by : (e b : Bool) (x : Outcome) → e ≡ true → Some x ≡ cond (e || b) (Some x) None
ended_by true b x h = refl
ended_by false b x h = absurd (cc)

closed_outcome : (s : Subject) (o : Openings.Opened) (c : Closings.Closed) → IsClosed s o c → combined o c ≡ outcome_of s
closed_outcome s o c is = rw (is.opened.opening.ending_is, is.opened.opening.lines_are) (sym is.closing.outcome)

pub closed-result : (v : ResultsView) (plan : Planned) (start : Start) (es : List Entry) (n : ℕ) (o : Openings.Opened) (c : Closings.Closed) (r : Outcome)
    → seen plan start es ≡ v → AreKept plan start es → entry_at es n ≡ Closed o c → r ≡ combined o c → Some r ≡ result_in v n
closed-result v plan start es n o c r v_is k here r_is =
    let s = subject plan start n in
    let x = outcome_of s in
    let w = seen plan start es in
    let is : IsClosed s o c = subst (λ (e : Entry). IsKept s e) here (k.kept n) in
    let ended : is_ended w n ≡ true = get_or-map has_ended es n Empty ∙ ap has_ended here in
    ap (λ (y : Outcome). Some y) (r_is ∙ closed_outcome s o c is)
    ∙ ended_by (is_ended w n) (is_barred w n) x ended
    ∙ ap (λ (u : ResultsView). result_in u n) v_is
