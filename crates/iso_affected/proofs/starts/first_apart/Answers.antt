use Rattle.std.proofs.Common.{◌≡◌, ◌<◌, List, length, get_or, take, sym, ap, ◌∙◌, subst, arith, true≢false}
use Rattle.std.proofs.lemmas.List.{get_or_default, take_more}
use Rattle.iso_affected.specs.Starting.{StartsView}
use Rattle.iso_affected.proofs.MarkLemmas.{Alike, more-marks}
use Rattle.iso_model.specs.declared.heads.Mark.{Mark}
use Rattle.iso_settings.specs.Worlds.{starting_value_in}
use Rattle.iso_affected.proofs.starts.first_apart.Goals as goal

pub returns-then-not-branch-clause-first : goal.returns-then-not-branch-clause-first
returns-then-not-branch-clause-first c =
    let ms = c.args.marks.now in
    let i = c.marks.i in
    let within : i < length ms = omega arith in
    record {
      within = within;
      apart = λ d same.
          let at : get_or ms i d ≡ get_or ms i c.index-marks-i.result = get_or_default ms i d c.index-marks-i.result within in
          let here = ap (λ (m : Mark). starting_value_in c.args.starts.now.before m.key) (sym at) ∙ same ∙ ap (λ (m : Mark). starting_value_in c.args.starts.now.after m.key) at in
          let now = subst (λ (s : StartsView). starting_value_in s.before (get_or ms i c.index-marks-i.result).key ≡ starting_value_in s.after (get_or ms i c.index-marks-i.result).key)
          (sym c.marks.invariant.starts) here in
          true≢false (sym (c.in_ok-alike.ensures.alike.1 now) ∙ c.if-not-branch.true);
      first = c.marks.invariant.alike;
    }

pub marks-preserved : goal.marks-preserved
marks-preserved c =
    let ms = c.args.marks.now in
    let i = c.marks.i in
    let m : Mark = get_or ms i c.index-marks-i.result in
    let within : i < length ms = omega arith in
    let here = subst (λ (s : StartsView). starting_value_in s.before m.key ≡ starting_value_in s.after m.key) c.marks.invariant.starts (c.in_ok-alike.ensures.alike.0 c.if-not-branch.false) in
    record {
      starts = c.in_ok-alike.ensures.same ∙ c.marks.invariant.starts;
      alike =
          subst (λ (l : List Mark). Alike c.args.starts.now.before c.args.starts.now.after l) (sym (take_more ms i c.index-marks-i.result within))
          (more-marks c.args.starts.now.before c.args.starts.now.after (take i ms) m c.marks.invariant.alike here);
    }
