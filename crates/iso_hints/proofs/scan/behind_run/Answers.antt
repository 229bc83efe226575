use Rattle.std.proofs.Common.{false, true, subst, sym, ◌∙◌}
use Rattle.iso_hints.specs.Scans.{IsRun}
use Rattle.iso_hints.specs.declared.scan.Inside.{Inside}
use Rattle.iso_hints.proofs.RunLemmas.{others-run, token-run}
use Rattle.iso_hints.proofs.scan.behind_run.Goals as goal

pub returns-in-Text : goal.returns-in-Text
returns-in-Text c =
    let bytes = c.args.bytes.now in
    let count = c.text_run.result in
    let run = subst (λ (inside : Inside). IsRun inside true bytes count) (sym c.in-Text.is) c.text_run.ensures in
    record {
      count = count;
      within = c.text_run.ensures.within;
      is = c.past_token.ensures ∙ token-run c.args.seen bytes count c.requires.order c.requires.within run;
    }

pub returns-in-Comment : goal.returns-in-Comment
returns-in-Comment c =
    let bytes = c.args.bytes.now in
    let count = c.comment_run.result in
    let run = subst (λ (inside : Inside). IsRun inside false bytes count) (sym c.in-Comment.is) c.comment_run.ensures in
    record {
      count = count;
      within = c.comment_run.ensures.within;
      is = c.past_others.ensures ∙ others-run c.args.seen bytes count run;
    }
