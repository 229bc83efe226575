use Rattle.std.proofs.Common.{◌≡◌, [], ◌∷◌, ◌++◌, Some, true, ap, sym, ◌∙◌, subst}
use Rattle.iso_model.specs.Bodies.{Account, Stage, account_of, ended, first_ending}
use Rattle.iso_model.specs.Statements.{is_well}
use Rattle.iso_model.specs.Verdicts.{verdict}
use Rattle.iso_lifecycle.specs.BodyRuns.{account_in_run, end_account, stage_of}
use Rattle.iso_lifecycle.specs.Ends.{IsOpening}
use Rattle.iso_lifecycle.specs.declared.done.Opened as Openings
use Rattle.iso_lifecycle.specs.OriginViews.{subject_of_origin}
use Rattle.iso_lifecycle.specs.Origins.{HasCome, HasLeft, done_whole}
use Rattle.iso_lifecycle.specs.Subjects.{IsOfClass, is_kind_of, own_frame}
use Rattle.iso_lifecycle.specs.declared.kind.BodyKind.{BodyKind}
use Rattle.iso_lifecycle.specs.declared.kind.BodyKind.TheVariants.{AfterAll, BeforeAll, Test}
use Rattle.iso_lifecycle.proofs.Comings.{Grows, class-outcome, closes-class, closing-is, ending-is, frames-are, lines-are, node_kind, test-outcome, well-is}
use Rattle.iso_lifecycle.proofs.body.Body.into_done.Goals as goal

pub done-requires-clause-end : goal.done-requires-clause-end
done-requires-clause-end c =
    let b = c.args.self in
    let o = b.origin in
    let s = subject_of_origin o in
    let a = end_account c.finish-end.result (account_in_run c.into_inner.result) in
    let stage : stage_of b.run.value ≡ ended a = ap stage_of (sym c.into_inner.ensures) ∙ c.finish-end.ensures in
    let grows : Grows s = c.chains_grow_down.ensures o.node o.inner in
    let class : IsOfClass s = subst (λ (k : BodyKind). is_kind_of k (node_kind s) ≡ true) c.in-BeforeAll.is o.fits in
    let come : a ≡ account_of (done_whole BeforeAll s) = subst (λ (k : BodyKind). HasCome k s (ended a)) c.in-BeforeAll.is (subst (λ (g : Stage). HasCome o.kind s g) stage b.come) in
    let left : b.frame ≡ Some s = subst (λ (k : BodyKind). HasLeft k s (ended a) b.frame) c.in-BeforeAll.is (subst (λ (g : Stage). HasLeft o.kind s g b.frame) stage b.left) in
    let ending : c.into_first.result ≡ (own_frame s).ending = c.into_first.ensures ∙ ap (λ (x : Account). first_ending x.endings) come ∙ ending-is s grows class o.enclosed in
    let opened : Openings.Opened = record { frame = c.in-Some.frame; ending = c.into_first.result; lines = c.finish-end.result.output } in
    let opening : IsOpening s opened = record {
      frame_is = cc (c.in-Some.is, left);
      ending_is = ending;
      lines_are = ap (λ (x : Account). x.lines) come ∙ lines-are s grows class o.enclosed;
      frames = frames-are s grows class o.enclosed;
      well = well-is s grows class o.enclosed ∙ ap is_well (sym ending);
    } in
    subst (λ (x : Openings.Opened). IsOpening s x) (sym c.opened-opening.ensures) opening

pub done-requires-in-Test-clause-end : goal.done-requires-in-Test-clause-end
done-requires-in-Test-clause-end c =
    let b = c.args.self in
    let o = b.origin in
    let s = subject_of_origin o in
    let a = end_account c.finish-end.result (account_in_run c.into_inner.result) in
    let stage : stage_of b.run.value ≡ ended a = ap stage_of (sym c.into_inner.ensures) ∙ c.finish-end.ensures in
    let grows : Grows s = c.chains_grow_down.ensures o.node o.inner in
    let fits : is_kind_of Test (node_kind s) ≡ true = subst (λ (k : BodyKind). is_kind_of k (node_kind s) ≡ true) c.in-Test.is o.fits in
    let come : a ≡ account_of (done_whole Test s) = subst (λ (k : BodyKind). HasCome k s (ended a)) c.in-Test.is (subst (λ (g : Stage). HasCome o.kind s g) stage b.come) in
    let combined = c.into_others.ensures ∙ ap (λ (x : Account). verdict x.endings) come in
    c.new-outcome.ensures ∙ (λ i. record { verdict = combined i; output = (come i).lines }) ∙ test-outcome s grows fits o.enclosed

pub done-requires-in-AfterAll-clause-end : goal.done-requires-in-AfterAll-clause-end
done-requires-in-AfterAll-clause-end c =
    let b = c.args.self in
    let o = b.origin in
    let s = subject_of_origin o in
    let a = end_account c.finish-end.result (account_in_run c.into_inner.result) in
    let stage : stage_of b.run.value ≡ ended a = ap stage_of (sym c.into_inner.ensures) ∙ c.finish-end.ensures in
    let grows : Grows s = c.chains_grow_down.ensures o.node o.inner in
    let class : IsOfClass s = closes-class (node_kind s) (subst (λ (k : BodyKind). is_kind_of k (node_kind s) ≡ true) c.in-AfterAll.is o.fits) in
    let come : a ≡ account_of (done_whole AfterAll s) = subst (λ (k : BodyKind). HasCome k s (ended a)) c.in-AfterAll.is (subst (λ (g : Stage). HasCome o.kind s g) stage b.come) in
    let ending = c.into_first-in-AfterAll.ensures ∙ ap (λ (x : Account). first_ending x.endings) come in
    record {
      ending_is = ending ∙ closing-is s grows class o.enclosed;
      outcome = class-outcome s grows class o.enclosed
          ∙ sym (λ i. record { verdict = verdict ((own_frame s).ending ∷ ending i ∷ []); output = (own_frame s).lines ++ (come i).lines });
    }
