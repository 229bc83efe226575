-- A tray alone is ready for a body: its keys stand as the openings before the body have left them.
-- Nothing here speaks of vault, results or frames.
use Rattle.std.proofs.Common.{◌≡◌, ℕ, ◌<◌, List, [], ◌∷◌, ◌++◌, length, Option, Some, None, true, refl, sym, ap, ◌∙◌}
use Rattle.iso_lifecycle.specs.Subjects.{begun, begun_closing, begun_opening, begun_testing, classes_of, enclosing, opening_of, rights_of_subject, started, subject}
use Rattle.iso_lifecycle.specs.WholeBodies.{IsReadyFor}
use Rattle.iso_lifecycle.specs.declared.kind.BodyKind.TheVariants.{BeforeAll, Test, AfterAll}
use Rattle.iso_locks.specs.Trays.{TrayView, content, has_value, is_lent}
use Rattle.iso_model.specs.ChainAgreement.{EqualAt}
use Rattle.iso_model.specs.Chains.{ClassHead, TestHead}
use Rattle.iso_model.specs.Openings.{Opening, opening}
use Rattle.iso_model.specs.Resources.{Resources}
use Rattle.iso_model.specs.Rights.{Rights}
use Rattle.iso_plan.proofs.PathLemmas.{chain-step}
use Rattle.iso_plan.specs.NodeChains.{chain_classes, chain_test, class_heads}
use Rattle.iso_plan.specs.Paths.{IsTree, is_test, parent, row_at}
use Rattle.iso_plan.specs.Planned.{Planned}
use Rattle.iso_plan.specs.RowView.{tree_of}
use Rattle.iso_plan.specs.Tree as T
use Rattle.iso_plan.specs.Tree.{root, class_node, test_node, Row}
use Rattle.iso_settings.specs.Worlds.{Start}
use Rattle.iso_serial.proofs.TrayLemmas.{tray-equal, tray-keys}
use Rattle.iso_serial.specs.OpenedTrays.{StandsAsOpened}

opening-resources : (cs : List ClassHead) (o : Opening) → (begun_opening cs o).resources ≡ o.resources
opening-resources [] o = refl
opening-resources (c ∷ cs) o = refl

closing-resources : (cs : List ClassHead) (o : Opening) → (begun_closing cs o).resources ≡ o.resources
closing-resources [] o = refl
closing-resources (c ∷ cs) o = refl

testing-resources : (t : Option TestHead) (cs : List ClassHead) (o : Opening) → (begun_testing t cs o).resources ≡ o.resources
testing-resources None cs o = refl
testing-resources (Some t) cs o = refl

no-heads : (kind : T.Kind) → is_test kind ≡ true → class_heads kind ≡ []
no-heads root e = absurd (cc)
no-heads (class_node isolated head) e = absurd (cc)
no-heads (test_node head) e = refl

equal-to : (r : Rights) (m x y : Resources) → EqualAt r m x → y ≡ x → EqualAt r m y
equal-to r m x y e same = record { same = λ k readable. e.same k readable ∙ ap (λ (z : Resources). z k) (sym same) }

module _ (plan : Planned) (world : Start) (t : IsTree (tree_of plan)) (n : ℕ) (u : TrayView) (pos : 0 < n) (within : n < length (tree_of plan)) (lent : is_lent u.lent n ≡ true) where
  abbrev tr : List Row
  tr = tree_of plan

  -- for a test, which is entered
  pub test-ready : is_test (row_at tr n).kind ≡ true → StandsAsOpened plan world n (parent tr n) u → IsReadyFor (subject plan world n) Test (content u) (has_value u)
  test-ready e st =
      let s = subject plan world n in
      let above : chain_classes tr n ≡ chain_classes tr (parent tr n) = chain-step tr t.below n pos
      ∙ ap (λ (hs : List ClassHead). hs ++ chain_classes tr (parent tr n)) (no-heads (row_at tr n).kind e) in
      record {
        keys = tray-keys plan world t u n (parent tr n) pos within lent st;
        stands = equal-to (rights_of_subject s) (content u) (opening_of (subject plan world (parent tr n))).resources (begun Test s).resources
            (tray-equal plan world t u n (parent tr n) pos within lent st)
            (testing-resources (chain_test tr n) (classes_of s) (opening_of s) ∙ ap (λ (hs : List ClassHead). (opening hs (started world)).resources) above);
      }

  -- for the `before_all` of a class, which is entered
  pub opening-ready : StandsAsOpened plan world n (parent tr n) u → IsReadyFor (subject plan world n) BeforeAll (content u) (has_value u)
  opening-ready st =
      let s = subject plan world n in
      record {
        keys = tray-keys plan world t u n (parent tr n) pos within lent st;
        stands = equal-to (rights_of_subject s) (content u) (opening_of (enclosing s)).resources (begun BeforeAll s).resources (tray-equal plan world t u n (parent tr n) pos within lent st)
            (opening-resources (classes_of s) (opening_of (enclosing s)));
      }

  -- for the `after_all` of a class that was opened
  pub closing-ready : StandsAsOpened plan world n n u → IsReadyFor (subject plan world n) AfterAll (content u) (has_value u)
  closing-ready st =
      let s = subject plan world n in
      record {
        keys = tray-keys plan world t u n n pos within lent st;
        stands = equal-to (rights_of_subject s) (content u) (opening_of s).resources (begun AfterAll s).resources (tray-equal plan world t u n n pos within lent st)
            (closing-resources (classes_of s) (opening_of s));
      }
