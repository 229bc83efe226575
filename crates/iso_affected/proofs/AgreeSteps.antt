-- Nodes agree where they agree on what they have themselves and the classes that they stand in agree.
use Rattle.std.proofs.Common.{◌≡◌, ℕ, ◌<◌, List, [], ◌∷◌, ◌++◌, length, true, false, Some, None, refl, sym, ap, ap₂, ◌∙◌, inl, inr}
use Rattle.iso_affected.proofs.MarkLemmas.{readable-either, readable-first}
use Rattle.iso_affected.specs.Agreeing.{NodesAgree, OwnAgree}
use Rattle.iso_lifecycle.specs.Subjects.{started, subject}
use Rattle.iso_model.specs.Chains.{ClassHead}
use Rattle.iso_model.specs.Rights.{is_readable, rights_of}
use Rattle.iso_model.specs.declared.heads.Mark.{Mark}
use Rattle.iso_plan.proofs.LawLemmas.{readable-down, rights-step}
use Rattle.iso_plan.proofs.PathLemmas.{chain-step}
use Rattle.iso_plan.specs.KeyTable.{kind_marks}
use Rattle.iso_plan.specs.NodeChains.{chain_classes, class_heads, node_rights, own_test}
use Rattle.iso_plan.specs.Paths.{IsTree, is_class_or_test, is_test, parent, row_at}
use Rattle.iso_plan.specs.Planned.{Planned}
use Rattle.iso_plan.specs.RowView.{tree_of}
use Rattle.iso_plan.specs.Tree.{Kind, root, class_node, test_node}
use Rattle.iso_settings.specs.Worlds.{Start}
use Rattle.iso_suites.specs.PlanSuites.{head_of}
use Rattle.iso_suites.specs.ScriptLanguage.{of_class, of_test, marks_on}

own-test : (k : Kind) → is_test k ≡ false → own_test k ≡ None
own-test root e = refl
own-test (class_node isolated head) e = refl
own-test (test_node head) e = let wrong : true ≡ false = e in absurd (cc)

own-marks : (k : Kind) → marks_on (head_of k) ≡ kind_marks k
own-marks root = refl
own-marks (class_node isolated head) = refl
own-marks (test_node head) = refl

-- equal heads are those of equal tests, or of equal classes
test-of-head : (k l : Kind) → is_class_or_test k ≡ true → is_class_or_test l ≡ true → head_of k ≡ head_of l → own_test k ≡ own_test l
test-of-head root l e d h = let wrong : false ≡ true = e in absurd (cc)
test-of-head (class_node i c) root e d h = let wrong : false ≡ true = d in absurd (cc)
test-of-head (class_node i c) (class_node j g) e d h = refl
test-of-head (class_node i c) (test_node g) e d h = let wrong : of_class c ≡ of_test g = h in absurd (cc)
test-of-head (test_node c) root e d h = let wrong : false ≡ true = d in absurd (cc)
test-of-head (test_node c) (class_node j g) e d h = let wrong : of_test c ≡ of_class g = h in absurd (cc)
test-of-head (test_node c) (test_node g) e d h = let whole : of_test c ≡ of_test g = h in let equal : c ≡ g = cc in ap Some equal

class-of-head : (k l : Kind) → is_class_or_test k ≡ true → is_class_or_test l ≡ true → head_of k ≡ head_of l → class_heads k ≡ class_heads l
class-of-head root l e d h = let wrong : false ≡ true = e in absurd (cc)
class-of-head (class_node i c) root e d h = let wrong : false ≡ true = d in absurd (cc)
class-of-head (class_node i c) (class_node j g) e d h = let whole : of_class c ≡ of_class g = h in let equal : c ≡ g = cc in ap (λ (b : ClassHead). b ∷ []) equal
class-of-head (class_node i c) (test_node g) e d h = let wrong : of_class c ≡ of_test g = h in absurd (cc)
class-of-head (test_node c) root e d h = let wrong : false ≡ true = d in absurd (cc)
class-of-head (test_node c) (class_node j g) e d h = let wrong : of_test c ≡ of_class g = h in absurd (cc)
class-of-head (test_node c) (test_node g) e d h = refl

-- equal chains have equal first heads, and equal rests
record AreParted (k l : Kind) (cs ds : List ClassHead) : Type 0 where
  pub head : head_of k ≡ head_of l
  pub rest : cs ≡ ds

parted : (k l : Kind) (cs ds : List ClassHead) → is_class_or_test k ≡ true → is_class_or_test l ≡ true → own_test k ≡ own_test l → class_heads k ++ cs ≡ class_heads l ++ ds → AreParted k l cs ds
parted root l cs ds e d t h = let wrong : false ≡ true = e in absurd (cc)
parted (class_node i c) root cs ds e d t h = let wrong : false ≡ true = d in absurd (cc)
parted (class_node i c) (class_node j g) cs ds e d t h =
    let whole : c ∷ cs ≡ g ∷ ds = h in
    let first : c ≡ g = cc in
    let rest : cs ≡ ds = cc in
    record { head = ap of_class first; rest = rest }
parted (class_node i c) (test_node g) cs ds e d t h = let wrong : None ≡ Some g = t in absurd (cc)
parted (test_node c) root cs ds e d t h = let wrong : false ≡ true = d in absurd (cc)
parted (test_node c) (class_node j g) cs ds e d t h = let wrong : Some c ≡ None = t in absurd (cc)
parted (test_node c) (test_node g) cs ds e d t h =
    let whole : Some c ≡ Some g = t in
    let equal : c ≡ g = cc in
    record { head = ap of_test equal; rest = h }

module _ (old new : Planned) (t : IsTree (tree_of old)) (u : IsTree (tree_of new)) (before after : Start) (m n : ℕ)
    (above : 0 < m) (within : m < length (tree_of old)) (further : 0 < n) (inside : n < length (tree_of new)) where
  abbrev one : Kind
  one = (row_at (tree_of old) m).kind

  abbrev other : Kind
  other = (row_at (tree_of new) n).kind

  abbrev p : ℕ
  p = parent (tree_of old) m

  abbrev q : ℕ
  q = parent (tree_of new) n

  abbrev Own : Type 0
  Own = OwnAgree before after (head_of one) (head_of other)

  abbrev Above : Type 0
  Above = NodesAgree (subject old before p) (subject new after q)

  abbrev Whole : Type 0
  Whole = NodesAgree (subject old before m) (subject new after n)

  started-by : Own → Above → (k : List ℕ) → is_readable (node_rights (tree_of old) m k) ≡ true → started before k ≡ started after k
  started-by own up k e =
      elim (readable-either (rights_of (kind_marks one) k) (node_rights (tree_of old) p k) (ap is_readable (sym (rights-step (tree_of old) t m k above)) ∙ e)) [
        | inl h ↦ own.starts.same k (ap (λ (ms : List Mark). is_readable (rights_of ms k)) (own-marks one) ∙ h)
        | inr h ↦ up.starts.same k h
      ]

  pub agree-down : Own → Above → Whole
  agree-down own up = record {
    classes =
        chain-step (tree_of old) t.below m above
        ∙ ap₂ (λ (cs ds : List ClassHead). cs ++ ds) (class-of-head one other (t.full m above within) (u.full n further inside) own.head) up.classes
        ∙ sym (chain-step (tree_of new) u.below n further);
    test = test-of-head one other (t.full m above within) (u.full n further inside) own.head;
    starts = record { same = started-by own up };
  }

  parts : Whole → AreParted one other (chain_classes (tree_of old) p) (chain_classes (tree_of new) q)
  parts whole =
      parted one other _ _ (t.full m above within) (u.full n further inside) whole.test
      (sym (chain-step (tree_of old) t.below m above) ∙ whole.classes ∙ chain-step (tree_of new) u.below n further)

  own-readable : (k : List ℕ) → is_readable (rights_of (marks_on (head_of one)) k) ≡ true → is_readable (node_rights (tree_of old) m k) ≡ true
  own-readable k e =
      ap is_readable (rights-step (tree_of old) t m k above)
      ∙ readable-first (rights_of (kind_marks one) k) (node_rights (tree_of old) p k) (ap (λ (ms : List Mark). is_readable (rights_of ms k)) (sym (own-marks one)) ∙ e)

  pub agree-own : Whole → Own
  agree-own whole = record { head = (parts whole).head; starts = record { same = λ k e. whole.starts.same k (own-readable k e) } }

  pub agree-up : Whole → Above
  agree-up whole = record {
    classes = (parts whole).rest;
    test = own-test (row_at (tree_of old) p).kind (t.inner m above) ∙ sym (own-test (row_at (tree_of new) q).kind (u.inner n further));
    starts = record { same = λ k e. whole.starts.same k (readable-down (tree_of old) t m k above e) };
  }
