-- The text of a node, from those of its children.
use Rattle.std.proofs.Common.{◌≡◌, ◌<◌, ◌≤◌, ℕ, zero, suc, ◌+◌, List, [], ◌∷◌, ◌++◌, length, get_or, drop, Bool, cond, codes, flat_map, refl, ap, ap₂, ◌∙◌, append_assoc, arith}
use Rattle.std.specs.List.{AllByRecursion}
use Rattle.std.proofs.lemmas.List.Elements.{recursion_from_All}
use Rattle.iso_html.specs.Nodes.{name_text}
use Rattle.iso_html.specs.Trees.{inside_text, node_text, node_within, opening_text}
use Rattle.iso_junit.specs.Cases.{is_a_test}
use Rattle.iso_junit.specs.Runs.{RunView}
use Rattle.iso_model.specs.declared.outcome.Outcome.{Outcome}
use Rattle.iso_plan.specs.Paths.{IsTree, children}
use Rattle.iso_plan.specs.Tree.{Row}
use Rattle.iso_settings.specs.declared.settings.Settings.{Settings}
use Rattle.iso_tap.proofs.PrinterLemmas.{drop_next}
use Rattle.iso_tap.proofs.Within.{IsChild, children-are}

-- the texts from one on, with the first apart
pub texts-next : (text : ℕ → List ℕ) (end : List ℕ) (ns : List ℕ) (i d : ℕ) → i < length ns
    → flat_map text (drop i ns) ++ end ≡ text (get_or ns i d) ++ (flat_map text (drop (i + 1) ns) ++ end)
texts-next text end ns i d less =
    ap (λ (ms : List ℕ). flat_map text ms ++ end) (drop_next ns i d less) ∙ append_assoc (text (get_or ns i d)) (flat_map text (drop (i + 1) ns)) end

texts_same : (tree : List Row) (m : ℕ) (f g : ℕ → List ℕ) → ((n : ℕ) → IsChild tree m n → f n ≡ g n) → (ns : List ℕ) → AllByRecursion (IsChild tree m) ns → flat_map f ns ≡ flat_map g ns
texts_same tree m f g same [] h = refl
texts_same tree m f g same (n ∷ ns) h = ap₂ (λ (a b : List ℕ). a ++ b) (same n h.0) (texts_same tree m f g same ns h.1)

-- the line of a node, by equal parts
pub name-same : (n : ℕ) {b c : Bool} {o p : Outcome} {s t : List ℕ} → b ≡ c → o ≡ p → s ≡ t → name_text b o.verdict s n ≡ name_text c p.verdict t n
name-same n e f h = rw (e, f, h) refl

module _ (r : RunView) (s : Settings) (t : IsTree r.tree) where
  -- the text of a node, by that of its children
  abbrev pub shown : (text : ℕ → List ℕ) → ℕ → List ℕ
  shown text n = opening_text r s n ++ inside_text r text n ++ codes "</details></li>\n"

  shown_same : (n : ℕ) (f g : ℕ → List ℕ) → ((c : ℕ) → IsChild r.tree n c → f c ≡ g c) → shown f n ≡ shown g n
  shown_same n f g same =
      ap (λ (inside : List ℕ). opening_text r s n ++ cond (is_a_test r n) [] (codes "<ul>\n" ++ inside ++ codes "</ul>\n") ++ codes "</details></li>\n")
      (texts_same r.tree n f g same (children r.tree n) (recursion_from_All (IsChild r.tree n) (children r.tree n) (children-are r.tree n t)))

  text_enough : (d e n : ℕ) → n < length r.tree → length r.tree ≤ n + d → length r.tree ≤ n + e → node_within d r s n ≡ node_within e r s n
  text_enough zero e n h k l = absurd (omega arith)
  text_enough (suc d) zero n h k l = absurd (omega arith)
  text_enough (suc d) (suc e) n h k l =
      shown_same n (node_within d r s) (node_within e r s)
      (λ c is. text_enough d e c is.2 (let less = is.1 in omega arith) (let less = is.1 in omega arith))

  text_from : (d n : ℕ) → 0 < n → n < length r.tree → length r.tree ≡ d → node_within d r s n ≡ shown (node_text r s) n
  text_from zero n pos h e = absurd (omega arith)
  text_from (suc d) n pos h e =
      shown_same n (node_within d r s) (node_text r s)
      (λ c is. text_enough d (length r.tree) c is.2 (let less = is.1 in omega arith) (omega arith))

  pub text-down : (n : ℕ) → 0 < n → n < length r.tree → node_text r s n ≡ shown (node_text r s) n
  text-down n pos h = text_from (length r.tree) n pos h refl
