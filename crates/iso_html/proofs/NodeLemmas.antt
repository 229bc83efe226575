-- What is told of a node, part by part.
use Rattle.std.proofs.Common.{◌≡◌, ◌<◌, ℕ, zero, suc, List, [], ◌++◌, length, Bool, false, ◌==◌, cond, codes, refl, sym, ap, ◌∙◌, arith, append_assoc}
use Rattle.std.proofs.lemmas.List.Concat.{flat_map-append}
use Rattle.iso_failures.specs.Blocking.{blocked_by}
use Rattle.iso_failures.specs.Failures.{is_failure}
use Rattle.iso_failures.specs.Nodes.{has_failed}
use Rattle.iso_html.specs.Commands.{CommandsView, again_text}
use Rattle.iso_html.specs.Nodes.{printed_text, wrong_text}
use Rattle.iso_html.specs.Quotes.{LineView, quoted}
use Rattle.iso_html.specs.Pages.{failure_text}
use Rattle.iso_junit.specs.Elements.{lines_text}
use Rattle.iso_junit.specs.Escapes.{escaped}
use Rattle.iso_junit.specs.Runs.{PlacedView, RunView, place}
use Rattle.iso_model.specs.declared.outcome.Outcome.{Outcome}
use Rattle.iso_model.specs.declared.outcome.Verdict.{Verdict}
use Rattle.iso_model.specs.declared.outcome.Verdict.TheVariants.{Pass, Fail, Fault, Skipped, Blocked}
use Rattle.iso_plan.specs.PathTexts.{path_text}

pub printed-apart : (ls ms : List (List ℕ)) → (length (ls ++ ms) == 0) ≡ false
    → printed_text (ls ++ ms) ≡ codes "<pre>\n" ++ lines_text ls ++ lines_text ms ++ codes "</pre>\n"
printed-apart ls ms h =
    ap (λ (b : Bool). cond b [] (codes "<pre>\n" ++ lines_text (ls ++ ms) ++ codes "</pre>\n")) h
    ∙ ap (λ (t : List ℕ). codes "<pre>\n" ++ t ++ codes "</pre>\n") (flat_map-append (λ (l : List ℕ). escaped l ++ codes "\n") ls ms)
    ∙ ap (λ (t : List ℕ). t ++ codes "</pre>\n") (sym (append_assoc (codes "<pre>\n") (lines_text ls) (lines_text ms)))

-- of a node that didn't fail nothing went wrong
wrong-by : (v : Verdict) (path : List ℕ) (n : ℕ) (at : PlacedView) (lines : List LineView) (blocked : ℕ) (output : List (List ℕ)) (again : List ℕ)
    → wrong_text v path n at lines blocked output again ≡ cond (has_failed v) (wrong_text v path n at lines blocked output again) []
wrong-by Pass path n at lines blocked output again = refl
wrong-by (Fail note) path n at lines blocked output again = refl
wrong-by (Fault kind note) path n at lines blocked output again = refl
wrong-by (Skipped note) path n at lines blocked output again = refl
wrong-by (Blocked note) path n at lines blocked output again = refl

pub failure-by : (r : RunView) (quotes : List (List LineView)) (commands : CommandsView) (n : ℕ) → 0 < n
    → failure_text r quotes commands n ≡ cond (is_failure r.outcome n) (failure_text r quotes commands n) []
failure-by r quotes commands zero h = absurd (omega arith)
failure-by r quotes commands (suc n) h =
    wrong-by (r.outcome (suc n)).verdict (path_text r.tree (suc n)) (suc n) (place r (suc n)) (quoted quotes (suc n)) (blocked_by r.tree r.outcome (suc n)) (r.outcome (suc n)).output
    (again_text commands r.tree (suc n) (place r (suc n)))

-- what went wrong, by equal parts
pub wrong-same : (path : List ℕ) (n : ℕ) (again : PlacedView → List ℕ) {at at' : PlacedView} {ls ls' : List LineView} {b b' : ℕ} {o o' : Outcome} → at ≡ at' → ls ≡ ls' → b ≡ b' → o ≡ o'
    → wrong_text o.verdict path n at ls b o.output (again at) ≡ wrong_text o'.verdict path n at' ls' b' o'.output (again at')
wrong-same path n again e f h k = rw (e, f, h, k) refl
