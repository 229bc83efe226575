-- The bytes that are counted are those of the lines that were printed.
use Rattle.std.proofs.Common.{◌≡◌, ℕ, ◌+◌, List, [], ◌∷◌, ◌++◌, append-nil, append_assoc, refl, sym, ap, ◌∙◌, arith}
use Rattle.iso_model.specs.Blocks.{begun, block}
use Rattle.iso_model.specs.Changes.{PrintsMore, bytes_of}
use Rattle.iso_model.specs.Environments.{Environment}
use Rattle.iso_model.specs.Resources.{Resources}
use Rattle.iso_model.specs.Rights.{Rights}
use Rattle.iso_model.specs.Statements.{Local, State}
use Rattle.iso_model.specs.Steps.{Piece, Machine, step, finish}
use Rattle.iso_model.specs.Syntax.{Acts}
use Rattle.iso_model.proofs.Effects.{Effect, nothing, local, assignment, line, fault, failure, skip, change}
use Rattle.iso_model.proofs.Keeps.{Keeps, run-keeps, finish-keeps, step-keeps}

bytes_of-append : (xs ys : List (List ℕ)) → bytes_of (xs ++ ys) ≡ bytes_of xs + bytes_of ys
bytes_of-append [] ys = omega arith
bytes_of-append (x ∷ xs) ys = let e = bytes_of-append xs ys in omega arith

-- nothing is printed
silent : (l t : Local) → t.lines ≡ l.lines → t.env.printed ≡ l.env.printed → PrintsMore l t
silent l t same bytes = record { lines = []; printed = same ∙ sym (append-nil l.lines); counted = omega arith }

then_printed : (l t u : Local) → PrintsMore l t → PrintsMore t u → PrintsMore l u
then_printed l t u first second = record {
  lines = first.lines ++ second.lines;
  printed = second.printed ∙ ap (λ (ls : List (List ℕ)). ls ++ second.lines) first.printed ∙ append_assoc l.lines first.lines second.lines;
  counted = let a = first.counted in
      let b = second.counted in
      omega (arith, bytes_of-append first.lines second.lines);
}

effect-prints : (r : Rights) (s t : State) → Effect r s t → PrintsMore s.here t.here
effect-prints r s t nothing = silent _ _ refl refl
effect-prints r s t (local b) = silent _ _ refl refl
effect-prints r s t (assignment x d names e) = silent _ _ refl refl
effect-prints r s t (line text room) = record { lines = text ∷ []; printed = refl; counted = omega arith }
effect-prints r s t (fault row f) = silent _ _ refl refl
effect-prints r s t (failure row message) = silent _ _ refl refl
effect-prints r s t (skip row reason) = silent _ _ refl refl
effect-prints r s t (change k c w) = silent _ _ refl refl

module _ (r : Rights) where
  prints-kept : Keeps r (λ s t. PrintsMore s.here t.here)
  prints-kept = record {
    same = λ s. silent _ _ refl refl;
    onward = λ s t u first second. then_printed s.here t.here u.here first second;
    effect = effect-prints r;
    step = λ s n. silent _ _ refl refl;
    end = λ s row. silent _ _ refl refl;
    scope = λ s t more. record { lines = more.lines; printed = more.printed; counted = more.counted };
  }

  pub finish-prints : (ps : List Piece) (s : State) → PrintsMore s.here (finish r ps s).here
  finish-prints ps s = finish-keeps r (λ s t. PrintsMore s.here t.here) prints-kept (λ s n. silent _ _ refl refl) ps s

  pub step-prints : (m : Machine) → PrintsMore m.state.here (step r m).state.here
  step-prints m = step-keeps r (λ s t. PrintsMore s.here t.here) prints-kept (λ s n. silent _ _ refl refl) m

  pub block-counts : (acts : Acts) (env : Environment) (m : Resources) → (block r acts env m).here.env.printed ≡ env.printed + bytes_of (block r acts env m).here.lines
  block-counts acts env m =
      let more = run-keeps r (λ s t. PrintsMore s.here t.here) prints-kept acts (record { here = begun env; resources = m }) in
      more.counted ∙ ap (λ (ls : List (List ℕ)). env.printed + bytes_of ls) (sym more.printed)
