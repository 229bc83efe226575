use Rattle.std.proofs.Common.{◌≡◌, ◌+◌, [], ◌∷◌, ◌++◌, ℕ, List, Bool, true, false, cond, not, take, drop, refl, subst, ap, sym, ◌∙◌, arith}
use Rattle.std.proofs.lemmas.List.{drop_all, take_more}
use Rattle.iso_plan.proofs.Doubles.{double_after, double-is}
use Rattle.iso_plan.proofs.Growth.{drop_next}
use Rattle.iso_model.specs.NameSets.{Knows, is_among}
use Rattle.iso_plan.proofs.names.has_double.Goals as goal

-- a new name is none of those before it
not-fresh : (b fresh : Bool) → fresh ≡ not b → fresh ≡ true → b ≡ false
not-fresh false fresh e t = refl
not-fresh true fresh e t = sym t ∙ e

-- an old name is one of those before it
not-old : (b fresh : Bool) → fresh ≡ not b → fresh ≡ false → b ≡ true
not-old true fresh e t = refl
not-old false fresh e t = sym t ∙ e

pub names-preserved : goal.names-preserved
names-preserved c =
    let i = c.names.name-index in
    let ns = c.args.names.now in
    let name = c.name-item.result in
    let seen = take i ns in
    let claimed = c.in_ok-claim.ensures seen c.names.invariant.known in
    let more : take (i + 1) ns ≡ seen ++ name ∷ [] = take_more ns i name (omega arith) ∙ ap (λ (n : List ℕ). seen ++ n ∷ []) (sym c.name-item.is) in
    let next = drop_next name ns i (omega arith) c.name-item.is in
    let fresh : is_among seen name ≡ false = not-fresh (is_among seen name) c.in_ok-claim.field-0 (claimed.0 ∙ ap (λ (n : List ℕ). not (is_among seen n)) c.as_str.ensures) c.if-not-branch.false in
    record {
      known = subst (Knows c.claim.new.seen) (ap (λ (n : List ℕ). seen ++ n ∷ []) c.as_str.ensures ∙ sym more) claimed.1;
      same =
          ap (λ (ms : List (List ℕ)). double_after ms (drop (i + 1) ns)) more
          ∙ sym (ap (λ (b : Bool). cond b true (double_after (seen ++ name ∷ []) (drop (i + 1) ns))) fresh) ∙ rw next at c.names.invariant.same;
    }

pub returns-then-not-branch : goal.returns-then-not-branch
returns-then-not-branch c =
    let i = c.names.name-index in
    let ns = c.args.names.now in
    let name = c.name-item.result in
    let seen = take i ns in
    let next = drop_next name ns i (omega arith) c.name-item.is in
    let claimed = c.in_ok-claim.ensures seen c.names.invariant.known in
    let old : is_among seen name ≡ true = not-old (is_among seen name) c.in_ok-claim.field-0 (claimed.0 ∙ ap (λ (n : List ℕ). not (is_among seen n)) c.as_str.ensures) c.if-not-branch.true in
    sym (ap (λ (b : Bool). cond b true (double_after (seen ++ name ∷ []) (drop (i + 1) ns))) old) ∙ rw next at c.names.invariant.same ∙ double-is ns

pub returns : goal.returns
returns c = rw (drop_all c.names.name-index c.args.names.now (omega arith)) at c.names.invariant.same ∙ double-is c.args.names.now
