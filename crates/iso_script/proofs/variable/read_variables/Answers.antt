use Rattle.std.proofs.Common.{◌++◌, ◌∷◌, [], sym, subst, refl, arith, rules}
use Rattle.std.proofs.lemmas.Result.{err_from_is_err_and}
use Rattle.iso_script.specs.Variables.{Declared, IsDeclared}
use Rattle.iso_script.proofs.Readings.{read_push}
use Rattle.iso_script.proofs.Variables.{comes_to_none, comes_to_static, comes_to_field, knows_more, knows_both, stays_free, next_declared, declared_shorter}
use Rattle.iso_script.proofs.variable.read_variables.Goals as goal

pub written-init : goal.written-init
written-init c = rw (c.new.ensures.items, c.new-2.ensures.items) ([], refl, λ n. search rules, comes_to_none, λ taken all. tt)

pub returns-in_err-variable-clause-read : goal.returns-in_err-variable-clause-read
returns-in_err-variable-clause-read c = λ taken all.
    let p = err_from_is_err_and c.from_residual.result c.from_residual.ensures.1 in
    let i = c.written.invariant in
    rw (p.1, p.2) (λ vs rest h.
    let n = next_declared taken i.0 _ _ c.in-Some.word i.1 (sym c.in-Some.ensures) vs rest h in
    c.in_err-variable.ensures.only taken _ all i.2 n.0.variable n.1 (subst (λ w. IsDeclared (record { word = w; variable = n.0.variable }) c.written.parser.lexer n.1) n.3 n.2) n.4)

pub written-smaller-in-Continue-branch-2 : goal.written-smaller-in-Continue-branch-2
written-smaller-in-Continue-branch-2 c = omega (arith, declared_shorter c.in_ok-variable.ensures.found)

pub written-preserved-in-Continue-branch-2 : goal.written-preserved-in-Continue-branch-2
written-preserved-in-Continue-branch-2 c =
    let i = c.written.invariant in
    let v = c.in_ok-variable.ensures in
    let fresh = v.fresh _ i.2 in
    let d : Declared = record { word = c.in-Some.word; variable = c.in_ok-variable.variable } in
    rw c.in_ok-push-in-Static.ensures.items (
      i.0 ++ d ∷ [],
      read_push IsDeclared _ _ _ _ _ i.1 v.found,
      knows_more _ i.0 d fresh.1,
      comes_to_static i.0 _ _ _ c.in-Static.is i.3 fresh.0,
      λ taken all. stays_free taken i.0 d
          (i.4 taken all) (v.free taken all),
    )

pub written-smaller : goal.written-smaller
written-smaller c = omega (arith, declared_shorter c.in_ok-variable.ensures.found)

pub written-preserved : goal.written-preserved
written-preserved c =
    let i = c.written.invariant in
    let v = c.in_ok-variable.ensures in
    let fresh = v.fresh _ i.2 in
    let d : Declared = record { word = c.in-Some.word; variable = c.in_ok-variable.variable } in
    rw c.in_ok-push-in-Field.ensures.items (
      i.0 ++ d ∷ [],
      read_push IsDeclared _ _ _ _ _ i.1 v.found,
      knows_more _ i.0 d fresh.1,
      comes_to_field i.0 _ _ _ c.in-Field.is i.3 fresh.0,
      λ taken all. stays_free taken i.0 d
          (i.4 taken all) (v.free taken all),
    )

pub returns-clause-names : goal.returns-clause-names
returns-clause-names c = let i = c.written.invariant in knows_both _ i.0 _ i.3 i.2
