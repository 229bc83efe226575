use Rattle.std.proofs.Common.{◌∙◌, sym, ap, ap₂}
use Rattle.iso_model.proofs.TreeLemmas.{first_body, second_body}
use Rattle.iso_model.specs.Syntax as S
use Rattle.iso_model.specs.Syntax.{Acts}
use Rattle.iso_model.specs.SyntaxView.{term_of, block_of, with_one, with_two}
use Rattle.iso_interp.specs.Runs.{pieces_of, run_rights, state_of}
use Rattle.iso_interp.proofs.Forms.{begun-as, begun-plain, same-pieces, stmt_of-let, stmt_of-assign, stmt_of-one, stmt_of-two, stmt_of-assume, stmt_of-if, stmt_of-if_else, stmt_of-repeat}
use Rattle.iso_interp.proofs.run.BlockRun.begin.Goals as goal

pub returns-in-Let-clause-begun : goal.returns-in-Let-clause-begun
returns-in-Let-clause-begun g c = begun-plain c.let_name.result (run_rights c.args.self.now) c.args.statement.now (S.let_name c.in-Let.name (term_of c.in-Let.value))
    (state_of c.args.self.now (g.T.Touch.content c.args.touch.now)) (state_of c.let_name.new.self (g.T.Touch.content c.args.touch.now)) (pieces_of c.args.self.now)
    (pieces_of c.let_name.new.self) (stmt_of-let c.args.statement.now _ _ c.in-Let.is) (same-pieces c.args.self.now c.let_name.new.self c.let_name.ensures.work) c.let_name.ensures.done

pub returns-in-Assign-clause-begun : goal.returns-in-Assign-clause-begun
returns-in-Assign-clause-begun g c = begun-plain c.assign.result (run_rights c.args.self.now) c.args.statement.now (S.assign c.in-Assign.name (term_of c.in-Assign.value))
    (state_of c.args.self.now (g.T.Touch.content c.args.touch.now)) (state_of c.assign.new.self (g.T.Touch.content c.args.touch.now)) (pieces_of c.args.self.now) (pieces_of c.assign.new.self)
    (stmt_of-assign c.args.statement.now _ _ c.in-Assign.is) (same-pieces c.args.self.now c.assign.new.self c.assign.ensures.work) c.assign.ensures.done

pub returns-in-One-clause-begun : goal.returns-in-One-clause-begun
returns-in-One-clause-begun g c = begun-plain c.perform_one.result (run_rights c.args.self.now) c.args.statement.now (with_one c.in-One.what (term_of c.in-One.operand))
    (state_of c.args.self.now (g.T.Touch.content c.args.touch.now)) (state_of c.perform_one.new.self (g.T.Touch.content c.perform_one.new.touch)) (pieces_of c.args.self.now)
    (pieces_of c.perform_one.new.self) (stmt_of-one c.args.statement.now _ _ c.in-One.is) (same-pieces c.args.self.now c.perform_one.new.self c.perform_one.ensures.work) c.perform_one.ensures.done

pub returns-in-Two-clause-begun : goal.returns-in-Two-clause-begun
returns-in-Two-clause-begun g c = begun-plain c.perform_two.result (run_rights c.args.self.now) c.args.statement.now (with_two c.in-Two.what (term_of c.in-Two.first) (term_of c.in-Two.second))
    (state_of c.args.self.now (g.T.Touch.content c.args.touch.now)) (state_of c.perform_two.new.self (g.T.Touch.content c.perform_two.new.touch)) (pieces_of c.args.self.now)
    (pieces_of c.perform_two.new.self) (stmt_of-two c.args.statement.now _ _ _ c.in-Two.is) (same-pieces c.args.self.now c.perform_two.new.self c.perform_two.ensures.work) c.perform_two.ensures.done

pub returns-in-Assume-clause-begun : goal.returns-in-Assume-clause-begun
returns-in-Assume-clause-begun g c = begun-plain c.assume.result (run_rights c.args.self.now) c.args.statement.now (S.assume (term_of c.in-Assume.condition) c.in-Assume.reason)
    (state_of c.args.self.now (g.T.Touch.content c.args.touch.now)) (state_of c.assume.new.self (g.T.Touch.content c.args.touch.now)) (pieces_of c.args.self.now) (pieces_of c.assume.new.self)
    (stmt_of-assume c.args.statement.now _ _ c.in-Assume.is) (same-pieces c.args.self.now c.assume.new.self c.assume.ensures.work) c.assume.ensures.done

pub returns-in-If-clause-begun : goal.returns-in-If-clause-begun
returns-in-If-clause-begun g c =
    let s = c.args.statement.now in
    let is = stmt_of-if s _ _ c.in-If.is
    ∙ ap₂ (λ (a b : Acts). (s.row, S.choice (term_of c.in-If.condition) a b)) (ap block_of (sym c.deref.ensures.value) ∙ sym c.of.ensures) (sym c.of-in-If.ensures) in
    begun-as c.choose.result (run_rights c.args.self.now) s (S.choice (term_of c.in-If.condition) c.of.result c.of-in-If.result) (state_of c.args.self.now (g.T.Touch.content c.args.touch.now))
    (state_of c.choose.new.self (g.T.Touch.content c.args.touch.now)) (pieces_of c.args.self.now) (pieces_of c.choose.new.self) is c.choose.ensures.begun

pub returns-in-IfElse-clause-begun : goal.returns-in-IfElse-clause-begun
returns-in-IfElse-clause-begun g c =
    let s = c.args.statement.now in
    let first = ap first_body (sym c.deref-in-IfElse.ensures) ∙ sym c.deref-in-IfElse-2.ensures.value in
    let second = ap second_body (sym c.deref-in-IfElse-3.ensures) ∙ sym c.deref-in-IfElse-4.ensures.value in
    let is = stmt_of-if_else s _ _ c.in-IfElse.is
    ∙ ap₂ (λ (a b : Acts). (s.row, S.choice (term_of c.in-IfElse.condition) a b)) (ap block_of first ∙ sym c.of-first.ensures) (ap block_of second ∙ sym c.of-second.ensures) in
    begun-as c.choose-in-IfElse.result (run_rights c.args.self.now) s (S.choice (term_of c.in-IfElse.condition) c.of-first.result c.of-second.result) (state_of c.args.self.now (g.T.Touch.content c.args.touch.now))
    (state_of c.choose-in-IfElse.new.self (g.T.Touch.content c.args.touch.now)) (pieces_of c.args.self.now) (pieces_of c.choose-in-IfElse.new.self) is c.choose-in-IfElse.ensures.begun

pub returns-in-Repeat-clause-begun : goal.returns-in-Repeat-clause-begun
returns-in-Repeat-clause-begun g c =
    let s = c.args.statement.now in
    let is = stmt_of-repeat s _ _ c.in-Repeat.is
    ∙ ap (λ (a : Acts). (s.row, S.repeat (term_of c.in-Repeat.count) a)) (ap block_of (sym c.deref-in-Repeat.ensures.value) ∙ sym c.of-in-Repeat.ensures) in
    begun-as c.repeat.result (run_rights c.args.self.now) s (S.repeat (term_of c.in-Repeat.count) c.of-in-Repeat.result) (state_of c.args.self.now (g.T.Touch.content c.args.touch.now))
    (state_of c.repeat.new.self (g.T.Touch.content c.args.touch.now)) (pieces_of c.args.self.now) (pieces_of c.repeat.new.self) is c.repeat.ensures.begun
