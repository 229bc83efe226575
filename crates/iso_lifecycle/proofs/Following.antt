-- What the jobs that are left come to, as the first of them is begun, ended or left out.
use Rattle.std.proofs.Common.{◌≡◌, ℕ, List, [], ◌∷◌, ◌++◌, length, take, drop, Bool, true, false, refl, sym, ap, ◌∙◌, true≢false, append-nil, arith}
use Rattle.std.proofs.lemmas.List.{take_all, take-append-drop}
use Rattle.iso_model.specs.Bodies.{Account, Beside, Stage, during, account_after, beside_job, job_environment, stage_at, stage_if, stage_from}
use Rattle.iso_model.specs.Jobs.{Job, is_due}
use Rattle.iso_model.specs.Statements.{Local}
use Rattle.iso_model.specs.Steps.{Piece, Point, first_point, is_done, point}
use Rattle.iso_model.specs.Syntax.{Acts, no_acts, act}
use Rattle.iso_model.specs.Environments.{Environment}
use Rattle.iso_model.specs.declared.outcome.Ending.TheVariants.{Well}
use Rattle.iso_interp.specs.Blocks.{is_empty}

pub left-out : (j : Job) (js : List Job) (a : Account) → is_due j a.endings ≡ false → stage_from js a ≡ stage_from (j ∷ js) a
left-out j js a late = ap (λ (b : Bool). stage_if b (stage_from js) j js a) (sym late)

pub goes-on : (follow : Account → Stage) (ps : List Piece) (l : Local) (n : ℕ) (b : Beside) (js : List Job) → is_done ps ≡ false → during (point ps l) n b js ≡ stage_at follow ps l n b js
goes-on follow [] l n b js some = absurd (true≢false some)
goes-on follow (p ∷ ps) l n b js some = refl

pub passes : (follow : Account → Stage) (ps : List Piece) (l : Local) (n : ℕ) (b : Beside) (js : List Job) → is_done ps ≡ true → follow (account_after n l b) ≡ stage_at follow ps l n b js
passes follow [] l n b js none = refl
passes follow (p ∷ ps) l n b js none = absurd (true≢false (sym none))

-- a job that is due
due : (j : Job) (js : List Job) (a : Account) → is_due j a.endings ≡ true
    → let env = job_environment j a in
    let p = first_point j.acts env in
    stage_at (stage_from js) p.pieces p.here (length env.names) (beside_job j a) js ≡ stage_from (j ∷ js) a
due j js a now = ap (λ (b : Bool). stage_if b (stage_from js) j js a) (sym now)

-- a job that is due, once its block was entered
pub entered : (j : Job) (js : List Job) (a : Account) (p : Point) (n : ℕ) (b : Beside) → is_due j a.endings ≡ true
    → p ≡ first_point j.acts (job_environment j a) → n ≡ length (job_environment j a).names → b ≡ beside_job j a
    → stage_at (stage_from js) p.pieces p.here n b js ≡ stage_from (j ∷ js) a
entered j js a p n b now is count beside = (λ i. stage_at (stage_from js) (is i).pieces (is i).here (count i) (beside i) js) ∙ due j js a now

no-acts : (acts : Acts) (follow : Account → Stage) (env : Environment) (b : Beside) (js : List Job) → is_empty acts ≡ true
    → follow (account_after (length env.names) (first_point no_acts env).here b)
    ≡ stage_at follow (first_point acts env).pieces (first_point acts env).here (length env.names) b js
no-acts no_acts follow env b js none = refl
no-acts (act row a acts) follow env b js none = absurd (true≢false (sym none))

-- what a body has once a block without statements ended, which began with all names that it sees
abbrev pub passed_over : Account → Account
passed_over a = record { names = a.names; printed = a.printed; lines = a.lines; endings = a.endings ++ Well ∷ [] }

-- a job that is due, whose block has no statement: it ends well where it begins
pub passed : (j : Job) (js : List Job) (a : Account) → is_due j a.endings ≡ true → is_empty j.acts ≡ true → stage_from js (passed_over a) ≡ stage_from (j ∷ js) a
passed j js a now empty =
    let xs = take j.seen a.names in
    let same : take (length xs) (take (length xs) xs) ++ drop j.seen a.names ≡ a.names =
    ap (λ ys. take (length xs) ys ++ drop j.seen a.names) (take_all (length xs) xs (omega arith))
    ∙ ap (λ ys. ys ++ drop j.seen a.names) (take_all (length xs) xs (omega arith)) ∙ take-append-drop j.seen a.names in
    ap (stage_from js) (λ i. record { names = sym same i; printed = a.printed; lines = sym (append-nil a.lines) i; endings = a.endings ++ Well ∷ [] })
    ∙ no-acts j.acts (stage_from js) (job_environment j a) (beside_job j a) js empty
    ∙ due j js a now

-- a block with a statement has something to do
pub has-first : (acts : Acts) (env : Environment) → is_empty acts ≡ false → is_done (first_point acts env).pieces ≡ false
has-first no_acts env some = absurd (true≢false some)
has-first (act row a acts) env some = refl
