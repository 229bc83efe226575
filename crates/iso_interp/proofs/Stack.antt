-- The stack of the pieces that are still to be done.
use Rattle.std.proofs.Common.{◌≡◌, ◌<◌, ◌+◌, map, sym, true, false, true≢false, ℕ, zero, suc, arith, List, [], ◌∷◌, ◌++◌, reverse, Option, Some, None, option_to_list, append-nil, refl, length, take, ap, ◌∙◌, add-one}
use Rattle.std.proofs.Math.Seq.{take-length}
use Rattle.std.proofs.lemmas.List.{reverse-append}
use Rattle.iso_model.specs.Rights.{Rights}
use Rattle.iso_model.specs.Environments.{Environment}
use Rattle.iso_model.specs.Resources.{Resources}
use Rattle.iso_model.specs.Statements.{Local, State, with_names}
use Rattle.iso_model.specs.Steps.{Piece, rest, turning, leave_done, point, begin, followed_by, step_at, some_left, is_done}
use Rattle.iso_model.specs.Syntax.{Act, Acts, act, no_acts}
use Rattle.iso_model.specs.declared.outcome.Ending.{Ending}
use Rattle.iso_interp.specs.Blocks.{is_empty}
use Rattle.iso_interp.specs.Runs.{first_piece, piece_of, pieces_in}
use Rattle.iso_interp.specs.declared.run.Pending.{Pending}
use Rattle.iso_interp.specs.declared.run.Pending.TheVariants.{Rest}

pub reverse-pop : {X : Type 0} (xs : List X) (o : Option X) → reverse (xs ++ option_to_list o) ≡ option_to_list o ++ reverse xs
reverse-pop xs None = rw append-nil
reverse-pop xs (Some x) = reverse-append xs (x ∷ [])

-- a body with a statement left, and turns that are left, stay
pub leave-rest : (k : ℕ) (acts : Acts) (ps : List Piece) (l : Local) → is_empty acts ≡ false → leave_done (rest k acts ∷ ps) l ≡ point (rest k acts ∷ ps) l
leave-rest k no_acts ps l some = absurd (true≢false some)
leave-rest k (act row a acts) ps l some = refl

pub leave-turning : (row n : ℕ) (a : Acts) (ps : List Piece) (l : Local) → 0 < n → leave_done (turning row n a ∷ ps) l ≡ point (turning row n a ∷ ps) l
leave-turning row zero a ps l some = absurd (omega arith)
leave-turning row (suc n) a ps l some = refl

pub leave-top_rest : (top : Option Pending) (p : Pending) (k : ℕ) (acts : Acts) (below : List Pending) (l : Local)
    → top ≡ Some p → p ≡ Rest k acts → is_empty acts ≡ false → leave_done (pieces_in top below) l ≡ point (pieces_in top below) l
leave-top_rest top p k acts below l is_some is_rest some = rw (is_some, is_rest) (leave-rest k acts (map piece_of (reverse below)) l some)

-- a state, by its environment
abbrev pub in_env : List (List ℕ) → Ending → Resources → Environment → State
in_env lines ending m env = record { here = record { env = env; lines = lines; ending = ending }; resources = m }

-- the step of a body does its first statement, in the environment that has a step less
pub first-act : (r : Rights) (k row : ℕ) (a : Act) (acts : Acts) (ps : List Piece) (env new : Environment) (lines : List (List ℕ)) (ending : Ending) (m : Resources)
    → env ≡ record new { steps = new.steps + 1 }
    → step_at r (rest k (act row a acts) ∷ ps) env.steps (in_env lines ending m env) ≡ followed_by (begin r row a (in_env lines ending m new)) (rest k acts ∷ ps)
first-act r k row a acts ps env new lines ending m taken =
    ap (λ (e : Environment). step_at r (rest k (act row a acts) ∷ ps) e.steps (in_env lines ending m e)) taken
    ∙ ap (λ (n : ℕ). step_at r (rest k (act row a acts) ∷ ps) n (in_env lines ending m (record new { steps = new.steps + 1 }))) (add-one new.steps)

-- a block at its beginning has all its statements to do, and one without a statement has ended
pub begun-block : (k : ℕ) (acts : Acts) (l : Local) → k ≡ length l.env.names → point (pieces_in (first_piece k acts) []) l ≡ leave_done (rest k acts ∷ []) l
begun-block k no_acts l all = sym (ap (λ xs. point [] (with_names xs l)) (ap (λ n. take n l.env.names) all ∙ take-length l.env.names))
begun-block k (act row a acts) l all = refl

-- whether pieces are left, and how many
pub some-left : (ps : List Piece) → is_done ps ≡ false → some_left ps ≡ 1
some-left [] e = absurd (true≢false e)
some-left (p ∷ ps) e = refl

pub none-left : (ps : List Piece) → is_done ps ≡ true → ps ≡ []
none-left [] e = refl
none-left (p ∷ ps) e = absurd (true≢false (sym e))
