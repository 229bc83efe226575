-- An `assert_equal` goes on where its values have no difference to tell.
use Rattle.std.proofs.Common.{◌≡◌, ℕ, Some, None, Result, Ok, Err, Bool, true, false, cond, refl}
use Rattle.iso_model.specs.Evaluation.{Given, is_equal, then}
use Rattle.iso_model.specs.Statements.{State, expects, fails, upon}
use Rattle.iso_model.specs.Texts.{difference_message}
use Rattle.iso_model.specs.declared.data.Data.{Data}
use Rattle.iso_model.specs.declared.fault.Fault.{Fault}
use Rattle.iso_interp.specs.Runs.{said}
use Rattle.iso_interp.specs.Values.{difference}

expects_at : (row : ℕ) (x y : Data) (s : State) (e : Result Bool Fault)
    → upon row e s (λ holds. cond holds s (fails row (difference_message x y) s)) ≡ upon row (then e (λ holds. Ok (cond holds None (Some (difference_message x y))))) s (said row s)
expects_at row x y s (Ok true) = refl
expects_at row x y s (Ok false) = refl
expects_at row x y s (Err fault) = refl

pub expects-difference : (row : ℕ) (a b : Given) (s : State) → upon row a s (λ x. upon row b s (λ y. expects row x y s)) ≡ upon row (difference a b) s (said row s)
expects-difference row (Ok x) (Ok y) s = expects_at row x y s (is_equal x y)
expects-difference row (Ok x) (Err fault) s = refl
expects-difference row (Err fault) b s = refl
