-- The largest of several classes.
use Rattle.std.specs.Prelude.{ℕ, List, [], ◌∷◌, cond, fold, nat_lt}
use Rattle.iso_explain_plan.specs.declared.size.Size.{Size}

-- a list by size, with one more behind those that are at least as large
abbrev pub put_by_size : List Size → Size → List Size
put_by_size [] new = new ∷ []
put_by_size (x ∷ xs) new = cond (nat_lt x.count new.count) (new ∷ x ∷ xs) (x ∷ put_by_size xs new)

-- by size, the largest first, equal ones in their order
abbrev pub by_size : List Size → List Size
by_size sizes = fold put_by_size [] sizes
