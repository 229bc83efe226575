-- The names that a block has given before a row.
use Rattle.std.specs.Prelude.{ℕ, List, [], ◌∷◌, ◌++◌, Bool, false, ◌||◌, cond, nat_le, nat_lt}
use Rattle.iso_model.specs.Syntax.{Plain, let_name, Act, plain, choice, repeat, Acts, no_acts, act}

-- whether statements begin on a row or before it
abbrev pub reaches : (row : ℕ) → Acts → Bool
reaches row no_acts = false
reaches row (act r a rest) = nat_le r row

-- the names with that of a `let` more, if it stands before
abbrev pub plain_lets : (before : Bool) → Plain → List (List ℕ) → List (List ℕ)
plain_lets before (let_name x t) names = cond before (names ++ x ∷ []) names
plain_lets before p names = names

-- Names with those more that a body gave before a row and that are visible there: a statement
-- stands before it on an earlier row, or where another one after it begins on the row or before it.
-- A body that has ended by then gave none.
abbrev mutual
  pub lets : (row : ℕ) → Acts → List (List ℕ) → List (List ℕ)
  lets row no_acts names = names
  lets row (act r a rest) names =
      lets row rest (cond (nat_lt row r) names (begun_lets row r (reaches row rest) a names))

  -- the same of a statement that begins on the row or before it, and has ended there or not
  pub begun_lets : (row own : ℕ) → (ended : Bool) → Act → List (List ℕ) → List (List ℕ)
  begun_lets row own ended (plain p) names = plain_lets (ended || nat_lt own row) p names
  begun_lets row own ended (choice t a b) names =
      cond ended names (cond (reaches row b) (lets row b names) (lets row a names))
  begun_lets row own ended (repeat t a) names = cond ended names (lets row a names)

-- the same of a statement with those after it
abbrev pub act_lets : (row own : ℕ) → Act → (rest : Acts) → List (List ℕ) → List (List ℕ)
act_lets row own a rest names =
    cond (nat_lt row own) names (begun_lets row own (reaches row rest) a names)
