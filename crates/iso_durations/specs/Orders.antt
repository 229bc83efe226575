-- Which nodes are listed, and in which order.
use Rattle.std.specs.Prelude.{ℕ, List, [], ◌∷◌, Bool, ◌&&◌, ◌||◌, ◌==◌, cond, nat_lt, take}
use Rattle.std.specs.List.{list_any}

-- whether a node is listed before another: it took longer, or as long and is written before it
abbrev pub is_before : (micros : ℕ → ℕ) → ℕ → ℕ → Bool
is_before micros m n = nat_lt (micros n) (micros m) || (micros n == micros m && nat_lt m n)

-- a node, put into such a list before the first node that it is listed before
abbrev pub placed : (micros : ℕ → ℕ) → ℕ → List ℕ → List ℕ
placed micros n [] = n ∷ []
placed micros n (m ∷ ms) = cond (is_before micros n m) (n ∷ m ∷ ms) (m ∷ placed micros n ms)

-- nodes in the order in which they are listed: each put among the others
abbrev pub slowest_first : (micros : ℕ → ℕ) → List ℕ → List ℕ
slowest_first micros [] = []
slowest_first micros (n ∷ ns) = placed micros n (slowest_first micros ns)

-- the first `most`, or all where this is 0
abbrev pub first_of : {A : Type 0} → (most : ℕ) → List A → List A
first_of most all = cond (most == 0) all (take most all)

-- whether a node is among some
abbrev pub is_in : List ℕ → ℕ → Bool
is_in ns z = list_any (λ n. n == z) ns
