-- The lines of what failed, node by node.
use Rattle.std.proofs.Common.{◌≡◌, ◌≤◌, ℕ, zero, suc, ◌+◌, List, [], ◌∷◌, ◌++◌, length, Bool, true, false, cond, nat_le, flat_map, codes, refl, sym, ap, ◌∙◌, arith, add-one, append_assoc, append-nil, length-append}
use Rattle.std.proofs.lemmas.Bool.Decides.{nat_tests}
use Rattle.std.proofs.lemmas.List.Concat.{flat_map-append}
use Rattle.iso_plan.proofs.NumberLemmas.{those-next, those-skip}
use Rattle.iso_plan.specs.PathTexts.{path_text}
use Rattle.iso_plan.specs.KeptNodes.{those_below}
use Rattle.iso_plan.specs.Tree.{Row}
use Rattle.iso_failures.specs.Failures.{path_line}

-- a list begins with another
pub record Begins (whole part : List ℕ) : Type 0 where
  pub rest : List ℕ
  pub is : whole ≡ part ++ rest

module _ (p : ℕ → Bool) where
  begins_next : (m n : ℕ) (t : Bool) → p n ≡ t → Begins (those_below p n) (those_below p m) → Begins (those_below p (suc n)) (those_below p m)
  begins_next m n true e h =
      record { rest = h.rest ++ n ∷ []; is = those-next p n e ∙ ap (λ (ns : List ℕ). ns ++ n ∷ []) h.is ∙ append_assoc (those_below p m) h.rest (n ∷ []) }
  begins_next m n false e h = record { rest = h.rest; is = those-skip p n e ∙ h.is }

  begins_same : (m n : ℕ) → m ≡ n → Begins (those_below p n) (those_below p m)
  begins_same m n e = record { rest = []; is = ap (those_below p) (sym e) ∙ sym (append-nil (those_below p m)) }

  -- those below a number begin with those below a smaller one
  pub those-begin : (m n : ℕ) → m ≤ n → Begins (those_below p n) (those_below p m)
  those-begin m zero h = begins_same m zero (omega arith)
  those-begin m (suc n) h =
      elim (nat_le m n) as (λ t. nat_le m n ≡ t → Begins (those_below p (suc n)) (those_below p m)) [
        | true ↦ λ e. let less : m ≤ n = grind (arith, nat_tests) in begins_next m n (p n) refl (those-begin m n less)
        | false ↦ λ e. let same : m ≡ suc n = grind (arith, nat_tests) in begins_same m (suc n) same
      ] refl

module _ (line : ℕ → List ℕ) (p : ℕ → Bool) where
  -- the lines of those below a number
  abbrev pub lines_below : ℕ → List ℕ
  lines_below n = flat_map line (those_below p n)

  next_by : (n : ℕ) (t : Bool) → p n ≡ t → lines_below (suc n) ≡ lines_below n ++ cond t (line n) []
  next_by n true e =
      ap (flat_map line) (those-next p n e) ∙ flat_map-append line (those_below p n) (n ∷ [])
      ∙ ap (λ (l : List ℕ). lines_below n ++ l) (append-nil (line n))
  next_by n false e = ap (flat_map line) (those-skip p n e) ∙ sym (append-nil (lines_below n))

  pub lines-next : (n : ℕ) → lines_below (n + 1) ≡ lines_below n ++ cond (p n) (line n) []
  lines-next n = ap lines_below (add-one n) ∙ next_by n (p n) refl

  -- what comes after them
  pub lines-rest : (m n : ℕ) → m ≤ n → Begins (lines_below n) (lines_below m)
  lines-rest m n h =
      let b = those-begin p m n h in
      record { rest = flat_map line b.rest; is = ap (flat_map line) b.is ∙ flat_map-append line (those_below p m) b.rest }

-- where there are no lines there are no nodes
lines_some : (tree : List Row) (n : ℕ) (ns : List ℕ) → flat_map (path_line tree) (n ∷ ns) ≡ [] → ⊥
lines_some tree n ns h =
    let long : length ((path_text tree n ++ codes "\n") ++ flat_map (path_line tree) ns) ≡ 0 = ap length h in
    let parts = length-append (path_text tree n ++ codes "\n") (flat_map (path_line tree) ns) in
    let first = length-append (path_text tree n) (codes "\n") in
    absurd (omega arith)

pub lines-none : (tree : List Row) (ns : List ℕ) → flat_map (path_line tree) ns ≡ [] → ns ≡ []
lines-none tree [] h = refl
lines-none tree (n ∷ ns) h = absurd (lines_some tree n ns h)
