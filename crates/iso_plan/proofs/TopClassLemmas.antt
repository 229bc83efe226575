-- Top-level classes of nodes, by way of the node that each stands in.
use Rattle.std.proofs.Common.{◌≡◌, ℕ, ◌<◌, List, Option, Some, None, Bool, true, false, ◌==◌, cond, refl, sym, ap, ◌∙◌, arith}
use Rattle.std.proofs.lemmas.Bool.Decides.{nat_tests}
use Rattle.std.specs.Option.{option_or, unwrap_or}
use Rattle.iso_plan.proofs.PathLemmas.{IsBelow, path-root, path-step}
use Rattle.iso_plan.proofs.TopLemmas.{no-top, top}
use Rattle.iso_plan.specs.Paths.{outermost, parent}
use Rattle.iso_plan.specs.TopClasses.{top_class}
use Rattle.iso_plan.specs.Tree.{Row}

pub top_class-root : (tree : List Row) → top_class tree 0 ≡ 0
top_class-root tree = ap (λ (ns : List ℕ). unwrap_or (outermost (λ m. true) ns) 0) (path-root tree)

-- the top-level class of a node in the class with this number, whose own one is given
abbrev pub top_in : (class above n : ℕ) → ℕ
top_in class above n = cond (class == 0) n above

by_above : (n p : ℕ) (o : Option ℕ) → (o ≡ None → p ≡ 0) → (p ≡ 0 → o ≡ None) → unwrap_or (option_or o (Some n)) 0 ≡ top_in p (unwrap_or o 0) n
by_above n p None none root = let e : p ≡ 0 = none refl in rw e refl
by_above n p (Some t) none root =
    let apart : (p == 0) ≡ false = elim (p == 0) as (λ (b : Bool). (p == 0) ≡ b → (p == 0) ≡ false) [
      | true ↦ λ e. let zero : p ≡ 0 = grind (arith, nat_tests) in let no : Some t ≡ None = root zero in absurd (cc)
      | false ↦ λ e. e
    ] refl in
    sym (ap (λ (b : Bool). cond b n t) apart)

pub top_class-step : (tree : List Row) → IsBelow tree → (n : ℕ) → 0 < n → top_class tree n ≡ top_in (parent tree n) (top_class tree (parent tree n)) n
top_class-step tree b n pos =
    ap (λ (ns : List ℕ). unwrap_or (outermost (λ m. true) ns) 0) (path-step tree b n pos)
    ∙ by_above n (parent tree n) (top tree (parent tree n)) (no-top tree b (parent tree n)) (λ e. ap (top tree) e ∙ ap (outermost (λ m. true)) (path-root tree))
