-- The longest of chains, one after another.
use Rattle.std.proofs.Common.{◌≡◌, ℕ, ◌+◌, ◌-◌, ◌<◌, List, Bool, true, false, cond, map, nat_lt, sym, ap, ◌∙◌}
use Rattle.std.specs.List.{fold, range_with_len}
use Rattle.iso_conflicts.proofs.RangeLemmas.{range-next}
use Rattle.iso_conflicts.specs.Chains.{IsOf, longer}
use Rattle.iso_conflicts.specs.declared.longest.Chain.{Chain}
use Rattle.iso_plan.specs.Tree.{Row}

-- a chain more
pub longest-step : (g : ℕ → Chain) (len n : ℕ) → n < len → (best new whole : Chain) → new ≡ longer best (g n)
    → fold longer best (map g (range_with_len n (len - n))) ≡ whole → fold longer new (map g (range_with_len (n + 1) (len - (n + 1)))) ≡ whole
longest-step g len n h best new whole e k =
    ap (λ b. fold longer b (map g (range_with_len (n + 1) (len - (n + 1))))) e
    ∙ sym (ap (λ ns. fold longer best (map g ns)) (range-next len n h)) ∙ k

known_by : (tree : List Row) (a b : Chain) (t : Bool) → IsOf tree a.shared → IsOf tree b.shared → IsOf tree (cond t b a).shared
known_by tree a b true x y = y
known_by tree a b false x y = x

-- the longer of two is one of them
pub longer-known : (tree : List Row) (a b : Chain) → IsOf tree a.shared → IsOf tree b.shared → IsOf tree (longer a b).shared
longer-known tree a b x y = known_by tree a b (nat_lt a.tests b.tests) x y
