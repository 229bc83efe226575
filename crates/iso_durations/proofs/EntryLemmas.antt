-- The entries that are listed.
use Rattle.std.proofs.Common.{◌≡◌, ◌<◌, ℕ, zero, suc, List, length, map, Option, true, sym, ap, subst, ◌∙◌, arith, true≢false}
use Rattle.std.proofs.lemmas.List.Elements.{All-map, All-weaker}
use Rattle.std.specs.List.{All}
use Rattle.iso_durations.specs.Durations.{durations_text, text_of}
use Rattle.iso_durations.specs.Entries.{IsListed, entry}
use Rattle.iso_durations.specs.Listed.{listed}
use Rattle.iso_durations.specs.Orders.{first_of, slowest_first}
use Rattle.iso_durations.specs.Tallies.{tally}
use Rattle.iso_durations.specs.Times.{is_measured, measured, micros}
use Rattle.iso_durations.specs.declared.tally.Tally.{Tally}
use Rattle.iso_durations.specs.declared.durations.Timed.{Timed}
use Rattle.iso_durations.proofs.ListLemmas.{first-every, first-map, slowest-every}
use Rattle.iso_durations.proofs.TimesLemmas.{those-all}
use Rattle.iso_plan.specs.Planned.{Planned}
use Rattle.iso_plan.specs.RowView.{tree_of}

module _ (plan : Planned) (times : List (Option ℕ)) (most : ℕ) where
  abbrev of : ℕ → Timed
  of n = entry (micros times) n

  abbrev slowest : List ℕ
  slowest = slowest_first (micros times) (measured (tree_of plan) times)

  above : (n : ℕ) → is_measured times n ≡ true → 0 < n
  above zero h = absurd (true≢false (sym h))
  above (suc n) h = omega arith

  both : (n : ℕ) → (is_measured times n ≡ true) × (n < length plan.rows) → IsListed plan (of n)
  both n h = record { above = above n h.0; within = h.1 }

  -- the first entries are those of the nodes that are listed
  pub entries-listed : (es : List Timed) → es ≡ map of slowest → first_of most es ≡ map of (listed (tree_of plan) times most)
  entries-listed es e = ap (first_of most) e ∙ first-map of most slowest

  -- each is that of a node of the plan
  pub nodes-listed : (es : List Timed) → es ≡ map of slowest → All (IsListed plan) (first_of most es)
  nodes-listed es e =
      let every : All (λ n. IsListed plan (of n)) (measured (tree_of plan) times) =
      All-weaker (λ n. (is_measured times n ≡ true) × (n < length plan.rows)) (λ n. IsListed plan (of n)) both (measured (tree_of plan) times) (those-all (is_measured times) (length plan.rows)) in
      let ordered = slowest-every (λ n. IsListed plan (of n)) (micros times) (measured (tree_of plan) times) every in
      first-every (IsListed plan) most es (subst (All (IsListed plan)) (sym e) (All-map (IsListed plan) of slowest ordered))

  -- so the text that lists them is that of the slowest
  pub text-is : (es : List Timed) (c : Tally) → es ≡ map of slowest → c ≡ tally (tree_of plan) times (measured (tree_of plan) times)
      → text_of (tree_of plan) (first_of most es) c ≡ durations_text (tree_of plan) times most
  text-is es c e f = ap (λ (l : List Timed). text_of (tree_of plan) l c) (entries-listed es e) ∙ ap (text_of (tree_of plan) (map of (listed (tree_of plan) times most))) f
