use Rattle.std.proofs.Common.{rules, List, get_or, None, Option, ℕ, ap, length, sym, ◌∙◌}
use Rattle.std.proofs.lemmas.List.{length-replicate}
use Rattle.iso_desk.specs.Crews.{fresh}
use Rattle.iso_desk.specs.Places.{TableView, place_of}
use Rattle.iso_desk.specs.declared.crew.Member.{Member}
use Rattle.iso_desk.specs.declared.place.Place.TheVariants.{Closed}
use Rattle.iso_floor.specs.Schedulers.{is_entered, loose_in, with_in}
use Rattle.iso_floor.proofs.BusyLemmas.{none-busy}
use Rattle.iso_floor.proofs.LooseLemmas.{none-loose}
use Rattle.iso_floor.proofs.LooseLemmas.{all-closed}
use Rattle.iso_floor.specs.Parties.{owner_of}
use Rattle.iso_floor.proofs.PartyLemmas.{none-owned, stand-closed}
use Rattle.iso_floor.specs.Successions.{passed_in}
use Rattle.iso_floor.proofs.RemainderLemmas.{left-first}
use Rattle.iso_floor.proofs.SuccessionLemmas.{none-passed, turns-first}
use Rattle.iso_floor.proofs.scheduler.Scheduler.closed.Goals as goal

pub invariant_of-result : goal.invariant_of-result
invariant_of-result c =
    let busy = c.in_ok-vec-4.ensures.items_if_clones_equal (λ y h. search rules) in
    record {
      crew =
          ap (λ (ms : List Member). length ms) c.in_ok-new-2.ensures ∙ length-replicate c.args.workers fresh
          ∙ sym (ap (λ (t : TableView). t.workers) c.in_ok-new.ensures);
      loose_are = sym (ap (λ (t : TableView). loose_in t.places) c.in_ok-new.ensures ∙ none-loose c.len.result);
      busy_long = ap (λ (bs : List ℕ). length bs) busy ∙ length-replicate c.args.workers 0 ∙ sym (ap (λ (t : TableView). t.workers) c.in_ok-new.ensures);
      busy_are = λ w low.
          ap (λ (bs : List ℕ). get_or bs w 0) busy ∙ none-passed c.args.workers w
          ∙ sym (ap (λ (t : TableView). with_in t.places w) c.in_ok-new.ensures ∙ none-busy c.len.result w);
      idle = λ w waits. ap (λ (t : TableView). with_in t.places w) c.in_ok-new.ensures ∙ none-busy c.len.result w;
    }

pub returns-clause-places : goal.returns-clause-places
returns-clause-places c = λ m. ap (λ (t : TableView). is_entered (place_of t.places m)) c.in_ok-new.ensures ∙ ap is_entered (all-closed c.len.result m)

pub returns-clause-stands : goal.returns-clause-stands
returns-clause-stands c =
    λ p. stand-closed p _ _ (λ m. ap (λ (t : TableView). place_of t.places m) c.in_ok-new.ensures ∙ all-closed c.len.result m)

pub returns-clause-owners : goal.returns-clause-owners
returns-clause-owners c =
    let empty = c.in_ok-vec-2.ensures.items_if_clones_equal (λ y h. search rules) in
    λ m. ap (λ (os : List (Option ℕ)). owner_of os m) empty ∙ none-owned c.len-nodes.result m

pub returns-clause-turns : goal.returns-clause-turns
returns-clause-turns c =
    let passed = c.in_ok-vec.ensures.items_if_clones_equal (λ y h. search rules) in
    let owners = c.in_ok-vec-2.ensures.items_if_clones_equal (λ y h. search rules) in
    turns-first c.args.plan.now _ (ap (λ (t : TableView). length t.places) c.in_ok-new.ensures ∙ length-replicate c.len.result Closed ∙ c.len.ensures)
    (ap (λ (os : List (Option ℕ)). length os) owners ∙ length-replicate c.len-nodes.result None ∙ c.len-nodes.ensures)
    (ap (λ (ps : List ℕ). length ps) passed ∙ length-replicate c.len-nodes.result 0 ∙ c.len-nodes.ensures)
    (λ m. ap (λ (ps : List ℕ). passed_in ps m) passed ∙ none-passed c.len-nodes.result m)
    (λ m. ap (λ (t : TableView). is_entered (place_of t.places m)) c.in_ok-new.ensures ∙ ap is_entered (all-closed c.len.result m))

pub returns-clause-left : goal.returns-clause-left
returns-clause-left c =
    left-first c.args.plan.now _ c.in_ok-left_of.ensures
    (λ m. ap (λ (t : TableView). is_entered (place_of t.places m)) c.in_ok-new.ensures ∙ ap is_entered (all-closed c.len.result m))
