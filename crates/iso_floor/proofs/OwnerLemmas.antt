-- Who has opened up a class is its owner in the book, after each event, and so what stands in another worker's line is refused.
use Rattle.std.proofs.Common.{◌≡◌, ◌≢◌, ℕ, ◌<◌, List, length, set, Option, Some, None, is_none, true, not, ap, sym, subst, ◌∙◌, inl, inr, refl}
use Rattle.std.proofs.lemmas.Bool.{cases_eq}
use Rattle.std.proofs.Math.Dec.{eqb}
use Rattle.iso_book.specs.Books.{BookView, new_book, refusal_in, state_in, suite_in}
use Rattle.iso_book.specs.Progress.{HasEntered, HasGoneOn, HasShut, StayEntered, has_come, owner_in, phase_in}
use Rattle.iso_desk.specs.Places.{IsEmpty, StandsIn}
use Rattle.iso_desk.specs.declared.line.KeyLine.{KeyLine}
use Rattle.iso_desk.specs.declared.line.Line.{Line}
use Rattle.iso_desk.specs.declared.line.Line.TheVariants.{Key, Own}
use Rattle.iso_desk.specs.declared.line.Party.{Party}
use Rattle.iso_desk.specs.declared.line.Party.TheVariants.{Everyone, Worker}
use Rattle.iso_floor.specs.Desks.{AreOwners, IsEnteredBy, IsOpenFor}
use Rattle.iso_floor.specs.Parties.{BelongsTo, IsOwned, StandRightly, owner_of}
use Rattle.iso_floor.specs.Schedulers.{SchedulerView}
use Rattle.iso_isolation.proofs.Accepted.{not_refused, shut_passes}
use Rattle.iso_isolation.specs.Refusals as Why
use Rattle.iso_lifecycle.specs.declared.kind.BodyKind.{BodyKind}
use Rattle.iso_lifecycle.specs.declared.kind.BodyKind.TheVariants.{AfterAll, BeforeAll, Test}
use Rattle.iso_plan.specs.Paths.{IsTree, parent}
use Rattle.iso_plan.specs.Planned.{Planned}
use Rattle.iso_plan.specs.RowView.{tree_of}
use Rattle.iso_settings.specs.Worlds.{Start}
use Rattle.iso_standing.specs.declared.event.Event.TheVariants.{Enter, Shut}
use Rattle.iso_standing.specs.declared.phase.Phase.{Phase}
use Rattle.iso_standing.specs.declared.phase.Phase.TheVariants as P
use Rattle.iso_suites.specs.ScriptLanguage.{scripts}
use Rattle.iso_floor.proofs.ComingLemmas.{owner-by, waiting-told}
use Rattle.iso_floor.proofs.PartyLemmas.{owner-told, same-refused}

-- an event of a node, whose worker stays the same
pub owners-after : (b c : BookView) (n : ℕ) (owners : List (Option ℕ)) → c.plan ≡ b.plan → StayEntered n b c → phase_in c n ≢ P.Waiting → ((v : ℕ) → IsEnteredBy b n v → owner_in c n ≡ v)
    → AreOwners b owners → AreOwners c owners
owners-after b c n owners plans others came own are m v e =
    let was = are m v e in
    let within : m < length c.plan.rows = subst (λ (p : Planned). m < length p.rows) (sym plans) was.within in
    elim (cases_eq m n) [
      | inl same ↦
          record {
            within = within;
            phase = subst (λ (j : ℕ). phase_in c j ≢ P.Waiting) (sym same) came;
            owner = ap (owner_in c) same ∙ own v (subst (λ (j : ℕ). IsEnteredBy b j v) same was);
          }
      | inr other ↦
          record {
            within = within;
            phase = λ w. was.phase (sym (others.phases m was.within other was.phase) ∙ w);
            owner = others.owners m was.within other was.phase ∙ was.owner;
          }
    ]

pub owners-entered : (b c : BookView) (w n : ℕ) (owners : List (Option ℕ)) → c.plan ≡ b.plan → HasEntered w n b c → refusal_in b (Enter w n) ≡ None → AreOwners b owners → AreOwners c owners
owners-entered b c w n owners plans has allowed are =
    owners-after b c n owners plans has.others (λ e. let wrong : P.Begun ≡ P.Waiting = sym has.phase ∙ e in absurd (cc)) (λ v h. absurd (h.phase (waiting-told b w n allowed))) are

-- who shuts a class is its owner
shut-owner : (b : BookView) (w n : ℕ) → refusal_in b (Shut w n) ≡ None → owner_in b n ≡ w
shut-owner b w n none =
    let passes = shut_passes scripts (suite_in b) b.workers (state_in b) w n (ap (λ (o : Option Why.Refused). is_none o) none) in
    owner-by (owner_in b n) w (not_refused (not (eqb (owner_in b n) w)) Why.NotOwner passes.owner)

pub owners-shut : (b c : BookView) (w n : ℕ) (owners : List (Option ℕ)) → c.plan ≡ b.plan → HasShut w n b c → refusal_in b (Shut w n) ≡ None → AreOwners b owners → AreOwners c owners
owners-shut b c w n owners plans has allowed are =
    owners-after b c n owners plans has.others (λ e. let wrong : P.Closing ≡ P.Waiting = sym has.phase ∙ e in absurd (cc)) (λ v h. has.owner ∙ sym (shut-owner b w n allowed) ∙ h.owner) are

come-entered : (k : BodyKind) (p : Phase) → has_come k p ≡ true → p ≢ P.Waiting
come-entered BeforeAll p e w = let wrong : has_come BeforeAll P.Waiting ≡ true = ap (has_come BeforeAll) (sym w) ∙ e in absurd (cc)
come-entered Test p e w = let wrong : has_come Test P.Waiting ≡ true = ap (has_come Test) (sym w) ∙ e in absurd (cc)
come-entered AfterAll p e w = let wrong : has_come AfterAll P.Waiting ≡ true = ap (has_come AfterAll) (sym w) ∙ e in absurd (cc)

pub owners-left : (k : BodyKind) (b c : BookView) (n : ℕ) (owners : List (Option ℕ)) → c.plan ≡ b.plan → HasGoneOn k n b c → AreOwners b owners → AreOwners c owners
owners-left k b c n owners plans has are = owners-after b c n owners plans has.others (come-entered k (phase_in c n) has.phase) (λ v h. has.owner ∙ h.owner) are

pub owners-stopped : (b : BookView) (owners : List (Option ℕ)) → AreOwners b owners → AreOwners (record b { stopped = true }) owners
owners-stopped b owners are n v e = let was = are n v e in record { within = was.within; phase = was.phase; owner = was.owner }

-- at first worker 0 owns the root
pub owners-new : (plan : Planned) (start : Start) (workers : ℕ) (owners : List (Option ℕ)) → IsTree (tree_of plan) → ((n v : ℕ) → owner_of owners n ≡ Some v → (n ≡ 0) × (v ≡ 0))
    → AreOwners (new_book plan start workers) owners
owners-new plan start workers owners tree first n v e =
    let is = first n v e in
    let b = new_book plan start workers in
    subst (λ (j : ℕ). IsEnteredBy b j v) (sym is.0)
    (record { within = tree.rooted; phase = λ w. let wrong : P.Open ≡ P.Waiting = w in absurd (cc); owner = sym is.1 })

-- a class is opened up by its owner
pub one-owner : (b : BookView) (owners : List (Option ℕ)) (class o : ℕ) → IsOpenFor b class o → AreOwners b owners → (v : ℕ) → owner_of owners class ≡ Some v → v ≡ o
one-owner b owners class o is are v e = sym (are class v e).owner ∙ is.owner

pub owners-opened : (b : BookView) (owners : List (Option ℕ)) (class o : ℕ) → IsOpenFor b class o → AreOwners b owners → AreOwners b (set owners class (Some o))
owners-opened b owners class o is are n v e =
    elim (owner-told owners class o n v e) [
      | inl here ↦
          subst (λ (j : ℕ). IsEnteredBy b j v) (sym here.0)
          (record { within = is.within; phase = λ w. let wrong : P.Open ≡ P.Waiting = sym is.phase ∙ w in absurd (cc); owner = is.owner ∙ sym here.1 })
      | inr other ↦ are n v other
    ]

-- what stands in another worker's line is refused to a worker
module _ (b : BookView) (s : SchedulerView) (w : ℕ) (are : AreOwners b s.owners) (right : StandRightly b.plan s.owners s.table.places) (n : ℕ) where
  owned-refused : (v : ℕ) → v ≢ w → IsOwned b.plan s.owners n v → refusal_in b (Enter w n) ≢ None
  owned-refused v other (inl e) none = (are n v e).phase (waiting-told b w n none)
  owned-refused v other (inr h) none = same-refused b w n v h.0 (are (parent (tree_of b.plan) n) v h.1).owner other none

  key-refused : (k : KeyLine) (p : Party) → k.party ≡ p → StandsIn s.table.places (Key k) n → BelongsTo b.plan s.owners n p
      → ((l : KeyLine) → l.party ≡ Worker w → StandsIn s.table.places (Key l) n → refusal_in b (Enter w n) ≢ None)
      → ((l : KeyLine) → l.party ≡ Everyone → StandsIn s.table.places (Key l) n → refusal_in b (Enter w n) ≢ None) → refusal_in b (Enter w n) ≢ None
  key-refused k Everyone e stands own alone others = others k e stands
  key-refused k (Worker v) e stands own alone others =
      elim (cases_eq v w) [
        | inl same ↦ alone k (e ∙ ap (λ (j : ℕ). Worker j) same) stands
        | inr other ↦ owned-refused v other own
      ]

  pub line-refused : (l : Line) → StandsIn s.table.places l n → IsEmpty s.table.places (Own w)
      → ((l : KeyLine) → l.party ≡ Worker w → StandsIn s.table.places (Key l) n → refusal_in b (Enter w n) ≢ None)
      → ((l : KeyLine) → l.party ≡ Everyone → StandsIn s.table.places (Key l) n → refusal_in b (Enter w n) ≢ None) → refusal_in b (Enter w n) ≢ None
  line-refused (Own v) stands empty alone others =
      elim (cases_eq v w) [
        | inl same ↦ absurd (empty n (subst (λ (j : ℕ). StandsIn s.table.places (Own j) n) same stands))
        | inr other ↦ owned-refused v other (right n (Own v) stands)
      ]
  line-refused (Key k) stands empty alone others = key-refused k k.party refl stands (right n (Key k) stands) alone others
