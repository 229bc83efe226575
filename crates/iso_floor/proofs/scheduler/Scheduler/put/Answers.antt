use Rattle.std.proofs.Common.{◌≡◌, ◌<◌, ◌+◌, ◌^◌, ℕ, List, ap, false, get_or, length, subst, sym, true, ◌∙◌}
use Rattle.iso_desk.specs.declared.line.Line.TheVariants.{Key}
use Rattle.iso_desk.specs.Places.{StandsIn, TableView, place_of}
use Rattle.iso_floor.specs.Schedulers.{IsFree, SchedulerView, besides, is_loose, loose_in, with_in, without}
use Rattle.iso_desk.specs.Crews.{member_of}
use Rattle.iso_desk.specs.declared.place.Place.{Place}
use Rattle.iso_floor.proofs.BusyLemmas.{besides-long, busy-moved, busy-room, none-moved, without-long}
use Rattle.iso_floor.proofs.LooseLemmas.{has-room, recount, was-counted}
use Rattle.iso_floor.proofs.RightLemmas.{line-moved}
use Rattle.iso_floor.proofs.SchedulerLemmas.{put-kept}
use Rattle.iso_floor.specs.Schedulers.{IsMoved}
use Rattle.iso_floor.proofs.PlaceLemmas.{moved-put, moved-set}
use Rattle.iso_floor.specs.Parties.{StandRightly}
use Rattle.iso_floor.proofs.PartyLemmas.{stand-moved}
use Rattle.iso_floor.proofs.scheduler.Scheduler.put.Goals as goal

pub recounted-self-inside-requires-clause-was : goal.recounted-self-inside-requires-clause-was
recounted-self-inside-requires-clause-was c =
    let places = c.self.inside.table.places in
    let f : IsFree places c.args.node = subst (λ (s : SchedulerView). IsFree s.table.places c.args.node) (sym c.self.view_is) (c.is_free.ensures.free.0 c.if-is_free.true) in
    was-counted places c.args.node c.self.inside.loose c.is_loose.result f.within c.self.invariant.loose_are (c.is_loose.ensures ∙ ap is_loose c.place-was.ensures)

pub recounted-self-inside-requires-clause-room : goal.recounted-self-inside-requires-clause-room
recounted-self-inside-requires-clause-room c =
    let places = c.self.inside.table.places in
    let f : IsFree places c.args.node = subst (λ (s : SchedulerView). IsFree s.table.places c.args.node) (sym c.self.view_is) (c.is_free.ensures.free.0 c.if-is_free.true) in
    let few : length places < 2 ^ 64 = subst (λ (s : SchedulerView). length s.table.places < 2 ^ 64) (sym c.self.view_is) c.is_free.ensures.few in
    has-room places c.args.node c.self.inside.loose c.args.place c.is_loose.result c.is_loose-then-is_free.result f.within few c.self.invariant.loose_are
    (c.is_loose.ensures ∙ ap is_loose c.place-was.ensures) c.is_loose-then-is_free.ensures

pub join_worker-requires : goal.join_worker-requires
join_worker-requires c =
    let places = c.self.inside.table.places in
    let f : IsFree places c.args.node = subst (λ (s : SchedulerView). IsFree s.table.places c.args.node) (sym c.self.view_is) (c.is_free.ensures.free.0 c.if-is_free.true) in
    let few : length places < 2 ^ 64 = subst (λ (s : SchedulerView). length s.table.places < 2 ^ 64) (sym c.self.view_is) c.is_free.ensures.few in
    λ w e.
    subst (λ (bs : List ℕ). get_or bs w 0 + 1 < 2 ^ 64) (sym (c.leave_worker.ensures ∙ ap (λ (p : Place). without p c.self.inside.busy.items) c.place-was.ensures))
    (busy-room places c.self.inside.busy.items c.args.node c.args.place f.within
    (λ v low. c.self.invariant.busy_are v (subst (λ (k : ℕ). v < k) c.self.invariant.busy_long low)) few w e)

pub invariant_of-self : goal.invariant_of-self
invariant_of-self c =
    let places = c.self.inside.table.places in
    let n = c.args.node in
    let p = c.args.place in
    let bs = c.self.inside.busy.items in
    let f : IsFree places n = subst (λ (s : SchedulerView). IsFree s.table.places n) (sym c.self.view_is) (c.is_free.ensures.free.0 c.if-is_free.true) in
    let busy : c.join_worker.new.busy.items ≡ besides p (without (place_of places n) bs) =
    c.join_worker.ensures ∙ ap (besides p) (c.leave_worker.ensures ∙ ap (λ (q : Place). without q bs) c.place-was.ensures) in
    let workers = sym (ap (λ (t : TableView). t.workers) c.put.ensures) in
    record {
      crew = c.self.invariant.crew ∙ workers;
      loose_are =
          recount places n p c.self.inside.loose c.recounted-self-inside.result c.is_loose.result c.is_loose-then-is_free.result f.within c.self.invariant.loose_are
          (c.is_loose.ensures ∙ ap is_loose c.place-was.ensures) c.is_loose-then-is_free.ensures c.recounted-self-inside.ensures
          ∙ sym (ap (λ (t : TableView). loose_in t.places) c.put.ensures);
      busy_long = ap (λ (xs : List ℕ). length xs) busy ∙ besides-long p (without (place_of places n) bs) ∙ without-long (place_of places n) bs ∙ c.self.invariant.busy_long ∙ workers;
      busy_are = λ w low.
          ap (λ (xs : List ℕ). get_or xs w 0) busy
          ∙ busy-moved places bs n p f.within (λ v less. c.self.invariant.busy_are v (subst (λ (k : ℕ). v < k) c.self.invariant.busy_long less)) w
          (subst (λ (k : ℕ). w < k) (ap (λ (t : TableView). t.workers) c.put.ensures ∙ sym c.self.invariant.busy_long) low)
          ∙ sym (ap (λ (t : TableView). with_in t.places w) c.put.ensures);
      idle = λ w waits.
          ap (λ (t : TableView). with_in t.places w) c.put.ensures
          ∙ none-moved places n p w f.within (c.self.invariant.idle w waits)
          (λ e.
          let awake : (member_of c.self.inside.crew.members.items w).waits ≡ false =
          subst (λ (s : SchedulerView). (member_of s.members w).waits ≡ false) (sym c.self.view_is) (c.requires.awake w e) in
          let wrong : true ≡ false = sym waits ∙ awake in cc);
    }

pub returns-else-is_free-clause-step : goal.returns-else-is_free-clause-step
returns-else-is_free-clause-step c =
    ap (λ (t : TableView). record c.args.self.now { table = t })
    (sym (put-kept c.args.self.now.table c.args.node c.args.place (λ f. let t = c.is_free.ensures.free.1 f in cc)))

pub returns-then-is_free-clause-lines : goal.returns-then-is_free-clause-lines
returns-then-is_free-clause-lines c =
    λ n l st.
    subst (λ (s : SchedulerView). StandsIn s.table.places (Key l) n) c.self.view_is
    (line-moved c.self.inside.table c.args.node c.args.place c.requires.line n l (subst (λ (t : TableView). StandsIn t.places (Key l) n) c.put.ensures st))

pub returns-then-is_free-clause-places : goal.returns-then-is_free-clause-places
returns-then-is_free-clause-places c =
    let places = c.self.inside.table.places in
    subst (λ (s : SchedulerView). IsMoved c.args.node c.args.place s.table.places c.put.new.self.places) c.self.view_is
    (subst (λ (t : TableView). IsMoved c.args.node c.args.place places t.places) (sym c.put.ensures) (moved-set places c.args.node c.args.place))

pub returns-else-is_free-clause-places : goal.returns-else-is_free-clause-places
returns-else-is_free-clause-places c =
    let t = c.args.self.now.table in
    subst (λ (u : TableView). IsMoved c.args.node c.args.place t.places u.places) (put-kept t c.args.node c.args.place (λ f. let no = c.is_free.ensures.free.1 f in cc))
    (moved-put t c.args.node c.args.place)

pub returns-then-is_free-clause-stands : goal.returns-then-is_free-clause-stands
returns-then-is_free-clause-stands c =
    λ p right.
    let old : StandRightly p c.self.inside.owners.items c.self.inside.table.places = subst (λ (s : SchedulerView). StandRightly p s.owners s.table.places) (sym c.self.view_is) right in
    subst (λ (t : TableView). StandRightly p c.self.inside.owners.items t.places) (sym c.put.ensures)
    (stand-moved p c.self.inside.owners.items c.self.inside.table c.args.node c.args.place c.requires.line old)
