-- The bars of a run: of the bodies that each worker did, and of the nodes that had each key.
use Rattle.std.specs.Prelude.{ℕ, zero, suc, List, [], ◌∷◌, ◌++◌, Option, Some, None, Bool, false, ◌==◌, cond, flat_map, is_some, length}
use Rattle.iso_critical.specs.Critical.{is_among}
use Rattle.iso_critical.specs.declared.body.Body.{Body as CriticalBody}
use Rattle.iso_failures.specs.Failures.{is_failure}
use Rattle.iso_junit.specs.Runs.{RunView, time}
use Rattle.iso_lifecycle.specs.Subjects.{first_kind}
use Rattle.iso_lifecycle.specs.declared.kind.BodyKind.{BodyKind}
use Rattle.iso_lifecycle.specs.declared.kind.BodyKind.TheVariants.{BeforeAll, AfterAll}
use Rattle.iso_model.specs.declared.access.Access.{Access}
use Rattle.iso_model.specs.declared.access.Access.TheVariants.{Read, Write}
use Rattle.iso_plan.specs.Locks.{locks}
use Rattle.iso_plan.specs.Tree.{Row}
use Rattle.iso_plan.specs.declared.lock.Lock.{Lock}
use Rattle.iso_times.specs.declared.times.BodyTime.{BodyTime}
use Rattle.iso_waits.specs.Stays.{body_time, stayed}
use Rattle.iso_waits.specs.declared.stay.Stay.{Stay}
use Rattle.iso_html.specs.declared.shape.Look.{Look}
use Rattle.iso_html.specs.declared.shape.Look.TheVariants.{Well, Failed, Reading, Writing}
use Rattle.iso_html.specs.declared.shape.Mark.{Mark}
use Rattle.iso_html.specs.declared.shape.What.TheVariants.{Body, Taken}

-- a body looks as its node came out
abbrev pub look_of : RunView → ℕ → Look
look_of r n = cond (is_failure r.outcome n) Failed Well

-- a body, which is critical or not, from its begin until its end
abbrev pub body_mark : ℕ → Look → (critical : Bool) → BodyKind → BodyTime → Mark
body_mark n look critical kind t =
    record {
      bar = record {
        node = n;
        look = look;
        critical = critical;
        begin = t.begin;
        end = t.end;
      };
      what = Body kind;
    }

-- the same in the lane of a worker, where it has a time and this worker did it
abbrev pub body_marks : (worker : ℕ) → ℕ → Look → (critical : Bool) → BodyKind
    → Option BodyTime → List Mark
body_marks worker n look critical kind None = []
body_marks worker n look critical kind (Some t) =
    cond (t.worker == worker) (body_mark n look critical kind t ∷ []) []

-- both bodies of a node, where a worker did them
abbrev pub both_marks : RunView → List (Option BodyTime) → (critical : List CriticalBody)
    → (worker : ℕ) → ℕ → List Mark
both_marks r bodies critical worker n =
    body_marks worker n (look_of r n) (is_among critical n (first_kind r.tree n))
    (first_kind r.tree n) (body_time bodies n BeforeAll)
    ++ body_marks worker n (look_of r n) (is_among critical n AfterAll) AfterAll
    (body_time bodies n AfterAll)

-- the same of a node that has a time of its own, as a class without blocks has none
abbrev pub node_marks : RunView → List (Option BodyTime) → (critical : List CriticalBody)
    → (worker : ℕ) → ℕ → List Mark
node_marks r bodies critical worker n =
    cond (is_some (time r n)) (both_marks r bodies critical worker n) []

-- those of the nodes with a number below n
abbrev pub marks_below : RunView → List (Option BodyTime) → (critical : List CriticalBody)
    → (worker : ℕ) → ℕ → List Mark
marks_below r bodies critical worker zero = []
marks_below r bodies critical worker (suc n) =
    marks_below r bodies critical worker n ++ node_marks r bodies critical worker n

-- the bodies that a worker did, in the order of the nodes
abbrev pub lane_marks : RunView → List (Option BodyTime) → (critical : List CriticalBody)
    → (worker : ℕ) → List Mark
lane_marks r bodies critical worker = marks_below r bodies critical worker (length r.tree)

-- a node looks as it took a key
abbrev pub taking_look : Access → Look
taking_look Read = Reading
taking_look Write = Writing

-- a node that took a key, from when it was entered until it had finished
abbrev pub taken_mark : Stay → Access → Mark
taken_mark s a =
    record {
      bar = record {
        node = s.node;
        look = taking_look a;
        critical = false;
        begin = s.begin;
        end = s.end;
      };
      what = Taken a;
    }

-- the same of one of its locks, where it is on the key
abbrev pub lock_marks : (key : ℕ) → Stay → Lock → List Mark
lock_marks key s l = cond (l.key == key) (taken_mark s l.access ∷ []) []

-- of a node with these locks, where it was entered; the law `nodes_take_a_key_once` says that no
-- key stands twice among them
abbrev pub stay_marks : (key : ℕ) → List Lock → Option Stay → List Mark
stay_marks key ls None = []
stay_marks key ls (Some s) = flat_map (lock_marks key s) ls

-- those of the nodes with a number below n
abbrev pub takers_below : List Row → List (Option BodyTime) → (key : ℕ) → ℕ → List Mark
takers_below tree bodies key zero = []
takers_below tree bodies key (suc n) =
    takers_below tree bodies key n ++ stay_marks key (locks tree n) (stayed bodies n)

-- the nodes that had a key, in their order
abbrev pub key_marks : List Row → List (Option BodyTime) → (key : ℕ) → List Mark
key_marks tree bodies key = takers_below tree bodies key (length tree)
