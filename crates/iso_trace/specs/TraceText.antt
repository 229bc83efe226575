-- A trace in the format of Chrome (Trace Event Format): what each worker did, and what nodes waited
-- for.
--
-- trace: The events of a run: a lane for each worker, a body from its begin until its end, critical
-- or not, and each wait of a node for a key from its begin until its end (`trace_text`), with keys
-- as JSON strings (`key_names`).
-- Also in: `Names`.
-- Standard: Trace Event Format (Chrome).
use Rattle.std.specs.Prelude.{ℕ, zero, suc, ◌-◌, List, [], ◌∷◌, ◌++◌, Option, Some, None, Bool, cond, codes, length}
use Rattle.std.specs.Fmt.{decimal}
use Rattle.iso_critical.specs.Critical.{is_among}
use Rattle.iso_critical.specs.declared.body.Body.{Body}
use Rattle.iso_lifecycle.specs.ResultViews.{ResultsView, result_in}
use Rattle.iso_lifecycle.specs.declared.kind.BodyKind.TheVariants.{BeforeAll, AfterAll}
use Rattle.iso_model.specs.declared.outcome.Outcome.{Outcome}
use Rattle.iso_plan.specs.Paths.{is_test, row_at}
use Rattle.iso_plan.specs.Tree.{Row}
use Rattle.iso_tap.specs.ReportBlocks.{verdict_word}
use Rattle.iso_times.specs.declared.times.BodyTime.{BodyTime}
use Rattle.iso_trace.specs.Parts.{category, critical_argument, joined, micros, node_locks, node_text, wait_name}
use Rattle.iso_trace.specs.declared.trace.Section.{Section}
use Rattle.iso_trace.specs.declared.trace.Section.TheVariants.{Plain, Threads, Bodies, Waits}
use Rattle.iso_waits.specs.Stays.{body_time}
use Rattle.iso_waits.specs.declared.wait.NodeWait.{NodeWait}

-- the lane of a worker has its name
abbrev pub thread_event : ℕ → List ℕ
thread_event w =
    joined
    (codes ",\n{\"ph\":\"M\",\"pid\":1,\"tid\":"
    ∷ decimal w
    ∷ codes ",\"name\":\"thread_name\",\"args\":{\"name\":\"worker "
    ∷ decimal w
    ∷ codes "\"}}"
    ∷ [])

-- the lanes of `count` workers, of which the first has number w
abbrev pub thread_events : (count w : ℕ) → List ℕ
thread_events zero w = []
thread_events (suc count) w = thread_event w ++ thread_events count (suc w)

-- what a node came to, in a word
abbrev pub word_of : Option Outcome → List ℕ
word_of None = codes "none"
word_of (Some o) = verdict_word o.verdict

-- a body of a node, from its begin until its end, in the lane of its worker
abbrev pub timed_event : List Row → List ℕ → ℕ → List ℕ → Bool → BodyTime → List ℕ
timed_event tree word n kind critical t =
    joined
    (codes ",\n{\"ph\":\"X\",\"pid\":1,\"tid\":"
    ∷ decimal t.worker
    ∷ codes ",\"cat\":\""
    ∷ category critical
    ∷ codes "\",\"name\":\""
    ∷ node_text tree n
    ∷ kind
    ∷ codes "\",\"ts\":"
    ∷ micros t.begin
    ∷ codes ",\"dur\":"
    ∷ micros (t.end - t.begin)
    ∷ codes ",\"args\":{\"path\":\""
    ∷ node_text tree n
    ∷ codes "\",\"verdict\":\""
    ∷ word
    ∷ codes "\""
    ∷ critical_argument critical
    ∷ node_locks tree n
    ∷ codes "}}"
    ∷ [])

-- the event of a body that has a time
abbrev pub body_event : List Row → ResultsView → ℕ → List ℕ → Bool → Option BodyTime → List ℕ
body_event tree results n kind critical None = []
body_event tree results n kind critical (Some t) =
    timed_event tree (word_of (result_in results n)) n kind critical t

-- what stands behind the path of a node in the name of its first body
abbrev pub first_kind : List Row → ℕ → List ℕ
first_kind tree n = cond (is_test (row_at tree n).kind) [] (codes " before_all")

-- the bodies of a node
abbrev pub node_events : List Row → List (Option BodyTime) → ResultsView → List Body → ℕ → List ℕ
node_events tree bodies results critical n =
    body_event tree results n (first_kind tree n) (is_among critical n BeforeAll)
    (body_time bodies n BeforeAll)
    ++ body_event tree results n (codes " after_all") (is_among critical n AfterAll)
    (body_time bodies n AfterAll)

-- the bodies of `count` nodes, of which the first has number n
abbrev pub body_events : List Row → List (Option BodyTime) → ResultsView → List Body
    → (count n : ℕ) → List ℕ
body_events tree bodies results critical zero n = []
body_events tree bodies results critical (suc count) n =
    node_events tree bodies results critical n
    ++ body_events tree bodies results critical count (suc n)

-- a wait of a node for a key, with a number: its begin, and its end. Told are the node that it
-- waited for longest, how many single waits there were, and how long they were together.
abbrev pub wait_event : List Row → ℕ → NodeWait → List ℕ
wait_event tree id w =
    joined
    (codes ",\n{\"ph\":\"b\",\"pid\":1,\"tid\":0,\"cat\":\"wait\",\"id\":"
    ∷ decimal id
    ∷ codes ",\"name\":"
    ∷ wait_name tree w.key
    ∷ codes ",\"ts\":"
    ∷ micros w.begin
    ∷ codes ",\"args\":{\"node\":\""
    ∷ node_text tree w.node
    ∷ codes "\",\"for\":\""
    ∷ node_text tree w.holder
    ∷ codes "\",\"waits\":"
    ∷ decimal w.count
    ∷ codes ",\"waited\":"
    ∷ micros w.time
    ∷ codes "}},\n{\"ph\":\"e\",\"pid\":1,\"tid\":0,\"cat\":\"wait\",\"id\":"
    ∷ decimal id
    ∷ codes ",\"name\":"
    ∷ wait_name tree w.key
    ∷ codes ",\"ts\":"
    ∷ micros w.end
    ∷ codes "}"
    ∷ [])

-- waits, of which the first has this number
abbrev pub wait_events : List Row → ℕ → List NodeWait → List ℕ
wait_events tree id [] = []
wait_events tree id (w ∷ ws) = wait_event tree id w ++ wait_events tree (suc id) ws

-- a section of a trace
abbrev pub section_text : List Row → List (Option BodyTime) → ResultsView → List Body
    → Section → List ℕ
section_text tree bodies results critical (Plain text) = text.now
section_text tree bodies results critical (Threads workers) = thread_events workers 0
section_text tree bodies results critical Bodies =
    body_events tree bodies results critical (length tree - 1) 1
section_text tree bodies results critical (Waits waits) = wait_events tree 0 waits.now

-- the trace: the lanes of `workers` workers, the bodies in the order of the nodes, of which
-- some are critical, and the waits
abbrev pub trace_text : List Row → List (Option BodyTime) → ResultsView → (workers : ℕ)
    → List NodeWait → (critical : List Body) → List ℕ
trace_text tree bodies results workers waits critical =
    joined
    (codes "{\"traceEvents\":[\n{\"ph\":\"M\",\"pid\":1,\"name\":\"process_name\",\"args\":{\"name\":\"jtap\"}}"
    ∷ thread_events workers 0
    ∷ body_events tree bodies results critical (length tree - 1) 1
    ∷ wait_events tree 0 waits
    ∷ codes "\n]}\n"
    ∷ [])
