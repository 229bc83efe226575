-- Runs, for examples.
use Rattle.std.specs.Prelude.{ℕ, List, [], ◌∷◌, Option, Some, None, map}
use Rattle.iso_critical.specs.Bodies.{Run}
use Rattle.iso_critical.specs.Critical.{critical}
use Rattle.iso_plan.specs.Examples.{concurrent_by_default, isolated_deep, one_thread, two_classes, writing_children}
use Rattle.iso_times.specs.declared.times.BodyTime.{BodyTime}
use Rattle.iso_waits.specs.declared.wait.NodeWait.{NodeWait}

-- a body of a worker, from a moment until another
abbrev pub by : (worker begin end : ℕ) → Option BodyTime
by worker begin end = Some (record { worker = worker; begin = begin; end = end })

-- the places of the critical bodies
abbrev pub critical_places : Run → List ℕ
critical_places run = map (λ b. b.place) (critical run)

-- of nodes 1 to 3 of write children "K" class C { test a { } test b { } }, which are C, a and b: C
-- opens, another worker does b, the first one does a, and C closes
abbrev pub b_before_a : (holders : List (Option ℕ)) → Run
b_before_a holders =
    record {
      tree = writing_children;
      settings = concurrent_by_default;
      bodies = None ∷ None ∷ by 0 100 102 ∷ by 1 110 111 ∷ by 0 107 109 ∷ None
          ∷ by 1 103 106 ∷ None ∷ [];
      holders = holders;
    }

-- the same nodes on one thread, though told by other workers each: C opens, a, b, and C closes
abbrev pub a_then_b : Run
a_then_b =
    record {
      tree = writing_children;
      settings = one_thread;
      bodies = None ∷ None ∷ by 0 100 102 ∷ by 3 110 111 ∷ by 1 103 106 ∷ None
          ∷ by 2 107 109 ∷ None ∷ [];
      holders = [];
    }

-- of nodes 1 to 4 of class A { test t { } } class B { test t { } }, which are A, t, B and t: each
-- class is done by a worker, and B closes then
abbrev pub two_workers : (worker end : ℕ) → Run
two_workers worker end =
    record {
      tree = two_classes;
      settings = concurrent_by_default;
      bodies = None ∷ None ∷ by 0 0 1 ∷ by 0 2 3 ∷ by 0 1 2 ∷ None ∷ by worker 4 5 ∷ by worker 6 end
          ∷ by worker 5 6 ∷ None ∷ [];
      holders = [];
    }

-- two bodies that end together
abbrev pub end_together : Run
end_together =
    record {
      tree = two_classes;
      settings = concurrent_by_default;
      bodies = None ∷ None ∷ None ∷ None ∷ by 0 1 7 ∷ None ∷ None ∷ None ∷ by 1 2 7 ∷ None ∷ [];
      holders = [];
    }

-- of nodes 1 to 4 of class Hall { class Desk { isolated class Till { test d { } } } }: the two
-- inner classes have no time for their `after_all`
abbrev pub unclosed : Run
unclosed =
    record {
      tree = isolated_deep;
      settings = concurrent_by_default;
      bodies = None ∷ None ∷ by 0 0 1 ∷ by 0 9 10 ∷ by 1 1 2 ∷ None ∷ by 1 2 3 ∷ None
          ∷ by 1 4 5 ∷ None ∷ [];
      holders = [];
    }

-- a wait of a node until a moment, longest for node 1 and last for another
abbrev pub wait_until : (node end last : ℕ) → NodeWait
wait_until node end last =
    record {
      node = node;
      key = 0;
      begin = 0;
      end = end;
      time = end;
      count = 2;
      longest = end;
      holder = 1;
      last = last;
    }
