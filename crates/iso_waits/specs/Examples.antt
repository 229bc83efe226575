-- Times of bodies, for examples.
use Rattle.std.specs.Prelude.{ℕ, List, [], ◌∷◌, Option, Some, None}
use Rattle.iso_times.specs.declared.times.BodyTime.{BodyTime}
use Rattle.iso_waits.specs.declared.wait.NodeWait.{NodeWait}
use Rattle.iso_waits.specs.declared.wait.Wait.{Wait}

-- a body, from a moment until another
abbrev pub body : ℕ → ℕ → Option BodyTime
body begin end = Some (record { worker = 0; begin = begin; end = end })

abbrev pub wait : ℕ → ℕ → ℕ → Wait
wait holder begin end = record { holder = holder; begin = begin; end = end }

-- of nodes 1 to 3 of write children "K" class C { test a { } test b { } }, which are C, a and b: C
-- opens from 100 until 102, b runs from 103 until 106, a from 107 until 109, and C closes from 110
-- until 111
abbrev pub b_before_a : List (Option BodyTime)
b_before_a =
    None ∷ None ∷ body 100 102 ∷ body 110 111 ∷ body 107 109 ∷ None ∷ body 103 106 ∷ None ∷ []

-- the same where a has no time
abbrev pub a_without_time : List (Option BodyTime)
a_without_time = None ∷ None ∷ body 100 102 ∷ body 110 111 ∷ None ∷ None ∷ body 103 106 ∷ None ∷ []

-- a, which is node 2, waited for b, which is node 3, by key 1
abbrev pub wait_for_b : NodeWait
wait_for_b = record {
  node = 2;
  key = 1;
  begin = 3;
  end = 6;
  time = 3;
  count = 1;
  holder = 3;
  longest = 3;
  last = 3;
}

-- the same twice, from 3 until 6 and from 8 until 9
abbrev pub for_b_and_then_for_b : NodeWait
for_b_and_then_for_b = record {
  node = 2;
  key = 1;
  begin = 3;
  end = 9;
  time = 4;
  count = 2;
  holder = 3;
  longest = 3;
  last = 3;
}

-- node 2 waited by key 1 for node 3 until 6, for node 5 from 7 until 12, and as long for node 4
-- until 17
abbrev pub three_waits : NodeWait
three_waits = record {
  node = 2;
  key = 1;
  begin = 3;
  end = 17;
  time = 13;
  count = 3;
  holder = 5;
  longest = 5;
  last = 4;
}
