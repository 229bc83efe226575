-- Example outcomes and their reports.
use Rattle.std.specs.Prelude.{ℕ, List, [], ◌∷◌, ◌++◌, codes, slice_index_or}
use Rattle.std.specs.List.{flat_map}
use Rattle.iso_model.specs.declared.fault.FaultKind.TheVariants.{Frozen}
use Rattle.iso_model.specs.declared.outcome.Note.{Note}
use Rattle.iso_model.specs.declared.outcome.Outcome.{Outcome}
use Rattle.iso_model.specs.declared.outcome.Verdict.{Verdict}
use Rattle.iso_model.specs.declared.outcome.Verdict.TheVariants.{Pass, Fail, Fault, Skipped, Blocked}
use Rattle.iso_model.specs.declared.place.BlockName.TheVariants as B
use Rattle.iso_model.specs.declared.place.Lifecycle.TheVariants.{BeforeAll}
use Rattle.iso_model.specs.declared.place.Place.TheVariants.{Row}

-- lines, each with its line feed
abbrev pub text_of : List (List ℕ) → List ℕ
text_of lines = flat_map (λ l. l ++ codes "\n") lines

abbrev pub came_to : Verdict → (output : List (List ℕ)) → Outcome
came_to verdict output = record { verdict = verdict; output = output }

-- a pass with nothing to tell
abbrev pub silent : Outcome
silent = came_to Pass []

-- a message at row 2 of a test, and at row 3 of a top-level class's `before_all`
abbrev pub in_test : List ℕ → Note
in_test message = record { message = message; place = Row B.Test 2 }

abbrev pub in_opening : List ℕ → Note
in_opening message = record { message = message; place = Row (B.Class 1 BeforeAll) 3 }

abbrev pub skipped : Verdict
skipped = Skipped (in_test (codes "no \\ #1"))

-- What Cart, a, b, Desk, c, Till and d came to: Cart printed, b failed, c was skipped, d printed.
abbrev pub came_to_by_node : List Outcome
came_to_by_node =
    silent
    ∷ came_to Pass (codes "say \"hi\" #1" ∷ codes "\\" ∷ [])
    ∷ silent
    ∷ came_to (Fail (in_test (codes "expected: <\"a\"> but was: <#>"))) []
    ∷ silent
    ∷ came_to skipped []
    ∷ silent
    ∷ came_to Pass (codes "d" ∷ [])
    ∷ []

abbrev pub outcome_of : ℕ → Outcome
outcome_of n = slice_index_or came_to_by_node n silent

-- their report
abbrev pub reported_text : List ℕ
reported_text =
    text_of
    (codes "TAP version 14"
    ∷ codes "1..2"
    ∷ codes "# Subtest: shop.Cart"
    ∷ codes "    1..2"
    ∷ codes "    ok 1 - a"
    ∷ codes "    not ok 2 - b"
    ∷ codes "      ---"
    ∷ codes "      verdict: fail"
    ∷ codes "      message: \"expected: <\\\"a\\\"> but was: <#>\""
    ∷ codes "      at: \"test row 2\""
    ∷ codes "      output: []"
    ∷ codes "      ..."
    ∷ codes "not ok 1 - shop.Cart"
    ∷ codes "  ---"
    ∷ codes "  verdict: pass"
    ∷ codes "  output:"
    ∷ codes "    - \"say \\\"hi\\\" #1\""
    ∷ codes "    - \"\\\\\""
    ∷ codes "  ..."
    ∷ codes "# Subtest: shop.Desk"
    ∷ codes "    1..2"
    ∷ codes "    ok 1 - c # SKIP no \\\\ \\#1"
    ∷ codes "      ---"
    ∷ codes "      verdict: skipped"
    ∷ codes "      message: \"no \\\\ #1\""
    ∷ codes "      at: \"test row 2\""
    ∷ codes "      output: []"
    ∷ codes "      ..."
    ∷ codes "    # Subtest: Till"
    ∷ codes "        1..1"
    ∷ codes "        ok 1 - d"
    ∷ codes "          ---"
    ∷ codes "          verdict: pass"
    ∷ codes "          output:"
    ∷ codes "            - \"d\""
    ∷ codes "          ..."
    ∷ codes "    ok 2 - Till"
    ∷ codes "ok 2 - shop.Desk"
    ∷ [])

abbrev pub frozen : Outcome
frozen = came_to (Fault Frozen (in_opening (codes "n is frozen"))) []

abbrev pub frozen_block : List ℕ
frozen_block =
    text_of
    (codes "  ---"
    ∷ codes "  verdict: fault"
    ∷ codes "  message: \"n is frozen\""
    ∷ codes "  at: \"class 1 before_all row 3\""
    ∷ codes "  output: []"
    ∷ codes "  ..."
    ∷ [])

abbrev pub blocked : Outcome
blocked = came_to (Blocked (in_opening (codes "no db"))) []

abbrev pub blocked_block : List ℕ
blocked_block =
    text_of
    (codes "---"
    ∷ codes "verdict: blocked"
    ∷ codes "message: \"no db\""
    ∷ codes "at: \"class 1 before_all row 3\""
    ∷ codes "output: []"
    ∷ codes "..."
    ∷ [])

-- one of each verdict in the same suite: a faulted, b was blocked, c was skipped, the class Till
-- failed over d, which passed
abbrev pub each_by_node : List Outcome
each_by_node =
    silent
    ∷ silent
    ∷ came_to (Fault Frozen (in_test (codes "n is frozen"))) []
    ∷ blocked
    ∷ silent
    ∷ came_to skipped (codes "c" ∷ [])
    ∷ came_to (Fail (in_opening (codes "late"))) []
    ∷ silent
    ∷ []

abbrev pub each_of : ℕ → Outcome
each_of n = slice_index_or each_by_node n silent

-- their report
abbrev pub each_reported : List ℕ
each_reported =
    text_of
    (codes "TAP version 14"
    ∷ codes "1..2"
    ∷ codes "# Subtest: shop.Cart"
    ∷ codes "    1..2"
    ∷ codes "    not ok 1 - a"
    ∷ codes "      ---"
    ∷ codes "      verdict: fault"
    ∷ codes "      message: \"n is frozen\""
    ∷ codes "      at: \"test row 2\""
    ∷ codes "      output: []"
    ∷ codes "      ..."
    ∷ codes "    not ok 2 - b"
    ∷ codes "      ---"
    ∷ codes "      verdict: blocked"
    ∷ codes "      message: \"no db\""
    ∷ codes "      at: \"class 1 before_all row 3\""
    ∷ codes "      output: []"
    ∷ codes "      ..."
    ∷ codes "not ok 1 - shop.Cart"
    ∷ codes "# Subtest: shop.Desk"
    ∷ codes "    1..2"
    ∷ codes "    ok 1 - c # SKIP no \\\\ \\#1"
    ∷ codes "      ---"
    ∷ codes "      verdict: skipped"
    ∷ codes "      message: \"no \\\\ #1\""
    ∷ codes "      at: \"test row 2\""
    ∷ codes "      output:"
    ∷ codes "        - \"c\""
    ∷ codes "      ..."
    ∷ codes "    # Subtest: Till"
    ∷ codes "        1..1"
    ∷ codes "        ok 1 - d"
    ∷ codes "    not ok 2 - Till"
    ∷ codes "      ---"
    ∷ codes "      verdict: fail"
    ∷ codes "      message: \"late\""
    ∷ codes "      at: \"class 1 before_all row 3\""
    ∷ codes "      output: []"
    ∷ codes "      ..."
    ∷ codes "not ok 2 - shop.Desk"
    ∷ [])
