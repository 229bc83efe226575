-- What is read takes a piece at least.
use Rattle.std.proofs.Common.{ℕ, ◌<◌, ◌≤◌, List, [], ◌∷◌, Option, length, arith, ap}
use Rattle.iso_script_lexer.specs.Piece.{Piece}
use Rattle.iso_script_lexer.specs.declared.token.Position.{Position}
use Rattle.iso_script.specs.declared.place.NodePlace.{NodePlace}
use Rattle.iso_model.specs.Scripts.{Test, Class, Member, Members}
use Rattle.iso_script.specs.Blocks.{Blocks, IsBlocks, IsWritten}
use Rattle.iso_script.specs.Displays.{IsDisplayed, none_displayed, displayed}
use Rattle.iso_script.specs.Marks.{Marks, IsMarks, IsMarking}
use Rattle.iso_script.specs.Readings.{AreRead}
use Rattle.iso_script.specs.Variables.{Variables, IsVariables, IsDeclared}
use Rattle.iso_script.proofs.Blocks.{written_shorter}
use Rattle.iso_script.proofs.Marks.{marking_shorter}
use Rattle.iso_script.proofs.Variables.{declared_shorter}
use Rattle.iso_script_statements.specs.Statements.{a_display}
use Rattle.iso_script_statements.proofs.Shorter.{block_shorter}
use Rattle.iso_script.specs.Grammar.{IsTest, a_test, IsMember, as_test, as_class, IsClass, a_class, has_members, IsMembers, closed, and_then}

-- items take no piece or more
read_within : {W : Type 0} (Is : W → List Piece → List Piece → Type 0) → ((w : W) (ps qs : List Piece) → Is w ps qs → length qs < length ps)
    → (ws : List W) (ps qs : List Piece) → AreRead Is ws ps qs → length qs ≤ length ps
read_within Is shorter [] ps qs h = omega (arith, ap length h)
read_within Is shorter (w ∷ ws) ps qs h = omega (arith, shorter w ps h.0 h.1, read_within Is shorter ws h.0 qs h.2)

marks_within : {marks : Marks} {ps qs : List Piece} → IsMarks marks ps qs → length qs ≤ length ps
marks_within {ps = ps} {qs = qs} h = read_within IsMarking (λ w ps qs k. marking_shorter k) h.written ps qs h.read

displayed_within : {t : Option (List ℕ)} {ps qs : List Piece} → IsDisplayed t ps qs → length qs ≤ length ps
displayed_within (none_displayed none) = omega arith
displayed_within (displayed (a_display is)) = omega arith

variables_within : {taken : List (List ℕ)} {variables : Variables} {ps qs : List Piece} → IsVariables taken variables ps qs → length qs ≤ length ps
variables_within {ps = ps} {qs = qs} h = read_within IsDeclared (λ w ps qs k. declared_shorter k) h.written ps qs h.read

blocks_within : {blocks : Blocks} {ps qs : List Piece} → IsBlocks blocks ps qs → length qs ≤ length ps
blocks_within {ps = ps} {qs = qs} h = read_within IsWritten (λ w ps qs k. written_shorter k) h.written ps qs h.read

test_shorter : {marks : Marks} {n : List ℕ} {at : Position} {t : Test} {places : List NodePlace} {ps qs : List Piece} → IsTest marks n at t places ps qs → length qs < length ps
test_shorter (a_test h k) = omega (arith, displayed_within h, block_shorter k)

mutual
  pub member_shorter : {d : ℕ} {taken : List (List ℕ)} {m : Member} {places : List NodePlace} {ps qs : List Piece} → IsMember d taken m places ps qs → length qs < length ps
  member_shorter (as_test h fit k) = omega (arith, marks_within h, test_shorter k)
  member_shorter (as_class h k) = omega (arith, marks_within h, class_shorter k)

  class_shorter : {d : ℕ} {taken : List (List ℕ)} {marks : Marks} {n : List ℕ} {at : Position} {c : Class} {places : List NodePlace} {ps qs : List Piece}
      → IsClass d taken marks n at c places ps qs → length qs < length ps
  class_shorter (a_class h k l (has_members m some distinct)) = omega (arith, displayed_within h, variables_within k, blocks_within l, members_shorter m)

  members_shorter : {d : ℕ} {taken : List (List ℕ)} {ms : Members} {places : List NodePlace} {ps qs : List Piece} → IsMembers d taken ms places ps qs → length qs < length ps
  members_shorter closed = omega arith
  members_shorter (and_then h k) = omega (arith, member_shorter h, members_shorter k)
