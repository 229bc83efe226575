use Rattle.std.proofs.Common.{[], ◌++◌, map, refl, Some, sym, ap, ◌∙◌, arith, rules}
use Rattle.std.proofs.lemmas.List.{map_push, length-map}
use Rattle.std.proofs.lemmas.Result.{err_from_is_err_and}
use Rattle.iso_script_lexer.specs.Tokens.{after}
use Rattle.iso_script_lexer.specs.declared.symbol.Symbol.TheVariants.{CloseBrace}
use Rattle.iso_script_lexer.proofs.Afters.{after-symbol_at}
use Rattle.iso_model.specs.ScriptView.{member_of}
use Rattle.iso_script.specs.Variables.{names_of, variables_of}
use Rattle.iso_script.proofs.Distinct.{IsDistinct-none, IsDistinct-push}
use Rattle.iso_script.proofs.Places.{kept_after, kept_more, none_kept}
use Rattle.iso_script.proofs.Readings.{placed_push}
use Rattle.iso_model.specs.NameSets.{is_among}
use Rattle.iso_script_statements.specs.Pieces.{name_next}
use Rattle.iso_script_statements.proofs.Small.{none_is, none_left, some_left}
use Rattle.iso_script_statements.proofs.Taken.{stands_in_front}
use Rattle.iso_script.specs.Grammar.{IsMember, has_members}
use Rattle.iso_script.proofs.Classes.{display_next, may_test, no_test, is_class, not_opened, opened, blocks_next, members_next, marks_next, is_test, test_name, test_next, test_left, is_nested, class_name, class_next, class_left, name_left, name_stands, not_next, name_is_new}
use Rattle.iso_script.proofs.Members.{names_of-members_of, members_of-some, all_read, next_member, empty_refused}
use Rattle.iso_script.proofs.Scopes.{know_more, known}
use Rattle.iso_script.proofs.Shorter.{member_shorter}
use Rattle.iso_script.proofs.Views.{class_of-parts, member_of-class, member_of-test}
use Rattle.iso_script.proofs.WantsLemmas.{first_place, is_place, unmet_after_display, unmet_after_marks, unmoved}
use Rattle.iso_script.proofs.class.+class.Goals as goal

pub read_class-expect_or-requires : goal.read_class-expect_or-requires
read_class-expect_or-requires t c = rw c.wanted_after-wanted.ensures (unmet_after_display c.in_ok-display.ensures)

pub read_class-read_members-requires : goal.read_class-read_members-requires
read_class-read_members-requires t c =
    let all = known c.args.scopes.now.items in
    let variables = c.in_ok-variables.ensures.read all.0 (rw c.as_slice.ensures.value all.1) in
    (omega arith, rw c.wanted_next-first.ensures (first_place variables.ends c.in_ok-blocks.ensures))

pub read_members-read_member-requires : goal.read_members-read_member-requires
read_members-read_member-requires t c =
    let all = known c.args.scopes.now.items in
    let read = c.members.invariant.read all.0 all.1 in (
      omega arith,
      rw c.member_place-place.ensures (is_place _ _ _ _
          (λ e. unmoved _ _ _ _ _ (ap (map member_of) (none_left c.members.members.items c.len.result (omega (arith, c.len.ensures, c.members.members.ok.0)) (sym e))) read.1)
          c.requires (none_is _ c.members-test.ensures)),
    )

pub read_member-open_class-requires : goal.read_member-open_class-requires
read_member-open_class-requires t c = rw c.wanted_of_a_member-wanted.ensures (unmet_after_marks _ c.in_ok-marks.ensures c.requires c.if-is_at_test.ensures)

pub read_class-returns-in_err-display-clause-read : goal.read_class-returns-in_err-display-clause-read
read_class-returns-in_err-display-clause-read t c = λ taken all.
    let p = err_from_is_err_and c.from_residual.result c.from_residual.ensures.1 in
    rw (p.1, p.2) (λ rest x places h. let d = display_next h in c.in_err-display.ensures d.0 d.1 d.2)

pub read_class-returns-in_err-expect_or-clause-read : goal.read_class-returns-in_err-expect_or-clause-read
read_class-returns-in_err-expect_or-clause-read t c = λ taken all.
    let p = err_from_is_err_and c.from_residual-in_err-expect_or.result c.from_residual-in_err-expect_or.ensures.1 in
    rw (p.1, p.2) (λ rest x places h. absurd (not_opened c.in_ok-display.ensures c.in_err-expect_or.ensures.0 h))

pub read_class-returns-in_err-variables-clause-read : goal.read_class-returns-in_err-variables-clause-read
read_class-returns-in_err-variables-clause-read t c = λ taken all.
    let p = err_from_is_err_and c.from_residual-in_err-variables.result c.from_residual-in_err-variables.ensures.1 in
    rw (p.1, p.2) (λ rest x places h.
    let i = opened c.in_ok-display.ensures c.in_ok-expect_or.ensures h in
    c.in_err-variables.ensures.read taken (rw c.as_slice.ensures.value all) i.variables i.after_variables i.variables_read)

pub read_class-returns-in_err-blocks-clause-read : goal.read_class-returns-in_err-blocks-clause-read
read_class-returns-in_err-blocks-clause-read t c = λ taken all.
    let p = err_from_is_err_and c.from_residual-in_err-blocks.result c.from_residual-in_err-blocks.ensures.1 in
    rw (p.1, p.2) (λ rest x places h.
    let i = opened c.in_ok-display.ensures c.in_ok-expect_or.ensures h in
    let b = blocks_next i (c.in_ok-variables.ensures.read taken (rw c.as_slice.ensures.value all)) in
    c.in_err-blocks.ensures b.0 b.1 b.2)

pub read_class-returns-in_err-members-clause-read : goal.read_class-returns-in_err-members-clause-read
read_class-returns-in_err-members-clause-read t c = λ taken all.
    let p = err_from_is_err_and c.from_residual-in_err-members.result c.from_residual-in_err-members.ensures.1 in
    rw (p.1, p.2) (λ rest x places h.
    let i = opened c.in_ok-display.ensures c.in_ok-expect_or.ensures h in
    let v = c.in_ok-variables.ensures in
    let m = members_next i (v.read taken (rw c.as_slice.ensures.value all)) c.in_ok-blocks.ensures in
    c.in_err-members.ensures.read (names_of (variables_of c.in_ok-variables.variables) ++ taken)
    (rw c.in_ok-push.ensures.items (know_more c.args.scopes.now.items c.in_ok-variables.variables.names taken _ all v.names)) rest m.0 m.1 m.2)

pub read_class-returns-clause-read : goal.read_class-returns-clause-read
read_class-returns-clause-read t c = λ taken all.
    let v = c.in_ok-variables.ensures in
    let m = c.in_ok-members.ensures.read (names_of (variables_of c.in_ok-variables.variables) ++ taken)
    (rw c.in_ok-push.ensures.items (know_more c.args.scopes.now.items c.in_ok-variables.variables.names taken _ all v.names)) in
    rw (class_of-parts, c.in_ok-name.ensures, c.in_ok-head-2.ensures.ok, c.in_ok-head.ensures) (
      _,
      is_class c.in_ok-display.ensures c.in_ok-expect_or.ensures (v.read taken (rw c.as_slice.ensures.value all)) c.in_ok-blocks.ensures m.1,
      kept_after _ _ _ _ c.place.ensures c.in_ok-add.ensures m.2,
    )

pub read_member-returns-in_err-marks-clause-read : goal.read_member-returns-in_err-marks-clause-read
read_member-returns-in_err-marks-clause-read t c = λ taken names all knows.
    let p = err_from_is_err_and c.from_residual.result c.from_residual.ensures.1 in
    rw (p.1, p.2) (λ rest m places h. let k = marks_next h.0 in c.in_err-marks.ensures k.0 k.1 k.2)

pub read_member-returns-in_err-name-clause-read : goal.read_member-returns-in_err-name-clause-read
read_member-returns-in_err-name-clause-read t c = λ taken names all knows.
    let p = err_from_is_err_and c.from_residual-in_err-name.result c.from_residual-in_err-name.ensures.1 in
    rw (p.1, p.2) (λ rest m places h.
    let may = may_test _ _ c.if-is_at_test.ensures in
    let k = test_next c.in_ok-marks.ensures may.1 c.advance.ensures h.0 in
    c.in_err-name.ensures.only names knows k.name k.left (ap name_next k.named) (name_is_new names m k.name k.called h.1))

pub read_member-returns-in_err-read_test-clause-read : goal.read_member-returns-in_err-read_test-clause-read
read_member-returns-in_err-read_test-clause-read t c = λ taken names all knows.
    let p = err_from_is_err_and c.from_residual-in_err-read_test.result c.from_residual-in_err-read_test.ensures.1 in
    rw (p.1, p.2) (λ rest m places h.
    let may = may_test _ _ c.if-is_at_test.ensures in
    let k = test_left (name_stands _ _ _ _ _ c.peek.ensures.next c.in_ok-name.ensures.found) (test_next c.in_ok-marks.ensures may.1 c.advance.ensures h.0) in
    c.in_err-read_test.ensures rest k.0 places k.1)

pub read_member-returns-then-is_at_test-clause-read : goal.read_member-returns-then-is_at_test-clause-read
read_member-returns-then-is_at_test-clause-read t c = λ taken names all knows.
    let may = may_test _ _ c.if-is_at_test.ensures in
    let read = c.in_ok-read_test.ensures in
    rw member_of-test (
      read.0,
      (
        is_test c.in_ok-marks.ensures may.0 may.1 c.advance.ensures (name_stands _ _ _ _ _ c.peek.ensures.next c.in_ok-name.ensures.found) read.1,
        ap (is_among names) (test_name read.1) ∙ (c.in_ok-name.ensures.fresh names knows).0,
      ),
      read.2,
    )

pub read_member-returns-then-is_at_test-clause-names : goal.read_member-returns-then-is_at_test-clause-names
read_member-returns-then-is_at_test-clause-names t c = λ names knows.
    rw (member_of-test, test_name c.in_ok-read_test.ensures.1) ((c.in_ok-name.ensures.fresh names knows).1)

pub read_member-returns-in_err-more-clause-read : goal.read_member-returns-in_err-more-clause-read
read_member-returns-in_err-more-clause-read t c = λ taken names all knows.
    let p = err_from_is_err_and c.from_residual-in_err-more.result c.from_residual-in_err-more.ensures.1 in
    rw (p.1, p.2) (λ rest m places h. absurd (not_next c.in_err-more.ensures (class_next c.in_ok-marks.ensures (no_test _ _ c.if-is_at_test.ensures) h.0)))

pub read_member-returns-in_err-name-2-clause-read : goal.read_member-returns-in_err-name-2-clause-read
read_member-returns-in_err-name-2-clause-read t c = λ taken names all knows.
    let p = err_from_is_err_and c.from_residual-in_err-name-2.result c.from_residual-in_err-name-2.ensures.1 in
    rw (p.1, p.2) (λ rest m places h.
    let k = class_next c.in_ok-marks.ensures (no_test _ _ c.if-is_at_test.ensures) h.0 in
    c.in_err-name-2.ensures.only names knows k.name k.left (name_left c.in_ok-more.ensures.1 k) (name_is_new names m k.name k.called h.1))

pub read_member-returns-in_err-read_class-clause-read : goal.read_member-returns-in_err-read_class-clause-read
read_member-returns-in_err-read_class-clause-read t c = λ taken names all knows.
    let p = err_from_is_err_and c.from_residual-in_err-read_class.result c.from_residual-in_err-read_class.ensures.1 in
    rw (p.1, p.2) (λ rest m places h.
    let k = class_left c.in_ok-more.ensures.0 c.in_ok-more.ensures.1 (name_stands _ _ _ _ _ c.peek-2.ensures.next c.in_ok-name-2.ensures.found)
    (class_next c.in_ok-marks.ensures (no_test _ _ c.if-is_at_test.ensures) h.0) in
    c.in_err-read_class.ensures.read taken all rest k.0 places k.2)

pub read_member-returns-clause-read : goal.read_member-returns-clause-read
read_member-returns-clause-read t c = λ taken names all knows.
    let read = c.in_ok-read_class.ensures.read taken all in
    rw member_of-class (
      read.0,
      (
        is_nested c.in_ok-marks.ensures c.in_ok-more.ensures.0 c.in_ok-more.ensures.1 (name_stands _ _ _ _ _ c.peek-2.ensures.next c.in_ok-name-2.ensures.found) read.1,
        ap (is_among names) (class_name read.1) ∙ (c.in_ok-name-2.ensures.fresh names knows).0,
      ),
      read.2,
    )

pub read_member-returns-clause-names : goal.read_member-returns-clause-names
read_member-returns-clause-names t c = λ names knows.
    let all = known c.args.scopes.now.items in
    rw (member_of-class, class_name (c.in_ok-read_class.ensures.read all.0 all.1).1) ((c.in_ok-name-2.ensures.fresh names knows).1)

pub read_members-members-init : goal.read_members-members-init
read_members-members-init t c =
    rw c.new-members.ensures.items
    (record { read = λ taken all. ([], (refl, refl), none_kept _); names = c.new-seen.ensures; distinct = IsDistinct-none; kept = refl })

pub read_members-returns-in_err-read_member-clause-read : goal.read_members-returns-in_err-read_member-clause-read
read_members-returns-in_err-read_member-clause-read t c = λ taken all.
    let p = err_from_is_err_and c.from_residual.result c.from_residual.ensures.1 in
    let i = c.members.invariant in
    rw (p.1, p.2) (λ rest ms others h.
    let n = next_member _ taken _ _ _ _ (i.read taken all).1 (none_is _ c.members-test.ensures) ms others rest h in
    c.in_err-read_member.ensures.read taken _ (rw i.kept all) i.names n.2 n.0 n.1 n.3)

pub read_members-members-smaller : goal.read_members-members-smaller
read_members-members-smaller t c =
    let all = known c.members.scopes.items in
    omega (arith, member_shorter (c.in_ok-read_member.ensures.read all.0 _ all.1 c.members.invariant.names).1.0)

pub read_members-members-preserved : goal.read_members-members-preserved
read_members-members-preserved t c =
    let i = c.members.invariant in
    let m = c.in_ok-read_member.ensures in
    let all = known c.members.scopes.items in
    let fresh = (m.read all.0 _ all.1 i.names).1.1 in
    rw (c.in_ok-push.ensures.items, map_push)
    (record {
      read = λ taken all.
          let before = i.read taken all in
          let one = m.read taken _ (rw i.kept all) i.names in
          (before.0 ++ one.0, placed_push (IsMember c.args.classes taken) _ _ _ _ _ _ _ before.1 one.1.0, kept_more _ _ _ before.2 one.2);
      names = rw map_push (m.names _ i.names);
      distinct = rw map_push (IsDistinct-push _ _ i.distinct fresh);
      kept = m.kept ∙ i.kept;
    })

pub read_members-returns-then-is_empty-clause-read : goal.read_members-returns-then-is_empty-clause-read
read_members-returns-then-is_empty-clause-read t c = λ taken all rest ms others h.
    let s = stands_in_front CloseBrace _ c.members-test.ensures in
    let none = none_left _ _ c.members.members.ok.0 c.if-is_empty.ensures in
    absurd (empty_refused _ s.0 taken _ _ _ _ _ (c.members.invariant.read taken all).1 (ap (map member_of) none) s.1 ms others rest h)

pub read_members-returns-clause-read : goal.read_members-returns-clause-read
read_members-returns-clause-read t c = λ taken all.
    let i = c.members.invariant in
    let s = stands_in_front CloseBrace c.members.parser.lexer c.members-test.ensures in
    let r = i.read taken all in (
      r.0,
      has_members (all_read _ taken _ _ _ _ _ r.1 (ap (after CloseBrace) s.1 ∙ after-symbol_at s.0 CloseBrace _ ∙ ap Some (sym c.advance.ensures)))
          (members_of-some _ (some_left (map member_of c.members.members.items) _ (c.members.members.ok.0 ∙ sym (length-map _ _)) c.if-is_empty.ensures)) (rw names_of-members_of i.distinct),
      r.2,
    )
