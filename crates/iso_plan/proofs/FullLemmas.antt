-- In the tree of scripts each node but the root is a class or a test.
use Rattle.std.proofs.Common.{◌≡◌, ℕ, zero, suc, ◌+◌, ◌<◌, List, [], ◌∷◌, ◌++◌, length, Bool, true, false, ◌&&◌, refl, ap₂, ◌∙◌, arith}
use Rattle.std.proofs.lemmas.List.Folds.{list_all-append}
use Rattle.std.specs.List.{list_all}
use Rattle.iso_model.specs.Scripts.{Class, class, Member, class_member, test_member, Members, no_members, member, Script}
use Rattle.iso_plan.specs.Paths.{is_class_or_test, row_at}
use Rattle.iso_plan.specs.Tree.{Row, member_rows, members_rows, class_rows, top_rows, team_rows, script_rows, written_tree}

abbrev all_written : List Row → Bool
all_written rows = list_all (λ (r : Row). is_class_or_test r.kind) rows

both : (xs ys : List Row) → all_written xs ≡ true → all_written ys ≡ true → all_written (xs ++ ys) ≡ true
both xs ys h g = list_all-append (λ (r : Row). is_class_or_test r.kind) xs ys ∙ ap₂ (λ (a b : Bool). a && b) h g

mutual
  members-written : (ms : Members) (p n : ℕ) → all_written (members_rows p n ms) ≡ true
  members-written no_members p n = refl
  members-written (member m ms) p n =
      let first = member_rows p n m in
      both first (members_rows p (n + length first) ms) (member-written m p n) (members-written ms p (n + length first))

  member-written : (m : Member) (p n : ℕ) → all_written (member_rows p n m) ≡ true
  member-written (test_member t) p n = refl
  member-written (class_member c) p n = class-written c p n

  class-written : (c : Class) (p n : ℕ) → all_written (class_rows p n c) ≡ true
  class-written (class c ms) p n = members-written ms n (n + 1)

top-written : (team : List ℕ) (c : Class) (n : ℕ) → all_written (top_rows team n c) ≡ true
top-written team (class c ms) n = members-written ms n (n + 1)

team-written : (team : List ℕ) (cs : List Class) (n : ℕ) → all_written (team_rows team n cs) ≡ true
team-written team [] n = refl
team-written team (c ∷ cs) n =
    let first = top_rows team n c in
    both first (team_rows team (n + length first) cs) (top-written team c n) (team-written team cs (n + length first))

scripts-written : (ss : List Script) (n : ℕ) → all_written (script_rows n ss) ≡ true
scripts-written [] n = refl
scripts-written (s ∷ ss) n =
    let first = team_rows s.team n s.classes in
    both first (script_rows (n + length first) ss) (team-written s.team s.classes n) (scripts-written ss (n + length first))

split_by : (a b : Bool) → (a && b) ≡ true → (a ≡ true) × (b ≡ true)
split_by true b h = (refl, h)
split_by false b h = let wrong : false ≡ true = h in absurd (cc)

written-at : (rows : List Row) (i : ℕ) → all_written rows ≡ true → i < length rows → is_class_or_test (row_at rows i).kind ≡ true
written-at [] i h less = absurd (omega arith)
written-at (r ∷ rows) zero h less = (split_by (is_class_or_test r.kind) (all_written rows) h).0
written-at (r ∷ rows) (suc i) h less = written-at rows i (split_by (is_class_or_test r.kind) (all_written rows) h).1 (omega arith)

pub tree-full : (ss : List Script) (n : ℕ) → 0 < n → n < length (written_tree ss) → is_class_or_test (row_at (written_tree ss) n).kind ≡ true
tree-full ss zero pos inside = absurd (omega arith)
tree-full ss (suc n) pos inside = written-at (script_rows 1 ss) n (scripts-written ss 1) (omega arith)
