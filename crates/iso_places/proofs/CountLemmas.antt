-- Scripts that were read have a place for each node.
use Rattle.std.proofs.Common.{◌≡◌, ℕ, suc, ◌+◌, List, [], ◌∷◌, length, map, refl, sym, ap, ap₂, ◌∙◌, arith}
use Rattle.std.proofs.lemmas.List.{length-append, length-map}
use Rattle.iso_model.specs.Scripts.{Test, Class, class, Member, Members, Script}
use Rattle.iso_places.specs.Located.{WereRead}
use Rattle.iso_places.specs.Sites.{all_sites, site_in, sites_from}
use Rattle.iso_plan.specs.Tree.{class_rows, effective_row, member_rows, members_rows, script_rows, team_rows, top_rows, tree, written_tree}
use Rattle.iso_script.specs.Grammar.{IsTest, a_test, IsMember, as_test, as_class, IsClass, a_class, IsMembers, closed, and_then, has_members, IsScript, a_script, IsTopClass}
use Rattle.iso_script.specs.Marks.{Marks}
use Rattle.iso_script.specs.Readings.{ArePlaced}
use Rattle.iso_script.specs.declared.place.NodePlace.{NodePlace}
use Rattle.iso_script_lexer.specs.Piece.{Piece}
use Rattle.iso_script_lexer.specs.declared.token.Position.{Position}

test_count : {marks : Marks} {n : List ℕ} {at : Position} {t : Test} {places : List NodePlace} {ps qs : List Piece} → IsTest marks n at t places ps qs → length places ≡ 1
test_count (a_test h k) = refl

mutual
  member_count : {d : ℕ} {taken : List (List ℕ)} {m : Member} {places : List NodePlace} {ps qs : List Piece} (parent n : ℕ)
      → IsMember d taken m places ps qs → length places ≡ length (member_rows parent n m)
  member_count parent n (as_test h fits t) = test_count t
  member_count parent n (as_class h c) = class_count parent n c

  class_count : {d : ℕ} {taken : List (List ℕ)} {marks : Marks} {name : List ℕ} {at : Position} {c : Class} {places : List NodePlace} {ps qs : List Piece} (parent n : ℕ)
      → IsClass d taken marks name at c places ps qs → length places ≡ length (class_rows parent n c)
  class_count parent n (a_class h v b (has_members ms some distinct)) = ap suc (members_count n (n + 1) ms)

  members_count : {d : ℕ} {taken : List (List ℕ)} {ms : Members} {places : List NodePlace} {ps qs : List Piece} (parent n : ℕ)
      → IsMembers d taken ms places ps qs → length places ≡ length (members_rows parent n ms)
  members_count parent n closed = refl
  members_count parent n (and_then {m = m} {ms = ms} {own = own} {more = more} h hs) =
      let first = member_rows parent n m in
      length-append own more ∙ ap₂ (λ (a b : ℕ). a + b) (member_count parent n h) (members_count parent (n + length first) hs)
      ∙ sym (length-append first (members_rows parent (n + length first) ms))

top_count : (team : List ℕ) (n : ℕ) (c : Class) → length (top_rows team n c) ≡ length (class_rows 0 n c)
top_count team n (class title ms) = refl

team_count : (team : List ℕ) (n : ℕ) (cs : List Class) (places : List NodePlace) (ps qs : List Piece) → ArePlaced IsTopClass cs places ps qs → length places ≡ length (team_rows team n cs)
team_count team n [] places ps qs h = ap length h.0
team_count team n (c ∷ cs) places ps qs (own, more, rest, is, first, others) =
    let rows = top_rows team n c in
    ap length is ∙ length-append own more ∙ ap₂ (λ (a b : ℕ). a + b) (member_count 0 n first ∙ sym (top_count team n c)) (team_count team (n + length rows) cs more rest qs others)
    ∙ sym (length-append rows (team_rows team (n + length rows) cs))

script_count : {s : Script} {places : List NodePlace} {ps : List Piece} (n : ℕ) → IsScript s places ps → length places ≡ length (team_rows s.team n s.classes)
script_count n (a_script {n = team} {cs = cs} {places = places} {ps = ps} h) = team_count team n cs places ps [] h

rows_count : (ss : List Script) (lists : List (List NodePlace)) (n k : ℕ) → WereRead ss lists → length (script_rows n ss) ≡ length (sites_from k lists)
rows_count [] [] n k h = refl
rows_count [] (places ∷ more) n k h = absurd h
rows_count (s ∷ ss) [] n k h = absurd h
rows_count (s ∷ ss) (places ∷ more) n k h =
    let first = team_rows s.team n s.classes in
    length-append first (script_rows (n + length first) ss)
    ∙ ap₂ (λ (a b : ℕ). a + b) (sym (script_count n h.0.1.read) ∙ sym (length-map places (site_in k))) (rows_count ss more (n + length first) (k + 1) h.1)
    ∙ sym (length-append (map (site_in k) places) (sites_from (k + 1) more))

pub each_counted : (ss : List Script) (lists : List (List NodePlace)) → WereRead ss lists → length (tree ss) ≡ length (all_sites lists) + 1
each_counted ss lists h =
    let rows = length-map (written_tree ss) (effective_row (written_tree ss)) in
    let count = rows_count ss lists 1 0 h in
    rows ∙ omega arith
