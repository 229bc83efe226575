-- Where no body is under way and no class may be shut, some node may be entered, or all are finished. From an open class the way
-- goes down to its first unfinished child, as long as that is open. What waits at the end has only a lock in its way, and whoever
-- holds it is an open class: so the way goes down from there. It does so twice at most.
use Rattle.std.proofs.Common.{◌≡◌, ℕ, zero, suc, ◌+◌, ◌<◌, ◌≤◌, Option, Some, None, is_some, is_none, Bool, true, false, not, ◌&&◌, inl, inr, refl, sym, ap, subst, ◌∙◌, arith}
use Rattle.std.proofs.Math.Dec.{eqb}
use Rattle.std.proofs.lemmas.Bool.{eq-eqb, eqb-true, ne_eqb}
use Rattle.std.specs.Option.{option_map}
use Rattle.iso_isolation.specs.Languages.{Language, BodyLaws}
use Rattle.iso_isolation.specs.Suites.{Suite, On, same, up, SuiteLaws}
use Rattle.iso_isolation.specs.States as S
use Rattle.iso_isolation.specs.States.{Status, State, is_waiting, is_open, is_finished, is_at_rest, is_held, body_in}
use Rattle.iso_isolation.specs.Events.{where_some}
use Rattle.iso_isolation.specs.Refusals as Why
use Rattle.iso_isolation.specs.Refusals.{Refused, is_root, lowest_below, any_below, body_of, is_unfinished_sibling, is_unfinished_child, has_unfinished_sibling, has_unfinished_child, lock_held}
use Rattle.iso_isolation.specs.Runs.{is_complete}
use Rattle.iso_isolation.proofs.Accepted.{nonzero_from}
use Rattle.iso_isolation.proofs.Changes.{equal_or_not, true_or_false, none_below}
use Rattle.iso_isolation.proofs.Locks.{nothing_above_root}
use Rattle.iso_isolation.proofs.Statuses.{finished_unheld, open_held}
use Rattle.iso_progress.specs.Candidates.{NoneAtWork, may_be_shut, may_be_entered}
use Rattle.iso_progress.specs.ProgressLaws.{ProgressLaws}
use Rattle.iso_progress.proofs.Lowest.{lowest, none_found}
use Rattle.iso_progress.proofs.Reaching.{Going}
use Rattle.iso_progress.proofs.Staffed.{is_closed}

-- an unfinished child, by the three tests of `is_unfinished_child`
record Child (a b c : Bool) : Type 0 where
  nonroot : a ≡ false
  parent : b ≡ true
  unfinished : c ≡ false

child_parts : (a b c : Bool) → (not a && b && not c) ≡ true → Child a b c
child_parts true b c e = absurd cc
child_parts false true true e = absurd cc
child_parts false true false e = record { nonroot = refl; parent = refl; unfinished = refl }
child_parts false false c e = absurd cc

child_test : (a b c : Bool) → a ≡ false → b ≡ true → c ≡ false → (not a && b && not c) ≡ true
child_test true b c e f g = absurd cc
child_test false true true e f g = absurd cc
child_test false true false e f g = refl
child_test false false c e f g = absurd cc

-- who is no unfinished child is no unfinished sibling either
one_test_more : (a b c d : Bool) → (a && b && not d) ≡ false → (a && b && c && not d) ≡ false
one_test_more true true true d e = e
one_test_more true true false d e = refl
one_test_more true false c d e = refl
one_test_more false b c d e = refl

two_parts : (a b : Bool) → (a && b) ≡ true → (a ≡ true) × (b ≡ true)
two_parts true b e = (refl, e)
two_parts false b e = absurd cc

not_both : (a b : Bool) → b ≡ false → (a && b) ≡ false
not_both true b e = e
not_both false b e = refl

true_from : (a b : Bool) → (a && not b) ≡ false → a ≡ true → b ≡ true
true_from true true e h = refl
true_from true false e h = absurd cc
true_from false b e h = absurd cc

-- what a class at rest may not be shut for
left_by : (a b : Bool) → (not a && true && not (true && b)) ≡ false → a ≡ false → b ≡ true
left_by true b e f = absurd cc
left_by false true e f = refl
left_by false false e f = absurd cc

finished_closed : {B F R : Type 0} (v : Status B F R) → is_finished v ≡ true → is_closed v ≡ true
finished_closed S.Waiting e = absurd cc
finished_closed (S.Begun b) e = absurd cc
finished_closed (S.Open fs) e = absurd cc
finished_closed (S.Barred fs) e = refl
finished_closed (S.Closing fs b) e = refl
finished_closed (S.Finished r) e = refl

pub enter_test : (a b c d f : Bool) → a ≡ false → b ≡ true → c ≡ true → d ≡ false → f ≡ true → (not a && b && c && not d && f) ≡ true
enter_test true b c d f e p q r t = absurd cc
enter_test false true true false f e p q r t = t
enter_test false true true true f e p q r t = absurd cc
enter_test false true false d f e p q r t = absurd cc
enter_test false false c d f e p q r t = absurd cc

module _ {H K V : Type 0} (x : Suite H K V) where
  on_trans : {a b c : ℕ} → On x a b → On x b c → On x a c
  on_trans p same = p
  on_trans p (up nz on) = up nz (on_trans p on)

module _ {H K V B F R : Type 0} (l : Language H K V B F R) (x : Suite H K V) (plan : SuiteLaws l x) (laws : BodyLaws l) (more : ProgressLaws l x) (workers : ℕ)
    (s : State K V B F R) (g : Going l x plan laws more workers s) where
  abbrev st : ℕ → Status B F R
  st = s.nodes.status

  module _ (none : NoneAtWork l x workers s) (no_shut : (n : ℕ) → n < x.nodes → may_be_shut l x workers s n ≡ false) where
    -- no body is under way
    no_body : (n : ℕ) (b : B) → body_in (st n) ≡ Some b → ⊥
    no_body n b e =
        let a = g.staffed.standing.manned n b e in
        let found : is_some (body_of l x workers s a.worker) ≡ true =
        ap (λ (o : Option ℕ). is_some (where_some o None (λ (j : ℕ). body_in (st j)))) a.at ∙ ap is_some e
        in
        let idle = none a.worker a.inside in
        cc

    -- a class that is entered and unfinished is open, and has an unfinished child
    held_open : (n : ℕ) → (n ≡ 0 → ⊥) → n < x.nodes → (v : Status B F R) → st n ≡ v → is_held v ≡ true → is_open (st n) ≡ true
    held_open n nz lt S.Waiting e h = absurd cc
    held_open n nz lt (S.Begun b) e h = absurd (no_body n b (ap body_in e))
    held_open n nz lt (S.Open fs) e h = ap is_open e
    held_open n nz lt (S.Barred fs) e h =
        let shut : may_be_shut l x workers s n ≡ true =
        ap (λ (v : Status B F R). not (is_root n) && is_at_rest v && not (is_open v && has_unfinished_child l x workers s n)) e
        ∙ ap (λ (a : Bool). not a && true && true) (ne_eqb n 0 nz)
        in
        let no = no_shut n lt in
        absurd cc
    held_open n nz lt (S.Closing fs b) e h = absurd (no_body n b (ap body_in e))
    held_open n nz lt (S.Finished r) e h = absurd cc

    open_left : (n : ℕ) → (n ≡ 0 → ⊥) → n < x.nodes → (v : Status B F R) → st n ≡ v → is_open v ≡ true → has_unfinished_child l x workers s n ≡ true
    open_left n nz lt (S.Open fs) e o =
        left_by (is_root n) (has_unfinished_child l x workers s n)
        (sym (ap (λ (v : Status B F R). not (is_root n) && is_at_rest v && not (is_open v && has_unfinished_child l x workers s n)) e) ∙ no_shut n lt) (ne_eqb n 0 nz)
    open_left n nz lt S.Waiting e o = absurd cc
    open_left n nz lt (S.Begun b) e o = absurd cc
    open_left n nz lt (S.Barred fs) e o = absurd cc
    open_left n nz lt (S.Closing fs b) e o = absurd cc
    open_left n nz lt (S.Finished r) e o = absurd cc

    held_left : (n : ℕ) → (n ≡ 0 → ⊥) → n < x.nodes → is_held (st n) ≡ true → has_unfinished_child l x workers s n ≡ true
    held_left n nz lt h = open_left n nz lt (st n) refl (held_open n nz lt (st n) refl h)

    -- a node that waits below a class, with no sibling in its way
    record Front (c : ℕ) : Type 0 where
      node : ℕ
      inside : node < x.nodes
      nonzero : node ≡ 0 → ⊥
      below : c < node
      on : On x c (x.parent node)
      waits : is_waiting (st node) ≡ true
      parent : is_open (st (x.parent node)) ≡ true
      first : has_unfinished_sibling l x workers s node ≡ false

    -- the first unfinished child of an open class
    record First (c : ℕ) : Type 0 where
      node : ℕ
      inside : node < x.nodes
      nonzero : node ≡ 0 → ⊥
      under : x.parent node ≡ c
      unfinished : is_finished (st node) ≡ false
      first : has_unfinished_sibling l x workers s node ≡ false

    first_child : (c : ℕ) → has_unfinished_child l x workers s c ≡ true → First c
    first_child c e = by (lowest_below x.nodes (is_unfinished_child l x workers s c)) refl e
      where
        by : (o : Option ℕ) → lowest_below x.nodes (is_unfinished_child l x workers s c) ≡ o → is_some o ≡ true → First c
        by None q h = absurd cc
        by (Some m) q h =
            let low = lowest x.nodes (is_unfinished_child l x workers s c) m q in
            let p = child_parts (is_root m) (eqb (x.parent m) c) (is_finished (st m)) low.passes in
            let under : x.parent m ≡ c = eqb-true (x.parent m) c p.parent in
            record {
              node = m;
              inside = low.inside;
              nonzero = nonzero_from m p.nonroot;
              under = under;
              unfinished = p.unfinished;
              first =
                  ap is_some (none_found m (is_unfinished_sibling l x workers s m) (λ i lt.
                  one_test_more (not (is_root i)) (eqb (x.parent i) (x.parent m)) (x.is_same_thread i) (is_finished (st i))
                  (ap (λ (j : ℕ). not (is_root i) && eqb (x.parent i) j && not (is_finished (st i))) under ∙ low.first i lt)));
            }

    -- an unfinished node waits, or is entered
    waits_or_held : (v : Status B F R) → is_finished v ≡ false → is_waiting v ≡ false → is_held v ≡ true
    waits_or_held S.Waiting f w = absurd cc
    waits_or_held (S.Begun b) f w = refl
    waits_or_held (S.Open fs) f w = refl
    waits_or_held (S.Barred fs) f w = refl
    waits_or_held (S.Closing fs b) f w = refl
    waits_or_held (S.Finished r) f w = absurd cc

    -- the way down
    down : (far c : ℕ) → x.nodes ≤ far + c → is_open (st c) ≡ true → has_unfinished_child l x workers s c ≡ true → Front c
    down zero c most rests left =
        let f = first_child c left in
        let inside = f.inside in
        let lower = plan.below f.node f.nonzero in
        let under = f.under in
        absurd (omega arith)
    down (suc far) c most rests left =
        let f = first_child c left in
        let inside = f.inside in
        let lower = plan.below f.node f.nonzero in
        let under = f.under in
        let further : c < f.node = omega arith in
        elim (true_or_false (is_waiting (st f.node))) [
          | inl w ↦ record {
            node = f.node;
            inside = f.inside;
            nonzero = f.nonzero;
            below = further;
            on = subst (λ (j : ℕ). On x c j) (sym f.under) same;
            waits = w;
            parent = subst (λ (j : ℕ). is_open (st j) ≡ true) (sym f.under) rests;
            first = f.first;
          }
          | inr nw ↦
              let held = waits_or_held (st f.node) f.unfinished nw in
              let o = held_open f.node f.nonzero f.inside (st f.node) refl held in
              let d = down far f.node (omega arith) o (open_left f.node f.nonzero f.inside (st f.node) refl o) in
              let deeper = d.below in
              record {
                node = d.node;
                inside = d.inside;
                nonzero = d.nonzero;
                below = omega arith;
                on = on_trans x {a = c} {b = f.node} {c = x.parent d.node} (up f.nonzero (subst (λ (j : ℕ). On x c j) (sym f.under) same)) d.on;
                waits = d.waits;
                parent = d.parent;
                first = d.first;
              }
        ]

    down_from : (c : ℕ) → is_open (st c) ≡ true → has_unfinished_child l x workers s c ≡ true → Front c
    down_from c rests left = down x.nodes c (omega arith) rests left

    held_front : (n : ℕ) → (n ≡ 0 → ⊥) → n < x.nodes → is_held (st n) ≡ true → Front n
    held_front n nz lt h = down_from n (held_open n nz lt (st n) refl h) (held_left n nz lt h)

    module _ (no_enter : (n : ℕ) → n < x.nodes → may_be_entered l x workers s n ≡ false) where
      -- so a lock is in the way of what waits there
      record Holder (n : ℕ) : Type 0 where
        node : ℕ
        inside : node < x.nodes
        nonzero : node ≡ 0 → ⊥
        held : is_held (st node) ≡ true
        conflict : x.conflict node n ≡ true

      holder : {c : ℕ} (f : Front c) → Holder f.node
      holder {c} f = by (lowest_below x.nodes (λ m. is_held (st m) && x.conflict m f.node)) refl
        where
          by : (o : Option ℕ) → lowest_below x.nodes (λ m. is_held (st m) && x.conflict m f.node) ≡ o → Holder f.node
          by None q =
              let free : is_none (lock_held l x workers s f.node) ≡ true = ap (λ (o : Option ℕ). is_none (option_map Why.LockHeld o)) q in
              let may = enter_test (is_root f.node) (is_waiting (st f.node)) (is_open (st (x.parent f.node))) (x.is_same_thread f.node && has_unfinished_sibling l x workers s f.node)
              (is_none (lock_held l x workers s f.node)) (ne_eqb f.node 0 f.nonzero) f.waits f.parent
              (not_both (x.is_same_thread f.node) (has_unfinished_sibling l x workers s f.node) f.first) free
              in
              let no = no_enter f.node f.inside in
              absurd cc
          by (Some m) q =
              let low = lowest x.nodes (λ m. is_held (st m) && x.conflict m f.node) m q in
              let p = two_parts (is_held (st m)) (x.conflict m f.node) low.passes in
              record {
                node = m;
                inside = low.inside;
                nonzero = λ z. let no : x.conflict m f.node ≡ false = ap (λ (j : ℕ). x.conflict j f.node) z ∙ more.root f.node in cc;
                held = p.0;
                conflict = p.1;
              }

      -- what stands in a class isn't a top-level class
      inner : (c : ℕ) → (c ≡ 0 → ⊥) → (f : Front c) → x.parent f.node ≡ 0 → ⊥
      inner c nz f z = nz (nothing_above_root l x plan (subst (λ (j : ℕ). On x c j) z f.on))

      -- in a class that is in the way of a node within a top-level class nothing waits for a lock
      no_holder : (n : ℕ) → (x.parent n ≡ 0 → ⊥) → (h : Holder n) → ⊥
      no_holder n deep h =
          let f = held_front h.node h.nonzero h.inside h.held in
          let below = f.below in
          let free = more.gathered h.node n f.node h.conflict deep (up f.nonzero f.on) (λ e. let e1 : h.node ≡ f.node = e in omega arith) in
          let again = holder f in
          let one = free again.node in
          let other = again.conflict in
          cc

      -- and a class that is in the way of a top-level one has nodes within
      no_front : {c : ℕ} → Front c → ⊥
      no_front {c} f =
          let h = holder f in
          let f2 = held_front h.node h.nonzero h.inside h.held in
          no_holder f2.node (inner h.node h.nonzero f2) (holder f2)

      -- the root has no unfinished child, so nothing is unfinished
      root_done : has_unfinished_child l x workers s 0 ≡ false
      root_done = elim (true_or_false (has_unfinished_child l x workers s 0)) [
        | inl t ↦ absurd (no_front (down_from 0 (ap is_open g.kept.locked.root) t))
        | inr f ↦ f
      ]

      not_some : (o : Option ℕ) → is_some o ≡ false → o ≡ None
      not_some None e = refl
      not_some (Some n) e = absurd cc

      top_finished : (n : ℕ) → (n ≡ 0 → ⊥) → n < x.nodes → x.parent n ≡ 0 → is_finished (st n) ≡ false → ⊥
      top_finished n nz lt top e =
          let no : (not (is_root n) && eqb (x.parent n) 0 && not (is_finished (st n))) ≡ false =
          none_below x.nodes (is_unfinished_child l x workers s 0) (not_some (lowest_below x.nodes (is_unfinished_child l x workers s 0)) root_done) n lt
          in
          let yes = child_test (is_root n) (eqb (x.parent n) 0) (is_finished (st n)) (ne_eqb n 0 nz) (eq-eqb (x.parent n) 0 top) e in
          cc

      -- where a node is unfinished, so is the one that it stands in
      parent_unfinished : (n : ℕ) → (n ≡ 0 → ⊥) → n < x.nodes → is_finished (st n) ≡ false → is_finished (st (x.parent n)) ≡ false
      parent_unfinished n nz lt e = elim (true_or_false (is_finished (st (x.parent n)))) [
        | inr f ↦ f
        | inl f ↦ elim (true_or_false (is_waiting (st n))) [
          | inl w ↦ absurd (g.staffed.standing.left n nz lt w (finished_closed (st (x.parent n)) f))
          | inr nw ↦
              let o = g.kept.locked.tree n nz (waits_or_held (st n) e nw) in
              absurd (finished_unheld (st (x.parent n)) f (open_held (st (x.parent n)) o))
        ]
      ]

      each_finished : (far n : ℕ) → n ≤ far → (n ≡ 0 → ⊥) → n < x.nodes → is_finished (st n) ≡ false → ⊥
      each_finished zero n most nz lt e = nz (omega arith)
      each_finished (suc far) n most nz lt e = elim (equal_or_not (x.parent n) 0) [
        | inl top ↦ top_finished n nz lt top e
        | inr deep ↦
            let below = plan.below n nz in
            each_finished far (x.parent n) (omega arith) deep (omega arith) (parent_unfinished n nz lt e)
      ]

      done_test : (n : ℕ) → n < x.nodes → (not (is_root n) && not (is_finished (st n))) ≡ false
      done_test n lt = elim (true_or_false (is_finished (st n))) [
        | inl f ↦ not_both (not (is_root n)) (not (is_finished (st n))) (ap not f)
        | inr f ↦ elim (equal_or_not n 0) [
          | inl z ↦ ap (λ (a : Bool). not a && not (is_finished (st n))) (eq-eqb n 0 z)
          | inr nz ↦ absurd (each_finished n n (omega arith) nz lt f)
        ]
      ]

      complete : is_complete x s ≡ true
      complete = ap (λ (o : Option ℕ). not (is_some o)) (none_found x.nodes (λ n. not (is_root n) && not (is_finished (st n))) done_test)

  pub complete_where_none : NoneAtWork l x workers s → ((n : ℕ) → n < x.nodes → may_be_shut l x workers s n ≡ false)
      → ((n : ℕ) → n < x.nodes → may_be_entered l x workers s n ≡ false) → is_complete x s ≡ true
  complete_where_none none no_shut no_enter = complete none no_shut no_enter
