-- The language and the suite of the examples keep all laws.
use Rattle.std.proofs.Common.{◌≡◌, ℕ, zero, suc, ◌<◌, Bool, true, false, cond, ◌&&◌, ◌||◌, List, [], ◌∷◌, ◌++◌, Option, Some, None, ◌⊎◌, inl, inr, refl, sym, ap, ◌∙◌, arith}
use Rattle.std.proofs.Math.Dec.{eqb}
use Rattle.std.proofs.lemmas.Bool.{eqb-true, eq-eqb}
use Rattle.std.specs.Option.{option_map}
use Rattle.iso_isolation.specs.Languages.{Content, Agree, Alike, RightsLaws, BodyLaws}
use Rattle.iso_isolation.specs.Suites.{On, same, up, Shared, Covered, may_read, SuiteLaws}
use Rattle.iso_isolation.specs.Examples.{Head, declared, looks_at, Counter, counter, turn, turns, turns_left, is_zero, counting, row_at, up_from, is_key, equal_keys, shop}
use Rattle.iso_isolation.specs.Histories.{EndLaws}
use Rattle.iso_isolation.proofs.Bodies.{alike_by}
use Rattle.iso_isolation.proofs.Locks.{on_split}

one_more_reads : (c v e r q : Bool) → (r ≡ true → q ≡ true) → cond c (cond e true r) r ≡ true → cond (v || c) (cond e true q) q ≡ true
one_more_reads true true true r q f h = refl
one_more_reads true true false r q f h = f h
one_more_reads true false true r q f h = refl
one_more_reads true false false r q f h = f h
one_more_reads false true true r q f h = refl
one_more_reads false true false r q f h = f h
one_more_reads false false e r q f h = f h

changes_look : (hs : List Head) (k : ℕ) → declared (λ h. h.changes) hs k ≡ true → declared looks_at hs k ≡ true
changes_look [] k e = absurd cc
changes_look (h ∷ hs) k e = one_more_reads h.changes h.looks (eqb k h.key) _ _ (changes_look hs k) e

one_more : (c e r : Bool) → r ≡ true → cond c (cond e true r) r ≡ true
one_more true true r h = refl
one_more true false r h = h
one_more false e r h = h

rights : RightsLaws counting
rights = record {
  write_reads = changes_look;
  inner_reads = λ h hs k r. one_more (looks_at h) (eqb k h.key) _ r;
  inner_writes = λ h hs k r. one_more h.changes (eqb k h.key) _ r;
}

not_changed : {A : Type 0} (e w : Bool) (a b : A) → w ≡ false → cond (e && w) a b ≡ b
not_changed true w a b h = ap (λ (t : Bool). cond t a b) h
not_changed false w a b h = refl

turn_writes : (hs : List Head) (b : Counter) (m : Content ℕ ℕ) (k : ℕ) → declared (λ h. h.changes) hs k ≡ false → (turn hs b m).content k ≡ m k
turn_writes hs (counter zero key seen w) m k e = refl
turn_writes hs (counter (suc n) key seen w) m k e = not_changed (eqb k key) _ _ (m k) e

look_alike : (r : Bool) (u v : Option ℕ) → (r ≡ true → u ≡ v) → cond r u None ≡ cond r v None
look_alike true u v f = f refl
look_alike false u v f = refl

turn_reads : (hs : List Head) (b : Counter) (m n : Content ℕ ℕ) → Agree counting hs m n → Alike counting hs (turn hs b m) (turn hs b n)
turn_reads hs (counter zero key seen w) m n a = record { body = refl; at = a.at }
turn_reads hs (counter (suc i) key seen w) m n a = record {
  body = ap (λ (v : Option ℕ). counter i key (seen ++ v ∷ []) w) (look_alike (declared looks_at hs key) (m key) (n key) (a.at key));
  at = λ k r. ap (λ (v : Option ℕ). cond (eqb k key && declared (λ h. h.changes) hs k) (option_map suc v) v) (a.at k r);
}

turn_ended : (hs : List Head) (b : Counter) (m : Content ℕ ℕ) → is_zero (turns_left b) ≡ true → turn hs b m ≡ record { body = b; content = m }
turn_ended hs (counter zero key seen w) m e = refl
turn_ended hs (counter (suc n) key seen w) m e = absurd cc

turns_write : (i : ℕ) (hs : List Head) (b : Counter) (m : Content ℕ ℕ) (k : ℕ) → declared (λ h. h.changes) hs k ≡ false → (turns i hs b m).content k ≡ m k
turns_write zero hs b m k e = refl
turns_write (suc i) hs b m k e = turns_write i hs (turn hs b m).body (turn hs b m).content k e ∙ turn_writes hs b m k e

turns_read : (i : ℕ) (hs : List Head) (b : Counter) (m n : Content ℕ ℕ) → Agree counting hs m n → Alike counting hs (turns i hs b m) (turns i hs b n)
turns_read zero hs b m n a = record { body = refl; at = a.at }
turns_read (suc i) hs b m n a =
    let s = turn_reads hs b m n a in
    alike_by counting hs _ _ _ _ refl (ap (λ (c : Counter). turns i hs c (turn hs b n).content) s.body)
    (turns_read i hs (turn hs b m).body (turn hs b m).content (turn hs b n).content (record { at = s.at }))

turns_step : (hs : List Head) (b : Counter) (m : Content ℕ ℕ)
    → turns (turns_left (turn hs b m).body) hs (turn hs b m).body (turn hs b m).content ≡ turns (turns_left b) hs b m
turns_step hs (counter zero key seen w) m = refl
turns_step hs (counter (suc n) key seen w) m = refl

turns_ended : (hs : List Head) (b : Counter) (m : Content ℕ ℕ) → is_zero (turns_left b) ≡ true → turns (turns_left b) hs b m ≡ record { body = b; content = m }
turns_ended hs (counter zero key seen w) m e = refl
turns_ended hs (counter (suc n) key seen w) m e = absurd cc

pub counting_laws : BodyLaws counting
counting_laws = record {
  rights = rights;
  step_writes = turn_writes;
  step_reads = turn_reads;
  step_ended = turn_ended;
  finish_writes = λ hs b m k e. turns_write (turns_left b) hs b m k e;
  finish_reads = λ hs b m n a. turns_read (turns_left b) hs b m n a;
  finish_step = turns_step;
  finish_ended = turns_ended;
}

-- what holds of each node of the suite, and of all other numbers, holds of every number
each : (P : ℕ → Type 0) → P 0 → P 1 → P 2 → P 3 → P 4 → P 5 → P 6 → P 7 → P 8 → P 9 → P 10
    → ((n : ℕ) → P (suc (suc (suc (suc (suc (suc (suc (suc (suc (suc (suc n)))))))))))) → (n : ℕ) → P n
each P p0 p1 p2 p3 p4 p5 p6 p7 p8 p9 p10 more zero = p0
each P p0 p1 p2 p3 p4 p5 p6 p7 p8 p9 p10 more (suc zero) = p1
each P p0 p1 p2 p3 p4 p5 p6 p7 p8 p9 p10 more (suc (suc zero)) = p2
each P p0 p1 p2 p3 p4 p5 p6 p7 p8 p9 p10 more (suc (suc (suc zero))) = p3
each P p0 p1 p2 p3 p4 p5 p6 p7 p8 p9 p10 more (suc (suc (suc (suc zero)))) = p4
each P p0 p1 p2 p3 p4 p5 p6 p7 p8 p9 p10 more (suc (suc (suc (suc (suc zero))))) = p5
each P p0 p1 p2 p3 p4 p5 p6 p7 p8 p9 p10 more (suc (suc (suc (suc (suc (suc zero)))))) = p6
each P p0 p1 p2 p3 p4 p5 p6 p7 p8 p9 p10 more (suc (suc (suc (suc (suc (suc (suc zero))))))) = p7
each P p0 p1 p2 p3 p4 p5 p6 p7 p8 p9 p10 more (suc (suc (suc (suc (suc (suc (suc (suc zero)))))))) = p8
each P p0 p1 p2 p3 p4 p5 p6 p7 p8 p9 p10 more (suc (suc (suc (suc (suc (suc (suc (suc (suc zero))))))))) = p9
each P p0 p1 p2 p3 p4 p5 p6 p7 p8 p9 p10 more (suc (suc (suc (suc (suc (suc (suc (suc (suc (suc zero)))))))))) = p10
each P p0 p1 p2 p3 p4 p5 p6 p7 p8 p9 p10 more (suc (suc (suc (suc (suc (suc (suc (suc (suc (suc (suc n))))))))))) = more n

path_of : (n : ℕ) → (n ≡ 0 → ⊥) → up_from 3 n ≡ n ∷ up_from 3 (row_at n).parent
path_of = each (λ n. (n ≡ 0 → ⊥) → up_from 3 n ≡ n ∷ up_from 3 (row_at n).parent)
    (λ nz. absurd (nz refl)) (λ nz. refl) (λ nz. refl) (λ nz. refl) (λ nz. refl) (λ nz. refl) (λ nz. refl) (λ nz. refl) (λ nz. refl) (λ nz. refl) (λ nz. refl) (λ n nz. refl)

below : (n : ℕ) → (n ≡ 0 → ⊥) → (row_at n).parent < n
below = each (λ n. (n ≡ 0 → ⊥) → (row_at n).parent < n)
    (λ nz. absurd (nz refl)) (λ nz. omega arith) (λ nz. omega arith) (λ nz. omega arith) (λ nz. omega arith) (λ nz. omega arith) (λ nz. omega arith)
    (λ nz. omega arith) (λ nz. omega arith) (λ nz. omega arith) (λ nz. omega arith) (λ n nz. omega arith)

keys_meet : (p q : Option ℕ) (k : ℕ) → is_key p k ≡ true → is_key q k ≡ true → equal_keys p q ≡ true
keys_meet None q k e f = absurd cc
keys_meet (Some p) None k e f = absurd cc
keys_meet (Some p) (Some q) k e f = eq-eqb p q (sym (eqb-true k p e) ∙ eqb-true k q f)

first_of_two : (a b : Bool) → (a && b) ≡ true → a ≡ true
first_of_two true b e = refl
first_of_two false b e = absurd cc

second_of_two : (a b : Bool) → (a && b) ≡ true → b ≡ true
second_of_two true b e = e
second_of_two false b e = absurd cc

one_writes : (a b c : Bool) → a ≡ true → (b ≡ true) ⊎ (c ≡ true) → (a && (b || c)) ≡ true
one_writes true true c e w = refl
one_writes true false true e w = refl
one_writes true false false e w = elim w [ inl f ↦ absurd cc | inr f ↦ absurd cc ]
one_writes false b c e w = absurd cc

meet : (m n : ℕ) → Shared shop m n → shop.conflict m n ≡ true
meet m n s = one_writes (equal_keys (row_at m).lock (row_at n).lock) (row_at m).is_writer (row_at n).is_writer (keys_meet (row_at m).lock (row_at n).lock s.key s.left s.right)
    (elim s.write [
      | inl w ↦ inl (first_of_two (row_at m).is_writer (is_key (row_at m).lock s.key) w)
      | inr w ↦ inr (first_of_two (row_at n).is_writer (is_key (row_at n).lock s.key) w)
    ])

pub it_is : (e : Bool) → cond e true false ≡ true → e ≡ true
it_is true h = refl
it_is false h = absurd cc

covered : (n : ℕ) (k : ℕ) → may_read counting shop n k ≡ true → Covered counting shop n k
covered = each (λ n. (k : ℕ) → may_read counting shop n k ≡ true → Covered counting shop n k)
    (λ k r. absurd cc)
    (λ k r. record { by = 1; on = same; takes = it_is (eqb k 2) r; write = λ w. it_is (eqb k 2) r })
    (λ k r. record { by = 1; on = up (λ z. omega arith) same; takes = it_is (eqb k 2) r; write = λ w. it_is (eqb k 2) r })
    (λ k r. record { by = 1; on = up (λ z. omega arith) same; takes = it_is (eqb k 2) r; write = λ w. it_is (eqb k 2) r })
    (λ k r. absurd cc)
    (λ k r. record { by = 5; on = same; takes = it_is (eqb k 1) r; write = λ w. it_is (eqb k 1) r })
    (λ k r. record { by = 6; on = same; takes = it_is (eqb k 1) r; write = λ w. absurd cc })
    (λ k r. record { by = 7; on = same; takes = it_is (eqb k 1) r; write = λ w. absurd cc })
    (λ k r. absurd cc) (λ k r. absurd cc) (λ k r. absurd cc) (λ n k r. absurd cc)

-- no node above takes a key for READ_WRITE
above_0 : (m k : ℕ) → shop.takes_write m k ≡ true → On shop m 0 → ⊥
above_0 m k w on = elim (on_split shop on) [
  | inl e ↦ let f : shop.takes_write m k ≡ false = ap (λ (j : ℕ). shop.takes_write j k) e in cc
  | inr p ↦ p.0 refl
]

above_4 : (m k : ℕ) → shop.takes_write m k ≡ true → On shop m 4 → ⊥
above_4 m k w on = elim (on_split shop on) [
  | inl e ↦ let f : shop.takes_write m k ≡ false = ap (λ (j : ℕ). shop.takes_write j k) e in cc
  | inr p ↦ above_0 m k w p.1
]

above_8 : (m k : ℕ) → shop.takes_write m k ≡ true → On shop m 8 → ⊥
above_8 m k w on = elim (on_split shop on) [
  | inl e ↦ let f : shop.takes_write m k ≡ false = ap (λ (j : ℕ). shop.takes_write j k) e in cc
  | inr p ↦ above_0 m k w p.1
]

above_9 : (m k : ℕ) → shop.takes_write m k ≡ true → On shop m 9 → ⊥
above_9 m k w on = elim (on_split shop on) [
  | inl e ↦ let f : shop.takes_write m k ≡ false = ap (λ (j : ℕ). shop.takes_write j k) e in cc
  | inr p ↦ above_8 m k w p.1
]

higher : (m n : ℕ) → On shop m n → (m ≡ n → ⊥) → On shop m (row_at n).parent
higher m n on ne = elim (on_split shop on) [ inl e ↦ absurd (ne e) | inr p ↦ p.1 ]

forced : (m n : ℕ) (k : ℕ) → shop.takes_write m k ≡ true → On shop m n → (m ≡ n → ⊥) → shop.is_same_thread n ≡ true
forced m n k w = each (λ n. On shop m n → (m ≡ n → ⊥) → shop.is_same_thread n ≡ true)
    (λ on ne. refl)
    (λ on ne. absurd (above_0 m k w (higher m 1 on ne)))
    (λ on ne. refl)
    (λ on ne. refl)
    (λ on ne. absurd (above_0 m k w (higher m 4 on ne)))
    (λ on ne. absurd (above_4 m k w (higher m 5 on ne)))
    (λ on ne. absurd (above_4 m k w (higher m 6 on ne)))
    (λ on ne. absurd (above_4 m k w (higher m 7 on ne)))
    (λ on ne. absurd (above_0 m k w (higher m 8 on ne)))
    (λ on ne. absurd (above_8 m k w (higher m 9 on ne)))
    (λ on ne. absurd (above_9 m k w (higher m 10 on ne)))
    (λ n on ne. refl) n

pub shop_laws : SuiteLaws counting shop
shop_laws = record {
  root = refl;
  path = path_of;
  below = below;
  write_takes = λ n k w. second_of_two (row_at n).is_writer (is_key (row_at n).lock k) w;
  conflicts = meet;
  covered = covered;
  forced = forced;
}

nearer : (hs : List Head) (b : Counter) (m : Content ℕ ℕ) → is_zero (turns_left b) ≡ false → turns_left (turn hs b m).body < turns_left b
nearer hs (counter zero key seen w) m e = absurd cc
nearer hs (counter (suc n) key seen w) m e = omega arith

pub counting_ends : EndLaws counting
counting_ends = record {
  is_ready = λ b. true;
  begins = λ hs fs. refl;
  begins_closing = λ hs fs. refl;
  steps = λ hs b m r. refl;
  nearer = λ hs b m r e. nearer hs b m e;
}
