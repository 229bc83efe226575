-- Single waits lie within the waits that they add up to, and make up no more and no less.
use Rattle.std.proofs.Common.{◌≡◌, ℕ, zero, suc, ◌+◌, ◌^◌, ◌<◌, ◌≤◌, ◌||◌, List, [], ◌∷◌, Option, Some, None, IfSome, Bool, true, false, cond, filter, get_or, length, unwrap_or, refl, ap, ap₂, subst, sym, ◌∙◌, arith}
use Rattle.std.proofs.lemmas.List.Elements.{All-from_recursion}
use Rattle.std.proofs.lemmas.List.Sums.{sum_by-cons}
use Rattle.std.specs.List.{All, AllByRecursion, Any, cons_option, filter_map, list_any, sum_by}
use Rattle.std.specs.Option.{is_some}
use Rattle.iso_plan.proofs.PathLemmas.{eq_same}
use Rattle.iso_plan.specs.Conflicts.{shares}
use Rattle.iso_plan.specs.Locks.{conflict, exclude, locks, taken}
use Rattle.iso_plan.specs.KeyTable.{keys}
use Rattle.iso_plan.specs.Tree.{Row}
use Rattle.iso_plan.specs.declared.lock.Lock.{Lock}
use Rattle.iso_model.specs.declared.access.Access.{Access}
use Rattle.iso_model.specs.declared.access.Access.TheVariants.{Read, Write}
use Rattle.iso_settings.specs.declared.settings.Settings.{Settings}
use Rattle.iso_times.specs.declared.times.BodyTime.{BodyTime}
use Rattle.iso_waits.proofs.HolderLemmas.{contended-is, waits-for}
use Rattle.iso_waits.proofs.TurnLemmas.{in-turn}
use Rattle.iso_waits.specs.AllWaits.{IsFor, added_up, alone, has_key, key_of, key_waits, node_waits, plus, took, wait_for, with_later}
use Rattle.iso_waits.specs.ContendedKeys.{first_shared}
use Rattle.iso_waits.specs.Covers.{Covers, AddUpTo}
use Rattle.iso_waits.specs.Stays.{holder, stayed}
use Rattle.iso_waits.specs.Turns.{AreInTurn}
use Rattle.iso_waits.specs.Waits.{ready, waits, waits_until}
use Rattle.iso_waits.specs.declared.stay.Stay.{Stay}
use Rattle.iso_waits.specs.declared.wait.NodeWait.{NodeWait}
use Rattle.iso_waits.specs.declared.wait.Wait.{Wait}

-- a sum with further waits
with_all : NodeWait → List Wait → NodeWait
with_all sum [] = sum
with_all sum (w ∷ ws) = with_all (with_later sum w) ws

added-some : (n k : ℕ) (sum : NodeWait) (ws : List Wait) → added_up n k (Some sum) ws ≡ Some (with_all sum ws)
unfolding with_all
added-some n k sum [] = refl
added-some n k sum (w ∷ ws) = added-some n k (with_later sum w) ws

-- nobody waited for a key for which there is no single wait
pub some-if : (n k : ℕ) (p : Wait → Bool) (ws : List Wait) → is_some (added_up n k None (filter p ws)) ≡ list_any p ws
some-if n k p [] = refl
some-if n k p (w ∷ ws) = by (some-if n k p ws) (p w)
  where
    by : is_some (added_up n k None (filter p ws)) ≡ list_any p ws → (b : Bool) → is_some (added_up n k None (cond b (w ∷ filter p ws) (filter p ws))) ≡ (b || list_any p ws)
    by rest true = ap is_some (added-some n k (alone n k w) (filter p ws))
    by rest false = rest

-- there are at most as many as there are locks
pub few : (f : Lock → Option NodeWait) (ls : List Lock) → length (filter_map f ls) ≤ length ls
few f [] = omega arith
few f (l ∷ ls) = by (few f ls) (f l)
  where
    by : length (filter_map f ls) ≤ length ls → (o : Option NodeWait) → length (cons_option o (filter_map f ls)) ≤ length (l ∷ ls)
    by rest None = omega arith
    by rest (Some sum) = omega arith

-- what is told of single waits that come after a sum
record Follows (sum : NodeWait) (ws : List Wait) (all : NodeWait) : Type 0 where
  key : all.key ≡ sum.key
  begin : all.begin ≡ sum.begin
  end : sum.end ≤ all.end
  longest : sum.longest ≤ all.longest
  each : AllByRecursion (Covers sum.key all) ws

follows : (sum : NodeWait) (ws : List Wait) (until : ℕ) → sum.begin ≤ sum.end → AreInTurn sum.end until ws → Follows sum ws (with_all sum ws)
unfolding with_all
follows sum [] until ordered turn = record { key = refl; begin = refl; end = omega arith; longest = omega arith; each = tt }
follows sum (w ∷ ws) until ordered turn =
    let next = with_later sum w in
    let rest : Follows next ws (with_all next ws) = follows next ws until (let a = turn.0 in let b = turn.1 in omega arith) turn.3 in
    let begun = rest.begin in
    let ended = rest.end in
    let long = rest.longest in
    record {
      key = rest.key;
      begin = rest.begin;
      end = let a = turn.0 in let b = turn.1 in omega arith;
      longest = omega arith;
      each = (record { key = rest.key; begin = let a = turn.0 in omega arith; end = omega arith; longest = omega arith }, rest.each);
    }

-- what single waits in turn, and for one key, add up to covers each of them
covered : (n k : ℕ) (ws : List Wait) (from until : ℕ) → AreInTurn from until ws → AllByRecursion (λ w. IfSome (added_up n k None ws) (λ sum. Covers k sum w)) ws
covered n k [] from until turn = tt
covered n k (w ∷ ws) from until turn =
    let sum = alone n k w in
    let rest : Follows sum ws (with_all sum ws) = follows sum ws until (let b = turn.1 in omega arith) turn.3 in
    let begun = rest.begin in
    let ended = rest.end in
    let long = rest.longest in
    let first : Covers k (with_all sum ws) w = record { key = rest.key; begin = omega arith; end = omega arith; longest = omega arith } in
    let all : AllByRecursion (Covers k (with_all sum ws)) (w ∷ ws) = (first, rest.each) in
    subst (λ (o : Option NodeWait). AllByRecursion (λ v. IfSome o (λ s. Covers k s v)) (w ∷ ws)) (sym (added-some n k sum ws)) all

-- single waits of which some are left out still stand in turn
turn-from : (early from until : ℕ) (ws : List Wait) → early ≤ from → AreInTurn from until ws → AreInTurn early until ws
turn-from early from until [] h turn = tt
turn-from early from until (w ∷ ws) h turn = (omega (arith, turn.0), turn.1, turn.2, turn.3)

turn-filter : (p : Wait → Bool) (from until : ℕ) (ws : List Wait) → AreInTurn from until ws → AreInTurn from until (filter p ws)
turn-filter p from until [] turn = tt
turn-filter p from until (w ∷ ws) turn = by (turn-filter p w.end until ws turn.3) (p w)
  where
    by : AreInTurn w.end until (filter p ws) → (b : Bool) → AreInTurn from until (cond b (w ∷ filter p ws) (filter p ws))
    by rest true = (turn.0, turn.1, turn.2, rest)
    by rest false = turn-from from w.end until (filter p ws) (let a = turn.0 in let b = turn.1 in omega arith) rest

-- what holds of those that pass
of-passing : (P : Wait → Type 0) (p : Wait → Bool) (ws : List Wait) → AllByRecursion P (filter p ws) → AllByRecursion (λ w. p w ≡ true → P w) ws
of-passing P p [] all = tt
of-passing P p (w ∷ ws) all = by (of-passing P p ws) (p w) refl all
  where
    by : (AllByRecursion P (filter p ws) → AllByRecursion (λ v. p v ≡ true → P v) ws) → (b : Bool) → p w ≡ b
        → AllByRecursion P (cond b (w ∷ filter p ws) (filter p ws)) → AllByRecursion (λ v. p v ≡ true → P v) (w ∷ ws)
    by rest true e h = (λ _. h.0, rest h.1)
    by rest false e h = (λ t. absurd (let no : true ≡ false = sym t ∙ e in cc), rest h)

-- the key of a wait is that of a lock
in-lock : (ls ms : List Lock) → is_some (first_shared ls ms) ≡ true → Any (λ (l : Lock). l.key ≡ unwrap_or (first_shared ls ms) 0) ls
in-lock [] ms e = absurd (cc)
in-lock (l ∷ ls) ms e = by (in-lock ls ms) (shares l ms) e
  where
    by : (is_some (first_shared ls ms) ≡ true → Any (λ (m : Lock). m.key ≡ unwrap_or (first_shared ls ms) 0) ls) → (b : Bool)
        → is_some (cond b (Some l.key) (first_shared ls ms)) ≡ true → Any (λ (m : Lock). m.key ≡ unwrap_or (cond b (Some l.key) (first_shared ls ms)) 0) (l ∷ ls)
    by rest true h = (0, l, omega arith, refl, refl)
    by rest false h = let a = rest h in (suc a.0, a.1, omega (arith, a.2), a.3, a.4)

any-cons : (P : NodeWait → Type 0) (o : Option NodeWait) (sums : List NodeWait) → Any P sums → Any P (cons_option o sums)
any-cons P None sums a = a
any-cons P (Some s) sums a = (suc a.0, a.1, omega (arith, a.2), a.3, a.4)

any-here : (P : NodeWait → Type 0) (o : Option NodeWait) (sums : List NodeWait) → is_some o ≡ true → IfSome o P → Any P (cons_option o sums)
any-here P None sums e h = absurd (cc)
any-here P (Some s) sums e h = (0, s, omega arith, refl, h)

-- a lock for which something is told
told-at : (P : NodeWait → Type 0) (f : Lock → Option NodeWait) (ls : List Lock) (i : ℕ) (l : Lock) → i < length ls → get_or ls i l ≡ l → is_some (f l) ≡ true → IfSome (f l) P → Any P (filter_map f ls)
told-at P f [] i l h e some p = absurd (omega arith)
told-at P f (x ∷ xs) zero l h e some p =
    let same : f x ≡ f l = ap f e in
    any-here P (f x) (filter_map f xs) (ap is_some same ∙ some) (subst (λ (o : Option NodeWait). IfSome o P) (sym same) p)
told-at P f (x ∷ xs) (suc i) l h e some p = any-cons P (f x) (filter_map f xs) (told-at P f xs i l (omega (arith, h)) e some p)

-- two accesses exclude one another
exclude-turned : (a b : Option Access) → exclude a b ≡ exclude b a
exclude-turned None None = refl
exclude-turned None (Some b) = refl
exclude-turned (Some a) None = refl
exclude-turned (Some Read) (Some Read) = refl
exclude-turned (Some Read) (Some Write) = refl
exclude-turned (Some Write) (Some Read) = refl
exclude-turned (Some Write) (Some Write) = refl

conflict-turned : (tree : List Row) (m n : ℕ) → conflict tree m n ≡ conflict tree n m
conflict-turned tree m n = by (keys tree)
  where
    by : (ks : List (List ℕ)) → list_any (λ k. exclude (taken tree m k) (taken tree n k)) ks ≡ list_any (λ k. exclude (taken tree n k) (taken tree m k)) ks
    by [] = refl
    by (k ∷ ks) = ap₂ (λ (a b : Bool). a || b) (exclude-turned (taken tree m k) (taken tree n k)) (by ks)

module _ (tree : List Row) (n : ℕ) where
  lock-of : (w : Wait) → IsFor tree n w → Any (λ (l : Lock). l.key ≡ key_of tree n w) (locks tree n)
  lock-of w is = in-lock (locks tree n) (locks tree w.holder) (contended-is tree n w.holder ∙ conflict-turned tree n w.holder ∙ is.conflicts)

  any-of : (p : Wait → Bool) (ws : List Wait) (i : ℕ) (d : Wait) → i < length ws → p (get_or ws i d) ≡ true → list_any p ws ≡ true
  any-of p [] i d h e = absurd (omega arith)
  any-of p (w ∷ ws) zero d h e = ap (λ (b : Bool). b || list_any p ws) e
  any-of p (w ∷ ws) (suc i) d h e = ap (λ (b : Bool). p w || b) (any-of p ws i d (omega (arith, h)) e) ∙ right (p w)
    where
      right : (b : Bool) → (b || true) ≡ true
      right true = refl
      right false = refl

  told-for : (ws : List Wait) (from until : ℕ) → AreInTurn from until ws → All (IsFor tree n) ws → All (λ w. Any (λ sum. Covers (key_of tree n w) sum w) (key_waits tree n ws)) ws
  told-for ws from until turn are i d h =
      let w = get_or ws i d in
      let k = key_of tree n w in
      let has : has_key tree n k w ≡ true = eq_same k in
      let some : is_some (wait_for tree n ws k) ≡ true = some-if n k (has_key tree n k) ws ∙ any-of (has_key tree n k) ws i d h has in
      let each = of-passing (λ v. IfSome (wait_for tree n ws k) (λ sum. Covers k sum v)) (has_key tree n k) ws
      (covered n k (filter (has_key tree n k) ws) from until (turn-filter (has_key tree n k) from until ws turn)) in
      let at = All-from_recursion (λ v. has_key tree n k v ≡ true → IfSome (wait_for tree n ws k) (λ sum. Covers k sum v)) ws each i d h has in
      let l = lock-of w (are i d h) in
      let same : wait_for tree n ws k ≡ wait_for tree n ws l.1.key = ap (wait_for tree n ws) (sym l.4) in
      told-at (λ sum. Covers k sum w) (λ l. wait_for tree n ws l.key) (locks tree n) l.0 l.1 l.2 l.3 (ap is_some (sym same) ∙ some)
      (subst (λ (o : Option NodeWait). IfSome o (λ sum. Covers k sum w)) same at)

until-turn : (h : ℕ → Option ℕ) (r : Option ℕ) (s : Option Stay) → (from : ℕ) × (until : ℕ) × AreInTurn from until (waits_until h r s)
until-turn h None s = (0, 0, tt)
until-turn h (Some from) None = (0, 0, tt)
until-turn h (Some from) (Some s) = (from, s.begin, in-turn h from s.begin)

pub within-told : (tree : List Row) (settings : Settings) (bodies : List (Option BodyTime)) (n : ℕ)
    → All (λ w. Any (λ sum. Covers (key_of tree n w) sum w) (node_waits tree settings bodies n)) (waits tree settings bodies n)
within-told tree settings bodies n =
    let turn = until-turn (holder tree bodies n) (ready tree settings bodies n) (stayed bodies n) in
    told-for tree n (waits tree settings bodies n) turn.0 turn.1 turn.2 (waits-for tree settings bodies n)

-- times add up, as long as they are told
sum-all : (sum : NodeWait) (ws : List Wait) → sum.time + sum_by took ws < 2 ^ 64 → (with_all sum ws).time ≡ sum.time + sum_by took ws
unfolding with_all
sum-all sum [] h = let none : sum_by took [] ≡ 0 = refl in omega (arith, none)
sum-all sum (w ∷ ws) h =
    let more = sum_by-cons took w ws in
    let next : plus sum.time (took w) ≡ sum.time + took w = omega (arith, h, more) in
    let few : (with_later sum w).time + sum_by took ws < 2 ^ 64 = omega (arith, h, next, more) in
    let same : (with_later sum w).time + sum_by took ws ≡ sum.time + sum_by took (w ∷ ws) = omega (arith, next, more) in
    sum-all (with_later sum w) ws few ∙ same

count-all : (sum : NodeWait) (ws : List Wait) → sum.count + length ws < 2 ^ 64 → (with_all sum ws).count ≡ sum.count + length ws
unfolding with_all
count-all sum [] h = omega arith
count-all sum (w ∷ ws) h =
    let next : plus sum.count 1 ≡ sum.count + 1 = omega (arith, h) in
    count-all (with_later sum w) ws (omega (arith, h, next)) ∙ omega (arith, next)

pub adds-up : (n k : ℕ) (ws : List Wait) → IfSome (added_up n k None ws) (AddUpTo ws)
adds-up n k [] = tt
adds-up n k (w ∷ ws) =
    let sum = alone n k w in
    let more = sum_by-cons took w ws in
    let all : AddUpTo (w ∷ ws) (with_all sum ws) = record {
      time = λ h. sum-all sum ws (omega (arith, h, more)) ∙ omega (arith, more);
      count = λ h. count-all sum ws (omega (arith, h)) ∙ omega arith;
    } in
    subst (λ (o : Option NodeWait). IfSome o (AddUpTo (w ∷ ws))) (sym (added-some n k sum ws)) all
