-- A set of nodes as one more or one less is in it, and how many they are.
use Rattle.std.proofs.Common.{◌≡◌, ◌≢◌, ℕ, zero, suc, ◌+◌, ◌-◌, ◌<◌, ◌≤◌, ◌==◌, ◌++◌, ◌∷◌, List, [], get_or, length, replicate, set, Bool, true, false, ◌||◌, not, cond, inl, inr, ap, ap₂, sym, subst, ◌∙◌, arith, refl}
use Rattle.std.proofs.lemmas.Bool.{cases_eq}
use Rattle.std.proofs.lemmas.List.{get_or-set_other, get_or-set_same, length-set}
use Rattle.iso_desk.specs.Marking.{has, room}
use Rattle.iso_desk.specs.declared.marks.Marks.{Marks}
use Rattle.iso_plan.proofs.ColumnLemmas.{column-from, column-read, length-column, replicate-column, within-column}
use Rattle.iso_plan.proofs.HeldLemmas.{count-more, count-none, count-small, or-false, or-true}
use Rattle.iso_plan.proofs.PathLemmas.{eq_not, eq_same}
use Rattle.iso_plan.specs.HeldNodes.{any_held, count, is_held}
use Rattle.iso_plan.specs.NodeSets.{KeepsNodes}
use Rattle.iso_plan.specs.Paths.{column}

-- two tests that say the same of each number make the same column
same-column : (f g : ℕ → Bool) (n : ℕ) → ((m : ℕ) → f m ≡ g m) → column f n ≡ column g n
same-column f g zero e = refl
same-column f g (suc n) e = ap₂ (λ xs (b : Bool). xs ++ b ∷ []) (same-column f g n e) (e n)

-- no node is in it
pub empty-set : (s : Marks) (n : ℕ) → n ≤ room s → ((k : ℕ) → has s k ≡ false) → KeepsNodes s n 0
empty-set s n fits none =
    record { within = fits; counts = sym (count-none (has s) n (λ m l. none m)) }

pub empty-view : (s : Marks) (n : ℕ) → ((k : ℕ) → has s k ≡ false) → column (has s) n ≡ replicate n false
empty-view s n none = same-column (has s) (λ _. false) n none ∙ sym (replicate-column false n)

-- whether a node is in it
pub set-has : (s : Marks) (n k : ℕ) → k < n → is_held (column (has s) n) k ≡ has s k
set-has s n k h = column-read (has s) (column (has s) n) n k false refl h

-- a column of which one number is told anew
pub column-set : (f g : ℕ → Bool) (n k : ℕ) (b : Bool) → k < n → ((m : ℕ) → g m ≡ cond (m == k) b (f m)) → column g n ≡ set (column f n) k b
column-set f g n k b h e =
    let within : k < length (column f n) = within-column f (column f n) n k refl h in
    sym (column-from g (set (column f n) k b) n (length-set (column f n) k b ∙ length-column f n)
    (λ m d l. elim (cases_eq m k) [
      | inl same ↦
          subst (λ (j : ℕ). get_or (set (column f n) k b) j d ≡ g j) (sym same)
          (get_or-set_same (column f n) k b d within ∙ sym (e k ∙ ap (λ (t : Bool). cond t b (f k)) (eq_same k)))
      | inr other ↦
          get_or-set_other (column f n) k m b d other ∙ column-read f (column f n) n m d refl l
          ∙ sym (e m ∙ ap (λ (t : Bool). cond t b (f m)) (eq_not m k other))
    ]))

elsewhere : (f g : ℕ → Bool) (k : ℕ) (b : Bool) → ((m : ℕ) → g m ≡ cond (m == k) b (f m)) → (m : ℕ) → m ≢ k → g m ≡ f m
elsewhere f g k b e m other = e m ∙ ap (λ (t : Bool). cond t b (f m)) (eq_not m k other)

own : (f g : ℕ → Bool) (k : ℕ) (b : Bool) → ((m : ℕ) → g m ≡ cond (m == k) b (f m)) → g k ≡ b
own f g k b e = e k ∙ ap (λ (t : Bool). cond t b (f k)) (eq_same k)

-- one more
more : (f g : ℕ → Bool) (n k : ℕ) → k < n → f k ≡ false → ((m : ℕ) → g m ≡ cond (m == k) true (f m)) → count g n ≡ count f n + 1
more f g n k h free e =
    count-more f g n k h free (λ m other. sym (elsewhere f g k true e m other))
    ∙ ap (λ (b : Bool). count f n + cond b 1 0) (own f g k true e)

-- one less
less : (f g : ℕ → Bool) (n k : ℕ) → k < n → f k ≡ true → ((m : ℕ) → g m ≡ cond (m == k) false (f m)) → count f n ≡ count g n + 1
less f g n k h there e =
    count-more g f n k h (own f g k false e) (λ m other. elsewhere f g k false e m other)
    ∙ ap (λ (b : Bool). count g n + cond b 1 0) there

-- a set with one node more
pub set-more : (s t : Marks) (n held k : ℕ) → KeepsNodes s n held → k < n → is_held (column (has s) n) k ≡ false → room t ≡ room s
    → ((m : ℕ) → has t m ≡ cond (m == k) true (has s m)) → KeepsNodes t n (held + 1)
set-more s t n held k keeps h free same e =
    let fits = keeps.within in
    let one = more (has s) (has t) n k h (sym (set-has s n k h) ∙ free) e in
    record {
      within = omega (arith, fits, same);
      counts = ap (λ (c : ℕ). c + 1) keeps.counts ∙ sym one;
    }

-- a set with one node less
pub set-less : (s t : Marks) (n held k : ℕ) → KeepsNodes s n held → k < n → is_held (column (has s) n) k ≡ true → room t ≡ room s
    → ((m : ℕ) → has t m ≡ cond (m == k) false (has s m)) → KeepsNodes t n (held - 1)
set-less s t n held k keeps h there same e =
    let fits = keeps.within in
    let before = keeps.counts in
    let one = less (has s) (has t) n k h (sym (set-has s n k h) ∙ there) e in
    record {
      within = omega (arith, fits, same);
      counts = omega (arith, before, one);
    }

-- there is room for one more number, and one that is in it was counted
pub held-small : (s : Marks) (n held k : ℕ) → KeepsNodes s n held → k < n → is_held (column (has s) n) k ≡ false → held < n
held-small s n held k keeps h free =
    let g : ℕ → Bool = λ m. cond (m == k) true (has s m) in
    let one = more (has s) g n k h (sym (set-has s n k h) ∙ free) (λ m. refl) in
    let small = count-small g n in
    let before = keeps.counts in
    omega (arith, before, one, small)

pub held-some : (s : Marks) (n held k : ℕ) → KeepsNodes s n held → k < n → is_held (column (has s) n) k ≡ true → 0 < held
held-some s n held k keeps h there =
    let g : ℕ → Bool = λ m. cond (m == k) false (has s m) in
    let one = less (has s) g n k h (sym (set-has s n k h) ∙ there) (λ m. refl) in
    let before = keeps.counts in
    omega (arith, before, one)

or-next : (c : ℕ) (b : Bool) → (not (c == 0) || (b || false)) ≡ not (c + cond b 1 0 == 0)
or-next c true = or-true (not (c == 0)) ∙ sym (ap not (eq_not (c + 1) 0 (λ e. omega arith)))
or-next c false =
    let same : c ≡ c + 0 = omega arith in
    or-false (not (c == 0)) ∙ ap (λ (x : ℕ). not (x == 0)) same

any-append : (xs ys : List Bool) → any_held (xs ++ ys) ≡ (any_held xs || any_held ys)
any-append [] ys = refl
any-append (true ∷ xs) ys = refl
any-append (false ∷ xs) ys = any-append xs ys

-- any is in it where it isn't counted that none is
pub any-counted : (f : ℕ → Bool) (n : ℕ) → any_held (column f n) ≡ not (count f n == 0)
any-counted f zero = refl
any-counted f (suc n) =
    any-append (column f n) (f n ∷ []) ∙ ap (λ (b : Bool). b || (f n || false)) (any-counted f n) ∙ or-next (count f n) (f n)

-- a node of what contracts see has a mark
pub below : (s : Marks) (n k : ℕ) (view : List Bool) → column (has s) n ≡ view → k < length view → k < n
below s n k view e h =
    let len : length (column (has s) n) ≡ n = length-column (has s) n in
    let same : length (column (has s) n) ≡ length view = ap (λ (xs : List Bool). length xs) e in
    omega (arith, len, same, h)

not-not : (b : Bool) → b ≡ not (not b)
not-not true = refl
not-not false = refl

-- none is in it where it is counted so
pub any-none : (f : ℕ → Bool) (n held : ℕ) → held ≡ count f n → (held == 0) ≡ not (any_held (column f n))
any-none f n held e =
    ap (λ (c : ℕ). c == 0) e ∙ not-not (count f n == 0) ∙ ap not (sym (any-counted f n))
