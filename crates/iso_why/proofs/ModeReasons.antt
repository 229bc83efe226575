-- A reason gives a node its mode.
use Rattle.std.proofs.Common.{◌≡◌, ℕ, ◌<◌, List, [], ◌∷◌, Option, Some, None, Bool, true, false, ◌||◌, ◌&&◌, ◌==◌, cond, not, unwrap_or, refl, subst, sym, ap, ap₂, ◌∙◌, arith}
use Rattle.std.specs.List.{list_any}
use Rattle.std.specs.Option.{is_some, option_map, option_or}
use Rattle.iso_model.specs.declared.script.Mode.{Mode}
use Rattle.iso_model.specs.declared.script.Mode.TheVariants.{SameThread}
use Rattle.iso_plan.proofs.ModeLemmas.{mode-step}
use Rattle.iso_plan.proofs.PathLemmas.{IsBelow, eq_same, not-root}
use Rattle.iso_plan.specs.Locks.{is_write, locks, takes_write}
use Rattle.iso_plan.specs.Modes.{chosen_mode, default_mode, is_forced, mode, nearest_mode}
use Rattle.iso_plan.specs.Paths.{is_on, is_root, is_top, is_under, parent, path, row_at}
use Rattle.iso_plan.specs.Tree.{Row}
use Rattle.iso_plan.specs.declared.lock.Lock.{Lock}
use Rattle.iso_settings.specs.declared.settings.Settings.{Settings}
use Rattle.iso_why.specs.ReasonLaws.{GivesMode, IsDefault, IsForcing, IsFree, IsMarking, writes_key}
use Rattle.iso_why.specs.ModeReasons.{chosen_by, first_written, forced_by, forced_or, marked_by, reason}
use Rattle.iso_why.specs.declared.why.Cause.{Cause}
use Rattle.iso_why.specs.declared.why.Cause.TheVariants.{Off, Forced, Marked, Default}

none_written_by : (l : Lock) (ls : List Lock) (t : Bool) → cond t (Some l.key) (first_written ls) ≡ None
    → (first_written ls ≡ None → list_any is_write ls ≡ false) → (t || list_any is_write ls) ≡ false
none_written_by l ls true e ih = let no : Some l.key ≡ None = e in absurd (cc)
none_written_by l ls false e ih = ih e

none_written : (ls : List Lock) → first_written ls ≡ None → list_any is_write ls ≡ false
none_written [] e = refl
none_written (l ∷ ls) e = none_written_by l ls (is_write l) e (none_written ls)

or_last : (a b : Bool) → b ≡ true → (a || b) ≡ true
or_last true b e = refl
or_last false b e = e

written_by : (l : Lock) (ls : List Lock) (key : ℕ) (t : Bool) → is_write l ≡ t → cond t (Some l.key) (first_written ls) ≡ Some key
    → (first_written ls ≡ Some key → list_any (λ (m : Lock). m.key == key && is_write m) ls ≡ true) → ((l.key == key && is_write l) || list_any (λ (m : Lock). m.key == key && is_write m) ls) ≡ true
written_by l ls key true w e ih =
    let whole : Some l.key ≡ Some key = e in
    let same : l.key ≡ key = cc in
    let own : (l.key == key && is_write l) ≡ true = ap₂ (λ (a b : Bool). a && b) (ap (λ k. k == key) same ∙ eq_same key) w in
    ap (λ b. b || list_any (λ (m : Lock). m.key == key && is_write m) ls) own
written_by l ls key false w e ih = or_last (l.key == key && is_write l) (list_any (λ (m : Lock). m.key == key && is_write m) ls) (ih e)

first_is : (ls : List Lock) (key : ℕ) → first_written ls ≡ Some key → list_any (λ (m : Lock). m.key == key && is_write m) ls ≡ true
first_is [] key e = absurd (cc)
first_is (l ∷ ls) key e = written_by l ls key (is_write l) refl e (first_is ls key)

none_forced_by : (tree : List Row) (n : ℕ) (ns : List ℕ) (o : Option ℕ) → first_written (locks tree n) ≡ o → option_or (option_map (λ k. Forced n k) o) (forced_by tree ns) ≡ None
    → (forced_by tree ns ≡ None → list_any (takes_write tree) ns ≡ false) → (takes_write tree n || list_any (takes_write tree) ns) ≡ false
none_forced_by tree n ns (Some k) w e ih = let no : Some (Forced n k) ≡ None = e in absurd (cc)
none_forced_by tree n ns None w e ih = ap (λ b. b || list_any (takes_write tree) ns) (none_written (locks tree n) w) ∙ ih e

-- where nothing is told to force, nothing does
none_forced : (tree : List Row) (ns : List ℕ) → forced_by tree ns ≡ None → list_any (takes_write tree) ns ≡ false
none_forced tree [] e = refl
none_forced tree (n ∷ ns) e = none_forced_by tree n ns (first_written (locks tree n)) refl e (none_forced tree ns)

-- who is told to force, with its key
record Force (tree : List Row) (ns : List ℕ) (w : Cause) : Type 0 where
  node : ℕ
  key : ℕ
  told : w ≡ Forced node key
  on : is_on ns node ≡ true
  writes : writes_key tree node key ≡ true
  forces : list_any (takes_write tree) ns ≡ true

any_by : (k t rest any : Bool) → ((k && t) || rest) ≡ true → (rest ≡ true → any ≡ true) → (t || any) ≡ true
any_by k true rest any e ih = refl
any_by true false rest any e ih = ih e
any_by false false rest any e ih = ih e

writes_any : (ls : List Lock) (key : ℕ) → list_any (λ (m : Lock). m.key == key && is_write m) ls ≡ true → list_any is_write ls ≡ true
writes_any [] key e = e
writes_any (l ∷ ls) key e = any_by (l.key == key) (is_write l) (list_any (λ (m : Lock). m.key == key && is_write m) ls) (list_any is_write ls) e (writes_any ls key)

force_by : (tree : List Row) (n : ℕ) (ns : List ℕ) (w : Cause) (o : Option ℕ) → first_written (locks tree n) ≡ o
    → option_or (option_map (λ k. Forced n k) o) (forced_by tree ns) ≡ Some w → (forced_by tree ns ≡ Some w → Force tree ns w) → Force tree (n ∷ ns) w
force_by tree n ns w (Some k) is e ih =
    let writes = first_is (locks tree n) k is in
    record {
      node = n;
      key = k;
      told = (let same : Some (Forced n k) ≡ Some w = e in cc);
      on = ap (λ b. b || is_on ns n) (eq_same n);
      writes = writes;
      forces = ap (λ b. b || list_any (takes_write tree) ns) (writes_any (locks tree n) k writes);
    }
force_by tree n ns w None is e ih =
    let f = ih e in
    record {
      node = f.node;
      key = f.key;
      told = f.told;
      on = or_last (n == f.node) (is_on ns f.node) f.on;
      writes = f.writes;
      forces = or_last (takes_write tree n) (list_any (takes_write tree) ns) f.forces;
    }

force : (tree : List Row) (ns : List ℕ) (w : Cause) → forced_by tree ns ≡ Some w → Force tree ns w
force tree [] w e = absurd (cc)
force tree (n ∷ ns) w e = force_by tree n ns w (first_written (locks tree n)) refl e (force tree ns w)

none_marked_by : (tree : List Row) (n : ℕ) (ns : List ℕ) (m : Option Mode) → cond (is_some m) (Some n) (marked_by tree ns) ≡ None
    → (marked_by tree ns ≡ None → nearest_mode tree ns ≡ None) → option_or m (nearest_mode tree ns) ≡ None
none_marked_by tree n ns (Some m) e ih = let no : Some n ≡ None = e in absurd (cc)
none_marked_by tree n ns None e ih = ih e

-- where no mark is told, there is none
none_marked : (tree : List Row) (ns : List ℕ) → marked_by tree ns ≡ None → nearest_mode tree ns ≡ None
none_marked tree [] e = refl
none_marked tree (n ∷ ns) e = none_marked_by tree n ns (row_at tree n).mode e (none_marked tree ns)

-- which node is told to be marked, with which mode
record Marking (tree : List Row) (ns : List ℕ) (m : ℕ) : Type 0 where
  found : Mode
  is : (row_at tree m).mode ≡ Some found
  nearest : nearest_mode tree ns ≡ Some found
  on : is_on ns m ≡ true

mark_by : (tree : List Row) (n : ℕ) (ns : List ℕ) (m : ℕ) (o : Option Mode) → (row_at tree n).mode ≡ o
    → cond (is_some o) (Some n) (marked_by tree ns) ≡ Some m → (marked_by tree ns ≡ Some m → Marking tree ns m) → Marking tree (n ∷ ns) m
mark_by tree n ns m (Some own) is e ih =
    let same : n ≡ m = (let whole : Some n ≡ Some m = e in cc) in
    record {
      found = own;
      is = ap (λ j. (row_at tree j).mode) (sym same) ∙ is;
      nearest = ap (λ (o : Option Mode). option_or o (nearest_mode tree ns)) is;
      on = ap (λ b. b || is_on ns m) (ap (λ j. j == m) same ∙ eq_same m);
    }
mark_by tree n ns m None is e ih =
    let k = ih e in
    record {
      found = k.found;
      is = k.is;
      nearest = ap (λ (o : Option Mode). option_or o (nearest_mode tree ns)) is ∙ k.nearest;
      on = or_last (n == m) (is_on ns m) k.on;
    }

mark : (tree : List Row) (ns : List ℕ) (m : ℕ) → marked_by tree ns ≡ Some m → Marking tree ns m
mark tree [] m e = absurd (cc)
mark tree (n ∷ ns) m e = mark_by tree n ns m (row_at tree n).mode refl e (mark tree ns m)

-- the mode of a node that isn't the root
by_rule : (tree : List Row) (s : Settings) (n : ℕ) → 0 < n → mode tree s n ≡ cond (s.parallel && not (is_forced tree n)) (chosen_mode tree s n) SameThread
by_rule tree s n pos =
    mode-step tree s n pos
    ∙ ap (λ (t : Bool). cond (s.parallel && not (is_forced tree n)) (unwrap_or (nearest_mode tree (path tree n)) (cond t s.classes_default_mode s.default_mode)) SameThread)
    (sym (ap (λ (r : Bool). not r && is_root (parent tree n)) (not-root n pos)))

forced_mode : (p f : Bool) (m : Mode) → f ≡ true → cond (p && not f) m SameThread ≡ SameThread
forced_mode p true m e = elim p as (λ q. cond (q && not true) m SameThread ≡ SameThread) [ true ↦ refl | false ↦ refl ]
forced_mode p false m e = absurd (cc)

off_mode : (p f : Bool) (m : Mode) → p ≡ false → cond (p && not f) m SameThread ≡ SameThread
off_mode true f m e = absurd (cc)
off_mode false f m e = refl

free_mode : (p f : Bool) (m : Mode) → p ≡ true → f ≡ false → cond (p && not f) m SameThread ≡ m
free_mode true true m e h = absurd (cc)
free_mode true false m e h = refl
free_mode false f m e h = absurd (cc)

free : (tree : List Row) (s : Settings) (n : ℕ) → 0 < n → s.parallel ≡ true → is_forced tree n ≡ false → IsFree tree s n
free tree s n pos on off =
    record { parallel = on; unforced = off; mode_is = by_rule tree s n pos ∙ free_mode s.parallel (is_forced tree n) (chosen_mode tree s n) on off }

chosen : (tree : List Row) (s : Settings) (n : ℕ) → 0 < n → IsFree tree s n → (o : Option ℕ) → marked_by tree (path tree n) ≡ o → GivesMode tree s n (chosen_by o (is_root (parent tree n)))
chosen tree s n pos f None e =
    let none = none_marked tree (path tree n) e in
    record {
      free = f;
      unmarked = none;
      is = sym (ap (λ (r : Bool). not r && is_root (parent tree n)) (not-root n pos));
      mode_is = f.mode_is ∙ ap (λ (o : Option Mode). unwrap_or o (default_mode tree s n)) none;
    }
chosen tree s n pos f (Some m) e =
    let k = mark tree (path tree n) m e in
    record {
      free = f;
      above = k.on;
      mark = k.is ∙ ap (λ (x : Mode). Some x) (sym (f.mode_is ∙ ap (λ (o : Option Mode). unwrap_or o (default_mode tree s n)) k.nearest));
    }

forcing : (tree : List Row) (s : Settings) (n : ℕ) → 0 < n → s.parallel ≡ true → (w : Cause) → Force tree (path tree (parent tree n)) w → GivesMode tree s n w
forcing tree s n pos on w f =
    let r : IsForcing tree s n f.node f.key =
    record {
      parallel = on;
      above = f.on;
      writes = f.writes;
      mode_is = by_rule tree s n pos ∙ forced_mode s.parallel (is_forced tree n) (chosen_mode tree s n) f.forces;
    } in
    subst (GivesMode tree s n) (sym f.told) r

with_force : (tree : List Row) (s : Settings) (n : ℕ) → 0 < n → s.parallel ≡ true → (o : Option Cause) → forced_by tree (path tree (parent tree n)) ≡ o
    → GivesMode tree s n (forced_or o (chosen_by (marked_by tree (path tree n)) (is_root (parent tree n))))
with_force tree s n pos on (Some w) e = forcing tree s n pos on w (force tree (path tree (parent tree n)) w e)
with_force tree s n pos on None e =
    chosen tree s n pos (free tree s n pos on (none_forced tree (path tree (parent tree n)) e)) (marked_by tree (path tree n)) refl

by_parallel : (tree : List Row) (s : Settings) (n : ℕ) → 0 < n → (t : Bool) → s.parallel ≡ t
    → GivesMode tree s n (cond t (forced_or (forced_by tree (path tree (parent tree n))) (chosen_by (marked_by tree (path tree n)) (is_root (parent tree n)))) Off)
by_parallel tree s n pos true e = with_force tree s n pos e (forced_by tree (path tree (parent tree n))) refl
by_parallel tree s n pos false e = (e, by_rule tree s n pos ∙ off_mode s.parallel (is_forced tree n) (chosen_mode tree s n) e)

-- the reason that is told gives a node its mode
pub gives-mode : (tree : List Row) → IsBelow tree → (s : Settings) (n : ℕ) → 0 < n → GivesMode tree s n (reason tree s n)
gives-mode tree b s n pos = by_parallel tree s n pos s.parallel refl
