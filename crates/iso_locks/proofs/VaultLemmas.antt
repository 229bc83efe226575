-- A vault stays as it should be when nodes are lent and taken back.
use Rattle.std.proofs.Common.{◌≡◌, ◌≢◌, ℕ, ◌<◌, ◌≤◌, List, length, map, Option, Some, None, Bool, true, false, ◌||◌, ◌&&◌, not, cond, set, is_some, option_map, ◌⊎◌, ap, ap₂, sym, subst, ◌∙◌, arith, refl, inl, inr}
use Rattle.std.specs.Option.{option_or}
use Rattle.std.proofs.lemmas.Bool.{cases_lt}
use Rattle.std.proofs.lemmas.List.{get_or_past, get_or-map, get_or-set_same, length-map, length-set}
use Rattle.iso_model.specs.declared.resource.Resource.{Resource}
use Rattle.iso_plan.proofs.ColumnLemmas.{column-from, column-read, length-column}
use Rattle.iso_plan.specs.KeyTable.{keys}
use Rattle.iso_plan.specs.Conflicts.{is_in_the_way}
use Rattle.iso_plan.specs.Locks.{conflict, locks}
use Rattle.iso_plan.specs.Paths.{column}
use Rattle.iso_plan.specs.Planned.{Planned}
use Rattle.iso_plan.specs.RowView.{tree_of}
use Rattle.iso_plan.specs.declared.lock.Lock.{Lock}
use Rattle.iso_settings.specs.Worlds.{Start, starting_value_in}
use Rattle.iso_store.specs.Histories.{History}
use Rattle.iso_locks.specs.Moves.{is_written, moved_away, moved_here}
use Rattle.iso_locks.specs.Slots.{Slots, slot}
use Rattle.iso_locks.specs.Trays.{TrayView, is_lent, key_at}
use Rattle.iso_locks.specs.Vaults.{CanTakeBack, IsLentTo, IsVault, VaultView, busy, is_home, receiving, value_in}
use Rattle.iso_plan.proofs.ConflictLemmas.{lowest-none}
use Rattle.iso_locks.proofs.KeyLemmas.{written-conflict, written-within}
use Rattle.iso_locks.proofs.OwnerLemmas.{lent-other, lent-within, still-lent}

-- in a vault that isn't busy, what a node takes for READ_WRITE is home
pub home-for : (v : VaultView) (values : Slots) (n i : ℕ) → IsVault v.plan v.world v.lent values → busy v n ≡ None
    → is_written (locks (tree_of v.plan) n) i ≡ true → i < length values → (slot values i ≡ None → ⊥)
home-for v values n i kept free w within none =
    let tree = tree_of v.plan in
    let away = kept.away i within none in
    let fits = kept.lent_fits in
    let less : away.node < length v.lent = lent-within v.lent away.node away.lent in
    let lent_within : away.node < length v.plan.rows = omega arith in
    let clash : conflict tree away.node n ≡ true = written-conflict tree away.node n i away.writes w in
    let in_way : is_in_the_way tree (is_lent v.lent) n away.node ≡ true = ap₂ (λ (p q : Bool). p && q) away.lent clash in
    let not_in_way : is_in_the_way tree (is_lent v.lent) n away.node ≡ false = lowest-none (is_in_the_way tree (is_lent v.lent) n) (length v.plan.rows) away.node free lent_within in
    cc

some-of : (o : Option History) → (o ≡ None → ⊥) → is_some o ≡ true
some-of None some = absurd (some refl)
some-of (Some h) some = refl

-- so all that the node takes for READ_WRITE is home
pub home-all : (v : VaultView) (values : Slots) (n : ℕ) → IsVault v.plan v.world v.lent values
    → busy v n ≡ None → (i : ℕ) → is_written (locks (tree_of v.plan) n) i ≡ true → is_some (slot values i) ≡ true
home-all v values n kept free i w =
    let less = written-within (tree_of v.plan) n i w in
    let fits = kept.values_fit in
    some-of (slot values i) (home-for v values n i kept free w (omega arith))

moved_by : (b : Bool) (o p : Option History) (h : History) → cond b None o ≡ Some h → o ≡ Some h
moved_by true o p h e = absurd (cc)
moved_by false o p h e = e

-- the slot of a list with a value for each number
column_slot : (f : ℕ → Option History) (n i : ℕ) → i < n → slot (column f n) i ≡ f i
column_slot f n i h = column-read f (column f n) n i None refl h

past_slot : (f : ℕ → Option History) (n i : ℕ) → n ≤ i → slot (column f n) i ≡ None
past_slot f n i h = get_or_past (column f n) i None (let count = length-column f n in omega arith)

pub away-at : (ls : List Lock) (there : Slots) (i : ℕ) (h : History) → slot (moved_away ls there) i ≡ Some h → slot there i ≡ Some h
away-at ls there i h e = elim (cases_lt i (length there)) [
  | inl within ↦ moved_by (is_written ls i) (slot there i) None h (sym (column_slot (λ j. cond (is_written ls j) None (slot there j)) (length there) i within) ∙ e)
  | inr past ↦ absurd (let none : None ≡ Some h = sym (past_slot (λ j. cond (is_written ls j) None (slot there j)) (length there) i past) ∙ e in cc)
]

away_by : (b : Bool) (o : Option History) → cond b None o ≡ None → (b ≡ true) ⊎ (o ≡ None)
away_by true o e = inl refl
away_by false o e = inr e

-- a vault after a node was lent
pub lent-vault : (plan : Planned) (world : Start) (given : List Bool) (values : Slots) (n : ℕ) → n < length plan.rows
    → IsVault plan world given values → IsVault plan world (set given n true) (moved_away (locks (tree_of plan) n) values)
lent-vault plan world given values n node kept =
    let ls = locks (tree_of plan) n in
    let fits = kept.lent_fits in
    let within : n < length given = omega arith in
    let count = length-column (λ j. cond (is_written ls j) None (slot values j)) (length values) in
    record {
      lent_fits = length-set given n true ∙ kept.lent_fits;
      values_fit = count ∙ kept.values_fit;
      at_start = λ i h e. kept.at_start i h (away-at ls values i h e);
      away = λ i less e.
          let here : i < length values = omega arith in
          elim (away_by (is_written ls i) (slot values i) (sym (column_slot (λ j. cond (is_written ls j) None (slot values j)) (length values) i here) ∙ e)) [
            | inl w ↦ record { node = n; lent = get_or-set_same given n true false within; writes = w }
            | inr none ↦ let old = kept.away i here none in record { node = old.node; lent = still-lent given n old.node within old.lent; writes = old.writes }
          ];
    }

lent_home : (b : Bool) (o : Option History) → is_some (cond b None o) ≡ (not b && is_some o)
lent_home true o = refl
lent_home false o = refl

-- what is home when a node was lent
pub home-lent : (ls : List Lock) (values : Slots) → map is_some (moved_away ls values) ≡ column (λ i. not (is_written ls i) && is_home (map is_some values) i) (length (map is_some values))
home-lent ls values =
    let there = moved_away ls values in
    let f : ℕ → Option History = λ i. cond (is_written ls i) None (slot values i) in
    let count : length there ≡ length values = length-column f (length values) in
    let whole : length (map is_some values) ≡ length values = length-map values is_some in
    column-from (λ i. not (is_written ls i) && is_home (map is_some values) i) (map is_some there) (length (map is_some values)) (length-map there is_some ∙ count ∙ sym whole)
    (λ i d h.
    let within : i < length values = omega arith in
    let inside : i < length there = omega arith in
    get_or-map is_some there i None d inside ∙ ap is_some (column_slot f (length values) i within) ∙ lent_home (is_written ls i) (slot values i)
    ∙ ap (λ (b : Bool). not (is_written ls i) && b) (sym (get_or-map is_some values i None false within)))

back_home : (b : Bool) (t o : Option History) → (b ≡ true → is_some t ≡ true) → is_some (cond b (option_or t o) o) ≡ (b || is_some o)
back_home false t o some = refl
back_home true (Some h) o some = refl
back_home true None o some = absurd (let no : false ≡ true = some refl in cc)

-- what is home when a node was taken back
pub home-back : (ls : List Lock) (there values : Slots) → ((i : ℕ) → i < length values → is_written ls i ≡ true → is_some (slot there i) ≡ true)
    → map is_some (moved_here ls there values) ≡ column (λ i. is_written ls i || is_home (map is_some values) i) (length (map is_some values))
home-back ls there values some =
    let next = moved_here ls there values in
    let f : ℕ → Option History = λ i. cond (is_written ls i) (option_or (slot there i) (slot values i)) (slot values i) in
    let count : length next ≡ length values = length-column f (length values) in
    let whole : length (map is_some values) ≡ length values = length-map values is_some in
    column-from (λ i. is_written ls i || is_home (map is_some values) i) (map is_some next) (length (map is_some values)) (length-map next is_some ∙ count ∙ sym whole)
    (λ i d h.
    let within : i < length values = omega arith in
    let inside : i < length next = omega arith in
    get_or-map is_some next i None d inside ∙ ap is_some (column_slot f (length values) i within) ∙ back_home (is_written ls i) (slot there i) (slot values i) (some i within)
    ∙ ap (λ (b : Bool). is_written ls i || b) (sym (get_or-map is_some values i None false within)))

some_if : (o : Option History) → (o ≡ None → ⊥) → (h : History) × (o ≡ Some h)
some_if None some = absurd (some refl)
some_if (Some h) some = (h, refl)

-- what a tray holds when a node was lent to it
pub lent-to : (t : TrayView) (given home : List Bool) (values : Slots) (n : ℕ) → IsVault t.plan t.world given values
    → busy (record { plan = t.plan; world = t.world; lent = given; home = home }) n ≡ None
    → length t.values ≡ length (keys (tree_of t.plan)) → is_lent (set t.lent n true) n ≡ true
    → (t.flat ≡ false → (i : ℕ) → is_written (locks (tree_of t.plan) n) i ≡ true → slot t.values i ≡ None) → IsLentTo n t (receiving n values t)
lent-to t given home values n kept free count holds fresh =
    let ls = locks (tree_of t.plan) n in
    let f : ℕ → Option History = λ i. cond (is_written ls i) (option_or (slot values i) (slot t.values i)) (slot t.values i) in
    let fits = kept.values_fit in
    record {
      plan = refl;
      world = refl;
      flat = refl;
      lent = refl;
      holds = holds;
      fits = length-column f (length t.values);
      fresh = fresh;
      written = λ i h w.
          let inside : i < length t.values = omega arith in
          let stored : i < length values = omega arith in
          let held = some_if (slot values i) (home-for (record { plan = t.plan; world = t.world; lent = given; home = home }) values n i kept free w stored) in
          let is : slot (column f (length t.values)) i ≡ Some held.0 =
          column_slot f (length t.values) i inside ∙ ap (λ (b : Bool). cond b (option_or (slot values i) (slot t.values i)) (slot t.values i)) w
          ∙ ap (λ (o : Option History). option_or o (slot t.values i)) held.1 in
          ap (option_map (λ (g : History). g.now)) is ∙ ap (λ (r : Resource). Some r) (kept.at_start i held.0 held.1);
      others = λ i w. elim (cases_lt i (length t.values)) [
        | inl inside ↦ column_slot f (length t.values) i inside ∙ ap (λ (b : Bool). cond b (option_or (slot values i) (slot t.values i)) (slot t.values i)) w
        | inr past ↦ past_slot f (length t.values) i past ∙ sym (get_or_past t.values i None past)
      ];
      frames = refl;
    }

some_of_value : (o : Option History) (s : Resource) → option_map (λ (g : History). g.now) o ≡ Some s → is_some o ≡ true
some_of_value (Some g) s e = refl
some_of_value None s e = absurd (cc)

back_by : (b : Bool) (t o : Option History) (h : History) (s : Resource) → cond b (option_or t o) o ≡ Some h
    → (b ≡ true → option_map (λ (g : History). g.now) t ≡ Some s) → (b ≡ false → o ≡ Some h → h.now ≡ s) → h.now ≡ s
back_by true (Some g) o h s e start old =
    let one : g ≡ h = cc in
    let value : Some g.now ≡ Some s = start refl in
    let now : g.now ≡ s = cc in
    ap (λ (x : History). x.now) (sym one) ∙ now
back_by true None o h s e start old = absurd (let nothing : None ≡ Some s = start refl in cc)
back_by false t o h s e start old = old refl e

none_back : (b : Bool) (t o : Option History) → cond b (option_or t o) o ≡ None → (b ≡ true → is_some t ≡ true) → (b ≡ false) × (o ≡ None)
none_back true (Some g) o e some = absurd (cc)
none_back true None o e some = absurd (let no : false ≡ true = some refl in cc)
none_back false t o e some = (refl, e)

-- a vault after a node was taken back
pub back-vault : (plan : Planned) (world : Start) (given : List Bool) (values there : Slots) (n : ℕ) → IsVault plan world given values
    → ((i : ℕ) → i < length (keys (tree_of plan)) → is_written (locks (tree_of plan) n) i ≡ true → value_in there i ≡ Some (starting_value_in world (key_at (tree_of plan) i)))
    → IsVault plan world (set given n false) (moved_here (locks (tree_of plan) n) there values)
back-vault plan world given values there n kept starts =
    let tree = tree_of plan in
    let ls = locks tree n in
    let f : ℕ → Option History = λ j. cond (is_written ls j) (option_or (slot there j) (slot values j)) (slot values j) in
    let count : length (column f (length values)) ≡ length values = length-column f (length values) in
    let fits = kept.values_fit in
    record {
      lent_fits = length-set given n false ∙ kept.lent_fits;
      values_fit = count ∙ kept.values_fit;
      at_start = λ i h e. elim (cases_lt i (length values)) [
        | inl inside ↦
            let within : i < length (keys tree) = omega arith in
            back_by (is_written ls i) (slot there i) (slot values i) h (starting_value_in world (key_at tree i)) (sym (column_slot f (length values) i inside) ∙ e) (starts i within)
            (λ w at. kept.at_start i h at)
        | inr past ↦ absurd (let nothing : None ≡ Some h = sym (past_slot f (length values) i past) ∙ e in cc)
      ];
      away = λ i less e.
          let inside : i < length values = omega arith in
          let within : i < length (keys tree) = omega arith in
          let parts = none_back (is_written ls i) (slot there i) (slot values i) (sym (column_slot f (length values) i inside) ∙ e)
          (λ w. some_of_value (slot there i) (starting_value_in world (key_at tree i)) (starts i within w)) in
          let old = kept.away i inside parts.1 in
          let other : old.node ≢ n = λ same.
          let clash : true ≡ false = sym old.writes ∙ ap (λ m. is_written (locks tree m) i) same ∙ parts.0 in
          cc in
          record { node = old.node; lent = lent-other given n old.node false other ∙ old.lent; writes = old.writes };
    }

pub some-back : (there : Slots) (i : ℕ) (s : Resource) → value_in there i ≡ Some s → is_some (slot there i) ≡ true
some-back there i s e = some_of_value (slot there i) s e

-- what was lent to a tray stands there at its start
pub taken-as-lent : (n : ℕ) (v : VaultView) (t u : TrayView) → IsLentTo n t u → n < length v.plan.rows → u.plan ≡ v.plan → u.world ≡ v.world → is_lent v.lent n ≡ true → CanTakeBack n v u
taken-as-lent n v t u on node plan world lent =
    let same : v.plan ≡ t.plan = sym plan ∙ on.plan in
    record {
      node = node;
      plan = plan;
      world = world;
      lent = lent;
      holds = on.holds;
      at_start = λ i h w. on.written i (subst (λ (p : Planned). i < length (keys (tree_of p))) same h) (ap (λ (p : Planned). is_written (locks (tree_of p) n) i) (sym same) ∙ w);
    }
