-- Trees of one shape whose nodes declare the same: their locks, modes and rights are the same.
use Rattle.std.proofs.Common.{◌≡◌, ℕ, zero, suc, List, [], ◌∷◌, ◌++◌, Option, Some, None, Bool, true, false, ◌||◌, ◌&&◌, ◌==◌, cond, filter, length, map, not, refl, sym, ap, ap₂, ◌∙◌, arith, bytes_eq, unwrap_or}
use Rattle.std.proofs.lemmas.Bool.Decides.{nat_tests}
use Rattle.std.proofs.lemmas.Cmp.{nat_list_eq_equiv}
use Rattle.std.specs.List.{list_any, range_with_len}
use Rattle.std.specs.Option.{option_or}
use Rattle.iso_model.proofs.RightsLemmas.{rights_of-append}
use Rattle.iso_model.specs.Chains.{ClassHead, marks_of}
use Rattle.iso_model.specs.ResourceKeys.{global_key}
use Rattle.iso_model.specs.Rights.{is_readable, rights_of, strongest}
use Rattle.iso_model.specs.declared.access.Access.{Access}
use Rattle.iso_model.specs.declared.access.Access.TheVariants.{Read, Write}
use Rattle.iso_model.specs.declared.heads.Mark.{Mark}
use Rattle.iso_model.specs.declared.script.Mode.TheVariants.{SameThread}
use Rattle.iso_plan.proofs.PathLemmas.{IsBelow, along, path-root, path-step}
use Rattle.iso_plan.proofs.SoFar.{all-gathered, gathered_below}
use Rattle.iso_plan.specs.KeyTable.{keys, kind_marks}
use Rattle.iso_plan.specs.Locks.{declared, declares, effective_marks, gathered, global_access, holds_isolated, is_isolated, is_that, is_write, isolates, locking_node, locks, locks_from, marks_global, taken, takes_write}
use Rattle.iso_plan.specs.Modes.{chosen_mode, is_forced, mode, nearest_mode}
use Rattle.iso_plan.specs.NodeChains.{chain_classes, class_heads, heads_on, node_rights, rights_with}
use Rattle.iso_plan.specs.Paths.{is_on, is_root, is_top, nodes_under, outermost, parent, path, row_at}
use Rattle.iso_plan.specs.Tree.{Kind, root, class_node, test_node, Row, with_marks}
use Rattle.iso_settings.specs.declared.settings.Settings.{Settings}

-- the nodes of two trees differ in their marks alone, which declare the same
pub record DeclareTheSame (new old : List Row) : Type 0 where
  pub count : length new ≡ length old
  pub above : (n : ℕ) → parent new n ≡ parent old n
  pub kinds : (n : ℕ) → (row_at new n).kind ≡ with_marks (effective_marks new n) (row_at old n).kind
  pub same : (n : ℕ) (k : List ℕ) → declared new n k ≡ declared old n k
  pub marked : (n : ℕ) → (row_at new n).mode ≡ (row_at old n).mode
  pub keyed : keys new ≡ keys old

isolated_still : (ms : List Mark) (kind : Kind) → is_isolated (with_marks ms kind) ≡ is_isolated kind
isolated_still ms root = refl
isolated_still ms (class_node isolated head) = refl
isolated_still ms (test_node head) = refl

some_readable : (a : Access) (b : Option Access) → is_readable (strongest (Some a) b) ≡ true
some_readable a None = refl
some_readable a (Some b) = refl

-- marks name the global key where they declare it
global_declared : (ms : List Mark) → marks_global ms ≡ is_readable (rights_of ms global_key)
global_declared [] = refl
global_declared (m ∷ ms) =
    elim (bytes_eq global_key m.key) as (λ (b : Bool). (b || marks_global ms) ≡ is_readable (strongest (cond b (Some m.access) None) (rights_of ms global_key))) [
      | true ↦ sym (some_readable m.access (rights_of ms global_key))
      | false ↦ global_declared ms
    ]

own_key : (m : Mark) (ms : List Mark) → is_readable (rights_of (m ∷ ms) m.key) ≡ true
own_key m ms =
    ap (λ (b : Bool). is_readable (strongest (cond b (Some m.access) None) (rights_of ms m.key))) (nat_list_eq_equiv.refl m.key)
    ∙ some_readable m.access (rights_of ms m.key)

some_marks : (m : Mark) (ms : List Mark) → not (length (m ∷ ms) == 0) ≡ true
some_marks m ms = let some : (suc (length ms) == 0) ≡ false = grind (arith, nat_tests) in ap not some

-- there are marks where something is declared
marked_alike : (ms ns : List Mark) → ((k : List ℕ) → rights_of ms k ≡ rights_of ns k) → not (length ms == 0) ≡ not (length ns == 0)
marked_alike [] [] h = refl
marked_alike [] (n ∷ ns) h = let wrong : false ≡ true = ap is_readable (h n.key) ∙ own_key n ns in absurd (cc)
marked_alike (m ∷ ms) [] h = let wrong : false ≡ true = ap is_readable (sym (h m.key)) ∙ own_key m ms in absurd (cc)
marked_alike (m ∷ ms) (n ∷ ns) h = some_marks m ms ∙ sym (some_marks n ns)

-- heads with marks that declare the same
heads_alike : (kind : Kind) (ms : List Mark) (cs ds : List ClassHead) (k : List ℕ) → rights_of ms k ≡ rights_of (kind_marks kind) k → rights_of (marks_of cs) k ≡ rights_of (marks_of ds) k
    → rights_of (marks_of (class_heads (with_marks ms kind) ++ cs)) k ≡ rights_of (marks_of (class_heads kind ++ ds)) k
heads_alike root ms cs ds k own rest = rest
heads_alike (class_node isolated head) ms cs ds k own rest =
    rights_of-append ms (marks_of cs) k ∙ ap₂ strongest own rest ∙ sym (rights_of-append head.marks (marks_of ds) k)
heads_alike (test_node head) ms cs ds k own rest = rest

rights_alike : (kind : Kind) (ms : List Mark) (cs ds : List ClassHead) (k : List ℕ) → rights_of ms k ≡ rights_of (kind_marks kind) k → rights_of (marks_of cs) k ≡ rights_of (marks_of ds) k
    → rights_with (with_marks ms kind) cs k ≡ rights_with kind ds k
rights_alike root ms cs ds k own rest = rest
rights_alike (class_node isolated head) ms cs ds k own rest = rest
rights_alike (test_node head) ms cs ds k own rest =
    rights_of-append ms (marks_of cs) k ∙ ap₂ strongest own rest ∙ sym (rights_of-append head.marks (marks_of ds) k)

module _ (new old : List Row) (d : DeclareTheSame new old) (b : IsBelow old) where
  below : IsBelow new
  below n pos = let up = d.above n in let less = b n pos in omega (arith, up, less)

  paths : (n : ℕ) → path new n ≡ path old n
  paths =
      along old b (λ n. path new n ≡ path old n)
      (path-root new ∙ sym (path-root old))
      (λ n pos ih. path-step new below n pos ∙ ap (λ (ns : List ℕ). n ∷ ns) (ap (path new) (d.above n) ∙ ih) ∙ sym (path-step old b n pos))

  unders : (m : ℕ) → nodes_under new m ≡ nodes_under old m
  unders m = λ i. filter (λ n. is_on (paths n i) m) (range_with_len 0 (d.count i))

  tops : (n : ℕ) → is_top new n ≡ is_top old n
  tops n = ap (λ (p : ℕ). not (is_root n) && is_root p) (d.above n)

  asks : (n : ℕ) → isolates new n ≡ isolates old n
  asks n =
      ap₂ (λ (x y : Bool). x || y) (ap is_isolated (d.kinds n) ∙ isolated_still (effective_marks new n) (row_at old n).kind)
      (global_declared (effective_marks new n) ∙ ap is_readable (d.same n global_key) ∙ sym (global_declared (effective_marks old n)))

  holds : (n : ℕ) → holds_isolated new n ≡ holds_isolated old n
  holds n = λ i. tops n i && list_any (λ m. asks m i) (unders n i)

  declaring : (n : ℕ) → declares new n ≡ declares old n
  declaring n = ap₂ (λ (x y : Bool). x || y) (holds n) (marked_alike (effective_marks new n) (effective_marks old n) (d.same n))

  lockers : (n : ℕ) → locking_node new n ≡ locking_node old n
  lockers n = λ i. outermost (λ m. declaring m i) (paths n i)

  gather_below : (m : ℕ) (k : List ℕ) (n : ℕ) → gathered_below new m k n ≡ gathered_below old m k n
  gather_below m k zero = refl
  gather_below m k (suc n) = ap₂ strongest (λ i. cond (is_on (paths n i) m) (d.same n k i) None) (gather_below m k n)

  gathers : (m : ℕ) (k : List ℕ) → gathered new m k ≡ gathered old m k
  gathers m k = all-gathered new m k ∙ gather_below m k (length new) ∙ ap (gathered_below old m k) d.count ∙ sym (all-gathered old m k)

  globally : (n : ℕ) (k : List ℕ) → global_access new n k ≡ global_access old n k
  globally n k = λ i. cond (tops n i && bytes_eq global_key k) (Some (cond (holds n i) Write Read)) None

  takes : (n : ℕ) (k : List ℕ) → taken new n k ≡ taken old n k
  takes n k = λ i. strongest (globally n k i) (cond (is_that (lockers n i) n) (gathers n k i) None)

  pub same-locks : (n : ℕ) → locks new n ≡ locks old n
  same-locks n = λ i. locks_from 0 (map (λ k. takes n k i) (d.keyed i))

  writes : (n : ℕ) → takes_write new n ≡ takes_write old n
  writes n = ap (list_any is_write) (same-locks n)

  forced : (n : ℕ) → is_forced new n ≡ is_forced old n
  forced n =
      let ups : path new (parent new n) ≡ path old (parent old n) = ap (path new) (d.above n) ∙ paths (parent old n) in
      λ i. list_any (λ m. writes m i) (ups i)

  nearest : (ns : List ℕ) → nearest_mode new ns ≡ nearest_mode old ns
  nearest [] = refl
  nearest (n ∷ ns) = λ i. option_or (d.marked n i) (nearest ns i)

  chosen : (s : Settings) (n : ℕ) → chosen_mode new s n ≡ chosen_mode old s n
  chosen s n =
      let near : nearest_mode new (path new n) ≡ nearest_mode old (path old n) = ap (nearest_mode new) (paths n) ∙ nearest (path old n) in
      λ i. unwrap_or (near i) (cond (tops n i) s.classes_default_mode s.default_mode)

  pub same-modes : (s : Settings) (n : ℕ) → mode new s n ≡ mode old s n
  same-modes s n = λ i. cond (s.parallel && not (is_root n) && not (forced n i)) (chosen s n i) SameThread

  heads : (ns : List ℕ) (k : List ℕ) → rights_of (marks_of (heads_on new ns)) k ≡ rights_of (marks_of (heads_on old ns)) k
  heads [] k = refl
  heads (n ∷ ns) k =
      ap (λ (kind : Kind). rights_of (marks_of (class_heads kind ++ heads_on new ns)) k) (d.kinds n)
      ∙ heads_alike (row_at old n).kind (effective_marks new n) (heads_on new ns) (heads_on old ns) k (d.same n k) (heads ns k)

  chains : (n : ℕ) (k : List ℕ) → rights_of (marks_of (chain_classes new n)) k ≡ rights_of (marks_of (chain_classes old n)) k
  chains n k = ap (λ (ns : List ℕ). rights_of (marks_of (heads_on new ns)) k) (paths n) ∙ heads (path old n) k

  pub same-rights : (n : ℕ) (k : List ℕ) → node_rights new n k ≡ node_rights old n k
  same-rights n k =
      ap (λ (kind : Kind). rights_with kind (chain_classes new n) k) (d.kinds n)
      ∙ rights_alike (row_at old n).kind (effective_marks new n) (chain_classes new n) (chain_classes old n) k (d.same n k) (chains n k)
