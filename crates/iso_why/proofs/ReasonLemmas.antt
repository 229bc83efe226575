-- Why a node has its mode, node by node up its path.
use Rattle.std.proofs.Common.{◌≡◌, ℕ, ◌<◌, List, [], ◌∷◌, Option, Some, None, Bool, true, false, ◌==◌, cond, length, refl, sym, ap, ◌∙◌, arith}
use Rattle.std.specs.List.{AllByRecursion}
use Rattle.std.specs.Option.{is_some, option_map, option_or}
use Rattle.iso_plan.proofs.KeyLemmas.{root-eq}
use Rattle.iso_plan.proofs.PathLemmas.{IsBelow, path-root, path-step}
use Rattle.iso_plan.specs.Locks.{is_write, locks}
use Rattle.iso_plan.specs.Paths.{is_root, parent, path, row_at}
use Rattle.iso_plan.specs.Tree.{Row}
use Rattle.iso_plan.specs.declared.lock.Lock.{Lock}
use Rattle.iso_settings.specs.declared.settings.Settings.{Settings}
use Rattle.iso_why.specs.ModeReasons.{chosen_by, first_written, forced_by, forced_or, marked_by, reason}
use Rattle.iso_why.specs.declared.why.Cause.{Cause}
use Rattle.iso_why.specs.declared.why.Cause.TheVariants.{Forced, Off}

-- a class that takes a key for READ_WRITE forces
pub forced-here : (tree : List Row) → IsBelow tree → (n key : ℕ) → 0 < n → first_written (locks tree n) ≡ Some key → forced_by tree (path tree n) ≡ Some (Forced n key)
forced-here tree b n key pos e =
    ap (forced_by tree) (path-step tree b n pos)
    ∙ ap (λ (o : Option ℕ). option_or (option_map (λ k. Forced n k) o) (forced_by tree (path tree (parent tree n)))) e

-- one that doesn't is passed over
pub forced-above : (tree : List Row) → IsBelow tree → (n : ℕ) → 0 < n → first_written (locks tree n) ≡ None → forced_by tree (path tree n) ≡ forced_by tree (path tree (parent tree n))
forced-above tree b n pos e =
    ap (forced_by tree) (path-step tree b n pos)
    ∙ ap (λ (o : Option ℕ). option_or (option_map (λ k. Forced n k) o) (forced_by tree (path tree (parent tree n)))) e

pub forced-root : (tree : List Row) → forced_by tree (path tree 0) ≡ None
forced-root tree = ap (forced_by tree) (path-root tree)

pub marked-here : (tree : List Row) → IsBelow tree → (n : ℕ) → 0 < n → is_some (row_at tree n).mode ≡ true → marked_by tree (path tree n) ≡ Some n
marked-here tree b n pos e =
    ap (marked_by tree) (path-step tree b n pos) ∙ ap (λ (t : Bool). cond t (Some n) (marked_by tree (path tree (parent tree n)))) e

pub marked-above : (tree : List Row) → IsBelow tree → (n : ℕ) → 0 < n → is_some (row_at tree n).mode ≡ false → marked_by tree (path tree n) ≡ marked_by tree (path tree (parent tree n))
marked-above tree b n pos e =
    ap (marked_by tree) (path-step tree b n pos) ∙ ap (λ (t : Bool). cond t (Some n) (marked_by tree (path tree (parent tree n)))) e

pub marked-root : (tree : List Row) → marked_by tree (path tree 0) ≡ None
marked-root tree = ap (marked_by tree) (path-root tree)

known_by : (l : Lock) (ls : List Lock) (most k : ℕ) (t : Bool) → l.key < most → (first_written ls ≡ Some k → k < most) → cond t (Some l.key) (first_written ls) ≡ Some k → k < most
known_by l ls most k true h ih e =
    let whole : Some l.key ≡ Some k = e in
    let same : l.key ≡ k = cc in
    omega arith
known_by l ls most k false h ih e = ih e

-- a key that is written has a number
pub written-known : (ls : List Lock) (most k : ℕ) → AllByRecursion (λ (l : Lock). l.key < most) ls → first_written ls ≡ Some k → k < most
written-known [] most k h e = absurd (cc)
written-known (l ∷ ls) most k h e = known_by l ls most k (is_write l) h.0 (written-known ls most k h.1) e

-- the reason of a node that is forced
pub reason-forced : (tree : List Row) (s : Settings) (n class : ℕ) (w : Cause) → s.parallel ≡ true → class ≡ parent tree n → Some w ≡ forced_by tree (path tree class) → w ≡ reason tree s n
reason-forced tree s n class w on e f =
    let other = chosen_by (marked_by tree (path tree n)) (is_root (parent tree n)) in
    ap (λ (o : Option Cause). forced_or o other) (f ∙ ap (λ j. forced_by tree (path tree j)) e)
    ∙ sym (ap (λ (p : Bool). cond p (forced_or (forced_by tree (path tree (parent tree n))) other) Off) on)

-- and of one that isn't
pub reason-chosen : (tree : List Row) (s : Settings) (n class : ℕ) (w : Cause) → s.parallel ≡ true → class ≡ parent tree n
    → None ≡ forced_by tree (path tree class) → w ≡ chosen_by (marked_by tree (path tree n)) (class == 0) → w ≡ reason tree s n
reason-chosen tree s n class w on e f h =
    let other = chosen_by (marked_by tree (path tree n)) (is_root (parent tree n)) in
    h ∙ ap (chosen_by (marked_by tree (path tree n))) (root-eq class ∙ ap is_root e)
    ∙ ap (λ (o : Option Cause). forced_or o other) (f ∙ ap (λ j. forced_by tree (path tree j)) e)
    ∙ sym (ap (λ (p : Bool). cond p (forced_or (forced_by tree (path tree (parent tree n))) other) Off) on)
