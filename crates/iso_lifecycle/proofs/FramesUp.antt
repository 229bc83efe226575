-- The frames on the way up from a node to the root, innermost first.
use Rattle.std.proofs.Common.{◌≡◌, ℕ, zero, suc, ◌<◌, ◌≤◌, List, [], ◌∷◌, ◌++◌, length, map, reverse, Option, Some, None, Bool, true, false, cond, is_some, option_copied, Bor, append_assoc, append-nil, refl, subst, ap, sym, ◌∙◌, arith}
use Rattle.std.proofs.lemmas.List.{length-append, length-map, map-append, reverse-append}
use Rattle.iso_lifecycle.proofs.Barring.{HasParent}
use Rattle.iso_lifecycle.specs.ResultViews.{AreOpened, ResultsView, is_opened}
use Rattle.iso_lifecycle.specs.Subjects.{Subject, subject}
use Rattle.iso_plan.proofs.PathLemmas.{IsBelow, path-root, path-step}
use Rattle.iso_plan.specs.Paths.{parent, parent_of, path}
use Rattle.iso_plan.specs.RowView.{tree_of}
use Rattle.iso_plan.specs.Tree.{Row}

abbrev pub frame_of : ResultsView → ℕ → Subject
frame_of r = subject r.plan r.start

-- on the way from a node up, the frames so far and those of the rest of the path are those of the whole path, and the rest was opened
pub record IsOnWay (r : ResultsView) (node at : ℕ) (fs : List Subject) : Type 0 where
  pub within : at < length r.plan.rows
  pub opened : AreOpened r (path (tree_of r.plan) at)
  pub so_far : fs ++ map (frame_of r) (path (tree_of r.plan) at) ≡ map (frame_of r) (path (tree_of r.plan) node)

pub begins : (r : ResultsView) (node : ℕ) (fs : List Subject) → node < length r.plan.rows → AreOpened r (path (tree_of r.plan) node) → fs ≡ [] → IsOnWay r node node fs
begins r node fs within opened e = record { within = within; opened = opened; so_far = ap (λ (gs : List Subject). gs ++ map (frame_of r) (path (tree_of r.plan) node)) e }

split-opened : (r : ResultsView) (n : ℕ) (ns : List ℕ) → AreOpened r (n ∷ ns) → (is_opened r n ≡ true) × AreOpened r ns
split-opened r n ns h = h

module _ (r : ResultsView) (below : IsBelow (tree_of r.plan)) (node at : ℕ) (fs : List Subject) (way : IsOnWay r node at fs) where
  here-and-above : 0 < at → (is_opened r at ≡ true) × AreOpened r (path (tree_of r.plan) (parent (tree_of r.plan) at))
  here-and-above pos = split-opened r at (path (tree_of r.plan) (parent (tree_of r.plan) at)) (subst (AreOpened r) (path-step (tree_of r.plan) below at pos) way.opened)

  pub here-opened : 0 < at → is_opened r at ≡ true
  here-opened pos = (here-and-above pos).0

  -- one frame more is on the path
  pub has-room : (room : ℕ) → 0 < at → length (path (tree_of r.plan) node) ≤ room → length fs < room
  has-room room pos h =
      let up = path (tree_of r.plan) (parent (tree_of r.plan) at) in
      let here : length (path (tree_of r.plan) at) ≡ suc (length up) = ap (λ (ns : List ℕ). length ns) (path-step (tree_of r.plan) below at pos) in
      let whole = ap (λ (gs : List Subject). length gs) way.so_far in
      let split = length-append fs (map (frame_of r) (path (tree_of r.plan) at)) in
      let rest = length-map (path (tree_of r.plan) at) (frame_of r) in
      let all = length-map (path (tree_of r.plan) node) (frame_of r) in
      omega arith

  pub goes-up : (m : ℕ) → HasParent (tree_of r.plan) at m → IsOnWay r node m (fs ++ frame_of r at ∷ [])
  goes-up m p =
      let less : parent (tree_of r.plan) at < at = below at p.inner in
      let inside = way.within in
      subst (λ (j : ℕ). IsOnWay r node j (fs ++ frame_of r at ∷ [])) p.parent_is
      (record {
        within = omega arith;
        opened = (here-and-above p.inner).1;
        so_far =
            append_assoc fs (frame_of r at ∷ []) (map (frame_of r) (path (tree_of r.plan) (parent (tree_of r.plan) at)))
            ∙ ap (λ (ns : List ℕ). fs ++ map (frame_of r) ns) (sym (path-step (tree_of r.plan) below at p.inner))
            ∙ way.so_far;
      })

reverse-map : {A B : Type 0} (f : A → B) (xs : List A) → reverse (map f xs) ≡ map f (reverse xs)
reverse-map f [] = refl
reverse-map {A} {B} f (x ∷ xs) =
    reverse-append (f x ∷ []) (map f xs) ∙ ap (λ (ys : List B). ys ++ f x ∷ []) (reverse-map f xs)
    ∙ sym (map-append f (reverse xs) (x ∷ [])) ∙ ap (map f) (sym (reverse-append (x ∷ []) xs))

no-parent : (tree : List Row) (n : ℕ) → parent_of tree n ≡ None → n ≡ 0
no-parent tree zero e = refl
no-parent tree (suc n) e = absurd (cc)

-- at the root they are those of the whole path
pub whole : (r : ResultsView) (node at : ℕ) (fs : List Subject) → IsOnWay r node at fs → parent_of (tree_of r.plan) at ≡ None → fs ≡ map (frame_of r) (path (tree_of r.plan) node)
whole r node at fs way none =
    let root = no-parent (tree_of r.plan) at none in
    let above : path (tree_of r.plan) at ≡ [] = ap (path (tree_of r.plan)) root ∙ path-root (tree_of r.plan) in
    sym (append-nil fs) ∙ sym (ap (λ (ns : List ℕ). fs ++ map (frame_of r) ns) above) ∙ way.so_far

-- and turned round they have the outermost first
pub turned : (r : ResultsView) (node : ℕ) (fs : List Subject) → fs ≡ map (frame_of r) (path (tree_of r.plan) node) → reverse fs ≡ map (frame_of r) (reverse (path (tree_of r.plan) node))
turned r node fs e = ap reverse e ∙ reverse-map (frame_of r) (path (tree_of r.plan) node)

-- the frame that results have of a class that was opened
pub frame-is : (b : Bool) (s q : Subject) → b ≡ true → Some q ≡ cond b (Some s) None → q ≡ s
frame-is true s q e h = cc
frame-is false s q e h = absurd (cc)

-- there is one
pub frame-there : {T : Type 0} (b : Bool) (s : T) (o : Option (Bor T)) → b ≡ true → option_copied o ≡ cond b (Some s) None → is_some o ≡ true
frame-there b s (Some q) e h = refl
frame-there true s None e h = absurd (cc)
frame-there false s None e h = absurd (cc)
