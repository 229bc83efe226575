-- Each event keeps what the locks give.
use Rattle.std.proofs.Common.{◌≡◌, ℕ, ◌<◌, Bool, true, false, [], ◌⊎◌, inl, inr, refl, sym, ap, subst, ◌∙◌, arith}
use Rattle.iso_isolation.specs.Suites.{Suite, Shared}
use Rattle.iso_isolation.specs.States.{Status, Waiting, Open, put, is_open, is_finished, is_held}
use Rattle.iso_isolation.proofs.Changes.{equal_or_not, put_elsewhere}
use Rattle.iso_isolation.proofs.Statuses.{finished_unheld}
use Rattle.iso_isolation.proofs.Locks.{Locked}

flip : {H K V : Type 0} (x : Suite H K V) {m n : ℕ} → Shared x m n → Shared x n m
flip x c = record { key = c.key; left = c.right; right = c.left; write = elim c.write [ inl a ↦ inr a | inr a ↦ inl a ] }

module _ {H K V B F R : Type 0} (x : Suite H K V) where
  -- a change after which no more nodes are entered
  pub quieter : (st next : ℕ → Status B F R) → Locked x st → next 0 ≡ Open []
      → ((m : ℕ) → is_held (next m) ≡ true → is_held (st m) ≡ true)
      → ((m : ℕ) → is_finished (st m) ≡ true → is_finished (next m) ≡ true)
      → ((m : ℕ) → (m ≡ 0 → ⊥) → is_held (next m) ≡ true → is_open (st (x.parent m)) ≡ true → is_open (next (x.parent m)) ≡ true)
      → Locked x next
  quieter st next locked root less more stay = record {
    root = root;
    inside = λ m nz h. locked.inside m nz (less m h);
    tree = λ m nz h. stay m nz h (locked.tree m nz (less m h));
    apart = λ m n ne hm hn. locked.apart m n ne (less m hm) (less n hn);
    order = λ m n lt nz p sm sn h. more m (locked.order m n lt nz p sm sn (less n h));
  }

  -- what an accepted Enter tells of the node
  pub record MayEnter (st : ℕ → Status B F R) (n : ℕ) : Type 0 where
    pub nonzero : n ≡ 0 → ⊥
    pub inside : n < x.nodes
    pub waiting : st n ≡ Waiting
    pub parent : is_open (st (x.parent n)) ≡ true
    pub earlier : (m : ℕ) → m < n → (m ≡ 0 → ⊥) → x.parent m ≡ x.parent n → x.is_same_thread m ≡ true → x.is_same_thread n ≡ true → is_finished (st m) ≡ true
    pub free : (m : ℕ) → m < x.nodes → is_held (st m) ≡ true → Shared x m n → ⊥

  module _ (st : ℕ → Status B F R) (locked : Locked x st) (n : ℕ) (may : MayEnter st n) (s : Status B F R) (held : is_held s ≡ true) where
    -- the root is in the plan as well
    within : (m : ℕ) → is_held (st m) ≡ true → m < x.nodes
    within m h = elim (equal_or_not m 0) [
      | inl z ↦ let b = may.inside in omega arith
      | inr nz ↦ locked.inside m nz h
    ]

    not_there : (P : Status B F R → Bool) → P Waiting ≡ false → (m : ℕ) → P (st m) ≡ true → m ≡ n → ⊥
    not_there P f m o e = let w : st m ≡ Waiting = ap st e ∙ may.waiting in let g : P (st m) ≡ false = ap P w ∙ f in cc

    stays : (P : Status B F R → Bool) → P Waiting ≡ false → (m : ℕ) → P (st m) ≡ true → P (put n s st m) ≡ true
    stays P f m o = ap P (put_elsewhere m n s st (not_there P f m o)) ∙ o

    -- held after: the node itself, or held before
    held_after : (m : ℕ) → is_held (put n s st m) ≡ true → (m ≡ n) ⊎ (is_held (st m) ≡ true)
    held_after m h = elim (equal_or_not m n) [
      | inl e ↦ inl e
      | inr ne ↦ inr (sym (ap is_held (put_elsewhere m n s st ne)) ∙ h)
    ]

    pub enter_locked : Locked x (put n s st)
    enter_locked = record {
      root = put_elsewhere 0 n s st (λ e. may.nonzero (sym e)) ∙ locked.root;
      inside = λ m nz h. elim (held_after m h) [
        | inl e ↦ subst (λ (j : ℕ). j < x.nodes) (sym e) may.inside
        | inr was ↦ locked.inside m nz was
      ];
      tree = λ m nz h. stays is_open refl (x.parent m) (elim (held_after m h) [
        | inl e ↦ subst (λ (j : ℕ). is_open (st (x.parent j)) ≡ true) (sym e) may.parent
        | inr was ↦ locked.tree m nz was
      ]);
      apart = λ m m2 ne h h2 c. elim (held_after m h) [
        | inl e ↦ elim (held_after m2 h2) [
          | inl e2 ↦ ne (e ∙ sym e2)
          | inr was2 ↦ may.free m2 (within m2 was2) was2 (subst (λ (j : ℕ). Shared x m2 j) e (flip x c))
        ]
        | inr was ↦ elim (held_after m2 h2) [
          | inl e2 ↦ may.free m (within m was) was (subst (λ (j : ℕ). Shared x m j) e2 c)
          | inr was2 ↦ locked.apart m m2 ne was was2 c
        ]
      ];
      order = λ m m2 lt nz p sm sm2 h. stays is_finished refl m (elim (held_after m2 h) [
        | inl e ↦ may.earlier m (subst (λ (j : ℕ). m < j) e lt) nz (p ∙ ap x.parent e) sm (subst (λ (j : ℕ). x.is_same_thread j ≡ true) e sm2)
        | inr was ↦ locked.order m m2 lt nz p sm sm2 was
      ]);
    }

  -- nothing under a node is entered
  abbrev pub Quiet : (ℕ → Status B F R) → ℕ → Type 0
  Quiet st n = (m : ℕ) → (m ≡ 0 → ⊥) → x.parent m ≡ n → is_held (st m) ≡ true → ⊥

  pub quiet : (st : ℕ → Status B F R) → Locked x st → (n : ℕ) → is_open (st n) ≡ false → Quiet st n
  quiet st locked n shut m nz p h =
      let o : is_open (st n) ≡ true = subst (λ (j : ℕ). is_open (st j) ≡ true) p (locked.tree m nz h) in cc

  -- a change of one entered node under which nothing is entered
  pub turn_locked : (st : ℕ → Status B F R) → Locked x st → (n : ℕ) → (n ≡ 0 → ⊥) → is_held (st n) ≡ true → Quiet st n → (s : Status B F R) → Locked x (put n s st)
  turn_locked st locked n nz hn q s =
      let still : (m : ℕ) → is_held (put n s st m) ≡ true → is_held (st m) ≡ true =
      λ m h. elim (equal_or_not m n) [
        | inl e ↦ subst (λ (j : ℕ). is_held (st j) ≡ true) (sym e) hn
        | inr ne ↦ subst (λ (t : Status B F R). is_held t ≡ true) (put_elsewhere m n s st ne) h
      ] in
      quieter st (put n s st) locked (put_elsewhere 0 n s st (λ e. nz (sym e)) ∙ locked.root) still
      (λ m f. subst (λ (t : Status B F R). is_finished t ≡ true) (sym (put_elsewhere m n s st (λ e. finished_unheld (st m) f (subst (λ (j : ℕ). is_held (st j) ≡ true) (sym e) hn)))) f)
      (λ m mz h o. subst (λ (t : Status B F R). is_open t ≡ true) (sym (put_elsewhere (x.parent m) n s st (λ e. q m mz e (still m h)))) o)
