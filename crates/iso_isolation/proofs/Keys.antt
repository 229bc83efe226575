-- Where the values of a key are in a state in which each body under way stands at its beginning.
use Rattle.std.proofs.Common.{◌≡◌, ℕ, ◌<◌, List, Option, Some, None, is_some, Bool, true, false, ◌&&◌, ◌⊎◌, inl, inr, refl, sym, ap, subst, ◌∙◌, arith}
use Rattle.iso_isolation.specs.Languages.{Language, Alike, BodyLaws}
use Rattle.iso_isolation.specs.Suites.{Suite, On, same, chain, may_write, SuiteLaws}
use Rattle.iso_isolation.specs.Alone.{opening}
use Rattle.iso_isolation.specs.States as S
use Rattle.iso_isolation.specs.Events.{where_some}
use Rattle.iso_isolation.specs.States.{Status, Nodes, is_open, is_closing, is_at_rest, is_held, body_in, frames_in}
use Rattle.iso_isolation.specs.Refusals.{lowest_below, any_below}
use Rattle.iso_isolation.specs.Histories.{highest_below}
use Rattle.iso_isolation.proofs.Changes.{equal_or_not, true_or_false, none_below, some_below, Highest, highest, none_highest}
use Rattle.iso_isolation.proofs.Statuses.{body_held}
use Rattle.iso_isolation.proofs.Locks.{on_split, on_le, nothing_above_root, above, isolated}
use Rattle.iso_isolation.proofs.Openings.{opening_at, chain_root, writes_down, unwritten}
use Rattle.iso_isolation.proofs.Invariant.{source, Kept}
use Rattle.iso_isolation.proofs.Steps.{nonzero, lowest}

module _ {B F R : Type 0} where
  abbrev is_begun : Status B F R → Bool
  is_begun S.Waiting = false
  is_begun (S.Begun b) = true
  is_begun (S.Open fs) = false
  is_begun (S.Barred fs) = false
  is_begun (S.Closing fs b) = false
  is_begun (S.Finished r) = false

  begun_body : (s : Status B F R) → is_begun s ≡ true → (b : B) × (body_in s ≡ Some b)
  begun_body S.Waiting e = absurd cc
  begun_body (S.Begun b) e = (b, refl)
  begun_body (S.Open fs) e = absurd cc
  begun_body (S.Barred fs) e = absurd cc
  begun_body (S.Closing fs b) e = absurd cc
  begun_body (S.Finished r) e = absurd cc

  begun_not_closing : (s : Status B F R) → is_begun s ≡ true → is_closing s ≡ false
  begun_not_closing S.Waiting e = refl
  begun_not_closing (S.Begun b) e = refl
  begun_not_closing (S.Open fs) e = refl
  begun_not_closing (S.Barred fs) e = refl
  begun_not_closing (S.Closing fs b) e = absurd cc
  begun_not_closing (S.Finished r) e = refl

  begun_no_frames : (s : Status B F R) → is_begun s ≡ true → is_some (frames_in s) ≡ true → ⊥
  begun_no_frames S.Waiting e f = cc
  begun_no_frames (S.Begun b) e f = cc
  begun_no_frames (S.Open fs) e f = cc
  begun_no_frames (S.Barred fs) e f = cc
  begun_no_frames (S.Closing fs b) e f = cc
  begun_no_frames (S.Finished r) e f = cc

  frames_held : (s : Status B F R) → is_some (frames_in s) ≡ true → is_held s ≡ true
  frames_held S.Waiting e = absurd cc
  frames_held (S.Begun b) e = refl
  frames_held (S.Open fs) e = refl
  frames_held (S.Barred fs) e = refl
  frames_held (S.Closing fs b) e = refl
  frames_held (S.Finished r) e = absurd cc

  open_frames : (s : Status B F R) → is_open s ≡ true → is_some (frames_in s) ≡ true
  open_frames S.Waiting e = absurd cc
  open_frames (S.Begun b) e = absurd cc
  open_frames (S.Open fs) e = refl
  open_frames (S.Barred fs) e = refl
  open_frames (S.Closing fs b) e = refl
  open_frames (S.Finished r) e = absurd cc

  held_begun_or_framed : (s : Status B F R) → is_held s ≡ true → is_begun s ≡ false → is_some (frames_in s) ≡ true
  held_begun_or_framed S.Waiting h e = absurd cc
  held_begun_or_framed (S.Begun b) h e = absurd cc
  held_begun_or_framed (S.Open fs) h e = refl
  held_begun_or_framed (S.Barred fs) h e = refl
  held_begun_or_framed (S.Closing fs b) h e = refl
  held_begun_or_framed (S.Finished r) h e = absurd cc

  closing_body : (s : Status B F R) → is_closing s ≡ true → (b : B) × (body_in s ≡ Some b)
  closing_body S.Waiting e = absurd cc
  closing_body (S.Begun b) e = absurd cc
  closing_body (S.Open fs) e = absurd cc
  closing_body (S.Barred fs) e = absurd cc
  closing_body (S.Closing fs b) e = (b, refl)
  closing_body (S.Finished r) e = absurd cc

  framed_rests : (s : Status B F R) → is_some (frames_in s) ≡ true → is_closing s ≡ false → is_at_rest s ≡ true
  framed_rests S.Waiting e f = absurd cc
  framed_rests (S.Begun b) e f = absurd cc
  framed_rests (S.Open fs) e f = refl
  framed_rests (S.Barred fs) e f = refl
  framed_rests (S.Closing fs b) e f = absurd cc
  framed_rests (S.Finished r) e f = absurd cc

both_true : (a b : Bool) → (a && b) ≡ true → (a ≡ true) × (b ≡ true)
both_true true b e = (refl, e)
both_true false b e = absurd cc

both : (a b : Bool) → a ≡ true → b ≡ true → (a && b) ≡ true
both true b e f = f
both false b e f = absurd cc

first_false : (a b : Bool) → (a && b) ≡ false → b ≡ true → a ≡ false
first_false true b e t = absurd cc
first_false false b e t = refl

second_false : (a b : Bool) → (a && b) ≡ false → a ≡ true → b ≡ false
second_false true b e t = e
second_false false b e t = absurd cc

-- where none of the numbers below n passes a test, each fails it
all_fail : (n : ℕ) (test : ℕ → Bool) → any_below n test ≡ false → (m : ℕ) → m < n → test m ≡ false
all_fail n test = by (lowest_below n test) (λ none. none_below n test none)
  where
    by : (o : Option ℕ) → (o ≡ None → (m : ℕ) → m < n → test m ≡ false) → is_some o ≡ false → (m : ℕ) → m < n → test m ≡ false
    by None all e = all refl
    by (Some m) all e = absurd cc

module _ {H K V B F R : Type 0} (l : Language H K V B F R) (x : Suite H K V) where
  -- each body under way but that of one node stands at its beginning
  abbrev pub FreshBut : ℕ → Nodes K V B F R → Type 0
  FreshBut n s = (m : ℕ) (c : B) → (m ≡ n → ⊥) → body_in (s.status m) ≡ Some c
      → Alike l (chain x m) (record { body = c; content = s.flat }) (source l x m (is_closing (s.status m)))

  module _ (plan : SuiteLaws l x) (laws : BodyLaws l) (s : Nodes K V B F R) (kept : Kept l x s) (fresh : FreshBut 0 s) where
    at_root : (k : K) → (opening_at l x 0).content k ≡ x.start k
    at_root k = ap (λ (hs : List H). (opening l hs x.start).content k) (chain_root l x plan laws)

    parent_open : (e : ℕ) → (e ≡ 0 → ⊥) → is_held (s.status e) ≡ true → is_open (s.status (x.parent e)) ≡ true
    parent_open e nz h = kept.locked.tree e nz h

    pub home : (k : K) → any_below x.nodes (λ n. is_held (s.status n) && x.takes_write n k) ≡ false → s.flat k ≡ x.start k
    home k none =
        kept.rest 0 k (ap is_at_rest kept.locked.root) (λ d h w. elim (equal_or_not d 0) [
          | inl z ↦ subst (λ (j : ℕ). On x d j) z same
          | inr nz ↦
              let c = plan.covered d k (laws.rights.write_reads (chain x d) k w) in
              let t = c.write w in
              let low = on_le l x plan c.on in
              let inside = kept.locked.inside d nz h in
              let f = all_fail x.nodes (λ n. is_held (s.status n) && x.takes_write n k) none c.by (omega arith) in
              let g = second_false (is_held (s.status c.by)) (x.takes_write c.by k) f (above l x plan laws s.status kept.locked c.on h) in
              absurd cc
        ])
        ∙ at_root k

    module _ (k : K) where
      -- a first body under way that may change the key; and a class whose `before_all` was left that may
      abbrev changing : ℕ → Bool
      changing e = is_begun (s.status e) && may_write l x e k

      abbrev opened : ℕ → Bool
      opened c = is_some (frames_in (s.status c)) && may_write l x c k

      -- of two entered nodes that may change the key one stands on the path of the other
      one_line : (d e : ℕ) → may_write l x d k ≡ true → may_write l x e k ≡ true → is_held (s.status d) ≡ true → is_held (s.status e) ≡ true → On x d e ⊎ On x e d
      one_line d e wd we hd he = isolated l x plan laws s.status kept.locked d e k wd (laws.rights.write_reads (chain x e) k we) hd he

      -- a first body under way that may change the key has its parent's opening before it
      module _ (e : ℕ) (begun : is_begun (s.status e) ≡ true) (we : may_write l x e k ≡ true) where
        abbrev body : B
        body = (begun_body (s.status e) begun).0

        here : body_in (s.status e) ≡ Some body
        here = (begun_body (s.status e) begun).1

        held_e : is_held (s.status e) ≡ true
        held_e = body_held (s.status e) body here

        nz_e : e ≡ 0 → ⊥
        nz_e = nonzero l x plan laws s kept e body here

        before_it : s.flat k ≡ (opening_at l x (x.parent e)).content k
        before_it =
            (fresh e body nz_e here).at k (laws.rights.write_reads (chain x e) k we)
            ∙ ap (λ (b : Bool). (source l x e b).content k) (begun_not_closing (s.status e) begun)

        parent_framed : is_some (frames_in (s.status (x.parent e))) ≡ true
        parent_framed = open_frames (s.status (x.parent e)) (parent_open e nz_e held_e)

        not_framed : (c : ℕ) → is_some (frames_in (s.status c)) ≡ true → On x e c → ⊥
        not_framed c f on =
            let eq = lowest l x plan laws s kept e body here c (frames_held (s.status c) f) on in
            begun_no_frames (s.status e) begun (ap (λ (j : ℕ). is_some (frames_in (s.status j))) eq ∙ f)

        -- of a class that was opened and may change it, the class stands around the body
        around : (c : ℕ) → is_some (frames_in (s.status c)) ≡ true → may_write l x c k ≡ true → On x c (x.parent e)
        around c f wc = elim (one_line c e wc we (frames_held (s.status c) f) held_e) [
          | inr on ↦ absurd (not_framed c f on)
          | inl on ↦ elim (on_split x on) [
            | inl eq ↦ absurd (begun_no_frames (s.status e) begun (ap (λ (j : ℕ). is_some (frames_in (s.status j))) (sym eq) ∙ f))
            | inr p ↦ p.1
          ]
        ]

        parent_is : (c : ℕ) → Highest x.nodes opened c → x.parent e ≡ c
        parent_is c high =
            let t = both_true (is_some (frames_in (s.status c))) (may_write l x c k) high.passes in
            let on = around c t.0 t.1 in
            let low = on_le l x plan on in
            let inside = kept.locked.inside e nz_e held_e in
            let before = plan.below e nz_e in
            let up = high.last (x.parent e) (omega arith) (both (is_some (frames_in (s.status (x.parent e)))) _ parent_framed (writes_down l x plan laws k on t.1)) in
            omega arith

      -- where a first body under way may change the key, and where none may
      search : (P : Type 0) → ((e : ℕ) → is_begun (s.status e) ≡ true → may_write l x e k ≡ true → P) → (((e : ℕ) → e < x.nodes → changing e ≡ false) → P) → P
      search P some none = by (lowest_below x.nodes changing) refl
        where
          by : (o : Option ℕ) → lowest_below x.nodes changing ≡ o → P
          by None e = none (none_below x.nodes changing e)
          by (Some m) e = let t = both_true (is_begun (s.status m)) (may_write l x m k) (some_below x.nodes changing m e) in some m t.0 t.1

      framed : ((e : ℕ) → e < x.nodes → changing e ≡ false) → (e : ℕ) → (e ≡ 0 → ⊥) → is_held (s.status e) ≡ true → may_write l x e k ≡ true → opened e ≡ true
      framed none e nz h we =
          both (is_some (frames_in (s.status e))) _
          (held_begun_or_framed (s.status e) h (first_false (is_begun (s.status e)) (may_write l x e k) (none e (kept.locked.inside e nz h)) we)) we

      -- the innermost class that was opened and may change the key
      module _ (c : ℕ) (high : Highest x.nodes opened c) where
        framed_c : is_some (frames_in (s.status c)) ≡ true
        framed_c = (both_true (is_some (frames_in (s.status c))) (may_write l x c k) high.passes).0

        writes_c : may_write l x c k ≡ true
        writes_c = (both_true (is_some (frames_in (s.status c))) (may_write l x c k) high.passes).1

        -- each entered node that may change the key stands on the path of the class
        above_it : ((e : ℕ) → e < x.nodes → changing e ≡ false) → (e : ℕ) → is_held (s.status e) ≡ true → may_write l x e k ≡ true → On x e c
        above_it none e he we = elim (one_line e c we writes_c he (frames_held (s.status c) framed_c)) [
          | inl on ↦ on
          | inr on ↦ elim (equal_or_not e 0) [
            | inl z ↦
                let c0 = nothing_above_root l x plan (subst (λ (j : ℕ). On x c j) z on) in
                let eq : e ≡ c = z ∙ sym c0 in
                subst (λ (j : ℕ). On x e j) eq same
            | inr nz ↦
                let low = on_le l x plan on in
                let up = high.last e (kept.locked.inside e nz he) (framed none e nz he we) in
                let eq : e ≡ c = omega arith in
                subst (λ (j : ℕ). On x e j) eq same
          ]
        ]

        as_it_left : s.flat k ≡ (opening_at l x c).content k
        as_it_left = search (s.flat k ≡ (opening_at l x c).content k)
            (λ e begun we. before_it e begun we ∙ ap (λ (j : ℕ). (opening_at l x j).content k) (parent_is e begun we c high))
            (λ none. elim (true_or_false (is_closing (s.status c))) [
              | inl t ↦
                  let b = closing_body (s.status c) t in
                  (fresh c b.0 (nonzero l x plan laws s kept c b.0 b.1) b.1).at k (laws.rights.write_reads (chain x c) k writes_c)
                  ∙ ap (λ (j : Bool). (source l x c j).content k) t
              | inr f ↦ kept.rest c k (framed_rests (s.status c) framed_c f) (above_it none)
            ])

      -- no class was opened that may change the key
      module _ (none_opened : (c : ℕ) → c < x.nodes → opened c ≡ false) where
        left_alone : (c : ℕ) → is_some (frames_in (s.status c)) ≡ true → (opening_at l x c).content k ≡ x.start k
        left_alone c f = elim (equal_or_not c 0) [
          | inl z ↦ ap (λ (j : ℕ). (opening_at l x j).content k) z ∙ at_root k
          | inr nz ↦
              unwritten l x plan laws c k
              (second_false (is_some (frames_in (s.status c))) (may_write l x c k) (none_opened c (kept.locked.inside c nz (frames_held (s.status c) f))) f)
        ]

        at_start : s.flat k ≡ x.start k
        at_start = search (s.flat k ≡ x.start k)
            (λ e begun we. before_it e begun we ∙ left_alone (x.parent e) (parent_framed e begun we))
            (λ none.
            kept.rest 0 k (ap is_at_rest kept.locked.root) (λ e he we. elim (equal_or_not e 0) [
              | inl z ↦ subst (λ (j : ℕ). On x e j) z same
              | inr nz ↦ let f = none_opened e (kept.locked.inside e nz he) in let t = framed none e nz he we in absurd cc
            ])
            ∙ at_root k)

      pub value : s.flat k ≡ where_some (highest_below x.nodes opened) (x.start k) (λ c. (opening_at l x c).content k)
      value = by (highest_below x.nodes opened) refl
        where
          by : (o : Option ℕ) → highest_below x.nodes opened ≡ o → s.flat k ≡ where_some o (x.start k) (λ c. (opening_at l x c).content k)
          by None e = at_start (none_highest x.nodes opened e)
          by (Some c) e = as_it_left c (highest x.nodes opened c e)
