-- What every state of a run keeps: at each class at rest and at each body under way, the flat map is what the definitions say.
use Rattle.std.proofs.Common.{◌≡◌, ℕ, Some, List, Bool, true, false}
use Rattle.iso_isolation.specs.Languages.{Content, Progress, Language, Alike}
use Rattle.iso_isolation.specs.Suites.{Suite, On, chain, may_write}
use Rattle.iso_isolation.specs.States.{Status, Nodes, is_open, is_barred, is_closing, is_at_rest, is_held, body_in, frames_in, result_in}
use Rattle.iso_isolation.proofs.Bodies.{reach}
use Rattle.iso_isolation.proofs.Locks.{Locked}
use Rattle.iso_isolation.proofs.Openings.{opening_at, defined}

module _ {H K V B F R : Type 0} (l : Language H K V B F R) (x : Suite H K V) where
  -- where the body under way at a node began: a closing on its class's opening, any other on its parent's
  abbrev pub source : ℕ → Bool → Progress B (Content K V)
  source n true = let o = opening_at l x n in record { body = l.begin_closing (chain x n) o.frames; content = o.content }
  source n false = let o = opening_at l x (x.parent n) in record { body = l.begin (chain x n) o.frames; content = o.content }

  -- a body, and the flat map at the keys of its rights, are what so many steps of it alone left
  pub record Reached (n : ℕ) (b : B) (flat : Content K V) (s : Status B F R) : Type 0 where
    pub steps : ℕ
    pub alone : Alike l (chain x n) (record { body = b; content = flat }) (reach l (chain x n) steps (source n (is_closing s)))

  -- only nodes on the path of this one may be changing the key
  abbrev pub Untouched : (ℕ → Status B F R) → ℕ → K → Type 0
  Untouched st c k = (d : ℕ) → is_held (st d) ≡ true → may_write l x d k ≡ true → On x d c

  pub record Kept (s : Nodes K V B F R) : Type 0 where
    pub locked : Locked x s.status
    -- a class whose `before_all` was left has the definition's frames, and is open or barred as the definition says
    pub told : (c : ℕ) (fs : List F) → frames_in (s.status c) ≡ Some fs → (opening_at l x c).frames ≡ fs
    pub well : (c : ℕ) → is_open (s.status c) ≡ true → (opening_at l x c).well ≡ true
    pub ill : (c : ℕ) → is_barred (s.status c) ≡ true → (opening_at l x c).well ≡ false
    -- at a class at rest an untouched key stands as its opening left it
    pub rest : (c : ℕ) (k : K) → is_at_rest (s.status c) ≡ true → Untouched s.status c k → s.flat k ≡ (opening_at l x c).content k
    -- what an entered node saved is what its parent's opening left
    pub saved : (n : ℕ) (k : K) → (n ≡ 0 → ⊥) → is_held (s.status n) ≡ true → may_write l x n k ≡ true
        → s.saved n k ≡ (opening_at l x (x.parent n)).content k
    pub going : (n : ℕ) (b : B) → body_in (s.status n) ≡ Some b → Reached n b s.flat (s.status n)
    pub class : (n : ℕ) → is_closing (s.status n) ≡ true → l.is_test (x.head n) ≡ false
    pub done : (n : ℕ) (r : R) → (n ≡ 0 → ⊥) → result_in (s.status n) ≡ Some r → r ≡ defined l x n
