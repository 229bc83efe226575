-- What a run asks of the bodies of classes and tests, and the laws that they keep.
--
-- language, body laws: What a run asks of bodies over any heads, keys, values and results: a body
-- begins on frames, does a step, has ended, done to its end; frames and results; and what steps and
-- ends keep (`Language`, `BodyLaws`).
use Rattle.std.specs.Prelude.{◌≡◌, ℕ, List, ◌∷◌, Option, Bool, true, false}

-- the content of all resources: the value of each key, if it has one
abbrev pub Content : Type 0 → Type 0 → Type 0
Content K V = K → Option V

-- a body, and the content that it has come to
pub record Progress (B M : Type 0) : Type 0 where
  pub body : B
  pub content : M

-- A language of heads H, keys K, values V, bodies B, frames F and results R. A chain is a list of
-- heads, innermost first: that of a test or a class, and those of all classes around it.
pub record Language (H K V B F R : Type 0) : Type 0 where
  -- whether a head is a test's, and not a class's
  pub is_test : H → Bool
  -- the access rights of a chain: the keys that its bodies may look at, and those that they may
  -- change
  pub reads : List H → K → Bool
  pub writes : List H → K → Bool
  -- the body with which a node is entered, a class's `before_all` or a whole test, on the frames of
  -- the classes around it
  pub begin : List H → List F → B
  -- the body with which a class is closed, its `after_all`, on the frames of the classes around it
  -- and its own
  pub begin_closing : List H → List F → B
  -- one step of a body; whether nothing is left to do; how far the end is, at most; what doing all
  -- that is left comes to
  pub step : List H → B → Content K V → Progress B (Content K V)
  pub ended : B → Bool
  pub distance : B → ℕ
  pub finish : List H → B → Content K V → Progress B (Content K V)
  -- what an ended `before_all` leaves of its class, beside the frames of the classes around it; and
  -- whether it ended well
  pub frame : List F → B → F
  pub is_well : F → Bool
  -- the result of a test by its ended body, that of a class by its frames and its ended
  -- `after_all`, and that of a node under a class whose `before_all` didn't end well
  pub test_result : B → R
  pub class_result : List F → B → R
  pub blocked : List F → R

module _ {H K V B F R : Type 0} (l : Language H K V B F R) where
  -- two contents are equal at the keys that a chain may look at
  pub record Agree (hs : List H) (m n : Content K V) : Type 0 where
    pub at : (k : K) → l.reads hs k ≡ true → m k ≡ n k

  -- the same body, on contents that agree so
  pub record Alike (hs : List H) (p q : Progress B (Content K V)) : Type 0 where
    pub body : p.body ≡ q.body
    pub at : (k : K) → l.reads hs k ≡ true → p.content k ≡ q.content k

  -- What may be changed may be looked at, and a chain has the rights of the classes around it.
  pub record RightsLaws : Type 0 where
    pub write_reads : (hs : List H) (k : K) → l.writes hs k ≡ true → l.reads hs k ≡ true
    pub inner_reads : (h : H) (hs : List H) (k : K) → l.reads hs k ≡ true
        → l.reads (h ∷ hs) k ≡ true
    pub inner_writes : (h : H) (hs : List H) (k : K) → l.writes hs k ≡ true
        → l.writes (h ∷ hs) k ≡ true

  -- A body changes what its chain may change alone, and depends on what it may look at alone, in a
  -- step and to its end. What doing all that is left comes to is the same before and after a step,
  -- and an ended body stays as it is.
  pub record BodyLaws : Type 0 where
    pub rights : RightsLaws
    pub step_writes : (hs : List H) (b : B) (m : Content K V) (k : K) → l.writes hs k ≡ false
        → (l.step hs b m).content k ≡ m k
    pub step_reads : (hs : List H) (b : B) (m n : Content K V) → Agree hs m n
        → Alike hs (l.step hs b m) (l.step hs b n)
    pub step_ended : (hs : List H) (b : B) (m : Content K V) → l.ended b ≡ true
        → l.step hs b m ≡ record { body = b; content = m }
    pub finish_writes : (hs : List H) (b : B) (m : Content K V) (k : K) → l.writes hs k ≡ false
        → (l.finish hs b m).content k ≡ m k
    pub finish_reads : (hs : List H) (b : B) (m n : Content K V) → Agree hs m n
        → Alike hs (l.finish hs b m) (l.finish hs b n)
    pub finish_step : (hs : List H) (b : B) (m : Content K V)
        → l.finish hs (l.step hs b m).body (l.step hs b m).content ≡ l.finish hs b m
    pub finish_ended : (hs : List H) (b : B) (m : Content K V) → l.ended b ≡ true → l.finish hs b m
        ≡ record { body = b; content = m }
