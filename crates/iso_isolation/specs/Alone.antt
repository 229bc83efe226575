-- What a chain comes to when it is run alone (JUnit 5 User Guide, test lifecycle).
-- No other test, no worker, no lock and no order of events appears here.
--
-- run alone: What the innermost of a chain comes to on the values of the keys of its rights, and on
-- nothing else (`opening`, `run_alone`).
-- Standard: JUnit 5 User Guide, test lifecycle.
use Rattle.std.specs.Prelude.{Bool, true, cond, List, [], ◌∷◌, None}
use Rattle.iso_isolation.specs.Languages.{Content, Progress, Language}

-- what the opening of a chain of classes leaves: a frame of each class whose `before_all` ran,
-- innermost first, the content, and whether all ended well
pub record Opening (K V F : Type 0) : Type 0 where
  pub frames : List F
  pub content : Content K V
  pub well : Bool

-- these contents at these keys, and nothing at any other
abbrev pub restricted : {K V : Type 0} → (K → Bool) → Content K V → Content K V
restricted keys m k = cond (keys k) (m k) None

module _ {H K V B F R : Type 0} (l : Language H K V B F R) where
  -- the body with which the innermost of a chain is entered, and that with which it is closed, each
  -- done to its end
  abbrev pub entered : List H → Opening K V F → Progress B (Content K V)
  entered hs o = l.finish hs (l.begin hs o.frames) o.content

  abbrev pub closed : List H → Opening K V F → Progress B (Content K V)
  closed hs o = l.finish hs (l.begin_closing hs o.frames) o.content

  -- the opening with one `before_all` more
  abbrev pub opened : Opening K V F → Progress B (Content K V) → Opening K V F
  opened o p = record {
    frames = l.frame o.frames p.body ∷ o.frames;
    content = p.content;
    well = l.is_well (l.frame o.frames p.body);
  }

  -- the opening of a chain of classes: each `before_all`, outermost first, until one doesn't end
  -- well
  abbrev pub opening : List H → Content K V → Opening K V F
  opening [] m = record { frames = []; content = m; well = true }
  opening (h ∷ hs) m = let o = opening hs m in cond o.well (opened o (entered (h ∷ hs) o)) o

  -- a test: its body on what the opening of its classes left, where all ended well
  abbrev pub test_alone : H → List H → Content K V → R
  test_alone h hs m = let o =
      opening hs m in cond o.well (l.test_result (entered (h ∷ hs) o).body) (l.blocked o.frames)

  -- a class: its `after_all` on what its own opening left, where all around it ended well
  abbrev pub class_alone : H → List H → Content K V → R
  class_alone h hs m =
      let o = opening hs m in
      let p = opened o (entered (h ∷ hs) o) in
      cond o.well (l.class_result p.frames (closed (h ∷ hs) p).body) (l.blocked o.frames)

  -- the innermost of a chain run alone on these contents
  abbrev pub run_from : List H → Content K V → R
  run_from [] m = l.blocked []
  run_from (h ∷ hs) m = cond (l.is_test h) (test_alone h hs m) (class_alone h hs m)

  -- the innermost of a chain run alone: on the values of the keys of its rights, and on nothing
  -- else
  abbrev pub run_alone : List H → Content K V → R
  run_alone hs m = run_from hs (restricted (l.reads hs) m)
