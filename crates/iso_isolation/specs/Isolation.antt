-- The isolation theorem.
--
-- isolation theorem: The result of each finished node is that of its chain run alone; suites that
-- agree on a chain and the values of its rights' keys give equal results (`Isolated`,
-- `Unaffected`).
use Rattle.std.specs.Prelude.{◌≡◌, ℕ, ◌<◌, true, List, Some}
use Rattle.iso_isolation.specs.Languages.{Language}
use Rattle.iso_isolation.specs.Suites.{Suite, chain, may_read}
use Rattle.iso_isolation.specs.Alone.{run_alone}
use Rattle.iso_isolation.specs.States.{first}
use Rattle.iso_isolation.specs.Events.{Event}
use Rattle.iso_isolation.specs.Runs.{is_run, after_all_of, result_of}

module _ {H K V B F R : Type 0} (l : Language H K V B F R) where
  -- in some run of a suite, on some number of workers, a node has this result
  pub record Gives (x : Suite H K V) (n : ℕ) (r : R) : Type 0 where
    pub nonzero : 0 < n
    pub workers : ℕ
    pub events : List Event
    pub run : is_run l x workers (first l x) events ≡ true
    pub result : result_of (after_all_of l x (first l x) events) n ≡ Some r

  -- For every number of workers and every list of events that the locks allow, the result of each
  -- finished test is that of its class chain run alone on the starting values of the keys of its
  -- rights; and so is that of each finished class.
  abbrev pub Isolated : Suite H K V → Type 0
  Isolated x = (n : ℕ) (r : R) → Gives x n r → r ≡ run_alone l (chain x n) x.start

  -- Two suites that agree on a chain, and on the starting values of the keys of its rights, give it
  -- equal results.
  pub record AgreeOn (x y : Suite H K V) (n m : ℕ) : Type 0 where
    pub chains : chain x n ≡ chain y m
    pub starts : (k : K) → may_read l x n k ≡ true → x.start k ≡ y.start k

  abbrev pub Unaffected : Suite H K V → Suite H K V → Type 0
  Unaffected x y = (n m : ℕ) (r q : R) → AgreeOn x y n m → Gives x n r → Gives y m q → r ≡ q
