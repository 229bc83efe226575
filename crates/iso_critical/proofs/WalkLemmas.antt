-- One way through the bodies, from the one that ended last on, finds the critical ones.
use Rattle.std.proofs.Common.{◌≡◌, ◌≤◌, ℕ, zero, suc, List, [], ◌∷◌, ◌++◌, Option, Some, None, Bool, true, false, cond, length, find, IfSome, All, refl, ap, sym, ◌∙◌, append_assoc, arith}
use Rattle.std.proofs.lemmas.Bool.Decides.{nat_tests}
use Rattle.std.proofs.lemmas.List.Elements.{All-cons, All-head, All-nil, All-tail}
use Rattle.std.specs.List.{AllByRecursion}
use Rattle.std.specs.Option.{option_map}
use Rattle.iso_critical.specs.Bodies.{Run, latest_first}
use Rattle.iso_critical.specs.Critical.{back_from, previous}
use Rattle.iso_critical.specs.Needs.{comes_before, ended_by, had_to_end, needs}
use Rattle.iso_critical.specs.declared.body.Body.{Body}
use Rattle.iso_critical.specs.declared.needs.Needs.{Needs}
use Rattle.iso_plan.specs.Tree.{Row}
use Rattle.iso_times.specs.declared.times.BodyTime.{BodyTime}

-- bodies that ended no later than one
abbrev pub AreNoLater : Body → List Body → Type 0
AreNoLater b ps = AllByRecursion (λ (p : Body). p.time.end ≤ b.time.end) ps

-- each ended no later than those before it
abbrev pub Falls : List Body → Type 0
Falls [] = Unit {0}
Falls (b ∷ bs) = AreNoLater b bs × Falls bs

-- bodies none of which ended before others
abbrev AreHigh : List Body → List Body → Type 0
AreHigh es ps = AllByRecursion (λ (e : Body). AreNoLater e ps) es

abbrev AllFail : List Row → Option Needs → List Body → Type 0
AllFail tree o es = AllByRecursion (λ (e : Body). comes_before tree o e ≡ false) es

all-push : (P : Body → Type 0) (es : List Body) (p : Body) → AllByRecursion P es → P p → AllByRecursion P (es ++ p ∷ [])
all-push P [] p a h = (h, tt)
all-push P (e ∷ es) p a h = (a.0, all-push P es p a.1 h)

-- no body that ended later, or at the same time, had to end before another
not-ended : (p b : BodyTime) → b.end ≤ p.end → ended_by p b ≡ false
not-ended p b h = grind (arith, nat_tests)

fails-later : (tree : List Row) (n : Needs) (e : Body) → n.body.time.end ≤ e.time.end → had_to_end tree n e ≡ false
fails-later tree n e h = rw (not-ended e.time n.body.time h) refl

high-fail : (run : Run) (p : Body) (es ps : List Body) → AreHigh es (p ∷ ps) → AllFail run.tree (Some (needs run p)) es
high-fail run p [] ps h = tt
high-fail run p (e ∷ es) ps h = (fails-later run.tree (needs run p) e h.0.0, high-fail run p es ps h.1)

high-rest : (p : Body) (es ps : List Body) → AreHigh es (p ∷ ps) → AreHigh es ps
high-rest p [] ps h = tt
high-rest p (e ∷ es) ps h = (h.0.1, high-rest p es ps h.1)

-- what fails is passed over
found-late : (tree : List Row) (o : Option Needs) (es ps : List Body) → AllFail tree o es → find (comes_before tree o) (es ++ ps) ≡ find (comes_before tree o) ps
found-late tree o [] ps f = refl
found-late tree o (e ∷ es) ps f = rw f.0 (found-late tree o es ps f.1)

back-none : (run : Run) (k : ℕ) → back_from run k None ≡ []
back-none run zero = refl
back-none run (suc k) = refl

module _ (run : Run) where
  -- the way through bodies, behind one that is critical
  abbrev pub walked : Option Needs → List Body → List Body
  walked o [] = []
  walked o (p ∷ ps) = cond (comes_before run.tree o p) (p ∷ walked (Some (needs run p)) ps) (walked o ps)

  abbrev of : Option Body → Option Needs
  of b = option_map (needs run) b

  abbrev all : List Body
  all = latest_first run.bodies (length run.tree)

  found : (b : Option Body) (es ps : List Body) → es ++ ps ≡ all → AllFail run.tree (of b) es → previous run b ≡ find (comes_before run.tree (of b)) ps
  found b es ps split fails = ap (find (comes_before run.tree (of b))) (sym split) ∙ found-late run.tree (of b) es ps fails

  walked-is : (k : ℕ) (b : Option Body) (es ps : List Body) → es ++ ps ≡ all → Falls ps → AreHigh es ps → AllFail run.tree (of b) es → length ps ≤ k
      → walked (of b) ps ≡ back_from run k (previous run b)
  walked-is k b es [] split falls high fails low = sym (ap (back_from run k) (found b es [] split fails) ∙ back-none run k)
  walked-is k b es (p ∷ ps) split falls high fails low =
      by k (comes_before run.tree (of b) p) refl low
      (λ m h. walked-is m (Some p) (es ++ p ∷ []) ps moved falls.1 higher critical-fail h)
      (λ e m h. walked-is m b (es ++ p ∷ []) ps moved falls.1 higher (failed e) h ∙ ap (back_from run m) (found b (es ++ p ∷ []) ps moved (failed e)))
      ∙ sym (ap (back_from run k) (found b es (p ∷ ps) split fails))
    where
      moved : (es ++ p ∷ []) ++ ps ≡ all
      moved = append_assoc es (p ∷ []) ps ∙ split

      higher : AreHigh (es ++ p ∷ []) ps
      higher = all-push (λ (e : Body). AreNoLater e ps) es p (high-rest p es ps high) falls.0

      critical-fail : AllFail run.tree (of (Some p)) (es ++ p ∷ [])
      critical-fail =
          all-push (λ (c : Body). comes_before run.tree (Some (needs run p)) c ≡ false) es p (high-fail run p es ps high)
          (fails-later run.tree (needs run p) p (omega arith))

      failed : comes_before run.tree (of b) p ≡ false → AllFail run.tree (of b) (es ++ p ∷ [])
      failed e = all-push (λ (c : Body). comes_before run.tree (of b) c ≡ false) es p fails e

      by : (k : ℕ) (t : Bool) → comes_before run.tree (of b) p ≡ t → suc (length ps) ≤ k
          → ((m : ℕ) → length ps ≤ m → walked (Some (needs run p)) ps ≡ back_from run m (previous run (Some p)))
          → (comes_before run.tree (of b) p ≡ false → (m : ℕ) → length ps ≤ m → walked (of b) ps ≡ back_from run m (find (comes_before run.tree (of b)) ps))
          → cond t (p ∷ walked (Some (needs run p)) ps) (walked (of b) ps) ≡ back_from run k (cond t (Some p) (find (comes_before run.tree (of b)) ps))
      by zero t e h critical rest = absurd (omega arith)
      by (suc m) true e h critical rest = ap (λ (qs : List Body). p ∷ qs) (critical m (omega arith))
      by (suc m) false e h critical rest = rest e (suc m) (omega arith)

  -- all of it, however many may be critical
  pub walked-all : (k : ℕ) → Falls all → length all ≤ k → walked None all ≡ back_from run k (previous run None)
  walked-all k falls low = walked-is k None [] all refl falls tt tt low

  -- what is so of all bodies is so of the critical ones
  find-all : (P : Body → Type 0) (t : Body → Bool) (bs : List Body) → All P bs → IfSome (find t bs) P
  find-all P t [] h = tt
  find-all P t (b ∷ bs) h = by (t b) (find-all P t bs (All-tail P b bs h))
    where
      by : (a : Bool) → IfSome (find t bs) P → IfSome (cond a (Some b) (find t bs)) P
      by true rest = All-head P b bs h
      by false rest = rest

  back-all : (P : Body → Type 0) (k : ℕ) (b : Option Body) → All P all → IfSome b P → All P (back_from run k b)
  back-all P zero None h i = All-nil P
  back-all P (suc k) None h i = All-nil P
  back-all P zero (Some b) h i = All-nil P
  back-all P (suc k) (Some b) h i =
      All-cons P b (back_from run k (previous run (Some b))) i
      (back-all P k (previous run (Some b)) h (find-all P (comes_before run.tree (of (Some b))) all h))

  pub critical-all : (P : Body → Type 0) (k : ℕ) → All P all → All P (back_from run k (previous run None))
  critical-all P k h = back-all P k (previous run None) h (find-all P (comes_before run.tree None) all h)
