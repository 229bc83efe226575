-- A chain run alone depends on the starting values of the keys of its rights alone; the isolation theorem.
use Rattle.std.proofs.Common.{◌≡◌, List, [], ◌∷◌, Option, None, Bool, true, false, cond, inl, inr, refl, sym, ap, ◌∙◌, arith}
use Rattle.iso_isolation.specs.Languages.{Content, Language, Alike, BodyLaws}
use Rattle.iso_isolation.specs.Suites.{Suite, chain, SuiteLaws}
use Rattle.iso_isolation.specs.Alone.{Opening, restricted, opened, entered, closed, opening, test_alone, class_alone, run_from, run_alone}
use Rattle.iso_isolation.specs.States.{first}
use Rattle.iso_isolation.specs.Isolation.{Isolated, Unaffected}
use Rattle.iso_isolation.proofs.Changes.{true_or_false}
use Rattle.iso_isolation.proofs.Bodies.{alike_by}
use Rattle.iso_isolation.proofs.Runs.{keeps_run}
use Rattle.iso_isolation.proofs.Barred.{keeps_first}

module _ {H K V B F R : Type 0} (l : Language H K V B F R) (laws : BodyLaws l) (q : K → Bool) where
  -- equal as far as these keys tell
  record Equal (o p : Opening K V F) : Type 0 where
    frames : o.frames ≡ p.frames
    well : o.well ≡ p.well
    at : (k : K) → q k ≡ true → o.content k ≡ p.content k

  -- the keys that a chain may look at are among these
  abbrev Inside : List H → Type 0
  Inside hs = (k : K) → l.reads hs k ≡ true → q k ≡ true

  finish_equal : (hs : List H) → Inside hs → (o p : Opening K V F) → Equal o p → (b c : B) → b ≡ c → Alike l hs (l.finish hs b o.content) (l.finish hs c p.content)
  finish_equal hs inside o p a b c e =
      alike_by l hs _ _ _ _ refl (ap (λ (j : B). l.finish hs j p.content) e)
      (laws.finish_reads hs b o.content p.content (record { at = λ k r. a.at k (inside k r) }))

  entered_equal : (hs : List H) → Inside hs → (o p : Opening K V F) → Equal o p → Alike l hs (entered l hs o) (entered l hs p)
  entered_equal hs inside o p a = finish_equal hs inside o p a (l.begin hs o.frames) (l.begin hs p.frames) (ap (l.begin hs) a.frames)

  opened_equal : (hs : List H) → Inside hs → (o p : Opening K V F) → Equal o p → Equal (opened l o (entered l hs o)) (opened l p (entered l hs p))
  opened_equal hs inside o p a =
      let e = entered_equal hs inside o p a in
      let frame : l.frame o.frames (entered l hs o).body ≡ l.frame p.frames (entered l hs p).body =
      ap (λ (j : B). l.frame o.frames j) e.body ∙ ap (λ (j : List F). l.frame j (entered l hs p).body) a.frames in
      record {
        frames = ap (λ (j : F). j ∷ o.frames) frame ∙ ap (λ (j : List F). l.frame p.frames (entered l hs p).body ∷ j) a.frames;
        well = ap l.is_well frame;
        at = λ k i. elim (true_or_false (l.writes hs k)) [
          | inl w ↦ e.at k (laws.rights.write_reads hs k w)
          | inr w ↦ laws.finish_writes hs (l.begin hs o.frames) o.content k w ∙ a.at k i ∙ sym (laws.finish_writes hs (l.begin hs p.frames) p.content k w)
        ];
      }

  either : (b c : Bool) (o o2 p p2 : Opening K V F) → b ≡ c → Equal o p → Equal o2 p2 → Equal (cond b o o2) (cond c p p2)
  either true true o o2 p p2 e a a2 = a
  either true false o o2 p p2 e a a2 = absurd cc
  either false true o o2 p p2 e a a2 = absurd cc
  either false false o o2 p p2 e a a2 = a2

  results : (b c : Bool) (u u2 v v2 : R) → b ≡ c → u ≡ v → u2 ≡ v2 → cond b u u2 ≡ cond c v v2
  results true true u u2 v v2 e a a2 = a
  results true false u u2 v v2 e a a2 = absurd cc
  results false true u u2 v v2 e a a2 = absurd cc
  results false false u u2 v v2 e a a2 = a2

  module _ (m n : Content K V) (agree : (k : K) → q k ≡ true → m k ≡ n k) where
    openings_equal : (hs : List H) → Inside hs → Equal (opening l hs m) (opening l hs n)
    openings_equal [] inside = record { frames = refl; well = refl; at = agree }
    openings_equal (h ∷ hs) inside =
        let outer = openings_equal hs (λ k r. inside k (laws.rights.inner_reads h hs k r)) in
        either (opening l hs m).well (opening l hs n).well _ _ _ _ outer.well (opened_equal (h ∷ hs) inside (opening l hs m) (opening l hs n) outer) outer

    tests_equal : (h : H) (hs : List H) → Inside (h ∷ hs) → test_alone l h hs m ≡ test_alone l h hs n
    tests_equal h hs inside =
        let outer = openings_equal hs (λ k r. inside k (laws.rights.inner_reads h hs k r)) in
        results _ _ _ _ _ _ outer.well (ap l.test_result (entered_equal (h ∷ hs) inside (opening l hs m) (opening l hs n) outer).body) (ap l.blocked outer.frames)

    classes_equal : (h : H) (hs : List H) → Inside (h ∷ hs) → class_alone l h hs m ≡ class_alone l h hs n
    classes_equal h hs inside =
        let outer = openings_equal hs (λ k r. inside k (laws.rights.inner_reads h hs k r)) in
        let o = opening l hs m in
        let p = opening l hs n in
        let own = opened_equal (h ∷ hs) inside o p outer in
        let o2 = opened l o (entered l (h ∷ hs) o) in
        let p2 = opened l p (entered l (h ∷ hs) p) in
        let body = finish_equal (h ∷ hs) inside o2 p2 own (l.begin_closing (h ∷ hs) o2.frames) (l.begin_closing (h ∷ hs) p2.frames) (ap (l.begin_closing (h ∷ hs)) own.frames) in
        results _ _ _ _ _ _ outer.well
        (ap (λ (j : B). l.class_result o2.frames j) body.body ∙ ap (λ (j : List F). l.class_result j (closed l (h ∷ hs) p2).body) own.frames)
        (ap l.blocked outer.frames)

    pub runs_equal : (hs : List H) → Inside hs → run_from l hs m ≡ run_from l hs n
    runs_equal [] inside = refl
    runs_equal (h ∷ hs) inside = results (l.is_test h) (l.is_test h) _ _ _ _ refl (tests_equal h hs inside) (classes_equal h hs inside)

module _ {H K V B F R : Type 0} (l : Language H K V B F R) (laws : BodyLaws l) where
  pub alone_on_rights : (hs : List H) (m : Content K V) → run_from l hs m ≡ run_alone l hs m
  alone_on_rights hs m = runs_equal l laws (l.reads hs) m (restricted (l.reads hs) m) (λ k r. sym (ap (λ (b : Bool). cond b (m k) None) r)) hs (λ k r. r)

  pub isolation : (x : Suite H K V) → SuiteLaws l x → Isolated l x
  isolation x plan n r g =
      let pos = g.nonzero in
      let kept = keeps_run l x plan laws g.workers g.events (first l x) (keeps_first l x plan laws) g.run in
      kept.done n r (λ z. let z1 : n ≡ 0 = z in omega arith) g.result ∙ alone_on_rights (chain x n) x.start

  pub unaffected : (x y : Suite H K V) → SuiteLaws l x → SuiteLaws l y → Unaffected l x y
  unaffected x y plan_x plan_y n m r q agree in_x in_y =
      isolation x plan_x n r in_x
      ∙ runs_equal l laws (l.reads (chain x n)) (restricted (l.reads (chain x n)) x.start) (restricted (l.reads (chain x n)) y.start)
      (λ k i. ap (λ (v : Option V). cond (l.reads (chain x n) k) v None) (agree.starts k i)) (chain x n) (λ k i. i)
      ∙ ap (λ (hs : List H). run_alone l hs y.start) agree.chains
      ∙ sym (isolation y plan_y m q in_y)
