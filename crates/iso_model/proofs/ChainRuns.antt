-- Openings, tests and classes change no key and look at none that their chain doesn't declare so.
use Rattle.std.proofs.Common.{◌≡◌, ℕ, List, [], ◌∷◌, ◌++◌, length, take, drop, Bool, true, false, cond, Option, Some, None, refl, sym, ap, ◌∙◌, subst, true≢false}
use Rattle.std.specs.List.{list_all}
use Rattle.iso_model.specs.ChainAgreement.{EqualAt, LooksWithin, Alike, AlikeOpenings, AlikeBodies, TestsAgree, ClassesAgree}
use Rattle.iso_model.specs.Alone.{after_all, barred, test_outcome, class_outcome, test_from, class_from, test_alone, class_alone}
use Rattle.iso_model.specs.Blocks.{block}
use Rattle.iso_model.specs.Chains.{ClassHead, TestHead, class_rights, test_rights}
use Rattle.iso_model.specs.Disabled.{acts_unless, block_unless}
use Rattle.iso_model.specs.Environments.{Environment, environment}
use Rattle.iso_model.specs.Names.{at_literals, frozen}
use Rattle.iso_model.specs.Openings.{Frame, Opening, words_of, statics_of, before_all, opened, opening}
use Rattle.iso_model.specs.Resources.{Resources, restricted}
use Rattle.iso_model.specs.Rights.{Rights, is_readable, is_writable}
use Rattle.iso_model.specs.Statements.{Local, State, is_well, with_names}
use Rattle.iso_model.specs.Syntax.{Acts}
use Rattle.iso_model.specs.Tests.{Body, seen_from, unseen_from, block_of_test, blocks_of_test, blocks_unless, where_well, before_each, after_each, begun_test, test}
use Rattle.iso_model.specs.declared.names.Sort.TheVariants.{Static}
use Rattle.iso_model.specs.declared.place.BlockName.{BlockName}
use Rattle.iso_model.specs.declared.place.BlockName.TheVariants.{Test}
use Rattle.iso_model.specs.declared.place.Lifecycle.TheVariants.{BeforeAll, AfterAll, BeforeEach, AfterEach}
use Rattle.iso_model.specs.declared.resource.Resource.{Resource}
use Rattle.iso_model.proofs.ChainAgreement.{unreadable-locked}
use Rattle.iso_model.proofs.ChainRights.{outer-within, classes-within, outer-locked, within-self, within-trans}
use Rattle.iso_model.proofs.Pairs.{run-same}
use Rattle.iso_model.proofs.Untouched.{block-untouched}
use Rattle.iso_model.specs.Blocks.{begun}

-- a block over resources that are equal at the keys of its rights
pub block-alike : (r : Rights) (acts : Acts) (env : Environment) (m n : Resources) → EqualAt r m n → Alike r (block r acts env m) (block r acts env n)
block-alike r acts env m n same =
    let both = (run-same r acts).from (begun env) m n same in
    record { here = ap (λ (l : Local). with_names (take (length env.names) l.env.names) l) both.here; resources = both.resources }

-- the same where the resources are equal at more keys than those of the block's rights: at these too they stay equal
block-within : (q r : Rights) → LooksWithin q r → (acts : Acts) (env : Environment) (m n : Resources) → EqualAt r m n → Alike r (block q acts env m) (block q acts env n)
block-within q r within acts env m n same =
    let both = block-alike q acts env m n (record { same = λ k h. same.same k (within.looks k h) }) in
    record {
      here = both.here;
      resources = record {
        same = λ k h.
            elim (is_readable (q k)) as (λ b. is_readable (q k) ≡ b → (block q acts env m).resources k ≡ (block q acts env n).resources k) [
              | true ↦ both.resources.same k
              | false ↦ λ e. let locked = unreadable-locked (q k) e in block-untouched q k locked acts env m ∙ same.same k h ∙ sym (block-untouched q k locked acts env n)
            ] refl;
      };
    }

-- the same of a block that is left out where its node is disabled
unless-within : (d : Option (List ℕ)) (q r : Rights) → LooksWithin q r → (acts : Acts) (env : Environment) (m n : Resources)
    → EqualAt r m n → Alike r (block_unless d q acts env m) (block_unless d q acts env n)
unless-within None q r within acts env m n same = block-within q r within acts env m n same
unless-within (Some reason) q r within acts env m n same = record { here = refl; resources = same }

pub block_unless-untouched : (d : Option (List ℕ)) (r : Rights) (k : List ℕ) → is_writable (r k) ≡ false
    → (acts : Acts) (env : Environment) (m : Resources) → (block_unless d r acts env m).resources k ≡ m k
block_unless-untouched None r k locked acts env m = block-untouched r k locked acts env m
block_unless-untouched (Some reason) r k locked acts env m = refl

-- no other key is changed
module _ (k : List ℕ) where
  pub before_all-untouched : (c : ClassHead) (cs : List ClassHead) (o : Opening) → is_writable (class_rights (c ∷ cs) k) ≡ false → (before_all c cs o).resources k ≡ o.resources k
  before_all-untouched c cs o locked =
      block_unless-untouched c.disabled (class_rights (c ∷ cs)) k locked c.before_all (environment (statics_of o.frames ++ at_literals Static c.statics) 0 (words_of (c ∷ cs) BeforeAll)) o.resources

  pub after_all-untouched : (c : ClassHead) (cs : List ClassHead) (o : Opening) → is_writable (class_rights (c ∷ cs) k) ≡ false → (after_all c cs o).resources k ≡ o.resources k
  after_all-untouched c cs o locked =
      block-untouched (class_rights (c ∷ cs)) k locked (acts_unless c.disabled c.after_all) (environment (statics_of o.frames) 0 (words_of (c ∷ cs) AfterAll)) o.resources

  pub opening-untouched : (cs : List ClassHead) (start : Resources) → is_writable (class_rights cs k) ≡ false → (opening cs start).resources k ≡ start k
  opening-untouched [] start locked = refl
  opening-untouched (c ∷ cs) start locked =
      let o = opening cs start in
      let outer = opening-untouched cs start (outer-locked c cs k locked) in
      elim o.well as (λ b. (cond b (opened o (before_all c cs o)) o).resources k ≡ start k) [ true ↦ before_all-untouched c cs o locked ∙ outer | false ↦ outer ]

  module _ (r : Rights) (locked : is_writable (r k) ≡ false) where
    block_of_test-untouched : (words : BlockName) (cs : List ClassHead) (acts : Acts) (b : Body) → (block_of_test r words cs acts b).resources k ≡ b.resources k
    block_of_test-untouched words cs acts b = block-untouched r k locked acts (environment (seen_from cs b.names) b.printed words) b.resources

    where_well-untouched : (f : Body → Body) → ((b : Body) → (f b).resources k ≡ b.resources k) → (b : Body) → (where_well f b).resources k ≡ b.resources k
    where_well-untouched f each b = elim (list_all is_well b.endings) as (λ t. (cond t (f b) b).resources k ≡ b.resources k) [ true ↦ each b | false ↦ refl ]

    before_each-untouched : (cs : List ClassHead) (b : Body) → (before_each r cs b).resources k ≡ b.resources k
    before_each-untouched [] b = refl
    before_each-untouched (c ∷ cs) b =
        where_well-untouched (block_of_test r (words_of (c ∷ cs) BeforeEach) (c ∷ cs) c.before_each) (block_of_test-untouched (words_of (c ∷ cs) BeforeEach) (c ∷ cs) c.before_each)
        (before_each r cs b)
        ∙ before_each-untouched cs b

    after_each-untouched : (cs : List ClassHead) (b : Body) → (after_each r cs b).resources k ≡ b.resources k
    after_each-untouched [] b = refl
    after_each-untouched (c ∷ cs) b =
        after_each-untouched cs (block_of_test r (words_of (c ∷ cs) AfterEach) (c ∷ cs) c.after_each b) ∙ block_of_test-untouched (words_of (c ∷ cs) AfterEach) (c ∷ cs) c.after_each b

  blocks-untouched : (t : TestHead) (cs : List ClassHead) (d : Body) → is_writable (test_rights t cs k) ≡ false → (blocks_of_test t cs d).resources k ≡ d.resources k
  blocks-untouched t cs d locked =
      let r = test_rights t cs in
      let b = before_each r cs d in
      after_each-untouched r locked cs (where_well (block_of_test r Test cs t.body) b)
      ∙ where_well-untouched r locked (block_of_test r Test cs t.body) (block_of_test-untouched r locked Test cs t.body) b
      ∙ before_each-untouched r locked cs d

  blocks_unless-untouched : (d : Option (List ℕ)) (f : Body → Body) (b : Body) → (f b).resources k ≡ b.resources k → (blocks_unless d f b).resources k ≡ b.resources k
  blocks_unless-untouched None f b same = same
  blocks_unless-untouched (Some reason) f b same = refl

  pub test-untouched : (t : TestHead) (cs : List ClassHead) (o : Opening) → is_writable (test_rights t cs k) ≡ false → (test t cs o).resources k ≡ o.resources k
  test-untouched t cs o locked = blocks_unless-untouched t.disabled (blocks_of_test t cs) (begun_test cs o) (blocks-untouched t cs (begun_test cs o) locked)

-- over resources that are equal at these keys, the same is done
module _ (r : Rights) where
  lifecycle-alike : (d : Option (List ℕ)) (q : Rights) → LooksWithin q r → (acts : Acts) (env : List Frame → Environment) (o p : Opening)
      → AlikeOpenings r o p → Alike r (block_unless d q acts (env o.frames) o.resources) (block_unless d q acts (env p.frames) p.resources)
  lifecycle-alike d q within acts env o p both =
      subst (λ (fs : List Frame). Alike r (block_unless d q acts (env o.frames) o.resources) (block_unless d q acts (env fs) p.resources)) both.frames
      (unless-within d q r within acts (env o.frames) o.resources p.resources both.resources)

  pub before_all-alike : (c : ClassHead) (cs : List ClassHead) → LooksWithin (class_rights (c ∷ cs)) r → (o p : Opening) → AlikeOpenings r o p → Alike r (before_all c cs o) (before_all c cs p)
  before_all-alike c cs within o p both =
      lifecycle-alike c.disabled (class_rights (c ∷ cs)) within c.before_all (λ fs. environment (statics_of fs ++ at_literals Static c.statics) 0 (words_of (c ∷ cs) BeforeAll)) o p both

  pub after_all-alike : (c : ClassHead) (cs : List ClassHead) → LooksWithin (class_rights (c ∷ cs)) r → (o p : Opening) → AlikeOpenings r o p → Alike r (after_all c cs o) (after_all c cs p)
  after_all-alike c cs within o p both = lifecycle-alike None (class_rights (c ∷ cs)) within (acts_unless c.disabled c.after_all)
      (λ fs. environment (statics_of fs) 0 (words_of (c ∷ cs) AfterAll)) o p both

  pub opened-alike : (o p : Opening) (s t : State) → AlikeOpenings r o p → Alike r s t → AlikeOpenings r (opened o s) (opened p t)
  opened-alike o p s t both after = record {
    frames = λ i. record { statics = frozen (drop (length (statics_of (both.frames i))) (after.here i).env.names); ending = (after.here i).ending; lines = (after.here i).lines } ∷ both.frames i;
    resources = after.resources;
    well = ap (λ (l : Local). is_well l.ending) after.here;
  }

  cond-alike : (b : Bool) (o p o' p' : Opening) → AlikeOpenings r o p → AlikeOpenings r o' p' → AlikeOpenings r (cond b o o') (cond b p p')
  cond-alike true o p o' p' x y = x
  cond-alike false o p o' p' x y = y

  pub opening-alike : (cs : List ClassHead) → LooksWithin (class_rights cs) r → (m n : Resources) → EqualAt r m n → AlikeOpenings r (opening cs m) (opening cs n)
  opening-alike [] within m n same = record { frames = refl; resources = same; well = refl }
  opening-alike (c ∷ cs) within m n same =
      let o = opening cs m in
      let p = opening cs n in
      let both = opening-alike cs (within-trans c cs r within) m n same in
      let next = opened-alike o p (before_all c cs o) (before_all c cs p) both (before_all-alike c cs within o p both) in
      subst (λ (b : Bool). AlikeOpenings r (cond o.well (opened o (before_all c cs o)) o) (cond b (opened p (before_all c cs p)) p)) both.well (cond-alike o.well _ _ o p next both)

  block_of_test-alike : (words : BlockName) (cs : List ClassHead) (acts : Acts) (b d : Body) → AlikeBodies r b d → AlikeBodies r (block_of_test r words cs acts b) (block_of_test r words cs acts d)
  block_of_test-alike words cs acts b d both =
      let env : Environment = environment (seen_from cs b.names) b.printed words in
      let same : env ≡ environment (seen_from cs d.names) d.printed words = λ i. environment (seen_from cs (both.names i)) (both.printed i) words in
      let after = subst (λ (e : Environment). Alike r (block r acts env b.resources) (block r acts e d.resources)) same (block-alike r acts env b.resources d.resources both.resources) in
      record {
        names = λ i. (after.here i).env.names ++ unseen_from cs (both.names i);
        resources = after.resources;
        printed = ap (λ (l : Local). l.env.printed) after.here;
        lines = λ i. both.lines i ++ (after.here i).lines;
        endings = λ i. both.endings i ++ (after.here i).ending ∷ [];
      }

  choice-alike : (t : Bool) (b d b' d' : Body) → AlikeBodies r b d → AlikeBodies r b' d' → AlikeBodies r (cond t b b') (cond t d d')
  choice-alike true b d b' d' x y = x
  choice-alike false b d b' d' x y = y

  where_well-alike : (f : Body → Body) → ((b d : Body) → AlikeBodies r b d → AlikeBodies r (f b) (f d)) → (b d : Body) → AlikeBodies r b d → AlikeBodies r (where_well f b) (where_well f d)
  where_well-alike f each b d both =
      subst (λ (t : Bool). AlikeBodies r (cond (list_all is_well b.endings) (f b) b) (cond t (f d) d)) (ap (list_all is_well) both.endings)
      (choice-alike (list_all is_well b.endings) (f b) (f d) b d (each b d both) both)

  before_each-alike : (cs : List ClassHead) (b d : Body) → AlikeBodies r b d → AlikeBodies r (before_each r cs b) (before_each r cs d)
  before_each-alike [] b d both = both
  before_each-alike (c ∷ cs) b d both =
      where_well-alike (block_of_test r (words_of (c ∷ cs) BeforeEach) (c ∷ cs) c.before_each) (block_of_test-alike (words_of (c ∷ cs) BeforeEach) (c ∷ cs) c.before_each)
      (before_each r cs b) (before_each r cs d) (before_each-alike cs b d both)

  after_each-alike : (cs : List ClassHead) (b d : Body) → AlikeBodies r b d → AlikeBodies r (after_each r cs b) (after_each r cs d)
  after_each-alike [] b d both = both
  after_each-alike (c ∷ cs) b d both = after_each-alike cs _ _ (block_of_test-alike (words_of (c ∷ cs) AfterEach) (c ∷ cs) c.after_each b d both)

blocks-alike : (t : TestHead) (cs : List ClassHead) (b d : Body) → AlikeBodies (test_rights t cs) b d → AlikeBodies (test_rights t cs) (blocks_of_test t cs b) (blocks_of_test t cs d)
blocks-alike t cs b d both =
    let r = test_rights t cs in
    after_each-alike r cs _ _ (where_well-alike r (block_of_test r Test cs t.body) (block_of_test-alike r Test cs t.body) _ _ (before_each-alike r cs _ _ both))

blocks_unless-alike : (r : Rights) (e : Option (List ℕ)) (f : Body → Body) (b d : Body) → AlikeBodies r b d → AlikeBodies r (f b) (f d) → AlikeBodies r (blocks_unless e f b) (blocks_unless e f d)
blocks_unless-alike r None f b d both each = each
blocks_unless-alike r (Some reason) f b d both each = record { names = both.names; resources = both.resources; printed = both.printed; lines = both.lines; endings = refl }

pub test-alike : (t : TestHead) (cs : List ClassHead) (o p : Opening) → AlikeOpenings (test_rights t cs) o p → AlikeBodies (test_rights t cs) (test t cs o) (test t cs p)
test-alike t cs o p both =
    let r = test_rights t cs in
    let begun : AlikeBodies r (begun_test cs o) (begun_test cs p) =
    record { names = ap (λ (fs : List Frame). (begun_test cs (record o { frames = fs })).names) both.frames; resources = both.resources; printed = refl; lines = refl; endings = refl } in
    blocks_unless-alike r t.disabled (blocks_of_test t cs) _ _ begun (blocks-alike t cs _ _ begun)

-- the outcomes are equal
class_outcome-same : (fs : List Frame) (s t : State) → s.here ≡ t.here → class_outcome fs s ≡ class_outcome fs t
class_outcome-same [] s t e = ap (λ (l : Local). class_outcome [] (record s { here = l })) e
class_outcome-same (f ∷ fs) s t e = ap (λ (l : Local). class_outcome (f ∷ fs) (record s { here = l })) e

pub test_from-same : (t : TestHead) (cs : List ClassHead) (m n : Resources) → EqualAt (test_rights t cs) m n → test_from t cs m ≡ test_from t cs n
test_from-same t cs m n same =
    let o = opening cs m in
    let p = opening cs n in
    let both = opening-alike (test_rights t cs) cs (classes-within t cs) m n same in
    let after = test-alike t cs o p both in
    let outcome : test_outcome (test t cs o) ≡ test_outcome (test t cs p) = λ i. test_outcome (record (test t cs o) { lines = after.lines i; endings = after.endings i }) in
    λ i. cond (both.well i) (outcome i) (barred (both.frames i))

pub class_from-same : (c : ClassHead) (cs : List ClassHead) (m n : Resources) → EqualAt (class_rights (c ∷ cs)) m n → class_from c cs m ≡ class_from c cs n
class_from-same c cs m n same =
    let r = class_rights (c ∷ cs) in
    let o = opening cs m in
    let p = opening cs n in
    let both = opening-alike r cs (outer-within c cs) m n same in
    let o' = opened o (before_all c cs o) in
    let p' = opened p (before_all c cs p) in
    let next : AlikeOpenings r o' p' = opened-alike r o p (before_all c cs o) (before_all c cs p) both (before_all-alike r c cs (within-self c cs) o p both) in
    let after = after_all-alike r c cs (within-self c cs) o' p' next in
    let outcome : class_outcome o'.frames (after_all c cs o') ≡ class_outcome p'.frames (after_all c cs p') =
    ap (λ (fs : List Frame). class_outcome fs (after_all c cs o')) next.frames ∙ class_outcome-same p'.frames (after_all c cs o') (after_all c cs p') after.here in
    λ i. cond (both.well i) (outcome i) (barred (both.frames i))

restricted-equal_at : (b : Bool) (x : Option Resource) → b ≡ true → x ≡ cond b x None
restricted-equal_at true x e = refl
restricted-equal_at false x e = absurd (true≢false (sym e))

-- restricted resources are the same at the keys that may be looked at
restricted-equal : (r : Rights) (m : Resources) → EqualAt r m (restricted r m)
restricted-equal r m = record { same = λ k h. restricted-equal_at (is_readable (r k)) (m k) h }

pub test_from-restricted : (t : TestHead) (cs : List ClassHead) (start : Resources) → test_from t cs start ≡ test_from t cs (restricted (test_rights t cs) start)
test_from-restricted t cs start = test_from-same t cs start _ (restricted-equal (test_rights t cs) start)

pub class_from-restricted : (c : ClassHead) (cs : List ClassHead) (start : Resources) → class_from c cs start ≡ class_from c cs (restricted (class_rights (c ∷ cs)) start)
class_from-restricted c cs start = class_from-same c cs start _ (restricted-equal (class_rights (c ∷ cs)) start)

restricted-same_at : (b : Bool) (x y : Option Resource) → (b ≡ true → x ≡ y) → cond b x None ≡ cond b y None
restricted-same_at true x y same = same refl
restricted-same_at false x y same = refl

-- restricted to keys at which they are equal, two starts are one
restricted-same : (r : Rights) (m n : Resources) → EqualAt r m n → restricted r m ≡ restricted r n
restricted-same r m n same = λ i k. restricted-same_at (is_readable (r k)) (m k) (n k) (same.same k) i

-- agreeing tests, and classes, have equal outcomes: the arguments are equal
pub tests-agree : (t : TestHead) (cs : List ClassHead) (m : Resources) (u : TestHead) (ds : List ClassHead) (n : Resources) → TestsAgree t cs m u ds n → test_alone t cs m ≡ test_alone u ds n
tests-agree t cs m u ds n agree =
    ap (λ (start : Resources). test_from t cs start) (restricted-same (test_rights t cs) m n agree.starts) ∙ (λ i. test_alone (agree.head i) (agree.classes i) n)

pub classes-agree : (c : ClassHead) (cs : List ClassHead) (m : Resources) (d : ClassHead) (ds : List ClassHead) (n : Resources) → ClassesAgree c cs m d ds n → class_alone c cs m ≡ class_alone d ds n
classes-agree c cs m d ds n agree =
    ap (λ (start : Resources). class_from c cs start) (restricted-same (class_rights (c ∷ cs)) m n agree.starts) ∙ (λ i. class_alone (agree.head i) (agree.classes i) n)
