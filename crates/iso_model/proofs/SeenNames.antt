-- The names of a test outlast its blocks, and the first of them are those of its outer classes.
use Rattle.std.proofs.Common.{◌≡◌, ◌+◌, List, [], ◌∷◌, ◌++◌, length, map, take, drop, append_assoc, ℕ, Option, Some, None, Bool, true, false, cond, refl, sym, ap, ◌∙◌, arith}
use Rattle.std.proofs.lemmas.List.{map-append, length-append, length-map, length-drop, take-append-drop}
use Rattle.std.proofs.Math.Seq.{take-append_seam, take-length}
use Rattle.std.specs.List.{list_all}
use Rattle.iso_model.specs.Changes.{lasting}
use Rattle.iso_model.specs.Chains.{ClassHead, TestHead, class_rights, test_rights}
use Rattle.iso_model.specs.Disabled.{block_unless}
use Rattle.iso_model.specs.Environments.{Environment, environment}
use Rattle.iso_model.specs.Names.{bound, at_literals, frozen}
use Rattle.iso_model.specs.Openings.{Frame, Opening, words_of, statics_of, before_all, opened, opening}
use Rattle.iso_model.specs.Resources.{Resources}
use Rattle.iso_model.specs.Rights.{Rights}
use Rattle.iso_model.specs.Statements.{is_well}
use Rattle.iso_model.specs.Syntax.{Acts}
use Rattle.iso_model.specs.Tests.{Body, test_names, names_in, seen_from, unseen_from, block_of_test, blocks_of_test, blocks_unless, where_well, before_each, after_each, begun_test, test}
use Rattle.iso_model.specs.declared.heads.Variable.{Variable}
use Rattle.iso_model.specs.declared.names.Binding.{Binding}
use Rattle.iso_model.specs.declared.names.Sort.TheVariants.{Static, Frozen, Field}
use Rattle.iso_model.specs.declared.place.BlockName.{BlockName}
use Rattle.iso_model.specs.declared.place.BlockName.TheVariants.{Test}
use Rattle.iso_model.specs.declared.place.Lifecycle.TheVariants.{BeforeAll, BeforeEach, AfterEach}
use Rattle.iso_model.proofs.LastingNames.{block-lasts, block-length}

-- the names last
module _ (r : Rights) where
  block_of_test-lasts : (words : BlockName) (cs : List ClassHead) (acts : Acts) (b : Body) → map lasting (block_of_test r words cs acts b).names ≡ map lasting b.names
  block_of_test-lasts words cs acts b =
      let seen = seen_from cs b.names in
      let unseen = unseen_from cs b.names in
      map-append lasting _ unseen
      ∙ ap (λ ls. ls ++ map lasting unseen) (block-lasts r acts (environment seen b.printed words) b.resources)
      ∙ sym (map-append lasting seen unseen)
      ∙ ap (map lasting) (take-append-drop (names_in cs) b.names)

  where_well-lasts : (f : Body → Body) → ((b : Body) → map lasting (f b).names ≡ map lasting b.names) → (b : Body) → map lasting (where_well f b).names ≡ map lasting b.names
  where_well-lasts f each b = elim (list_all is_well b.endings) as (λ t. map lasting (cond t (f b) b).names ≡ map lasting b.names) [ true ↦ each b | false ↦ refl ]

  before_each-lasts : (cs : List ClassHead) (b : Body) → map lasting (before_each r cs b).names ≡ map lasting b.names
  before_each-lasts [] b = refl
  before_each-lasts (c ∷ cs) b =
      where_well-lasts (block_of_test r (words_of (c ∷ cs) BeforeEach) (c ∷ cs) c.before_each) (block_of_test-lasts (words_of (c ∷ cs) BeforeEach) (c ∷ cs) c.before_each) (before_each r cs b)
      ∙ before_each-lasts cs b

  after_each-lasts : (cs : List ClassHead) (b : Body) → map lasting (after_each r cs b).names ≡ map lasting b.names
  after_each-lasts [] b = refl
  after_each-lasts (c ∷ cs) b =
      after_each-lasts cs (block_of_test r (words_of (c ∷ cs) AfterEach) (c ∷ cs) c.after_each b) ∙ block_of_test-lasts (words_of (c ∷ cs) AfterEach) (c ∷ cs) c.after_each b

blocks-last : (t : TestHead) (cs : List ClassHead) (d : Body) → map lasting (blocks_of_test t cs d).names ≡ map lasting d.names
blocks-last t cs d =
    let r = test_rights t cs in
    let b = before_each r cs d in
    after_each-lasts r cs (where_well (block_of_test r Test cs t.body) b)
    ∙ where_well-lasts r (block_of_test r Test cs t.body) (block_of_test-lasts r Test cs t.body) b
    ∙ before_each-lasts r cs d

blocks_unless-lasts : (e : Option (List ℕ)) (f : Body → Body) (b : Body) → map lasting (f b).names ≡ map lasting b.names → map lasting (blocks_unless e f b).names ≡ map lasting b.names
blocks_unless-lasts None f b same = same
blocks_unless-lasts (Some reason) f b same = refl

pub test-lasts : (t : TestHead) (cs : List ClassHead) (o : Opening) → map lasting (test t cs o).names ≡ map lasting (test_names cs o.frames)
test-lasts t cs o = blocks_unless-lasts t.disabled (blocks_of_test t cs) (begun_test cs o) (blocks-last t cs (begun_test cs o))

-- a block that is left out leaves all names too
pub block_unless-length : (d : Option (List ℕ)) (r : Rights) (acts : Acts) (env : Environment) (m : Resources) → length (block_unless d r acts env m).here.env.names ≡ length env.names
block_unless-length None r acts env m = block-length r acts env m
block_unless-length (Some reason) r acts env m = refl

-- where an opening ended well, that of the enclosing classes did
outer-well_at : (c : ClassHead) (cs : List ClassHead) (o : Opening) (b : Bool) → o.well ≡ b → (cond b (opened o (before_all c cs o)) o).well ≡ true → b ≡ true
outer-well_at c cs o true e well = refl
outer-well_at c cs o false e well = sym e ∙ well

pub outer-well : (c : ClassHead) (cs : List ClassHead) (start : Resources) → (opening (c ∷ cs) start).well ≡ true → (opening cs start).well ≡ true
outer-well c cs start well = outer-well_at c cs (opening cs start) (opening cs start).well refl well

pub opening-opened : (c : ClassHead) (cs : List ClassHead) (start : Resources) → (opening cs start).well ≡ true
    → opening (c ∷ cs) start ≡ opened (opening cs start) (before_all c cs (opening cs start))
opening-opened c cs start well = ap (λ (b : Bool). cond b (opened (opening cs start) (before_all c cs (opening cs start))) (opening cs start)) well

-- a frame has as many statics as its class
before_all-length : (c : ClassHead) (cs : List ClassHead) (o : Opening) → length (before_all c cs o).here.env.names ≡ length (statics_of o.frames) + length c.statics
before_all-length c cs o =
    let statics = statics_of o.frames in
    block_unless-length c.disabled (class_rights (c ∷ cs)) c.before_all (environment (statics ++ at_literals Static c.statics) 0 (words_of (c ∷ cs) BeforeAll)) o.resources
    ∙ length-append statics (at_literals Static c.statics)
    ∙ ap (λ n. length statics + n) (length-map c.statics (λ (v : Variable). bound Static v.name v.value))

own_statics-length : (c : ClassHead) (cs : List ClassHead) (o : Opening) → length (frozen (drop (length (statics_of o.frames)) (before_all c cs o).here.env.names)) ≡ length c.statics
own_statics-length c cs o =
    let names = (before_all c cs o).here.env.names in
    let n = length (statics_of o.frames) in
    let all = before_all-length c cs o in
    let rest = length-drop n names in
    length-map (drop n names) (λ (b : Binding). bound Frozen b.name b.value) ∙ omega (arith, all, rest)

test_names-length_of : (c : ClassHead) (cs : List ClassHead) (f : Frame) (fs : List Frame) → length (test_names cs fs) ≡ names_in cs
    → length f.statics ≡ length c.statics → length (test_names (c ∷ cs) (f ∷ fs)) ≡ names_in (c ∷ cs)
test_names-length_of c cs f fs outer own =
    let fields = at_literals Field c.fields in
    length-append (test_names cs fs ++ f.statics) fields
    ∙ ap (λ n. n + length fields) (length-append (test_names cs fs) f.statics)
    ∙ (λ i. outer i + own i + length-map c.fields (λ (v : Variable). bound Field v.name v.value) i)

pub test_names-length : (cs : List ClassHead) (start : Resources) → (opening cs start).well ≡ true → length (test_names cs (opening cs start).frames) ≡ names_in cs
test_names-length [] start well = refl
test_names-length (c ∷ cs) start well =
    let o = opening cs start in
    let outer = outer-well c cs start well in
    let s = before_all c cs o in
    let f : Frame = record { statics = frozen (drop (length (statics_of o.frames)) s.here.env.names); ending = s.here.ending; lines = s.here.lines } in
    ap (λ (p : Opening). length (test_names (c ∷ cs) p.frames)) (opening-opened c cs start outer)
    ∙ test_names-length_of c cs f o.frames (test_names-length cs start outer) (own_statics-length c cs o)

-- all names are seen by a block of the innermost class
pub seen-own : (cs : List ClassHead) (start : Resources) → (opening cs start).well ≡ true → let names = test_names cs (opening cs start).frames in seen_from cs names ≡ names
seen-own cs start well =
    let names = test_names cs (opening cs start).frames in
    ap (λ n. take n names) (sym (test_names-length cs start well)) ∙ take-length names

-- and those of the enclosing classes by a block of these
pub seen-enclosing : (c : ClassHead) (cs : List ClassHead) (start : Resources) → (opening (c ∷ cs) start).well ≡ true
    → seen_from cs (test_names (c ∷ cs) (opening (c ∷ cs) start).frames) ≡ test_names cs (opening cs start).frames
seen-enclosing c cs start well =
    let o = opening cs start in
    let outer = outer-well c cs start well in
    let names = test_names cs o.frames in
    let statics = frozen (drop (length (statics_of o.frames)) (before_all c cs o).here.env.names) in
    let fields = at_literals Field c.fields in
    ap (λ (p : Opening). seen_from cs (test_names (c ∷ cs) p.frames)) (opening-opened c cs start outer)
    ∙ ap (λ n. take n (names ++ statics ++ fields)) (sym (test_names-length cs start outer))
    ∙ ap (take (length names)) (append_assoc names statics fields)
    ∙ take-append_seam names (statics ++ fields)
