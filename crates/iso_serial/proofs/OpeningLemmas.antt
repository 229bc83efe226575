-- What openings leave, by the node that they are of.
use Rattle.std.proofs.Common.{◌≡◌, ℕ, ◌<◌, List, [], ◌∷◌, ◌++◌, Option, None, Some, Bool, true, false, cond, bytes_eq, nat_eq, refl, sym, ap, ◌∙◌, subst, length}
use Rattle.std.specs.List.{starts_with}
use Rattle.iso_lifecycle.specs.Subjects.{begun, begun_opening, first_frame, opening_of, own_frame, rights_of_subject, started, subject}
use Rattle.iso_lifecycle.specs.declared.kind.BodyKind.TheVariants.{BeforeAll}
use Rattle.iso_model.proofs.BodyRuns.{opening-finish}
use Rattle.iso_model.proofs.ChainRuns.{before_all-untouched, opening-untouched}
use Rattle.iso_model.proofs.Untouched.{block-kinds}
use Rattle.iso_model.specs.Bodies.{body_finished}
use Rattle.iso_model.specs.Changes.{kind_at}
use Rattle.iso_model.specs.Chains.{ClassHead, class_rights}
use Rattle.iso_model.specs.ResourceKeys.{file_prefix, locale_key, properties_key}
use Rattle.iso_model.specs.Openings.{Opening, before_all, opened, opening, statics_of, words_of}
use Rattle.iso_model.specs.Disabled.{block_unless}
use Rattle.iso_model.specs.Environments.{Environment, environment}
use Rattle.iso_model.specs.Resources.{Resources}
use Rattle.iso_model.specs.Syntax.{Acts}
use Rattle.iso_model.specs.Names.{at_literals}
use Rattle.iso_model.specs.declared.names.Sort.TheVariants.{Static}
use Rattle.iso_model.specs.declared.place.Lifecycle.TheVariants as Lifecycle
use Rattle.iso_model.specs.Rights.{Rights, is_writable}
use Rattle.iso_model.specs.Statements.{is_well}
use Rattle.iso_model.specs.Touch.{kind_of_key, kind_of_value}
use Rattle.iso_plan.proofs.PathLemmas.{chain-step}
use Rattle.iso_plan.specs.NodeChains.{chain_classes, class_heads, rights_with}
use Rattle.iso_plan.specs.Paths.{IsTree, is_class_or_test, is_test, parent, row_at}
use Rattle.iso_plan.specs.Planned.{Planned}
use Rattle.iso_plan.specs.RowView.{tree_of}
use Rattle.iso_plan.specs.Tree as T
use Rattle.iso_plan.specs.Tree.{root, class_node, test_node}
use Rattle.iso_settings.specs.Worlds.{Start, starting_value_in}

rights-of-heads : (kind : T.Kind) (cs : List ClassHead) → is_test kind ≡ false → rights_with kind cs ≡ class_rights cs
rights-of-heads root cs e = refl
rights-of-heads (class_node isolated head) cs e = refl
rights-of-heads (test_node head) cs e = absurd (cc)

-- a key that a class may not change stands at its start in its opening
pub opening-start : (plan : Planned) (world : Start) (p : ℕ) (k : List ℕ) → is_test (row_at (tree_of plan) p).kind ≡ false → is_writable (rights_of_subject (subject plan world p) k) ≡ false
    → (opening_of (subject plan world p)).resources k ≡ Some (starting_value_in world k)
opening-start plan world p k e locked =
    let tree = tree_of plan in
    opening-untouched k (chain_classes tree p) (started world)
    (ap (λ (r : Rights). is_writable (r k)) (sym (rights-of-heads (row_at tree p).kind (chain_classes tree p) e)) ∙ locked)

-- a class's opening is that of the classes around it with its own `before_all`
pub record IsOpened (plan : Planned) (world : Start) (n : ℕ) : Type 0 where
  pub head : ClassHead
  pub chain : chain_classes (tree_of plan) n ≡ head ∷ chain_classes (tree_of plan) (parent (tree_of plan) n)
  pub rights : rights_of_subject (subject plan world n) ≡ class_rights (head ∷ chain_classes (tree_of plan) (parent (tree_of plan) n))
  pub is : opening_of (subject plan world n)
      ≡ opened (opening_of (subject plan world (parent (tree_of plan) n)))
      (before_all head (chain_classes (tree_of plan) (parent (tree_of plan) n)) (opening_of (subject plan world (parent (tree_of plan) n))))

record HasHead (kind : T.Kind) : Type 0 where
  pub head : ClassHead
  pub is : class_heads kind ≡ head ∷ []

has-head : (kind : T.Kind) → is_test kind ≡ false → is_class_or_test kind ≡ true → HasHead kind
has-head root e c = absurd (cc)
has-head (class_node isolated head) e c = record { head = head; is = refl }
has-head (test_node head) e c = absurd (cc)

pub opened-by : (plan : Planned) (world : Start) (n : ℕ) → IsTree (tree_of plan) → 0 < n → n < length (tree_of plan) → is_test (row_at (tree_of plan) n).kind ≡ false
    → (opening_of (subject plan world (parent (tree_of plan) n))).well ≡ true → IsOpened plan world n
opened-by plan world n t pos within e well =
    let tree = tree_of plan in
    let cs = chain_classes tree (parent tree n) in
    let o = opening_of (subject plan world (parent tree n)) in
    let h = has-head (row_at tree n).kind e (t.full n pos within) in
    let chain : chain_classes tree n ≡ h.head ∷ cs = chain-step tree t.below n pos ∙ ap (λ (hs : List ClassHead). hs ++ cs) h.is in
    record {
      head = h.head;
      chain = chain;
      rights = rights-of-heads (row_at tree n).kind (chain_classes tree n) e ∙ ap class_rights chain;
      is = ap (λ (hs : List ClassHead). opening hs (started world)) chain ∙ ap (λ (b : Bool). cond b (opened o (before_all h.head cs o)) o) well;
    }

-- its opening leaves what its class may not change
pub opened-apart : (plan : Planned) (world : Start) (n : ℕ) (k : List ℕ) → IsOpened plan world n → is_writable (rights_of_subject (subject plan world n) k) ≡ false
    → (opening_of (subject plan world n)).resources k ≡ (opening_of (subject plan world (parent (tree_of plan) n))).resources k
opened-apart plan world n k is locked =
    let cs = chain_classes (tree_of plan) (parent (tree_of plan) n) in
    let o = opening_of (subject plan world (parent (tree_of plan) n)) in
    ap (λ (p : Opening). p.resources k) is.is ∙ before_all-untouched k is.head cs o (ap (λ (r : Rights). is_writable (r k)) (sym is.rights) ∙ locked)

-- and ended well where its `before_all` did
pub opened-well : (plan : Planned) (world : Start) (n : ℕ) → IsOpened plan world n → (opening_of (subject plan world n)).well ≡ is_well (own_frame (subject plan world n)).ending
opened-well plan world n is =
    let P : Opening → Type 0 = λ o. o.well ≡ is_well (first_frame o.frames).ending in
    subst P (sym is.is) refl

-- the whole body of a `before_all` leaves what the opening does
pub opened-whole : (plan : Planned) (world : Start) (n : ℕ) → IsOpened plan world n
    → (body_finished (rights_of_subject (subject plan world n)) (begun BeforeAll (subject plan world n))).resources ≡ (opening_of (subject plan world n)).resources
opened-whole plan world n is =
    let cs = chain_classes (tree_of plan) (parent (tree_of plan) n) in
    let o = opening_of (subject plan world (parent (tree_of plan) n)) in
    ap (λ (r : Rights). (body_finished r (begun_opening (chain_classes (tree_of plan) n) o)).resources) is.rights
    ∙ ap (λ (hs : List ClassHead). (body_finished (class_rights (is.head ∷ cs)) (begun_opening hs o)).resources) is.chain
    ∙ ap (λ b. b.resources) (opening-finish is.head cs o)
    ∙ sym (ap (λ (p : Opening). p.resources) is.is)

start-by : (world : Start) (k : List ℕ) (a b c : Bool) → bytes_eq k properties_key ≡ a → bytes_eq k locale_key ≡ b
    → starts_with nat_eq k file_prefix ≡ c → kind_of_value (starting_value_in world k) ≡ kind_of_key k
start-by world k true b c ea eb ec = rw ea refl
start-by world k false true c ea eb ec = rw (ea, eb) refl
start-by world k false false true ea eb ec = rw (ea, eb, ec) refl
start-by world k false false false ea eb ec = rw (ea, eb, ec) refl

-- a value that a world starts with is of its key's kind
pub start-kind : (world : Start) (k : List ℕ) → kind_of_value (starting_value_in world k) ≡ kind_of_key k
start-kind world k = start-by world k (bytes_eq k properties_key) (bytes_eq k locale_key) (starts_with nat_eq k file_prefix) refl refl refl

-- a block keeps the kinds of resources, also where it is left out
kinds-unless : (d : Option (List ℕ)) (r : Rights) (k : List ℕ) (acts : Acts) (env : Environment) (m : Resources) → kind_at (block_unless d r acts env m).resources k ≡ kind_at m k
kinds-unless None r k acts env m = block-kinds r k acts env m
kinds-unless (Some reason) r k acts env m = refl

opening-kinds : (world : Start) (k : List ℕ) (cs : List ClassHead) → kind_at (opening cs (started world)).resources k ≡ Some (kind_of_key k)
opening-kinds world k [] = ap Some (start-kind world k)
opening-kinds world k (c ∷ cs) =
    let o = opening cs (started world) in
    let ih = opening-kinds world k cs in
    elim o.well as (λ b. kind_at (cond b (opened o (before_all c cs o)) o).resources k ≡ Some (kind_of_key k)) [
      | true ↦ kinds-unless c.disabled (class_rights (c ∷ cs)) k c.before_all (environment (statics_of o.frames ++ at_literals Static c.statics) 0 (words_of (c ∷ cs) Lifecycle.BeforeAll))
          o.resources ∙ ih
      | false ↦ ih
    ]

-- what an opening leaves at a key is of the key's kind
pub opening-kind : (plan : Planned) (world : Start) (p : ℕ) (k : List ℕ) → kind_at (opening_of (subject plan world p)).resources k ≡ Some (kind_of_key k)
opening-kind plan world p k = opening-kinds world k (chain_classes (tree_of plan) p)
