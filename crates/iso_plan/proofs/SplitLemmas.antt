-- How groups of keys are split by the locks of one node more.
use Rattle.std.proofs.Common.{◌≡◌, ℕ, zero, suc, ◌+◌, ◌*◌, ◌-◌, ◌<◌, List, [], ◌∷◌, ◌++◌, drop, get_or, length, set, take, Option, Some, None, Bool, true, false, ◌&&◌, ◌==◌, cond, unwrap_or, add-one, ap, ap₂, sym, subst, ◌∙◌, inl, inr, arith, refl}
use Rattle.std.proofs.lemmas.Bool.{cases_eq}
use Rattle.std.proofs.lemmas.List.{drop_more, get_or-set_other, get_or-set_same, get_or-take, length-take-le, take-append-drop, take_more}
use Rattle.std.proofs.lemmas.List.Folds.{list_all-append, list_all_at}
use Rattle.std.specs.Option.{option_or}
use Rattle.iso_model.specs.declared.access.Access.{Access}
use Rattle.iso_model.specs.declared.access.Access.TheVariants.{Read, Write}
use Rattle.iso_plan.proofs.GroupLemmas.{alike-more, lead-is, lead-same, lowest-same, split-is}
use Rattle.iso_plan.proofs.HeldLemmas.{and-false}
use Rattle.iso_plan.proofs.MergeLemmas.{rise-drop}
use Rattle.iso_plan.proofs.PathLemmas.{eq_not, eq_same}
use Rattle.iso_plan.specs.Conflicts.{lowest}
use Rattle.iso_plan.specs.KeyGroups.{IsAsBefore, IsIdle, access_on, all_alike, lead_in, split_lead, take_alike, way_of}
use Rattle.iso_plan.specs.Paths.{column}
use Rattle.iso_plan.specs.Rising.{Rise, RiseFrom}
use Rattle.iso_plan.specs.declared.lock.Lock.{Lock}

-- how a key is taken, where it is taken so by what is left, and else as it was
abbrev pub way_after : Option Access → ℕ → ℕ
way_after None w = w
way_after (Some a) w = way_of (Some a)

pub way-start : (o : Option Access) → way_after o 0 ≡ way_of o
way-start None = refl
way-start (Some a) = refl

pub way-small : (o : Option Access) → way_of o < 3
way-small None = omega arith
way-small (Some Read) = omega arith
way-small (Some Write) = omega arith

-- later locks aren't on an earlier key
pub none-above : (k : ℕ) (ls : List Lock) (j : ℕ) → k < j → RiseFrom j ls → access_on k ls ≡ None
none-above k [] j h r = refl
none-above k (l ∷ ls) j h r =
    let low = r.0 in
    ap (λ (b : Bool). cond b (Some l.access) (access_on k ls)) (eq_not l.key k (λ same. omega arith)) ∙ none-above k ls (suc l.key) (omega arith) r.1

-- the next of some locks on different keys is noted
pub ways-next : (ls : List Lock) (i k : ℕ) (l : Lock) (ws : List ℕ) → Rise ls → i < length ls → get_or ls i l ≡ l → l.key < length ws
    → way_after (access_on k (drop (i + 1) ls)) (get_or (set ws l.key (way_of (Some l.access))) k 0) ≡ way_after (access_on k (drop i ls)) (get_or ws k 0)
ways-next ls i k l ws r h e within =
    let rest = drop (i + 1) ls in
    let next : drop i ls ≡ l ∷ rest = drop_more ls i l h ∙ ap (λ (m : Lock). m ∷ rest) e in
    let left : RiseFrom 0 (l ∷ rest) = subst (RiseFrom 0) next (rise-drop ls i 0 r) in
    let w = way_of (Some l.access) in
    elim (cases_eq l.key k) [
      | inl same ↦
          let here : get_or (set ws l.key w) k 0 ≡ w = ap (λ (j : ℕ). get_or (set ws l.key w) j 0) (sym same) ∙ get_or-set_same ws l.key w 0 within in
          let own : (l.key == k) ≡ true = ap (λ (j : ℕ). l.key == j) (sym same) ∙ eq_same l.key in
          ap₂ way_after (none-above k rest (suc l.key) (omega arith) left.1) here
          ∙ sym (ap (λ (ms : List Lock). way_after (access_on k ms) (get_or ws k 0)) next ∙ ap (λ (b : Bool). way_after (cond b (Some l.access) (access_on k rest)) (get_or ws k 0)) own)
      | inr other ↦
          ap (way_after (access_on k rest)) (get_or-set_other ws l.key k w 0 (λ same. other (sym same)))
          ∙ sym (ap (λ (ms : List Lock). way_after (access_on k ms) (get_or ws k 0)) next
          ∙ ap (λ (b : Bool). way_after (cond b (Some l.access) (access_on k rest)) (get_or ws k 0)) (eq_not l.key k other))
    ]

or_some : (o : Option ℕ) (n : ℕ) → option_or o (Some n) ≡ Some (unwrap_or o n)
or_some None n = refl
or_some (Some m) n = refl

or_none : (o : Option ℕ) → option_or o None ≡ o
or_none None = refl
or_none (Some m) = refl

pub pair-not : (a b r w : ℕ) → ((r ≡ a) × (w ≡ b) → ⊥) → (a == r && b == w) ≡ false
pair-not a b r w f =
    elim (cases_eq a r) [
      | inl same ↦ ap (λ (t : Bool). (a == r) && t) (eq_not b w (λ e. f (sym same, sym e))) ∙ and-false (a == r)
      | inr other ↦ ap (λ (t : Bool). t && b == w) (eq_not a r other)
    ]

pub pair-own : (a b : ℕ) → (a == a && b == b) ≡ true
pair-own a b = ap₂ (λ (p q : Bool). p && q) (eq_same a) (eq_same b)

-- the first key of each group that is taken in each way
module _ (groups ways : ℕ → ℕ) (most : ℕ) where
  abbrev is_pair : ℕ → ℕ → ℕ → Bool
  is_pair r w j = groups j == r && ways j == w

  firsts_here : (firsts : List (Option ℕ)) (n own way : ℕ) → own < most → way < 3 → length firsts ≡ 3 * most → get_or firsts (3 * own + way) None ≡ lowest (is_pair own way) n
      → is_pair own way n ≡ true → get_or (set firsts (3 * own + way) (Some (unwrap_or (get_or firsts (3 * own + way) None) n))) (3 * own + way) None ≡ lowest (is_pair own way) (n + 1)
  firsts_here firsts n own way ho hw size at passes =
      let within : 3 * own + way < length firsts = omega arith in
      get_or-set_same firsts (3 * own + way) (Some (unwrap_or (get_or firsts (3 * own + way) None) n)) None within
      ∙ ap (λ (o : Option ℕ). Some (unwrap_or o n)) at
      ∙ sym (or_some (lowest (is_pair own way) n) n)
      ∙ ap (λ (b : Bool). option_or (lowest (is_pair own way) n) (cond b (Some n) None)) (sym passes)
      ∙ ap (lowest (is_pair own way)) (sym (add-one n))

  firsts_there : (firsts : List (Option ℕ)) (n own way r w : ℕ) (v : Option ℕ) → way < 3 → w < 3 → ((r ≡ own) × (w ≡ way) → ⊥) → get_or firsts (3 * r + w) None ≡ lowest (is_pair r w) n
      → is_pair r w n ≡ false → get_or (set firsts (3 * own + way) v) (3 * r + w) None ≡ lowest (is_pair r w) (n + 1)
  firsts_there firsts n own way r w v hv hw apart at fails =
      get_or-set_other firsts (3 * own + way) (3 * r + w) v None (λ same. apart (omega arith, omega arith)) ∙ at
      ∙ sym (or_none (lowest (is_pair r w) n))
      ∙ ap (λ (b : Bool). option_or (lowest (is_pair r w) n) (cond b (Some n) None)) (sym fails)
      ∙ ap (lowest (is_pair r w)) (sym (add-one n))

  -- after one key more
  pub firsts-next : (firsts : List (Option ℕ)) (n : ℕ) → groups n < most → ways n < 3 → length firsts ≡ 3 * most
      → ((r w : ℕ) → r < most → w < 3 → get_or firsts (3 * r + w) None ≡ lowest (is_pair r w) n) → (r w : ℕ) → r < most → w < 3
      → get_or (set firsts (3 * groups n + ways n) (Some (unwrap_or (get_or firsts (3 * groups n + ways n) None) n))) (3 * r + w) None ≡ lowest (is_pair r w) (n + 1)
  firsts-next firsts n ho hv size each r w hr hw =
      let own = groups n in
      let way = ways n in
      let v : Option ℕ = Some (unwrap_or (get_or firsts (3 * own + way) None) n) in
      elim (cases_eq r own) [
        | inl one ↦ elim (cases_eq w way) [
          | inl two ↦ rw (one, two) (firsts_here firsts n own way ho hv size (each own way ho hv) (pair-own own way))
          | inr other ↦ firsts_there firsts n own way r w v hv hw (λ e. other e.1) (each r w hr hw) (pair-not own way r w (λ e. other e.1))
        ]
        | inr other ↦ firsts_there firsts n own way r w v hv hw (λ e. other e.0) (each r w hr hw) (pair-not own way r w (λ e. other e.0))
      ]

bool_same : (a b : Bool) → (b ≡ true → a ≡ true) → (b && a) ≡ b
bool_same a true f = f refl
bool_same a false f = refl

taken_alike : (lists : List (List Lock)) (m i j : ℕ) → m < length lists → all_alike lists i j ≡ true → take_alike (get_or lists m []) i j ≡ true
taken_alike lists m i j h all =
    elim (take_alike (get_or lists m []) i j) as (λ b. take_alike (get_or lists m []) i j ≡ b → take_alike (get_or lists m []) i j ≡ true) [
      | true ↦ λ e. e
      | false ↦ λ e. let other : all_alike lists i j ≡ false = list_all_at (λ (ls : List Lock). take_alike ls i j) lists m [] h e in absurd (cc)
    ] refl

-- a node without locks splits no group
pub idle-empty : (lists : List (List Lock)) (n : ℕ) → get_or lists n [] ≡ [] → IsIdle lists n
idle-empty lists n e = λ i j all. ap (λ (ls : List Lock). take_alike ls i j) e

-- nor does one with the locks of the node before it
pub idle-again : (lists : List (List Lock)) (n : ℕ) → n < length lists → IsAsBefore lists n → IsIdle lists n
idle-again lists n h before = λ i j all.
    let later = before.later in
    let m = n - 1 in
    let inside : m < length (take n lists) = rw (length-take-le n lists (omega arith)) (omega arith) in
    let here : get_or (take n lists) m [] ≡ get_or lists n [] = get_or-take n lists m [] (omega arith) ∙ before.same in
    ap (λ (ls : List Lock). take_alike ls i j) (sym here) ∙ taken_alike (take n lists) m i j inside all

pub column-same : {A : Type 0} (f g : ℕ → A) (n : ℕ) → ((k : ℕ) → k < n → f k ≡ g k) → column f n ≡ column g n
column-same f g zero h = refl
column-same f g (suc n) h = ap₂ (λ xs x. xs ++ x ∷ []) (column-same f g n (λ k l. h k (omega arith))) (h n (omega arith))

-- the leads of lists before one that splits no group are those of all
pub idle-is : (lists : List (List Lock)) (n keys : ℕ) → n < length lists → IsIdle lists n → column (lead_in (take n lists)) keys ≡ column (lead_in (take (n + 1) lists)) keys
idle-is lists n keys h idle =
    column-same (lead_in (take n lists)) (lead_in (take (n + 1) lists)) keys
    (λ k l.
    ap (λ (o : Option ℕ). unwrap_or o k) (lowest-same (all_alike (take n lists) k) (all_alike (take n lists ++ get_or lists n [] ∷ []) k) k
    (λ j m. sym (alike-more (take n lists) (get_or lists n []) k j ∙ bool_same (take_alike (get_or lists n []) k j) (all_alike (take n lists) k j) (idle k j))))
    ∙ ap (λ (ls : List (List Lock)). lead_in ls k) (sym (take_more lists n [] h)))

-- and those of one more come by a split
pub split-next : (leads : List ℕ) (lists : List (List Lock)) (n keys : ℕ) → n < length lists → leads ≡ column (lead_in (take n lists)) keys
    → column (split_lead leads (get_or lists n [])) keys ≡ column (lead_in (take (n + 1) lists)) keys
split-next leads lists n keys h e =
    column-same (split_lead leads (get_or lists n [])) (lead_in (take (n + 1) lists)) keys
    (λ k l. split-is leads (take n lists) (get_or lists n []) keys k e l ∙ ap (λ (ls : List (List Lock)). lead_in ls k) (sym (take_more lists n [] h)))

first_of : (a b : Bool) → (a && b) ≡ true → a ≡ true
first_of true b h = refl
first_of false b h = h

-- a key that is its own lead for some lists is so for more
own_more : (xs ys : List (List Lock)) (k : ℕ) → lead_in xs k ≡ k → lead_in (xs ++ ys) k ≡ k
own_more xs ys k own =
    let all = lead-is (xs ++ ys) k in
    let m = lead_in (xs ++ ys) k in
    let some : all_alike xs k m ≡ true = first_of (all_alike xs k m) (all_alike ys k m) (sym (list_all-append (λ (ls : List Lock). take_alike ls k m) xs ys) ∙ all.like) in
    let same : lead_in xs k ≡ lead_in xs m = lead-same xs k m some in
    let low = (lead-is xs m).le in
    let high = all.le in
    omega arith

-- where each key is its own lead for the first of some lists, it is so for all
pub own-is : (lists : List (List Lock)) (n keys : ℕ) → ((k : ℕ) → k < keys → lead_in (take n lists) k ≡ k) → column (lead_in (take n lists)) keys ≡ column (lead_in lists) keys
own-is lists n keys own =
    column-same (lead_in (take n lists)) (lead_in lists) keys
    (λ k h. own k h ∙ sym (own_more (take n lists) (drop n lists) k (own k h)) ∙ ap (λ (ls : List (List Lock)). lead_in ls k) (take-append-drop n lists))
