-- Marks that are merged declare what they declare as they are written: the same access of each key for each target, and the same keys.
use Rattle.std.proofs.Common.{◌≡◌, ℕ, List, [], ◌∷◌, ◌++◌, Option, Some, None, Bool, true, false, ◌&&◌, cond, map, refl, sym, ap, ap₂, ◌∙◌, append_assoc, append-nil, bytes_eq}
use Rattle.std.proofs.lemmas.List.{map-append}
use Rattle.std.proofs.lemmas.List.Sums.{fold-append}
use Rattle.std.specs.Bool.{if◌then◌else◌}
use Rattle.std.specs.Cmp.Lexicographic.{bytes_decides}
use Rattle.std.specs.List.{list_any}
use Rattle.indexmap.specs.IndexSet.{insert_all, insert_key}
use Rattle.iso_model.proofs.RightsLemmas.{rights_of-append, strongest-assoc, strongest-comm, strongest-none}
use Rattle.iso_model.specs.Rights.{declared_by, rights_of, stronger, strongest}
use Rattle.iso_model.specs.Targets.{effective, for_itself, is_target, marks_for}
use Rattle.iso_model.specs.declared.access.Access.{Access}
use Rattle.iso_model.specs.declared.heads.Mark.{Mark}
use Rattle.iso_model.specs.declared.heads.Target.{Target}
use Rattle.iso_model.specs.declared.heads.Target.TheVariants.{Itself, Children}
use Rattle.iso_plan.proofs.BoundLemmas.{first_true, second_true}
use Rattle.iso_plan.proofs.EffectiveLemmas.{marks_for-next}
use Rattle.iso_plan.proofs.Firsts.{inserted-firsts}
use Rattle.iso_plan.proofs.LawLemmas.{all_keep, insert_has}
use Rattle.iso_plan.specs.KeyTable.{firsts, mark_keys}
use Rattle.iso_plan.specs.Merged.{all_merged, as_one, is_same_key, with_all_marks, with_any_mark}

-- the access that marks give a key for a target
abbrev given : Target → List Mark → List ℕ → Option Access
given t ms k = rights_of (marks_for t ms) k

given_more : (t : Target) (m : Mark) (ms : List Mark) (k : List ℕ) → given t (m ∷ ms) k ≡ strongest (given t (m ∷ []) k) (given t ms k)
given_more t m ms k =
    ap (λ (xs : List Mark). rights_of xs k) (marks_for-next t m ms) ∙ rights_of-append (marks_for t (m ∷ [])) (marks_for t ms) k

-- one mark gives its access to its key for its target
given_one : (t : Target) (m : Mark) (k : List ℕ) → given t (m ∷ []) k ≡ cond (is_target t m.target && bytes_eq k m.key) (Some m.access) None
given_one t m k =
    elim (is_target t m.target) as (λ (b : Bool). rights_of (map for_itself (cond b (m ∷ []) [])) k ≡ cond (b && bytes_eq k m.key) (Some m.access) None) [
      | true ↦ strongest-none (declared_by m k)
      | false ↦ refl
    ]

both_given : (b : Bool) (x y : Access) → cond b (Some (stronger x y)) None ≡ strongest (cond b (Some x) None) (cond b (Some y) None)
both_given true x y = refl
both_given false x y = refl

same_target : (t u : Target) → is_target t u ≡ true → t ≡ u
same_target Itself Itself h = refl
same_target Itself Children h = let wrong : false ≡ true = h in absurd (cc)
same_target Children Itself h = let wrong : false ≡ true = h in absurd (cc)
same_target Children Children h = refl

-- two marks as one give what both give
given_as_one : (t : Target) (n m : Mark) (k : List ℕ) → is_same_key n m ≡ true → given t (as_one n m ∷ []) k ≡ strongest (given t (n ∷ []) k) (given t (m ∷ []) k)
given_as_one t n m k same =
    let key : n.key ≡ m.key = (bytes_decides n.key m.key).0 (first_true (bytes_eq n.key m.key) (is_target n.target m.target) same) in
    let target : n.target ≡ m.target = same_target n.target m.target (second_true (bytes_eq n.key m.key) (is_target n.target m.target) same) in
    let other : cond (is_target t n.target && bytes_eq k n.key) (Some m.access) None ≡ given t (m ∷ []) k =
    ap₂ (λ (u : Target) (j : List ℕ). cond (is_target t u && bytes_eq k j) (Some m.access) None) target key ∙ sym (given_one t m k) in
    given_one t (as_one n m) k ∙ both_given (is_target t n.target && bytes_eq k n.key) n.access m.access
    ∙ ap₂ strongest (sym (given_one t n k)) other

turned : (a b c : Option Access) → strongest (strongest a b) c ≡ strongest (strongest a c) b
turned a b c = strongest-assoc a b c ∙ ap (strongest a) (strongest-comm b c) ∙ sym (strongest-assoc a c b)

given_with : (t : Target) (ns : List Mark) (m : Mark) (k : List ℕ) → given t (with_any_mark ns m) k ≡ strongest (given t ns k) (given t (m ∷ []) k)
given_with t [] m k = refl
given_with t (n ∷ ns) m k =
    let one = given t (n ∷ []) k in
    let more = given t (m ∷ []) k in
    let rest = given t ns k in
    elim (is_same_key n m) as (λ b. is_same_key n m ≡ b → given t (cond b (as_one n m ∷ ns) (n ∷ with_any_mark ns m)) k ≡ strongest (given t (n ∷ ns) k) more) [
      | true ↦ λ same.
          given_more t (as_one n m) ns k ∙ ap (λ (x : Option Access). strongest x rest) (given_as_one t n m k same) ∙ turned one more rest
          ∙ ap (λ (x : Option Access). strongest x more) (sym (given_more t n ns k))
      | false ↦ λ apart.
          given_more t n (with_any_mark ns m) k ∙ ap (strongest one) (given_with t ns m k) ∙ sym (strongest-assoc one rest more)
          ∙ ap (λ (x : Option Access). strongest x more) (sym (given_more t n ns k))
    ] refl

given_all : (t : Target) (ms ns : List Mark) (k : List ℕ) → given t (with_all_marks ns ms) k ≡ strongest (given t ns k) (given t ms k)
given_all t [] ns k = sym (strongest-none (given t ns k))
given_all t (m ∷ ms) ns k =
    given_all t ms (with_any_mark ns m) k ∙ ap (λ (x : Option Access). strongest x (given t ms k)) (given_with t ns m k)
    ∙ strongest-assoc (given t ns k) (given t (m ∷ []) k) (given t ms k) ∙ ap (strongest (given t ns k)) (sym (given_more t m ms k))

pub merged-rights : (ms : List Mark) (t : Target) (k : List ℕ) → given t (all_merged ms) k ≡ given t ms k
merged-rights ms t k = given_all t ms [] k

-- what a node declares of merged marks, it declares of them as they are written
pub merged-effective : (above own : List Mark) (k : List ℕ) → rights_of (effective (all_merged above) (all_merged own)) k ≡ rights_of (effective above own) k
merged-effective above own k =
    rights_of-append (marks_for Itself (all_merged own)) (marks_for Children (all_merged above)) k
    ∙ ap₂ strongest (merged-rights own Itself k) (merged-rights above Children k)
    ∙ sym (rights_of-append (marks_for Itself own) (marks_for Children above) k)

-- keys, and after them those of marks, each where it isn't there yet
abbrev pub keys_and : List (List ℕ) → List Mark → List (List ℕ)
keys_and ks ms = insert_all bytes_eq ks (mark_keys ms)

keys_append : (ks : List (List ℕ)) (ms ns : List Mark) → keys_and ks (ms ++ ns) ≡ keys_and (keys_and ks ms) ns
keys_append ks ms ns =
    ap (insert_all bytes_eq ks) (map-append (λ (m : Mark). m.key) ms ns) ∙ fold-append (insert_key bytes_eq) ks (mark_keys ms) (mark_keys ns)

inserted_again : (ks : List (List ℕ)) (k : List ℕ) → list_any (bytes_eq k) ks ≡ true → insert_key bytes_eq ks k ≡ ks
inserted_again ks k h = ap (λ (b : Bool). if b then ks else ks ++ k ∷ []) h

keys_with : (ns : List Mark) (m : Mark) (ks : List (List ℕ)) → keys_and ks (with_any_mark ns m) ≡ keys_and ks (ns ++ m ∷ [])
keys_with [] m ks = refl
keys_with (n ∷ ns) m ks =
    let first = insert_key bytes_eq ks n.key in
    elim (is_same_key n m) as (λ b. is_same_key n m ≡ b → keys_and ks (cond b (as_one n m ∷ ns) (n ∷ with_any_mark ns m)) ≡ keys_and first (ns ++ m ∷ [])) [
      | true ↦ λ same.
          let key : n.key ≡ m.key = (bytes_decides n.key m.key).0 (first_true (bytes_eq n.key m.key) (is_target n.target m.target) same) in
          let there : list_any (bytes_eq n.key) (keys_and first ns) ≡ true =
          all_keep (mark_keys ns) first n.key (insert_has ks n.key (list_any (bytes_eq n.key) ks) refl) in
          sym (keys_append first ns (m ∷ []) ∙ inserted_again (keys_and first ns) m.key (ap (λ (k : List ℕ). list_any (bytes_eq k) (keys_and first ns)) (sym key) ∙ there))
      | false ↦ λ apart. keys_with ns m first
    ] refl

keys_all : (ms ns : List Mark) (ks : List (List ℕ)) → keys_and ks (with_all_marks ns ms) ≡ keys_and ks (ns ++ ms)
keys_all [] ns ks = ap (keys_and ks) (sym (append-nil ns))
keys_all (m ∷ ms) ns ks =
    keys_all ms (with_any_mark ns m) ks ∙ keys_append ks (with_any_mark ns m) ms
    ∙ ap (λ (js : List (List ℕ)). keys_and js ms) (keys_with ns m ks)
    ∙ sym (keys_append ks (ns ++ m ∷ []) ms) ∙ ap (keys_and ks) (append_assoc ns (m ∷ []) ms)

pub merged-keys : (ms : List Mark) (ks : List (List ℕ)) → keys_and ks (all_merged ms) ≡ keys_and ks ms
merged-keys ms ks = keys_all ms [] ks

pub merged-firsts : (ms : List Mark) → firsts (mark_keys (all_merged ms)) ≡ firsts (mark_keys ms)
merged-firsts ms = sym (inserted-firsts (mark_keys (all_merged ms))) ∙ merged-keys ms [] ∙ inserted-firsts (mark_keys ms)
