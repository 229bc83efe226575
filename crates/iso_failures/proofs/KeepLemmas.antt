-- The paths of nodes, given as a selection, keep these nodes.
use Rattle.std.proofs.Common.{◌≡◌, ◌<◌, ◌≤◌, ℕ, zero, suc, ◌+◌, List, [], ◌∷◌, length, map, Bool, true, false, ◌&&◌, ◌||◌, not, cond, nat_lt, inl, inr, refl, sym, ap, ◌∙◌, arith}
use Rattle.std.proofs.lemmas.Bool.Decides.{nat_tests}
use Rattle.std.proofs.lemmas.List.{map_push}
use Rattle.std.proofs.lemmas.List.Folds.{list_any-append}
use Rattle.std.proofs.lemmas.Slice.Eq.{bytes_eq-Decides}
use Rattle.std.specs.List.{filter, list_any, range_with_len}
use Rattle.std.specs.Str.{bytes_eq}
use Rattle.iso_model.specs.NameSets.{is_among}
use Rattle.iso_plan.proofs.NumberLemmas.{those-next, those-skip}
use Rattle.iso_plan.proofs.PathLemmas.{not-root, path-step, under-self}
use Rattle.iso_plan.specs.Paths.{IsTree, is_root, is_under, parent, path}
use Rattle.iso_plan.specs.PathTexts.{path_text}
use Rattle.iso_plan.specs.KeptNodes.{is_chosen, is_kept, is_kept_by, is_named, those_below}
use Rattle.iso_plan.specs.Tree.{Row}
use Rattle.iso_failures.proofs.Sums.{numbers}

text_same : (q : List ℕ) → bytes_eq q q ≡ true
text_same q = (bytes_eq-Decides q q).1 refl

or_right : (a b : Bool) → b ≡ true → (a || b) ≡ true
or_right true b h = refl
or_right false b h = h

module _ (f : ℕ → List ℕ) (p : ℕ → Bool) where
  -- the paths of those below a number
  abbrev paths : ℕ → List (List ℕ)
  paths n = map f (those_below p n)

  among_last : (n : ℕ) → p n ≡ true → is_among (paths (suc n)) (f n) ≡ true
  among_last n e =
      ap (λ (ns : List ℕ). is_among (map f ns) (f n)) (those-next p n e) ∙ ap (λ (ts : List (List ℕ)). is_among ts (f n)) (map_push f (those_below p n) n)
      ∙ list_any-append (λ t. bytes_eq t (f n)) (paths n) (f n ∷ [])
      ∙ or_right (is_among (paths n) (f n)) (bytes_eq (f n) (f n) || false) (ap (λ (b : Bool). b || false) (text_same (f n)))

  among_by : (m n : ℕ) (t : Bool) → p n ≡ t → is_among (paths n) (f m) ≡ true → is_among (paths (suc n)) (f m) ≡ true
  among_by m n true e h =
      ap (λ (ns : List ℕ). is_among (map f ns) (f m)) (those-next p n e) ∙ ap (λ (ts : List (List ℕ)). is_among ts (f m)) (map_push f (those_below p n) n)
      ∙ list_any-append (λ t. bytes_eq t (f m)) (paths n) (f n ∷ [])
      ∙ ap (λ (b : Bool). b || list_any (λ t. bytes_eq t (f m)) (f n ∷ [])) h
  among_by m n false e h = ap (λ (ns : List ℕ). is_among (map f ns) (f m)) (those-skip p n e) ∙ h

  -- a node that passes has its path among them
  among : (m n : ℕ) → m < n → p m ≡ true → is_among (paths n) (f m) ≡ true
  among m zero less e = absurd (omega arith)
  among m (suc n) less e =
      elim (nat_lt m n) as (λ t. nat_lt m n ≡ t → is_among (paths (suc n)) (f m) ≡ true) [
        | true ↦ λ b. let before : m < n = grind (arith, nat_tests) in among_by m n (p n) refl (among m n before e)
        | false ↦ λ b. let last : n ≡ m = grind (arith, nat_tests) in ap (λ (k : ℕ). is_among (paths (suc n)) (f k)) (sym last) ∙ among_last n (ap p last ∙ e)
      ] refl

-- of numbers, one that passes both tests passes the second among those that pass the first
any_at : (p q : ℕ → Bool) (n a m : ℕ) → a ≤ m → m < a + n → p m ≡ true → q m ≡ true → list_any q (filter p (range_with_len a n)) ≡ true
any_at p q zero a m low high e f = absurd (omega arith)
any_at p q (suc n) a m low high e f =
    elim (numbers a m) [
      | inl same ↦ rw (ap p same ∙ e) (ap (λ (b : Bool). b || list_any q (filter p (range_with_len (a + 1) n))) (ap q same ∙ f))
      | inr ne ↦ passed (p a) (any_at p q n (a + 1) m (omega arith) (omega arith) e f)
    ]
  where
    passed : (t : Bool) → list_any q (filter p (range_with_len (a + 1) n)) ≡ true → list_any q (cond t (a ∷ filter p (range_with_len (a + 1) n)) (filter p (range_with_len (a + 1) n))) ≡ true
    passed true h = or_right (q a) _ h
    passed false h = h

module _ (tree : List Row) (t : IsTree tree) (only : List (List ℕ)) (n : ℕ) (pos : 0 < n) (less : n < length tree) (named : is_among only (path_text tree n) ≡ true) where
  chosen : is_chosen tree only n ≡ true
  chosen =
      ap (list_any (is_named tree only)) (path-step tree t.below n pos)
      ∙ ap (λ (b : Bool). (not b && is_among only (path_text tree n)) || list_any (is_named tree only) (path tree (parent tree n))) (not-root n pos)
      ∙ ap (λ (b : Bool). b || list_any (is_named tree only) (path tree (parent tree n))) named

  kept_by : is_kept_by tree only n ≡ true
  kept_by = or_right (is_root n) _ (any_at (is_under tree n) (is_chosen tree only) (length tree) 0 n (omega arith) (omega arith) (under-self tree t.below n pos) chosen)

-- a node whose path is given is kept
kept : (tree : List Row) → IsTree tree → (only : List (List ℕ)) (n : ℕ) → 0 < n → n < length tree → is_among only (path_text tree n) ≡ true → is_kept tree only n ≡ true
kept tree t [] n pos less named = refl
kept tree t (o ∷ os) n pos less named = kept_by tree t (o ∷ os) n pos less named

-- a node that passes a test and isn't the root is kept by the paths of all that pass
pub paths-keep : (tree : List Row) → IsTree tree → (p : ℕ → Bool) (n : ℕ) → 0 < n → n < length tree → p n ≡ true → is_kept tree (map (path_text tree) (those_below p (length tree))) n ≡ true
paths-keep tree t p n pos less passes = kept tree t (map (path_text tree) (those_below p (length tree))) n pos less (among (path_text tree) p n (length tree) less passes)
