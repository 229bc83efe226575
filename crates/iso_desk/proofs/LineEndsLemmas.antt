-- The ends of the lines as they are stored: of one line, when those of a line are written, and where nobody stands in any.
use Rattle.std.proofs.Common.{◌≡◌, ℕ, ◌<◌, ◌≢◌, ◌==◌, Bool, true, false, cond, List, length, get_or, set, replicate, Option, None, Some, is_some, sym, ap, ap₂, ◌∙◌, inl, inr, arith, refl}
use Rattle.std.proofs.lemmas.Bool.{cases_eq}
use Rattle.std.proofs.lemmas.List.{get_or-set_same, get_or-set_other, length-replicate, length-set}
use Rattle.std.proofs.lemmas.List.FromFn.{fill_by_all, get_or-map-range_with_len, length-map-range_with_len}
use Rattle.iso_desk.specs.Linked.{AreFilled, HaveRoom, ends_in}
use Rattle.iso_desk.specs.Marking.{has}
use Rattle.iso_desk.specs.declared.ends.Ends.{Ends}
use Rattle.iso_desk.specs.declared.marks.Marks.{Marks}
use Rattle.iso_desk.proofs.BitLemmas.{eq_false, eq_true, everywhere}

-- the ends of one line
abbrev marked : Bool → ℕ → ℕ → Option Ends
marked b x y = cond b (Some (record { first = x; last = y })) None

abbrev stored : Marks → List ℕ → List ℕ → ℕ → Option Ends
stored filled first last i = marked (has filled i) (get_or first i 0) (get_or last i 0)

marked_by : (b b' : Bool) (x x' y y' : ℕ) → b ≡ b' → x ≡ x' → y ≡ y' → marked b x y ≡ marked b' x' y'
marked_by b b' x x' y y' eb ex ey = ap (λ (t : Bool). marked t x y) eb ∙ ap₂ (λ (m n : ℕ). marked b' m n) ex ey

pub lines_in : (filled : Marks) (first last : List ℕ) → length (ends_in filled first last) ≡ length first
lines_in filled first last = length-map-range_with_len (stored filled first last) 0 (length first)

stored_at : (filled : Marks) (first last : List ℕ) (i : ℕ) → i < length first → get_or (ends_in filled first last) i None ≡ stored filled first last i
stored_at filled first last i h = get_or-map-range_with_len (stored filled first last) 0 (length first) i i None h (omega arith)

-- what is read of a line in which somebody stands, and of another one
pub ends_of : (filled : Marks) (first last : List ℕ) (i x y : ℕ) → i < length first → has filled i ≡ true → x ≡ get_or first i 0 → y ≡ get_or last i 0
    → Some (record { first = x; last = y }) ≡ get_or (ends_in filled first last) i None
ends_of filled first last i x y h is ex ey =
    marked_by true (has filled i) x (get_or first i 0) y (get_or last i 0) (sym is) ex ey ∙ sym (stored_at filled first last i h)

pub no_ends_of : (filled : Marks) (first last : List ℕ) (i : ℕ) → i < length first → has filled i ≡ false → None ≡ get_or (ends_in filled first last) i None
no_ends_of filled first last i h is = sym (stored_at filled first last i h ∙ ap (λ (b : Bool). marked b (get_or first i 0) (get_or last i 0)) is)

-- the marks say of each line whether it has ends
some_marked : (b : Bool) (x y : ℕ) → is_some (marked b x y) ≡ b
some_marked true x y = refl
some_marked false x y = refl

pub all_filled : (filled : Marks) (first last : List ℕ) → HaveRoom filled first last → AreFilled (ends_in filled first last) filled
all_filled filled first last a =
    let size = lines_in filled first last in
    let marks = a.marks in
    record {
      room = omega arith;
      each = λ i h. sym (ap is_some (stored_at filled first last i (omega arith)) ∙ some_marked (has filled i) (get_or first i 0) (get_or last i 0));
    }

-- the ends of one line are written
module _ (s s' : Marks) (first last first' last' : List ℕ) (i : ℕ) (e : Option Ends) (size : length first' ≡ length first) (low : i < length first)
    (marks : (k : ℕ) → has s' k ≡ cond (k == i) (is_some e) (has s k)) (firsts : (k : ℕ) → k ≢ i → get_or first' k 0 ≡ get_or first k 0)
    (lasts : (k : ℕ) → k ≢ i → get_or last' k 0 ≡ get_or last k 0) (here : stored s' first' last' i ≡ e) where
  written_at : (k : ℕ) → k < length first → get_or (set (ends_in s first last) i e) k None ≡ stored s' first' last' k
  written_at k h =
      let size-old = lines_in s first last in
      let below : i < length (ends_in s first last) = omega arith in
      elim (cases_eq k i) [
        | inl q ↦ ap (λ (j : ℕ). get_or (set (ends_in s first last) i e) j None) q ∙ get_or-set_same (ends_in s first last) i e None below ∙ sym here ∙ sym (ap (stored s' first' last') q)
        | inr o ↦
            get_or-set_other (ends_in s first last) i k e None o ∙ stored_at s first last k h
            ∙ sym (marked_by (has s' k) (has s k) (get_or first' k 0) (get_or first k 0) (get_or last' k 0) (get_or last k 0)
            (marks k ∙ ap (λ (b : Bool). cond b (is_some e) (has s k)) (eq_false k i o)) (firsts k o) (lasts k o))
      ]

  ends_written : ends_in s' first' last' ≡ set (ends_in s first last) i e
  ends_written =
      sym (fill_by_all (stored s' first' last') (set (ends_in s first last) i e) (length first') None
      (length-set (ends_in s first last) i e ∙ lines_in s first last ∙ sym size)
      (λ k h. written_at k (omega arith)))

pub ends_set : (s s' : Marks) (first last : List ℕ) (i : ℕ) (e : Ends) → i < length first → length last ≡ length first
    → ((k : ℕ) → has s' k ≡ cond (k == i) true (has s k))
    → ends_in s' (set first i e.first) (set last i e.last) ≡ set (ends_in s first last) i (Some e)
ends_set s s' first last i e low same marks =
    let below : i < length last = omega arith in
    ends_written s s' first last (set first i e.first) (set last i e.last) i (Some e) (length-set first i e.first) low marks
    (λ k o. get_or-set_other first i k e.first 0 o) (λ k o. get_or-set_other last i k e.last 0 o)
    (marked_by (has s' i) true (get_or (set first i e.first) i 0) e.first (get_or (set last i e.last) i 0) e.last
    (marks i ∙ ap (λ (b : Bool). cond b true (has s i)) (eq_true i i refl)) (get_or-set_same first i e.first 0 low) (get_or-set_same last i e.last 0 below))

pub ends_cleared : (s s' : Marks) (first last : List ℕ) (i : ℕ) → i < length first → ((k : ℕ) → has s' k ≡ cond (k == i) false (has s k))
    → ends_in s' first last ≡ set (ends_in s first last) i None
ends_cleared s s' first last i low marks =
    ends_written s s' first last first last i None refl low marks (λ k o. refl) (λ k o. refl)
    (ap (λ (b : Bool). marked b (get_or first i 0) (get_or last i 0)) (marks i ∙ ap (λ (b : Bool). cond b false (has s i)) (eq_true i i refl)))

-- nobody stands in any line
pub no_ends : (s : Marks) (first last : List ℕ) (k : ℕ) → first ≡ replicate k 0 → ((n : ℕ) → has s n ≡ false) → ends_in s first last ≡ replicate k None
no_ends s first last k e f =
    let size : length first ≡ k = ap length e ∙ length-replicate k 0 in
    sym (fill_by_all (stored s first last) (replicate k None) (length first) None (length-replicate k None ∙ sym size)
    (λ i h. everywhere k i None ∙ sym (ap (λ (b : Bool). marked b (get_or first i 0) (get_or last i 0)) (f i))))
