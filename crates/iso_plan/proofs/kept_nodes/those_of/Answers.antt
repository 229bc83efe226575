use Rattle.std.proofs.Common.{◌≡◌, ◌<◌, ◌+◌, ◌∷◌, [], ◌++◌, ℕ, List, Vec, Global, vec_len, Bool, true, false, drop, get_or, length, map, refl, ap, ap₂, sym, ◌∙◌, add-one, arith}
use Rattle.std.proofs.lemmas.List.{length-map, length_push, map_push}
use Rattle.std.specs.Vec.Iter.{into_iter_items}
use Rattle.iso_plan.proofs.ColumnLemmas.{column-push, parent-at, row-at}
use Rattle.iso_plan.proofs.NumberLemmas.{all-taken, left-first, left-rest, left-some, number-small, those-next, those-skip}
use Rattle.iso_plan.proofs.SelectionLemmas.{parent-low}
use Rattle.iso_plan.specs.Paths.{column, parent, row_at}
use Rattle.iso_plan.specs.RowView.{row_of}
use Rattle.iso_plan.specs.KeptNodes.{number_among, renumbered, those_below}
use Rattle.iso_plan.specs.Tree as T
use Rattle.iso_plan.specs.declared.row.Row.{Row}
use Rattle.iso_plan.proofs.kept_nodes.those_of.Goals as goal

-- whether a place is kept
abbrev keeps : List Bool → ℕ → Bool
keeps kept n = get_or kept n false

-- the first of some nodes that are kept, numbered anew
abbrev first_left : List Row → List Bool → ℕ → List T.Row
first_left rows kept n = map (λ (m : ℕ). renumbered (keeps kept) (row_at (map row_of rows) m)) (those_below (keeps kept) n)

left_more : (rows left : List Row) (kept : List Bool) (n : ℕ) (r : Row) → keeps kept n ≡ true
    → map row_of left ≡ first_left rows kept n → row_of r ≡ renumbered (keeps kept) (row_at (map row_of rows) n)
    → map row_of (left ++ r ∷ []) ≡ first_left rows kept (n + 1)
left_more rows left kept n r is before this =
    let g : ℕ → T.Row = λ (m : ℕ). renumbered (keeps kept) (row_at (map row_of rows) m) in
    map_push row_of left r ∙ ap₂ (λ (rs : List T.Row) (x : T.Row). rs ++ x ∷ []) before this
    ∙ sym (ap (first_left rows kept) (add-one n) ∙ ap (map g) (those-next (keeps kept) n is) ∙ map_push g (those_below (keeps kept) n) n)

left_same : (rows : List Row) (kept : List Bool) (n : ℕ) → keeps kept n ≡ false → first_left rows kept n ≡ first_left rows kept (n + 1)
left_same rows kept n out =
    let g : ℕ → T.Row = λ (m : ℕ). renumbered (keeps kept) (row_at (map row_of rows) m) in
    sym (ap (first_left rows kept) (add-one n) ∙ ap (map g) (those-skip (keeps kept) n out))

place_of_next : (rows : List Row) (left : Vec Row Global) (kept : List Bool) (i n : ℕ) → map row_of left.items ≡ first_left rows kept i → n ≡ vec_len left → n ≡ number_among (keeps kept) i
place_of_next rows left kept i n before e =
    let count : length left.items ≡ number_among (keeps kept) i =
    sym (length-map left.items row_of) ∙ ap length before ∙ length-map (those_below (keeps kept) i) (λ (m : ℕ). renumbered (keeps kept) (row_at (map row_of rows) m)) in
    omega (arith, left.ok.0)

numbers_more : (kept : List Bool) (numbers : List ℕ) (i n : ℕ) (more : List ℕ) → length numbers ≡ i
    → numbers ≡ column (number_among (keeps kept)) (length numbers) → n ≡ number_among (keeps kept) i → more ≡ numbers ++ n ∷ []
    → more ≡ column (number_among (keeps kept)) (length more)
numbers_more kept numbers i n more long before is e =
    e ∙ column-push (number_among (keeps kept)) numbers i n (before ∙ ap (column (number_among (keeps kept))) long) is
    ∙ sym (ap (column (number_among (keeps kept))) (ap length e ∙ length_push numbers n ∙ ap (λ (m : ℕ). m + 1) long))

kept_here : (kept : List Bool) (i at : ℕ) (numbers : Vec ℕ Global) → at ≡ vec_len numbers → {b : Bool} → get_or kept at false ≡ b → i ≡ length numbers.items → keeps kept i ≡ b
kept_here kept i at numbers e same is = let here : i ≡ at = omega (arith, numbers.ok.0) in ap (λ (k : ℕ). get_or kept k false) here ∙ same

pub nodes-init : goal.nodes-init
nodes-init c =
    let rows = c.args.rows.items in
    let kept = c.args.kept.now in
    let none : c.in_ok-numbers.numbers.items ≡ [] = c.in_ok-numbers.ensures.items in
    let zero : length c.in_ok-numbers.numbers.items ≡ 0 = ap length none in
    record {
      within = omega arith;
      rest = c.into_iter-row-iterator.ensures.into_iter_gives.0 ∙ sym (ap (λ (k : ℕ). drop k rows) zero);
      numbers_are = none ∙ sym (ap (column (number_among (keeps kept))) zero);
      left_are = ap (map row_of) c.new-left.ensures.items ∙ sym (ap (first_left rows kept) zero);
    }

pub bounds-kept-len : goal.bounds-kept-len
bounds-kept-len c =
    let numbers = c.nodes.numbers in
    let less = left-some c.in-Some.row _ c.args.rows.items (length numbers.items) (sym c.in-Some.ensures.steps.0 ∙ c.nodes.invariant.rest) in
    let each = c.requires.each in
    let is = c.len.ensures in
    omega (arith, numbers.ok.0)

pub overflow_cast-len : goal.overflow_cast-len
overflow_cast-len c =
    let numbers = c.nodes.numbers in
    let i = length numbers.items in
    let kept = c.args.kept.now in
    let rows = c.args.rows.items in
    let less = left-some c.in-Some.row _ rows i (sym c.in-Some.ensures.steps.0 ∙ c.nodes.invariant.rest) in
    let count : length c.nodes.left.items ≡ number_among (keeps kept) i =
    sym (length-map c.nodes.left.items row_of) ∙ ap length c.nodes.invariant.left_are ∙ length-map (those_below (keeps kept) i) (λ (m : ℕ). renumbered (keeps kept) (row_at (map row_of rows) m)) in
    let low = number-small (keeps kept) i in
    let fits = c.requires.fits in
    let is = c.len-in-nodes.ensures in
    let small : c.len-in-nodes.result < 4294967296 = omega (arith, c.nodes.left.ok.0) in
    search (arith, small)

pub renumbered-requires : goal.renumbered-requires
renumbered-requires c =
    let rows = c.args.rows.items in
    let kept = c.args.kept.now in
    let numbers = c.nodes.numbers in
    let i = length numbers.items in
    let at = sym c.in-Some.ensures.steps.0 ∙ c.nodes.invariant.rest in
    let less = left-some c.in-Some.row _ rows i at in
    let own : c.in-Some.row.parent ≡ parent (map row_of rows) i = ap (λ (r : Row). r.parent) (left-first c.in-Some.row _ rows i at) ∙ sym (parent-at rows i c.in-Some.row less) in
    let low = parent-low (map row_of rows) c.requires.tree i in
    let more : length c.push.new.self.items ≡ i + 1 = ap length c.in_ok-push.ensures.items ∙ length_push numbers.items _ in
    let long : length c.deref.result.now ≡ i + 1 = ap length c.deref.ensures.value ∙ more in
    omega arith

pub nodes-preserved-in-Continue-branch-3 : goal.nodes-preserved-in-Continue-branch-3
nodes-preserved-in-Continue-branch-3 c =
    let rows = c.args.rows.items in
    let kept = c.args.kept.now in
    let numbers = c.nodes.numbers in
    let i = length numbers.items in
    let at = sym c.in-Some.ensures.steps.0 ∙ c.nodes.invariant.rest in
    let less = left-some c.in-Some.row _ rows i at in
    let more : length c.push.new.self.items ≡ i + 1 = ap length c.in_ok-push.ensures.items ∙ length_push numbers.items _ in
    let number : c.len-in-nodes.result ≡ number_among (keeps kept) i = place_of_next rows c.nodes.left kept i c.len-in-nodes.result c.nodes.invariant.left_are c.len-in-nodes.ensures in
    let now = numbers_more kept numbers.items i c.len-in-nodes.result c.push.new.self.items refl c.nodes.invariant.numbers_are number c.in_ok-push.ensures.items in
    let there : keeps kept i ≡ true = kept_here kept i _ numbers c.len.ensures c.if-is_kept.true refl in
    let row : row_of c.in-Some.row ≡ row_at (map row_of rows) i = ap row_of (left-first c.in-Some.row _ rows i at) ∙ sym (row-at rows i c.in-Some.row less) in
    let this = c.renumbered.ensures (keeps kept) (c.deref.ensures.value ∙ now ∙ sym (ap (column (number_among (keeps kept))) (ap length c.deref.ensures.value))) ∙ ap (renumbered (keeps kept)) row in
    record {
      within = omega arith;
      rest = left-rest c.in-Some.row _ rows i at ∙ sym (ap (λ (k : ℕ). drop k rows) more);
      numbers_are = now;
      left_are = ap (map row_of) c.in_ok-push-2.ensures.items ∙ left_more rows c.nodes.left.items kept i c.renumbered.result there c.nodes.invariant.left_are this
          ∙ sym (ap (first_left rows kept) more);
    }

pub nodes-preserved : goal.nodes-preserved
nodes-preserved c =
    let rows = c.args.rows.items in
    let kept = c.args.kept.now in
    let numbers = c.nodes.numbers in
    let i = length numbers.items in
    let at = sym c.in-Some.ensures.steps.0 ∙ c.nodes.invariant.rest in
    let less = left-some c.in-Some.row _ rows i at in
    let more : length c.push.new.self.items ≡ i + 1 = ap length c.in_ok-push.ensures.items ∙ length_push numbers.items _ in
    let number : c.len-in-nodes.result ≡ number_among (keeps kept) i = place_of_next rows c.nodes.left kept i c.len-in-nodes.result c.nodes.invariant.left_are c.len-in-nodes.ensures in
    let now = numbers_more kept numbers.items i c.len-in-nodes.result c.push.new.self.items refl c.nodes.invariant.numbers_are number c.in_ok-push.ensures.items in
    let out : keeps kept i ≡ false = kept_here kept i _ numbers c.len.ensures c.if-is_kept.false refl in
    record {
      within = omega arith;
      rest = left-rest c.in-Some.row _ rows i at ∙ sym (ap (λ (k : ℕ). drop k rows) more);
      numbers_are = now;
      left_are = c.nodes.invariant.left_are ∙ left_same rows kept i out ∙ sym (ap (first_left rows kept) more);
    }

pub returns : goal.returns
returns c =
    let rows = c.args.rows.items in
    let kept = c.args.kept.now in
    let i = length c.nodes.numbers.items in
    let within = c.nodes.invariant.within in
    let over = c.in-None.ensures.steps.0 in
    let none : length (into_iter_items c.nodes.row-iterator) ≡ 0 = omega (arith, c.nodes.row-iterator.rest.ok.0) in
    let past : length (drop i rows) ≡ 0 = sym (ap length c.nodes.invariant.rest) ∙ none in
    let count : length (map row_of rows) ≡ length rows = length-map rows row_of in
    let last : i ≡ length (map row_of rows) = all-taken rows i past within ∙ sym count in
    c.nodes.invariant.left_are ∙ ap (first_left rows kept) last
