-- Lists that grow.
use Rattle.std.proofs.Common.{◌≡◌, ◌<◌, ℕ, ◌+◌, List, [], ◌∷◌, ◌++◌, Bool, true, false, ◌==◌, cond, length, get_or, set, take, flat_map, refl, sym, ap, ◌∙◌, get_or-set_same, get_or-set_other, append_assoc, append-nil, arith}
use Rattle.std.proofs.lemmas.Bool.Decides.{nat_tests}
use Rattle.std.proofs.lemmas.List.{get_or_default, take_more}
use Rattle.std.proofs.lemmas.List.Concat.{flat_map-append}
use Rattle.iso_html.specs.Lists.{AreLonger}
use Rattle.iso_html.specs.declared.shape.Mark.{Mark}
use Rattle.iso_plan.proofs.ColumnLemmas.{column-from, column-read, length-column}
use Rattle.iso_plan.specs.Paths.{column}

-- nothing more
pub longer-none : (xs : List (List Mark)) (more : ℕ → List Mark) → ((k : ℕ) → more k ≡ []) → AreLonger xs xs more
longer-none xs more none =
    record { size = refl; longer = λ k h. sym (ap (λ (ms : List Mark). get_or xs k [] ++ ms) (none k) ∙ append-nil (get_or xs k [])) }

-- the same by equal pieces
pub longer-as : {xs ys : List (List Mark)} {f : ℕ → List Mark} → AreLonger xs ys f → (g : ℕ → List Mark) → ((k : ℕ) → f k ≡ g k) → AreLonger xs ys g
longer-as {xs} {ys} {f} h g same = record { size = h.size; longer = λ k less. h.longer k less ∙ ap (λ (ms : List Mark). get_or xs k [] ++ ms) (same k) }

-- one after another
pub longer-then : {xs ys zs : List (List Mark)} {f g : ℕ → List Mark} → AreLonger xs ys f → AreLonger ys zs g → AreLonger xs zs (λ k. f k ++ g k)
longer-then {xs} {ys} {zs} {f} {g} h j =
    record {
      size = j.size ∙ h.size;
      longer = λ k less.
          let size = h.size in
          j.longer k (omega arith) ∙ ap (λ (ms : List Mark). ms ++ g k) (h.longer k less) ∙ append_assoc (get_or xs k []) (f k) (g k);
    }

-- one list with a mark more
put_by : (xs : List (List Mark)) (p k : ℕ) (m : Mark) (s : List Mark) → p < length xs → s ≡ get_or xs p [] ++ m ∷ [] → (t : Bool) → (p == k) ≡ t
    → get_or (set xs p s) k [] ≡ get_or xs k [] ++ cond t (m ∷ []) []
put_by xs p k m s h e true is =
    let same : p ≡ k = grind (arith, nat_tests) in
    ap (λ (j : ℕ). get_or (set xs p s) j []) (sym same) ∙ get_or-set_same xs p s [] h ∙ e ∙ ap (λ (j : ℕ). get_or xs j [] ++ m ∷ []) same
put_by xs p k m s h e false is =
    get_or-set_other xs p k s [] (λ same. let yes : (p == p) ≡ true = grind (arith, nat_tests) in absurd (cc)) ∙ sym (append-nil (get_or xs k []))

pub put-at : (xs : List (List Mark)) (p k : ℕ) (m : Mark) (s : List Mark) → p < length xs → s ≡ get_or xs p [] ++ m ∷ []
    → get_or (set xs p s) k [] ≡ get_or xs k [] ++ cond (p == k) (m ∷ []) []
put-at xs p k m s h e = put_by xs p k m s h e (p == k) refl

-- lists that were empty
pub column-grown : (ys : List (List Mark)) (n : ℕ) (f : ℕ → List Mark) → AreLonger (column (λ k. []) n) ys f → ys ≡ column f n
column-grown ys n f h =
    let none : ℕ → List Mark = λ k. [] in
    let size : length ys ≡ n = h.size ∙ length-column none n in
    column-from f ys n size
    (λ m d less.
    let within : m < length ys = omega arith in
    let before : m < length (column none n) = omega (arith, length-column none n) in
    get_or_default ys m d [] within ∙ h.longer m before ∙ ap (λ (ms : List Mark). ms ++ f m) (column-read none (column none n) n m [] refl less))

-- pieces behind those that were added so far
pub appended : {A : Type 0} (start below piece now next : List A) → next ≡ now ++ piece → now ≡ start ++ below → next ≡ start ++ (below ++ piece)
appended start below piece now next e h = e ∙ ap (λ s. s ++ piece) h ∙ append_assoc start below piece

-- what is made of one more
pub flat_map-more : {A B : Type 0} (f : A → List B) (xs : List A) (i : ℕ) (d : A) → i < length xs → flat_map f (take (i + 1) xs) ≡ flat_map f (take i xs) ++ f (get_or xs i d)
flat_map-more f xs i d h =
    ap (flat_map f) (take_more xs i d h) ∙ flat_map-append f (take i xs) (get_or xs i d ∷ [])
    ∙ ap (λ ys. flat_map f (take i xs) ++ ys) (append-nil (f (get_or xs i d)))
