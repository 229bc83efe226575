-- The number of a key, found from the last one down.
use Rattle.std.proofs.Common.{◌≡◌, ℕ, zero, suc, ◌<◌, List, [], Option, Some, Bool, true, false, cond, bytes_eq, get_or, ap, sym, ◌∙◌, arith, refl}
use Rattle.std.proofs.lemmas.Slice.Eq.{bytes_eq-Decides}
use Rattle.iso_plan.specs.KeyNumbers.{number_below}
use Rattle.iso_locks.specs.declared.starting.Starting.{Starting}

abbrev pub spelled : Starting → List ℕ
spelled s = s.key

within_by : (b : Bool) (rest : Option ℕ) (n m : ℕ) → cond b (Some n) rest ≡ Some m → (rest ≡ Some m → m < n) → m < suc n
within_by true rest n m e ih = let same : n ≡ m = cc in omega arith
within_by false rest n m e ih = let less : m < n = ih e in omega arith

-- the number of a key is below that of keys
pub number-within : (keys : List (List ℕ)) (k : List ℕ) (n m : ℕ) → number_below keys k n ≡ Some m → m < n
number-within keys k zero m e = absurd (cc)
number-within keys k (suc n) m e = within_by (bytes_eq k (get_or keys n [])) (number_below keys k n) n m e (number-within keys k n m)

spells_by : (keys : List (List ℕ)) (k : List ℕ) (b : Bool) (rest : Option ℕ) (n m : ℕ) → bytes_eq k (get_or keys n []) ≡ b
    → cond b (Some n) rest ≡ Some m → (rest ≡ Some m → get_or keys m [] ≡ k) → get_or keys m [] ≡ k
spells_by keys k true rest n m is e ih =
    let same : n ≡ m = cc in
    ap (λ j. get_or keys j []) (sym same) ∙ sym ((bytes_eq-Decides k (get_or keys n [])).0 is)
spells_by keys k false rest n m is e ih = ih e

-- the key with a key's number is that key
pub number-spells : (keys : List (List ℕ)) (k : List ℕ) (n m : ℕ) → number_below keys k n ≡ Some m → get_or keys m [] ≡ k
number-spells keys k zero m e = absurd (cc)
number-spells keys k (suc n) m e = spells_by keys k (bytes_eq k (get_or keys n [])) (number_below keys k n) n m refl e (number-spells keys k n m)
