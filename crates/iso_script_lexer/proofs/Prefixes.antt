-- The longest front of such bytes.
use Rattle.std.proofs.Common.{◌≡◌, ℕ, List, [], ◌∷◌, ◌++◌, length, take, drop, Bool, true, false, refl, one-add, arith}
use Rattle.std.specs.List.{prefix_len, AllByRecursion}
use Rattle.iso_script_lexer.specs.LexicalGrammar.{Ends}

pub All-take-prefix_len : (p : ℕ → Bool) (bs : List ℕ) → AllByRecursion (λ c. p c ≡ true) (take (prefix_len p bs) bs)
All-take-prefix_len p [] = tt
All-take-prefix_len p (b ∷ bs) = go (p b) refl (All-take-prefix_len p bs)
  where
    go : (t : Bool) → p b ≡ t → AllByRecursion (λ c. p c ≡ true) (take (prefix_len p bs) bs) → AllByRecursion (λ c. p c ≡ true) (take (prefix_len p (b ∷ bs)) (b ∷ bs))
    go true e h = rw (e, one-add) (e, h)
    go false e h = rw e tt

pub Ends-drop-prefix_len : (p : ℕ → Bool) (bs : List ℕ) → Ends p (drop (prefix_len p bs) bs)
Ends-drop-prefix_len p [] = tt
Ends-drop-prefix_len p (b ∷ bs) = go (p b) refl (Ends-drop-prefix_len p bs)
  where
    go : (t : Bool) → p b ≡ t → Ends p (drop (prefix_len p bs) bs) → Ends p (drop (prefix_len p (b ∷ bs)) (b ∷ bs))
    go true e h = rw (e, one-add) h
    go false e h = rw e e

pub prefix_len-append : (p : ℕ → Bool) (n rest : List ℕ) → AllByRecursion (λ c. p c ≡ true) n → Ends p rest → prefix_len p (n ++ rest) ≡ length n
prefix_len-append p [] [] all end = refl
prefix_len-append p [] (b ∷ rest) all end = rw end refl
prefix_len-append p (b ∷ n) rest all end = rw (all.0, prefix_len-append p n rest all.1 end) (omega arith)
