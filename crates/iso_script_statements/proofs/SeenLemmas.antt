-- A table that marks the hashes of a few names.
use Rattle.std.proofs.Common.{ℕ, zero, suc, List, [], ◌∷◌, ◌++◌, ◌≡◌, ◌<◌, Bool, true, false, cond, ◌||◌, Bor, map, length, refl, sym, ap, subst, ◌∙◌, arith}
use Rattle.std.specs.List.{slice_index_or, slice_set}
use Rattle.std.specs.Str.{bytes_eq}
use Rattle.iso_model.specs.NameSets.{is_among}
use Rattle.iso_model.proofs.Claims.{is_among-push}
use Rattle.std.proofs.lemmas.Slice.Eq.{bytes_eq-Decides}
use Rattle.iso_script_statements.specs.SeenNames.{hash_from, is_in, texts_in}

-- a mark stays when another is set, and one is where it is set
mark-stays : (t : List Bool) (h k : ℕ) → slice_index_or t k false ≡ true → slice_index_or (slice_set t h true) k false ≡ true
mark-stays [] h k g = g
mark-stays (x ∷ t) zero zero g = refl
mark-stays (x ∷ t) zero (suc k) g = g
mark-stays (x ∷ t) (suc h) zero g = g
mark-stays (x ∷ t) (suc h) (suc k) g = mark-stays t h k g

mark-is_set : (t : List Bool) (h : ℕ) → h < length t → slice_index_or (slice_set t h true) h false ≡ true
mark-is_set [] h l = absurd (omega (arith, l))
mark-is_set (x ∷ t) zero l = refl
mark-is_set (x ∷ t) (suc h) l = mark-is_set t h (omega (arith, l))

-- a name whose hash isn't marked is none of those whose hashes are
pub unmarked : (b m : Bool) → (b ≡ true → m ≡ true) → m ≡ false → false ≡ b
unmarked false m marks e = refl
unmarked true m marks e = sym e ∙ marks refl

-- one name more
one_more : (t : List Bool) (name n : List ℕ) (b c : Bool) → (b ≡ true → slice_index_or t (hash_from 0 n) false ≡ true) → bytes_eq name n ≡ c → hash_from 0 name < length t
    → cond c true b ≡ true → slice_index_or (slice_set t (hash_from 0 name) true) (hash_from 0 n) false ≡ true
one_more t name n b true marks same within e =
    subst (λ m. slice_index_or (slice_set t (hash_from 0 name) true) (hash_from 0 m) false ≡ true) ((bytes_eq-Decides name n).0 same) (mark-is_set t (hash_from 0 name) within)
one_more t name n b false marks other within e = mark-stays t (hash_from 0 name) (hash_from 0 n) (marks e)

pub all_marked : (t : List Bool) (names : List (List ℕ)) (name : List ℕ) → ((n : List ℕ) → is_among names n ≡ true → slice_index_or t (hash_from 0 n) false ≡ true) → hash_from 0 name < length t
    → (n : List ℕ) → is_among (names ++ name ∷ []) n ≡ true → slice_index_or (slice_set t (hash_from 0 name) true) (hash_from 0 n) false ≡ true
all_marked t names name marks within n among = one_more t name n (is_among names n) (bytes_eq name n) (marks n) refl within (is_among-push names name n ∙ among)

-- names that are looked through one by one
pub is_in-texts : (xs : List (Bor (List ℕ))) (n : List ℕ) → is_in xs n ≡ is_among (texts_in xs) n
is_in-texts [] n = refl
is_in-texts (x ∷ xs) n = ap (λ b. bytes_eq x.now n || b) (is_in-texts xs n)
