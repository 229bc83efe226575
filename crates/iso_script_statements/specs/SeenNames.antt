-- Names that were seen.
--
-- seen names: Whether a table of a few names, or a set of many, has these names and no others
-- (`HasSeen`).
use Rattle.std.specs.Prelude.{ℕ, List, [], ◌∷◌, Bool, true, false, ◌≡◌, ◌+◌, ◌*◌, ◌%◌, length, map, slice_index_or}
use Rattle.std.specs.Borrow.{Bor}
use Rattle.std.specs.List.{list_any}
use Rattle.std.specs.Str.{bytes_eq}
use Rattle.iso_model.specs.NameSets.{Knows, is_among}
use Rattle.iso_script_statements.specs.declared.seen_names.FewNames.{FewNames}
use Rattle.iso_script_statements.specs.declared.seen_names.SeenNames.{SeenNames}
use Rattle.iso_script_statements.specs.declared.seen_names.SeenNames.TheVariants.{Few, Many}

-- the hash of these bytes after others of hash h
abbrev pub hash_from : ℕ → List ℕ → ℕ
hash_from h [] = h
hash_from h (b ∷ bs) = hash_from ((h * 31 + b) % 512) bs

-- the texts of some names
abbrev pub texts_in : List (Bor (List ℕ)) → List (List ℕ)
texts_in = map (λ n. n.now)

-- whether a name is one of some
abbrev pub is_in : List (Bor (List ℕ)) → List ℕ → Bool
is_in names n = list_any (λ m. bytes_eq m.now n) names

-- the table has these names, and marks the hash of each
abbrev pub HasFew : FewNames → List (List ℕ) → Type 0
HasFew few names = (texts_in few.names.items ≡ names) × (length few.taken ≡ 512)
    × ((n : List ℕ) → is_among names n ≡ true
    → slice_index_or few.taken (hash_from 0 n) false ≡ true)

-- these names were seen and no others
abbrev pub HasSeen : SeenNames → List (List ℕ) → Type 0
HasSeen (Few few) names = HasFew few names
HasSeen (Many set) names = Knows set names
