-- Scripts that are read one after another.
use Rattle.std.proofs.Common.{◌≡◌, ℕ, ◌+◌, ◌<◌, List, [], ◌∷◌, ◌++◌, take, length, get_or}
use Rattle.std.proofs.lemmas.List.{map_more}
use Rattle.std.specs.Borrow.{Bor}
use Rattle.iso_model.specs.Scripts.{Script}
use Rattle.iso_script.specs.Grammar.{Reads, ReadsPlaced}
use Rattle.iso_script.specs.declared.place.NodePlace.{NodePlace}
use Rattle.iso_run.specs.Suites.{AreRead, texts}
use Rattle.iso_telling.specs.Written.{ArePlaced}

-- one script more
pub read_more : (ts : List (List ℕ)) (ss : List Script) (t : List ℕ) (s : Script) → AreRead ts ss → Reads t s → AreRead (ts ++ t ∷ []) (ss ++ s ∷ [])
read_more [] [] t s earlier last = (last, tt)
read_more [] (r ∷ ss) t s earlier last = absurd earlier
read_more (u ∷ ts) [] t s earlier last = absurd earlier
read_more (u ∷ ts) (r ∷ ss) t s earlier last = (earlier.0, read_more ts ss t s earlier.1 last)

pub placed_more : (ts : List (List ℕ)) (ss : List Script) (ps : List (List NodePlace)) (t : List ℕ) (s : Script) (p : List NodePlace)
    → ArePlaced ts ss ps → ReadsPlaced t s p → ArePlaced (ts ++ t ∷ []) (ss ++ s ∷ []) (ps ++ p ∷ [])
placed_more [] [] [] t s p earlier last = (last, tt)
placed_more [] [] (q ∷ ps) t s p earlier last = absurd earlier
placed_more [] (r ∷ ss) [] t s p earlier last = absurd earlier
placed_more [] (r ∷ ss) (q ∷ ps) t s p earlier last = absurd earlier
placed_more (u ∷ ts) [] [] t s p earlier last = absurd earlier
placed_more (u ∷ ts) [] (q ∷ ps) t s p earlier last = absurd earlier
placed_more (u ∷ ts) (r ∷ ss) [] t s p earlier last = absurd earlier
placed_more (u ∷ ts) (r ∷ ss) (q ∷ ps) t s p earlier last = (earlier.0, placed_more ts ss ps t s p earlier.1 last)

pub texts_more : (scripts : List (Bor (List ℕ))) (i : ℕ) (d : Bor (List ℕ)) → i < length scripts → texts (take (i + 1) scripts) ≡ texts (take i scripts) ++ (get_or scripts i d).now ∷ []
texts_more scripts i d within = map_more (λ (s : Bor (List ℕ)). s.now) scripts i d within
