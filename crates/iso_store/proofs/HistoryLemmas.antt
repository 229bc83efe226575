-- Histories that become one another by changes.
use Rattle.std.proofs.Common.{◌≡◌, ◌<◌, ◌≤◌, ℕ, suc, List, [], ◌∷◌, ◌++◌, length, reverse, take, refl, sym, ap, subst, ◌∙◌, arith, append_assoc, length-append}
use Rattle.std.proofs.Math.Seq.{take-append_seam}
use Rattle.std.proofs.lemmas.List.{length-reverse, reverse-append, reverse-reverse}
use Rattle.iso_model.specs.declared.resource.Resource.{Resource}
use Rattle.iso_model.specs.declared.resource.Change.{Change}
use Rattle.iso_store.specs.Histories.{History, values, after, before_last, before, oldest, start_of, IsEarlier}

-- a history is its own mark, and stays one under further changes
pub earlier_itself : (h : History) → IsEarlier h h
earlier_itself h = record { newer = []; is = refl }

pub earlier_after : (mark h : History) (change : Change) → IsEarlier mark h → IsEarlier mark (after change h)
earlier_after mark h change e = record { newer = (after change h).now ∷ e.newer; is = ap (λ vs. (after change h).now ∷ vs) e.is }

-- the same where histories are known by equations
pub earlier_same : {mark h : History} → h ≡ mark → IsEarlier mark h
earlier_same {mark} {h} e = subst (IsEarlier mark) (sym e) (earlier_itself mark)

pub earlier_equal : {mark g h : History} → IsEarlier mark g → h ≡ g → IsEarlier mark h
earlier_equal {mark} before e = subst (IsEarlier mark) (sym e) before

pub earlier_longer : {mark g h : History} {now : Resource} → IsEarlier mark g → h ≡ record { now = now; past = values g } → IsEarlier mark h
earlier_longer {mark} {g} {h} {now} before e =
    subst (IsEarlier mark) (sym e) (record { newer = now ∷ before.newer; is = ap (λ vs. now ∷ vs) before.is })

-- a mark of a mark is a mark
pub earlier_of_earlier : (a b c : History) → IsEarlier a b → IsEarlier b c → IsEarlier a c
earlier_of_earlier a b c e f = record { newer = f.newer ++ e.newer; is = f.is ∙ ap (λ vs. f.newer ++ vs) e.is ∙ sym (append_assoc f.newer e.newer (values a)) }

-- going back one change keeps each earlier mark
back : (m : History) (n : Resource) (ps newer : List Resource) → length m.past < length ps → n ∷ ps ≡ newer ++ values m → IsEarlier m (before_last n ps)
back m n [] newer h e = absurd (omega arith)
back m n (p ∷ ps) [] h e = let same : length (n ∷ p ∷ ps) ≡ length (values m) = ap length e in absurd (omega arith)
back m n (p ∷ ps) (x ∷ newer) h e = record { newer = newer; is = cc }

pub earlier_before : (m h : History) → length m.past < length h.past → IsEarlier m h → IsEarlier m (before h)
earlier_before m h shorter e = back m h.now h.past e.newer shorter e.is

-- a history that has no more changes than its mark stands there
stands : (m h : History) (newer : List Resource) → length h.past ≤ length m.past → values h ≡ newer ++ values m → h ≡ m
stands m h [] shorter e =
    let now : h.now ≡ m.now = cc in
    let past : h.past ≡ m.past = cc in
    λ i. record { now = now i; past = past i }
stands m h (x ∷ newer) shorter e = let same : suc (length h.past) ≡ suc (length (newer ++ values m)) = ap length e in absurd (omega (arith, length-append newer (values m)))

pub earlier_stands : (m h : History) → length h.past ≤ length m.past → IsEarlier m h → h ≡ m
earlier_stands m h shorter e = stands m h e.newer shorter e.is

-- the start stays
oldest-before : (n : Resource) (ps : List Resource) → start_of (before_last n ps) ≡ oldest n ps
oldest-before n [] = refl
oldest-before n (p ∷ ps) = refl

pub start_of-before : (h : History) → start_of (before h) ≡ start_of h
start_of-before h = oldest-before h.now h.past

oldest-append : (newer : List Resource) (x y : Resource) (ys : List Resource) → oldest x (newer ++ y ∷ ys) ≡ oldest y ys
oldest-append [] x y ys = refl
oldest-append (n ∷ newer) x y ys = oldest-append newer n y ys

same_start : (m : History) (x : Resource) (xs newer : List Resource) → x ∷ xs ≡ newer ++ values m → oldest x xs ≡ start_of m
same_start m x xs [] e = let now : x ≡ m.now = cc in let past : xs ≡ m.past = cc in λ i. oldest (now i) (past i)
same_start m x xs (n ∷ newer) e =
    let past : xs ≡ newer ++ values m = cc in
    subst (λ (vs : List Resource). oldest x vs ≡ start_of m) (sym past) (oldest-append newer x m.now m.past)

-- a mark has the start of the histories that came after it
pub start_of_earlier : (m h : History) → IsEarlier m h → start_of h ≡ start_of m
start_of_earlier m h e = same_start m h.now h.past e.newer e.is

-- the past of a history ends with that of its mark
ends_with : (now : Resource) (ps newer : List Resource) (m : History) → now ∷ ps ≡ newer ++ values m → (front : List Resource) × (ps ≡ front ++ m.past)
ends_with now ps [] m e = let same : ps ≡ m.past = cc in ([], same)
ends_with now ps (n ∷ ns) m e = let same : ps ≡ ns ++ values m = cc in (ns ++ m.now ∷ [], same ∙ sym (append_assoc ns (m.now ∷ []) m.past))

-- of values that are kept the oldest first, as many as a mark has stood before it
pub moment-past : (vs : List Resource) (m : History) (now : Resource) (newer : List Resource) → now ∷ reverse vs ≡ newer ++ values m → reverse (take (length m.past) vs) ≡ m.past
moment-past vs m now newer e =
    let ends = ends_with now (reverse vs) newer m e in
    let is : vs ≡ reverse m.past ++ reverse ends.0 = sym (reverse-reverse vs) ∙ ap reverse ends.1 ∙ reverse-append ends.0 m.past in
    ap reverse (ap (λ (n : ℕ). take n vs) (sym (length-reverse m.past)) ∙ ap (take (length (reverse m.past))) is ∙ take-append_seam (reverse m.past) (reverse ends.0))
    ∙ reverse-reverse m.past
