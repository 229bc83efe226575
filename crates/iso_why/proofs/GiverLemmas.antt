-- The nodes that gave a lock, one after another.
use Rattle.std.proofs.Common.{◌≡◌, ℕ, zero, suc, ◌+◌, ◌-◌, ◌<◌, ◌≤◌, List, [], ◌∷◌, ◌++◌, Option, Some, None, Bool, true, false, inl, inr, ◌||◌, ◌&&◌, ◌==◌, cond, codes, filter, length, refl, sym, ap, ap₂, ◌∙◌, arith, append_assoc, append-nil}
use Rattle.std.proofs.lemmas.Bool.{cases_lt}
use Rattle.std.proofs.lemmas.List.Elements.{filter-append}
use Rattle.std.specs.List.{flat_map, range_with_len}
use Rattle.iso_model.proofs.RightsLemmas.{strongest-assoc, strongest-comm}
use Rattle.iso_model.specs.Rights.{is_writable, strongest}
use Rattle.iso_model.specs.declared.access.Access.{Access}
use Rattle.iso_model.specs.declared.access.Access.TheVariants.{Read, Write}
use Rattle.iso_plan.proofs.PathLemmas.{IsBelow, eq_not, eq_same, under-le}
use Rattle.iso_plan.specs.Locks.{is_write}
use Rattle.iso_plan.specs.Paths.{is_under, nodes_under}
use Rattle.iso_plan.specs.PathTexts.{path_text}
use Rattle.iso_plan.specs.Tree.{Row}
use Rattle.iso_plan.specs.declared.lock.Lock.{Lock}
use Rattle.iso_why.specs.Givers.{givers, gives}
use Rattle.iso_why.specs.Next.{IsNext, passing}
use Rattle.iso_why.specs.WhyText.{from_text, paths_text, why_text}
use Rattle.iso_why.specs.declared.why.Cause.TheVariants.{Marked}

-- a mark more among those that are looked at
pub mark-more : (found mark rest : Option Access) → strongest found (strongest mark rest) ≡ strongest (strongest mark found) rest
mark-more found mark rest = sym (strongest-assoc found mark rest) ∙ ap (λ a. strongest a rest) (strongest-comm found mark)

-- the numbers from one on, with it apart
range-next : (end n : ℕ) → n < end → range_with_len n (end - n) ≡ n ∷ range_with_len (n + 1) (end - (n + 1))
range-next end n h =
    let e : end - n ≡ suc (end - (n + 1)) = omega arith in
    rw e refl

-- a number that passes, or doesn't
pub passing-yes : (p : ℕ → Bool) (n end : ℕ) → n < end → p n ≡ true → passing p n end ≡ n ∷ passing p (n + 1) end
passing-yes p n end h e = ap (filter p) (range-next end n h) ∙ ap (λ t. cond t (n ∷ passing p (n + 1) end) (passing p (n + 1) end)) e

pub passing-no : (p : ℕ → Bool) (n end : ℕ) → n < end → p n ≡ false → passing p n end ≡ passing p (n + 1) end
passing-no p n end h e = ap (filter p) (range-next end n h) ∙ ap (λ t. cond t (n ∷ passing p (n + 1) end) (passing p (n + 1) end)) e

pub passing-end : (p : ℕ → Bool) (n end : ℕ) → end ≤ n → passing p n end ≡ []
passing-end p n end h =
    let e : end - n ≡ 0 = omega arith in
    rw e refl

both_by : (u g : ℕ → Bool) (n : ℕ) (ns : List ℕ) (a b : Bool) → g n ≡ b → filter g (filter u ns) ≡ filter (λ m. u m && g m) ns
    → filter g (cond a (n ∷ filter u ns) (filter u ns)) ≡ cond (a && b) (n ∷ filter (λ m. u m && g m) ns) (filter (λ m. u m && g m) ns)
both_by u g n ns true true e ih = ap (λ t. cond t (n ∷ filter g (filter u ns)) (filter g (filter u ns))) e ∙ ap (λ xs. n ∷ xs) ih
both_by u g n ns true false e ih = ap (λ t. cond t (n ∷ filter g (filter u ns)) (filter g (filter u ns))) e ∙ ih
both_by u g n ns false b e ih = ih

-- those that pass one test of those that pass another
filter-both : (u g : ℕ → Bool) (ns : List ℕ) → filter g (filter u ns) ≡ filter (λ m. u m && g m) ns
filter-both u g [] = refl
filter-both u g (n ∷ ns) = both_by u g n ns (u n) (g n) refl (filter-both u g ns)

-- none passes before a number
front : (p : ℕ → Bool) (end a : ℕ) → a ≤ end → ((m : ℕ) → m < a → p m ≡ false) → passing p 0 end ≡ passing p a end
front p end zero h none = refl
front p end (suc a) h none =
    front p end a (omega arith) (λ m less. none m (omega arith)) ∙ passing-no p a end (omega arith) (none a (omega arith))
    ∙ ap (λ n. passing p n end) (let e : a + 1 ≡ suc a = omega arith in e)

later : (p : ℕ → Bool) (a last end : ℕ) → a < end → a < last → (t : Bool) → p a ≡ t → passing p (a + 1) end ≡ passing p (a + 1) last → passing p a end ≡ passing p a last
later p a last end h k true e ih = passing-yes p a end h e ∙ ap (λ ns. a ∷ ns) ih ∙ sym (passing-yes p a last k e)
later p a last end h k false e ih = passing-no p a end h e ∙ ih ∙ sym (passing-no p a last k e)

-- or from a number on
back : (p : ℕ → Bool) (last end : ℕ) → last ≤ end → ((m : ℕ) → last ≤ m → m < end → p m ≡ false) → (n a : ℕ) → end - a ≡ n → passing p a end ≡ passing p a last
back p last end h none zero a e = passing-end p a end (omega arith) ∙ sym (passing-end p a last (omega arith))
back p last end h none (suc n) a e =
    elim (cases_lt a last) [
      | inl less ↦ later p a last end (omega arith) less (p a) refl (back p last end h none n (a + 1) (omega arith))
      | inr more ↦
          passing-no p a end (omega arith) (none a more (omega arith)) ∙ back p last end h none n (a + 1) (omega arith)
          ∙ passing-end p (a + 1) last (omega arith) ∙ sym (passing-end p a last more)
    ]

-- whether a node stands in another and gives it a lock
abbrev pub is_giver : List Row → ℕ → Lock → ℕ → Bool
is_giver tree n l m = is_under tree n m && gives tree l m

outside : (u g : Bool) → u ≡ false → (u && g) ≡ false
outside true g h = absurd (cc)
outside false g h = refl

lower_by : (tree : List Row) → IsBelow tree → (n m : ℕ) → m < n → (t : Bool) → is_under tree n m ≡ t → t ≡ false
lower_by tree b n m h true e = let le = under-le tree b n m e in absurd (omega arith)
lower_by tree b n m h false e = refl

past_by : (tree : List Row) (n m last : ℕ) → last ≤ m → (is_under tree n m ≡ true → m < last) → (t : Bool) → is_under tree n m ≡ t → t ≡ false
past_by tree n m last h past true e = let less = past e in absurd (omega arith)
past_by tree n m last h past false e = refl

-- the nodes that gave a lock stand from the node on, and below its end
pub givers-are : (tree : List Row) → IsBelow tree → (n : ℕ) (l : Lock) (last : ℕ) → n ≤ length tree → last ≤ length tree
    → ((m : ℕ) → m < length tree → is_under tree n m ≡ true → m < last) → givers tree n l ≡ passing (is_giver tree n l) n last
givers-are tree b n l last inside within past =
    let p = is_giver tree n l in
    let end = length tree in
    let all : end - 0 ≡ end = omega arith in
    filter-both (is_under tree n) (gives tree l) (range_with_len 0 end)
    ∙ ap (λ count. filter p (range_with_len 0 count)) (sym all)
    ∙ front p end n inside (λ m less. outside (is_under tree n m) (gives tree l m) (lower_by tree b n m less (is_under tree n m) refl))
    ∙ back p last end within (λ m more less. outside (is_under tree n m) (gives tree l m) (past_by tree n m last more (past m less) (is_under tree n m) refl)) (end - n) n refl

-- paths behind a separator, each further one behind a comma
abbrev pub separated : List Row → List ℕ → List ℕ → List ℕ
separated tree sep [] = []
separated tree sep (n ∷ ns) = (sep ++ path_text tree n) ++ separated tree (codes ", ") ns

separated-more : (tree : List Row) (ns : List ℕ) → flat_map (λ n. codes ", " ++ path_text tree n) ns ≡ separated tree (codes ", ") ns
separated-more tree [] = refl
separated-more tree (n ∷ ns) = ap (λ (t : List ℕ). (codes ", " ++ path_text tree n) ++ t) (separated-more tree ns)

pub paths-separated : (tree : List Row) (ns : List ℕ) → paths_text tree ns ≡ separated tree [] ns
paths-separated tree [] = refl
paths-separated tree (n ∷ ns) = ap (λ (t : List ℕ). path_text tree n ++ t) (separated-more tree ns)

-- the pieces of a lock's line before the nodes
pub lock-head : {a b x y : List ℕ} → a ≡ x → b ≡ y → codes "    " ++ (a ++ (b ++ (codes " from " ++ []))) ≡ codes "    " ++ (x ++ y) ++ codes " from "
lock-head {x = x} {y = y} e f =
    rw (e, f) (sym (append_assoc (codes "    ") (x ++ y) (codes " from ") ∙ ap (λ t. codes "    " ++ t) (append_assoc x y (codes " from "))))

-- where a node has a lock from
pub from-read : (tree : List Row) (n : ℕ) (l : Lock) → l.key ≡ 0 → l.access ≡ Read → codes "every top-level class" ≡ from_text tree n l
from-read tree n l e f =
    let all = codes "isolated " ++ paths_text tree (givers tree n l) in
    sym (ap₂ (λ (b w : Bool). cond b (cond w all (codes "every top-level class")) (paths_text tree (givers tree n l)))
    (ap (λ k. k == 0) e ∙ eq_same 0) (ap (λ a. is_writable (Some a)) f))

pub from-write : (tree : List Row) (n : ℕ) (l : Lock) → l.key ≡ 0 → l.access ≡ Write → codes "isolated " ++ paths_text tree (givers tree n l) ≡ from_text tree n l
from-write tree n l e f =
    let all = codes "isolated " ++ paths_text tree (givers tree n l) in
    sym (ap₂ (λ (b w : Bool). cond b (cond w all (codes "every top-level class")) (paths_text tree (givers tree n l)))
    (ap (λ k. k == 0) e ∙ eq_same 0) (ap (λ a. is_writable (Some a)) f))

pub from-other : (tree : List Row) (n : ℕ) (l : Lock) → (l.key ≡ 0 → ⊥) → paths_text tree (givers tree n l) ≡ from_text tree n l
from-other tree n l h =
    sym (ap (λ (b : Bool). cond b (cond (is_write l) (codes "isolated " ++ paths_text tree (givers tree n l)) (codes "every top-level class")) (paths_text tree (givers tree n l))) (eq_not l.key 0 h))

-- another node that is marked
pub marked-other : (tree : List Row) (n m : ℕ) → (m ≡ n → ⊥) → codes "marked on " ++ path_text tree m ≡ why_text tree n (Marked m)
marked-other tree n m h = sym (ap (λ (b : Bool). cond b (codes "marked") (codes "marked on " ++ path_text tree m)) (eq_not m n h))

-- the pieces of who forces, before its path
pub forced-head : {a x : List ℕ} → a ≡ x → codes "forced by w:" ++ (a ++ (codes " of " ++ [])) ≡ codes "forced by w:" ++ x ++ codes " of "
forced-head {x = x} e = rw e (sym (append_assoc (codes "forced by w:") x (codes " of ")))
