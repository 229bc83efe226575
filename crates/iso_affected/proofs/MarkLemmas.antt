-- Starting values that are equal at the keys of marks.
use Rattle.std.proofs.Common.{◌≡◌, ℕ, zero, suc, ◌<◌, List, [], ◌∷◌, ◌++◌, length, get_or, Bool, true, false, cond, Option, Some, None, bytes_eq, refl, sym, ap, ◌∙◌, arith, true≢false, ◌⊎◌, inl, inr, ◌↔◌, IsTrue, is_some, not}
use Rattle.std.specs.Cmp.Lexicographic.{bytes_decides}
use Rattle.iso_affected.specs.Reasons.{IsFirstApart}
use Rattle.iso_lifecycle.specs.Subjects.{started}
use Rattle.iso_model.proofs.RightsLemmas.{rights_of-append}
use Rattle.iso_model.specs.ChainAgreement.{EqualAt}
use Rattle.iso_model.specs.Rights.{declared_by, is_readable, rights_of, strongest}
use Rattle.iso_model.specs.declared.access.Access.{Access}
use Rattle.iso_model.specs.declared.access.Access.TheVariants.{Read}
use Rattle.iso_model.specs.declared.heads.Mark.{Mark}
use Rattle.iso_model.specs.declared.heads.Target.TheVariants.{Itself}
use Rattle.iso_settings.specs.Worlds.{Start, starting_value_in}

abbrev pub Alike : Start → Start → List Mark → Type 0
Alike s t ms = EqualAt (rights_of ms) (started s) (started t)

-- what may be looked at by two rights together may be by one of them
pub readable-either : (a b : Option Access) → is_readable (strongest a b) ≡ true → (is_readable a ≡ true) ⊎ (is_readable b ≡ true)
readable-either None b e = inr e
readable-either (Some a) b e = inl refl

pub readable-first : (a b : Option Access) → is_readable a ≡ true → is_readable (strongest a b) ≡ true
readable-first None b e = absurd (true≢false (sym e))
readable-first (Some a) None e = refl
readable-first (Some a) (Some b) e = refl

readable-second : (a b : Option Access) → is_readable b ≡ true → is_readable (strongest a b) ≡ true
readable-second None b e = e
readable-second (Some a) None e = absurd (true≢false (sym e))
readable-second (Some a) (Some b) e = refl

declared-key : (m : Mark) (k : List ℕ) (b : Bool) → bytes_eq k m.key ≡ b → is_readable (cond b (Some m.access) None) ≡ true → k ≡ m.key
declared-key m k true e h = (bytes_decides k m.key).0 e
declared-key m k false e h = absurd (true≢false (sym h))

one-mark : (s t : Start) (m : Mark) → starting_value_in s m.key ≡ starting_value_in t m.key → (k : List ℕ)
    → is_readable (declared_by m k) ≡ true → started s k ≡ started t k
one-mark s t m here k h =
    let is : k ≡ m.key = declared-key m k (bytes_eq k m.key) refl h in
    ap (started s) is ∙ ap Some here ∙ sym (ap (started t) is)

-- alike at the keys of some marks, and of one more
pub more-marks : (s t : Start) (ms : List Mark) (m : Mark) → Alike s t ms → starting_value_in s m.key ≡ starting_value_in t m.key → Alike s t (ms ++ m ∷ [])
more-marks s t ms m before here = record {
  same = λ k e.
      elim (readable-either (rights_of ms k) (rights_of (m ∷ []) k) (ap is_readable (sym (rights_of-append ms (m ∷ []) k)) ∙ e)) [
        | inl h ↦ before.same k h
        | inr h ↦ elim (readable-either (declared_by m k) None h) [
          | inl d ↦ one-mark s t m here k d
          | inr d ↦ absurd (true≢false (sym d))
        ]
      ];
}

own-readable : (m : Mark) → is_readable (declared_by m m.key) ≡ true
own-readable m = ap (λ (b : Bool). is_readable (cond b (Some m.access) None)) ((bytes_decides m.key m.key).1 refl)

-- the key of a mark may be looked at
pub mark-readable : (ms : List Mark) (i : ℕ) (d : Mark) → i < length ms → is_readable (rights_of ms (get_or ms i d).key) ≡ true
mark-readable [] i d h = absurd (omega arith)
mark-readable (m ∷ ms) zero d h = readable-first (declared_by m m.key) (rights_of ms m.key) (own-readable m)
mark-readable (m ∷ ms) (suc i) d h =
    let k = (get_or ms i d).key in
    readable-second (declared_by m k) (rights_of ms k) (mark-readable ms i d (omega arith))

-- where the starts are alike at all marks, they are at each
pub at-mark : (s t : Start) (ms : List Mark) (i : ℕ) (d : Mark) → i < length ms → Alike s t ms → starting_value_in s (get_or ms i d).key ≡ starting_value_in t (get_or ms i d).key
at-mark s t ms i d h alike =
    let whole : Some (starting_value_in s (get_or ms i d).key) ≡ Some (starting_value_in t (get_or ms i d).key) = alike.same (get_or ms i d).key (mark-readable ms i d h) in
    cc

pub some_mark : Mark
some_mark = record { access = Read; target = Itself; key = [] }

-- where no mark is the first whose key starts with another value, all start alike
pub none-apart : (s t : Start) (ms : List Mark) (o : Option ℕ) (b : Bool) → is_some o ≡ not b → IsFirstApart s t ms o → IsTrue b ↔ Alike s t ms
none-apart s t ms None true e p = (λ yes_. p, λ alike. refl)
none-apart s t ms None false e p = let wrong : false ≡ true = e in absurd (cc)
none-apart s t ms (Some place) true e p = let wrong : true ≡ false = e in absurd (cc)
none-apart s t ms (Some place) false e p = (λ yes_. absurd (true≢false (sym yes_)), λ alike. absurd (p.apart some_mark (at-mark s t ms place some_mark p.within alike)))
