-- Two heads agree where nothing is told to differ.
use Rattle.std.proofs.Common.{◌≡◌, ◌↔◌, ℕ, List, Bool, true, false, ◌&&◌, not, Option, Some, None, IsFalse, is_none, refl, sym, ap, subst, true≢false}
use Rattle.iso_affected.proofs.FirstLemmas.{blocks-tell, first-none, no-rows, none-first, rows-none}
use Rattle.iso_affected.proofs.MarkLemmas.{Alike, at-mark, some_mark}
use Rattle.iso_affected.specs.Agreeing.{OwnAgree}
use Rattle.iso_affected.specs.Firsts.{AreRowsApart}
use Rattle.iso_affected.specs.Parts.{body_on, disabled_on, fields_on, lifecycle_on, statements, statics_on}
use Rattle.iso_affected.specs.Reasons.{AreBlocksApart, AreDeclaredApart, IsDifference, IsFirstApart, blocks_alike, declares_alike, is_nothing}
use Rattle.iso_affected.specs.declared.difference.Blocks.{Blocks}
use Rattle.iso_affected.specs.declared.difference.Declared.{Declared}
use Rattle.iso_affected.specs.declared.difference.Difference.{Difference}
use Rattle.iso_affected.specs.declared.firsts.RowsApart.{RowsApart}
use Rattle.iso_model.specs.Syntax.{Acts}
use Rattle.iso_model.specs.declared.heads.Mark.{Mark}
use Rattle.iso_model.specs.declared.place.Lifecycle.TheVariants.{BeforeAll, AfterAll, BeforeEach, AfterEach}
use Rattle.iso_settings.specs.Worlds.{Start}
use Rattle.iso_suites.specs.ScriptLanguage.{Head, is_of_test, marks_on, of_class, of_test}

none-first-start : (s t : Start) (ms : List Mark) (o : Option ℕ) → IsFirstApart s t ms o → Alike s t ms → o ≡ None
none-first-start s t ms None p alike = refl
none-first-start s t ms (Some place) p alike = absurd (p.apart some_mark (at-mark s t ms place some_mark p.within alike))

-- tests that all hold, each by itself
record Both (a b : Bool) : Type 0 where
  pub first : a ≡ true
  pub second : b ≡ true

both : (a b : Bool) → (a && b) ≡ true → Both a b
both true b e = record { first = refl; second = e }
both false b e = absurd (true≢false (sym e))

and-true : (a b : Bool) → a ≡ true → b ≡ true → (a && b) ≡ true
and-true true b e f = f
and-true false b e f = absurd (true≢false (sym e))

not-true : (b : Bool) → not b ≡ true → IsFalse b
not-true true e = absurd (true≢false (sym e))
not-true false e = refl

not-false : (b : Bool) → IsFalse b → not b ≡ true
not-false true e = absurd (true≢false e)
not-false false e = refl

none-true : {A : Type 0} (o : Option A) → is_none o ≡ true → o ≡ None
none-true None e = refl
none-true (Some x) e = absurd (true≢false (sym e))

true-none : {A : Type 0} (o : Option A) → o ≡ None → is_none o ≡ true
true-none None e = refl
true-none (Some x) e = let wrong : Some x ≡ None = e in absurd (cc)

-- heads of one kind with equal parts are equal
record SameParts (h g : Head) : Type 0 where
  pub kind : is_of_test h ≡ is_of_test g
  pub marks : marks_on h ≡ marks_on g
  pub disabled : disabled_on h ≡ disabled_on g
  pub statics : statics_on h ≡ statics_on g
  pub fields : fields_on h ≡ fields_on g
  pub before_all : lifecycle_on BeforeAll h ≡ lifecycle_on BeforeAll g
  pub after_all : lifecycle_on AfterAll h ≡ lifecycle_on AfterAll g
  pub before_each : lifecycle_on BeforeEach h ≡ lifecycle_on BeforeEach g
  pub after_each : lifecycle_on AfterEach h ≡ lifecycle_on AfterEach g
  pub test : body_on h ≡ body_on g

same-heads : (h g : Head) → SameParts h g → h ≡ g
same-heads (of_class c) (of_class d) p =
    let same : c ≡ d =
    λ i. record {
      statics = p.statics i;
      fields = p.fields i;
      marks = p.marks i;
      disabled = p.disabled i;
      before_all = p.before_all i;
      after_all = p.after_all i;
      before_each = p.before_each i;
      after_each = p.after_each i;
    } in
    ap of_class same
same-heads (of_class c) (of_test t) p = absurd (true≢false (sym p.kind))
same-heads (of_test t) (of_class c) p = absurd (true≢false p.kind)
same-heads (of_test t) (of_test u) p =
    let same : t ≡ u = λ i. record { marks = p.marks i; disabled = p.disabled i; body = p.test i } in
    ap of_test same

module _ (before after : Start) (h g : Head) (d : Difference) (is : IsDifference before after h g d) where
  declares : declares_alike d.declared ≡ true → (marks_on h ≡ marks_on g) × (disabled_on h ≡ disabled_on g) × (statics_on h ≡ statics_on g) × (fields_on h ≡ fields_on g)
  declares e =
      let last = both (not d.declared.marks && not d.declared.disabled && is_none d.declared.statics) (is_none d.declared.fields) e in
      let third = both (not d.declared.marks && not d.declared.disabled) (is_none d.declared.statics) last.first in
      let two = both (not d.declared.marks) (not d.declared.disabled) third.first in (
        is.declared.marks.0 (not-true d.declared.marks two.first),
        is.declared.disabled.0 (not-true d.declared.disabled two.second),
        first-none (statics_on h) (statics_on g) d.declared.statics is.declared.statics (none-true d.declared.statics third.second),
        first-none (fields_on h) (fields_on g) d.declared.fields is.declared.fields (none-true d.declared.fields last.second),
      )

  block : (a b : Acts) (o : Option RowsApart) → AreRowsApart (statements a) (statements b) o → is_none o ≡ true → a ≡ b
  block a b o rows e = blocks-tell a b (rows-none (statements a) (statements b) o rows (none-true o e))

  no-block : (a b : Acts) (o : Option RowsApart) → AreRowsApart (statements a) (statements b) o → a ≡ b → is_none o ≡ true
  no-block a b o rows e = true-none o (no-rows (statements a) (statements b) o rows (ap statements e))

  parts : is_nothing d ≡ true → SameParts h g
  parts e =
      let last = both (not d.kind && declares_alike d.declared && blocks_alike d.blocks) (is_none d.start) e in
      let third = both (not d.kind && declares_alike d.declared) (blocks_alike d.blocks) last.first in
      let two = both (not d.kind) (declares_alike d.declared) third.first in
      let b = d.blocks in
      let five = both (is_none b.before_all && is_none b.after_all && is_none b.before_each && is_none b.after_each) (is_none b.test) third.second in
      let four = both (is_none b.before_all && is_none b.after_all && is_none b.before_each) (is_none b.after_each) five.first in
      let three = both (is_none b.before_all && is_none b.after_all) (is_none b.before_each) four.first in
      let one = both (is_none b.before_all) (is_none b.after_all) three.first in
      let told = declares two.second in
      record {
        kind = is.kind.0 (not-true d.kind two.first);
        marks = told.0;
        disabled = told.1;
        statics = told.2;
        fields = told.3;
        before_all = block (lifecycle_on BeforeAll h) (lifecycle_on BeforeAll g) b.before_all is.blocks.before_all one.first;
        after_all = block (lifecycle_on AfterAll h) (lifecycle_on AfterAll g) b.after_all is.blocks.after_all one.second;
        before_each = block (lifecycle_on BeforeEach h) (lifecycle_on BeforeEach g) b.before_each is.blocks.before_each three.second;
        after_each = block (lifecycle_on AfterEach h) (lifecycle_on AfterEach g) b.after_each is.blocks.after_each four.second;
        test = block (body_on h) (body_on g) b.test is.blocks.test five.second;
      }

  agree : is_nothing d ≡ true → OwnAgree before after h g
  agree e =
      let same : h ≡ g = same-heads h g (parts e) in
      let last = both (not d.kind && declares_alike d.declared && blocks_alike d.blocks) (is_none d.start) e in
      let alike : Alike before after (marks_on g) = subst (IsFirstApart before after (marks_on g)) (none-true d.start last.second) is.start in
      record { head = same; starts = subst (λ (ms : List Mark). Alike before after ms) (sym (ap marks_on same)) alike }

  nothing : OwnAgree before after h g → is_nothing d ≡ true
  nothing own =
      let b = d.blocks in
      let w = is.blocks in
      let same = own.head in
      let alike : Alike before after (marks_on g) = subst (λ (ms : List Mark). Alike before after ms) (ap marks_on same) own.starts in
      let kind : not d.kind ≡ true = not-false d.kind (is.kind.1 (ap is_of_test same)) in
      let marks : not d.declared.marks ≡ true = not-false d.declared.marks (is.declared.marks.1 (ap marks_on same)) in
      let disabled : not d.declared.disabled ≡ true = not-false d.declared.disabled (is.declared.disabled.1 (ap disabled_on same)) in
      let statics : is_none d.declared.statics ≡ true = true-none d.declared.statics (none-first (statics_on h) (statics_on g) d.declared.statics is.declared.statics (ap statics_on same)) in
      let fields : is_none d.declared.fields ≡ true = true-none d.declared.fields (none-first (fields_on h) (fields_on g) d.declared.fields is.declared.fields (ap fields_on same)) in
      let before_all = no-block (lifecycle_on BeforeAll h) (lifecycle_on BeforeAll g) b.before_all w.before_all (ap (lifecycle_on BeforeAll) same) in
      let after_all = no-block (lifecycle_on AfterAll h) (lifecycle_on AfterAll g) b.after_all w.after_all (ap (lifecycle_on AfterAll) same) in
      let before_each = no-block (lifecycle_on BeforeEach h) (lifecycle_on BeforeEach g) b.before_each w.before_each (ap (lifecycle_on BeforeEach) same) in
      let after_each = no-block (lifecycle_on AfterEach h) (lifecycle_on AfterEach g) b.after_each w.after_each (ap (lifecycle_on AfterEach) same) in
      let test = no-block (body_on h) (body_on g) b.test w.test (ap body_on same) in
      let start = true-none d.start (none-first-start before after (marks_on g) d.start is.start alike) in
      rw (kind, marks, disabled, statics, fields, before_all, after_all, before_each, after_each, test, start) refl

pub nothing-differs : (before after : Start) (h g : Head) (d : Difference) → IsDifference before after h g d → (is_nothing d ≡ true) ↔ OwnAgree before after h g
nothing-differs before after h g d is = (agree before after h g d is, nothing before after h g d is)

-- what differs of two heads, from what does of those that are lent
pub difference-of : (before after : Start) (h g lent other : Head) (kind : Bool) {declared : Declared} {blocks : Blocks} {start : Option ℕ} {ms : List Mark} → lent ≡ h → other ≡ g
    → (IsFalse kind ↔ (is_of_test lent ≡ is_of_test other)) → AreDeclaredApart lent other declared → AreBlocksApart lent other blocks → ms ≡ marks_on other → IsFirstApart before after ms start
    → IsDifference before after h g (record { kind = kind; declared = declared; blocks = blocks; start = start })
difference-of before after h g lent other kind {declared} {blocks} {start} {ms} e f is declares apart m first =
    subst (λ (x : Head). IsDifference before after x g (record { kind = kind; declared = declared; blocks = blocks; start = start })) e
    (subst (λ (y : Head). IsDifference before after lent y (record { kind = kind; declared = declared; blocks = blocks; start = start })) f
    (record { kind = is; declared = declares; blocks = apart; start = subst (λ (l : List Mark). IsFirstApart before after l start) m first }))
