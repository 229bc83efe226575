-- What answers say of who has nothing to wake for.
use Rattle.std.proofs.Common.{◌≡◌, ℕ, List, Option, None, Some, MatchOption, Bool, true, false, ◌&&◌, ◌||◌, not, is_some, sym, refl, ap, subst, ◌∙◌}
use Rattle.std.proofs.lemmas.Bool.{and_parts}
use Rattle.std.specs.Bool.{Decides}
use Rattle.iso_desk.specs.Crews.{HasNothing}
use Rattle.iso_desk.specs.Offers.{IsLowestOffer, NothingOffered}
use Rattle.iso_desk.specs.Places.{IsEmpty, IsFirst}
use Rattle.iso_desk.specs.declared.line.Line.{Line}
use Rattle.iso_desk.specs.declared.line.Line.TheVariants.{Own}
use Rattle.iso_desk.specs.declared.line.Party.{Party}
use Rattle.iso_desk.specs.declared.line.Party.TheVariants.{Everyone, Worker}
use Rattle.iso_desk.specs.declared.marks.Marks.{Marks}
use Rattle.iso_desk.specs.declared.place.Place.{Place}

not_not : (b : Bool) → not (not b) ≡ b
not_not true = refl
not_not false = refl

-- an answer that is told by its opposite
pub of_not : (P : Type 0) (r s : Bool) → s ≡ not r → Decides (not s) P → Decides r P
of_not P r s e d = subst (λ (b : Bool). Decides b P) (ap not e ∙ not_not r) d

pub empty_by : (places : List Place) (l : Line) (o : Option ℕ) → MatchOption o (IsEmpty places l) (λ n. IsFirst places l n) → Decides (not (is_some o)) (IsEmpty places l)
empty_by places l None h = (λ e. h, λ e. refl)
empty_by places l (Some n) h = (λ e. cc, λ e. absurd (e n h.0))

pub nothing_by : (places : List Place) (held written : Marks) (p : Party) (o : Option ℕ) → MatchOption o (NothingOffered places held written p) (λ k. IsLowestOffer places held written p k)
    → Decides (not (is_some o)) (NothingOffered places held written p)
nothing_by places held written p None h = (λ e. h, λ e. refl)
nothing_by places held written p (Some k) h = (λ e. cc, λ e. absurd (e h.line h.of_party h.offered))

not_false : (b : Bool) → not b ≡ true → b ≡ false
not_false true e = sym e
not_false false e = refl

not_over : (b : Bool) → b ≡ false → not b ≡ true
not_over true e = sym e
not_over false e = refl

all_true : (a b c d e : Bool) → a ≡ true → b ≡ true → c ≡ true → d ≡ true → e ≡ true → (a && (b && (c && (d && e)))) ≡ true
all_true true true true true true p q r s t = refl
all_true false b c d e p q r s t = cc
all_true true false c d e p q r s t = cc
all_true true true false d e p q r s t = cc
all_true true true true false e p q r s t = cc
all_true true true true true false p q r s t = cc

looked_by : (loose looked : Bool) (P : Type 0) → Decides looked P → (not loose || looked) ≡ true → loose ≡ true → P
looked_by true looked P d h e = d.0 h
looked_by false looked P d h e = cc

by_looked : (loose looked : Bool) (P : Type 0) → Decides looked P → (loose ≡ true → P) → (not loose || looked) ≡ true
by_looked true looked P d f = d.1 (f refl)
by_looked false looked P d f = refl

pub idle_by : (places : List Place) (held written : Marks) (over loose : Bool) (rounds w : ℕ) (seen : Option ℕ) (own alone others looked : Bool)
    → Decides own (IsEmpty places (Own w)) → Decides alone (NothingOffered places held written (Worker w)) → Decides others (NothingOffered places held written Everyone)
    → Decides looked (seen ≡ Some rounds)
    → Decides (not over && (own && (alone && (others && (not loose || looked))))) (HasNothing places held written over loose rounds w seen)
idle_by places held written over loose rounds w seen own alone others looked down da dother dl = (
  λ e.
      let a = and_parts (not over) (own && (alone && (others && (not loose || looked)))) e in
      let b = and_parts own (alone && (others && (not loose || looked))) a.1 in
      let c = and_parts alone (others && (not loose || looked)) b.1 in
      let d = and_parts others (not loose || looked) c.1 in
      record {
        goes_on = not_false over a.0;
        own = down.0 b.0;
        alone = da.0 c.0;
        others = dother.0 d.0;
        looked = looked_by loose looked (seen ≡ Some rounds) dl d.1;
      },
  λ h. all_true (not over) own alone others (not loose || looked) (not_over over h.goes_on) (down.1 h.own) (da.1 h.alone) (dother.1 h.others) (by_looked loose looked (seen ≡ Some rounds) dl h.looked),
)
