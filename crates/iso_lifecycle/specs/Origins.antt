-- What a body is of, and what it comes to.
--
-- body done whole: What all steps of a body come to, and that an ended body has come to it and has
-- left its frame (`done_whole`, `HasCome`, `HasLeft`).
use Rattle.std.specs.Prelude.{◌≡◌, ℕ, List, length, Option, Some, refl}
use Rattle.std.specs.Coded.{Coded, Coded-set, code_by, coded×, coded_list, coded_option, coded_ℕ, Unit-prop, Π_prop}
use Rattle.iso_model.specs.Bodies.{Account, Stage, account_of, body_finished, during, ended}
use Rattle.iso_model.specs.Openings.{statics_of}
use Rattle.iso_model.specs.Rights.{Rights}
use Rattle.iso_model.specs.Tests.{Body}
use Rattle.iso_model.specs.contracts.access.Access as access
use Rattle.iso_model.specs.contracts.names.Binding as binding
use Rattle.iso_model.specs.contracts.outcome.Ending as ending
use Rattle.iso_model.specs.declared.names.Binding.{Binding}
use Rattle.iso_model.specs.declared.outcome.Ending.{Ending}
use Rattle.iso_lifecycle.specs.Subjects.{Subject, begun, enclosing, opening_of, rights_of_subject, subject_code}
use Rattle.iso_lifecycle.specs.declared.kind.BodyKind.{BodyKind}
use Rattle.iso_lifecycle.specs.declared.kind.BodyKind.TheVariants.{BeforeAll, Test, AfterAll}

-- how many of the names of a `before_all` are of the enclosing classes
abbrev pub outer_names : BodyKind → Subject → ℕ
outer_names BeforeAll s = length (statics_of (opening_of (enclosing s)).frames)
outer_names Test s = 0
outer_names AfterAll s = 0

-- what a body comes to, done whole
abbrev pub done_whole : BodyKind → Subject → Body
done_whole kind s = body_finished (rights_of_subject s) (begun kind s)

-- an ended `before_all` has its class's frame
abbrev pub HasFrame : BodyKind → Subject → Option Subject → Type 0
HasFrame BeforeAll s frame = frame ≡ Some s
HasFrame Test s frame = Unit {0}
HasFrame AfterAll s frame = Unit {0}

-- an ended body came to what it comes to, done whole
abbrev pub HasCome : BodyKind → Subject → Stage → Type 0
HasCome kind s (during p n b js) = Unit {0}
HasCome kind s (ended a) = a ≡ account_of (done_whole kind s)

-- an ended body has its frame
abbrev pub HasLeft : BodyKind → Subject → Stage → Option Subject → Type 0
HasLeft kind s (during p n b js) frame = Unit {0}
HasLeft kind s (ended a) frame = HasFrame kind s frame

-- the rights of a body are its node's
abbrev pub HasRights : Subject → Rights → Type 0
HasRights s r = (k : List ℕ) → r k ≡ rights_of_subject s k

-- each of these has one proof at most
abbrev Parts : Type 0
Parts = List Binding × (ℕ × (List (List ℕ) × List Ending))

abbrev account_code : Coded Account
account_code =
    code_by Parts (coded× (coded_list binding.the_row.coded)
    (coded× coded_ℕ (coded× (coded_list (coded_list coded_ℕ))
    (coded_list ending.the_row.coded))))
    (λ a. (a.names, (a.printed, (a.lines, a.endings))))
    (λ p. record { names = p.0; printed = p.1.0; lines = p.1.1.0; endings = p.1.1.1 }) (λ _. refl)

pub HasFrame-prop : (kind : BodyKind) (s : Subject) (frame : Option Subject)
    → IsProp (HasFrame kind s frame)
HasFrame-prop BeforeAll s frame = Coded-set (coded_option subject_code) frame (Some s)
HasFrame-prop Test s frame = Unit-prop
HasFrame-prop AfterAll s frame = Unit-prop

pub HasCome-prop : (kind : BodyKind) (s : Subject) (stage : Stage) → IsProp (HasCome kind s stage)
HasCome-prop kind s (during p n b js) = Unit-prop
HasCome-prop kind s (ended a) = Coded-set account_code a (account_of (done_whole kind s))

pub HasLeft-prop : (kind : BodyKind) (s : Subject) (stage : Stage) (frame : Option Subject)
    → IsProp (HasLeft kind s stage frame)
HasLeft-prop kind s (during p n b js) frame = Unit-prop
HasLeft-prop kind s (ended a) frame = HasFrame-prop kind s frame

pub HasRights-prop : (s : Subject) (r : Rights) → IsProp (HasRights s r)
HasRights-prop s r =
    Π_prop (λ k. Coded-set (coded_option access.the_row.coded) (r k) (rights_of_subject s k))
