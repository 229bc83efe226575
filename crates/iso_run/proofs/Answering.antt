-- How what came of a run is answered.
use Rattle.std.specs.Bool.{⊤}
use Rattle.std.specs.Borrow.{Bor}
use Rattle.std.proofs.Common.{◌≡◌, ◌≢◌, inl, inr, ℕ, List, [], ◌∷◌, Option, Some, None, Bool, Result, Ok, Err, IfErr, IsErrAnd, MatchResult, OnOk, true, refl, ap, sym, subst, ◌∙◌}
use Rattle.iso_arguments.specs.declared.request.Extras.{Extras}
use Rattle.iso_arguments.specs.declared.request.InputFiles.{InputFiles}
use Rattle.iso_arguments.specs.RequestBounds.{NamesNothing}
use Rattle.iso_run.proofs.Late.{late-so}
use Rattle.iso_run.specs.Commands.{AreFor, IsRefused, files_asked, way_of}
use Rattle.iso_run.specs.ExitStatuses.{End, Whole, LacksFile, Refuses, GivesUp, BreaksOff, Answers, IfLate, IsEnded, IsOfFile, Leaves, NamesFile, command_end, end_of, run_end}
use Rattle.iso_run.specs.Replays.{Cause}
use Rattle.iso_run.specs.Watches.{TellsRun}
use Rattle.iso_telling.specs.Pages.{WatchedView}
use Rattle.iso_run.specs.Runs.{IsWritten, Product, TellsOf, Writes, suite_outcome, suite_report}
use Rattle.iso_run.specs.Suites.{Suite}
use Rattle.iso_run.specs.declared.command_fault.CommandFault.{CommandFault}
use Rattle.iso_run.specs.declared.run_fault.RunFault.{RunFault}
use Rattle.iso_run.specs.declared.inputs.Inputs.{Inputs}
use Rattle.iso_run.specs.declared.report.Summary.{Summary}
use Rattle.iso_run.specs.declared.way.Way.{Way}
use Rattle.iso_tap.specs.Sinks.{Account, HasFailed, Wrote, failures_after}
use Rattle.iso_github.specs.Errors.{errors_text}
use Rattle.iso_run.specs.Besides.{IsQuiet, NamesNone, files_of}
use Rattle.iso_run.specs.declared.besides.Besides.{Besides}
use Rattle.iso_telling.specs.NodePlaces.{node_places}
use Rattle.iso_telling.specs.Telling.{IsSummarized, IsTimed, IsTold, summary_of}
use Rattle.iso_telling.specs.Written.{lent}
use Rattle.iso_telling.specs.declared.tells.DurationsText.{DurationsText}
use Rattle.iso_telling.specs.declared.tells.SummaryText.{SummaryText}
use Rattle.iso_telling.specs.declared.tells.Tells.{Tells}

-- what is left by an end, where more is known of the whole and of the broken output
weaker : (X : Type 0) (P Q : Bool → Type 0) → (X → (ok : Bool) → P ok → Q ok) → (C D : Type 0) → (C → D) → (A B : Type 0)
    → (A → B) → (old new : Account) (end : End) → IfLate end X → Leaves P C A old new end → Leaves Q D B old new end
weaker X P Q f C D k A B g old new (Whole ok) late h = f late ok h
weaker X P Q f C D k A B g old new LacksFile late h = k h
weaker X P Q f C D k A B g old new Refuses late h = h
weaker X P Q f C D k A B g old new GivesUp late h = h
weaker X P Q f C D k A B g old new BreaksOff late h = g h

pub answered-as : (P Q : Bool → Type 0) → ((ok : Bool) → P ok → Q ok) → (C D : Type 0) → (C → D)
    → (old new : Account) (result : Result Bool CommandFault) → Answers P C old new result → Answers Q D old new result
answered-as P Q f C D k old new result h =
    let end = end_of (λ (ok : Bool). ok) command_end result in
    weaker ⊤ P Q (λ late ok h. f ok h) C D k _ _ (λ failed. failed) old new end (late-so ⊤ end tt) h

-- the files of what is told besides, by their names
pub files-named : (besides : Besides) (extras : Extras) → besides.failed ≡ extras.failed → besides.junit ≡ extras.junit
    → besides.html ≡ extras.html → besides.schedule ≡ extras.«record» → besides.trace ≡ extras.trace
    → files_of besides ≡ files_asked extras
files-named besides extras failed junit html schedule trace = rw (failed, junit, html, schedule, trace) refl

pub no-file : (besides : Besides) → NamesNone besides → NamesFile (files_of besides) → ⊥
no-file besides none (inl named) = named none.0
no-file besides none (inr (inl named)) = named none.1
no-file besides none (inr (inr (inl named))) = named none.2
no-file besides none (inr (inr (inr (inl named)))) = named none.3
no-file besides none (inr (inr (inr (inr (inl named))))) = named none.4
no-file besides none (inr (inr (inr (inr (inr nothing))))) = nothing

-- what is left beside a file that is lacking of these, where this is true of a whole output
abbrev pub Lacking : (Account → Bool → Type 0) → List (Option (Bor (List ℕ))) → Account → Type 0
Lacking P files new = (ok : Bool) × P new ok × NamesFile files

some_file : (file : Option (Bor (List ℕ))) (name : Bor (List ℕ)) → file ≡ Some name → file ≢ None
some_file file name e is = let some : Some name ≡ None = sym e ∙ is in cc

-- a file that is lacking is named, and its fault ends a command with the file lacking
pub named-file : (files : List (Option (Bor (List ℕ)))) (fault : CommandFault) → IsOfFile files fault → NamesFile files
named-file [] fault h = absurd h
named-file (file ∷ files) fault (inl h) = inl (some_file file h.0 h.1)
named-file (file ∷ files) fault (inr h) = inr (named-file files fault h)

pub lacks-file : (files : List (Option (Bor (List ℕ)))) (fault : CommandFault) → IsOfFile files fault → command_end fault ≡ LacksFile
lacks-file [] fault h = absurd h
lacks-file (file ∷ files) fault (inl h) = ap command_end h.2
lacks-file (file ∷ files) fault (inr h) = lacks-file files fault h

-- after a whole output, its flush and the files besides
ended-after : (P : Account → Bool → Type 0) (file : List (Option (Bor (List ℕ)))) (ok : Bool) (old mid new : Account) (text : List ℕ) → Wrote old mid text
    → P mid ok → (result : Result Bool CommandFault) → IsEnded ok file mid new result
    → Answers (P new) (Lacking P file new) old new result
ended-after P file ok old mid new text wrote w (Ok told) h =
    subst (λ (a : Account). P a told) (sym h.1) (subst (P mid) (sym h.0) w)
ended-after P file ok old mid new text wrote w (Err fault) (inl h) =
    subst (λ (f : CommandFault). Answers (P new) (Lacking P file new) old new (Err f)) (sym h.0) (h.1 ∙ ap (failures_after true) wrote.failures)
ended-after P file ok old mid new text wrote w (Err fault) (inr h) =
    subst (Leaves (P new) (Lacking P file new) (HasFailed old.failures new.failures) old new) (sym (lacks-file file fault h.1))
    (ok, subst (λ (a : Account). P a ok) (sym h.0) w, named-file file fault h.1)

-- what is told of a run is answered of its files
pub run-answered : (X : Type 0) (P : Account → Bool → Type 0) (product : Suite → Product) (inputs : Inputs) (way : Way) (old mid : Account)
    → (X → (ok : Bool) → IsWritten product inputs way old mid ok → P mid ok)
    → (file : List (Option (Bor (List ℕ)))) (new : Account) (ran : Result Summary RunFault) → IfLate (end_of (λ (s : Summary). s.all_ok) run_end ran) X
    → Writes (λ (s : Summary). s.all_ok) product inputs way old mid ran
    → (result : Result Bool CommandFault)
    → MatchResult ran (λ s. IsEnded s.all_ok file mid new result) (λ fault. (new ≡ mid) × IsErrAnd result (λ told. command_end told ≡ run_end fault))
    → Answers (P new) (Lacking P file new) old new result
run-answered X P product inputs way old mid f file new (Ok summary) late writes result h =
    let w = writes.leaves in
    ended-after P file summary.all_ok old mid new (product w.1.0).text w.1.2.0 (f late summary.all_ok w) result h
run-answered X P product inputs way old mid f file new (Err fault) late writes (Ok ok) h = absurd h.1
run-answered X P product inputs way old mid f file new (Err fault) late writes (Err told) h =
    let left = weaker X (IsWritten product inputs way old mid) (P mid) f ⊥ (Lacking P file mid) (λ none. absurd none)
    _ (HasFailed old.failures mid.failures) (λ cut. cut.2.failed) old mid (run_end fault) late writes.leaves in
    subst (λ (a : Account). Leaves (P a) (Lacking P file a) (HasFailed old.failures a.failures) old a (command_end told)) (sym h.0)
    (subst (Leaves (P mid) (Lacking P file mid) (HasFailed old.failures mid.failures) old mid) (sym h.1) left)

-- a plain run that is told as refused was refused
pub run-refused : (files : InputFiles) (input : Option (List ℕ)) (inputs : Inputs) (serial : Bool) (way : Way) → NamesNothing files
    → AreFor files input inputs → way ≡ way_of serial → (file : List (Option (Bor (List ℕ)))) (old mid new : Account)
    → (ran : Result Summary RunFault) → Writes (λ (s : Summary). s.all_ok) suite_report inputs way old mid ran
    → (result : Result Bool CommandFault)
    → MatchResult ran (λ s. IsEnded s.all_ok file mid new result) (λ fault. (new ≡ mid) × IsErrAnd result (λ told. command_end told ≡ run_end fault))
    → IfErr result (λ told. command_end told ≡ Refuses → IsRefused input)
run-refused files input inputs serial way nothing are is file old mid new ran writes (Ok ok) h = tt
run-refused files input inputs serial way nothing are is file old mid new (Ok summary) writes (Err told) (inl h) =
    λ refuses. let broke : BreaksOff ≡ Refuses = sym (ap command_end h.0) ∙ refuses in absurd (cc)
run-refused files input inputs serial way nothing are is file old mid new (Ok summary) writes (Err told) (inr h) =
    λ refuses. let lacks : LacksFile ≡ Refuses = sym (lacks-file file told h.1) ∙ refuses in absurd (cc)
run-refused files input inputs serial way nothing are is file old mid new (Err fault) writes (Err told) h =
    λ refuses. record {
      files = files;
      nothing = nothing;
      serial = serial;
      inputs = inputs;
      are_for = are;
      fault = fault;
      refuses = sym h.1 ∙ refuses;
      cause = subst (λ (w : Way). Cause inputs w fault) is writes.cause;
    }

quiet-told : (inputs : Inputs) (times : List (Option ℕ)) (watched : Option WatchedView) (old new : Tells) → TellsOf inputs times watched old new → IsQuiet old → IsQuiet new
quiet-told inputs times watched old new h quiet =
    let suite = h.0 in
    let placed = h.2.told.placed in
    let sites = h.2.told.sites in
    let summarized = summary_of h.2.written.texts suite.nodes (suite_outcome suite) sites (lent old.names.now) in
    let errors = errors_text suite.nodes (suite_outcome suite) (node_places (lent old.names.now) suite.nodes sites (suite_outcome suite)) in (
      subst (λ (o : Option SummaryText). IsSummarized summarized o new.summary) quiet.0 placed.summary,
      subst (λ (o : Option DurationsText). IsTimed suite.nodes times o new.durations) quiet.1 h.2.told.durations,
      subst (λ (o : Option Account). IsTold errors o new.github) quiet.2 placed.github,
    )

-- where nothing is to be told on standard error, nothing was told
pub still-quiet : {A F : Type 0} (inputs : Inputs) (way : Way) (old new : Tells) (result : Result A F) → OnOk result (TellsRun inputs way old new)
    → IsQuiet old → OnOk result (IsQuiet new)
still-quiet inputs way old new (Ok a) h quiet = quiet-told inputs h.0 h.1 old new h.3 quiet
still-quiet inputs way old new (Err e) h quiet = tt

pub still-quiet-untimed : {A F : Type 0} (inputs : Inputs) (old new : Tells) (result : Result A F) → OnOk result (TellsOf inputs [] None old new)
    → IsQuiet old → OnOk result (IsQuiet new)
still-quiet-untimed inputs old new (Ok a) h quiet = quiet-told inputs [] None old new h quiet
still-quiet-untimed inputs old new (Err e) h quiet = tt
