-- Bodies of scripts end: those that a run has come nearer to their end by each step.
use Rattle.std.proofs.Common.{◌≡◌, List, [], ◌∷◌, Bool, true, false, ◌&&◌, not, refl}
use Rattle.iso_suites.specs.ScriptLanguage.{Head, of_class, of_test, chain_rights, classes_in, entering, closing, scripts}
use Rattle.iso_isolation.specs.Histories.{EndLaws}
use Rattle.iso_model.proofs.BodyRuns.{from-ready, unless-ready, body-step-ready, body-step-distance}
use Rattle.iso_model.specs.Bodies.{Stage, during, ended, IsReadyStage, going, fresh_account, opening_stage, test_stage, closing_stage}
use Rattle.iso_model.specs.Jobs.{opening_names, before_all_jobs, after_all_jobs, test_jobs}
use Rattle.iso_model.specs.Openings.{Frame, statics_of}
use Rattle.iso_model.specs.Statements.{is_well}
use Rattle.iso_model.specs.Steps.{is_done, is_ready}
use Rattle.iso_model.specs.Tests.{test_names}

-- whether a body is as it is at its beginning and after each step
abbrev is_ready_stage : Stage → Bool
is_ready_stage (during p n b js) = is_ready p.pieces && (not (is_done p.pieces) && is_well p.here.ending)
is_ready_stage (ended a) = true

three : (a d w : Bool) → a ≡ true → d ≡ false → w ≡ true → (a && (not d && w)) ≡ true
three a d w ha hd hw = λ i. ha i && (not (hd i) && hw i)

parts : (a d w : Bool) → (a && (not d && w)) ≡ true → (a ≡ true) × ((d ≡ false) × (w ≡ true))
parts true false true e = (refl, (refl, refl))
parts true false false e = let wrong : false ≡ true = e in absurd (cc)
parts true true w e = let wrong : false ≡ true = e in absurd (cc)
parts false d w e = let wrong : false ≡ true = e in absurd (cc)

told : (s : Stage) → IsReadyStage s → is_ready_stage s ≡ true
told (during p n b js) r = three (is_ready p.pieces) (is_done p.pieces) (is_well p.here.ending) r.ready.first r.some (r.ready.live r.some)
told (ended a) r = refl

known : (s : Stage) → is_ready_stage s ≡ true → IsReadyStage s
known (during p n b js) e =
    let q = parts (is_ready p.pieces) (is_done p.pieces) (is_well p.here.ending) e in
    record { ready = record { first = q.0; live = λ some. q.1.1 }; some = q.1.0 }
known (ended a) e = tt

begins : (hs : List Head) (fs : List Frame) → is_ready_stage (entering hs fs) ≡ true
begins [] fs = refl
begins (of_class c ∷ hs) fs =
    told (opening_stage c (classes_in hs) fs) (unless-ready c.disabled (opening_names c fs) (before_all_jobs c (classes_in hs) fs))
begins (of_test t ∷ hs) fs =
    told (test_stage t (classes_in hs) fs) (unless-ready t.disabled (test_names (classes_in hs) fs) (test_jobs t (classes_in hs)))

begins_closing : (hs : List Head) (fs : List Frame) → is_ready_stage (closing hs fs) ≡ true
begins_closing [] fs = refl
begins_closing (of_class c ∷ hs) fs =
    told (closing_stage c (classes_in hs) fs) (from-ready (after_all_jobs c (classes_in hs) fs) (fresh_account (statics_of fs)))
begins_closing (of_test t ∷ hs) fs = refl

pub scripts-end : EndLaws scripts
scripts-end = record {
  is_ready = is_ready_stage;
  begins = begins;
  begins_closing = begins_closing;
  steps = λ hs s m r. told (scripts.step hs s m).body (body-step-ready (chain_rights hs) (going s m) (known s r));
  nearer = λ hs s m r e. body-step-distance (chain_rights hs) (going s m) (known s r) e;
}
