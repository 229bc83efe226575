-- A body changes no key and looks at none that its rights don't let it.
use Rattle.std.proofs.Common.{◌≡◌, ℕ, zero, suc, List, [], ◌∷◌, ◌++◌, take, drop, Bool, true, false, cond, refl, ap, ◌∙◌, subst}
use Rattle.iso_model.specs.ChainAgreement.{EqualAt, Alike, AlikeBodies}
use Rattle.iso_model.specs.Blocks.{block}
use Rattle.iso_model.specs.Bodies.{body_at, Stage, during, ended, Going, account_after, stage_at, stage_from, stage_step, body_step, body_steps, body_finish, body_finished}
use Rattle.iso_model.specs.BodyAgreement.{AlikeGoing}
use Rattle.iso_model.specs.Changes.{OneChange, none, kind_at}
use Rattle.iso_model.specs.Environments.{Environment, environment}
use Rattle.iso_model.specs.Jobs.{Job, is_due, with_job, with_due, with_jobs}
use Rattle.iso_model.specs.Resources.{Resources}
use Rattle.iso_model.specs.Rights.{Rights, is_writable}
use Rattle.iso_model.specs.Statements.{Local, State}
use Rattle.iso_model.specs.Steps.{finish, machine_at}
use Rattle.iso_model.specs.Tests.{Body}
use Rattle.iso_model.proofs.ChainRuns.{block-alike}
use Rattle.iso_model.proofs.Pairs.{finish-alike, step-alike}
use Rattle.iso_model.proofs.Untouched.{block-untouched, finish-untouched, step-untouched, step-one, step-kinds}

-- a step makes one change at most
stage-step-one : (r : Rights) (stage : Stage) (m : Resources) → OneChange r m (stage_step r stage m).resources
stage-step-one r (during p n b js) m = step-one r (machine_at p m)
stage-step-one r (ended a) m = none

pub body-step-one : (r : Rights) (g : Going) → OneChange r g.resources (body_step r g).resources
body-step-one r g = stage-step-one r g.stage g.resources

-- no other key is changed
module _ (r : Rights) (k : List ℕ) (locked : is_writable (r k) ≡ false) where
  stage-step-untouched : (stage : Stage) (m : Resources) → (stage_step r stage m).resources k ≡ m k
  stage-step-untouched (during p n b js) m = step-untouched r k locked (machine_at p m)
  stage-step-untouched (ended a) m = refl

  pub body-step-untouched : (g : Going) → (body_step r g).resources k ≡ g.resources k
  body-step-untouched g = stage-step-untouched g.stage g.resources

  due-untouched : (j : Job) (b : Body) → (with_due r j b).resources k ≡ b.resources k
  due-untouched j b =
      elim (is_due j b.endings) as (λ t. (cond t (with_job r j b) b).resources k ≡ b.resources k) [
        | true ↦ block-untouched r k locked j.acts (environment (take j.seen b.names) b.printed j.words) b.resources
        | false ↦ refl
      ]

  pub jobs-untouched : (js : List Job) (b : Body) → (with_jobs r js b).resources k ≡ b.resources k
  jobs-untouched [] b = refl
  jobs-untouched (j ∷ js) b = jobs-untouched js (with_due r j b) ∙ due-untouched j b

  pub body-finish-untouched : (stage : Stage) (m : Resources) → (body_finish r stage m).resources k ≡ m k
  body-finish-untouched (during p n b js) m =
      let s = finish r p.pieces (record { here = p.here; resources = m }) in
      jobs-untouched js (body_at (account_after n s.here b) s.resources) ∙ finish-untouched r k locked p.pieces (record { here = p.here; resources = m })
  body-finish-untouched (ended a) m = refl

-- every value keeps its kind
module _ (r : Rights) (k : List ℕ) where
  stage-step-kinds : (stage : Stage) (m : Resources) → kind_at (stage_step r stage m).resources k ≡ kind_at m k
  stage-step-kinds (during p n b js) m = step-kinds r k (machine_at p m)
  stage-step-kinds (ended a) m = refl

  pub body-step-kinds : (g : Going) → kind_at (body_step r g).resources k ≡ kind_at g.resources k
  body-step-kinds g = stage-step-kinds g.stage g.resources

-- over resources that are equal at the keys of the rights the same is done
module _ (r : Rights) where
  stage-step-alike : (stage : Stage) (m n : Resources) → EqualAt r m n → AlikeGoing r (stage_step r stage m) (stage_step r stage n)
  stage-step-alike (during p k b js) m n same =
      let both = step-alike r p m n same in
      record { stage = λ i. stage_at (stage_from js) (both.pieces i) (both.state.here i) k b js; resources = both.state.resources }
  stage-step-alike (ended a) m n same = record { stage = refl; resources = same }

  pub body-step-alike : (g h : Going) → AlikeGoing r g h → AlikeGoing r (body_step r g) (body_step r h)
  body-step-alike g h both =
      subst (λ (s : Stage). AlikeGoing r (body_step r g) (stage_step r s h.resources)) both.stage (stage-step-alike g.stage g.resources h.resources both.resources)

  pub body-steps-alike : (n : ℕ) (g h : Going) → AlikeGoing r g h → AlikeGoing r (body_steps r n g) (body_steps r n h)
  body-steps-alike zero g h both = both
  body-steps-alike (suc n) g h both = body-step-alike (body_steps r n g) (body_steps r n h) (body-steps-alike n g h both)

  job-alike : (j : Job) (b d : Body) → AlikeBodies r b d → AlikeBodies r (with_job r j b) (with_job r j d)
  job-alike j b d both =
      let env : Environment = environment (take j.seen b.names) b.printed j.words in
      let same : env ≡ environment (take j.seen d.names) d.printed j.words = λ i. environment (take j.seen (both.names i)) (both.printed i) j.words in
      let after = subst (λ (e : Environment). Alike r (block r j.acts env b.resources) (block r j.acts e d.resources)) same (block-alike r j.acts env b.resources d.resources both.resources) in
      record {
        names = λ i. (after.here i).env.names ++ drop j.seen (both.names i);
        resources = after.resources;
        printed = ap (λ (l : Local). l.env.printed) after.here;
        lines = λ i. both.lines i ++ (after.here i).lines;
        endings = λ i. both.endings i ++ (after.here i).ending ∷ [];
      }

  choice-alike : (t : Bool) (b d b' d' : Body) → AlikeBodies r b d → AlikeBodies r b' d' → AlikeBodies r (cond t b b') (cond t d d')
  choice-alike true b d b' d' x y = x
  choice-alike false b d b' d' x y = y

  due-alike : (j : Job) (b d : Body) → AlikeBodies r b d → AlikeBodies r (with_due r j b) (with_due r j d)
  due-alike j b d both =
      subst (λ (t : Bool). AlikeBodies r (cond (is_due j b.endings) (with_job r j b) b) (cond t (with_job r j d) d))
      (ap (is_due j) both.endings) (choice-alike (is_due j b.endings) (with_job r j b) (with_job r j d) b d (job-alike j b d both) both)

  pub jobs-alike : (js : List Job) (b d : Body) → AlikeBodies r b d → AlikeBodies r (with_jobs r js b) (with_jobs r js d)
  jobs-alike [] b d both = both
  jobs-alike (j ∷ js) b d both = jobs-alike js (with_due r j b) (with_due r j d) (due-alike j b d both)

  stage-finish-alike : (stage : Stage) (m n : Resources) → EqualAt r m n → AlikeBodies r (body_finish r stage m) (body_finish r stage n)
  stage-finish-alike (during p k b js) m n same =
      let s : State = record { here = p.here; resources = m } in
      let t : State = record { here = p.here; resources = n } in
      let both = finish-alike r p.pieces s t (record { here = refl; resources = same }) in
      let x = finish r p.pieces s in
      let y = finish r p.pieces t in
      jobs-alike js (body_at (account_after k x.here b) x.resources) (body_at (account_after k y.here b) y.resources)
      (record {
        names = ap (λ (l : Local). (account_after k l b).names) both.here;
        resources = both.resources;
        printed = ap (λ (l : Local). l.env.printed) both.here;
        lines = ap (λ (l : Local). b.lines ++ l.lines) both.here;
        endings = ap (λ (l : Local). b.endings ++ l.ending ∷ []) both.here;
      })
  stage-finish-alike (ended a) m n same = record { names = refl; resources = same; printed = refl; lines = refl; endings = refl }

  pub body-finish-alike : (g h : Going) → AlikeGoing r g h → AlikeBodies r (body_finished r g) (body_finished r h)
  body-finish-alike g h both =
      subst (λ (s : Stage). AlikeBodies r (body_finished r g) (body_finish r s h.resources)) both.stage (stage-finish-alike g.stage g.resources h.resources both.resources)
