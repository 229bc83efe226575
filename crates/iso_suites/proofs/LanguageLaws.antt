-- The language of scripts keeps the laws of bodies.
use Rattle.std.proofs.Common.{◌≡◌, ℕ, List, ◌∷◌, Option, Some, None, true, false, refl, ap, ◌∙◌}
use Rattle.iso_suites.specs.ScriptLanguage.{Head, marks_on, marks_in, chain_rights, come_to, scripts}
use Rattle.iso_isolation.specs.Languages.{Agree, Alike, RightsLaws, BodyLaws}
use Rattle.iso_model.proofs.BodyKeys.{body-step-untouched, body-finish-untouched, body-step-alike, body-finish-alike}
use Rattle.iso_model.proofs.BodyRuns.{body-step-finish}
use Rattle.iso_model.proofs.RightsLemmas.{rights_of-append}
use Rattle.iso_model.specs.Bodies.{Stage, during, ended, going, is_ended}
use Rattle.iso_model.specs.Resources.{Resources}
use Rattle.iso_model.specs.Rights.{strongest, rights_of, is_readable, is_writable}
use Rattle.iso_model.specs.declared.access.Access.{Access}
use Rattle.iso_model.specs.declared.access.Access.TheVariants.{Read, Write}

pub readable-of : (a : Option Access) → is_writable a ≡ true → is_readable a ≡ true
readable-of None h = h
readable-of (Some a) h = refl

readable_more : (a b : Option Access) → is_readable b ≡ true → is_readable (strongest a b) ≡ true
readable_more None b h = h
readable_more (Some a) None h = refl
readable_more (Some a) (Some b) h = refl

writable_more : (a b : Option Access) → is_writable b ≡ true → is_writable (strongest a b) ≡ true
writable_more None b h = h
writable_more (Some a) None h = let wrong : false ≡ true = h in absurd (cc)
writable_more (Some Read) (Some b) h = h
writable_more (Some Write) (Some b) h = refl

-- the rights of a chain: what its innermost declares, and those of the chain around it
pub rights-cons : (h : Head) (hs : List Head) (k : List ℕ) → chain_rights (h ∷ hs) k ≡ strongest (rights_of (marks_on h) k) (chain_rights hs k)
rights-cons h hs k = rights_of-append (marks_on h) (marks_in hs) k

rights : RightsLaws scripts
rights = record {
  write_reads = λ hs k w. readable-of (chain_rights hs k) w;
  inner_reads = λ h hs k r. ap is_readable (rights-cons h hs k) ∙ readable_more (rights_of (marks_on h) k) (chain_rights hs k) r;
  inner_writes = λ h hs k w. ap is_writable (rights-cons h hs k) ∙ writable_more (rights_of (marks_on h) k) (chain_rights hs k) w;
}

step_reads : (hs : List Head) (s : Stage) (m n : Resources) → Agree scripts hs m n → Alike scripts hs (scripts.step hs s m) (scripts.step hs s n)
step_reads hs s m n a =
    let both = body-step-alike (chain_rights hs) (going s m) (going s n) (record { stage = refl; resources = record { same = a.at } }) in
    record { body = both.stage; at = both.resources.same }

step_ended : (hs : List Head) (s : Stage) (m : Resources) → is_ended s ≡ true → scripts.step hs s m ≡ record { body = s; content = m }
step_ended hs (during p n b js) m e = let wrong : false ≡ true = e in absurd (cc)
step_ended hs (ended a) m e = refl

finish_reads : (hs : List Head) (s : Stage) (m n : Resources) → Agree scripts hs m n → Alike scripts hs (scripts.finish hs s m) (scripts.finish hs s n)
finish_reads hs s m n a =
    let both = body-finish-alike (chain_rights hs) (going s m) (going s n) (record { stage = refl; resources = record { same = a.at } }) in
    record {
      body = λ i. ended (record { names = both.names i; printed = both.printed i; lines = both.lines i; endings = both.endings i });
      at = both.resources.same;
    }

finish_ended : (hs : List Head) (s : Stage) (m : Resources) → is_ended s ≡ true → scripts.finish hs s m ≡ record { body = s; content = m }
finish_ended hs (during p n b js) m e = let wrong : false ≡ true = e in absurd (cc)
finish_ended hs (ended a) m e = refl

pub scripts-laws : BodyLaws scripts
scripts-laws = record {
  rights = rights;
  step_writes = λ hs s m k w. body-step-untouched (chain_rights hs) k w (going s m);
  step_reads = step_reads;
  step_ended = step_ended;
  finish_writes = λ hs s m k w. body-finish-untouched (chain_rights hs) k w s m;
  finish_reads = finish_reads;
  finish_step = λ hs s m. ap come_to (body-step-finish (chain_rights hs) (going s m));
  finish_ended = finish_ended;
}
