use Rattle.std.proofs.Common.{◌≡◌, ℕ, Some, length, min, take, drop, ap, ap₂, sym, ◌∙◌, subst}
use Rattle.std.proofs.lemmas.List.{length-map, take_min, drop_min}
use Rattle.std.specs.Arc.{arc_value}
use Rattle.iso_model.specs.Environments.{environment}
use Rattle.iso_model.specs.ScriptView.{class_head_of}
use Rattle.iso_model.specs.Tests.{names_in}
use Rattle.iso_lifecycle.specs.Heads.{heads_in}
use Rattle.iso_lifecycle.specs.JobPlaces.{IsPlaced, classes_seen, job_at, outside}
use Rattle.iso_lifecycle.proofs.JobLemmas.{job-seen, job-words}
use Rattle.iso_lifecycle.proofs.due_blocks.Rest.environment.Goals as goal

pub returns-clause-names : goal.returns-clause-names
returns-clause-names c =
    let old = c.args.self.now in
    let os = heads_in old.classes.now in
    let body = old.test in
    let j = c.args.job in
    let xs = old.names in
    let count : length os ≡ length old.classes.now = length-map old.classes.now (λ h. class_head_of (arc_value h)) in
    let placed : IsPlaced (length os) (Some j) = subst (λ (n : ℕ). IsPlaced n (Some j)) (sym count) c.requires in
    let len : c.len.result ≡ length xs = c.len.ensures in
    let seen : c.names_of-seen.result ≡ min (job_at os body j).seen (length xs) =
    c.names_of-seen.ensures ∙ ap₂ min (ap (λ n. names_in (outside os n)) (c.classes_seen-classes.ensures.seen ∙ ap (λ n. classes_seen n j) (sym count)) ∙ job-seen os body j placed) len in
    let taken = c.in_ok-bindings.ensures.taken ∙ ap (λ n. take n xs) seen ∙ take_min (job_at os body j).seen xs in
    let words = c.words.ensures ∙ job-words os body j placed in
    c.new.ensures ∙ (λ i. environment (taken i) old.printed (words i))

pub returns-clause-beside : goal.returns-clause-beside
returns-clause-beside c =
    let old = c.args.self.now in
    let os = heads_in old.classes.now in
    let body = old.test in
    let j = c.args.job in
    let xs = old.names in
    let count : length os ≡ length old.classes.now = length-map old.classes.now (λ h. class_head_of (arc_value h)) in
    let placed : IsPlaced (length os) (Some j) = subst (λ (n : ℕ). IsPlaced n (Some j)) (sym count) c.requires in
    let len : c.len.result ≡ length xs = c.len.ensures in
    let seen : c.names_of-seen.result ≡ min (job_at os body j).seen (length xs) =
    c.names_of-seen.ensures ∙ ap₂ min (ap (λ n. names_in (outside os n)) (c.classes_seen-classes.ensures.seen ∙ ap (λ n. classes_seen n j) (sym count)) ∙ job-seen os body j placed) len in
    let left = c.in_ok-bindings.ensures.left ∙ ap (λ n. drop n xs) seen ∙ drop_min (job_at os body j).seen xs in
    λ i. record { unseen = left i; lines = old.lines; endings = old.endings }
