use Rattle.std.proofs.Common.{◌≡◌, ap, sym, subst, ◌∙◌, slice_set}
use Rattle.std.proofs.lemmas.List.{get_or_read}
use Rattle.iso_lifecycle.proofs.Putting.{Puts, put-kept, put-seen, put-within}
use Rattle.iso_lifecycle.specs.Entries.{AreKept, entry_at, entry_with, seen}
use Rattle.iso_lifecycle.specs.Subjects.{subject}
use Rattle.iso_lifecycle.specs.declared.entry.Entry.{Entry}
use Rattle.iso_lifecycle.specs.declared.entry.Entry.TheVariants.{Empty}
use Rattle.iso_lifecycle.proofs.results.Results.put.Goals as goal

pub invariant_of-self : goal.invariant_of-self
invariant_of-self c =
    let s = subject c.done.inside.plan.value c.done.inside.start.value c.done.inside.node in
    let plan = c.self.inside.plan.now in
    let start = c.self.inside.start.value in
    let es = c.self.inside.entries.items in
    let p : Puts c.args.done c.args.self.now s c.done.inside.what plan start es =
    record { done_is = c.done.view_is; done = c.done.invariant; seen_is = c.self.view_is; kept = c.self.invariant; can = c.requires } in
    let put : c.put.new.self ≡ entry_with c.done.inside.what (entry_at es c.done.inside.node) = c.put.ensures
    ∙ ap (entry_with c.done.inside.what) (get_or_read es c.done.inside.node _ (put-within c.args.done c.args.self.now s c.done.inside.what plan start es p) c.index_mut.ensures.value Empty) in
    subst (λ (x : Entry). AreKept plan start (slice_set es c.done.inside.node x)) (sym put) (put-kept c.args.done c.args.self.now s c.done.inside.what plan start es p)

pub returns : goal.returns
returns c =
    let s = subject c.done.inside.plan.value c.done.inside.start.value c.done.inside.node in
    let plan = c.self.inside.plan.now in
    let start = c.self.inside.start.value in
    let es = c.self.inside.entries.items in
    let p : Puts c.args.done c.args.self.now s c.done.inside.what plan start es =
    record { done_is = c.done.view_is; done = c.done.invariant; seen_is = c.self.view_is; kept = c.self.invariant; can = c.requires } in
    let put : c.put.new.self ≡ entry_with c.done.inside.what (entry_at es c.done.inside.node) = c.put.ensures
    ∙ ap (entry_with c.done.inside.what) (get_or_read es c.done.inside.node _ (put-within c.args.done c.args.self.now s c.done.inside.what plan start es p) c.index_mut.ensures.value Empty) in
    ap (λ (x : Entry). seen plan start (slice_set es c.done.inside.node x)) put ∙ put-seen c.args.done c.args.self.now s c.done.inside.what plan start es p
