use Rattle.std.proofs.Common.{◌≡◌, ◌∙◌, ℕ, List, Ok, Some, Bool, true, sym, subst}
use Rattle.iso_explain_settings.specs.Listing.{listing_text}
use Rattle.iso_run.proofs.Answering.{answered-as}
use Rattle.iso_run.proofs.Documents.{document-of_settings}
use Rattle.iso_run.proofs.settings.show_settings.Goals as goal
use Rattle.iso_run.specs.Commands.{IsListedFor}
use Rattle.iso_run.specs.Suites.{document, settings_from}
use Rattle.iso_settings.specs.Leaves.{leaves}
use Rattle.iso_tap.specs.Sinks.{Wrote}

same-text : (a b : List ℕ) → Some a ≡ Some b → a ≡ b
same-text a b h = cc

pub returns-in-Ok : goal.returns-in-Ok
returns-in-Ok g c =
    let old = g.W.Sink.account c.args.output.now in
    let new = g.W.Sink.account c.show_bytes.new.output in
    let bytes = c.in_ok-bytes.bytes.items in
    let count = c.in_ok-processors.processors in
    let settings = c.in-Ok.settings in
    let read : settings_from bytes count ≡ Ok settings = subst (λ (bs : List ℕ). settings_from bs count ≡ Ok settings) c.deref.ensures.value c.in-Ok.ensures.exact in
    let found = document-of_settings bytes count settings read in
    let text = listing_text (leaves found.0) settings count in
    let told = c.in_ok-text-in-Ok.ensures found.0 (subst (λ (bs : List ℕ). document bs ≡ Some found.0) (sym c.deref-in-Ok-2.ensures.value) found.1) in
    let same = same-text c.bytes.result.now text (sym c.bytes.ensures ∙ told) in
    let listed : (ok : Bool) → (ok ≡ true) × Wrote old new c.bytes.result.now → (ok ≡ true) × IsListedFor c.args.name c.args.asked old new =
    λ ok h. (
      h.0,
      record {
        bytes = bytes;
        named = c.in_ok-bytes.ensures.unnamed;
        processors = count;
        counted = c.in_ok-processors.ensures.counted;
        settings = settings;
        read = read;
        members = found.0;
        document = found.1;
        wrote = subst (λ (t : List ℕ). Wrote old new t) same h.1;
      },
    ) in
    answered-as _ _ listed ⊥ ⊥ (λ h. h) old new c.show_bytes.result c.show_bytes.ensures
