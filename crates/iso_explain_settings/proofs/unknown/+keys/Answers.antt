use Rattle.std.proofs.Common.{◌≡◌, ◌∷◌, ◌++◌, length, string_bytes, ap, sym, ◌∙◌, arith}
use Rattle.std.proofs.lemmas.Grind.{common_steps}
use Rattle.std.proofs.lemmas.Str.{IsUtf8-string_bytes}
use Rattle.std.proofs.Math.Seq.{take-append_seam}
use Rattle.toml.specs.View.{members_view, view}
use Rattle.toml.proofs.Views.{Entry}
use Rattle.iso_settings.specs.Leaves.{leaves_at, leaves_behind}
use Rattle.iso_settings.proofs.WorldLemmas.{seam}
use Rattle.iso_explain_settings.specs.Unknown.{Kept, kept_of, with_keys}
use Rattle.iso_explain_settings.proofs.UnknownLemmas.{with_keys-append}
use Rattle.iso_explain_settings.proofs.unknown.+keys.Goals as goal

pub add_keys-truncate-requires : goal.add_keys-truncate-requires
add_keys-truncate-requires t c =
    let (can, finite, path, all) = c.members.invariant in
    let pushed : string_bytes c.push_str.new.self ≡ string_bytes c.args.path.now ++ string_bytes c.in-Some.name.now = c.in_ok-push_str.ensures.bytes ∙ rw (path, c.as_str.ensures.value) in
    λ _. seam _ _ _ _ (c.in_ok-add_value.ensures.key ∙ pushed) (IsUtf8-string_bytes c.in-Some.name.now) (ap length c.as_str-start.ensures.value)

pub add_keys-members-preserved : goal.add_keys-members-preserved
add_keys-members-preserved t c =
    let (can, finite, path, all) = c.members.invariant in
    let e : Entry = (c.in-Some.name.now, c.in-Some.value.now) in
    let iter : c.members.name-iterator ≡ e ∷ c.next.new.self = grind (arith, common_steps) in
    let key = string_bytes c.args.path.now ++ string_bytes c.in-Some.name.now in
    let here = leaves_at key (view c.in-Some.value.now) in
    let more = leaves_behind (string_bytes c.args.path.now) (members_view c.next.new.self) in
    let pushed : string_bytes c.push_str.new.self ≡ key = c.in_ok-push_str.ensures.bytes ∙ rw (path, c.as_str.ensures.value) in
    let kept : string_bytes c.add_value.new.key ≡ key = c.in_ok-add_value.ensures.key ∙ pushed in
    let read : kept_of c.add_value.new.unknown ≡ with_keys (kept_of c.members.unknown) here = rw pushed at c.in_ok-add_value.ensures.keys in (
      tt,
      tt,
      c.truncate.ensures.bytes ∙ rw (c.as_str-start.ensures.value, kept) (take-append_seam (string_bytes c.args.path.now) (string_bytes c.in-Some.name.now)),
      ap (λ (k : Kept). with_keys k more) read ∙ sym (with_keys-append here more (kept_of c.members.unknown)) ∙ rw iter at all,
    )
