use Rattle.std.proofs.Common.{◌≡◌, ◌∷◌, ◌++◌, List, ℕ, Ok, length, string_bytes, ap, sym, ◌∙◌, arith}
use Rattle.std.proofs.lemmas.Grind.{common_steps}
use Rattle.std.proofs.lemmas.Result.{err_from_is_err_and}
use Rattle.std.proofs.lemmas.Str.{IsUtf8-string_bytes}
use Rattle.std.proofs.Math.Seq.{take-append_seam}
use Rattle.toml.specs.View.{members_view, table_view, view}
use Rattle.toml.proofs.Views.{Entry}
use Rattle.iso_model.specs.Properties.{Map}
use Rattle.iso_settings.specs.Leaves.{leaves_at, leaves_behind}
use Rattle.iso_settings.specs.Readings.{Reading, ◌>>=◌}
use Rattle.iso_settings.specs.Worlds.{texts_of}
use Rattle.iso_settings.proofs.WorldLemmas.{seam, texts_of-append, fault_first}
use Rattle.iso_settings.proofs.world.+texts.Goals as goal

pub add_texts-returns-in_err-add_value-clause-texts : goal.add_texts-returns-in_err-add_value-clause-texts
add_texts-returns-in_err-add_value-clause-texts t c =
    let (can, finite, path, all) = c.members.invariant in
    let e : Entry = (c.in-Some.name.now, c.in-Some.value.now) in
    let iter : c.members.name-iterator ≡ e ∷ c.next.new.self = grind (arith, common_steps) in
    let key = string_bytes c.args.path.now ++ string_bytes c.in-Some.name.now in
    let here = leaves_at key (view c.in-Some.value.now) in
    let more = leaves_behind (string_bytes c.args.path.now) (members_view c.next.new.self) in
    let pushed : string_bytes c.push_str.new.self ≡ key = c.in_ok-push_str.ensures.bytes ∙ rw (path, c.as_str.ensures.value) in
    let p = err_from_is_err_and c.from_residual-in_err-add_value.result c.from_residual-in_err-add_value.ensures.1 in
    let read : List ℕ → Reading Map = λ k. texts_of c.args.top.now c.members.texts (leaves_at k (view c.in-Some.value.now)) in
    let rest : Map → Reading Map = λ m. texts_of c.args.top.now m more in
    let whole : texts_of c.args.top.now c.args.texts.now (leaves_behind (string_bytes c.args.path.now) (table_view c.args.table.now)) ≡ read (string_bytes c.push_str.new.self) >>= rest =
    sym (rw iter at all) ∙ texts_of-append c.args.top.now here more c.members.texts ∙ ap (λ (k : List ℕ). read k >>= rest) (sym pushed) in
    rw (p.1, p.2) (fault_first (λ (x : Unit {0}). c.add_value.new.texts) (λ (x : Unit {0}). c.add_value.new.texts) _ (read (string_bytes c.push_str.new.self)) rest _ whole
    c.in_err-add_value.ensures.texts)

pub add_texts-truncate-requires : goal.add_texts-truncate-requires
add_texts-truncate-requires t c =
    let (can, finite, path, all) = c.members.invariant in
    let pushed : string_bytes c.push_str.new.self ≡ string_bytes c.args.path.now ++ string_bytes c.in-Some.name.now = c.in_ok-push_str.ensures.bytes ∙ rw (path, c.as_str.ensures.value) in
    λ _. seam _ _ _ _ (c.in_ok-add_value.ensures.key ∙ pushed) (IsUtf8-string_bytes c.in-Some.name.now) (ap length c.as_str-start.ensures.value)

pub add_texts-members-preserved : goal.add_texts-members-preserved
add_texts-members-preserved t c =
    let (can, finite, path, all) = c.members.invariant in
    let e : Entry = (c.in-Some.name.now, c.in-Some.value.now) in
    let iter : c.members.name-iterator ≡ e ∷ c.next.new.self = grind (arith, common_steps) in
    let key = string_bytes c.args.path.now ++ string_bytes c.in-Some.name.now in
    let here = leaves_at key (view c.in-Some.value.now) in
    let more = leaves_behind (string_bytes c.args.path.now) (members_view c.next.new.self) in
    let pushed : string_bytes c.push_str.new.self ≡ key = c.in_ok-push_str.ensures.bytes ∙ rw (path, c.as_str.ensures.value) in
    let kept : string_bytes c.add_value.new.key ≡ key = c.in_ok-add_value.ensures.key ∙ pushed in
    let read : texts_of c.args.top.now c.members.texts here ≡ Ok c.add_value.new.texts = rw pushed at c.in_ok-add_value.ensures.texts in (
      tt,
      tt,
      c.truncate.ensures.bytes ∙ rw (c.as_str-start.ensures.value, kept) (take-append_seam (string_bytes c.args.path.now) (string_bytes c.in-Some.name.now)),
      sym (ap (λ (r : Reading Map). r >>= (λ m. texts_of c.args.top.now m more)) read) ∙ sym (texts_of-append c.args.top.now here more c.members.texts) ∙ rw iter at all,
    )
