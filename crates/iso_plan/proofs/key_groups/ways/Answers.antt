use Rattle.std.proofs.Common.{rules, ◌≡◌, ◌<◌, ◌+◌, ℕ, List, Some, drop, get_or, length, replicate, set, ap, sym, ◌∙◌, arith}
use Rattle.std.proofs.lemmas.List.{drop_all, get_or_default, length-replicate, length-set}
use Rattle.std.proofs.lemmas.List.Elements.{All-from_recursion, All-get_or}
use Rattle.iso_model.specs.declared.access.Access.TheVariants.{Read}
use Rattle.iso_plan.proofs.ColumnLemmas.{column-from, column-read, replicate-column}
use Rattle.iso_plan.proofs.SplitLemmas.{way-start, way_after, ways-next}
use Rattle.iso_plan.specs.KeyGroups.{access_on, way_of}
use Rattle.iso_plan.specs.declared.lock.Lock.{Lock}
use Rattle.iso_plan.proofs.key_groups.ways.Goals as goal

pub locks-init : goal.locks-init
locks-init c =
    let zeros = c.in_ok-ways.ways.items in
    let made : zeros ≡ replicate c.args.keys 0 = c.in_ok-ways.ensures.items_if_clones_equal (λ y h. search rules) in
    record {
      size = ap length made ∙ length-replicate c.args.keys 0;
      rest = λ k h.
          ap (way_after (access_on k c.args.locks.now))
          (column-read (λ _. 0) zeros c.args.keys k 0 (made ∙ replicate-column 0 c.args.keys) h)
          ∙ way-start (access_on k c.args.locks.now);
    }

pub locks-preserved : goal.locks-preserved
locks-preserved c =
    let ls = c.args.locks.now in
    let i = c.locks.lock-index in
    let none : Lock = record { key = 0; access = Read } in
    let l = get_or ls i none in
    let ws = c.locks.ways.items in
    let size = c.locks.invariant.size in
    let within : i < length ls = omega arith in
    let known : l.key < c.args.keys =
    All-get_or (λ (m : Lock). m.key < c.args.keys) ls i none within (All-from_recursion (λ (m : Lock). m.key < c.args.keys) ls c.requires.known) in
    let way : c.way_of.result ≡ way_of (Some l.access) = c.way_of.ensures in
    record {
      size = length-set ws l.key c.way_of.result ∙ size;
      rest = λ k h.
          ap (λ (w : ℕ). way_after (access_on k (drop (i + 1) ls)) (get_or (set ws l.key w) k 0)) way
          ∙ ways-next ls i k l ws c.requires.rise within (get_or_default ls i l none within) (omega arith)
          ∙ c.locks.invariant.rest k h;
    }

pub returns : goal.returns
returns c =
    let ws = c.locks.ways.items in
    let ls = c.args.locks.now in
    let size = c.locks.invariant.size in
    column-from (λ k. way_of (access_on k ls)) ws c.args.keys size
    (λ k d h.
    get_or_default ws k d 0 (omega arith)
    ∙ ap (λ (ms : List Lock). way_after (access_on k ms) (get_or ws k 0)) (sym (drop_all c.locks.lock-index ls (omega arith)))
    ∙ c.locks.invariant.rest k h)
