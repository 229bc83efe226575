use Rattle.std.proofs.Common.{◌≡◌, ◌&&◌, ℕ, Bool, false, [], drop, get_or, length, map, not, refl, ap, sym, ◌∙◌, arith}
use Rattle.std.proofs.lemmas.List.{get_or_default, length-map, take_all}
use Rattle.std.specs.List.{list_any}
use Rattle.iso_model.specs.NameSets.{is_among}
use Rattle.iso_plan.proofs.ColumnLemmas.{column-from, column-read, length-column}
use Rattle.iso_plan.specs.Faults.{not_selected}
use Rattle.iso_plan.specs.Paths.{is_root}
use Rattle.iso_selection.proofs.NamedLemmas.{so_far, so_far-all, so_far-next, so_far-none, vain-here, vain-later}
use Rattle.iso_selection.specs.Wishes.{grants, paths_in, wish_of}
use Rattle.iso_selection.proofs.named.named_by.Goals as goal

pub wanted-init : goal.wanted-init
wanted-init c =
    let paths = c.args.paths.now in
    let wishes = map wish_of c.args.wanted.now in
    let f : ℕ → Bool = λ n. not (is_root n) && is_among (paths_in wishes) (get_or paths n []) in
    record {
      each = ap length c.in_ok-named.ensures ∙ length-column f (length paths);
      marked = λ n h. column-read f c.in_ok-named.named.items (length paths) n false c.in_ok-named.ensures h ∙ so_far-none (is_root n) (get_or paths n []) wishes;
      vain = refl;
    }

pub returns-then-not-mark-clause-unknown : goal.returns-then-not-mark-clause-unknown
returns-then-not-mark-clause-unknown c =
    let i = c.wanted.index in
    ap not_selected (sym c.wanted.invariant.vain ∙ vain-here (drop 1 c.args.paths.now) c.args.wanted.now i _ (omega arith) (sym c.if-not-mark.ensures.found))

pub wanted-preserved : goal.wanted-preserved
wanted-preserved c =
    let i = c.wanted.index in
    let paths = c.args.paths.now in
    let wanted = c.args.wanted.now in
    record {
      each = c.mark.ensures.each ∙ c.wanted.invariant.each;
      marked = λ n h. so_far-next (is_root n) (get_or paths n []) wanted i _ _ _ (omega arith) (c.wanted.invariant.marked n h) (c.mark.ensures.marked n h);
      vain = vain-later (drop 1 paths) wanted i _ (omega arith) (sym c.if-not-mark.ensures.found) ∙ c.wanted.invariant.vain;
    }

pub returns-clause-named : goal.returns-clause-named
returns-clause-named c =
    let paths = c.args.paths.now in
    let wanted = c.args.wanted.now in
    let wishes = map wish_of wanted in
    let named = c.wanted.named.items in
    let i = c.wanted.invariant in
    let each : length named ≡ length paths = i.each in
    let count = length-map wanted wish_of in
    column-from (λ n. not (is_root n) && list_any (grants (get_or paths n [])) wishes) named (length paths) each
    (λ n d h.
    get_or_default named n d false (omega arith) ∙ i.marked n h
    ∙ ap (so_far (is_root n) (get_or paths n []) wishes) (take_all c.wanted.index wishes (omega arith))
    ∙ so_far-all (is_root n) (get_or paths n []) wishes)
