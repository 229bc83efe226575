use Rattle.std.proofs.Common.{◌≡◌, ◌<◌, ◌≤◌, ◌+◌, ◌*◌, ℕ, List, Option, None, Some, get_or, length, set, unwrap_or, ap, ◌∙◌, arith}
use Rattle.std.proofs.lemmas.List.{length-set}
use Rattle.iso_plan.proofs.ColumnLemmas.{column-push, column-read, length-column}
use Rattle.iso_plan.proofs.SplitLemmas.{firsts-next, way-small}
use Rattle.iso_plan.specs.KeyGroups.{access_on, split_lead, way_of}
use Rattle.iso_plan.proofs.key_groups.split.Goals as goal

pub index-requires : goal.index-requires
index-requires c =
    let v = c.in_ok-ways.ways in
    let size : length v.items ≡ length c.args.leads.now = ap length c.in_ok-ways.ensures ∙ length-column (λ k. way_of (access_on k c.args.locks.now)) (length c.args.leads.now) in
    omega (arith, v.ok.0)

pub overflow_add-place : goal.overflow_add-place
overflow_add-place c =
    let leads = c.args.leads.now in
    let key = c.keys.key in
    let ways = λ (k : ℕ). way_of (access_on k c.args.locks.now) in
    let way : c.index.result.now ≡ ways key = c.index.ensures ∙ column-read ways c.in_ok-ways.ways.items (length leads) key c.index.result.now c.in_ok-ways.ensures (omega arith) in
    let small : ways key < 3 = way-small (access_on key c.args.locks.now) in
    let few : length leads ≤ 256 = c.requires.few in
    let lead = c.requires.leads key (omega arith) in
    omega arith

pub first_or-lead-requires : goal.first_or-lead-requires
first_or-lead-requires c =
    let leads = c.args.leads.now in
    let key = c.keys.key in
    let ways = λ (k : ℕ). way_of (access_on k c.args.locks.now) in
    let way : c.index.result.now ≡ ways key = c.index.ensures ∙ column-read ways c.in_ok-ways.ways.items (length leads) key c.index.result.now c.in_ok-ways.ensures (omega arith) in
    let small : ways key < 3 = way-small (access_on key c.args.locks.now) in
    let lead = c.requires.leads key (omega arith) in
    let size = c.keys.invariant.size in
    omega arith

pub keys-preserved : goal.keys-preserved
keys-preserved c =
    let leads = c.args.leads.now in
    let ls = c.args.locks.now in
    let key = c.keys.key in
    let firsts = c.keys.firsts.items in
    let groups = λ (k : ℕ). get_or leads k 0 in
    let ways = λ (k : ℕ). way_of (access_on k ls) in
    let way : c.index.result.now ≡ ways key = c.index.ensures ∙ column-read ways c.in_ok-ways.ways.items (length leads) key c.index.result.now c.in_ok-ways.ensures (omega arith) in
    let small : ways key < 3 = way-small (access_on key ls) in
    let lead = c.requires.leads key (omega arith) in
    let place = 3 * groups key + ways key in
    let first : c.first_or-lead.result ≡ unwrap_or (get_or firsts place None) key =
    c.first_or-lead.ensures.first ∙ ap (λ (w : ℕ). unwrap_or (get_or firsts (3 * groups key + w) None) key) way in
    let noted : c.first_or-lead.new.firsts.items ≡ set firsts place (Some (unwrap_or (get_or firsts place None) key)) =
    c.first_or-lead.ensures.noted ∙ ap (λ (w : ℕ). set firsts (3 * groups key + w) (Some c.first_or-lead.result)) way ∙ ap (λ (x : ℕ). set firsts place (Some x)) first in
    record {
      done = c.in_ok-push.ensures.items
          ∙ column-push (split_lead leads ls) c.keys.split.items key c.first_or-lead.result c.keys.invariant.done
          (first ∙ ap (λ (o : Option ℕ). unwrap_or o key) (c.keys.invariant.first (groups key) (ways key) lead small));
      size = ap length noted ∙ length-set firsts place (Some (unwrap_or (get_or firsts place None) key)) ∙ c.keys.invariant.size;
      first = λ r w hr hw.
          ap (λ (fs : List (Option ℕ)). get_or fs (3 * r + w) None) noted
          ∙ firsts-next groups ways (length leads) firsts key lead small c.keys.invariant.size c.keys.invariant.first r w hr hw;
    }
