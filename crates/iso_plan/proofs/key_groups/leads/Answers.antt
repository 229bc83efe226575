use Rattle.std.proofs.Common.{rules, ◌≡◌, ◌<◌, ◌≤◌, ◌+◌, [], ℕ, List, get_or, length, replicate, subst, take, ap, ap₂, sym, ◌∙◌, arith}
use Rattle.std.proofs.lemmas.List.{get_or_default}
use Rattle.std.specs.declared.alloc.Global.{Global}
use Rattle.std.specs.declared.vec.Vec.{Vec}
use Rattle.iso_plan.proofs.ColumnLemmas.{column-read, length-column, replicate-column}
use Rattle.iso_plan.proofs.GroupLemmas.{lead-is, lead-none}
use Rattle.iso_plan.proofs.SplitLemmas.{column-same, idle-is, own-is, split-next}
use Rattle.iso_plan.specs.KeyGroups.{AreOrdered, lead_in, split_lead}
use Rattle.iso_plan.specs.Paths.{column}
use Rattle.iso_plan.specs.declared.lock.Lock.{Lock}
use Rattle.iso_plan.proofs.key_groups.leads.Goals as goal
use Rattle.iso_plan.proofs.key_groups.leads.Goals.{then-not-is_idle+in_ok-leads-2+else-are_own, else-not-is_idle}

pub nodes-init : goal.nodes-init
nodes-init c =
    let made : c.in_ok-leads.leads.items ≡ replicate c.args.keys 0 = c.in_ok-leads.ensures.items_if_clones_equal (λ y h. search rules) in
    made ∙ replicate-column 0 c.args.keys ∙ column-same (λ _. 0) (lead_in []) c.args.keys (λ k h. sym (lead-none k))

pub split-requires-clause-few : goal.split-requires-clause-few
split-requires-clause-few c =
    let lists = take c.nodes.n (c.args.locks.now) in
    let size : length c.deref.result.now ≡ c.args.keys = ap length (c.deref.ensures.value ∙ c.nodes.invariant) ∙ length-column (lead_in lists) c.args.keys in
    let few : c.args.keys ≤ 256 = c.requires.few in
    omega arith

pub split-requires-clause-leads : goal.split-requires-clause-leads
split-requires-clause-leads c = λ k h.
    let lists = take c.nodes.n (c.args.locks.now) in
    let same = c.deref.ensures.value ∙ c.nodes.invariant in
    let size : length c.deref.result.now ≡ c.args.keys = ap length same ∙ length-column (lead_in lists) c.args.keys in
    let le = (lead-is lists k).le in
    let at : get_or c.deref.result.now k 0 ≡ lead_in lists k = column-read (lead_in lists) c.deref.result.now c.args.keys k 0 same (omega arith) in
    omega arith

pub split-requires-clause-ordered : goal.split-requires-clause-ordered
split-requires-clause-ordered c =
    let all = c.args.locks.now in
    let n = c.nodes.n in
    let lists = take n all in
    let size : length c.deref.result.now ≡ c.args.keys = ap length (c.deref.ensures.value ∙ c.nodes.invariant) ∙ length-column (lead_in lists) c.args.keys in
    let this : c.as_slice.result.now ≡ get_or all n [] =
    c.as_slice.ensures ∙ c.index-locks-n.is ∙ get_or_default all n c.index-locks-n.result [] (omega arith) in
    subst (λ (k : ℕ). AreOrdered k c.as_slice.result.now) (sym size) (subst (AreOrdered c.args.keys) (sym this) (c.requires.ordered n (omega arith)))

pub nodes-preserved : goal.nodes-preserved
nodes-preserved c =
    let all = c.args.locks.now in
    let n = c.nodes.n in
    let keys = c.args.keys in
    let lists = all in
    let within : n < length lists = omega arith in
    let items : Vec ℕ Global → List ℕ = λ v. v.items in
    elim c.if-not-is_idle.branch [
      | then-not-is_idle+in_ok-leads-2+else-are_own w ↦
          let same = w.deref.ensures.value ∙ c.nodes.invariant in
          let size : length w.deref.result.now ≡ keys = ap length same ∙ length-column (lead_in (take n lists)) keys in
          let this : w.as_slice.result.now ≡ get_or lists n [] =
          w.as_slice.ensures ∙ w.index-locks-n.is ∙ get_or_default all n w.index-locks-n.result [] (omega arith) in
          ap items w.leads-is ∙ w.in_ok-leads-2.ensures
          ∙ ap₂ (λ (ls : List Lock) (k : ℕ). column (split_lead w.deref.result.now ls) k) this size
          ∙ split-next w.deref.result.now lists n keys within same
      | else-not-is_idle w ↦ ap items w.leads-is ∙ c.nodes.invariant ∙ idle-is lists n keys within (c.is_idle.ensures (search rules))
    ]

pub returns-then-are_own : goal.returns-then-are_own
returns-then-are_own c =
    let all = c.args.locks.now in
    let n = c.nodes.n in
    let keys = c.args.keys in
    let lists = all in
    let within : n < length lists = omega arith in
    let same = c.deref.ensures.value ∙ c.nodes.invariant in
    let size : length c.deref.result.now ≡ keys = ap length same ∙ length-column (lead_in (take n lists)) keys in
    let this : c.as_slice.result.now ≡ get_or lists n [] =
    c.as_slice.ensures ∙ c.index-locks-n.is ∙ get_or_default all n c.index-locks-n.result [] (omega arith) in
    let is : c.in_ok-leads-2.leads.items ≡ column (lead_in (take (n + 1) lists)) keys =
    c.in_ok-leads-2.ensures ∙ ap₂ (λ (ls : List Lock) (k : ℕ). column (split_lead c.deref.result.now ls) k) this size ∙ split-next c.deref.result.now lists n keys within same in
    let now : c.deref-then-not-is_idle.result.now ≡ c.in_ok-leads-2.leads.items = c.deref-then-not-is_idle.ensures.value in
    let long : length c.deref-then-not-is_idle.result.now ≡ keys = ap length (now ∙ is) ∙ length-column (lead_in (take (n + 1) lists)) keys in
    let own = c.are_own.ensures c.if-are_own.true in
    is ∙ own-is lists (n + 1) keys
    (λ k h. sym (column-read (lead_in (take (n + 1) lists)) c.in_ok-leads-2.leads.items keys k 0 is h) ∙ ap (λ (ns : List ℕ). get_or ns k 0) (sym now) ∙ own k (omega arith))
