use Rattle.std.proofs.Common.{length, map, ap, sym, subst, ◌∙◌}
use Rattle.std.proofs.lemmas.List.{length-map}
use Rattle.std.proofs.lemmas.Result.{err_from_is_err_and}
use Rattle.std.proofs.Common.{◌≡◌, ◌<◌, ◌+◌, ◌-◌, ◌≤◌, [], ℕ, Bool, List, arith, get_or}
use Rattle.std.specs.declared.alloc.Global.{Global}
use Rattle.std.specs.declared.sync.Arc.{Arc}
use Rattle.std.specs.declared.vec.Vec.{Vec}
use Rattle.iso_model.specs.declared.heads.ClassHead.{ClassHead}
use Rattle.iso_model.specs.declared.limits.TheConstants.{KEYS}
use Rattle.iso_plan.proofs.ColumnLemmas.{column-read, length-column}
use Rattle.iso_plan.proofs.DepthLemmas.{depth-is}
use Rattle.iso_plan.proofs.FaultLemmas.{keys-none, keys-refused}
use Rattle.iso_plan.proofs.LeadLemmas.{groups-are, locks-ordered}
use Rattle.iso_plan.proofs.RepeatLemmas.{like-before, like-locks}
use Rattle.iso_plan.specs.Repeated.{AreRepeats}
use Rattle.iso_plan.specs.Faults.{IsCrowded}
use Rattle.iso_plan.specs.KeyGroups.{AreOrdered, all_locks}
use Rattle.iso_plan.specs.KeyNumbers.{AreNumbers}
use Rattle.iso_plan.specs.KeyTable.{keys}
use Rattle.iso_plan.specs.Locks.{locking_node, locks}
use Rattle.iso_plan.specs.Modes.{mode}
use Rattle.iso_plan.specs.NodeChains.{chain_classes, largest, node_rights}
use Rattle.iso_plan.specs.Paths.{IsTree, children, column}
use Rattle.iso_plan.specs.RowView.{heads_in, row_of}
use Rattle.iso_plan.specs.Tree as T
use Rattle.iso_plan.specs.declared.lock.Lock.{Lock}
use Rattle.iso_plan.specs.declared.row.Row.{Row}
use Rattle.iso_plan.proofs.plan.plan_of.Goals as goal

abbrev Holds : List T.Row → Type 0
Holds rows = IsTree rows

pub chain_all-requires-clause-tree : goal.chain_all-requires-clause-tree
chain_all-requires-clause-tree c = subst Holds (sym (ap (map row_of) c.deref-2.ensures.value)) c.requires.tree

pub key_all-requires-clause-tree : goal.key_all-requires-clause-tree
key_all-requires-clause-tree c = subst Holds (sym (ap (map row_of) c.deref.ensures.value)) c.requires.tree

-- the locks of all nodes, as the groups are made of them
taken-are : (rows : List Row) (lists : List (List Lock)) → lists ≡ column (locks (map row_of rows)) (length rows) → lists ≡ all_locks (map row_of rows)
taken-are rows lists e = e ∙ ap (column (locks (map row_of rows))) (sym (length-map rows row_of))

pub group_keys-requires-clause-few : goal.group_keys-requires-clause-few
group_keys-requires-clause-few c =
    let few : length c.in_ok-keyed.keyed.keys.items ≤ 256 = c.in_ok-keyed.ensures.few in
    omega (arith, c.len.ensures, c.in_ok-keyed.keyed.keys.ok.0)

pub group_keys-requires-clause-ordered : goal.group_keys-requires-clause-ordered
group_keys-requires-clause-ordered c = λ n h.
    let v = c.args.rows in
    let tree = map row_of v.items in
    let keyed = c.in_ok-keyed.ensures.keyed in
    let size : c.len.result ≡ length c.in_ok-keyed.keyed.keys.items = omega (arith, c.len.ensures, c.in_ok-keyed.keyed.keys.ok.0) in
    let table : c.len.result ≡ length (keys tree) = size ∙ ap length (keyed.keys_are ∙ ap (λ (rs : List Row). keys (map row_of rs)) c.deref.ensures.value) in
    let taken : c.deref-4.result.now ≡ column (locks tree) (length v.items) =
    c.deref-4.ensures.value ∙ keyed.locked.locks_are ∙ ap (λ (rs : List Row). column (locks (map row_of rs)) (length rs)) c.deref.ensures.value in
    let within : n < length v.items =
    subst (λ (k : ℕ). n < k) (ap length taken ∙ length-column (locks tree) (length v.items)) h in
    let this : get_or c.deref-4.result.now n [] ≡ locks tree n = column-read (locks tree) c.deref-4.result.now (length v.items) n [] taken within in
    subst (λ (k : ℕ). AreOrdered k (get_or c.deref-4.result.now n [])) (sym table) (subst (AreOrdered (length (keys tree))) (sym this) (locks-ordered tree n))

pub group_keys-requires-clause-repeated : goal.group_keys-requires-clause-repeated
group_keys-requires-clause-repeated c =
    let v = c.args.rows in
    let tree = map row_of v.items in
    let keyed = c.in_ok-keyed.ensures.keyed in
    let many : length tree ≡ length v.items = length-map v.items row_of in
    let taken : c.deref-4.result.now ≡ column (locks tree) (length v.items) =
    c.deref-4.ensures.value ∙ keyed.locked.locks_are ∙ ap (λ (rs : List Row). column (locks (map row_of rs)) (length rs)) c.deref.ensures.value in
    let size : length c.deref-4.result.now ≡ length v.items = ap length taken ∙ length-column (locks tree) (length v.items) in
    let reps : AreRepeats tree c.deref-5.result.now =
    subst (λ (marks : List Bool). AreRepeats tree marks) (sym c.deref-5.ensures.value) (subst (λ (rs : List Row). AreRepeats (map row_of rs) c.in_ok-keyed.keyed.locked.repeated.items) c.deref.ensures.value keyed.locked.repeats_are) in
    record {
      each = reps.each ∙ many ∙ sym size;
      before = λ n h e.
          let again = reps.repeats n (omega arith) e in
          let later = again.later in
          record {
            later = omega arith;
            same =
                column-read (locks tree) c.deref-4.result.now (length v.items) (n - 1) [] taken (omega arith)
                ∙ like-locks tree c.requires.tree (n - 1) n (like-before tree n again (omega arith))
                ∙ sym (column-read (locks tree) c.deref-4.result.now (length v.items) n [] taken (omega arith));
          };
    }

pub invariant_of-result : goal.invariant_of-result
invariant_of-result c =
    let v = c.args.rows in
    let tree = map row_of v.items in
    let settings = c.args.settings in
    let count : length tree ≡ length v.items = length-map v.items row_of in
    let chained = c.in_ok-chained.ensures in
    let keyed = c.in_ok-keyed.ensures.keyed in
    let taken : c.deref-4.result.now ≡ column (locks tree) (length v.items) =
    c.deref-4.ensures.value ∙ keyed.locked.locks_are ∙ ap (λ (rs : List Row). column (locks (map row_of rs)) (length rs)) c.deref.ensures.value in
    let size : c.len.result ≡ length c.in_ok-keyed.keyed.keys.items = omega (arith, c.len.ensures, c.in_ok-keyed.keyed.keys.ok.0) in
    let table : c.len.result ≡ length (keys tree) = size ∙ ap length (keyed.keys_are ∙ ap (λ (rs : List Row). keys (map row_of rs)) c.deref.ensures.value) in
    let groups = groups-are tree c.len.result c.deref-4.result.now c.in_ok-groups.groups (taken-are v.items c.deref-4.result.now taken) table c.in_ok-groups.ensures in
    record {
      is_tree = c.requires.tree;
      in_order = c.requires.order;
      fits = rw count c.requires.fits;
      kids_are =
          chained.children_are ∙ ap (λ (rs : List Row). column (children (map row_of rs)) (length rs)) c.deref-2.ensures.value ∙ ap (column (children tree)) (sym count);
      heads_are =
          chained.chains_are ∙ ap (λ (rs : List Row). column (chain_classes (map row_of rs)) (length rs)) c.deref-2.ensures.value ∙ ap (column (chain_classes tree)) (sym count);
      rights_are =
          chained.rights_are ∙ ap (λ (rs : List Row). column (node_rights (map row_of rs)) (length rs)) c.deref-2.ensures.value ∙ ap (column (node_rights tree)) (sym count);
      table_is = keyed.keys_are ∙ ap (λ (rs : List Row). keys (map row_of rs)) c.deref.ensures.value;
      numbers_are = subst (λ (rs : List Row). AreNumbers c.in_ok-keyed.keyed.numbers (keys (map row_of rs))) c.deref.ensures.value keyed.numbers_are;
      few = c.in_ok-keyed.ensures.few;
      lockers_are =
          keyed.locked.locking_are ∙ ap (λ (rs : List Row). column (locking_node (map row_of rs)) (length rs)) c.deref.ensures.value ∙ ap (column (locking_node tree)) (sym count);
      taken_are =
          keyed.locked.locks_are ∙ ap (λ (rs : List Row). column (locks (map row_of rs)) (length rs)) c.deref.ensures.value ∙ ap (column (locks tree)) (sym count);
      modes_are =
          keyed.modes_are ∙ ap (λ (rs : List Row). column (mode (map row_of rs) settings) (length rs)) c.deref.ensures.value ∙ ap (column (mode tree settings)) (sym count);
      deepest_is =
          c.longest-depth.ensures ∙ ap (λ (cs : List (Arc (Vec (Arc ClassHead Global) Global) Global)). largest (map (λ heads. length heads) (map heads_in cs))) c.deref-3.ensures.value
          ∙ depth-is tree _ (chained.chains_are ∙ ap (λ (rs : List Row). column (chain_classes (map row_of rs)) (length rs)) c.deref-2.ensures.value ∙ ap (column (chain_classes tree)) (sym count));
      leads_are = groups.0;
      lead_locks_are = groups.1;
    }

pub returns-in_err-keyed-clause-refused : goal.returns-in_err-keyed-clause-refused
returns-in_err-keyed-clause-refused c =
    let same = ap (map row_of) c.deref.ensures.value in
    let p = err_from_is_err_and c.from_residual.result c.from_residual.ensures.1 in
    let e = c.in_err-keyed.field-0.0 in
    rw (p.1, p.2) (keys-refused (map row_of c.args.rows.items) e (subst (λ (rs : List T.Row). IsCrowded (length (keys rs)) e) same c.in_err-keyed.ensures.crowded))

pub returns-clause-accepted : goal.returns-clause-accepted
returns-clause-accepted c =
    let tree = map row_of c.args.rows.items in
    let table : c.in_ok-keyed.keyed.keys.items ≡ keys tree = c.in_ok-keyed.ensures.keyed.keys_are ∙ ap keys (ap (map row_of) c.deref.ensures.value) in
    keys-none tree (subst (λ (ks : List (List ℕ)). length ks ≤ KEYS + 1) table c.in_ok-keyed.ensures.few)
