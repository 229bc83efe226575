use Rattle.std.proofs.Common.{◌≡◌, ◌<◌, ◌≤◌, ◌+◌, ◌-◌, [], ℕ, List, Option, Some, None, Bool, true, false, cond, inl, inr, set, length, map, get_or, refl, subst, ap, ap₂, sym, ◌∙◌, arith, bytes_eq}
use Rattle.std.proofs.lemmas.Bool.{cases_lt}
use Rattle.std.proofs.lemmas.List.{length-map, map-set, get_or-map, get_or_past}
use Rattle.std.proofs.lemmas.Result.{IfOk-weaker}
use Rattle.std.specs.List.{IsDistinct}
use Rattle.std.specs.declared.alloc.Global.{Global}
use Rattle.std.specs.declared.vec.Vec.{Vec}
use Rattle.iso_model.specs.Rights.{rights_of, strongest}
use Rattle.iso_model.specs.declared.access.Access.{Access}
use Rattle.iso_model.specs.declared.heads.Mark.{Mark}
use Rattle.iso_plan.proofs.ColumnLemmas.{length-column, column-read, row-at}
use Rattle.iso_plan.proofs.KeyLemmas.{keys-distinct}
use Rattle.iso_plan.proofs.LockLemmas.{TablesAre, locking-le, locking-size, table-fits, tables-start, tables-skip, tables-stay, tables-gather, tables-end}
use Rattle.iso_plan.proofs.RepeatLemmas.{like-before, like-locks, repeat-alone, repeat-stays}
use Rattle.iso_plan.specs.KeyTable.{keys, kind_marks}
use Rattle.iso_plan.specs.Locks.{declared, effective_marks, locking_node, locks, locks_from}
use Rattle.iso_plan.specs.Paths.{IsTree, column}
use Rattle.iso_plan.specs.Repeated.{Repeats}
use Rattle.iso_plan.specs.RowView.{row_of}
use Rattle.iso_plan.specs.Tables.{own_table}
use Rattle.iso_plan.specs.Tree as T
use Rattle.iso_plan.proofs.locks.locks.Goals as goal
use Rattle.iso_plan.proofs.locks.locks.Goals.{in-Some, in_default}

abbrev accesses : Vec (Option Access) Global → List (Option Access)
accesses v = v.items

pub nodes-init : goal.nodes-init
nodes-init c =
    let rows = c.args.rows.now in
    let tree = map row_of rows in
    let ts = c.in_ok-tables.tables.items in
    let count : c.len-2.result ≡ length (keys tree) = c.len-2.ensures.len ∙ sym (length-map c.args.key_table.now.keys (λ k. k.now)) ∙ ap length c.requires.keys in
    tables-start tree (λ m. get_or c.args.repeated.now m false) (length rows) (map accesses ts)
    (c.in_ok-tables.ensures ∙ (λ i. column (λ n. cond (get_or c.args.repeated.now n false) [] (own_table tree (count i) n)) (length rows)))

pub bounds : goal.bounds
bounds c =
    let rows = c.args.rows.now in
    let count : length c.args.locking.now ≡ length rows = ap length c.requires.locking ∙ length-column (locking_node (map row_of rows)) (length rows) in
    omega arith

pub index_mut-requires : goal.index_mut-requires
index_mut-requires c =
    let rows = c.args.rows.now in
    let tree = map row_of rows in
    let n = c.nodes.n in
    let v = c.nodes.tables in
    let own : locking_node tree n ≡ Some c.in-Some.m = sym (column-read (locking_node tree) c.args.locking.now (length rows) n None c.requires.locking (omega arith)) ∙ c.in-Some.is in
    let le : c.in-Some.m ≤ n = locking-le tree c.requires.tree.below c.in-Some.m n own in
    let each : length v.items ≡ length rows = sym (length-map v.items accesses) ∙ c.nodes.invariant.each in
    omega (arith, v.ok.0)

pub gather-requires-clause-distinct : goal.gather-requires-clause-distinct
gather-requires-clause-distinct c = subst (IsDistinct bytes_eq) (sym c.requires.keys) (keys-distinct (map row_of c.args.rows.now))

-- a node that is gathered has its locking node's table
kept_at : (rep : List Bool) (tree : List T.Row) → IsTree tree → (n m : ℕ) → ((j : ℕ) → j < length tree → get_or rep j false ≡ true → Repeats tree j) → locking_node tree n ≡ Some m
    → m < length tree → get_or rep n false ≡ false → (u : Bool) → get_or rep m false ≡ u → get_or rep m false ≡ false
kept_at rep tree t n m reps own less off true e =
    let same : n ≡ m = repeat-alone tree t n m (reps m less e) own in
    let wrong : true ≡ false = sym e ∙ ap (λ (j : ℕ). get_or rep j false) (sym same) ∙ off in
    absurd (cc)
kept_at rep tree t n m reps own less off false e = e

pub nodes-preserved-then-repeated-n : goal.nodes-preserved-then-repeated-n
nodes-preserved-then-repeated-n c =
    let rows = c.args.rows.now in
    let tree = map row_of rows in
    let n = c.nodes.n in
    let v = c.nodes.tables in
    let rep = c.args.repeated.now in
    let out : ℕ → Bool = λ m. get_or rep m false in
    let count : length rep ≡ length rows = (c.requires.repeated.each ∙ length-map c.args.rows.now row_of) in
    let yes : out n ≡ true = c.if-repeated-n.true in
    let less : n < length tree = rw (length-map rows row_of) (omega arith) in
    tables-stay tree out (length rows) (map accesses v.items) n c.nodes.invariant
    (λ m k kept. repeat-stays tree c.requires.tree n m k (c.requires.repeated.repeats n (omega arith) yes) less
    (λ same. let wrong : true ≡ false = sym yes ∙ ap out (sym same) ∙ kept in absurd (cc)))

pub gather-requires-clause-fits : goal.gather-requires-clause-fits
gather-requires-clause-fits c =
    let rows = c.args.rows.now in
    let tree = map row_of rows in
    let n = c.nodes.n in
    let m = c.in-Some.m in
    let v = c.nodes.tables in
    let own : locking_node tree n ≡ Some m = sym (column-read (locking_node tree) c.args.locking.now (length rows) n None c.requires.locking (omega arith)) ∙ c.in-Some.is in
    let le : m ≤ n = locking-le tree c.requires.tree.below m n own in
    let each : length v.items ≡ length rows = sym (length-map v.items accesses) ∙ c.nodes.invariant.each in
    let stored : m < length v.items = omega arith in
    let rep = c.args.repeated.now in
    let out : ℕ → Bool = λ j. get_or rep j false in
    let count : length rep ≡ length rows = (c.requires.repeated.each ∙ length-map c.args.rows.now row_of) in
    let many : length tree ≡ length rows = length-map rows row_of in
    let off : out n ≡ false = c.if-repeated-n.false in
    let kept : out m ≡ false =
    kept_at rep tree c.requires.tree n m (λ j h e. c.requires.repeated.repeats j (omega arith) e) own (omega arith) off (out m) refl in
    ap (λ (t : Vec (Option Access) Global). length t.items) c.index_mut.ensures.value
    ∙ sym (ap length (get_or-map accesses v.items m c.index_mut.result.now [] stored))
    ∙ locking-size tree out c.requires.tree.below (length rows) (map accesses v.items) n m c.nodes.invariant own (omega arith) kept
    ∙ sym (ap length c.requires.keys) ∙ length-map c.args.key_table.now.keys (λ k. k.now)

none_from : (o : Option ℕ) → ((m : ℕ) → o ≡ Some m → ⊥) → o ≡ None
none_from None f = refl
none_from (Some m) f = absurd (f m refl)

pub nodes-preserved : goal.nodes-preserved
nodes-preserved c =
    let rows = c.args.rows.now in
    let tree = map row_of rows in
    let n = c.nodes.n in
    let v = c.nodes.tables in
    let read = column-read (locking_node tree) c.args.locking.now (length rows) n None c.requires.locking (omega arith) in
    let count : length c.args.key_table.now.keys ≡ length (keys tree) = sym (length-map c.args.key_table.now.keys (λ k. k.now)) ∙ ap length c.requires.keys in
    let out : ℕ → Bool = λ j. get_or c.args.repeated.now j false in
    let Holds : Vec (Vec (Option Access) Global) Global → Type 0 = λ ts. TablesAre tree out (length rows) (map accesses ts.items) (n + 1) in
    elim c.match-locking-n.branch [
      | in-Some w ↦
          let m = w.in-Some.m in
          let own : locking_node tree n ≡ Some m = sym read ∙ w.in-Some.is in
          let le : m ≤ n = locking-le tree c.requires.tree.below m n own in
          let each : length v.items ≡ length rows = sym (length-map v.items accesses) ∙ c.nodes.invariant.each in
          let stored : m < length v.items = omega arith in
          let old : w.index_mut.result.now.items ≡ get_or (map accesses v.items) m [] = ap accesses w.index_mut.ensures.value ∙ sym (get_or-map accesses v.items m w.index_mut.result.now [] stored) in
          let marks : w.marks-marks.result.now ≡ effective_marks tree n = w.marks-marks.ensures ∙ ap (λ (r : T.Row). kind_marks r.kind) (sym (row-at rows n w.index-rows-n.result (omega arith))) in
          let done : TablesAre tree out (length rows) (set (map accesses v.items) m (accesses w.gather.new.table)) (n + 1) =
          tables-gather tree out c.requires.tree.below (length rows) (map accesses v.items) n m (accesses w.gather.new.table) c.nodes.invariant own (omega arith)
          (w.gather.ensures.fits ∙ ap length old)
          (λ i h. w.gather.ensures.gathered i (omega arith)
          ∙ ap₂ (λ (ms : List Mark) (ks : List (List ℕ)). strongest (rights_of ms (get_or ks i [])) (get_or w.index_mut.result.now.items i None)) marks c.requires.keys
          ∙ ap (λ (t : List (Option Access)). strongest (declared tree n (get_or (keys tree) i [])) (get_or t i None)) old) in
          subst Holds (sym w.tables-is) (subst (λ (ts : List (List (Option Access))). TablesAre tree out (length rows) ts (n + 1)) (sym (map-set accesses v.items m w.gather.new.table)) done)
      | in_default w ↦ subst Holds (sym w.tables-is)
          (tables-skip tree out c.requires.tree.below (length rows) (map accesses v.items) n c.nodes.invariant (none_from (locking_node tree n) (λ m e. w.in_default.not-Some m (read ∙ e))))
    ]

pub listed_tables-requires-clause-fits : goal.listed_tables-requires-clause-fits
listed_tables-requires-clause-fits c = λ m h.
    let rows = c.args.rows.now in
    let tree = map row_of rows in
    let v = c.nodes.tables in
    let out : ℕ → Bool = λ j. get_or c.args.repeated.now j false in
    let same : c.deref.result.now ≡ v.items = c.deref.ensures.value in
    let count : length c.deref.result.now ≡ length v.items = ap length same in
    let each : length v.items ≡ length rows = sym (length-map v.items accesses) ∙ c.nodes.invariant.each in
    let size : length (get_or (map accesses c.deref.result.now) m []) ≡ length (get_or (map accesses v.items) m []) = ap
    (λ (ts : List (Vec (Option Access) Global)). length (get_or (map accesses ts) m [])) same in
    let fits : length (get_or (map accesses v.items) m []) ≤ length (keys tree) = table-fits tree out (length rows) (map accesses v.items) c.nodes.n m c.nodes.invariant (omega arith) in
    let few : length (keys tree) ≤ 256 = c.requires.few in
    omega arith

pub listed_tables-requires-clause-each : goal.listed_tables-requires-clause-each
listed_tables-requires-clause-each c =
    let v = c.nodes.tables in
    let each : length v.items ≡ length c.args.rows.now = sym (length-map v.items accesses) ∙ c.nodes.invariant.each in
    (c.requires.repeated.each ∙ length-map c.args.rows.now row_of) ∙ sym each ∙ sym (ap length c.deref.ensures.value)

pub listed_tables-requires-clause-later : goal.listed_tables-requires-clause-later
listed_tables-requires-clause-later c = λ m yes.
    let rows = c.args.rows.now in
    let rep = c.args.repeated.now in
    let many : length (map row_of rows) ≡ length rows = length-map rows row_of in
    let count : length rep ≡ length rows = c.requires.repeated.each ∙ many in
    elim (cases_lt m (length rows)) [
      | inl less ↦ let later = (c.requires.repeated.repeats m (omega arith) yes).later in omega arith
      | inr past ↦ let wrong : false ≡ true = sym (get_or_past rep m false (omega arith)) ∙ yes in absurd (cc)
    ]

pub returns : goal.returns
returns c =
    let rows = c.args.rows.now in
    let tree = map row_of rows in
    let v = c.nodes.tables in
    let rep = c.args.repeated.now in
    let out : ℕ → Bool = λ j. get_or rep j false in
    let each : length v.items ≡ length rows = sym (length-map v.items accesses) ∙ c.nodes.invariant.each in
    let many : length tree ≡ length rows = length-map rows row_of in
    let last : c.nodes.n ≡ length tree = omega arith in
    let all : TablesAre tree out (length rows) (map accesses v.items) (length tree) = subst (TablesAre tree out (length rows) (map accesses v.items)) last c.nodes.invariant in
    let size : length c.deref.result.now ≡ length rows = ap length c.deref.ensures.value ∙ each in
    IfOk-weaker c.listed_tables.result _ _ (λ r e. e ∙ ap (column (locks tree)) size)
    (c.listed_tables.ensures (locks tree)
    (λ m h off. ap (λ (ts : List (Vec (Option Access) Global)). locks_from 0 (get_or (map accesses ts) m [])) c.deref.ensures.value
    ∙ tables-end tree out (length rows) (map accesses v.items) m all (omega arith) off)
    (λ m h yes. like-locks tree c.requires.tree (m - 1) m (like-before tree m (c.requires.repeated.repeats m (omega arith) yes) (omega arith))))
