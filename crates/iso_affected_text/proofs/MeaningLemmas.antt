-- What rows say of nodes is so, and what isn't told hasn't changed.
use Rattle.std.proofs.Common.{◌≡◌, ℕ, zero, suc, ◌+◌, ◌<◌, ◌≤◌, List, [], ◌∷◌, ◌++◌, Option, Some, None, Bool, true, false, cond, flat_map, get_or, length, nat_lt, refl, sym, ap, ◌∙◌, subst, arith, true≢false}
use Rattle.std.proofs.lemmas.Bool.Decides.{nat_tests}
use Rattle.std.proofs.lemmas.List.{get_or-append-add, get_or_append_left, length-append}
use Rattle.std.proofs.lemmas.List.Elements.{All-append, All-cons, All-nil}
use Rattle.std.specs.List.{All, Contains}
use Rattle.iso_affected.proofs.FateLemmas.{gone-nodes}
use Rattle.iso_affected.specs.Fates.{AreFates, IsFate, IsNode, Suites, gone, has_gone, suites}
use Rattle.iso_affected.specs.Listed.{is_listed}
use Rattle.iso_affected.specs.Namesakes.{namesake}
use Rattle.iso_affected.specs.declared.affected.Fate.{Fate}
use Rattle.iso_affected.specs.declared.affected.Fate.TheVariants as F
use Rattle.iso_affected.specs.declared.difference.Blocks.{Blocks}
use Rattle.iso_affected.specs.declared.difference.Difference.{Difference}
use Rattle.iso_affected.specs.declared.firsts.RowsApart.{RowsApart}
use Rattle.iso_affected.specs.Parts.{fields_on, statics_on}
use Rattle.iso_affected_text.proofs.RowLemmas.{chosen}
use Rattle.iso_affected_text.specs.Affected.{affected_rows, fate_rows, gone_rows, node_rows, nodes_rows, own_rows_by, reasons_on, told_rows}
use Rattle.iso_affected_text.specs.Changes.{ChangeView, change_of}
use Rattle.iso_affected_text.specs.Meanings.{IsListedAt, SaysSo}
use Rattle.iso_affected_text.specs.PartRows.{block_rows, blocks_rows, declared_rows, difference_rows, kind_part, of_class, part_rows, start_rows, variable_rows}
use Rattle.iso_affected_text.specs.Rows.{RowView, node_row}
use Rattle.iso_affected_text.specs.declared.change.Change.{Change}
use Rattle.iso_affected_text.specs.declared.row.Became.TheVariants.{Changed, New, Gone}
use Rattle.iso_affected_text.specs.declared.row.Block.{Block}
use Rattle.iso_affected_text.specs.declared.row.Block.TheVariants as B
use Rattle.iso_affected_text.specs.declared.row.Part.{Part}
use Rattle.iso_affected_text.specs.declared.row.Part.TheVariants.{Marks, Disabled, Static, Field}
use Rattle.iso_model.specs.declared.heads.Mark.{Mark}
use Rattle.iso_model.specs.declared.heads.Variable.{Variable}
use Rattle.iso_model.specs.declared.place.Lifecycle.TheVariants.{BeforeAll, AfterAll, BeforeEach, AfterEach}
use Rattle.iso_plan.proofs.NumberLemmas.{those-are}
use Rattle.iso_plan.specs.PathTexts.{path_text}
use Rattle.iso_plan.specs.Paths.{IsTree, path, row_at}
use Rattle.iso_plan.specs.RowView.{tree_of}
use Rattle.iso_plan.specs.Tree as T
use Rattle.iso_settings.specs.Worlds.{Start}
use Rattle.iso_suites.specs.PlanSuites.{head_of}
use Rattle.iso_suites.specs.ScriptLanguage.{Head, marks_on}

-- an element of one of two lists is one of both together
contains-first : (x : RowView) (xs : List RowView) → Contains (x ∷ xs) x
contains-first x xs = (0, omega arith, refl)

contains-left : (xs ys : List RowView) (x : RowView) → Contains xs x → Contains (xs ++ ys) x
contains-left xs ys x (k, h, e) = (k, omega (arith, length-append xs ys), get_or_append_left xs ys x k h ∙ e)

contains-right : (xs ys : List RowView) (x : RowView) → Contains ys x → Contains (xs ++ ys) x
contains-right xs ys x (k, h, e) = (length xs + k, omega (arith, length-append xs ys), get_or-append-add xs ys k x ∙ e)

module _ (s : Suites) where
  abbrev Say : List RowView → Type 0
  Say rows = All (SaysSo s) rows

  none : Say []
  none = All-nil (SaysSo s)

  one : (row : RowView) → SaysSo s row → Say (row ∷ [])
  one row is = All-cons (SaysSo s) row [] is none

  both : (xs ys : List RowView) → Say xs → Say ys → Say (xs ++ ys)
  both xs ys f g = All-append (SaysSo s) xs ys f g

  by_choice : (b : Bool) (xs : List RowView) → (b ≡ true → Say xs) → Say (cond b xs [])
  by_choice true xs f = f refl
  by_choice false xs f = none

  -- of what differs nothing is said that a row of a node says
  part-says : (b : Bool) (part : Part) (o : Option (List ℕ)) → Say (part_rows b part o)
  part-says true part o = one _ tt
  part-says false part o = none

  variable-says : (place : Option ℕ) (part : Part) (was now : List Variable) (o : Option (List ℕ)) → Say (variable_rows place part was now o)
  variable-says None part was now o = none
  variable-says (Some place) part was now o = one _ tt

  declared-says : (was now : Head) (d : Difference) (o : Option (List ℕ)) → Say (declared_rows was now d o)
  declared-says was now d o =
      let kind = part-says d.kind (kind_part now) o in
      let marks = part-says d.declared.marks Marks o in
      let disabled = part-says d.declared.disabled Disabled o in
      let statics = variable-says d.declared.statics Static (statics_on was) (statics_on now) o in
      let fields = variable-says d.declared.fields Field (fields_on was) (fields_on now) o in
      both _ _ (both _ _ (both _ _ (both _ _ kind marks) disabled) statics) fields

  block-says : (c : ChangeView) (n m : ℕ) (block : Block) (apart : Option RowsApart) (o : Option (List ℕ)) → Say (block_rows c n m block apart o)
  block-says c n m block None o = none
  block-says c n m block (Some apart) o = one _ tt

  blocks-say : (c : ChangeView) (n m : ℕ) (b : Blocks) (o : Option (List ℕ)) → Say (blocks_rows c n m b o)
  blocks-say c n m b o =
      let before_all = block-says c n m (B.Class BeforeAll) b.before_all o in
      let before_each = block-says c n m (B.Class BeforeEach) b.before_each o in
      let test = block-says c n m B.Test b.test o in
      let after_each = block-says c n m (B.Class AfterEach) b.after_each o in
      let after_all = block-says c n m (B.Class AfterAll) b.after_all o in
      both _ _ (both _ _ (both _ _ (both _ _ before_all before_each) test) after_each) after_all

  start-says : (property : Option (List ℕ)) (marks : List Mark) (place : Option ℕ) (o : Option (List ℕ)) → Say (start_rows property marks place o)
  start-says property marks None o = none
  start-says property marks (Some place) o = one _ tt

  difference-says : (c : ChangeView) (n m : ℕ) (d : Difference) → Say (difference_rows c n m d)
  difference-says c n m d =
      let was = head_of (row_at c.old.tree m).kind in
      let now = head_of (row_at c.new.tree n).kind in
      let o = of_class c.new.tree n in
      both _ _ (both _ _ (declared-says was now d o) (blocks-say c n m d.blocks o)) (start-says c.property (marks_on now) d.start o)

  told-says : (c : ChangeView) (n m : ℕ) (o : Option Difference) → Say (told_rows c n m o)
  told-says c n m None = none
  told-says c n m (Some d) = difference-says c n m d

  own-says : (c : ChangeView) (n : ℕ) (f : Fate) → Say (own_rows_by c n f)
  own-says c n (F.Same m) = none
  own-says c n (F.Changed m) = told-says c n m (get_or c.told n None)
  own-says c n F.New = none

  reasons-say : (c : ChangeView) (ns : List ℕ) → Say (reasons_on c ns)
  reasons-say c [] = none
  reasons-say c (n ∷ ns) = both _ _ (reasons-say c ns) (own-says c n (get_or c.fates n F.New))

-- only a node that isn't the root is told of
above : (tree : List T.Row) → IsTree tree → (n : ℕ) → is_listed (head_of (row_at tree n).kind) ≡ true → 0 < n
above tree t zero e = absurd (true≢false (sym e ∙ ap (λ (r : T.Row). is_listed (head_of r.kind)) t.root_is))
above tree t (suc n) e = omega arith

module _ (c : Change) (before after : Start) where
  abbrev both_suites : Suites
  both_suites = suites c.old.plan.now before c.new.plan.now after

  abbrev old : List T.Row
  old = tree_of c.old.plan.now

  abbrev new : List T.Row
  new = tree_of c.new.plan.now

  fate-says : (n : ℕ) (f : Fate) → IsListedAt new n (path_text new n) → IsFate both_suites n f → Say both_suites (fate_rows (change_of c) n f)
  fate-says n (F.Same m) at is = none both_suites
  fate-says n (F.Changed m) at is =
      All-cons (SaysSo both_suites) (node_row Changed (path_text new n)) (reasons_on (change_of c) (path new n)) (n, m, at, is)
      (reasons-say both_suites (change_of c) (path new n))
  fate-says n F.New at is = one both_suites (node_row New (path_text new n)) (n, at, is)

  nodes-say : IsTree new → AreFates both_suites c.fates.now → (n : ℕ) → n ≤ length new → Say both_suites (nodes_rows (change_of c) n)
  nodes-say t fates zero h = none both_suites
  nodes-say t fates (suc n) h =
      let inside : n < length new = omega arith in
      both both_suites _ _ (nodes-say t fates n (omega arith))
      (by_choice both_suites _ _
      (λ listed. fate-says n (get_or c.fates.now n F.New) (record { node = record { above = above new t n listed; within = inside }; listed = listed; is = refl }) (fates n inside)))

  abbrev IsGone : ℕ → Type 0
  IsGone m = IsNode old m × (has_gone old new m ≡ true)

  gone-says : (ms : List ℕ) → All IsGone ms → Say both_suites (flat_map (gone_rows (change_of c)) ms)
  gone-says [] all = none both_suites
  gone-says (m ∷ ms) all =
      let first : IsGone m = all 0 m (omega arith) in
      both both_suites _ _
      (by_choice both_suites _ _ (λ listed. one both_suites (node_row Gone (path_text old m)) (m, record { node = first.0; listed = listed; is = refl }, first.1)))
      (gone-says ms (λ k d h. all (suc k) d (omega arith)))

  pub rows-say : IsTree new → AreFates both_suites c.fates.now → c.gone.now ≡ gone old new → Say both_suites (affected_rows (change_of c))
  rows-say t fates is =
      let are : All IsGone (gone old new) = λ k d h. (gone-nodes old new k d h, (those-are (has_gone old new) (length old) k d h).passed) in
      both both_suites _ _ (nodes-say t fates (length new) (omega arith)) (gone-says c.gone.now (subst (All IsGone) (sym is) are))

  -- the rows of a node are among those of all nodes below another
  among : (row : RowView) (n k : ℕ) → n < k → Contains (node_rows (change_of c) n) row → Contains (nodes_rows (change_of c) k) row
  among row n zero h is = absurd (omega arith)
  among row n (suc k) h is =
      elim (nat_lt n k) as (λ t. nat_lt n k ≡ t → Contains (nodes_rows (change_of c) k ++ node_rows (change_of c) k) row) [
        | true ↦ λ e. contains-left _ _ row (among row n k (grind (arith, nat_tests)) is)
        | false ↦ λ e. let same : n ≡ k = grind (arith, nat_tests) in contains-right _ _ row (subst (λ (j : ℕ). Contains (node_rows (change_of c) j) row) same is)
      ] refl

  module _ (n m : ℕ) (inside : n < length new) (listed : is_listed (head_of (row_at new n).kind) ≡ true) where
    -- a changed node is told
    changed-told : get_or c.fates.now n F.New ≡ F.Changed m → Contains (affected_rows (change_of c)) (node_row Changed (path_text new n))
    changed-told e =
        let row = node_row Changed (path_text new n) in
        let whole : node_rows (change_of c) n ≡ row ∷ reasons_on (change_of c) (path new n) = chosen _ _ [] listed ∙ ap (fate_rows (change_of c) n) e in
        contains-left _ _ row (among row n (length new) inside (subst (λ (rows : List RowView). Contains rows row) (sym whole) (contains-first row _)))

  module _ (n m : ℕ) (inside : n < length new) (listed : is_listed (head_of (row_at new n).kind) ≡ true) (is : namesake old new n ≡ Some m)
      (quiet : Contains (affected_rows (change_of c)) (node_row Changed (path_text new n)) → ⊥) where
    same-by : (f : Fate) → get_or c.fates.now n F.New ≡ f → IsFate both_suites n f → IsFate both_suites n (F.Same m)
    same-by (F.Same k) e fate =
        let whole : Some k ≡ Some m = sym fate.0.is ∙ is in
        let same : k ≡ m = cc in
        subst (λ (j : ℕ). IsFate both_suites n (F.Same j)) same fate
    same-by (F.Changed k) e fate = absurd (quiet (changed-told n k inside listed e))
    same-by F.New e fate = let wrong : None ≡ Some m = sym fate ∙ is in absurd (cc)

    -- a node that isn't told agrees with its namesake
    pub quiet-same : AreFates both_suites c.fates.now → IsFate both_suites n (F.Same m)
    quiet-same fates = same-by (get_or c.fates.now n F.New) refl (fates n inside)
