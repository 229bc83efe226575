-- What each line that is added keeps of the lines, their hints have.
use Rattle.std.proofs.Common.{ℕ, List, [], Bool, true, false, Option, None, Some, codes, cond}
use Rattle.iso_explain_block.specs.BlockFaults.{hints, lines_of_kind}
use Rattle.iso_explain_block.specs.Blocks.{block_acts, sees_fields}
use Rattle.iso_explain_block.specs.Expressions.{call_lines, term_lines, terms_lines}
use Rattle.iso_explain_block.specs.Fixed.{fixed_lines, with_rule}
use Rattle.iso_explain_block.specs.Kinds.{is, kind_of, chain_kind}
use Rattle.iso_explain_block.specs.Lines.{with_line}
use Rattle.iso_explain_block.specs.Marks.{marks_for}
use Rattle.iso_explain_block.specs.Messages.{after}
use Rattle.iso_explain_block.specs.Missing.{chain_names, meant_lines, meant_of}
use Rattle.iso_explain_block.specs.Operations.{all_are, chain_lines, fits, pair_lines, single_lines}
use Rattle.iso_explain_block.specs.Statements.{acts_lines, inner_lines, own_lines, plain_pair_lines, plain_single_lines}
use Rattle.iso_explain_block.specs.Unknown.{field_lines, name_lines, nearest_lines, nearest_of, visible_names}
use Rattle.iso_explain_block.specs.Views.{BlockFaultView}
use Rattle.iso_explain_block.specs.declared.kind.Kind.{Kind}
use Rattle.iso_explain_block.specs.declared.operation.Taking.{Taking}
use Rattle.iso_explain_block.specs.declared.names_in_blocks.Thing.{Thing}
use Rattle.iso_explain_block.specs.declared.names_in_blocks.Thing.TheVariants as T
use Rattle.iso_model.specs.Syntax.{Term, literal, name, chain, compare, call, locale, Terms, no_terms, term, let_name, assign, print, assert, assert_equal, assume, fail, set_prop, clear_prop, set_locale, write_file, append_file, delete_file, Act, plain, choice, repeat, Acts, no_acts, act}
use Rattle.iso_model.specs.declared.fault.FaultKind.{FaultKind}
use Rattle.iso_model.specs.declared.fault.FaultKind.TheVariants as K
use Rattle.iso_model.specs.declared.tree.Function.{Function}
use Rattle.iso_model.specs.declared.tree.Function.TheVariants as F
use Rattle.iso_model.specs.declared.tree.Operator.{Operator}

module _ (P : List (List ℕ) → Type 0) (more : (line : List ℕ) (lines : List (List ℕ)) → P lines → P (with_line line lines)) where
  either : (b : Bool) (x y : List (List ℕ)) → P x → P y → P (cond b x y)
  either true x y p q = p
  either false x y p q = q

  single_kept : (rule : List ℕ) (wanted : Kind) (t : Term) (ls : List (List ℕ)) → P ls → P (single_lines rule wanted t ls)
  unfolding single_lines
  single_kept rule wanted t ls p = either (is wanted (kind_of t)) _ _ p (more _ ls p)

  pair_kept : (rule : List ℕ) (taking : Taking) (t u : Term) (ls : List (List ℕ)) → P ls → P (pair_lines rule taking t u ls)
  unfolding pair_lines
  pair_kept rule taking t u ls p = either (fits taking (kind_of t) (kind_of u)) _ _ p (more _ ls p)

  chain_kept : (o : Operator) (t : Term) (ts : Terms) (ls : List (List ℕ)) → P ls → P (chain_lines o t ts ls)
  unfolding chain_lines
  chain_kept o t ts ls p = either (all_are (chain_kind o) (term t ts)) _ _ p (more _ ls p)

  call_kept : (f : Function) (t : Term) (ls : List (List ℕ)) → P ls → P (call_lines f t ls)
  call_kept F.Text t ls p = p
  call_kept F.Len t ls p = single_kept _ _ t ls p
  call_kept F.Prop t ls p = single_kept _ _ t ls p
  call_kept F.HasProp t ls p = single_kept _ _ t ls p
  call_kept F.File t ls p = single_kept _ _ t ls p
  call_kept F.HasFile t ls p = single_kept _ _ t ls p

  mutual
    term_kept : (t : Term) (ls : List (List ℕ)) → P ls → P (term_lines t ls)
    term_kept (literal d) ls p = p
    term_kept (name x) ls p = p
    term_kept (chain o t ts) ls p = chain_kept o t ts _ (terms_kept ts _ (term_kept t ls p))
    term_kept (compare c t u) ls p = pair_kept _ _ t u _ (term_kept u _ (term_kept t ls p))
    term_kept (call f t) ls p = call_kept f t _ (term_kept t ls p)
    term_kept locale ls p = p

    terms_kept : (ts : Terms) (ls : List (List ℕ)) → P ls → P (terms_lines ts ls)
    terms_kept no_terms ls p = p
    terms_kept (term t ts) ls p = terms_kept ts _ (term_kept t ls p)

  one_kept : (rule : List ℕ) (wanted : Kind) (t : Term) (ls : List (List ℕ)) → P ls → P (plain_single_lines rule wanted t ls)
  unfolding plain_single_lines
  one_kept rule wanted t ls p = single_kept rule wanted t _ (term_kept t ls p)

  two_kept : (rule : List ℕ) (taking : Taking) (t u : Term) (ls : List (List ℕ)) → P ls → P (plain_pair_lines rule taking t u ls)
  unfolding plain_pair_lines
  two_kept rule taking t u ls p = pair_kept rule taking t u _ (term_kept u _ (term_kept t ls p))

  own_kept : (a : Act) (ls : List (List ℕ)) → P ls → P (own_lines a ls)
  own_kept (plain (let_name x t)) ls p = term_kept t ls p
  own_kept (plain (assign x t)) ls p = term_kept t ls p
  own_kept (plain (print t)) ls p = term_kept t ls p
  own_kept (plain (fail x)) ls p = p
  own_kept (plain (assert t)) ls p = one_kept _ _ t ls p
  own_kept (plain (assume t x)) ls p = one_kept _ _ t ls p
  own_kept (choice t a b) ls p = one_kept _ _ t ls p
  own_kept (repeat t a) ls p = one_kept _ _ t ls p
  own_kept (plain (clear_prop t)) ls p = one_kept _ _ t ls p
  own_kept (plain (set_locale t)) ls p = one_kept _ _ t ls p
  own_kept (plain (delete_file t)) ls p = one_kept _ _ t ls p
  own_kept (plain (assert_equal t u)) ls p = two_kept _ _ t u ls p
  own_kept (plain (set_prop t u)) ls p = two_kept _ _ t u ls p
  own_kept (plain (write_file t u)) ls p = two_kept _ _ t u ls p
  own_kept (plain (append_file t u)) ls p = two_kept _ _ t u ls p

  mutual
    acts_kept : (row : ℕ) (ss : Acts) (ls : List (List ℕ)) → P ls → P (acts_lines row ss ls)
    acts_kept row no_acts ls p = p
    acts_kept row (act r a rest) ls p = acts_kept row rest _ (inner_kept row a _ (either _ _ _ (own_kept a ls p) p))

    inner_kept : (row : ℕ) (a : Act) (ls : List (List ℕ)) → P ls → P (inner_lines row a ls)
    inner_kept row (plain s) ls p = p
    inner_kept row (choice t a b) ls p = acts_kept row b _ (acts_kept row a ls p)
    inner_kept row (repeat t a) ls p = acts_kept row a ls p

  nearest_kept : (found : Option (List ℕ)) (ls : List (List ℕ)) → P ls → P (nearest_lines found ls)
  nearest_kept None ls p = p
  nearest_kept (Some x) ls p = more _ ls p

  meant_kept : (thing : Thing) (found : Option (List ℕ)) (f : BlockFaultView) (ls : List (List ℕ)) → P ls → P (meant_lines thing found f ls)
  meant_kept thing None f ls p = p
  meant_kept thing (Some x) f ls p = nearest_kept (meant_of x (chain_names thing f.heads f.test)) ls p

  field_kept : (x : List ℕ) (f : BlockFaultView) (ls : List (List ℕ)) → P ls → P (field_lines x f ls)
  unfolding field_lines
  field_kept x f ls p = either (sees_fields f.block) _ _ p (either _ _ _ (more _ ls p) p)

  name_kept : (found : Option (List ℕ)) (f : BlockFaultView) (ls : List (List ℕ)) → P ls → P (name_lines found f ls)
  name_kept None f ls p = p
  name_kept (Some x) f ls p = more _ _ (field_kept x f _ (nearest_kept (nearest_of x (visible_names f)) ls p))

  marks_kept : (read write : Option (List ℕ)) (f : BlockFaultView) (ls : List (List ℕ)) → P ls → P (marks_for read write f ls)
  marks_kept (Some key) write f ls p = more _ ls p
  marks_kept None (Some key) f ls p = more _ ls p
  marks_kept None None f ls p = p

  rule_kept : (rule : List ℕ) (ls : List (List ℕ)) → P ls → P (with_rule rule ls)
  unfolding with_rule
  rule_kept rule ls p = either _ _ _ p (more rule ls p)

  fixed_kept : (kind : FaultKind) (message : List ℕ) (ls : List (List ℕ)) → P ls → P (fixed_lines kind message ls)
  fixed_kept kind message ls p = rule_kept _ _ (rule_kept _ _ (rule_kept _ ls p))

  kind_kept : (kind : FaultKind) (f : BlockFaultView) (ls : List (List ℕ)) → P ls → P (lines_of_kind kind f ls)
  kind_kept K.WrongKind f ls p = acts_kept f.row (block_acts f.block f.heads f.test) ls p
  kind_kept K.UnknownName f ls p = name_kept _ f ls p
  kind_kept K.Undeclared f ls p = marks_kept _ _ f ls p
  kind_kept K.Overflow f ls p = fixed_kept K.Overflow f.message ls p
  kind_kept K.DoubleName f ls p = fixed_kept K.DoubleName f.message ls p
  kind_kept K.Frozen f ls p = fixed_kept K.Frozen f.message ls p
  kind_kept K.Missing f ls p =
      fixed_kept K.Missing f.message _
      (meant_kept T.File (after (codes "missing file ") f.message) f _ (meant_kept T.Property (after (codes "missing property ") f.message) f ls p))
  kind_kept K.BadCount f ls p = fixed_kept K.BadCount f.message ls p
  kind_kept K.OutOfSteps f ls p = fixed_kept K.OutOfSteps f.message ls p
  kind_kept K.OutputFull f ls p = fixed_kept K.OutputFull f.message ls p
  kind_kept K.TextTooLong f ls p = fixed_kept K.TextTooLong f.message ls p

  pub hints-kept : (f : BlockFaultView) → P [] → P (hints f)
  unfolding hints
  hints-kept f p = kind_kept f.kind f [] p
