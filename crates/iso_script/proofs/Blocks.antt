-- Lifecycle blocks by their rules, with what stands where as equations.
use Rattle.std.proofs.Common.{◌≡◌, ◌≢◌, ◌<◌, length, arith, List, [], ◌∷◌, ◌++◌, Bool, true, false, Option, Some, None, is_some, refl, ap, subst, ◌∙◌, sym, append-nil, append_assoc}
use Rattle.std.proofs.lemmas.List.Elements.{filter_map-append}
use Rattle.std.specs.List.{filter_map}
use Rattle.std.specs.Option.{option_to_list}
use Rattle.iso_script_lexer.specs.Piece.{Piece, word_at, symbol_at, tail}
use Rattle.iso_model.specs.Syntax.{Acts}
use Rattle.iso_model.specs.declared.place.Lifecycle.{Lifecycle}
use Rattle.iso_model.specs.declared.place.Lifecycle.TheVariants.{BeforeAll, AfterAll, BeforeEach, AfterEach}
use Rattle.iso_script_statements.specs.Statements.{IsBlock}
use Rattle.iso_script_statements.specs.Statements as S
use Rattle.iso_script_lexer.specs.Tokens.{front}
use Rattle.iso_script_lexer.specs.declared.symbol.Symbol.TheVariants.{OpenBrace}
use Rattle.iso_script_lexer.specs.declared.token.Position.{Position}
use Rattle.iso_script_lexer.specs.declared.token.Token.{Token}
use Rattle.iso_script_lexer.specs.declared.token.Token.TheVariants as T
use Rattle.iso_script_statements.proofs.Shorter.{block_shorter}
use Rattle.iso_script_statements.proofs.Unique.{one_block}
use Rattle.iso_script.specs.Blocks.{block_word, block_next, Block, Written, IsWritten, a_block, same_kind, block_in, Blocks, with_block, IsBlocks}
use Rattle.iso_script.specs.Readings.{AreRead}
use Rattle.iso_script.proofs.Readings.{meant_word, goes_on, one_reading, gives_more}

-- a block begins with its brace, and the token that is next is this one
pub block_brace : {body : Acts} {r : Position} {old new : List Piece} (t : Token) → IsBlock body old new → old ≡ front r t (tail old) → (ps : List Piece) × (old ≡ symbol_at r OpenBrace ∷ ps)
block_brace {r = r} t (S.a_block {r = q} {ps = ps} h) next = (ps, ap (λ p. symbol_at p OpenBrace ∷ ps) (sym (go t (sym next))))
  where
    go : (t : Token) → front r t ps ≡ symbol_at q OpenBrace ∷ ps → r ≡ q
    go (T.Name n) h = cc
    go (T.Number n) h = cc
    go (T.Text n) h = cc
    go (T.Word w) h = cc
    go (T.Symbol s) h = cc
    go T.End h = cc
    go (T.Bad fault) h = cc

pub is_written : (k : Lifecycle) (r : Position) (t : Token) (body : Acts) (old ps new : List Piece) → block_next old ≡ Some k → ps ≡ tail old → ps ≡ front r t (tail ps) → IsBlock body ps new
    → IsWritten (record { kind = k; block = record { line = r.line; body = body } }) old new
is_written k r t body old ps new h e next block =
    let s = meant_word block_word k old h in
    let b = block_brace t block next in
    subst (λ qs. IsWritten (record { kind = k; block = record { line = r.line; body = body } }) qs new) (sym (s.2 ∙ ap (λ qs. word_at s.0 s.1 ∷ qs) (sym e ∙ b.1)))
    (a_block s.3 (subst (λ qs. IsBlock body qs new) b.1 block))

one_written : (x y : Written) (ps qs rs : List Piece) → IsWritten x ps qs → IsWritten y ps rs → (x ≡ y) × (qs ≡ rs)
one_written x y ps qs rs (a_block {b = p} {k = k} h b) (a_block {k = j} i c) =
    let same : Some k ≡ Some j = sym h ∙ i in
    let is : k ≡ j = cc in
    let u = one_block b c in
    (λ n. record { kind = is n; block = record { line = p.line; body = u.0 n } }, u.1)

some_written : (x : Written) (ps qs : List Piece) → IsWritten x ps qs → block_next ps ≢ None
some_written x ps qs (a_block {k = k} h b) = λ e. let none : None ≡ Some k = sym e ∙ h in cc

pub written_shorter : {x : Written} {ps qs : List Piece} → IsWritten x ps qs → length qs < length ps
written_shorter (a_block h b) = omega (arith, block_shorter b)

-- what follows the word of a block
pub written_inner : {x : Written} {old rest : List Piece} (k : Lifecycle) → block_next old ≡ Some k → IsWritten x old rest → (x.kind ≡ k) × IsBlock x.block.body (tail old) rest
written_inner k h (a_block {k = j} i b) = let same : Some j ≡ Some k = sym i ∙ h in (cc, b)

same_is : (j k : Lifecycle) → same_kind j k ≡ true → j ≡ k
same_is BeforeAll BeforeAll h = refl
same_is AfterAll AfterAll h = refl
same_is BeforeEach BeforeEach h = refl
same_is AfterEach AfterEach h = refl
same_is BeforeAll AfterAll h = cc
same_is BeforeAll BeforeEach h = cc
same_is BeforeAll AfterEach h = cc
same_is AfterAll BeforeAll h = cc
same_is AfterAll BeforeEach h = cc
same_is AfterAll AfterEach h = cc
same_is BeforeEach BeforeAll h = cc
same_is BeforeEach AfterAll h = cc
same_is BeforeEach AfterEach h = cc
same_is AfterEach BeforeAll h = cc
same_is AfterEach AfterAll h = cc
same_is AfterEach BeforeEach h = cc

pub same_self : (k : Lifecycle) → same_kind k k ≡ true
same_self BeforeAll = refl
same_self AfterAll = refl
same_self BeforeEach = refl
same_self AfterEach = refl

-- one block more, of a kind that is not there
block_more : (blocks : Blocks) (j : Lifecycle) (block : Block) → blocks j ≡ None → (k : Lifecycle)
    → option_to_list (blocks k) ++ option_to_list (block_in k (record { kind = j; block = block })) ≡ option_to_list (with_block j block blocks k)
block_more blocks j block none k = go (same_kind k j) refl
  where
    go : (b : Bool) → same_kind k j ≡ b → option_to_list (blocks k) ++ option_to_list (block_in k (record { kind = j; block = block })) ≡ option_to_list (with_block j block blocks k)
    go true e = rw e (ap (λ (o : Option Block). option_to_list o ++ block ∷ []) (ap blocks (same_is k j e) ∙ none))
    go false e = rw e (append-nil (option_to_list (blocks k)))

none_is : (o : Option Block) → false ≡ is_some o → o ≡ None
none_is None h = refl
none_is (Some x) h = cc

pub comes_to_more : (ws : List Written) (j : Lifecycle) (block : Block) (blocks next : Blocks) → false ≡ is_some (blocks j) → next ≡ with_block j block blocks
    → ((k : Lifecycle) → filter_map (block_in k) ws ≡ option_to_list (blocks k)) → (k : Lifecycle) → filter_map (block_in k) (ws ++ record { kind = j; block = block } ∷ []) ≡ option_to_list (next k)
comes_to_more ws j block blocks next none is come k =
    gives_more (block_in k) ws (record { kind = j; block = block }) _ _ (come k) (block_more blocks j block (none_is (blocks j) none) k ∙ ap (λ (bs : Blocks). option_to_list (bs k)) (sym is))

some_is : (k : Lifecycle) → None ≡ Some k → ⊥
some_is k h = cc

-- what the next block is, where one is
pub next_block : (ws : List Written) (first here : List Piece) (j : Lifecycle) → AreRead IsWritten ws first here
    → block_next here ≡ Some j → (all : Blocks) (rest : List Piece) → (h : IsBlocks all first rest)
    → (w : Written) × (more : List Written) × (qs : List Piece) × (h.written ≡ ws ++ w ∷ more) × (w.kind ≡ j) × IsBlock w.block.body (tail here) qs
next_block ws first here j read next all rest h =
    let g = goes_on IsWritten block_next one_written some_written ws h.written first here rest read h.read h.ends (λ e. some_is j (sym e ∙ next)) in
    let inner = written_inner j next g.4 in
    (g.0, g.1, g.2, g.3, inner.0, inner.1)

two_listed : {A : Type 0} (x y : A) (xs : List A) (o : Option A) → x ∷ y ∷ xs ≡ option_to_list o → ⊥
two_listed x y xs None h = cc
two_listed x y xs (Some z) h = cc

-- a second block of a kind is none
pub no_second : (ws : List Written) (first here : List Piece) (j : Lifecycle) (blocks : Blocks) → AreRead IsWritten ws first here → block_next here ≡ Some j → true ≡ is_some (blocks j)
    → ((k : Lifecycle) → filter_map (block_in k) ws ≡ option_to_list (blocks k)) → (all : Blocks) (rest : List Piece) → IsBlocks all first rest → ⊥
no_second ws first here j blocks read next some come all rest h = go (blocks j) refl some
  where
    go : (o : Option Block) → blocks j ≡ o → true ≡ is_some o → ⊥
    go None e s = cc
    go (Some x) e s =
        let n = next_block ws first here j read next all rest h in
        let is : block_in j n.0 ≡ Some n.0.block = rw (n.4, same_self j) refl in
        let both = gives_more (block_in j) ws n.0 (x ∷ []) (x ∷ n.0.block ∷ []) (come j ∙ ap option_to_list e) (ap (λ o. x ∷ option_to_list o) is) in
        two_listed x n.0.block (filter_map (block_in j) n.1) (all j)
        (ap (λ xs. xs ++ filter_map (block_in j) n.1) (sym both) ∙ sym (filter_map-append (block_in j) (ws ++ n.0 ∷ []) n.1)
        ∙ ap (filter_map (block_in j)) (append_assoc ws (n.0 ∷ []) n.1 ∙ sym n.3) ∙ h.each j)

option_is : {A : Type 0} (o p : Option A) → option_to_list o ≡ option_to_list p → o ≡ p
option_is None None h = refl
option_is None (Some x) h = cc
option_is (Some x) None h = cc
option_is (Some x) (Some y) h = cc

pub one_blocks : (a b : Blocks) (ps qs rs : List Piece) → IsBlocks a ps qs → IsBlocks b ps rs → (a ≡ b) × (qs ≡ rs)
one_blocks a b ps qs rs h k =
    let u = one_reading IsWritten block_next one_written some_written h.written k.written ps qs rs h.read h.ends k.read k.ends in
    let same : (j : Lifecycle) → a j ≡ b j = λ j. option_is (a j) (b j) (sym (h.each j) ∙ ap (filter_map (block_in j)) u.0 ∙ k.each j) in
    (λ i j. same j i, u.1)
