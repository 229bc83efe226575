-- The lifecycle blocks of a class, by rules. `IsX x ps qs` says that the pieces ps are those of x,
-- and then the pieces qs.
--
-- lifecycle blocks: Of each kind one at most, with the line of its opening brace; none differs from
-- an empty one (`IsBlocks`, `Block`).
-- Standard: JUnit 5, `@BeforeAll`, `@AfterAll`, `@BeforeEach`, `@AfterEach`.
use Rattle.std.specs.Prelude.{ℕ, List, ◌∷◌, ◌≡◌, Bool, true, false, Option, Some, None, if◌then◌else◌}
use Rattle.std.specs.List.{filter_map}
use Rattle.std.specs.Option.{option_to_list}
use Rattle.iso_script_lexer.specs.Piece.{Piece, word_at, symbol_at}
use Rattle.iso_script_lexer.specs.declared.symbol.Symbol.TheVariants.{OpenBrace}
use Rattle.iso_script_lexer.specs.declared.word.Word.{Word}
use Rattle.iso_script_lexer.specs.declared.word.Word.TheVariants as W
use Rattle.iso_model.specs.Syntax.{Acts}
use Rattle.iso_model.specs.declared.place.Lifecycle.{Lifecycle}
use Rattle.iso_model.specs.declared.place.Lifecycle.TheVariants.{BeforeAll, AfterAll, BeforeEach, AfterEach}
use Rattle.iso_script_statements.specs.Statements.{IsBlock, body_of}
use Rattle.iso_script.specs.Readings.{AreRead, meant_next}
use Rattle.iso_script.specs.declared.block.Block as C
use Rattle.iso_script.specs.declared.block.Blocks as D
use Rattle.iso_script_lexer.specs.declared.token.Position.{Position}

-- what lifecycle block a word begins
abbrev pub block_word : Word → Option Lifecycle
block_word W.BeforeAll = Some BeforeAll
block_word W.AfterAll = Some AfterAll
block_word W.BeforeEach = Some BeforeEach
block_word W.AfterEach = Some AfterEach
block_word _ = None

-- what lifecycle block the word that is next begins
abbrev pub block_next : List Piece → Option Lifecycle
block_next = meant_next block_word

-- a lifecycle block: the line of its opening brace, and its statements
pub record Block : Type 0 where
  pub line : ℕ
  pub body : Acts

-- a lifecycle block, as it is written
pub record Written : Type 0 where
  pub kind : Lifecycle
  pub block : Block

pub data IsWritten : Written → List Piece → List Piece → Type 0 where
  a_block : {r b : Position} {w : Word} {k : Lifecycle} {body : Acts} {ps qs : List Piece}
      → block_word w ≡ Some k → IsBlock body (symbol_at b OpenBrace ∷ ps) qs
      → IsWritten (record { kind = k; block = record { line = b.line; body = body } })
      (word_at r w ∷ symbol_at b OpenBrace ∷ ps) qs

-- whether two kinds are one
abbrev pub same_kind : Lifecycle → Lifecycle → Bool
same_kind BeforeAll BeforeAll = true
same_kind AfterAll AfterAll = true
same_kind BeforeEach BeforeEach = true
same_kind AfterEach AfterEach = true
same_kind _ _ = false

-- the block, where it is one of this kind
abbrev pub block_in : Lifecycle → Written → Option Block
block_in k w = if same_kind k w.kind then Some w.block else None

-- The lifecycle blocks of a class, of each kind none or one: an empty one is not none.
abbrev pub Blocks : Type 0
Blocks = Lifecycle → Option Block

abbrev pub block_of : C.Block → Block
block_of b = record { line = b.line; body = body_of b.body }

-- a block, if it is written
abbrev pub block_if : Option C.Block → Option Block
block_if None = None
block_if (Some b) = Some (block_of b)

abbrev pub blocks_of : D.Blocks → Blocks
blocks_of b BeforeAll = block_if b.before_all
blocks_of b AfterAll = block_if b.after_all
blocks_of b BeforeEach = block_if b.before_each
blocks_of b AfterEach = block_if b.after_each

-- these blocks, and one of this kind
abbrev pub with_block : Lifecycle → Block → Blocks → Blocks
with_block k block blocks j = if same_kind j k then Some block else blocks j

-- the lifecycle blocks of a class, until none is next: of each kind one at most
pub record IsBlocks (blocks : Blocks) (ps qs : List Piece) : Type 0 where
  pub written : List Written
  pub read : AreRead IsWritten written ps qs
  pub ends : block_next qs ≡ None
  pub each : (k : Lifecycle) → filter_map (block_in k) written ≡ option_to_list (blocks k)
