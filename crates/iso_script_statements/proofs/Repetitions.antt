-- Repetitions: items one after another, up to what ends them.
use Rattle.std.proofs.Common.{◌≡◌, List, [], ◌∷◌, ◌++◌, refl, ap, subst, sym}
use Rattle.iso_script_lexer.specs.Piece.{Piece}

-- these items, and then more
abbrev pub onto : {A L : Type 0} → (A → L → L) → List A → L → L
onto cons [] more = more
onto cons (a ∷ items) more = cons a (onto cons items more)

onto-push : {A L : Type 0} (cons : A → L → L) (items : List A) (a : A) (more : L) → onto cons (items ++ a ∷ []) more ≡ onto cons items (cons a more)
onto-push cons [] a more = refl
onto-push cons (b ∷ items) a more = ap (cons b) (onto-push cons items a more)

-- These items have been read, from first to here: what is read from here on is read with them from first, and whatever
-- is read from first goes on here.
pub record HaveRead {A L : Type 0} (cons : A → L → L) (Whole Left : L → List Piece → List Piece → Type 0) (items : List A) (first here : List Piece) : Type 0 where
  pub found : (more : L) (rest : List Piece) → Left more here rest → Whole (onto cons items more) first rest
  pub only : (all : L) (rest : List Piece) → Whole all first rest → (more : L) × Left more here rest

pub none_read : {A L : Type 0} (cons : A → L → L) (Whole : L → List Piece → List Piece → Type 0) (ps : List Piece) → HaveRead cons Whole Whole [] ps ps
none_read cons Whole ps = record { found = λ more rest h. h; only = λ all rest h. (all, h) }

-- one item more
pub read_more : {A L : Type 0} (cons : A → L → L) (Whole Left Then : L → List Piece → List Piece → Type 0) (items : List A) (a : A) (first here next : List Piece)
    → HaveRead cons Whole Left items first here
    → ((more : L) (rest : List Piece) → Then more next rest → Left (cons a more) here rest)
    → ((all : L) (rest : List Piece) → Left all here rest → (more : L) × Then more next rest)
    → HaveRead cons Whole Then (items ++ a ∷ []) first next
read_more cons Whole Left Then items a first here next so_far found only =
    record {
      found = λ more rest h. subst (λ all. Whole all first rest) (sym (onto-push cons items a more)) (so_far.found (cons a more) rest (found more rest h));
      only = λ all rest h. let p = so_far.only all rest h in only p.0 rest p.1;
    }
