-- Scripts in the midst of their classes.
use Rattle.std.proofs.Common.{◌≡◌, ◌≢◌, ◌<◌, ◌≤◌, ℕ, IfErr, IfOk, length, arith, List, [], ◌∷◌, Option, Some, None, Result, Ok, Err, MatchResult, refl, ap, subst, sym, ◌∙◌}
use Rattle.std.proofs.lemmas.Option.{some_pair_parts}
use Rattle.iso_script_lexer.proofs.Afters.{after_word-word_at}
use Rattle.iso_model.specs.ScriptView.{script_of}
use Rattle.iso_model.specs.declared.script.Script as D
use Rattle.iso_script_lexer.specs.LexicalGrammar.{ArePiecesOf}
use Rattle.iso_script_lexer.proofs.Pieces.{one_list}
use Rattle.iso_model.specs.declared.limits.TheConstants.{FILE_BYTES}
use Rattle.iso_script_statements.specs.Faults.{IsMemory, IsFaultOf, IsUnexpected, ScriptError}
use Rattle.iso_model.specs.declared.input_error.InputError.TheVariants.{Fault, OutOfMemory}
use Rattle.iso_script_lexer.specs.Piece.{Piece, name_at}
use Rattle.iso_script_lexer.specs.Tokens.{after_word}
use Rattle.iso_script_lexer.specs.declared.word.Word.TheVariants as W
use Rattle.iso_model.specs.Scripts.{Class, Script}
use Rattle.iso_script.specs.Places.{Finds}
use Rattle.iso_script.specs.Readings.{ArePlaced}
use Rattle.iso_script.specs.declared.place.NodePlace.{NodePlace}
use Rattle.iso_script.proofs.Readings.{Somewhere, read_somewhere, goes_on}
use Rattle.iso_script_statements.specs.Pieces.{name_next}
use Rattle.iso_script_statements.proofs.Taken.{named}
use Rattle.iso_script.specs.NoScript.{too_long, IsOfBeginning, HasScriptFault, UnlessMemory}
use Rattle.iso_script.specs.Grammar.{IsTopClass, IsScript, a_script, ReadsPlaced, Reads}
use Rattle.iso_script.proofs.Unique.{left, one_reading, one_top_class, some_class}

is_left : (ps : List Piece) → ps ≢ [] → left ps ≢ None
is_left [] some = absurd (some refl)
is_left (p ∷ ps) some = λ e. cc

-- where something is left, whatever is read goes on with a class
pub next_class : (cs : List Class) (places : List NodePlace) (first here : List Piece) → ArePlaced IsTopClass cs places first here
    → here ≢ [] → (all : List Class) (others : List NodePlace) → ArePlaced IsTopClass all others first []
    → (c : Class) × (own : List NodePlace) × (qs : List Piece) × IsTopClass c own here qs
next_class cs places first here read some all others h =
    let g =
    goes_on (Somewhere IsTopClass) left one_somewhere some_somewhere cs all first here [] (read_somewhere IsTopClass cs places first here read) (read_somewhere IsTopClass all others first [] h) refl
    (is_left here some) in
    (g.0, g.4.0, g.2, g.4.1)
  where
    one_somewhere : (c b : Class) (ps qs rs : List Piece) → Somewhere IsTopClass c ps qs → Somewhere IsTopClass b ps rs → (c ≡ b) × (qs ≡ rs)
    one_somewhere c b ps qs rs h k = let u = one_top_class c b h.0 k.0 ps qs rs h.1 k.1 in (u.0, u.2)

    some_somewhere : (c : Class) (ps qs : List Piece) → Somewhere IsTopClass c ps qs → left ps ≢ None
    some_somewhere c ps qs h = some_class c h.0 ps qs h.1

pub is_script : (n : List ℕ) (cs : List Class) (places : List NodePlace) (old ps qs : List Piece) → after_word W.Team old ≡ Some ps
    → name_next ps ≡ Some (n, qs) → ArePlaced IsTopClass cs places qs [] → IsScript (record { team = n; classes = cs }) places old
is_script n cs places old ps qs word name h =
    let s = named W.Team n old ps qs word name in
    subst (IsScript (record { team = n; classes = cs }) places) (sym s.2) (a_script h)

-- a script begins with its word and its name
pub script_word : (s : Script) (places : List NodePlace) (ps : List Piece) → after_word W.Team ps ≡ None → IsScript s places ps → ⊥
script_word s places ps none (a_script {r = r} {q = q} {n = n} {ps = rest} h) = let e : None ≡ Some (name_at q n ∷ rest) = sym none ∙ after_word-word_at r W.Team (name_at q n ∷ rest) in cc

pub script_name : (s : Script) (places : List NodePlace) (old ps : List Piece) → after_word W.Team old ≡ Some ps → name_next ps ≡ None → IsScript s places old → ⊥
script_name s places old ps word none (a_script {r = r} {q = q} {n = n} {ps = rest} h) =
    let e : Some (name_at q n ∷ rest) ≡ Some ps = sym (after_word-word_at r W.Team (name_at q n ∷ rest)) ∙ word in
    let is : name_at q n ∷ rest ≡ ps = cc in
    let f : name_next (name_at q n ∷ rest) ≡ None = ap name_next is ∙ none in
    cc

-- the classes of a script
pub script_classes : (n : List ℕ) (s : Script) (places : List NodePlace) (old ps : List Piece) {qs : List Piece}
    → after_word W.Team old ≡ Some ps → name_next ps ≡ Some (n, qs) → IsScript s places old → (cs : List Class) × ArePlaced IsTopClass cs places qs []
script_classes n s places old ps {qs} word name (a_script {r = r} {q = q} {n = k} {cs = cs} {ps = rest} h) =
    let e : Some (name_at q k ∷ rest) ≡ Some ps = sym (after_word-word_at r W.Team (name_at q k ∷ rest)) ∙ word in
    let is : name_at q k ∷ rest ≡ ps = cc in
    let same = some_pair_parts k n rest qs (ap name_next is ∙ name) in
    (cs, subst (λ ps. ArePlaced IsTopClass cs places ps []) same.1 h)

-- the fault of a beginning: of the word, of the name, and of neither
pub of_word : (e : ScriptError) (ps : List Piece) → after_word W.Team ps ≡ None → IsFaultOf (IsUnexpected ps) e → UnlessMemory (λ fault. IsOfBeginning ps fault.kind) e
of_word OutOfMemory ps none h = tt
of_word (Fault fault) ps none h = record { word = λ _. h; name = λ qs some _. let e : None ≡ Some qs = sym none ∙ some in cc }

pub of_name : (e : ScriptError) (ps qs : List Piece) → after_word W.Team ps ≡ Some qs → name_next qs ≡ None → IsFaultOf (IsUnexpected qs) e → UnlessMemory (λ fault. IsOfBeginning ps fault.kind) e
of_name OutOfMemory ps qs some none h = tt
of_name (Fault fault) ps qs some none h = record {
  word = λ no. let e : None ≡ Some qs = sym no ∙ some in cc;
  name = λ rs other _. let e : Some qs ≡ Some rs = sym some ∙ other in let same : qs ≡ rs = cc in subst (λ xs. IsUnexpected xs fault.kind) same h;
}

pub of_rest : (e : ScriptError) (n : List ℕ) (ps : List Piece) {qs rs : List Piece} → after_word W.Team ps ≡ Some qs
    → name_next qs ≡ Some (n, rs) → UnlessMemory (λ fault. IsOfBeginning ps fault.kind) e
of_rest OutOfMemory n ps some name = tt
of_rest (Fault fault) n ps {qs} {rs} some name = record {
  word = λ no. let e : None ≡ Some qs = sym no ∙ some in cc;
  name = λ xs other none.
      let e : Some qs ≡ Some xs = sym some ∙ other in
      let same : qs ≡ xs = cc in
      let f : Some (n, rs) ≡ None = sym name ∙ ap name_next same ∙ none in cc;
}

-- what is read of the pieces of bytes is read of the bytes
pub is_reading : (r : Result D.Script ScriptError) (bytes : List ℕ) (ps : List Piece) (before after : Option (List NodePlace)) → length bytes ≤ FILE_BYTES → ArePiecesOf bytes ps
    → Finds script_of (λ s places. IsScript s places ps) r before after → Finds script_of (ReadsPlaced bytes) r before after
is_reading (Ok x) bytes ps before after short spelled h = (h.0, record { short = short; pieces = ps; spelled = spelled; read = h.1 }, h.2)
is_reading (Err e) bytes ps before after short spelled h = λ s places reads. h s places (subst (IsScript s places) (one_list reads.spelled spelled) reads.read)

-- bytes are one script, at one list of places
pub one_placed : {bytes : List ℕ} {s t : Script} {places others : List NodePlace} → ReadsPlaced bytes s places → ReadsPlaced bytes t others → (s ≡ t) × (places ≡ others)
one_placed {places = places} {others = others} a b = one_reading (λ line bytes ps qs a b. one_list a b) _ _ _ places others a b

-- what is answered is the script of the bytes
pub found : (r : Result D.Script ScriptError) (bytes : List ℕ) (before after : Option (List NodePlace)) → Finds script_of (ReadsPlaced bytes) r before after → IfOk r (λ s. Reads bytes (script_of s))
found (Ok x) bytes before after h = record { places = h.0; placed = h.1 }
found (Err e) bytes before after h = tt

pub answers_only : (r : Result D.Script ScriptError) (bytes : List ℕ) (before after : Option (List NodePlace))
    → Finds script_of (ReadsPlaced bytes) r before after → (s : Script) → Reads bytes s → MatchResult r (λ v. script_of v ≡ s) IsMemory
answers_only (Ok x) bytes before after h s reads = (one_placed h.1 reads.placed).0
answers_only (Err e) bytes before after h s reads = h s reads.places reads.placed

-- the fault of bytes is that of their pieces, or that they are too many
pub has_fault : (r : Result D.Script ScriptError) (bytes : List ℕ) (ps : List Piece) (before after : Option (List NodePlace)) → length bytes ≤ FILE_BYTES → ArePiecesOf bytes ps
    → Finds script_of (λ s places. IsScript s places ps) r before after → IfErr r (UnlessMemory (λ fault. IsOfBeginning ps fault.kind)) → IfErr r (UnlessMemory (HasScriptFault bytes))
has_fault (Ok x) bytes ps before after short spelled h k = tt
has_fault (Err OutOfMemory) bytes ps before after short spelled h k = tt
has_fault (Err (Fault fault)) bytes ps before after short spelled h k = record {
  unread = λ s reads. h s reads.places (subst (IsScript s reads.places) (one_list reads.placed.spelled spelled) reads.placed.read);
  long = λ more. absurd (omega (arith, more, short));
  begins = λ qs _ other. subst (λ xs. IsOfBeginning xs fault.kind) (one_list spelled other) k;
}

pub is_too_long : (bytes : List ℕ) → FILE_BYTES < length bytes → HasScriptFault bytes too_long
is_too_long bytes more = record {
  unread = λ s reads. absurd (omega (arith, more, reads.placed.short));
  long = λ _. refl;
  begins = λ ps short _. absurd (omega (arith, more, short));
}
