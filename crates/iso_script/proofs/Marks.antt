-- Marks by their rules, with what stands where as equations.
use Rattle.std.proofs.Common.{◌≡◌, ◌≢◌, ℕ, List, [], ◌∷◌, ◌++◌, Bool, true, false, Option, Some, None, is_some, ◌<◌, ◌≤◌, ◌+◌, length, arith, refl, ap, subst, ◌∙◌, sym, append-nil, append_assoc}
use Rattle.std.proofs.lemmas.List.Elements.{filter_map-append}
use Rattle.std.specs.List.{filter_map}
use Rattle.std.specs.Option.{option_to_list}
use Rattle.iso_script_lexer.specs.Piece.{Piece, text_at, word_at, tail}
use Rattle.iso_script_lexer.specs.Tokens.{after_word}
use Rattle.iso_script_lexer.specs.declared.word.Word.TheVariants as W
use Rattle.iso_script_lexer.proofs.Afters.{after_word-Some, after_word-word_at}
use Rattle.iso_model.specs.declared.heads.Mark.{Mark}
use Rattle.iso_model.specs.declared.heads.Target.{Target}
use Rattle.iso_model.specs.declared.heads.Target.TheVariants.{Itself, Children}
use Rattle.iso_model.specs.declared.script.Mode.{Mode as ExecutionMode}
use Rattle.iso_script_statements.specs.Statements.{a_display}
use Rattle.iso_script_statements.proofs.Unique.{one_display}
use Rattle.iso_script.specs.Marks.{mark_word, mark_next, key_fault, IsKeyText, a_key, IsTarget, of_children, of_itself, Marking, runs, isolates, disables, declares, IsMarked, a_mode, an_isolation, a_disabling, a_declaration, IsMarking, a_mark, Marks, mode_in, isolation_in, reason_in, key_in, isolation, ComeTo, IsMarks, Adds}
use Rattle.iso_script.specs.Readings.{AreRead}
use Rattle.iso_script.specs.declared.mark.MarkWord.{MarkWord}
use Rattle.iso_script.specs.declared.mark.MarkWord.TheVariants.{Access}
use Rattle.iso_script.proofs.Readings.{meant_word, goes_on, one_reading, gives_more}
use Rattle.iso_script_lexer.specs.declared.token.Position.{Position}

pub is_key_text : (q : Position) (k t : List ℕ) (old new : List Piece) → k ≡ t → old ≡ text_at q t ∷ tail old → new ≡ tail old → key_fault k ≡ None → IsKeyText k old new
is_key_text q k t old new same is ahead key =
    subst (λ ps. IsKeyText k ps new) (sym (is ∙ ap (λ u. text_at q u ∷ tail old) (sym same))) (subst (λ ps. IsKeyText k (text_at q k ∷ tail old) ps) (sym ahead) (a_key key))

pub is_marking : (meant : MarkWord) (x : Marking) (old ps new : List Piece) → mark_next old ≡ Some meant → ps ≡ tail old → IsMarked meant x ps new → IsMarking x old new
is_marking meant x old ps new h e m =
    let s = meant_word mark_word meant old h in
    subst (λ ps. IsMarking x ps new) (sym s.2) (a_mark s.3 (subst (λ qs. IsMarked meant x qs new) e m))

pub is_of_children : (old new : List Piece) → after_word W.Children old ≡ Some new → IsTarget Children old new
is_of_children old new word =
    let s = after_word-Some W.Children old new word in
    subst (λ ps. IsTarget Children ps new) (sym s.1) of_children

pub is_of_itself : (old new : List Piece) → after_word W.Children old ≡ None → new ≡ old → IsTarget Itself old new
is_of_itself old new none same = subst (IsTarget Itself old) (sym same) (of_itself none)

no_children : (r : Position) (ps : List Piece) → after_word W.Children (word_at r W.Children ∷ ps) ≡ None → ⊥
no_children r ps none = let e : None ≡ Some ps = sym none ∙ after_word-word_at r W.Children ps in cc

one_target : {t u : Target} {ps qs rs : List Piece} → IsTarget t ps qs → IsTarget u ps rs → (t ≡ u) × (qs ≡ rs)
one_target of_children of_children = (refl, refl)
one_target (of_itself h) (of_itself k) = (refl, refl)
one_target (of_children {r = r} {ps = ps}) (of_itself k) = absurd (no_children r ps k)
one_target (of_itself h) (of_children {r = r} {ps = ps}) = absurd (no_children r ps h)

one_key : {k l : List ℕ} {ps qs rs : List Piece} → IsKeyText k ps qs → IsKeyText l ps rs → (k ≡ l) × (qs ≡ rs)
one_key (a_key h) (a_key k) = (refl, refl)

-- what follows the word of a mark
pub marked_next : {x : Marking} {old ps rest : List Piece} (meant : MarkWord) → mark_next old ≡ Some meant → ps ≡ tail old → IsMarking x old rest → IsMarked meant x ps rest
marked_next {x = x} {rest = rest} meant next ahead (a_mark {meant = m} {ps = inner} h k) =
    let same : Some m ≡ Some meant = sym h ∙ next in
    let is : m ≡ meant = cc in
    subst (λ ps. IsMarked meant x ps rest) (sym ahead) (subst (λ o. IsMarked o x inner rest) is k)

-- what the word of an access declares, as the code has its target
pub key_next : {a : _} {t : Target} {x : Marking} {ps mid rest : List Piece} → IsTarget t ps mid → IsMarked (Access a) x ps rest → (k : List ℕ) × IsKeyText k mid rest
key_next {rest = rest} h (a_declaration {k = k} i j) = (k, subst (λ ps. IsKeyText k ps rest) (sym (one_target h i).1) j)

one_marked : {meant : MarkWord} {x y : Marking} {ps qs rs : List Piece} → IsMarked meant x ps qs → IsMarked meant y ps rs → (x ≡ y) × (qs ≡ rs)
one_marked a_mode a_mode = (refl, refl)
one_marked an_isolation an_isolation = (refl, refl)
one_marked (a_disabling h) (a_disabling k) = let u = one_display h k in (ap disables u.0, u.1)
one_marked (a_declaration {a = a} h i) (a_declaration {k = k} {rs = rs} j l) =
    let u = one_target h j in
    let v = one_key i (subst (λ ps. IsKeyText k ps rs) (sym u.1) l) in
    (λ i. declares (record { access = a; target = u.0 i; key = v.0 i }), v.1)

one_marking : (x y : Marking) (ps qs rs : List Piece) → IsMarking x ps qs → IsMarking y ps rs → (x ≡ y) × (qs ≡ rs)
one_marking x y ps qs rs (a_mark {meant = m} {ps = inner} h k) (a_mark {meant = n} i l) =
    let same : Some m ≡ Some n = sym h ∙ i in
    let is : m ≡ n = cc in
    one_marked k (subst (λ o. IsMarked o y inner rs) (sym is) l)

target_within : {t : Target} {ps qs : List Piece} → IsTarget t ps qs → length qs ≤ length ps
target_within of_children = omega arith
target_within (of_itself none) = omega arith

marked_within : {meant : MarkWord} {x : Marking} {ps qs : List Piece} → IsMarked meant x ps qs → length qs < length ps + 1
marked_within a_mode = omega arith
marked_within an_isolation = omega arith
marked_within (a_disabling (a_display is)) = omega arith
marked_within (a_declaration h (a_key k)) = omega (arith, target_within h)

pub marking_shorter : {x : Marking} {ps qs : List Piece} → IsMarking x ps qs → length qs < length ps
marking_shorter (a_mark h k) = omega (arith, marked_within k)

some_marking : (x : Marking) (ps qs : List Piece) → IsMarking x ps qs → mark_next ps ≢ None
some_marking x ps qs (a_mark {meant = m} h k) = λ e. let none : None ≡ Some m = sym e ∙ h in cc

-- one mark more
pub comes_to_more : (ws : List Marking) (x : Marking) (old new : Marks) → ComeTo ws old → Adds x old new → ComeTo (ws ++ x ∷ []) new
comes_to_more ws x old new h k =
    record {
      mode = gives_more mode_in ws x _ _ h.mode k.mode;
      isolated = gives_more isolation_in ws x _ _ h.isolated k.isolated;
      disabled = gives_more reason_in ws x _ _ h.disabled k.disabled;
      keys = gives_more key_in ws x _ _ h.keys k.keys;
    }

none_listed : {A : Type 0} (o : Option A) → is_some o ≡ false → option_to_list o ≡ []
none_listed None h = refl
none_listed (Some x) h = cc

not_isolated : (b : Bool) → b ≡ false → isolation b ≡ []
not_isolated false h = refl
not_isolated true h = cc

pub adds_mode : (m : ExecutionMode) (old : Marks) → is_some old.mode ≡ false → Adds (runs m) old (record { mode = Some m; isolated = old.isolated; disabled = old.disabled; keys = old.keys })
adds_mode m old h = record {
  mode = ap (λ xs. xs ++ m ∷ []) (none_listed old.mode h);
  isolated = append-nil (isolation old.isolated);
  disabled = append-nil (option_to_list old.disabled);
  keys = append-nil old.keys;
}

pub adds_isolation : (old : Marks) → old.isolated ≡ false → Adds isolates old (record { mode = old.mode; isolated = true; disabled = old.disabled; keys = old.keys })
adds_isolation old h = record {
  mode = append-nil (option_to_list old.mode);
  isolated = ap (λ xs. xs ++ isolates ∷ []) (not_isolated old.isolated h);
  disabled = append-nil
      (option_to_list old.disabled);
  keys = append-nil old.keys;
}

pub adds_reason : (reason : List ℕ) (old : Marks) → is_some old.disabled ≡ false
    → Adds (disables reason) old (record { mode = old.mode; isolated = old.isolated; disabled = Some reason; keys = old.keys })
adds_reason reason old h = record {
  mode = append-nil (option_to_list old.mode);
  isolated = append-nil (isolation old.isolated);
  disabled = ap (λ xs. xs ++ reason ∷ [])
      (none_listed old.disabled h);
  keys = append-nil old.keys;
}

pub adds_key : (k : Mark) (old : Marks) → Adds (declares k) old (record { mode = old.mode; isolated = old.isolated; disabled = old.disabled; keys = old.keys ++ k ∷ [] })
adds_key k old = record { mode = append-nil (option_to_list old.mode); isolated = append-nil (isolation old.isolated); disabled = append-nil (option_to_list old.disabled); keys = refl }

-- the front of an option's list is that of an option
front_of_option : {A : Type 0} (xs ys : List A) (o : Option A) → xs ++ ys ≡ option_to_list o → (p : Option A) × (xs ≡ option_to_list p)
front_of_option [] ys o h = (None, refl)
front_of_option (x ∷ []) ys o h = (Some x, refl)
front_of_option (x ∷ y ∷ xs) ys None h = cc
front_of_option (x ∷ y ∷ xs) ys (Some z) h = cc

front_of_isolation : (xs ys : List Marking) (b : Bool) → xs ++ ys ≡ isolation b → (c : Bool) × (xs ≡ isolation c)
front_of_isolation [] ys b h = (false, refl)
front_of_isolation (x ∷ []) ys true h = (true, ap (λ zs. first zs) h)
  where
    first : List Marking → List Marking
    first [] = []
    first (z ∷ zs) = z ∷ []
front_of_isolation (x ∷ []) ys false h = cc
front_of_isolation (x ∷ y ∷ xs) ys true h = cc
front_of_isolation (x ∷ y ∷ xs) ys false h = cc

-- the marks of a longer list have room for the first of the rest
split : {A : Type 0} (f : Marking → Option A) (ws more : List Marking) (x : Marking) (old all : List A)
    → filter_map f ws ≡ old → filter_map f (ws ++ x ∷ more) ≡ all → (rest : List A) × ((old ++ option_to_list (f x)) ++ rest ≡ all)
split f ws more x old all h k = (
  filter_map f more,
  ap (λ ys. ys ++ filter_map f more) (sym (gives_more f ws x old (old ++ option_to_list (f x)) h refl))
      ∙ sym (filter_map-append f (ws ++ x ∷ []) more) ∙ ap (filter_map f) (append_assoc ws (x ∷ []) more) ∙ k,
)

pub has_room : (ws more : List Marking) (x : Marking) (old all : Marks) → ComeTo ws old → ComeTo (ws ++ x ∷ more) all → (next : Marks) × Adds x old next
has_room ws more x old all h k =
    let m = split mode_in ws more x _ _ h.mode k.mode in
    let i = split isolation_in ws more x _ _ h.isolated k.isolated in
    let d = split reason_in ws more x _ _ h.disabled k.disabled in
    let mode = front_of_option _ m.0 all.mode m.1 in
    let isolated = front_of_isolation _ i.0 all.isolated i.1 in
    let disabled = front_of_option _ d.0 all.disabled d.1 in (
      record { mode = mode.0; isolated = isolated.0; disabled = disabled.0; keys = old.keys ++ option_to_list (key_in x) },
      record { mode = mode.1; isolated = isolated.1; disabled = disabled.1; keys = refl },
    )

some_is : (meant : MarkWord) → None ≡ Some meant → ⊥
some_is meant h = cc

-- no marks are read where the next of them is none, or one too many
pub marks_refused : (P : Type 0) (ws : List Marking) (old : Marks) (first here : List Piece) (meant : MarkWord)
    → ((x : Marking) (rest : List Piece) (more : Marks) → IsMarking x here rest → Adds x old more → P)
    → ComeTo ws old → AreRead IsMarking ws first here → mark_next here ≡ Some meant → (all : Marks) (rest : List Piece) → IsMarks all first rest → P
marks_refused P ws old first here meant refused come read next all rest h =
    let g = goes_on IsMarking mark_next one_marking some_marking ws h.written first here rest read h.read h.ends (λ e. some_is meant (sym e ∙ next)) in
    let room = has_room ws g.1 g.0 old all come (subst (λ xs. ComeTo xs all) g.3 h.come) in
    refused g.0 g.2 room.0 g.4 room.1

option_is : {A : Type 0} (o p : Option A) → option_to_list o ≡ option_to_list p → o ≡ p
option_is None None h = refl
option_is None (Some x) h = cc
option_is (Some x) None h = cc
option_is (Some x) (Some y) h = cc

isolation_is : (b c : Bool) → isolation b ≡ isolation c → b ≡ c
isolation_is true true h = refl
isolation_is true false h = cc
isolation_is false true h = cc
isolation_is false false h = refl

pub one_marks : (a b : Marks) (ps qs rs : List Piece) → IsMarks a ps qs → IsMarks b ps rs → (a ≡ b) × (qs ≡ rs)
one_marks a b ps qs rs h k =
    let u = one_reading IsMarking mark_next one_marking some_marking h.written k.written ps qs rs h.read h.ends k.read k.ends in
    let come = subst (λ ws. ComeTo ws a) u.0 h.come in
    let mode = option_is a.mode b.mode (sym come.mode ∙ k.come.mode) in
    let isolated = isolation_is a.isolated b.isolated (sym come.isolated ∙ k.come.isolated) in
    let disabled = option_is a.disabled b.disabled (sym come.disabled ∙ k.come.disabled) in
    let keys = sym come.keys ∙ k.come.keys in
    (λ i. record { mode = mode i; isolated = isolated i; disabled = disabled i; keys = keys i }, u.1)

pub not_some : {A : Type 0} (o : Option A) → ((x : A) → o ≡ Some x → ⊥) → o ≡ None
not_some None h = refl
not_some (Some x) h = absurd (h x refl)
