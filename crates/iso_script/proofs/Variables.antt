-- Statics and fields by their rules, with what stands where as equations.
use Rattle.std.proofs.Common.{◌≡◌, ◌≢◌, ℕ, ◌<◌, length, arith, List, [], ◌∷◌, ◌++◌, Bool, true, false, ◌||◌, Some, None, map, refl, ap, subst, ◌∙◌, sym, append-nil}
use Rattle.std.proofs.lemmas.List.{map-append}
use Rattle.std.proofs.lemmas.Option.{some_pair_parts}
use Rattle.std.specs.List.{IsDistinct, AllByRecursion, filter_map}
use Rattle.std.specs.Option.{option_to_list}
use Rattle.std.specs.Str.{bytes_eq}
use Rattle.iso_script_lexer.specs.Piece.{Piece, name_at, word_at, symbol_at, tail}
use Rattle.iso_script_lexer.specs.Tokens.{after}
use Rattle.iso_script_lexer.specs.declared.symbol.Symbol.TheVariants.{Equals, Semicolon}
use Rattle.iso_script_lexer.proofs.Afters.{after-Some, after-symbol_at}
use Rattle.iso_model.specs.declared.data.Data.{Data}
use Rattle.iso_model.specs.declared.heads.Variable.{Variable}
use Rattle.iso_script_statements.specs.Expressions.{IsLiteral}
use Rattle.std.specs.Borrow.{Bor}
use Rattle.std.specs.BTreeSet.{BTreeSet}
use Rattle.iso_model.specs.NameSets.{Knows, is_among}
use Rattle.iso_script_statements.specs.Pieces.{name_next}
use Rattle.iso_script_statements.proofs.Shorter.{literal_shorter}
use Rattle.iso_script_statements.proofs.Taken.{name_is}
use Rattle.iso_script_statements.proofs.Unique.{one_literal}
use Rattle.iso_script.specs.Readings.{AreRead}
use Rattle.iso_script.specs.Variables.{variable_word, variable_next, Declared, IsDeclared, a_variable, Variables, static_in, field_in, name_in, names_of, IsVariables, IsNew}
use Rattle.iso_script.specs.declared.variable.VariableWord.{VariableWord}
use Rattle.iso_script.specs.declared.variable.VariableWord.TheVariants.{Static, Field}
use Rattle.iso_script.proofs.Distinct.{all_at, all_push, is_among-before, IsDistinct-none, IsDistinct-push}
use Rattle.iso_script.proofs.Readings.{meant_word, goes_on, one_reading, gives_more}
use Rattle.iso_script_lexer.specs.declared.token.Position.{Position}

-- a static or field, from its parts
pub is_declared : (word : VariableWord) (n m : List ℕ) (x : Data) (old ps qs rs ss new : List Piece) → m ≡ n → variable_next old ≡ Some word
    → ps ≡ tail old → name_next ps ≡ Some (n, qs) → after Equals qs ≡ Some rs → IsLiteral x rs ss → after Semicolon ss ≡ Some new
    → IsDeclared (record { word = word; variable = record { name = m; value = x } }) old new
is_declared word n m x old ps qs rs ss new same next ahead name equals literal semicolon =
    let w = meant_word variable_word word old next in
    let a = name_is n ps qs name in
    let e = after-Some Equals qs rs equals in
    let s = after-Some Semicolon ss new semicolon in
    let front : old ≡ word_at w.0 w.1 ∷ name_at a.0 n ∷ symbol_at e.0 Equals ∷ rs = w.2 ∙ ap (λ ps. word_at w.0 w.1 ∷ ps) (sym ahead ∙ a.1 ∙ ap (λ qs. name_at a.0 n ∷ qs) e.1) in
    subst (λ n. IsDeclared (record { word = word; variable = record { name = n; value = x } }) old new) (sym same)
    (subst (λ ps. IsDeclared (record { word = word; variable = record { name = n; value = x } }) ps new) (sym front) (a_variable w.3 (subst (λ qs. IsLiteral x rs qs) s.1 literal)))

-- what a static or field is made of, after its word
pub declared_parts : {d : Declared} {old rest : List Piece} (word : VariableWord) → variable_next old ≡ Some word → IsDeclared d old rest
    → (p s : Position) × (ps : List Piece) × (name_next (tail old) ≡ Some (d.variable.name, symbol_at p Equals ∷ ps)) × (d.word ≡ word) × IsLiteral d.variable.value ps (symbol_at s Semicolon ∷ rest)
declared_parts word next (a_variable {p = p} {s = s} {meant = m} {ps = ps} is literal) = let same : Some m ≡ Some word = sym is ∙ next in (p, s, ps, refl, cc, literal)

-- where an equals sign stands, after the name
pub equals_next : (n : List ℕ) (ps qs : List Piece) (word : VariableWord) (d : Declared) (old rest : List Piece)
    → ps ≡ tail old → name_next ps ≡ Some (n, qs) → variable_next old ≡ Some word → IsDeclared d old rest
    → (rs : List Piece) × (s : Position) × (after Equals qs ≡ Some rs) × IsLiteral d.variable.value rs (symbol_at s Semicolon ∷ rest)
equals_next n ps qs word d old rest ahead name next h =
    let p = declared_parts word next h in
    let same = some_pair_parts n d.variable.name qs (symbol_at p.0 Equals ∷ p.2) (sym name ∙ ap name_next ahead ∙ p.3) in
    (p.2, p.1, ap (after Equals) same.1 ∙ after-symbol_at p.0 Equals p.2, p.5)

none_some : {A : Type 0} (x : A) → None ≡ Some x → ⊥
none_some x h = cc

pub no_equals : (n : List ℕ) (ps qs : List Piece) (word : VariableWord) (d : Declared) (old rest : List Piece) → ps ≡ tail old
    → name_next ps ≡ Some (n, qs) → variable_next old ≡ Some word → after Equals qs ≡ None → IsDeclared d old rest → ⊥
no_equals n ps qs word d old rest ahead name next none h = let e = equals_next n ps qs word d old rest ahead name next h in none_some e.0 (sym none ∙ e.2)

pub literal_next : (n : List ℕ) (ps qs rs : List Piece) (word : VariableWord) (d : Declared) (old rest : List Piece) → ps ≡ tail old → name_next ps ≡ Some (n, qs)
    → variable_next old ≡ Some word → after Equals qs ≡ Some rs → IsDeclared d old rest → (s : Position) × IsLiteral d.variable.value rs (symbol_at s Semicolon ∷ rest)
literal_next n ps qs rs word d old rest ahead name next equals h =
    let e = equals_next n ps qs word d old rest ahead name next h in
    let same : Some e.0 ≡ Some rs = sym e.2 ∙ equals in
    let is : e.0 ≡ rs = cc in
    (e.1, subst (λ ps. IsLiteral d.variable.value ps (symbol_at e.1 Semicolon ∷ rest)) is e.3)

pub no_semicolon : (n : List ℕ) (x : Data) (ps qs rs ss : List Piece) (word : VariableWord) (d : Declared) (old rest : List Piece) → ps ≡ tail old
    → name_next ps ≡ Some (n, qs) → variable_next old ≡ Some word → after Equals qs ≡ Some rs → IsLiteral x rs ss → after Semicolon ss ≡ None → IsDeclared d old rest → ⊥
no_semicolon n x ps qs rs ss word d old rest ahead name next equals literal none h =
    let l = literal_next n ps qs rs word d old rest ahead name next equals h in
    let u = one_literal literal l.1 in
    none_some rest (sym none ∙ ap (after Semicolon) u.1 ∙ after-symbol_at l.0 Semicolon rest)

one_declared : (x y : Declared) (ps qs rs : List Piece) → IsDeclared x ps qs → IsDeclared y ps rs → (x ≡ y) × (qs ≡ rs)
one_declared x y ps qs rs (a_variable {meant = v} {n = n} h b) (a_variable {meant = w} i c) =
    let same : Some v ≡ Some w = sym h ∙ i in
    let is : v ≡ w = cc in
    let u = one_literal b c in
    (λ k. record { word = is k; variable = record { name = n; value = u.0 k } }, cc u.1)

some_declared : (x : Declared) (ps qs : List Piece) → IsDeclared x ps qs → variable_next ps ≢ None
some_declared x ps qs (a_variable {meant = m} h b) = λ e. none_some m (sym e ∙ h)

pub declared_shorter : {x : Declared} {ps qs : List Piece} → IsDeclared x ps qs → length qs < length ps
declared_shorter (a_variable h b) = omega (arith, literal_shorter b)

-- what has been read, as statics and fields
pub record ComeTo (written : List Declared) (variables : Variables) : Type 0 where
  pub distinct : IsDistinct bytes_eq (map name_in written)
  pub statics : filter_map static_in written ≡ variables.statics
  pub fields : filter_map field_in written ≡ variables.fields

-- the names as they are written are those of the statics and of the fields
or_swap : (a b c : Bool) → (a || (b || c)) ≡ (b || (a || c))
or_swap true true c = refl
or_swap true false c = refl
or_swap false b c = refl

among_statics_first : (n : List ℕ) (xs ys : List (List ℕ)) (m : List ℕ) → is_among (xs ++ m ∷ ys) n ≡ is_among (m ∷ (xs ++ ys)) n
among_statics_first n [] ys m = refl
among_statics_first n (x ∷ xs) ys m = ap (λ b. bytes_eq x n || b) (among_statics_first n xs ys m) ∙ or_swap (bytes_eq x n) (bytes_eq m n) (is_among (xs ++ ys) n)

among_next : (w : VariableWord) (x : Variable) (ds : List Declared) (n : List ℕ)
    → is_among (map name_in ds) n ≡ is_among (names_of (record { statics = filter_map static_in ds; fields = filter_map field_in ds })) n
    → is_among (map name_in (record { word = w; variable = x } ∷ ds)) n ≡ is_among
    (names_of (record { statics = filter_map static_in (record { word = w; variable = x } ∷ ds); fields = filter_map field_in (record { word = w; variable = x } ∷ ds) })) n
among_next Static x ds n h = ap (λ b. bytes_eq x.name n || b) h
among_next Field x ds n h =
    ap (λ b. bytes_eq x.name n || b) h
    ∙ sym (among_statics_first n (map (λ (v : Variable). v.name) (filter_map static_in ds)) (map (λ (v : Variable). v.name) (filter_map field_in ds)) x.name)

pub among_both : (written : List Declared) (n : List ℕ)
    → is_among (map name_in written) n ≡ is_among (names_of (record { statics = filter_map static_in written; fields = filter_map field_in written })) n
among_both [] n = refl
among_both (d ∷ ds) n = among_next d.word d.variable ds n (among_both ds n)

pub comes_to_none : ComeTo [] (record { statics = []; fields = [] })
comes_to_none = record { distinct = IsDistinct-none; statics = refl; fields = refl }

names_more : (ws : List Declared) (d : Declared) → map name_in (ws ++ d ∷ []) ≡ map name_in ws ++ d.variable.name ∷ []
names_more ws d = map-append name_in ws (d ∷ [])

pub knows_more : (set : BTreeSet (Bor (List ℕ))) (ws : List Declared) (d : Declared) → Knows set (map name_in ws ++ d.variable.name ∷ []) → Knows set (map name_in (ws ++ d ∷ []))
knows_more set ws d = subst (Knows set) (sym (names_more ws d))

pub stays_free : (taken : List (List ℕ)) (ws : List Declared) (d : Declared) → AllByRecursion (λ n. is_among taken n ≡ false) (map name_in ws)
    → is_among taken d.variable.name ≡ false → AllByRecursion (λ n. is_among taken n ≡ false) (map name_in (ws ++ d ∷ []))
stays_free taken ws d h k = subst (AllByRecursion (λ n. is_among taken n ≡ false)) (sym (names_more ws d)) (all_push (λ n. is_among taken n ≡ false) (map name_in ws) d.variable.name h k)

-- one static or field more
comes_to_more : (ws : List Declared) (d : Declared) (old new : Variables) → ComeTo ws old → is_among (map name_in ws) d.variable.name ≡ false
    → old.statics ++ option_to_list (static_in d) ≡ new.statics → old.fields ++ option_to_list (field_in d) ≡ new.fields → ComeTo (ws ++ d ∷ []) new
comes_to_more ws d old new come fresh statics fields =
    record {
      distinct = subst (IsDistinct bytes_eq) (sym (names_more ws d)) (IsDistinct-push (map name_in ws) d.variable.name come.distinct fresh);
      statics = gives_more static_in ws d _ _ come.statics statics;
      fields = gives_more field_in ws d _ _ come.fields fields;
    }

pub comes_to_static : (ws : List Declared) (w : VariableWord) (x : Variable) (old : Variables) → w ≡ Static → ComeTo ws old
    → is_among (map name_in ws) x.name ≡ false → ComeTo (ws ++ record { word = w; variable = x } ∷ []) (record { statics = old.statics ++ x ∷ []; fields = old.fields })
comes_to_static ws w x old is come fresh =
    comes_to_more ws (record { word = w; variable = x }) old (record { statics = old.statics ++ x ∷ []; fields = old.fields }) come fresh
    (ap (λ (v : VariableWord). old.statics ++ option_to_list (static_in (record { word = v; variable = x }))) is)
    (ap (λ (v : VariableWord). old.fields ++ option_to_list (field_in (record { word = v; variable = x }))) is ∙ append-nil old.fields)

pub comes_to_field : (ws : List Declared) (w : VariableWord) (x : Variable) (old : Variables) → w ≡ Field → ComeTo ws old → is_among (map name_in ws) x.name ≡ false
    → ComeTo (ws ++ record { word = w; variable = x } ∷ []) (record { statics = old.statics; fields = old.fields ++ x ∷ [] })
comes_to_field ws w x old is come fresh =
    comes_to_more ws (record { word = w; variable = x }) old (record { statics = old.statics; fields = old.fields ++ x ∷ [] }) come fresh
    (ap (λ (v : VariableWord). old.statics ++ option_to_list (static_in (record { word = v; variable = x }))) is ∙ append-nil old.statics)
    (ap (λ (v : VariableWord). old.fields ++ option_to_list (field_in (record { word = v; variable = x }))) is)

-- the set that knows all names knows those of the statics and fields
pub knows_both : (set : BTreeSet (Bor (List ℕ))) (ws : List Declared) (v : Variables) → ComeTo ws v → Knows set (map name_in ws) → Knows set (names_of v)
knows_both set ws v come knows = λ n. knows n ∙ among_both ws n ∙ ap (λ (xs : List Variable). is_among (names_of (record { statics = xs; fields = filter_map field_in ws })) n) come.statics
    ∙ ap (λ (ys : List Variable). is_among (names_of (record { statics = v.statics; fields = ys })) n) come.fields

-- what the next static or field is, where one is: its name is new
pub next_declared : (taken : List (List ℕ)) (ws : List Declared) (first here : List Piece) (word : VariableWord) → AreRead IsDeclared ws first here → variable_next here ≡ Some word
    → (all : Variables) (rest : List Piece) → IsVariables taken all first rest → (d : Declared) × (qs : List Piece) × IsDeclared d here qs × (d.word ≡ word)
    × IsNew taken (map name_in ws) d.variable.name
next_declared taken ws first here word read next all rest h =
    let g = goes_on IsDeclared variable_next one_declared some_declared ws h.written first here rest read h.read h.ends (λ e. none_some word (sym e ∙ next)) in
    let p = declared_parts word next g.4 in
    let names : map name_in h.written ≡ map name_in ws ++ g.0.variable.name ∷ map name_in g.1 = ap (map name_in) g.3 ∙ map-append name_in ws (g.0 ∷ g.1) in (
      g.0,
      g.2,
      g.4,
      p.4,
      (
        all_at (λ n. is_among taken n ≡ false) (map name_in ws) (map name_in g.1) g.0.variable.name (subst (AllByRecursion (λ n. is_among taken n ≡ false)) names h.free),
        is_among-before (map name_in ws) (map name_in g.1) g.0.variable.name (subst (IsDistinct bytes_eq) names h.distinct),
      ),
    )

pub one_variables : (taken : List (List ℕ)) (a b : Variables) (ps qs rs : List Piece) → IsVariables taken a ps qs → IsVariables taken b ps rs → (a ≡ b) × (qs ≡ rs)
one_variables taken a b ps qs rs h k =
    let u = one_reading IsDeclared variable_next one_declared some_declared h.written k.written ps qs rs h.read h.ends k.read k.ends in
    let statics = sym h.statics ∙ ap (filter_map static_in) u.0 ∙ k.statics in
    let fields = sym h.fields ∙ ap (filter_map field_in) u.0 ∙ k.fields in
    (λ i. record { statics = statics i; fields = fields i }, u.1)
