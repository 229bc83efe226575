-- The pieces that the lexer reads are those that the bytes have, and bytes have no others.
use Rattle.std.proofs.Common.{◌≡◌, ◌≢◌, ℕ, zero, suc, ◌<◌, ◌≤◌, List, [], ◌∷◌, ◌++◌, length, Bool, true, false, cond, nat_eq, nat_le, Some, None, refl, ap, sym, subst, ◌∙◌, arith, length-append}
use Rattle.std.proofs.lemmas.Bool.Decides.{nat_tests}
use Rattle.std.proofs.lemmas.Option.{some_pair_parts}
use Rattle.std.specs.List.{AllByRecursion}
use Rattle.iso_script_lexer.specs.Piece.{Piece, name_at, number_at, text_at, word_at, symbol_at, bad_at}
use Rattle.iso_script_lexer.specs.Spelling.{begins, is_blank, is_letter, is_digit, is_printable, in_comment, spelling}
use Rattle.iso_script_lexer.specs.TokenFaults.{begins_comment, token_fault, fault_of}
use Rattle.iso_script_lexer.specs.Text.{written}
use Rattle.iso_script_lexer.specs.declared.token.TokenFault.{TokenFault}
use Rattle.iso_script_lexer.specs.declared.token.TokenFault.TheVariants.{BadByte, BadToken}
use Rattle.iso_script_lexer.specs.LexicalGrammar.{decimal_value, EndsLine, IsIdentifier, IsGap, no_gap, a_blank, a_line, a_comment, Spells, spells_name, spells_word, spells_number, spells_text, spells_symbol, IsNoToken, HasPieces, ends, goes_on, breaks_off}
use Rattle.iso_script_lexer.specs.Scan.{gap_from, Front, no_token, after_gap, name_or_word, text_piece, symbol_front, quoted_length, front_of, front_on, then_pieces, pieces, pieces_of}
use Rattle.iso_script_lexer.specs.Positions.{Line, first_line, position}
use Rattle.iso_script_lexer.proofs.Decisions.{by_test, equal, both}
use Rattle.iso_script_lexer.proofs.Fuel.{after_gap_shorter, Shorter, front_shorter, pieces_of-step}
use Rattle.iso_script_lexer.proofs.Gaps.{InComment, Stops, Skip, skips, breaks, skipped, gap_passed}
use Rattle.iso_script_lexer.proofs.Fronts.{Fronts, at_end, a_token, no_front, stays, letter-BeginsNoGap, digit-BeginsNoGap, front_of-other}
use Rattle.iso_script_lexer.proofs.Words.{word_of-spelling, spelling-IsIdentifier}
use Rattle.iso_script_lexer.proofs.NameLemmas.{front_of-identifier, word_of-none, name_front}
use Rattle.iso_script_lexer.proofs.NumberLemmas.{front_of-numeral, number_front}
use Rattle.iso_script_lexer.proofs.TextLemmas.{front_of-text, text_front}
use Rattle.iso_script_lexer.proofs.SymbolLemmas.{front_of-symbol, stays-symbol, symbol_front-Fronts}
use Rattle.iso_script_lexer.specs.declared.token.Position.{Position}

-- what is spelled is read, and begins no gap
pub record IsRead (r : Line) (at : Position) (cs : List ℕ) (p : Piece) (rest : List ℕ) : Type 0 where
  pub at_token : after_gap false r cs ≡ (r, cs)
  pub token : front_of at cs ≡ Some (p, rest)

stays-identifier : (r : Line) (n rest : List ℕ) → IsIdentifier n → after_gap false r (n ++ rest) ≡ (r, n ++ rest)
stays-identifier r [] rest h = absurd h
stays-identifier r (b ∷ n) rest h = stays r b (n ++ rest) (letter-BeginsNoGap b h.0)

stays-numeral : (r : Line) (ds rest : List ℕ) → ds ≢ [] → AllByRecursion (λ c. is_digit c ≡ true) ds → after_gap false r (ds ++ rest) ≡ (r, ds ++ rest)
stays-numeral r [] rest h all = absurd (h refl)
stays-numeral r (d ∷ ds) rest h all = stays r d (ds ++ rest) (digit-BeginsNoGap d all.0)

fits_64 : (n : ℕ) → n ≤ 64 → nat_le n 64 ≡ true
fits_64 n h = grind (arith, nat_tests)

pub spelled-IsRead : (r : Line) {at : Position} {cs rest : List ℕ} {p : Piece} → Spells at cs p rest → IsRead r at cs p rest
spelled-IsRead r {at = at} {rest = rest} (spells_name {n = n} is name end) =
    subst (λ cs. IsRead r at cs (name_at at n) rest) (sym is) record {
      at_token = stays-identifier r n rest name.identifier;
      token = front_of-identifier at n rest name.identifier end (fits_64 (length n) name.short) ∙ ap (λ o. Some (name_or_word at n o, rest)) (word_of-none n name.free);
    }
spelled-IsRead r {at = at} {rest = rest} (spells_word {w = w} is end) =
    let name = spelling-IsIdentifier w in
    subst (λ cs. IsRead r at cs (word_at at w) rest) (sym is) record {
      at_token = stays-identifier r (spelling w) rest name.0;
      token = front_of-identifier at (spelling w) rest name.0 end name.1 ∙ ap (λ o. Some (name_or_word at (spelling w) o, rest)) (word_of-spelling w);
    }
spelled-IsRead r {at = at} {rest = rest} (spells_number digits is numeral end small) =
    subst (λ cs. IsRead r at cs (number_at at (decimal_value digits)) rest) (sym is) record {
      at_token = stays-numeral r digits rest numeral.0 numeral.1;
      token = front_of-numeral at digits rest numeral end small;
    }
spelled-IsRead r {at = at} {rest = rest} (spells_text {t = t} is text) =
    subst (λ cs. IsRead r at cs (text_at at t) rest) (sym is) record {
      at_token = stays r 34 (written t ++ (34 ∷ rest)) record { no_line = refl; no_blank = refl; no_slash = refl };
      token = front_of-text at t rest text.printable text.short;
    }
spelled-IsRead r {at = at} {rest = rest} (spells_symbol {s = s} is longest) =
    subst (λ cs. IsRead r at cs (symbol_at at s) rest) (sym is) record {
      at_token = stays-symbol r s rest;
      token = front_of-symbol at s rest (λ t more e. longest t more (is ∙ e));
    }

-- what is read is spelled
pub front_of-Fronts : (r : Position) (cs : List ℕ) → Fronts r cs (front_of r cs)
unfolding front_of symbol_front
front_of-Fronts r [] = at_end
front_of-Fronts r (b ∷ bs) =
    by_test (Fronts r (b ∷ bs)) (is_letter b) _ _ (name_front r b bs) (λ l.
    by_test (Fronts r (b ∷ bs)) (is_digit b) _ _ (number_front r b bs) (λ d.
    by_test (Fronts r (b ∷ bs)) (nat_eq b 34) _ _
    (λ q. subst (λ b. Fronts r (b ∷ bs) (text_piece r (quoted_length false 4096 bs) bs)) (sym (equal b 34 q)) (text_front r bs))
    (λ q. symbol_front-Fronts r b bs l d q)))

-- no token is bad
spelled-good : {r : Position} {q : ℕ} {cs rest : List ℕ} {p : Piece} {fault : TokenFault} → Spells r cs p rest → p ≢ bad_at q fault
spelled-good (spells_name is name end) e = cc
spelled-good (spells_word is end) e = cc
spelled-good (spells_number digits is numeral end small) e = cc
spelled-good (spells_text is text) e = cc
spelled-good (spells_symbol is longest) e = cc

nothing_spelled : (r : Position) (cs : List ℕ) (fault : TokenFault) → front_of r cs ≡ no_token r fault → (p : Piece) (rest : List ℕ) → Spells r cs p rest → ⊥
nothing_spelled r cs fault bad p rest s =
    spelled-good {q = r.line} s (some_pair_parts p (bad_at r.line fault) rest [] (sym (spelled-IsRead (first_line cs) s).token ∙ bad)).0

-- a gap that leaves as many bytes is empty
gap-le : {r q : Line} {bs cs : List ℕ} → IsGap r bs q cs → length cs ≤ length bs
gap-le no_gap = omega arith
gap-le (a_blank e g) = omega (arith, gap-le g)
gap-le (a_line e g) = omega (arith, gap-le g)
gap-le (a_comment text rest e s is all end g) = omega (arith, gap-le g, ap length is, length-append text rest)

gap_stays : {r q : Line} {bs cs : List ℕ} → IsGap r bs q cs → length bs ≤ length cs → (q ≡ r) × (cs ≡ bs)
gap_stays no_gap h = (refl, refl)
gap_stays (a_blank e g) h = absurd (omega (arith, gap-le g))
gap_stays (a_line e g) h = absurd (omega (arith, gap-le g))
gap_stays (a_comment text rest e s is all end g) h = absurd (omega (arith, gap-le g, ap length is, length-append text rest))

-- where a gap has ended and no token is read, there is none
ended-IsNoToken : (q : Line) (b : ℕ) (bs : List ℕ) (fault : TokenFault) → after_gap false q (b ∷ bs) ≡ (q, b ∷ bs) → front_on q (b ∷ bs) ≡ no_token (position q (b ∷ bs)) fault → IsNoToken q (b ∷ bs)
ended-IsNoToken q b bs fault ended bad = record {
  some_byte = λ e. cc;
  no_gap_begins = λ last cs g.
      let e : length (b ∷ bs) ≡ length (after_gap false last cs).1 = ap (λ (x : Line × List ℕ). length x.1) (sym ended ∙ gap_passed g) in
      (gap_stays g (omega (arith, e, after_gap_shorter false last cs))).1;
  no_token_begins = nothing_spelled (position q (b ∷ bs)) (b ∷ bs) fault bad;
}

-- a comment that is broken off is none
two_ways : (text text' more rest : List ℕ) (stop : ℕ) → text ++ (stop ∷ more) ≡ text' ++ rest → InComment text → InComment text' → Stops stop → EndsLine rest → ⊥
two_ways [] [] more [] stop is all all' out end = cc
two_ways [] [] more (b ∷ rest) stop is all all' out end = let e : stop ≡ b = cc in let n = out.no_line in grind (arith, nat_tests)
two_ways [] (t ∷ text') more rest stop is all all' out end = let e : stop ≡ t = cc in let n = out.outside in let k = all'.0 in let j : true ≡ false = sym k ∙ ap in_comment (sym e) ∙ n in cc
two_ways (t ∷ text) [] more [] stop is all all' out end = cc
two_ways (t ∷ text) [] more (b ∷ rest) stop is all all' out end = let e : t ≡ b = cc in let k = all.0 in grind (arith, nat_tests)
two_ways (t ∷ text) (t' ∷ text') more rest stop is all all' out end = two_ways text text' more rest stop (cc) all.1 all'.1 out end

broken_gap : (q : Line) (a b : ℕ) (last : Line) (stop : ℕ) (text more bs ds : List ℕ) → a ≡ 47 → b ≡ 47
    → bs ≡ text ++ (stop ∷ more) → InComment text → Stops stop → IsGap q (a ∷ b ∷ bs) last ds → ds ≡ a ∷ b ∷ bs
broken_gap q a b last stop text more bs ds e s is all out no_gap = refl
broken_gap q a b last stop text more bs ds e s is all out (a_blank blank g) = absurd (grind (arith, nat_tests))
broken_gap q a b last stop text more bs ds e s is all out (a_line line g) = absurd (omega arith)
broken_gap q a b last stop text more bs ds e s is all out (a_comment text' rest e' s' is' all' end g) = absurd (two_ways text text' more rest stop (sym is ∙ is') all all' out end)

slashes_bad : (q : Position) (bs : List ℕ) → front_of q (47 ∷ bs) ≡ no_token q BadToken
slashes_bad q bs = front_of-other q 47 bs refl refl refl

broken-IsNoToken : (q : Line) (stop : ℕ) (text more : List ℕ) → InComment text → Stops stop → IsNoToken q (47 ∷ 47 ∷ (text ++ (stop ∷ more)))
broken-IsNoToken q stop text more all out = record {
  some_byte = λ e. cc;
  no_gap_begins = λ last cs g. broken_gap q 47 47 last stop text more (text ++ (stop ∷ more)) cs refl refl refl all out g;
  no_token_begins = nothing_spelled _ _ BadToken (slashes_bad _ _);
}

-- a byte that is not allowed begins no token
differs : (b c : ℕ) → in_comment b ≡ false → is_printable c ≡ true → nat_eq b c ≡ false
differs b c h k = grind (arith, nat_tests)

stop_bad : (q : Position) (b : ℕ) (bs : List ℕ) → Stops b → front_of q (b ∷ bs) ≡ no_token q BadByte
stop_bad q b bs h =
    let out = h.outside in
    let l : is_letter b ≡ false = grind (arith, nat_tests) in
    let d : is_digit b ≡ false = grind (arith, nat_tests) in
    let hidden : is_printable b ≡ false = grind (arith, nat_tests) in
    let n : (c : ℕ) → is_printable c ≡ true → nat_eq b c ≡ false = λ c k. differs b c out k in
    front_of-other q b bs l d (n 34 refl)
    ∙ rw (n 43 refl, n 61 refl, n 33 refl, n 123 refl, n 125 refl, n 40 refl, n 41 refl, n 59 refl, n 44 refl, n 45 refl, n 42 refl, n 60 refl, hidden) refl

pub pieces_of-nil : (q : Line) → pieces_of q [] ≡ []
unfolding pieces_of pieces gap_from front_of
pieces_of-nil q = refl

after_gap-nil : (q : Line) → after_gap false q [] ≡ (q, [])
unfolding gap_from
after_gap-nil q = refl

pub front_of-nil : (q : Position) → front_of q [] ≡ None
unfolding front_of
front_of-nil q = refl

-- the pieces where no token is
pub then_pieces-no_token : (at : Position) (q : Line) (fault : TokenFault) → then_pieces (no_token at fault) (pieces_of q) ≡ bad_at at.line fault ∷ []
then_pieces-no_token at q fault = ap (λ ps. bad_at at.line fault ∷ ps) (pieces_of-nil q)

-- where a gap has ended no comment begins
comment_passes : (q : Line) (b : ℕ) (bs : List ℕ) → begins_comment (b ∷ bs) ≡ true → after_gap false q (b ∷ bs) ≡ after_gap true q bs
unfolding gap_from
comment_passes q b bs h =
    let is : b ≡ 47 = equal b 47 (both (nat_eq b 47) (begins 47 bs) h).0 in
    let line : nat_eq b 10 ≡ false = grind (arith, nat_tests) in
    let blank : is_blank b ≡ false = grind (arith, nat_tests) in
    rw (line, blank, h) refl

no_comment : (q : Line) (b : ℕ) (bs : List ℕ) → after_gap false q (b ∷ bs) ≡ (q, b ∷ bs) → fault_of (b ∷ bs) ≡ token_fault (b ∷ bs)
no_comment q b bs ended = go (begins_comment (b ∷ bs)) refl
  where
    go : (t : Bool) → begins_comment (b ∷ bs) ≡ t → cond t BadByte (token_fault (b ∷ bs)) ≡ token_fault (b ∷ bs)
    go false e = refl
    go true e =
        let l : length (b ∷ bs) ≡ length (after_gap true q bs).1 = ap (λ (x : Line × List ℕ). length x.1) (sym ended ∙ comment_passes q b bs e) in
        absurd (omega (arith, l, after_gap_shorter true q bs))

-- one piece read, and those after it
one_HasPieces : (r q : Line) (bs cs : List ℕ) (f : Front) → front_on q cs ≡ f → (q, cs) ≡ after_gap false r bs → Fronts (position q cs) cs f → Skip r bs q cs →
    ((rest : List ℕ) → length rest < length bs → HasPieces q rest (pieces_of q rest)) → HasPieces r bs (then_pieces f (pieces_of q))
one_HasPieces r q bs cs f is at at_end (skips g) more = ends g
one_HasPieces r q bs cs f is at at_end (breaks text rest g all out e) more = cc
one_HasPieces r q bs cs f is at (a_token {rest = rest} s) (skips g) more =
    let shorter : length rest < length cs = subst (Shorter (length cs)) is (front_shorter (position q cs) cs) in
    goes_on g s (more rest (omega (arith, gap-le g)))
one_HasPieces r q bs cs f is at (a_token s) (breaks {stop = stop} text rest g all out e) more =
    absurd (nothing_spelled (position q cs) cs BadByte (ap (front_of (position q cs)) e ∙ stop_bad (position q cs) stop rest out) _ _ s)
one_HasPieces r q bs cs f is at (no_front {b = b} {bs = ds} {fault = fault} same) (skips g) more =
    let ended : after_gap false q (b ∷ ds) ≡ (q, b ∷ ds) = sym (gap_passed g) ∙ sym at in
    subst (HasPieces r bs) (sym (then_pieces-no_token (position q (b ∷ ds)) q fault ∙ ap (λ f. bad_at q.0 f ∷ []) (same ∙ sym (no_comment q b ds ended))))
    (breaks_off g (ended-IsNoToken q b ds fault ended is))
one_HasPieces r q bs cs f is at (no_front same) (breaks {stop = stop} text rest g all out e) more =
    subst (HasPieces r bs)
    (sym (ap (λ f. then_pieces f (pieces_of q)) (sym is ∙ ap (front_of (position q cs)) e ∙ stop_bad (position q cs) stop rest out) ∙ then_pieces-no_token (position q cs) q BadByte))
    (breaks_off g (broken-IsNoToken q stop text rest all out))

-- what is read are the pieces
enough-HasPieces : (n : ℕ) (r : Line) (bs : List ℕ) → length bs < n → HasPieces r bs (pieces_of r bs)
enough-HasPieces zero r bs h = absurd (omega arith)
enough-HasPieces (suc n) r bs h =
    let at : Line × List ℕ = after_gap false r bs in
    subst (HasPieces r bs) (sym (pieces_of-step r at.0 bs at.1 refl))
    (one_HasPieces r at.0 bs at.1 (front_on at.0 at.1) refl refl (front_of-Fronts (position at.0 at.1) at.1) (skipped r bs)
    (λ rest shorter. enough-HasPieces n at.0 rest (omega arith)))

pub pieces_of-HasPieces : (r : Line) (bs : List ℕ) → HasPieces r bs (pieces_of r bs)
pieces_of-HasPieces r bs = enough-HasPieces (suc (length bs)) r bs (omega arith)

-- bytes have no other pieces
none_read : (q : Line) (cs : List ℕ) (f : Front) → IsNoToken q cs → after_gap false q cs ≡ (q, cs) → Fronts (position q cs) cs f → then_pieces f (pieces_of q) ≡ bad_at q.0 (fault_of cs) ∷ []
none_read q cs f none ended at_end = absurd (none.some_byte refl)
none_read q cs f none ended (a_token s) = absurd (none.no_token_begins _ _ s)
none_read q cs f none ended (no_front {b = b} {bs = bs} {fault = fault} same) =
    then_pieces-no_token (position q (b ∷ bs)) q fault ∙ ap (λ f. bad_at q.0 f ∷ []) (same ∙ sym (no_comment q b bs ended))

broken_off : (q last : Line) (cs ds : List ℕ) → IsNoToken q cs → after_gap false q cs ≡ (last, ds) → Skip q cs last ds
    → then_pieces (front_on last ds) (pieces_of last) ≡ bad_at q.0 (fault_of cs) ∷ []
broken_off q last cs ds none passed (skips g) =
    let same = none.no_gap_begins last ds g in
    let row = gap_stays g (let e = ap length same in omega arith) in
    let ended : after_gap false q cs ≡ (q, cs) = passed ∙ ap (λ l. (l, ds)) row.0 ∙ ap (λ es. (q, es)) same in
    subst (λ l. then_pieces (front_on l ds) (pieces_of l) ≡ bad_at q.0 (fault_of cs) ∷ []) (sym row.0)
    (subst (λ es. then_pieces (front_on q es) (pieces_of q) ≡ bad_at q.0 (fault_of cs) ∷ []) (sym same) (none_read q cs (front_on q cs) none ended (front_of-Fronts (position q cs) cs)))
broken_off q last cs ds none passed (breaks {stop = stop} text more g all out e) =
    let same = none.no_gap_begins last _ g in
    let row = gap_stays g (let e = ap length same in omega arith) in
    ap (λ f. then_pieces f (pieces_of last)) (ap (front_of (position last ds)) e ∙ stop_bad (position last ds) stop more out)
    ∙ then_pieces-no_token (position last ds) last BadByte ∙ ap (λ (l : Line). bad_at l.0 BadByte ∷ []) row.0
    ∙ ap (λ es. bad_at q.0 (fault_of es) ∷ []) same

pub HasPieces-pieces_of : {r : Line} {bs : List ℕ} {ps : List Piece} → HasPieces r bs ps → pieces_of r bs ≡ ps
HasPieces-pieces_of {r = r} {bs = bs} (ends {q = q} g) =
    pieces_of-step r q bs [] (sym (gap_passed g ∙ after_gap-nil q)) ∙ ap (λ f. then_pieces f (pieces_of q)) (front_of-nil (position q []))
HasPieces-pieces_of {r = r} {bs = bs} (goes_on {q = q} {cs = cs} {p = p} g s more) =
    let read = spelled-IsRead q s in
    pieces_of-step r q bs cs (sym (gap_passed g ∙ read.at_token))
    ∙ ap (λ f. then_pieces f (pieces_of q)) read.token
    ∙ ap (λ ps. p ∷ ps) (HasPieces-pieces_of more)
HasPieces-pieces_of {r = r} {bs = bs} (breaks_off {q = q} {cs = cs} g none) =
    let at : Line × List ℕ = after_gap false q cs in
    pieces_of-step r at.0 bs at.1 (sym (gap_passed g)) ∙ broken_off q at.0 cs at.1 none refl (skipped q cs)

pub one_list : {r : Line} {bs : List ℕ} {ps qs : List Piece} → HasPieces r bs ps → HasPieces r bs qs → ps ≡ qs
one_list a b = sym (HasPieces-pieces_of a) ∙ HasPieces-pieces_of b
