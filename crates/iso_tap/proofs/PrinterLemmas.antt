-- Texts that a printer writes one after another.
use Rattle.std.proofs.Common.{◌≡◌, ℕ, ◌+◌, ◌<◌, List, [], ◌∷◌, ◌++◌, length, get_or, drop, Result, Ok, Err, refl, sym, ap, subst, ◌∙◌, arith, append_assoc, append-nil, add-one, drop-cons, replicate, take, ◌≤◌, ◌-◌, true≢false}
use Rattle.std.proofs.lemmas.Result.{on_ok_weaker, on_err_weaker}
use Rattle.std.proofs.lemmas.List.{replicate-append-replicate, take-replicate}
use Rattle.std.specs.Result.{IsErr}
use Rattle.iso_tap.specs.Printers.{Prints, only}
use Rattle.iso_tap.specs.declared.printer.Printer.{Printer}
use Rattle.iso_tap.specs.declared.sink.Sink.{Ghosts}
use Rattle.iso_tap.specs.declared.sink.SinkFailed.{SinkFailed}
use Rattle.iso_tap.proofs.Sequences.{Wrote-none, Wrote-then, CutOff-more, CutOff-then}

-- a list from a place on, with its first element apart
pub drop_next : {A : Type 0} (xs : List A) (i : ℕ) (d : A) → i < length xs → drop i xs ≡ get_or xs i d ∷ drop (i + 1) xs
drop_next xs i d h = rw (add-one, drop-cons xs i d) refl

-- the spaces that are left, with the first of so many apart
pub spaces_next : (n left most : ℕ) → n ≤ left → n ≤ most → replicate {A = ℕ} left 32 ≡ take n (replicate {A = ℕ} most 32) ++ replicate (left - n) 32
spaces_next n left most h k =
    let e : n + (left - n) ≡ left = omega arith in
    let space : ℕ = 32 in
    ap (λ (m : ℕ). replicate m space) (sym e) ∙ sym (replicate-append-replicate n (left - n) space) ∙ ap (λ (s : List ℕ). s ++ replicate (left - n) space) (sym (take-replicate n most space k))

-- an answer is an error by what it tells beside or without
pub only-err : {A : Type 0} (r : Result A SinkFailed) → IsErr r → IsErr (only r)
only-err (Ok x) h = absurd (true≢false (sym h))
only-err (Err f) h = refl

module _ {W : Type 0} {g : Ghosts W} where
  pub prints_nothing : (a : Printer W g) → Prints a a [] (Ok tt)
  prints_nothing a = record { sink = refl; wrote = Wrote-none (g.account a.sink.now); cut = tt; counted = refl }

  -- the same of an equal text
  pub prints_as : {a b : Printer W g} {s : List ℕ} {r : Result (Unit {0}) SinkFailed} → Prints a b s r → (t : List ℕ) → s ≡ t → Prints a b t r
  prints_as {a} {b} {s} {r} h t e = subst (λ t. Prints a b t r) e h

  -- two texts, of which the first was written
  pub prints_then : {a b c : Printer W g} {s t : List ℕ} (r : Result (Unit {0}) SinkFailed) → Prints a b s (Ok tt) → Prints b c t r → Prints a c (s ++ t) r
  prints_then r h k =
      record {
        sink = k.sink ∙ h.sink;
        wrote = on_ok_weaker r (Wrote-then h.wrote) k.wrote;
        cut = on_err_weaker r (CutOff-then h.wrote) k.cut;
        counted = let e = h.counted in let f = k.counted in omega arith;
      }

  -- two texts, of which the first was cut off
  pub prints_cut : {a b : Printer W g} {s : List ℕ} (t : List ℕ) (e f : SinkFailed) → Prints a b s (Err e) → Prints a b (s ++ t) (Err f)
  prints_cut t e f h = record { sink = h.sink; wrote = tt; cut = CutOff-more t h.cut; counted = h.counted }

  -- the exit of a `?`, where the text that was cut off is the last but for t
  pub prints_stopped : {a b : Printer W g} {s : List ℕ} {e : SinkFailed} (t : List ℕ) (r : Result (Unit {0}) SinkFailed) → IsErr r → Prints a b s (Err e) → Prints a b (s ++ t) r
  prints_stopped t (Ok x) h k = absurd (true≢false (sym h))
  prints_stopped {e = e} t (Err f) h k = prints_cut t e f k

  -- the same, with no text left
  pub prints_failed : {a b : Printer W g} {s : List ℕ} {e : SinkFailed} (r : Result (Unit {0}) SinkFailed) → IsErr r → Prints a b s (Err e) → Prints a b s r
  prints_failed {a} {b} {s} r h k = prints_as (prints_stopped [] r h k) s (append-nil s)

  -- of the whole text this rest is left to print
  pub record LeftToPrint (start now : Printer W g) (whole rest : List ℕ) : Type 0 where
    pub done : List ℕ
    pub split : whole ≡ done ++ rest
    pub printed : Prints start now done (Ok tt)

  pub left_whole : (a : Printer W g) (whole : List ℕ) → LeftToPrint a a whole whole
  left_whole a whole = record { done = []; split = refl; printed = prints_nothing a }

  -- the next piece of what is left, printed
  pub left_next : {a b c : Printer W g} {whole now piece rest : List ℕ} → now ≡ piece ++ rest → LeftToPrint a b whole now → Prints b c piece (Ok tt) → LeftToPrint a c whole rest
  left_next {piece = piece} {rest = rest} e h k =
      record { done = h.done ++ piece; split = h.split ∙ ap (λ t. h.done ++ t) e ∙ sym (append_assoc h.done piece rest); printed = prints_then (Ok tt) h.printed k }

  -- the next piece cut off
  pub left_cut : {a b c : Printer W g} {whole now piece : List ℕ} (rest : List ℕ) (e f : SinkFailed)
      → now ≡ piece ++ rest → LeftToPrint a b whole now → Prints b c piece (Err e) → Prints a c whole (Err f)
  left_cut {a} {b} {c} {whole} rest e f is h k =
      subst (λ t. Prints a c t (Err f)) (sym (h.split ∙ ap (λ t. h.done ++ t) is)) (prints_then (Err f) h.printed (prints_cut rest e f k))

  -- the last piece
  pub left_last : {a b c : Printer W g} {whole now : List ℕ} (r : Result (Unit {0}) SinkFailed) → LeftToPrint a b whole now → Prints b c now r → Prints a c whole r
  left_last {a} {b} {c} {whole} {now} r h k = subst (λ t. Prints a c t r) (sym h.split) (prints_then r h.printed k)

  -- nothing is left
  pub left_end : {a b : Printer W g} {whole : List ℕ} → LeftToPrint a b whole [] → Prints a b whole (Ok tt)
  left_end {a} {b} {whole} h = subst (λ t. Prints a b t (Ok tt)) (sym (h.split ∙ append-nil h.done)) h.printed
