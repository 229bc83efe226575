-- Texts that a printer with a buffer takes one after another.
use Rattle.std.proofs.Common.{◌≡◌, ℕ, List, [], ◌++◌, Result, Ok, Err, refl, sym, ap, subst, ◌∙◌, append_assoc, append-nil, true≢false}
use Rattle.std.specs.Result.{IsErr}
use Rattle.iso_tap.specs.Buffers.{Buffers, Holds, printer_of}
use Rattle.iso_tap.specs.Printers.{Prints}
use Rattle.iso_tap.specs.declared.buffered.BufferedPrinter.{BufferedPrinter}
use Rattle.iso_tap.specs.declared.printer.Printer.{Printer}
use Rattle.iso_tap.specs.declared.sink.Sink.{Ghosts}
use Rattle.iso_tap.specs.declared.sink.SinkFailed.{SinkFailed}
use Rattle.iso_tap.proofs.PrinterLemmas.{prints_as, prints_cut, prints_failed, prints_nothing, prints_then}

module _ {W : Type 0} {g : Ghosts W} where
  pub buffers_nothing : (a : BufferedPrinter W g) → Buffers a a [] (Ok tt)
  buffers_nothing a = record { kept = record { written = []; printed = prints_nothing (printer_of a); held = append-nil a.held.items }; cut = tt }

  -- the same of an equal text
  pub buffers_as : {a b : BufferedPrinter W g} {s : List ℕ} {r : Result (Unit {0}) SinkFailed} → Buffers a b s r → (t : List ℕ) → s ≡ t → Buffers a b t r
  buffers_as {a} {b} {s} {r} h t e = subst (λ t. Buffers a b t r) e h

  holds_then : {a b c : BufferedPrinter W g} {s t : List ℕ} → Holds a b s → Holds b c t → Holds a c (s ++ t)
  holds_then {a} {b} {c} {s} {t} h k =
      record {
        written = h.written ++ k.written;
        printed = prints_then (Ok tt) h.printed k.printed;
        held = sym (append_assoc a.held.items s t) ∙ ap (λ (x : List ℕ). x ++ t) h.held ∙ append_assoc h.written b.held.items t ∙ ap (λ (x : List ℕ). h.written ++ x) k.held
            ∙ sym (append_assoc h.written k.written c.held.items);
      }

  cut_then : {a b : BufferedPrinter W g} {s : List ℕ} (c : BufferedPrinter W g) (t : List ℕ) (e : SinkFailed) → Holds a b s → Prints (printer_of b) (printer_of c) (b.held.items ++ t) (Err e)
      → Prints (printer_of a) (printer_of c) (a.held.items ++ (s ++ t)) (Err e)
  cut_then {a} {b} {s} c t e h k =
      prints_as (prints_then (Err e) h.printed k) (a.held.items ++ (s ++ t))
      (sym (append_assoc h.written b.held.items t) ∙ ap (λ (x : List ℕ). x ++ t) (sym h.held) ∙ append_assoc a.held.items s t)

  -- two texts, of which the first was taken
  pub buffers_then : {a b c : BufferedPrinter W g} {s t : List ℕ} (r : Result (Unit {0}) SinkFailed) → Buffers a b s (Ok tt) → Buffers b c t r → Buffers a c (s ++ t) r
  buffers_then (Ok x) h k = record { kept = holds_then h.kept k.kept; cut = tt }
  buffers_then {c = c} {t = t} (Err e) h k = record { kept = tt; cut = cut_then c t e h.kept k.cut }

  -- two texts, of which the first was cut off
  pub buffers_cut : {a b : BufferedPrinter W g} {s : List ℕ} (t : List ℕ) (e f : SinkFailed) → Buffers a b s (Err e) → Buffers a b (s ++ t) (Err f)
  buffers_cut {a} {b} {s} t e f h = record { kept = tt; cut = prints_as (prints_cut t e f h.cut) (a.held.items ++ (s ++ t)) (append_assoc a.held.items s t) }

  -- the exit of a `?`, where the text that was cut off is the last but for t
  pub buffers_stopped : {a b : BufferedPrinter W g} {s : List ℕ} {e : SinkFailed} (t : List ℕ) (r : Result (Unit {0}) SinkFailed) → IsErr r → Buffers a b s (Err e) → Buffers a b (s ++ t) r
  buffers_stopped t (Ok x) h k = absurd (true≢false (sym h))
  buffers_stopped {e = e} t (Err f) h k = buffers_cut t e f k

  -- the same, with no text left
  pub buffers_failed : {a b : BufferedPrinter W g} {s : List ℕ} {e : SinkFailed} (r : Result (Unit {0}) SinkFailed) → IsErr r → Buffers a b s (Err e) → Buffers a b s r
  buffers_failed {a} {b} {s} r h k = buffers_as (buffers_stopped [] r h k) s (append-nil s)

  -- what was held was written, and then a text beside the buffer, which is empty
  pub buffers_past : {a c : BufferedPrinter W g} {b : Printer W g} {text : List ℕ} (r : Result (Unit {0}) SinkFailed) → Prints (printer_of a) b a.held.items (Ok tt)
      → Prints b (printer_of c) text r → c.held.items ≡ [] → Buffers a c text r
  buffers_past {a} {c} {b} {text} (Ok x) h k empty =
      record {
        kept = record {
          written = a.held.items ++ text;
          printed = prints_then (Ok tt) h k;
          held = sym (append-nil (a.held.items ++ text)) ∙ ap (λ (x : List ℕ). (a.held.items ++ text) ++ x) (sym empty);
        };
        cut = tt;
      }
  buffers_past (Err e) h k empty = record { kept = tt; cut = prints_then (Err e) h k }

  -- what was held wasn't written
  pub buffers_unflushed : {a b : BufferedPrinter W g} {e : SinkFailed} (text : List ℕ) (r : Result (Unit {0}) SinkFailed) → IsErr r → Prints (printer_of a) (printer_of b) a.held.items (Err e)
      → Buffers a b text r
  buffers_unflushed text (Ok x) h k = absurd (true≢false (sym h))
  buffers_unflushed {e = e} text (Err f) h k = record { kept = tt; cut = prints_cut text e f k }

  -- a text that was taken into an empty buffer, and flushed
  pub prints_flushed : {a b : BufferedPrinter W g} {p : Printer W g} {text : List ℕ} (r : Result (Unit {0}) SinkFailed) → a.held.items ≡ []
      → Buffers a b text (Ok tt) → Prints (printer_of b) p b.held.items r → Prints (printer_of a) p text r
  prints_flushed {text = text} r empty h k = prints_as (prints_then r h.kept.printed k) text (sym h.kept.held ∙ ap (λ (x : List ℕ). x ++ text) empty)

  -- the exit of a `?` before that
  pub prints_unflushed : {a b : BufferedPrinter W g} {text : List ℕ} {e : SinkFailed} (r : Result (Unit {0}) SinkFailed) → IsErr r
      → a.held.items ≡ [] → Buffers a b text (Err e) → Prints (printer_of a) (printer_of b) text r
  prints_unflushed {text = text} r fails empty h = prints_failed r fails (prints_as h.cut text (ap (λ (x : List ℕ). x ++ text) empty))

  -- of the whole text this rest is left to take
  pub record LeftToBuffer (start now : BufferedPrinter W g) (whole rest : List ℕ) : Type 0 where
    pub done : List ℕ
    pub split : whole ≡ done ++ rest
    pub taken : Buffers start now done (Ok tt)

  pub left_whole : (a : BufferedPrinter W g) (whole : List ℕ) → LeftToBuffer a a whole whole
  left_whole a whole = record { done = []; split = refl; taken = buffers_nothing a }

  -- the next piece of what is left, taken
  pub left_next : {a b c : BufferedPrinter W g} {whole now piece rest : List ℕ} → now ≡ piece ++ rest → LeftToBuffer a b whole now → Buffers b c piece (Ok tt) → LeftToBuffer a c whole rest
  left_next {piece = piece} {rest = rest} e h k =
      record { done = h.done ++ piece; split = h.split ∙ ap (λ t. h.done ++ t) e ∙ sym (append_assoc h.done piece rest); taken = buffers_then (Ok tt) h.taken k }

  -- the next piece cut off
  pub left_cut : {a b c : BufferedPrinter W g} {whole now piece : List ℕ} (rest : List ℕ) (e f : SinkFailed)
      → now ≡ piece ++ rest → LeftToBuffer a b whole now → Buffers b c piece (Err e) → Buffers a c whole (Err f)
  left_cut {a} {b} {c} {whole} rest e f is h k =
      subst (λ t. Buffers a c t (Err f)) (sym (h.split ∙ ap (λ t. h.done ++ t) is)) (buffers_then (Err f) h.taken (buffers_cut rest e f k))

  -- the last piece
  pub left_last : {a b c : BufferedPrinter W g} {whole now : List ℕ} (r : Result (Unit {0}) SinkFailed) → LeftToBuffer a b whole now → Buffers b c now r → Buffers a c whole r
  left_last {a} {b} {c} {whole} {now} r h k = subst (λ t. Buffers a c t r) (sym h.split) (buffers_then r h.taken k)

  -- nothing is left
  pub left_end : {a b : BufferedPrinter W g} {whole : List ℕ} → LeftToBuffer a b whole [] → Buffers a b whole (Ok tt)
  left_end {a} {b} {whole} h = subst (λ t. Buffers a b t (Ok tt)) (sym (h.split ∙ append-nil h.done)) h.taken
