-- The nodes that were measured, with their times.
use Rattle.std.proofs.Common.{◌≡◌, ◌<◌, ℕ, ◌+◌, List, [], ◌∷◌, ◌++◌, Option, None, Some, map, refl, sym, ap, ◌∙◌, append-nil}
use Rattle.std.proofs.lemmas.List.{map-append}
use Rattle.iso_durations.proofs.TimesLemmas.{micros-is, next, skip, so_far}
use Rattle.iso_durations.specs.Times.{micros, time}
use Rattle.iso_html.specs.Slowest.{entry, timed_of}
use Rattle.iso_html.specs.declared.slowest.Timed.{Timed}

module _ (times : List (Option ℕ)) where
  abbrev pub timed_below : ℕ → List Timed
  timed_below n = map (entry (micros times)) (so_far times n)

  -- one node more
  pub timed-next : (n : ℕ) → 0 < n → timed_below (n + 1) ≡ timed_below n ++ timed_of n (time times n)
  timed-next n h = by (time times n) refl
    where
      by : (o : Option ℕ) → time times n ≡ o → timed_below (n + 1) ≡ timed_below n ++ timed_of n o
      by None e = ap (λ (ns : List ℕ). map (entry (micros times)) ns) (skip times n (sym e)) ∙ sym (append-nil (timed_below n))
      by (Some t) e =
          ap (λ (ns : List ℕ). map (entry (micros times)) ns) (next times n t h (sym e))
          ∙ map-append (entry (micros times)) (so_far times n) (n ∷ [])
          ∙ ap (λ (m : ℕ). timed_below n ++ record { micros = m; node = n } ∷ []) (sym (micros-is times n t (sym e)))
