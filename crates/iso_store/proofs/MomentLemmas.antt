-- A value that goes back to a moment.
use Rattle.std.proofs.Common.{◌≡◌, ℕ, List, length, map, reverse, take, sym, ap, ◌∙◌}
use Rattle.std.specs.declared.snapshot.Snapshot.{Snapshot}
use Rattle.std.proofs.lemmas.List.{take-map}
use Rattle.iso_model.specs.declared.resource.Resource.{Resource}
use Rattle.iso_store.specs.Histories.{History, IsEarlier, start_of}
use Rattle.iso_store.specs.Layers.{over}
use Rattle.iso_store.specs.Places.{Places}
use Rattle.iso_store.specs.Values.{IsMoment, history, resource_of}
use Rattle.iso_store.specs.declared.value.Value.{Value}
use Rattle.iso_store.proofs.HistoryLemmas.{moment-past, start_of_earlier}

-- the start is that of each moment
pub start-same : (before : List (Snapshot Value)) (value : Value) (m : History) → IsEarlier m (history before value) → start_of (history before value) ≡ value.start → value.start ≡ start_of m
start-same before value m e started = sym started ∙ start_of_earlier m (history before value) e

-- the layers and as many changes as a moment had are its history
pub history-back : (before left : List (Snapshot Value)) (value : Value) (layers : List Places) (n : ℕ) (m : History) → IsEarlier m (history before value)
    → start_of (history before value) ≡ value.start → IsMoment layers n m → left ≡ take n before → history left (record { start = value.start; layers = layers }) ≡ m
history-back before left value layers n m e started moment cut =
    let now : over layers value.start ≡ m.now = ap (over layers) (start-same before value m e started) ∙ sym moment.now in
    let past : reverse (map (λ (s : Snapshot Value). resource_of s.value) left) ≡ m.past =
    ap (λ (ss : List (Snapshot Value)). reverse (map (λ (s : Snapshot Value). resource_of s.value) ss)) (cut ∙ ap (λ (k : ℕ). take k before) moment.changes_are)
    ∙ ap reverse (sym (take-map (λ (s : Snapshot Value). resource_of s.value) (length m.past) before))
    ∙ moment-past (map (λ (s : Snapshot Value). resource_of s.value) before) m (resource_of value) e.newer e.is in
    λ i. record { now = now i; past = past i }

-- and it starts as before
pub start-back : (before left : List (Snapshot Value)) (value : Value) (layers : List Places) (n : ℕ) (m : History) → IsEarlier m (history before value)
    → start_of (history before value) ≡ value.start → IsMoment layers n m → left ≡ take n before → start_of (history left (record { start = value.start; layers = layers })) ≡ value.start
start-back before left value layers n m e started moment cut = ap start_of (history-back before left value layers n m e started moment cut) ∙ sym (start-same before value m e started)
