-- Trays go on by nothing, and step by step.
use Rattle.std.proofs.Common.{◌≡◌, ℕ, List, [], ◌++◌, Some, ap, sym, ◌∙◌, append_assoc, refl}
use Rattle.iso_model.specs.declared.resource.Resource.{Resource}
use Rattle.iso_store.specs.Histories.{History, IsEarlier, values}
use Rattle.iso_locks.specs.Slots.{Slots, HasLater, slot}
use Rattle.iso_locks.specs.Trays.{GoesOn, IsOnward, TrayView, has_value}

pub earlier-self : (h : History) → IsEarlier h h
earlier-self h = record { newer = []; is = refl }

earlier-further : (g h k : History) → IsEarlier g h → IsEarlier h k → IsEarlier g k
earlier-further g h k a b = record {
  newer = b.newer ++ a.newer;
  is = b.is ∙ ap (λ (vs : List Resource). b.newer ++ vs) a.is
      ∙ sym (append_assoc b.newer a.newer (values g));
}

pub later-further : (u v : Slots) (i : ℕ) (g : History) → HasLater u i g
    → ((h : History) → slot u i ≡ Some h → HasLater v i h)
    → HasLater v i g
later-further u v i g a on =
    let b = on a.now a.there in
    record { now = b.now; there = b.there; later = earlier-further g a.now b.now a.later b.later }

pub on-still : (t : TrayView) → GoesOn t t
on-still t = record {
  fits = refl;
  only = λ i e. e;
  later = λ i h e. record { now = h; there = e; later = earlier-self h };
}

pub on-further : (t u v : TrayView) → GoesOn t u → GoesOn u v → GoesOn t v
on-further t u v a b = record {
  fits = b.fits ∙ a.fits;
  only = λ i e. b.only i (a.only i e);
  later = λ i h e. later-further u.values v.values i h (a.later i h e) (b.later i);
}

pub onward-still : (t : TrayView) → IsOnward t t
onward-still t = record {
  plan = refl;
  world = refl;
  flat = refl;
  lent = refl;
  there = refl;
  values = on-still t;
  frames = refl;
}

pub onward-further : (t u v : TrayView) → IsOnward t u → IsOnward u v → IsOnward t v
onward-further t u v a b = record {
  plan = b.plan ∙ a.plan;
  world = b.world ∙ a.world;
  flat = b.flat ∙ a.flat;
  lent = b.lent ∙ a.lent;
  there = b.there ∙ a.there;
  values = on-further t u v a.values b.values;
  frames = b.frames ∙ a.frames;
}

pub onward-writes : (t u : TrayView) → IsOnward t u → has_value u ≡ has_value t
onward-writes t u on = on.there
