use Rattle.std.proofs.Common.{◌≡◌, Bool, true, false, Option, None, cond, refl}
use Rattle.iso_model.specs.Rights.{access_in, is_writable}
use Rattle.iso_store.specs.Histories.{History}
use Rattle.iso_locks.proofs.kept.kept_at.Goals as goal

nothing : (b : Bool) → None ≡ cond {A = Option History} b None None
nothing true = refl
nothing false = refl

pub returns-in_default : goal.returns-in_default
returns-in_default c = rw c.in_default.is (nothing (is_writable (access_in c.args.rights.now c.args.key.now)))
