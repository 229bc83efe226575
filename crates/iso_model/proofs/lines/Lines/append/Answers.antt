use Rattle.std.proofs.Common.{◌≡◌, Bool, true, false, List, ℕ, ◌++◌, Result, Ok, Err, OnOk, sym, cond, is_ok}
use Rattle.iso_model.specs.Lines.{IsEnded, lines_of}
use Rattle.iso_model.proofs.LineLemmas.{IsEnded-append, lines_of-append}
use Rattle.iso_model.proofs.lines.Lines.append.Goals as goal

both : (b : Bool) (xs ys zs : List ℕ) → zs ≡ cond b (xs ++ ys) xs → IsEnded xs → IsEnded ys → IsEnded zs
both true xs ys zs e h k = rw e (IsEnded-append xs ys h k)
both false xs ys zs e h k = rw e h

pub invariant_of-self : goal.invariant_of-self
invariant_of-self c =
    both _ c.self.inside.bytes.items c.more.inside.bytes.items c.extend_from_slice.new.self.items
    (rw c.deref.ensures.value at c.extend_from_slice.ensures.items) c.self.invariant c.more.invariant

joined : {E : Type 0} (r : Result (Unit {0}) E) (xs ys zs : List ℕ) (ls ms : List (List ℕ))
    → zs ≡ cond (is_ok r) (xs ++ ys) xs → IsEnded xs → ls ≡ lines_of xs → ms ≡ lines_of ys → OnOk r (lines_of zs ≡ ls ++ ms)
joined (Ok _) xs ys zs ls ms e h l m = rw (e, l, m) (lines_of-append xs ys h)
joined (Err _) xs ys zs ls ms e h l m = tt

pub returns-clause-ok : goal.returns-clause-ok
returns-clause-ok c =
    joined c.extend_from_slice.result c.self.inside.bytes.items c.more.inside.bytes.items c.extend_from_slice.new.self.items _ _
    (rw c.deref.ensures.value at c.extend_from_slice.ensures.items) c.self.invariant (sym c.self.view_is) (sym c.more.view_is)
