use Rattle.std.proofs.Common.{◌≡◌, ℕ, List, Bool, Some, cond, bytes_eq, subst, sym}
use Rattle.std.specs.Cmp.Lexicographic.{bytes_decides}
use Rattle.iso_affected.proofs.StartLemmas.{kept-more}
use Rattle.iso_model.specs.KeyMaps.{value_in}
use Rattle.iso_affected.proofs.starts.Starts.alike.Goals as goal

pub invariant_of-self-2 : goal.invariant_of-self-2
invariant_of-self-2 c =
    let before = c.self.inside.before.now in
    let after = c.self.inside.after.now in
    let kept = c.self.inside.kept in
    let key = c.args.key.now in
    let set = subst (λ (q : List ℕ). (k : List ℕ) → value_in c.set.new.self k ≡ cond (bytes_eq k q) (Some c.in_ok-alike.alike) (value_in kept k)) c.in_ok-share.ensures c.in_ok-set.ensures.ok in
    kept-more before after kept c.set.new.self key c.in_ok-alike.alike c.self.invariant c.in_ok-alike.ensures set (λ k e. (bytes_decides k key).0 e)
