use Rattle.std.proofs.Common.{ℕ, List, Bor, ◌∷◌, [], ◌++◌, ◌∙◌, ap, sym, not, arith}
use Rattle.std.proofs.lemmas.List.{length-set, map_push}
use Rattle.iso_script_statements.specs.SeenNames.{texts_in}
use Rattle.iso_script_statements.proofs.SeenLemmas.{all_marked}
use Rattle.iso_script_statements.proofs.seen_names.FewNames.claim.Goals as goal

pub returns : goal.returns
returns c = λ names h.
    let few = c.args.self.now in
    let hash = c.hash_of-hash.ensures in
    let absent = sym (c.has.ensures names h) ∙ c.if-has.false in (
      sym (ap not absent),
      λ fresh. (
        rw c.in_ok-push.ensures.items (map_push (λ (t : Bor (List ℕ)). t.now) few.names.items c.args.name ∙ ap (λ ns. ns ++ c.args.name.now ∷ []) h.0),
        length-set few.taken _ _ ∙ h.1,
        rw hash.hash (all_marked few.taken names c.args.name.now h.2 (omega (arith, sym hash.hash, hash.within, h.1))),
      ),
    )
