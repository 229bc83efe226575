use Rattle.std.proofs.lemmas.Result.{IfOk-weaker}
use Rattle.iso_script_statements.proofs.seen_names.SeenNames.claim.Goals as goal

pub returns-in_ok-fresh-in-Few-2 : goal.returns-in_ok-fresh-in-Few-2
returns-in_ok-fresh-in-Few-2 c = λ names h.
    let told = c.in_ok-fresh-in-Few-2.ensures names (c.in_ok-many-in-Few-2.ensures names (rw c.in-Few.is at h)) in
    (told.0, λ fresh. told.1)

pub returns-in-Many : goal.returns-in-Many
returns-in-Many c = λ names h. IfOk-weaker c.claim-in-Many.result _ _ (λ fresh told. (told.0, λ t. told.1)) (c.claim-in-Many.ensures names (rw c.in-Many.is at h))
