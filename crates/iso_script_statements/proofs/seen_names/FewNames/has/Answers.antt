use Rattle.std.proofs.Common.{◌∙◌, ap}
use Rattle.iso_model.specs.NameSets.{is_among}
use Rattle.iso_script_statements.proofs.SeenLemmas.{is_in-texts, unmarked}
use Rattle.iso_script_statements.proofs.seen_names.FewNames.has.Goals as goal

pub returns-then-self-hash : goal.returns-then-self-hash
returns-then-self-hash c = λ names h.
    let told = rw c.as_slice.ensures.value at c.is_listed.ensures in
    told ∙ is_in-texts c.args.self.now.names.items c.args.name.now ∙ ap (λ ns. is_among ns c.args.name.now) h.0

pub returns-else-self-hash : goal.returns-else-self-hash
returns-else-self-hash c = λ names h. unmarked (is_among names c.args.name.now) _ (h.2 c.args.name.now) (rw c.requires.of_name at c.if-self-hash.false)
