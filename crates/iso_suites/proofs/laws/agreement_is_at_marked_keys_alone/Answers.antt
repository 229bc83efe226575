use Rattle.std.proofs.Common.{◌∷◌, Bool, None, cond, refl, sym, ap}
use Rattle.iso_model.specs.ChainAgreement.{EqualAt}
use Rattle.iso_model.specs.Chains.{class_rights, test_rights}
use Rattle.iso_model.specs.Resources.{Resources, restricted}
use Rattle.iso_model.specs.Rights.{Rights}
use Rattle.iso_suites.proofs.laws.agreement_is_at_marked_keys_alone.Goals as goal

-- resources are equal, at the keys of rights, to what they are at these keys alone
restricted-equal : (r : Rights) (m : Resources) → EqualAt r m (restricted r m)
restricted-equal r m = record { same = λ k e. sym (ap (λ (b : Bool). cond b (m k) None) e) }

pub returns : goal.returns
returns c = record {
  tests = λ t cs start. record { head = refl; classes = refl; starts = restricted-equal (test_rights t cs) start };
  classes = λ d cs start. record { head = refl; classes = refl; starts = restricted-equal (class_rights (d ∷ cs)) start };
}
