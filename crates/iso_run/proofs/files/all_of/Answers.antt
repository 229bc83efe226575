use Rattle.std.proofs.Common.{◌≡◌, ℕ, [], Option, Some, Vec, Result, Ok, IfOk, IfSome, length, is_some, option_map, ap, subst, sym, ◌∙◌}
use Rattle.std.proofs.lemmas.List.{length-map}
use Rattle.std.specs.Global.{Global}
use Rattle.iso_run.proofs.Reading.{scripts-of-one, some-mapped}
use Rattle.iso_run.proofs.files.all_of.Goals as goal
use Rattle.iso_run.specs.declared.command_fault.CommandFault.{CommandFault}

pub returns-clause-read : goal.returns-clause-read
returns-clause-read c = λ files input a.
    let scripts = c.in_ok-all_scripts.field-0.items in (
      record {
        settings_named = λ none. subst (λ (r : Result (Vec ℕ Global) CommandFault). IfOk r (λ v. v.items ≡ [])) c.in_ok-settings.was (a.settings_named none);
        world_named = λ none. subst (λ (r : Result (Vec ℕ Global) CommandFault). IfOk r (λ v. v.items ≡ [])) c.in_ok-world.was (a.world_named none);
        scripts_named = λ none. scripts-of-one input scripts c.args.reads.scripts.items c.in_ok-all_scripts.ensures (a.scripts_named none);
        each = λ some. length-map scripts (λ (v : Vec ℕ Global). v.items) ∙ sym (length-map scripts Ok) ∙ ap length c.in_ok-all_scripts.ensures ∙ a.each some;
        list_named = some-mapped c.in_ok-listed.field-0
            ∙ subst (λ (r : Result (Option (Vec ℕ Global)) CommandFault). IfOk r (λ listed. is_some listed ≡ is_some files.only_from)) c.in_ok-listed.was a.list_named;
        list_piped = λ piped some. subst (λ (r : Result (Option (Vec ℕ Global)) CommandFault). IfSome input (λ bytes. IfOk r (λ listed. option_map (λ v. v.items) listed ≡ Some bytes)))
            c.in_ok-listed.was (a.list_piped piped some);
      },
      a.counted,
    )
