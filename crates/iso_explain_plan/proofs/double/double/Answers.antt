use Rattle.std.proofs.Common.{[]}
use Rattle.iso_explain_plan.specs.Doubles.{double_notes, of_none, of_two, site_of}
use Rattle.iso_tap.proofs.PrinterLemmas.{prints_nothing}
use Rattle.iso_explain_plan.proofs.double.double.Goals as goal

pub returns-in-Some : goal.returns-in-Some
returns-in-Some g c =
    record {
      text = double_notes c.in-Some.first.path.now (site_of c.site_for-first_site.result) (site_of c.site_for-second_site.result);
      is = of_two c.in-Some.first.path.now (site_of c.site_for-first_site.result) (site_of c.site_for-second_site.result);
      printed = c.in_ok-double_notes-in-Some.ensures;
    }

pub returns : goal.returns
returns g c = record { text = []; is = of_none; printed = prints_nothing c.args.printer.now }
