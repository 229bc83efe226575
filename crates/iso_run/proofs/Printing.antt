-- What is printed of a plan, by what is asked for.
use Rattle.std.proofs.Common.{◌≡◌, ℕ, List, [], Bool, true, false, cond, map, refl, ap, ap₂, ◌∙◌}
use Rattle.iso_model.specs.ScriptView.{script_of}
use Rattle.iso_places.specs.Located.{AreSites}
use Rattle.iso_places.specs.Sites.{all_sites, places_in}
use Rattle.iso_places.specs.declared.site.Site.{Site}
use Rattle.iso_plan.specs.RowView.{tree_of}
use Rattle.iso_plan.specs.Tree.{tree}
use Rattle.iso_run.specs.Commands.{ArePlaces, plan_of}
use Rattle.iso_run.specs.Runs.{IsRead, Product, suite_places, suite_plan, suite_tests, suite_why}
use Rattle.iso_run.specs.Suites.{Suite, suite_of}
use Rattle.iso_run.specs.declared.command.Printed.{Printed}
use Rattle.iso_run.specs.declared.inputs.Inputs.{Inputs}
use Rattle.iso_run.specs.declared.inputs.Suite.{Suite as ReadSuite}

-- the sites that are found where places are asked for, and none else
pub are-places : (places : Bool) (inputs : Inputs) (suite : ReadSuite) (sites : List Site) → IsRead inputs places suite
    → (places ≡ true → AreSites (tree (map script_of suite.scripts.items)) (all_sites (places_in suite.places.items)) (tree_of suite.plan) sites)
    → (places ≡ false → sites ≡ []) → ArePlaces places inputs sites
are-places true inputs suite sites is found none = (
  suite_of inputs suite,
  is.is_suite,
  record {
    scripts = map script_of suite.scripts.items;
    places = places_in suite.places.items;
    placed = is.placed refl;
    are = rw is.planned_as at (found refl);
  },
)
are-places false inputs suite sites is found none = none refl

module _ (printed : Printed) (names : List (List ℕ)) (sites : List Site) where
  -- what is printed where reasons aren't asked for
  abbrev unreasoned : (places tests : Bool) → Suite → Product
  unreasoned places tests = cond places (suite_places printed.tests names sites) (cond tests suite_tests suite_plan)

  abbrev reasoned : (why : Bool) → Suite → Product
  reasoned why = cond why (suite_why printed.tests names sites) (unreasoned printed.places printed.tests)

  without-why : false ≡ printed.why → unreasoned printed.places printed.tests ≡ plan_of printed names sites
  without-why unasked = ap reasoned unasked

  pub prints-why : true ≡ printed.why → suite_why printed.tests names sites ≡ plan_of printed names sites
  prints-why asked = ap reasoned asked

  pub prints-places : false ≡ printed.why → true ≡ printed.places → suite_places printed.tests names sites ≡ plan_of printed names sites
  prints-places unasked is = ap (λ (p : Bool). unreasoned p printed.tests) is ∙ without-why unasked

  pub prints-tests : false ≡ printed.why → false ≡ printed.places → true ≡ printed.tests → suite_tests ≡ plan_of printed names sites
  prints-tests unasked unplaced is = ap₂ unreasoned unplaced is ∙ without-why unasked

  pub prints-all : false ≡ printed.why → false ≡ printed.places → false ≡ printed.tests → suite_plan ≡ plan_of printed names sites
  prints-all unasked unplaced whole = ap₂ unreasoned unplaced whole ∙ without-why unasked
