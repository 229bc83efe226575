-- Commands, bars and usages, for examples.
use Rattle.std.specs.Prelude.{ℕ, Some, None, codes, true, false}
use Rattle.iso_model.specs.declared.access.Access.TheVariants.{Write}
use Rattle.iso_html.specs.Bars.{taken_mark}
use Rattle.iso_html.specs.Commands.{CommandsView}
use Rattle.iso_html.specs.declared.shape.Group.{Group}
use Rattle.iso_html.specs.declared.shape.Look.TheVariants.{Writing}
use Rattle.iso_html.specs.declared.shape.Mark.{Mark}
use Rattle.iso_html.specs.declared.usage.Usage.{Usage}

-- of a run with a world and four processors, whose scripts were named
abbrev pub of_files : CommandsView
of_files =
    record {
      again = record {
        settings = None;
        world = Some (codes "my world.toml");
        processors = Some 4;
      };
      named = true;
    }

-- of a run whose script was standard input
abbrev pub of_input : CommandsView
of_input =
    record { again = record { settings = None; world = None; processors = None }; named = false }

-- a node that took a key for READ_WRITE, from a moment until another
abbrev pub had : (node begin end : ℕ) → Mark
had node begin end = taken_mark (record { node = node; begin = begin; end = end }) Write

-- `count` such nodes as one bar
abbrev pub several : (count first begin end : ℕ) → Group
several count first begin end = record {
  count = count;
  first = first;
  look = Writing;
  critical = false;
  begin = begin;
  end = end;
}

-- a key that two nodes take for READ_WRITE, which were entered for 5 ns together, and that one of
-- them waited for, for 3 ns
abbrev pub taken_by_two : Usage
taken_by_two = record { readers = 0; writers = 2; held = 5; waits = 1; waited = 3 }
