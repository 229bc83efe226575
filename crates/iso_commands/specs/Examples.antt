-- Recorded runs to look at.
use Rattle.std.specs.Prelude.{[], ◌∷◌, None, Some, codes}
use Rattle.iso_commands.specs.Replays.{RecordedView}

-- a run of one script
abbrev pub plain : RecordedView
plain =
    record {
      schedule = codes "run.schedule";
      settings = None;
      world = None;
      processors = None;
      only = [];
      patterns = [];
      only_from = None;
      shard = None;
      scripts = codes "shop.jtap" ∷ [];
    }

-- a run with all options
abbrev pub named : RecordedView
named =
    record {
      schedule = codes "-r";
      settings = Some (codes "s.toml");
      world = Some (codes "w.toml");
      processors = Some 4;
      only = codes "a.B" ∷ [];
      patterns = codes "a.*" ∷ [];
      only_from = Some (codes "f g");
      shard = Some (record { number = 2; of = 3 });
      scripts = codes "a.jtap" ∷ codes "b.jtap" ∷ [];
    }
