-- Books and trays of one plan, and a plan without nodes.
use Rattle.std.specs.Prelude.{◌≡◌, ℕ, [], false}
use Rattle.iso_book.specs.Books.{BookView}
use Rattle.iso_locks.specs.Trays.{TrayView}
use Rattle.iso_model.specs.declared.script.Mode.TheVariants.{SameThread}
use Rattle.iso_plan.specs.Planned.{Planned}
use Rattle.iso_settings.specs.Worlds.{Start}

-- a plan without nodes
abbrev pub no_plan : Planned
no_plan =
    record {
      rows = [];
      settings = record {
        parallel = false;
        default_mode = SameThread;
        classes_default_mode = SameThread;
        worker_count = 1;
      };
    }

-- a tray is of a plan and starting values
pub record IsTrayOf (plan : Planned) (start : Start) (t : TrayView) : Type 0 where
  pub plan_is : t.plan ≡ plan
  pub world_is : t.world ≡ start

-- a book is of a plan and starting values, and of `workers` workers
pub record IsBookOf (plan : Planned) (start : Start) (workers : ℕ) (b : BookView) : Type 0 where
  pub plan_is : b.plan ≡ plan
  pub world_is : b.world ≡ start
  pub workers_are : b.workers ≡ workers
