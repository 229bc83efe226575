-- Inputs that are made of bytes.
use Rattle.std.proofs.Common.{◌≡◌, ℕ, List, [], ◌∷◌, Option, None, Some, Bool, Err, map, option_map, refl, ap}
use Rattle.std.specs.Borrow.{Bor}
use Rattle.std.specs.Global.{Global}
use Rattle.std.specs.Option.{option_copied}
use Rattle.std.specs.Prelude.{Vec}
use Rattle.iso_arguments.specs.declared.request.InputFiles.{InputFiles}
use Rattle.iso_run.specs.Commands.{AreFor, WereRead, shard_asked}
use Rattle.iso_run.specs.Runs.{Product, Writes}
use Rattle.iso_run.specs.Suites.{Suite, texts}
use Rattle.iso_run.specs.declared.run_fault.RunFault.TheVariants.{Memory}
use Rattle.iso_run.specs.declared.files.InputBytes.{InputBytes}
use Rattle.iso_run.specs.declared.inputs.Inputs.{Inputs}
use Rattle.iso_run.specs.declared.way.Way.{Way}
use Rattle.iso_selection.specs.declared.shard.Shard.{Shard}
use Rattle.iso_tap.specs.Sinks.{Account}

pub are-for : (files : InputFiles) (input : Option (List ℕ)) (bytes : InputBytes) (inputs : Inputs) → WereRead files input bytes
    → texts inputs.scripts.now ≡ map (λ v. v.items) bytes.scripts.items → inputs.settings.now ≡ bytes.settings.items → inputs.world.now ≡ bytes.world.items
    → option_copied inputs.listed ≡ option_map (λ v. v.items) bytes.listed → inputs.only.now ≡ files.only.items → inputs.patterns.now ≡ files.patterns.items
    → option_map shard_asked inputs.shard ≡ files.shard → inputs.processors ≡ bytes.processors → AreFor files input inputs
are-for files input bytes inputs read scripts settings world listed only patterns shard processors =
    record { are_of = rw (settings, world, scripts, listed) read.0; only = only; patterns = patterns; shard = shard; processors = rw processors read.1 }

abbrev pub lend : List ℕ → Bor (List ℕ)
lend bytes = record { ref_ptr = (0, 0); now = bytes }

pub texts-lent : (vs : List (Vec ℕ Global)) → texts (map (λ (v : Vec ℕ Global). lend v.items) vs) ≡ map (λ (v : Vec ℕ Global). v.items) vs
texts-lent [] = refl
texts-lent (v ∷ vs) = ap (λ (ts : List (List ℕ)). v.items ∷ ts) (texts-lent vs)

listed-lent : (o : Option (Vec ℕ Global)) → option_copied (option_map (λ (v : Vec ℕ Global). lend v.items) o) ≡ option_map (λ (v : Vec ℕ Global). v.items) o
listed-lent None = refl
listed-lent (Some v) = refl

-- inputs that these bytes are, where no memory was left to lend their scripts
abbrev pub inputs-for : InputFiles → InputBytes → Option Shard → Inputs
inputs-for files bytes shard = record {
  scripts = record { ref_ptr = (0, 0); now = map (λ (v : Vec ℕ Global). lend v.items) bytes.scripts.items };
  settings = lend bytes.settings.items;
  world = lend bytes.world.items;
  only = record { ref_ptr = (0, 0); now = files.only.items };
  patterns = record { ref_ptr = (0, 0); now = files.patterns.items };
  listed = option_map (λ (v : Vec ℕ Global). lend v.items) bytes.listed;
  shard = shard;
  processors = bytes.processors;
}

pub are-of-bytes : (files : InputFiles) (input : Option (List ℕ)) (bytes : InputBytes) (shard : Option Shard) → WereRead files input bytes → option_map shard_asked shard ≡ files.shard
    → AreFor files input (inputs-for files bytes shard)
are-of-bytes files input bytes shard read asked = are-for files input bytes (inputs-for files bytes shard) read (texts-lent bytes.scripts.items) refl refl (listed-lent bytes.listed) refl refl
    asked refl

pub out-of-memory : {A : Type 0} (ok_of : A → Bool) (product : Suite → Product) (inputs : Inputs) (way : Way) (a : Account) → Writes ok_of product inputs way a a (Err Memory)
out-of-memory ok_of product inputs way a = record { cause = tt; leaves = refl }
