-- Figures of a run, for examples. Its tree has the nodes 1 to 7: shop.Cart, a, b, shop.Desk, c,
-- Till, d; key 0 is the global key, key 1 is K.
use Rattle.std.specs.Prelude.{Some, None, true, false}
use Rattle.iso_stats.specs.declared.figures.Best.{Best}
use Rattle.iso_stats.specs.declared.figures.Chain.{Chain}
use Rattle.iso_stats.specs.declared.figures.Figures.{Figures}
use Rattle.iso_stats.specs.declared.figures.Link.TheVariants.{Key, Class}
use Rattle.iso_stats.specs.declared.figures.Waited.{Waited}

-- node 2 waited 1.9 s for node 4, by K, and more was waited for it
abbrev pub waited_for_k : Waited
waited_for_k =
    record { key = 1; time = 3100000000; node = 2; holder = 4; longest = 1900000000; more = true }

-- four nodes take K one after another
abbrev pub chain_of_k : Chain
chain_of_k = record {
  link = Key 1;
  time = 4200000000;
  first = 4;
  second = Some 3;
  third = Some 2;
  more = true;
}

-- two children of the root, on its worker
abbrev pub chain_of_root : Chain
chain_of_root =
    record { link = Class 0; time = 61500; first = 1; second = Some 4; third = None; more = false }

abbrev pub best_without_k : Best
best_without_k = record { tenths = 14; without = Some (record { key = 1; tenths = 36 }) }

abbrev pub figures_of_four : Figures
figures_of_four = record {
  tests = 400;
  workers = 4;
  of = 4;
  span = 5819999999;
  busy = 61;
  waited = Some waited_for_k;
  chain = Some chain_of_k;
  best = Some best_without_k;
}

-- one test on one worker, of which nothing else is told
abbrev pub figures_of_one : Figures
figures_of_one = record {
  tests = 1;
  workers = 1;
  of = 1;
  span = 12345678;
  busy = 99;
  waited = None;
  chain = None;
  best = None;
}
