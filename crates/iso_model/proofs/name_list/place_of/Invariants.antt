use Rattle.std.proofs.Common.{◌≡◌, ◌+◌, drop}
use Rattle.iso_model.specs.Names.{place_of}
use Rattle.iso_model.proofs.name_list.place_of.Given as goal

abbrev pub invariant-loop-binding : goal.invariant-loop-binding
invariant-loop-binding l = record {
  counted : l.place ≡ l.binding-index;
  rest : place_of (drop l.binding-index l.bindings) l.name + l.place ≡ place_of l.bindings l.name;
}
