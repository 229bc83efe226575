use Rattle.std.proofs.Common.{◌≡◌, ◌+◌, length}
use Rattle.iso_tap.proofs.Sequences.{Left}
use Rattle.iso_tap.proofs.printer.Printer.bytes.Given as goal

abbrev pub invariant-loop-rest : goal.invariant-loop-rest
invariant-loop-rest g l =
    record {
      sink : l.self.sink.ghost_name ≡ l.fn.self.sink.ghost_name;
      left : Left (g.W.Sink.account l.fn.self.sink.now) (g.W.Sink.account l.self.sink.now) l.fn.bytes l.rest;
      counted : l.self.written + (g.W.Sink.account l.fn.self.sink.now).count ≡ l.fn.self.written + (g.W.Sink.account l.self.sink.now).count;
    }

abbrev pub decreases-loop-rest : goal.decreases-loop-rest
decreases-loop-rest g l = length l.rest
