use Rattle.std.proofs.Common.{◌≡◌, ◌≤◌, length}
use Rattle.ask_run.specs.Texts.{texts_of}
use Rattle.ask_run.proofs.Orders.{AreSpelled}
use Rattle.ask_run.proofs.field.factors_in.Given as goal

abbrev pub invariant-loop-factor : goal.invariant-loop-factor
invariant-loop-factor l =
    record {
      long : length l.orders.items ≡ l.factor;
      few : l.count ≤ 3;
      spelled : AreSpelled (texts_of l.words) l.orders.items;
    }
