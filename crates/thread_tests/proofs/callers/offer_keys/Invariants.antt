use Rattle.thread_tests.specs.Named.{IsNamed}
use Rattle.thread_tests.proofs.callers.offer_keys.Given as goal

abbrev pub invariant-loop-key : goal.invariant-loop-key
invariant-loop-key g l = IsNamed l.initial.pass l.pass
