use Rattle.std.proofs.Common.{◌≡◌, IsSome, take}
use Rattle.std.specs.Prelude.{unwrap_or}
use Rattle.std.specs.List.{All, sum_by}
use Rattle.workers.proofs.growth.total_of.Given as goal

abbrev pub invariant-loop-answer : goal.invariant-loop-answer
invariant-loop-answer l = record {
  there : All (λ answer. IsSome answer) (take l.answer-index l.answers);
  sum : l.total ≡ sum_by (λ answer. unwrap_or answer 0) (take l.answer-index l.answers);
}
