-- What may be asked about can be spelled.
use Rattle.std.proofs.Common.{arith}
use Rattle.matroid_theory.specs.Rep.{Rep}
use Rattle.ask_formats.specs.Question.{MayBeNamed, MayAskDual, CanBeSpelled}

pub spelled_named : (M : Rep) → MayBeNamed M → CanBeSpelled M
spelled_named M may = record {
  limits = may.limits;
  some = omega (arith, may.limits.rank_positive, may.standard.room);
}

pub spelled_dual : (M : Rep) → MayAskDual M → CanBeSpelled M
spelled_dual M may = spelled_named M may.named
