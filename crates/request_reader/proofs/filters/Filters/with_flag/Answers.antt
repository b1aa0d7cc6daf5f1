use Rattle.formats.proofs.KindCounts.{on_from_not}
use Rattle.request_reader.proofs.FilterValues.{connected_new, three_new, cosimple_new, distinct_new, connected_again, three_again, cosimple_again, distinct_again}
use Rattle.request_reader.proofs.filters.Filters.with_flag.Goals as goal
use Rattle.request_reader.proofs.filters.Filters.with_flag.Goals.{in_default-via-in-Connected+else-not-self, in_default-via-in-Three+else-not-self-2, in_default-via-in-Cosimple+else-not-self-3, in_default-via-in-Distinct+else-not-self-4}
use Rattle.matrix_lemmas.proofs.FieldLaws.{off_from_not}

pub returns-in-Connected : goal.returns-in-Connected
returns-in-Connected c = λ es h. connected_new es c.args.self c.args.flag h c.in-Connected.is (off_from_not _ c.if-not-self.true)

pub returns-in-Three : goal.returns-in-Three
returns-in-Three c = λ es h. three_new es c.args.self c.args.flag h c.in-Three.is (off_from_not _ c.if-not-self-2.true)

pub returns-in-Cosimple : goal.returns-in-Cosimple
returns-in-Cosimple c = λ es h. cosimple_new es c.args.self c.args.flag h c.in-Cosimple.is (off_from_not _ c.if-not-self-3.true)

pub returns-in-Distinct : goal.returns-in-Distinct
returns-in-Distinct c = λ es h. distinct_new es c.args.self c.args.flag h c.in-Distinct.is (off_from_not _ c.if-not-self-4.true)

pub returns-in_default : goal.returns-in_default
returns-in_default c = λ es h. elim c.in_default.branch [
  | in_default-via-in-Connected+else-not-self w ↦ connected_again es c.args.self c.args.flag h w.in-Connected.is (on_from_not _ w.if-not-self.false)
  | in_default-via-in-Three+else-not-self-2 w ↦ three_again es c.args.self c.args.flag h w.in-Three.is (on_from_not _ w.if-not-self-2.false)
  | in_default-via-in-Cosimple+else-not-self-3 w ↦ cosimple_again es c.args.self c.args.flag h w.in-Cosimple.is (on_from_not _ w.if-not-self-3.false)
  | in_default-via-in-Distinct+else-not-self-4 w ↦ distinct_again es c.args.self c.args.flag h w.in-Distinct.is (on_from_not _ w.if-not-self-4.false)
]
