use Rattle.resume_formats.proofs.FaultLemmas.{fault_for_same, resumed_never_faulty, resumed_same}
use Rattle.resume_formats.proofs.laws.one_answer_for_a_size.Goals as goal

pub returns : goal.returns
returns c = record { fault = fault_for_same; never_both = resumed_never_faulty; request = resumed_same }
