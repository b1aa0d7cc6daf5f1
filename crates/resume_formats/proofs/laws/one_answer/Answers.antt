use Rattle.resume_formats.proofs.FaultLemmas.{fault_same, start_never_faulty, start_request_same, start_last_same}
use Rattle.resume_formats.proofs.laws.one_answer.Goals as goal

pub returns : goal.returns
returns c = record { fault = fault_same; never_both = start_never_faulty; request = start_request_same; last = start_last_same }
