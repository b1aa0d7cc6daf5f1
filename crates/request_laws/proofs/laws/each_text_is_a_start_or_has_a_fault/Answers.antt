use Rattle.request_laws.proofs.Starts.{start_or_fault, start_or_fault_for}
use Rattle.request_laws.proofs.laws.each_text_is_a_start_or_has_a_fault.Goals as goal

pub returns : goal.returns
returns c = record { text = start_or_fault; wanted = start_or_fault_for }
