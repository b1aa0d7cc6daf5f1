use Rattle.resume_formats.proofs.HeadLemmas.{head_same, cut_same}
use Rattle.resume_formats.proofs.laws.one_head.Goals as goal

pub returns : goal.returns
returns c = record { head = head_same; cut = cut_same }
