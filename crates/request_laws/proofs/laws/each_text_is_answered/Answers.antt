use Rattle.request_laws.proofs.Texts.{answered}
use Rattle.request_laws.proofs.laws.each_text_is_answered.Goals as goal

pub returns : goal.returns
returns c = answered
