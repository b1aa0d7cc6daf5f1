-- The question that is asked, in the words of the definitions.
use Rattle.ask_formats.specs.Question as definition
use Rattle.named_matroids.specs.Names.{named_by}
use Rattle.ask_run.specs.declared.question.Asked.{Asked}
use Rattle.ask_run.specs.declared.question.Asked.TheVariants.{Dual, OverName, OverForm}

abbrev pub question_of : Asked → definition.Question
question_of (Dual M) = definition.Dual M
question_of (OverName order item) = definition.OverName order (named_by item.spelling)
question_of (OverForm order M) = definition.OverForm order M
