use Rattle.std.proofs.Common.{List, ℕ, sym, subst}
use Rattle.ask_formats.specs.Answer.{IsAnswer}
use Rattle.ask_run.specs.Questions.{question_of}
use Rattle.ask_run.proofs.answer.ask.Goals as goal

pub returns-in-Some-clause-usage : goal.returns-in-Some-clause-usage
returns-in-Some-clause-usage g c =
    (λ e. absurd (c.write_line.ensures.usage e), λ none. absurd (none (question_of c.in-Some.asked) c.in-Some.ensures))

pub returns-in-Some-clause-write_fault : goal.returns-in-Some-clause-write_fault
returns-in-Some-clause-write_fault g c e =
    let (part, rose) = c.write_line.ensures.write_fault e in (
      record {
        question = question_of c.in-Some.asked;
        asks = c.in-Some.ensures;
        gains = record {
          written = part.front;
          gained = part.added;
          part = record {
            line = c.as_slice.result.now;
            answer = subst (λ (line : List ℕ). IsAnswer (question_of c.in-Some.asked) line) (sym c.as_slice.ensures.value) c.answer_line.ensures;
            front = record { rest = part.rest; split = part.split; proper = part.proper };
          };
        };
      },
      rose,
    )
