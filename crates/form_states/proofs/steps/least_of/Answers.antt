use Rattle.std.proofs.Common.{◌≡◌, ◌<◌, ℕ, Bool, List, Option, Some, None, arith}
use Rattle.std.specs.Option.{MatchOption}
use Rattle.matroid_theory.specs.Rep.{Rep, size}
use Rattle.form_search.specs.Search.{IsThere}
use Rattle.form_states.specs.States.{layer_of, IsLeastOf, IsLeastMarked}
use Rattle.form_states.proofs.steps.least_of.Goals as goal

as_entries : (M : Rep) (layer : List (List (List ℕ))) (scalars : List (List ℕ)) (marks : List Bool) (numbers : List ℕ) (total : ℕ) (found : Option ℕ) → total
    ≡ size M → IsLeastMarked marks numbers total found
    → MatchOption found ((e : ℕ) → IsThere (layer_of M layer scalars marks) e → ⊥) (λ low. IsLeastOf (layer_of M layer scalars marks) numbers low)
as_entries M layer scalars marks numbers total None z h = λ e t. h e (let b : e < size M = t.below in omega arith) t.passes
as_entries M layer scalars marks numbers total (Some low) z h = record {
  least = λ e t. h.0 e (let b : e < size M = t.below in omega arith) t.passes;
  at = (h.1).0;
  there = record { below = (let b : (h.1).0 < total = (h.1).1 in omega arith); passes = (h.1).2 };
  reached = (h.1).3;
}

pub returns : goal.returns
returns c = as_entries c.args.rep.now c.args.layer.now c.args.state.now.scalars c.args.state.now.open c.args.state.now.numbers c.args.shape.now.size
    c.least_marked.result c.requires.shape.total_is c.least_marked.ensures
