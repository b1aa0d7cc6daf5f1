-- How many marks there are.
use Rattle.std.proofs.Common.{◌≡◌, ℕ, zero, suc, ◌<◌, ◌≤◌, Bool, true, false, List, [], ◌∷◌, length, slice_index_or, arith}
use Rattle.std.specs.List.{slice_set}
use Rattle.form_states.specs.States.{marked}

pub marked_most : (marks : List Bool) → marked marks ≤ length marks
marked_most [] = omega arith
marked_most (true ∷ marks) = let h : marked marks ≤ length marks = marked_most marks in omega arith
marked_most (false ∷ marks) = let h : marked marks ≤ length marks = marked_most marks in omega arith

pub marked_fewer : (marks : List Bool) (e : ℕ) → slice_index_or marks e false ≡ true → marked (slice_set marks e false) < marked marks
marked_fewer [] e h = cc
marked_fewer (true ∷ marks) zero h = omega arith
marked_fewer (false ∷ marks) zero h = cc
marked_fewer (true ∷ marks) (suc e) h = let k : marked (slice_set marks e false) < marked marks = marked_fewer marks e h in omega arith
marked_fewer (false ∷ marks) (suc e) h = let k : marked (slice_set marks e false) < marked marks = marked_fewer marks e h in omega arith
