-- Tables of columns.
use Rattle.std.specs.Prelude.{ℕ, ◌==◌, ◌&&◌, Bool, List, length, nat_lt}
use Rattle.std.specs.List.{list_all}

-- whether the columns have so many codes below q each
abbrev pub are_codes : ℕ → ℕ → List (List ℕ) → Bool
are_codes q rows columns = list_all (λ codes. (length codes == rows) && list_all (λ code. nat_lt code q) codes) columns
