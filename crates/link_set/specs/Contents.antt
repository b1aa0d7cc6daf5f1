-- What contracts see of a set.
use Rattle.std.specs.Prelude.{ℕ, ◌+◌, ◌==◌, List, length, if◌then◌else◌}

-- its keys in order of insertion, how many heads the newer table has, and for how many inserts there is room
pub record Contents : Type 0 where
  pub keys : List (List ℕ)
  pub heads : ℕ
  pub spare : ℕ

-- how many heads there are once a missing key was inserted: twice as many where it found as many keys as heads
abbrev pub heads_after : Contents → ℕ
heads_after before = if length before.keys == before.heads then before.heads + before.heads else before.heads
