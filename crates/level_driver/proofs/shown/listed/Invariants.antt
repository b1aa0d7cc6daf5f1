use Rattle.std.proofs.Common.{ℕ, map, take}
use Rattle.matroid_theory.specs.Level.{Family, Filters, IsLevel, Passes}
use Rattle.formats.specs.Levels.{Grows, Keeps}
use Rattle.level_driver.proofs.Sifted.{AreThose}
use Rattle.level_driver.proofs.shown.listed.Given as goal

-- of the forms so far those that pass are shown
abbrev pub invariant-loop-i : goal.invariant-loop-i
invariant-loop-i l = (n : ℕ) (family : Family) (filters : Filters) → Grows l.request family → Keeps l.request filters →
    IsLevel family n l.forms → AreThose (Passes family n filters) (take l.i l.forms) (map (λ form. form.now) l.shown.items)
