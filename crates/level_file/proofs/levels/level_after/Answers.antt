use Rattle.std.proofs.Common.{◌≡◌, ◌∙◌, ℕ, ◌+◌, ◌-◌, ◌<◌, List, length, Some, sym, ap, arith}
use Rattle.std.specs.Prelude.{slice_get}
use Rattle.std.specs.Option.{option_copied}
use Rattle.formats.specs.Request.{Request}
use Rattle.level_driver.specs.declared.level.Level.{Level}
use Rattle.level_driver.specs.Grown.{IsParentLevel, AreGrown}
use Rattle.formats.specs.Listing.{level_count}
use Rattle.level_file.proofs.KnownLevels.{grown_at, not_past, next_grown}
use Rattle.level_file.proofs.levels.level_after.Goals as goal

-- the last level is one before the last of the request
is_parent : (q : Request) (levels : List Level) (count : ℕ) (last : Level) → AreGrown q q.rank levels → length levels < level_count q → count ≡ length levels
    → (count ≡ 0 → ⊥) → slice_get levels (count - 1) ≡ Some last → IsParentLevel q (q.rank + (count - 1)) last.forms
is_parent q levels count last grown room is some at = record {
  at_least = omega arith;
  before = omega arith;
  level = (let g = grown_at q q.rank levels last grown (count - 1) at in g.forms);
}

pub next_level-requires : goal.next_level-requires
next_level-requires c =
    let q = c.args.request.now in
    let count = c.len-count.result in (
      q.rank + (count - 1),
      is_parent q c.args.levels.now count c.in-Some.last.now c.requires.grown c.requires.room c.len-count.ensures c.if-count-eq0.false
          (sym c.get.ensures ∙ ap option_copied c.in-Some.is),
    )

pub unreachable-requires : goal.unreachable-requires
unreachable-requires c =
    let count = c.len-count.result in
    let within : count - 1 < length c.args.levels.now = omega (arith, c.len-count.ensures, c.if-count-eq0.false) in
    not_past c.args.levels.now (count - 1) (sym (ap option_copied c.in-None.is) ∙ c.get.ensures) within

pub returns : goal.returns
returns c =
    let q = c.args.request.now in
    let count = c.len-count.result in
    next_grown q (q.rank + (count - 1)) (q.rank + length c.args.levels.now) c.in-Some.last.now.forms c.next_level.result
    (is_parent q c.args.levels.now count c.in-Some.last.now c.requires.grown c.requires.room c.len-count.ensures c.if-count-eq0.false
    (sym c.get.ensures ∙ ap option_copied c.in-Some.is))
    (omega (arith, c.len-count.ensures, c.if-count-eq0.false)) c.next_level.ensures.forms c.next_level.ensures.tried
