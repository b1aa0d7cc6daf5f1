use Rattle.std.proofs.Common.{◌≡◌, ℕ, ◌<◌, List, [], ◌∷◌, length, sym, ap, subst, arith, length-append}
use Rattle.formats.specs.Listing.{level_count}
use Rattle.level_driver.specs.declared.level.Level.{Level}
use Rattle.level_driver.specs.Grown.{IsGrown}
use Rattle.level_file.proofs.Meeting.{nothing_left}
use Rattle.level_file.proofs.TextLevels.{HaveRead, ends_here, all_read, parts_at_all, next_read, next_ends, next_parts}
use Rattle.level_file.proofs.levels.read_levels.Goals as goal

pub returns-then-is_empty-clause-ok : goal.returns-then-is_empty-clause-ok
returns-then-is_empty-clause-ok c =
    let some : 0 < level_count c.args.request.now = omega (arith, c.laws.ensures.limits.size) in
    ends_here c.args.request.now c.args.text.now c.requires some c.loop-size.levels c.loop-size.rest.now c.loop-size.invariant.read
    (nothing_left _ _ c.is_empty.ensures c.if-is_empty.true)

pub returns-in-Err-Ends-clause-ok : goal.returns-in-Err-Ends-clause-ok
returns-in-Err-Ends-clause-ok c =
    let q = c.args.request.now in
    let levels = c.loop-size.levels in
    let next = c.loop-size.invariant.next in
    let some : 0 < level_count q = omega (arith, c.laws.ensures.limits.size) in
    let room : length levels < level_count q = omega (arith, next, c.loop-size-test.true, c.size-size-end.ensures, c.laws.ensures.limits.size) in
    let grown = subst (λ (k : ℕ). IsGrown q k c.in-Ok.level) (sym next) c.in-Ok.ensures in
    let ends = rw c.in-Err-Ends.field-0-is at c.in-Err-Ends.ensures.unmet in
    next_ends q c.args.text.now c.requires some levels c.loop-size.rest.now c.loop-size.invariant.read c.loop-size.size next room c.in-Ok.level grown ends

pub returns-in-Err-Parts-clause-broken : goal.returns-in-Err-Parts-clause-broken
returns-in-Err-Parts-clause-broken c =
    let q = c.args.request.now in
    let levels = c.loop-size.levels in
    let next = c.loop-size.invariant.next in
    let some : 0 < level_count q = omega (arith, c.laws.ensures.limits.size) in
    let room : length levels < level_count q = omega (arith, next, c.loop-size-test.true, c.size-size-end.ensures, c.laws.ensures.limits.size) in
    let grown = subst (λ (k : ℕ). IsGrown q k c.in-Ok.level) (sym next) c.in-Ok.ensures in
    let parts = rw c.in-Err-Parts.field-0-is at c.in-Err-Parts.ensures.unmet in
    rw c.in-Err-Parts.field-0-is
    (next_parts q c.args.text.now c.requires some levels c.loop-size.rest.now c.loop-size.invariant.read c.loop-size.size next room c.in-Ok.level grown
    c.in-Err-Parts.left parts)

pub loop-size-preserved : goal.loop-size-preserved
loop-size-preserved c =
    let q = c.args.request.now in
    let levels = c.loop-size.levels in
    let level = c.in-Ok.level in
    let after = c.in-Ok-meet_level.after.now in
    let next = c.loop-size.invariant.next in
    let some : 0 < level_count q = omega (arith, c.laws.ensures.limits.size) in
    let room : length levels < level_count q = omega (arith, next, c.loop-size-test.true, c.size-size-end.ensures, c.laws.ensures.limits.size) in
    let grown = subst (λ (k : ℕ). IsGrown q k level) (sym next) c.in-Ok.ensures in
    let pushed = c.in-Ok-push.ensures.pushed in
    record {
      read = subst (λ (ls : List Level). HaveRead q c.args.text.now ls after) (sym pushed)
          (next_read q c.args.text.now c.requires some levels c.loop-size.rest.now c.loop-size.invariant.read c.loop-size.size next room level grown
          after c.in-Ok-meet_level.ensures.whole);
      next = omega (arith, next, ap length pushed, length-append levels (level ∷ []));
    }

pub returns-in-None-clause-ok : goal.returns-in-None-clause-ok
returns-in-None-clause-ok c =
    let q = c.args.request.now in
    let some : 0 < level_count q = omega (arith, c.laws.ensures.limits.size) in
    let all : length c.loop-size.levels ≡ level_count q =
    omega (
      arith,
      c.loop-size.invariant.next,
      c.loop-size-test.false,
      c.loop-size.auto.size-end,
      c.rank-size.ensures,
      c.size-size-end.ensures,
      c.laws.ensures.limits.size,
    ) in
    all_read q c.args.text.now c.requires some c.loop-size.levels c.loop-size.rest.now c.loop-size.invariant.read all c.in-None.ensures

pub returns-in-Some-clause-broken : goal.returns-in-Some-clause-broken
returns-in-Some-clause-broken c =
    let q = c.args.request.now in
    let some : 0 < level_count q = omega (arith, c.laws.ensures.limits.size) in
    let all : length c.loop-size.levels ≡ level_count q =
    omega (
      arith,
      c.loop-size.invariant.next,
      c.loop-size-test.false,
      c.loop-size.auto.size-end,
      c.rank-size.ensures,
      c.size-size-end.ensures,
      c.laws.ensures.limits.size,
    ) in
    parts_at_all q c.args.text.now c.requires some c.loop-size.levels c.loop-size.rest.now c.loop-size.invariant.read c.in-Some.left all c.in-Some.ensures
