use Rattle.std.proofs.Common.{arith, ◌∙◌, refl}
use Rattle.steal_pool.proofs.taking.next_number.Goals.{then-done-eq0+in-End, else-done-eq0}
use Rattle.steal_deque.specs.declared.deque.Task.TheVariants.{Number, End}
use Rattle.steal_pool.proofs.Empty.{not_among, new_to}
use Rattle.steal_pool.proofs.Kept.{kept_none, kept_own, kept_seat}
use Rattle.steal_pool.proofs.Seats.{own_took, own_met, seat_took, seat_met, seat_part, seat_count}
use Rattle.steal_pool.proofs.taking.next_number.Goals as goal

pub pop_one-requires : goal.pop_one-requires
pop_one-requires g c = (c.requires.shift.part 0 (let o = c.requires.shift.own in omega arith), c.requires.fifo)

pub returns-in-Number-clause-shift : goal.returns-in-Number-clause-shift
returns-in-Number-clause-shift g c = (own_took _ _ _ _ _ _ _ _ c.if-done-eq0.true c.requires.shift c.in-Number.ensures.got).0

pub returns-in-Number-clause-taken : goal.returns-in-Number-clause-taken
returns-in-Number-clause-taken g c = let t = own_took _ _ _ _ _ _ _ _ c.if-done-eq0.true c.requires.shift c.in-Number.ensures.got in
    (t.1, not_among _ _ t.2, t.3)

pub loop-done-init : goal.loop-done-init
loop-done-init g c = elim c.if-done-eq0.branch [
  | then-done-eq0+in-End w ↦
      let m = own_met _ _ _ _ _ _ _ w.if-done-eq0.true c.requires.shift w.in-End.ensures.got in
      rw (w.own-is, w.done-is) (record {
        shift = m.0;
        same = w.pop_one.ensures.same;
        taken = m.1;
        begun = omega arith;
        grown =
            (let d = w.if-done-eq0.true in omega arith);
        kept = kept_own _ _ End _ w.in-End.ensures.got;
      })
  | else-done-eq0 w ↦ rw (w.own-is, w.done-is) (record {
    shift = c.requires.shift;
    same = (refl, refl, refl, omega arith);
    taken = refl;
    begun =
        (let n = w.if-done-eq0.false in omega arith);
    grown = omega arith;
    kept = kept_none _ _;
  })
]

pub take-requires : goal.take-requires
take-requires g c =
    let s = c.loop-done.invariant.shift in
    let n = seat_count _ _ _ _ _ _ s in
    let b = c.loop-done.invariant.begun in
    seat_part _ _ _ _ _ _ _ _ (omega arith) (omega arith) (omega arith) s

pub returns-in-Number-take-clause-shift : goal.returns-in-Number-take-clause-shift
returns-in-Number-take-clause-shift g c =
    let s = c.loop-done.invariant.shift in
    let n = seat_count _ _ _ _ _ _ s in
    let b = c.loop-done.invariant.begun in
    (seat_took _ _ _ _ _ _ _ _ _ _ (omega arith) (omega arith) s (omega arith) c.in-Number-take.ensures.got).0

pub returns-in-Number-take-clause-taken : goal.returns-in-Number-take-clause-taken
returns-in-Number-take-clause-taken g c =
    let s = c.loop-done.invariant.shift in
    let n = seat_count _ _ _ _ _ _ s in
    let b = c.loop-done.invariant.begun in
    let t = seat_took _ _ _ _ _ _ _ _ _ _ (omega arith) (omega arith) s (omega arith) c.in-Number-take.ensures.got in
    new_to _ _ _ _ _ c.loop-done.invariant.taken (t.1, t.2, t.3)

pub loop-done-preserved : goal.loop-done-preserved
loop-done-preserved g c =
    let s = c.loop-done.invariant.shift in
    let n = seat_count _ _ _ _ _ _ s in
    let b = c.loop-done.invariant.begun in
    let m = seat_met _ _ _ _ _ _ _ _ _ (omega arith) (omega arith) s (omega arith) c.in-End-take.ensures.got in
    record {
      shift = m.0;
      same = c.loop-done.invariant.same;
      taken = m.1
          ∙ c.loop-done.invariant.taken;
      begun = omega arith;
      grown = (let g = c.loop-done.invariant.grown in omega arith);
      kept =
          kept_seat _ _ _ _ _ _ _ End c.loop-done.invariant.kept (omega arith) c.in-End-take.ensures.got c.in-End-take.ensures.same;
    }

pub returns-in-Number-clause-left : goal.returns-in-Number-clause-left
returns-in-Number-clause-left g c = let o = c.requires.shift.own in let z = c.if-done-eq0.true in omega arith

pub returns-in-Number-take-clause-left : goal.returns-in-Number-take-clause-left
returns-in-Number-take-clause-left g c =
    let n = seat_count _ _ _ _ _ _ c.loop-done.invariant.shift in
    omega arith

pub returns-in-Number-clause-kept : goal.returns-in-Number-clause-kept
returns-in-Number-clause-kept g c = kept_own _ _ (Number c.in-Number.p) _ c.in-Number.ensures.got

pub returns-in-Number-take-clause-kept : goal.returns-in-Number-take-clause-kept
returns-in-Number-take-clause-kept g c =
    let n = seat_count _ _ _ _ _ _ c.loop-done.invariant.shift in
    let b = c.loop-done.invariant.begun in
    kept_seat _ _ _ _ _ _ _ (Number _) c.loop-done.invariant.kept (omega arith) c.in-Number-take.ensures.got c.in-Number-take.ensures.same
