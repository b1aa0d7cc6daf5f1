use Rattle.std.proofs.Common.{◌≡◌, ◌<◌, ℕ}
use Rattle.steal_deque.specs.Deque.{Learned}
use Rattle.steal_pool.specs.Ring.{view_at}
use Rattle.steal_pool.specs.Back.{place_views}
use Rattle.steal_pool.proofs.giving_back.learn_all.Given as goal

abbrev pub invariant-loop-place : goal.invariant-loop-place
invariant-loop-place l = record {
  same : place_views l.owners ≡ place_views l.initial.owners;
  learned : (k : ℕ) → k < l.place-index → Learned (view_at (place_views l.owners) k);
}
