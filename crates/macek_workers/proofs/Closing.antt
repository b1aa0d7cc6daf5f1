-- The level that the store closed last, step by step.
use Rattle.std.proofs.Common.{◌≡◌, ℕ, ◌+◌, ◌-◌, ◌≤◌, refl, subst, inl, inr, arith}
use Rattle.std.specs.Prelude.{min}
use Rattle.std.proofs.Math.Nat.{min-eq_left, min-le_right, le-min}
use Rattle.formats.specs.Request.{Request}
use Rattle.class_store.specs.Closed.{StoreSide}
use Rattle.workers.specs.Store.{HoldsTriesOf}
use Rattle.macek_run.specs.declared.write.Stop.{Stop}
use Rattle.macek_run.specs.declared.write.Stop.TheVariants.{Failed, NoMemory}
use Rattle.macek_workers.specs.Stored.{HasClosed, HasClosedAtCut, HasClosedSome, LeavesStore}

-- no level was grown yet
pub none_closed : (q : Request) (n : ℕ) (store : StoreSide) → n ≤ q.rank → HasClosed q n store store
none_closed q n store low = record { first = λ l. refl; later = λ m. absurd (omega arith) }

-- one more level was grown
pub more_closed : (q : Request) (n : ℕ) (old new : StoreSide) → q.rank ≤ n → HoldsTriesOf q (n + 1) new.last → HasClosed q (n + 1) old new
more_closed q n old new low holds = record { first = λ l. absurd (omega arith); later = λ m. holds }

pub closed_at : (q : Request) (n m : ℕ) (old new : StoreSide) → n ≡ m → HasClosed q n old new → HasClosed q m old new
closed_at q n m old new is h = subst (λ (k : ℕ). HasClosed q k old new) is h

-- the level behind the whole ones was grown
pub left_grown : (why : Stop) (q : Request) (whole n : ℕ) (old new : StoreSide) → n ≡ q.rank + whole → n ≤ q.size → HasClosed q n old new
    → LeavesStore why q whole old new
left_grown Failed q whole n old new is most h =
    let e : min (q.rank + whole) q.size ≡ q.rank + whole = min-eq_left (omega arith) in
    closed_at q n (min (q.rank + whole) q.size) old new (omega arith) h
left_grown NoMemory q whole n old new is most h = inl (closed_at q n (q.rank + whole) old new is h)

-- it wasn't
pub left_before : (q : Request) (whole n : ℕ) (old new : StoreSide) → n + 1 ≡ q.rank + whole → HasClosed q n old new → HasClosedSome q whole old new
left_before q whole n old new is h = inr (closed_at q n (q.rank + whole - 1) old new (omega arith) h)

-- all of them were
pub left_all : (q : Request) (whole : ℕ) (old new : StoreSide) → q.size ≤ q.rank + whole → HasClosed q q.size old new → HasClosedAtCut q whole old new
left_all q whole old new most h =
    let a : min (q.rank + whole) q.size ≤ q.size = min-le_right (q.rank + whole) q.size in
    let b : q.size ≤ min (q.rank + whole) q.size = le-min most (omega arith) in
    closed_at q q.size (min (q.rank + whole) q.size) old new (omega arith) h
