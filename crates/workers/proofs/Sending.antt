-- Which closures may cross threads. Of a closure the logic knows a tuple of what it captures, in order.
use mathlib.Core.List.{List, [], ◌∷◌}
use Prim.Native.Nat.{ℕ}
use mir.Syntax.{Sym, Ty}
use denote.Exit.{Kept}
use denote.RattleType.{RattleType}
use denote.Struct.Declared.{shape}
use denote.Struct.Field.{rows}
use denote.Struct.Tuple.{TupleAt, type_at, parts}
use denote.Param.{param, arg}
use denote.Param.Send.{IsSend, IsSync, AllSend, AllSync, struct_send, struct_sync, recorded_send, recorded_sync, param_send, param_sync, arg_send, arg_sync}

-- captures that may all be sent to another thread, and captures that may all be seen from one
pub record CanGo (captures : List RattleType) : Type 0 where
  pub all : AllSend captures

pub record CanBeSeen (captures : List RattleType) : Type 0 where
  pub all : AllSync captures

pub goes : {T : RattleType} → IsSend T → CanGo (T ∷ [])
goes s = record { all = (s, tt) }

pub goes_with : {T : RattleType} {Ts : List RattleType} → IsSend T → CanGo Ts → CanGo (T ∷ Ts)
goes_with s others = record { all = (s, others.all) }

pub seen : {T : RattleType} → IsSync T → CanBeSeen (T ∷ [])
seen s = record { all = (s, tt) }

pub seen_with : {T : RattleType} {Ts : List RattleType} → IsSync T → CanBeSeen Ts → CanBeSeen (T ∷ Ts)
seen_with s others = record { all = (s, others.all) }

rows_send : (Ts : List RattleType) → AllSend Ts → AllSend (rows (parts Ts))
rows_send [] s = tt
rows_send (T ∷ Ts) s = (s.0, rows_send Ts s.1)

rows_sync : (Ts : List RattleType) → AllSync Ts → AllSync (rows (parts Ts))
rows_sync [] s = tt
rows_sync (T ∷ Ts) s = (s.0, rows_sync Ts s.1)

-- a closure that stands for the i-th type parameter of what it is passed to: it may be sent where its captures may
pub closure_send : (i : ℕ) (δ : Ty) (k : Kept) (ν : Sym) {Ts : List RattleType} → CanGo Ts → IsSend (param i (arg δ k (TupleAt ν Ts)))
closure_send i δ k ν {Ts} s = param_send i (arg δ k (TupleAt ν Ts)) (arg_send δ k (TupleAt ν Ts)
    (recorded_send _ _ _ (type_at ν Ts).to_one (struct_send (shape (type_at ν Ts)) (rows_send Ts s.all))))

-- and it may be seen from other threads where its captures may
pub closure_sync : (i : ℕ) (δ : Ty) (k : Kept) (ν : Sym) {Ts : List RattleType} → CanBeSeen Ts → IsSync (param i (arg δ k (TupleAt ν Ts)))
closure_sync i δ k ν {Ts} s = param_sync i (arg δ k (TupleAt ν Ts)) (arg_sync δ k (TupleAt ν Ts)
    (recorded_sync _ _ _ (type_at ν Ts).to_one (struct_sync (shape (type_at ν Ts)) (rows_sync Ts s.all))))
