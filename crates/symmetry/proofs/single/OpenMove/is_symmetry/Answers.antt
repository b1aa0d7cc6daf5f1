use Rattle.std.proofs.Common.{sym, subst}
use Rattle.matroid_theory.specs.Move.{MoveTable, TakesTo, move_of}
use Rattle.symmetry.specs.Symmetric.{IsSymmetry}
use Rattle.symmetry.proofs.single.OpenMove.is_symmetry.Goals as goal

pub returns-then-valid : goal.returns-then-valid
returns-then-valid c =
    let v = c.valid.ensures.0 c.if-valid.true in (
      λ e. subst (IsSymmetry c.args.mode c.args.rep.now) c.self.view_is
          (record { same_shape = v.0; valid = v.1; takes = c.stays.ensures.0 e }),
      λ h. c.stays.ensures.1
          (subst (λ (t : MoveTable). TakesTo c.args.rep.now (move_of t) c.args.rep.now) (sym c.self.view_is) h.takes),
    )
