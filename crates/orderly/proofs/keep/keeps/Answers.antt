use Rattle.std.proofs.Common.{List, sym, subst}
use mathlib.Core.Bool.{true≢false}
use Rattle.matroid_theory.specs.Rep.{size}
use Rattle.matroid_theory.specs.Matroid.{Agrees}
use Rattle.matroid_theory.specs.Minor.{Matroid}
use Rattle.level_driver.specs.Forbidden.{matroids_of, Avoids}
use Rattle.orderly.proofs.KeptLevel.{kept_by, kept_own}
use Rattle.orderly.proofs.keep.keeps.Goals as goal

pub avoids-requires : goal.avoids-requires
avoids-requires c = subst Agrees (sym c.extended-child.ensures) c.requires.column.agrees

pub returns-then-not-avoids : goal.returns-then-not-avoids
returns-then-not-avoids c = (
  λ e. absurd (true≢false (sym e)),
  λ h.
      let Ns : List Matroid = matroids_of c.forbid.result.now in
      let f = kept_own c.args.request.now Ns c.forbid.ensures.given
      (size c.args.parent.now) c.args.parent.now c.requires.parent c.args.column.now.items h in
      let m = f.member in
      let yes = c.avoids.ensures.1 (subst (Avoids Ns) (sym c.extended-child.ensures) m.avoids) in
      let no = c.if-not-avoids.true in
      cc (yes, no),
)

pub returns : goal.returns
returns c =
    let Ns : List Matroid = matroids_of c.forbid.result.now in
    let is = c.extended-child.ensures in
    let both = kept_by c.args.request.now Ns c.forbid.ensures.given (size c.args.parent.now) c.args.parent.now c.requires.parent
    c.args.column.now.items c.extended-child.result c.mode.result is c.mode.ensures
    (record { admissible = c.requires.column; avoids = subst (Avoids Ns) is (c.avoids.ensures.0 c.if-not-avoids.false) }) in
    (λ e. both.0 (c.is_kept.ensures.0 e), λ h. c.is_kept.ensures.1 (both.1 h))
