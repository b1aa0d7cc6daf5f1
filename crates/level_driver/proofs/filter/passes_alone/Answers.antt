use Rattle.std.proofs.Common.{◌∙◌, sym}
use Rattle.level_driver.proofs.filter.passes_alone.Goals as goal
use Rattle.level_driver.proofs.filter.passes_alone.Goals.{then-connected_where, else-connected_where, then-cosimple_where, else-cosimple_where}

pub returns-then-three_connected_where : goal.returns-then-three_connected_where
returns-then-three_connected_where c =
    elim c.if-cosimple_where.branch [
      | then-cosimple_where w ↦ elim c.if-connected_where.branch [
        | then-connected_where v ↦ (
          (λ t. record {
            connected = c.connected_where.ensures.0 v.if-connected_where.true;
            cosimple = v.cosimple_where.ensures.0 (sym v.value-is ∙ w.if-cosimple_where.true);
            three = w.three_connected_where.ensures.0 (sym w.value-is ∙ c.if-three_connected_where.true);
            has = c.has_wanted.ensures.0 t;
          }),
          (λ p. c.has_wanted.ensures.1 p.has),
        )
        | else-connected_where v ↦ cc (v.value-is, w.if-cosimple_where.true)
      ]
      | else-cosimple_where w ↦ cc (w.value-is, c.if-three_connected_where.true)
    ]
