use Rattle.std.proofs.Common.{◌≡◌, ap, ◌∙◌}
use Rattle.matroid_theory.specs.Move.{MoveTable}
use Rattle.product_rep.proofs.ValidLemmas.{rank_is, has_block, block_codes, same_test}
use Rattle.product_rep.proofs.moves.Move.has_matrices.Goals as goal

pub of-rows-requires : goal.of-rows-requires
of-rows-requires c =
    has_block c.args.self.now c.args.self.now.rows c.as_slice.result.now c.from-rank.result c.args.factor c.laws.ensures
    (rank_is c.self.inside c.args.self.now c.from-rank.result c.self.view_is c.from-rank.ensures) c.laws.ensures.rows
    (c.as_slice.ensures.value ∙ ap (λ (t : MoveTable). t.rows) c.self.view_is) c.requires

pub of-back-requires : goal.of-back-requires
of-back-requires c =
    has_block c.args.self.now c.args.self.now.back c.as_slice-2.result.now c.from-rank.result c.args.factor c.laws.ensures
    (rank_is c.self.inside c.args.self.now c.from-rank.result c.self.view_is c.from-rank.ensures) c.laws.ensures.back
    (c.as_slice-2.ensures.value ∙ ap (λ (t : MoveTable). t.back) c.self.view_is) c.requires

pub are_inverse-requires-clause-codes : goal.are_inverse-requires-clause-codes
are_inverse-requires-clause-codes c =
    let r : c.from-rank.result ≡ c.args.self.now.shape.rank = rank_is c.self.inside c.args.self.now c.from-rank.result c.self.view_is c.from-rank.ensures in
    block_codes c.field.result _ c.of-rows.result.rank c.of-rows.result.rank c.args.self.now.shape.rank c.args.factor
    c.of-rows.result.factor c.args.self.now.rows c.of-rows.result.codes.now c.field.ensures
    (c.of-rows.ensures.rank ∙ r) (c.of-rows.ensures.rank ∙ r) c.of-rows.ensures.factor
    (c.of-rows.ensures.codes ∙ c.as_slice.ensures.value ∙ ap (λ (t : MoveTable). t.rows) c.self.view_is)
    (λ i l k m. c.laws.ensures.row_codes c.args.factor i k c.requires l m)

pub are_inverse-requires-clause-back_codes : goal.are_inverse-requires-clause-back_codes
are_inverse-requires-clause-back_codes c =
    let r : c.from-rank.result ≡ c.args.self.now.shape.rank = rank_is c.self.inside c.args.self.now c.from-rank.result c.self.view_is c.from-rank.ensures in
    block_codes c.field.result _ c.of-rows.result.rank c.of-back.result.rank c.args.self.now.shape.rank c.args.factor
    c.of-back.result.factor c.args.self.now.back c.of-back.result.codes.now c.field.ensures
    (c.of-rows.ensures.rank ∙ r) (c.of-back.ensures.rank ∙ r) c.of-back.ensures.factor
    (c.of-back.ensures.codes ∙ c.as_slice-2.ensures.value ∙ ap (λ (t : MoveTable). t.back) c.self.view_is)
    (λ i l k m. c.laws.ensures.back_codes c.args.factor i k c.requires l m)

pub returns : goal.returns
returns c =
    let r : c.from-rank.result ≡ c.args.self.now.shape.rank = rank_is c.self.inside c.args.self.now c.from-rank.result c.self.view_is c.from-rank.ensures in
    same_test c.field.result _ c.of-rows.result.rank c.args.self.now.shape.rank c.of-rows.result.factor c.args.factor
    c.of-back.result.rank c.of-back.result.factor
    c.of-rows.result.codes.now c.args.self.now.rows c.of-back.result.codes.now c.args.self.now.back c.are_inverse.result
    c.field.ensures (c.of-rows.ensures.rank ∙ r) c.of-rows.ensures.factor (c.of-back.ensures.rank ∙ r) c.of-back.ensures.factor
    (c.of-rows.ensures.codes ∙ c.as_slice.ensures.value ∙ ap (λ (t : MoveTable). t.rows) c.self.view_is)
    (c.of-back.ensures.codes ∙ c.as_slice-2.ensures.value ∙ ap (λ (t : MoveTable). t.back) c.self.view_is)
    c.are_inverse.ensures
