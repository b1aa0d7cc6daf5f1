use Rattle.std.proofs.Common.{◌≡◌, ◌<◌, ℕ, sym, ◌∙◌, ap, subst, slice_index, eqb-true, eq-eqb}
use Rattle.std.specs.Bool.{◌==◌}
use Rattle.std.specs.List.{position}
use Rattle.std.specs.Prelude.{unwrap_or}
use Rattle.product_rep.proofs.moves.Move.has_label.Goals as goal

pub place-requires : goal.place-requires
place-requires c = subst (λ (x : ℕ). x < c.args.self.now.shape.size) (sym c.label.ensures) (c.laws.ensures.label_columns c.args.j c.requires)

pub returns-then-place-j : goal.returns-then-place-j
returns-then-place-j c =
    let there : c.place.result ≡ unwrap_or (position (λ l. l == slice_index c.args.self.now.labels c.args.j) c.args.self.now.labels) 0 =
    c.place.ensures.place ∙ ap (λ (x : ℕ). unwrap_or (position (λ l. l == x) c.args.self.now.labels) 0) c.label.ensures in
    let back : c.label-then-place-j.result ≡ slice_index c.args.self.now.labels (unwrap_or (position (λ l. l == c.args.j) c.args.self.now.labels) 0) =
    c.label-then-place-j.ensures ∙ ap (λ (x : ℕ). slice_index c.args.self.now.labels x) c.place-then-place-j.ensures.place in (
      λ t. record {
        below = c.laws.ensures.label_columns c.args.j c.requires;
        inverse_below = subst (λ (x : ℕ). x < c.args.self.now.shape.size) c.place-then-place-j.ensures.place c.place-then-place-j.ensures.below;
        there = sym there ∙ c.if-place-j.true;
        back = sym back ∙ eqb-true _ _ t;
      },
      λ d. eq-eqb _ _ (back ∙ d.back),
    )

pub returns-else-place-j : goal.returns-else-place-j
returns-else-place-j c = (
  λ t. absurd (c.if-place-j.false (eqb-true _ _ t)),
  λ d. absurd (c.if-place-j.false
      (c.place.ensures.place ∙ ap (λ (x : ℕ). unwrap_or (position (λ l. l == x) c.args.self.now.labels) 0) c.label.ensures ∙ d.there)),
)
