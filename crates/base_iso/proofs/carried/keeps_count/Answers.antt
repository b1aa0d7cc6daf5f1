use Rattle.std.proofs.Common.{◌≡◌, ◌^◌, ℕ, sym, ◌∙◌, ap, length, bit_or, eqb-true, eq-eqb}
use Rattle.std.specs.Bool.{◌==◌, nat_lt}
use Rattle.std.specs.List.{count_by}
use Rattle.base_iso.proofs.Images.{one_image}
use Rattle.base_iso.proofs.carried.keeps_count.Goals as goal

pub returns : goal.returns
returns c =
    let of_a : c.count_below.result ≡ count_by (λ X. nat_lt X (2 ^ length c.args.labels.now)) c.args.a.now = c.count_below.ensures
    ∙ ap (λ (n : ℕ). count_by (λ X. nat_lt X n) c.args.a.now) c.set_count.ensures.value in (
      λ t W w. sym of_a ∙ eqb-true c.count_below.result c.count_within.result t ∙ c.count_within.ensures
          ∙ ap (λ (V : ℕ). count_by (λ Y. bit_or Y V == V) c.args.b.now) (one_image c.args.labels.now 65535 c.image.result W c.image.ensures w),
      λ h. eq-eqb c.count_below.result c.count_within.result (of_a ∙ h c.image.result c.image.ensures ∙ sym c.count_within.ensures),
    )
