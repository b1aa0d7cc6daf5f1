use Rattle.std.proofs.Common.{◌^◌, ◌<◌, ◌≤◌, ℕ, sym, ◌∙◌, subst, slice_index_or}
use Rattle.std.proofs.lemmas.List.Elements.{Contains-get_or}
use Rattle.matroid_theory.specs.Rep.{KeepsLimits}
use Rattle.matroid_theory.specs.Matrix.{size_below}
use Rattle.matroid_theory.specs.Matroid.{members}
use Rattle.matroid_theory.specs.Minor.{AreBases}
use Rattle.bases.proofs.base_list.BaseList.of.Goals as goal

pub invariant_of-result : goal.invariant_of-result
invariant_of-result c =
    let r : KeepsLimits c.args.rep.now = c.size-size.ensures.is_rep in
    let b : AreBases c.args.rep.now c.in_ok-bases_of.field-0.items = c.in_ok-bases_of.ensures in
    record {
      rank_positive = subst (λ (n : ℕ). 0 < n) (sym c.rank.ensures) r.rank_positive;
      rank_most = subst (λ (n : ℕ). n ≤ 6) (sym c.rank.ensures) r.rank_most;
      size_most = subst (λ (n : ℕ). n ≤ 16) (sym c.size-size.ensures.value) r.size_most;
      rising = b.rising;
      below = λ k d l. subst (λ (n : ℕ). slice_index_or c.in_ok-bases_of.field-0.items k d < 2 ^ n) (sym c.size-size.ensures.value)
          ((b.exact _).0 (Contains-get_or c.in_ok-bases_of.field-0.items k d l)).0;
      of_rank = λ k d l.
          (let w = (b.exact _).0 (Contains-get_or c.in_ok-bases_of.field-0.items k d l) in
          (λ u. size_below (c.size-size.ensures.value u) (members (slice_index_or c.in_ok-bases_of.field-0.items k d))) ∙ w.1.full ∙ sym c.rank.ensures);
    }
