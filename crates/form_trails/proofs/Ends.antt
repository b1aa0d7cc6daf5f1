-- Where all elements are placed, the columns are those of a standard representation of the class.
use Rattle.std.proofs.Common.{◌≡◌, refl, ℕ, ◌+◌, ◌<◌, ◌∙◌}
use Rattle.matroid_theory.specs.declared.Mode.TheVariants.{Linear}
use Rattle.matroid_theory.specs.Rep.{Rep, count, order, matrix, IsShaped, IsStandard}
use Rattle.matroid_theory.specs.Move.{AreEquivalent}
use Rattle.form_trails.specs.Trail.{Trail, IsOrdered, ArePlaced, IsTrail}
use Rattle.form_trails.proofs.Scalars.{one_scalar}
use Rattle.form_trails.proofs.Entries.{field, made}
use Rattle.form_trails.proofs.Coordinates.{row_scalars}
use Rattle.form_trails.proofs.Ordered.{first_basis}

module _ (M : Rep) (shaped : IsShaped M) (some : 0 < count M) (k s : ℕ) (groups : ℕ → ℕ) (d : Trail) (h : IsTrail M k s groups d) where
  o : IsOrdered M d
  o = h.ordered

  p : ArePlaced M k s groups d
  p = h.placed

  -- a standard representation of the class that begins with the columns placed
  pub record Begins (L : Rep) : Type 0 where
    pub standard : IsStandard L
    pub equivalent : AreEquivalent Linear M L
    pub entries : (j f i : ℕ) → j < s → f < count M → i < M.rank → matrix L f i (M.rank + j) ≡ d.columns j f i

  pub member_begins : (L : Rep) × Begins L
  member_begins =
      let (L, w) = made M shaped some d (row_scalars M shaped d o) k d.label d.place o.labels
      (λ f l. first_basis M shaped d.label d.place o.labels o.room f l (o.independent f l)) (λ _ _ _. refl)
      (λ _ _. 1) (λ f i l _. one_scalar (order M f) (field M shaped f l)) s p.room d.columns p.coordinates p.zeros (λ _ _. 1)
      (λ f j l _. one_scalar (order M f) (field M shaped f l)) in (
        L,
        record {
          standard = w.standard;
          equivalent = w.equivalent;
          entries = λ j f i l b t. w.entries j f i l b t
              ∙ (let F = field M shaped f b in F.times_one _ (F.times_below _ _)
              ∙ F.times_one (d.columns j f i) (let v = p.coordinates j l in v.codes f i b t));
        },
      )
