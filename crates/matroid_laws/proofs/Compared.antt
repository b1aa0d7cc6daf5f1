-- What is not above what, in the order of representations.
use Rattle.std.proofs.Common.{◌≡◌, ◌≢◌, refl, sym, ◌∙◌}
use Rattle.std.specs.Cmp.Lexicographic.{slice_cmp}
use Rattle.std.specs.Ordering.{nat_cmp, ordering_reverse}
use Rattle.std.specs.declared.cmp.Ordering.{Ordering}
use Rattle.std.specs.declared.cmp.Ordering.TheVariants.{Less, Equal, Greater}
use Rattle.matroid_theory.specs.Rep.{Rep}
use Rattle.matroid_theory.specs.Order.{rep_cmp}
use Rattle.matroid_laws.proofs.Levels.{columns_total}
use Rattle.matrix_lemmas.proofs.Orderings.{at_most_itself, at_most_chain}

-- nothing is above itself
pub not_above_itself : (M : Rep) → rep_cmp M M ≢ Greater
not_above_itself M = at_most_itself (slice_cmp (slice_cmp nat_cmp)) columns_total M.columns

-- of two, where the first is not below the second, the second is not above the first
pub not_below_reversed : (M N : Rep) → rep_cmp M N ≢ Less → rep_cmp N M ≢ Greater
not_below_reversed M N n = let t = columns_total in cases (rep_cmp M N) n (t.antisymm N.columns M.columns)
  where
    cases : (r : Ordering) → r ≢ Less → rep_cmp N M ≡ ordering_reverse r → rep_cmp N M ≢ Greater
    cases Less n e = absurd (n refl)
    cases Equal n e = λ g. let h : Greater ≡ Equal = sym g ∙ e in cc
    cases Greater n e = λ g. let h : Greater ≡ Less = sym g ∙ e in cc

pub below_not_above : (M N : Rep) → rep_cmp M N ≡ Less → rep_cmp M N ≢ Greater
below_not_above M N e g = let h : Less ≡ Greater = sym e ∙ g in cc

pub not_above_trans : (M N L : Rep) → rep_cmp M N ≢ Greater → rep_cmp N L ≢ Greater → rep_cmp M L ≢ Greater
not_above_trans M N L = at_most_chain (slice_cmp (slice_cmp nat_cmp)) columns_total M.columns N.columns L.columns
