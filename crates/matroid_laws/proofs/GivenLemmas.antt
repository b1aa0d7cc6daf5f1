-- What is given is one matroid.
use Rattle.std.proofs.Common.{◌≡◌, ℕ, ◌<◌, ◌^◌, sym, ◌∙◌, ap, subst, arith}
use Rattle.std.specs.List.{Contains}
use Rattle.std.proofs.lemmas.List.Kept.{AllPairs-from_increasing}
use Rattle.matroid_theory.specs.Matrix.{size_below}
use Rattle.matroid_theory.specs.Matroid.{members}
use Rattle.matroid_theory.specs.Minor.{Matroid}
use Rattle.matroid_theory.specs.Given.{Given, IsGivenBy}
use Rattle.matrix_lemmas.proofs.Lists.{rising_unique}

pub given_unique : (given : Given) (N other : Matroid) → IsGivenBy given N → IsGivenBy given other → N ≡ other
given_unique given N other h g = λ i. record { rank = ranks i; size = sizes i; bases = bases i }
  where
    sizes : N.size ≡ other.size
    sizes = h.sizes ∙ sym g.sizes

    there : (X : ℕ) → Contains N.bases X → Contains other.bases X
    there X c = let e = h.exact X in let d = g.exact X in let b = e.0 c in d.1 (subst (λ (n : ℕ). X < 2 ^ n) sizes b.0, b.1)

    back : (X : ℕ) → Contains other.bases X → Contains N.bases X
    back X c = let e = h.exact X in let d = g.exact X in let b = d.0 c in e.1 (subst (λ (n : ℕ). X < 2 ^ n) (sym sizes) b.0, b.1)

    bases : N.bases ≡ other.bases
    bases =
        rising_unique (λ x y. x < y) (λ x l. absurd (omega arith)) (λ x y z l m. omega arith) N.bases other.bases
        (AllPairs-from_increasing N.bases h.rising) (AllPairs-from_increasing other.bases g.rising) there back

    ranks : N.rank ≡ other.rank
    ranks =
        let X = h.some in
        sym (h.ranks X.0 X.1) ∙ ap (λ n. size_below n (members X.0)) sizes ∙ g.ranks X.0 (there X.0 X.1)
