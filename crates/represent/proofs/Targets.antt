-- The matroids that may be sought.
use Rattle.std.proofs.Common.{◌≡◌, ℕ, ◌-◌, ◌^◌, ◌<◌, ◌≤◌, sym, subst, arith, lit<}
use Rattle.std.specs.Bool.{nat_lt}
use Rattle.std.specs.List.{Contains}
use Rattle.std.proofs.lemmas.Nat.{pow_pos}
use Rattle.std.proofs.Math.Nat.{pow-le-pow_right}
use Rattle.matroid_theory.specs.Rep.{Rep, count, size, IsShaped, IsStandard, KeepsLimits}
use Rattle.matroid_theory.specs.Field.{IsOrder}
use Rattle.matroid_theory.specs.Matrix.{size_below}
use Rattle.matrix_lemmas.proofs.Bases.{size_most}
use Rattle.named_matroids.specs.SmallMatroids.{IsSmallMatroid}
use Rattle.std.proofs.lemmas.List.Elements.{All-contains}
use Rattle.matroid_theory.specs.Matroid.{members, IsBasis}
use Rattle.matroid_theory.specs.Minor.{Matroid, AreBases, IsMatroidOf}
use Rattle.matrix_lemmas.proofs.Masks.{IsBasis-same}
use Rattle.matroid_laws.proofs.Rest.{units_basis}
use Rattle.dual_theory.specs.Represented.{IsBasedFirst}
use Rattle.dual_theory.proofs.Searches.{first_members}
use Rattle.represent.specs.Sought.{IsSought}

-- that of a standard one has the first elements as a base
pub based_first : (M : Rep) (N : Matroid) → IsShaped M → IsStandard M → 0 < count M → IsMatroidOf M N → IsBasedFirst N
based_first M N shaped standard some h = subst IsBasedFirst (sym same) (record {
  rising = b.rising;
  below = λ X c. ((b.exact X).0 c).0;
  of_rank = λ X c. ((b.exact X).0 c).1.full;
  first = (b.exact (2 ^ M.rank - 1)).1 (short, front);
})
  where
    b : AreBases M N.bases
    b = h.bases

    same : N ≡ record { rank = M.rank; size = size M; bases = N.bases }
    same = λ i. record { rank = h.ranks i; size = h.sizes i; bases = N.bases }

    short : 2 ^ M.rank - 1 < 2 ^ size M
    short =
        let g : M.rank ≤ size M = standard.room in
        let l : 2 ^ M.rank ≤ 2 ^ size M = pow-le-pow_right (lit< tt) g in
        let p : 0 < 2 ^ M.rank = pow_pos M.rank in
        omega arith

    front : IsBasis M 0 (members (2 ^ M.rank - 1))
    front = IsBasis-same M 0 (λ j. nat_lt j M.rank) (members (2 ^ M.rank - 1))
        (λ j l. sym (first_members (size M) M.rank standard.room j l)) (units_basis M shaped standard 0 some)

pub standard_sought : (q : ℕ) (M : Rep) (N : Matroid) → IsOrder q → KeepsLimits M → IsStandard M → IsMatroidOf M N → IsSought q N
standard_sought q M N field k standard h =
    let g : M.rank ≤ size M = standard.room in
    let r : N.rank ≡ M.rank = h.ranks in
    let n : N.size ≡ size M = h.sizes in
    record {
      field = field;
      rank_positive = omega (arith, k.rank_positive);
      rank_most = omega (arith, k.rank_most);
      size_most = omega (arith, k.size_most);
      room = omega arith;
      based = based_first M N k.shaped standard k.fields.some h;
    }

-- a matroid of few elements may be sought where its first elements are a base
pub small_sought : (q : ℕ) (N : Matroid) → IsOrder q → IsSmallMatroid N → 1 ≤ N.rank → N.rank ≤ 6 → Contains N.bases (2 ^ N.rank - 1) → IsSought q N
small_sought q N field m low high first = record {
  field = field;
  rank_positive = omega arith;
  rank_most = high;
  size_most = (let l : N.size ≤ 10 = m.size_most in omega arith);
  room = (let e : size_below N.size (members (2 ^ N.rank - 1)) ≡ N.rank = of_rank (2 ^ N.rank - 1) first in
      let l : size_below N.size (members (2 ^ N.rank - 1)) ≤ N.size = size_most N.size (members (2 ^ N.rank - 1)) in
      omega arith);
  based = record { rising = m.rising; below = λ X c. All-contains (λ X. X < 2 ^ N.size) N.bases X m.below c; of_rank = of_rank; first = first };
}
  where
    of_rank : (X : ℕ) → Contains N.bases X → size_below N.size (members X) ≡ N.rank
    of_rank X c = All-contains (λ X. size_below N.size (members X) ≡ N.rank) N.bases X m.of_rank c
