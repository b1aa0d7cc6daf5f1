use Rattle.std.proofs.Common.{◌≡◌, ℕ, List, sym, subst}
use Rattle.matroid_theory.specs.Rep.{Rep, size}
use Rattle.matroid_theory.specs.Minor.{Matroid, AreBases, IsMatroidOf}
use Rattle.dual_theory.specs.Represented.{Represents}
use Rattle.dual_theory.proofs.Representations.{one_matroid}
use Rattle.represent.proofs.Targets.{standard_sought}
use Rattle.represent.proofs.least.represent.Goals as goal

-- the matroid whose bases are sought is that of the representation
matroid_from : (M : Rep) (rank n : ℕ) (bases : List ℕ) → rank ≡ M.rank → n ≡ size M → AreBases M bases
    → IsMatroidOf M (record { rank = rank; size = n; bases = bases })
matroid_from M rank n bases r s b = record { ranks = r; sizes = s; bases = b }

pub least_over-requires : goal.least_over-requires
least_over-requires c =
    standard_sought c.order.result c.args.rep.now
    (record { rank = c.rank.result; size = c.size.result; bases = c.bases_of.result }) c.order.ensures.is_order c.laws.ensures c.requires.standard
    (matroid_from c.args.rep.now c.rank.result c.size.result c.bases_of.result c.rank.ensures c.size.ensures.value c.bases_of.ensures)

pub returns-clause-matroid : goal.returns-clause-matroid
returns-clause-matroid c = (
  record { rank = c.rank.result; size = c.size.result; bases = c.bases_of.result },
  matroid_from c.args.rep.now c.rank.result c.size.result c.bases_of.result c.rank.ensures c.size.ensures.value c.bases_of.ensures,
)

pub returns-clause-none : goal.returns-clause-none
returns-clause-none c e N h L p =
    let P : Matroid = record { rank = c.rank.result; size = c.size.result; bases = c.bases_of.result } in
    let k = matroid_from c.args.rep.now c.rank.result c.size.result c.bases_of.result c.rank.ensures c.size.ensures.value c.bases_of.ensures in
    c.least_over.ensures.none e L (subst (λ (q : ℕ). Represents q P L) (sym c.order.ensures.order)
    (subst (λ (N : Matroid). Represents c.args.field N L) (one_matroid c.args.rep.now N P h k) p))
