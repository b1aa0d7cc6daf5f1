use Rattle.std.proofs.Common.{◌≡◌, ◌+◌, ◌*◌, ◌<◌, ℕ, List, length, slice_index, arith, sym, ◌∙◌, ap, subst, refl}
use Rattle.std.proofs.lemmas.Bool.{false≢true}
use Rattle.matroid_theory.specs.Field.{IsFactors}
use Rattle.matroid_theory.specs.Rep.{size, count}
use Rattle.matroid_theory.specs.Matroid.{IsIndependentIn}
use Rattle.matroid_theory.specs.Level.{followed_by, IsNormalised}
use Rattle.matroid_laws.proofs.Agreement.{one_more}
use Rattle.matrix_lemmas.proofs.Pairs.{pair}
use Rattle.extension.specs.Steps.{IsLead}
use Rattle.extension.proofs.Nexts.{lead_of}
use Rattle.extension.proofs.admissible.is_apart.Goals as goal
use Rattle.extension.proofs.admissible.is_apart.Goals.{After-lead-lead}

-- the lead, by the names of the arguments
at_lead : (fs : List ℕ) → IsFactors fs → (rank : ℕ) (v : List ℕ) (lead c r : ℕ) (w : List ℕ) → c ≡ length fs → r ≡ rank → w ≡ v →
    IsNormalised fs rank v → IsLead c r w lead →
    (lead < rank) × ((f : ℕ) → f < length fs → slice_index v (lead * length fs + f) ≡ 1)
at_lead fs i rank v lead c r w e d k n h =
    lead_of fs i rank v lead n
    (subst (λ (v : List ℕ). IsLead (length fs) rank v lead) k
    (subst (λ (r : ℕ). IsLead (length fs) r w lead) d (subst (λ (c : ℕ). IsLead c r w lead) e h)))

read : (c : After-lead-lead) → (c.lead-lead.result < c.args.rep.now.rank)
    × ((f : ℕ) → f < count c.args.rep.now → slice_index c.args.column.now.items (c.lead-lead.result * count c.args.rep.now + f) ≡ 1)
read c = at_lead c.args.rep.now.factors (let r = c.requires.is_rep in r.fields) c.args.rep.now.rank c.args.column.now.items
    c.lead-lead.result c.count.result c.rank.result c.as_slice.result.now
    (c.count.ensures.count ∙ ap (λ (fs : List ℕ). length fs) c.factors-factors.ensures) c.rank.ensures c.as_slice.ensures.value
    c.requires.normalised c.lead-lead.ensures

pub is_apart_in-requires-clause-lead : goal.is_apart_in-requires-clause-lead
is_apart_in-requires-clause-lead c = (let l = read ((goal.at.is_apart_in-requires-clause-lead c).After-lead-lead) in l.0)

pub is_apart_in-requires-clause-one : goal.is_apart_in-requires-clause-one
is_apart_in-requires-clause-one c =
    (let l = read ((goal.at.is_apart_in-requires-clause-one c).After-lead-lead) in
    l.1 c.loop-factor.factor
    (subst (λ (n : ℕ). c.loop-factor.factor < n)
    (c.count-factor-end.ensures.count ∙ ap (λ (fs : List ℕ). length fs) c.factors-factors.ensures) c.loop-factor-test.true))

pub returns-then-not-is_apart_in : goal.returns-then-not-is_apart_in
returns-then-not-is_apart_in c = (
  λ t. absurd (false≢true t),
  λ h. absurd (false≢true (sym c.if-not-is_apart_in.true
      ∙ c.is_apart_in.ensures.1
      (λ j m. h c.loop-factor.factor j
      (subst (λ (n : ℕ). c.loop-factor.factor < n)
      (c.count-factor-end.ensures.count ∙ ap (λ (fs : List ℕ). length fs) c.factors-factors.ensures) c.loop-factor-test.true) m))),
)

pub loop-factor-preserved : goal.loop-factor-preserved
loop-factor-preserved c = one_more c.loop-factor.factor
    (λ f. (j : ℕ) → j < size c.args.rep.now →
    IsIndependentIn (followed_by c.args.rep.now c.args.column.now.items) f (pair (size c.args.rep.now) j)) c.loop-factor.invariant
    (c.is_apart_in.ensures.0 c.if-not-is_apart_in.false)

pub returns : goal.returns
returns c = (
  (λ _ f j l m. c.loop-factor.invariant f
      (let n : c.count-factor-end.result ≡ count c.args.rep.now =
      (c.count-factor-end.ensures.count ∙ ap (λ (fs : List ℕ). length fs) c.factors-factors.ensures) in omega arith) j m),
  λ _. refl,
)
