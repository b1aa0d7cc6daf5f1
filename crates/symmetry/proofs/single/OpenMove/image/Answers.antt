use Rattle.std.proofs.Common.{◌≡◌, ◌<◌, ℕ, List, length, subst, slice_index}
use Rattle.matroid_theory.specs.Field.{times}
use Rattle.matroid_theory.specs.Rep.{Rep, order, count, IsProductColumn}
use Rattle.matrix_lemmas.proofs.FieldLaws.{field_laws}
use Rattle.symmetry.specs.Images.{code_at, AreLeadScalars}
use Rattle.symmetry.proofs.Symmetric.{column_of_shape, image_equivalent, image_ones, image_by}
use Rattle.symmetry.proofs.single.OpenMove.image.Goals as goal

-- what the calls ensure, in the words of the representation
column_here : (P : Rep) (fs : List ℕ) (r : ℕ) (u : List ℕ) → fs ≡ P.factors → r ≡ P.rank → IsProductColumn fs r u → IsProductColumn P.factors P.rank u
column_here P fs r u fe re h = subst (λ (r : ℕ). IsProductColumn P.factors r u) re (subst (λ (fs : List ℕ). IsProductColumn fs r u) fe h)

leads_here : (P : Rep) (fs : List ℕ) (r : ℕ) (w scalars : List ℕ) → fs ≡ P.factors → r ≡ P.rank → AreLeadScalars fs r w scalars →
    AreLeadScalars P.factors P.rank w scalars
leads_here P fs r w scalars fe re h = subst (λ (r : ℕ). AreLeadScalars P.factors r w scalars) re (subst (λ (fs : List ℕ). AreLeadScalars fs r w scalars) fe h)

codes_here : (P : Rep) (fs : List ℕ) (r : ℕ) (w u ss scalars : List ℕ) → fs ≡ P.factors → r ≡ P.rank → ss ≡ scalars
    → ((f i : ℕ) → f < length fs → i < r → code_at fs u f i ≡ times (slice_index fs f) (slice_index ss f) (code_at fs w f i))
    → (f i : ℕ) → f < count P → i < P.rank → code_at P.factors u f i ≡ times (order P f) (slice_index scalars f) (code_at P.factors w f i)
codes_here P fs r w u ss scalars fe re se h =
    subst (λ (r : ℕ). (f i : ℕ) → f < count P → i < r → code_at P.factors u f i ≡ times (order P f) (slice_index scalars f) (code_at P.factors w f i)) re
    (subst (λ (fs : List ℕ). (f i : ℕ) → f < length fs → i < r → code_at fs u f i ≡ times (slice_index fs f) (slice_index scalars f) (code_at fs w f i)) fe
    (subst (λ (ss : List ℕ). (f i : ℕ) → f < length fs → i < r → code_at fs u f i ≡ times (slice_index fs f) (slice_index ss f) (code_at fs w f i)) se h))

pub returns-clause-equivalent : goal.returns-clause-equivalent
returns-clause-equivalent c =
    let P : Rep = c.args.rep.now in
    let fe = c.factors-factors.ensures in
    let re = c.rank-rank.ensures in
    image_equivalent P c.args.self.now c.requires.shape c.laws.ensures.shaped c.args.column.now.items c.mapped-image.result.items
    c.multiplied.result.items c.lead_scalars-scalars.result.items c.requires.column
    (column_here P c.factors-factors.result c.rank-rank.result c.multiplied.result.items fe re c.multiplied.ensures.column) c.mapped-image.ensures.codes
    (leads_here P c.factors-factors.result c.rank-rank.result c.mapped-image.result.items c.lead_scalars-scalars.result.items fe re
    c.lead_scalars-scalars.ensures)
    (codes_here P c.factors-factors.result c.rank-rank.result c.mapped-image.result.items c.multiplied.result.items
    c.as_slice.result.now c.lead_scalars-scalars.result.items fe re c.as_slice.ensures.value c.multiplied.ensures.codes)

pub returns-clause-scaled : goal.returns-clause-scaled
returns-clause-scaled c =
    let P : Rep = c.args.rep.now in
    let fe = c.factors-factors.ensures in
    let re = c.rank-rank.ensures in
    image_ones P c.args.self.now c.requires.shape c.laws.ensures.shaped c.args.column.now.items c.mapped-image.result.items
    c.multiplied.result.items c.lead_scalars-scalars.result.items c.requires.column
    (column_here P c.factors-factors.result c.rank-rank.result c.multiplied.result.items fe re c.multiplied.ensures.column) c.mapped-image.ensures.codes
    (leads_here P c.factors-factors.result c.rank-rank.result c.mapped-image.result.items c.lead_scalars-scalars.result.items fe re
    c.lead_scalars-scalars.ensures)
    (codes_here P c.factors-factors.result c.rank-rank.result c.mapped-image.result.items c.multiplied.result.items
    c.as_slice.result.now c.lead_scalars-scalars.result.items fe re c.as_slice.ensures.value c.multiplied.ensures.codes)
    (λ f l. field_laws (order P f) (c.laws.ensures.shaped.orders f l))
    (column_of_shape P c.args.self.now c.mapped-image.result.items c.requires.shape c.mapped-image.ensures.column)

pub returns-clause-by : goal.returns-clause-by
returns-clause-by c =
    let P : Rep = c.args.rep.now in
    let fe = c.factors-factors.ensures in
    let re = c.rank-rank.ensures in
    image_by P c.args.self.now c.requires.shape c.laws.ensures.shaped c.args.column.now.items c.mapped-image.result.items
    c.multiplied.result.items c.lead_scalars-scalars.result.items c.requires.column
    (column_here P c.factors-factors.result c.rank-rank.result c.multiplied.result.items fe re c.multiplied.ensures.column) c.mapped-image.ensures.codes
    (leads_here P c.factors-factors.result c.rank-rank.result c.mapped-image.result.items c.lead_scalars-scalars.result.items fe re
    c.lead_scalars-scalars.ensures)
    (codes_here P c.factors-factors.result c.rank-rank.result c.mapped-image.result.items c.multiplied.result.items
    c.as_slice.result.now c.lead_scalars-scalars.result.items fe re c.as_slice.ensures.value c.multiplied.ensures.codes)
    (λ f l. field_laws (order P f) (c.laws.ensures.shaped.orders f l))
    (column_of_shape P c.args.self.now c.mapped-image.result.items c.requires.shape c.mapped-image.ensures.column)
