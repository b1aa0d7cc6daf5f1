use Rattle.std.proofs.Common.{ℕ, sym, ◌∙◌, subst}
use Rattle.std.proofs.lemmas.Bool.{false≢true}
use Rattle.matroid_theory.specs.Rep.{KeepsLimits}
use Rattle.extension.specs.Steps.{IsRefused}
use Rattle.extension.proofs.Followers.{apart_of_simple, admissible}
use Rattle.extension.proofs.PlaneLemmas.{whole_refused}
use Rattle.extension.proofs.admissible.refused_rows.Goals as goal

pub returns-then-is_apart : goal.returns-then-is_apart
returns-then-is_apart c =
    let r : KeepsLimits c.args.rep.now = c.laws.ensures in
    admissible c.args.rep.now c.args.column.now.items r c.requires.standard c.requires.simple c.requires.agrees
    c.requires.normalised (c.is_apart.ensures.0 c.if-is_apart.true) c.in_default.ensures

pub returns-else-is_apart : goal.returns-else-is_apart
returns-else-is_apart c =
    let r : KeepsLimits c.args.rep.now = c.laws.ensures in
    subst (λ (rows : ℕ). IsRefused c.args.rep.now c.args.column.now.items rows) (sym c.rank.ensures)
    (whole_refused c.args.rep.now c.args.column.now.items r c.requires.normalised
    (λ a. false≢true (sym c.if-is_apart.false ∙ c.is_apart.ensures.1 (apart_of_simple c.args.rep.now c.args.column.now.items r.shaped a.simple))))
