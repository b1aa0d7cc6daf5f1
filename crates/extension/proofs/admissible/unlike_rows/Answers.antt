use Rattle.std.proofs.Common.{◌≡◌, ◌^◌, ◌≤◌, ℕ, List, Option, sym, ◌∙◌, ap, subst, arith}
use Rattle.std.specs.List.{All, Contains}
use Rattle.std.proofs.lemmas.Bool.{false≢true}
use Rattle.std.proofs.lemmas.List.Elements.{All-contains}
use Rattle.matroid_theory.specs.Rep.{size, count, KeepsLimits}
use Rattle.extension.specs.declared.planes.Plane.{Plane}
use Rattle.extension.specs.declared.planes.Planes.{Planes}
use Rattle.extension.specs.Planes.{ArePlanes, KnowsPlanes, IsPlane, IsAlikeAt}
use Rattle.extension.specs.Steps.{IsRefused}
use Rattle.extension.proofs.Followers.{alike_of_one, alike_of_agrees, followed_shaped}
use Rattle.extension.proofs.PlaneLemmas.{alike_covered, plane_refused, whole_refused}
use Rattle.extension.proofs.admissible.unlike_rows.Goals as goal
use Rattle.extension.proofs.admissible.unlike_rows.Goals.{In-Some, else-planes-set_count-via-then-planes-set_count+else-not-is_alike_one_by_one, else-planes-set_count-via-else-planes-set_count}

pub returns-in_default : goal.returns-in_default
returns-in_default c =
    let r : KeepsLimits c.args.rep.now = c.laws.ensures in
    let e : count c.args.rep.now ≡ 1 = subst (λ (planes : Option Planes). KnowsPlanes c.args.rep.now planes) c.in_default.is c.requires.planes in
    alike_of_one c.args.rep.now c.args.column.now.items (followed_shaped c.args.rep.now c.args.column.now.items r c.requires.normalised)
    (let k : count c.args.rep.now ≡ 1 = e in omega arith) e

known : (c : In-Some) → ArePlanes c.args.rep.now c.in-Some.planes.list.items c.in-Some.planes.from
known c = subst (λ (planes : Option Planes). KnowsPlanes c.args.rep.now planes) c.in-Some.is c.requires.planes

pub returns-in-Some-refusing_rows : goal.returns-in-Some-refusing_rows
returns-in-Some-refusing_rows c =
    let w = c.in-Some-refusing_rows.ensures in
    let a = known ((goal.at.returns-in-Some-refusing_rows c).In-Some) in
    subst (λ (rows : ℕ). IsRefused c.args.rep.now c.args.column.now.items rows) w.2
    (plane_refused c.args.rep.now c.laws.ensures c.requires.agrees c.args.column.now.items w.0
    (All-contains (IsPlane c.args.rep.now) c.in-Some.planes.list.items w.0 a.each
    (subst (λ (planes : List Plane). Contains planes w.0) c.as_slice.ensures.value w.1)) w.3)

pub returns-then-not-is_alike_one_by_one : goal.returns-then-not-is_alike_one_by_one
returns-then-not-is_alike_one_by_one c = subst (λ (rows : ℕ). IsRefused c.args.rep.now c.args.column.now.items rows) (sym c.rank.ensures)
    (whole_refused c.args.rep.now c.args.column.now.items c.laws.ensures c.requires.normalised
    (λ a. false≢true (sym c.if-not-is_alike_one_by_one.true ∙ c.is_alike_one_by_one.ensures.1
    (alike_of_agrees c.args.rep.now c.args.column.now.items (followed_shaped c.args.rep.now c.args.column.now.items c.laws.ensures c.requires.normalised)
    (let r : KeepsLimits c.args.rep.now = c.laws.ensures in let fs = r.fields in fs.some) a.agrees))))

pub returns : goal.returns
returns c = λ X f b full l. elim c.else-planes-set_count.branch [
  | else-planes-set_count-via-then-planes-set_count+else-not-is_alike_one_by_one w ↦
      w.is_alike_one_by_one.ensures.0 w.if-not-is_alike_one_by_one.false X f b full l
  | else-planes-set_count-via-else-planes-set_count w ↦
      alike_covered c.args.rep.now c.args.column.now.items c.laws.ensures c.requires.agrees (let n = c.requires.normalised in n.is_column)
      c.in-Some.planes.list.items c.in-Some.planes.from (known ((goal.at.returns c).In-Some))
      (subst (λ (planes : List Plane). All (IsAlikeAt c.args.rep.now c.args.column.now.items) planes) c.as_slice.ensures.value
      c.in_default-refusing_rows.ensures) X f
      (let n : c.set_count.result ≡ 2 ^ size c.args.rep.now = c.set_count.ensures.value ∙ ap (λ k. 2 ^ k) c.size.ensures.value in
      let o : c.set_count.result ≤ c.in-Some.planes.from = w.if-planes-set_count.false in omega arith) b full l
]
