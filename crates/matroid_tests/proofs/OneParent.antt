-- A form of a level after which the request has another.
use Rattle.std.proofs.Common.{◌≡◌, ℕ, ◌<◌, List, map, Some, sym, subst, arith}
use Rattle.std.specs.Prelude.{slice_get}
use Rattle.std.specs.List.{Contains}
use Rattle.std.proofs.lemmas.Option.{slice_get_within, get_or_from_slice_get}
use Rattle.matroid_theory.specs.Field.{IsFactors}
use Rattle.matroid_theory.specs.Rep.{Rep, size}
use Rattle.matroid_theory.specs.Minor.{Matroid}
use Rattle.matroid_theory.specs.Level.{IsLevelForm}
use Rattle.formats.specs.Request.{Request, IsWithinLimits}
use Rattle.formats.specs.Minors.{given_as}
use Rattle.formats.specs.Levels.{AreGivenBy}
use Rattle.level_driver.specs.Children.{IsParent}
use Rattle.level_driver.specs.Grown.{IsParentLevel}
use Rattle.level_driver.proofs.NextLevel.{each_parent, grown_by, grows_it}
use Rattle.orderly.specs.Kept.{IsLevelFormOf}

module _ (q : Request) (Ns : List Matroid) (given : AreGivenBy (map given_as q.forbid) Ns) (n : ℕ) (parents : List Rep)
    (h : IsParentLevel q n parents) (i : ℕ) (P : Rep) (at : Some P ≡ slice_get parents i) where
  there : Contains parents P
  there = (i, slice_get_within parents i P (sym at), get_or_from_slice_get parents i P P (sym at))

  -- it can be extended
  pub is_parent : IsFactors q.factors → IsWithinLimits q → IsParent P
  is_parent factors limits = each_parent q Ns given factors limits n parents h P there

  its_size : size P ≡ n
  its_size =
      let l = h.level (grown_by q Ns) (grows_it q Ns given) in
      let x = l.exact P in
      let f = x.0 there in
      let m = f.member in
      m.sizes

  pub is_before : size P < q.size
  is_before = let s : size P ≡ n = its_size in let b : n < q.size = h.before in omega arith

  pub is_form_of : IsLevelFormOf q (size P) P
  is_form_of family grows =
      let l = h.level family grows in
      let x = l.exact P in
      subst (λ (k : ℕ). IsLevelForm family k P) (sym its_size) (x.0 there)
