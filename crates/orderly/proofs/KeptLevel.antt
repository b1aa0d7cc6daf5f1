-- What was kept of all parents is the next level.
use Rattle.std.proofs.Common.{◌≡◌, ◌↔◌, ℕ, suc, ◌+◌, ◌<◌, ◌≤◌, List, [], map, length, take, sym, ◌∙◌, subst, arith, get_or}
use Rattle.std.specs.List.{Contains}
use Rattle.matroid_theory.specs.declared.Mode.{Mode}
use Rattle.matroid_theory.specs.Rep.{Rep, size}
use Rattle.matroid_theory.specs.Order.{IsForm}
use Rattle.matroid_theory.specs.Minor.{Matroid}
use Rattle.matroid_theory.specs.Level.{Family, IsMember, IsLevelForm, IsLevel, IsTry, IsCount, followed_by}
use Rattle.matroid_laws.proofs.Followed.{size_followed, shaped_pushed}
use Rattle.matroid_laws.proofs.Parents.{last_try}
use Rattle.formats.specs.Request.{Request}
use Rattle.formats.specs.Minors.{given_as}
use Rattle.formats.specs.Levels.{AreGivenBy, Grows}
use Rattle.level_driver.specs.Children.{IsParent, IsCandidate}
use Rattle.level_driver.specs.Grown.{IsLevelOf, AreTriesOf, IsParentLevel}
use Rattle.level_driver.proofs.Counts.{count_same}
use Rattle.level_driver.proofs.NextLevel.{tries_are, grown_by, grows_it, level_parent}
use Rattle.level_driver.proofs.Tries.{IsExtension}
use Rattle.level_driver.proofs.UnitLevel.{forbidden_are}
use Rattle.orderly.specs.Kept.{IsLevelFormOf}
use Rattle.orderly.proofs.KeptParents.{IsKept, HasKeptAll}
use Rattle.orderly.proofs.Rising.{last_split}

-- a form of a level and a column by which it can be extended without a forbidden minor make a member of the next size
pub extended_member : (family : Family) (n : ℕ) (P : Rep) (v : List ℕ) → IsLevelForm family n P → IsCandidate family.forbidden P v →
    IsMember family (n + 1) (followed_by P v)
extended_member family n P v h candidate =
    let m = h.member in
    let a = candidate.admissible in
    record {
      same_factors = m.same_factors;
      ranks = m.ranks;
      sizes = (let s : size P ≡ n = m.sizes in let k : size (followed_by P v) ≡ suc (size P) = size_followed P v in omega arith);
      representation = (let w = m.representation in let b = a.normalised in
          record { some = w.some; shaped = shaped_pushed P v w.shaped b.is_column; agrees = a.agrees });
      simple = a.simple;
      avoids = candidate.avoids;
    }

-- ---- a level of what the request grows

module _ (q : Request) (family : Family) (grows : Grows q family) (n : ℕ) (parents : List Rep) (level : IsLevel family n parents)
    (tried : ℕ) (forms : List Rep) (h : HasKeptAll family.mode family.forbidden parents tried forms) where
  kept_form : (N : Rep) → IsKept family.mode family.forbidden parents N → IsLevelForm family (n + 1) N
  kept_form N k =
      let p = (level.exact k.try.0).0 k.extension.0 in
      record { form = k.form; member = subst (IsMember family (n + 1)) (sym k.is) (extended_member family n k.try.0 k.try.1 p k.extension.1) }

  -- each form of the next level is one of this level and a column after it
  form_kept : q.rank ≤ n → (N : Rep) → IsLevelForm family (n + 1) N → IsKept family.mode family.forbidden parents N
  form_kept room N f = record {
    try = (record N { columns = take n N.columns }, get_or N.columns n []);
    extension = (tries_are q family grows n parents level (record N { columns = take n N.columns }, get_or N.columns n [])).1
        (last_try family (n + 1) (record N { columns = take n N.columns }) (get_or N.columns n [])
        (let r : family.rank ≡ q.rank = grows.rank_is in omega arith) (subst (IsLevelForm family (n + 1)) split f));
    is = split;
    form = f.form;
  }
    where
      split : N ≡ followed_by (record N { columns = take n N.columns }) (get_or N.columns n [])
      split = let m = f.member in last_split N n m.sizes

  kept_level : q.rank ≤ n → IsLevel family (n + 1) forms
  kept_level room = record {
    rising = h.are.rising;
    exact = λ N. (λ c. kept_form N ((h.are.exact N).0 c), λ f. (h.are.exact N).1 (form_kept room N f));
  }

  kept_tries : IsCount (IsTry family (n + 1)) tried
  kept_tries = count_same (IsExtension family.forbidden parents) (IsTry family (n + 1)) tried (tries_are q family grows n parents level)
      h.count

-- a level of a request that isn't its last
module _ (q : Request) (Ns : List Matroid) (given : AreGivenBy (map given_as q.forbid) Ns) (n : ℕ) (parents : List Rep)
    (h : IsParentLevel q n parents) where
  pub of_one_size : (M N : Rep) → Contains parents M → Contains parents N → size M ≡ size N
  of_one_size M N c d =
      let l = h.level (grown_by q Ns) (grows_it q Ns given) in
      let a = (l.exact M).0 c in
      let b = (l.exact N).0 d in
      a.member.sizes ∙ sym b.member.sizes

  module _ (tried : ℕ) (forms : List Rep) (kept : HasKeptAll q.mode Ns parents tried forms) where
    of_family : (family : Family) → Grows q family → HasKeptAll family.mode family.forbidden parents tried forms
    of_family family grows =
        subst (λ (mode : Mode). HasKeptAll mode family.forbidden parents tried forms) (sym grows.mode_is)
        (subst (λ (Ns : List Matroid). HasKeptAll q.mode Ns parents tried forms) (forbidden_are q Ns family given grows) kept)

    pub level_kept : IsLevelOf q (n + 1) forms
    level_kept family grows = kept_level q family grows n parents (h.level family grows) tried forms (of_family family grows) h.at_least

    pub tries_kept : AreTriesOf q (n + 1) tried
    tries_kept family grows = record {
      first = λ e. let r : family.rank ≡ q.rank = grows.rank_is in let l : q.rank ≤ n = h.at_least in absurd (omega arith);
      later = λ l. kept_tries q family grows n parents (h.level family grows) tried forms (of_family family grows);
    }

-- ---- one candidate

module _ (q : Request) (Ns : List Matroid) (given : AreGivenBy (map given_as q.forbid) Ns) (n : ℕ) (P : Rep)
    (parent : IsLevelFormOf q n P) where
  its_form : IsLevelForm (grown_by q Ns) n P
  its_form = parent (grown_by q Ns) (grows_it q Ns given)

  pub its_parent : n < 16 → IsParent P
  its_parent l = level_parent q (grown_by q Ns) (grows_it q Ns given) n P l its_form

  -- a candidate that is its own form is one of the next level
  pub own_kept : (v : List ℕ) → IsCandidate Ns P v → IsForm q.mode (followed_by P v) → IsLevelFormOf q (n + 1) (followed_by P v)
  own_kept v candidate form family grows = record {
    form = subst (λ (mode : Mode). IsForm mode (followed_by P v)) (sym grows.mode_is) form;
    member = extended_member family n P v (parent family grows)
        (subst (λ (Ns : List Matroid). IsCandidate Ns P v) (forbidden_are q Ns family given grows) candidate);
  }

  -- and one of the next level is its own form, without the minors
  pub kept_own : (v : List ℕ) → IsLevelFormOf q (n + 1) (followed_by P v) → IsLevelForm (grown_by q Ns) (n + 1) (followed_by P v)
  kept_own v h = h (grown_by q Ns) (grows_it q Ns given)

  -- so the two say the same of a candidate
  pub kept_by : (v : List ℕ) (child : Rep) (mode : Mode) → child ≡ followed_by P v → mode ≡ q.mode → IsCandidate Ns P v →
      IsForm mode child ↔ IsLevelFormOf q (n + 1) (followed_by P v)
  kept_by v child mode is same candidate = (
    λ form. own_kept v candidate (subst (λ (mode : Mode). IsForm mode (followed_by P v)) same (subst (IsForm mode) is form)),
    λ h. subst (IsForm mode) (sym is) (subst (λ (mode : Mode). IsForm mode (followed_by P v)) (sym same) (let f = kept_own v h in f.form)),
  )
