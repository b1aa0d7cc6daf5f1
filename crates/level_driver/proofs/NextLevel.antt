-- The forms of all tries are the next level.
use Rattle.std.proofs.Common.{◌≡◌, ◌↔◌, ℕ, suc, ◌+◌, ◌<◌, ◌≤◌, List, [], map, length, take, Some, slice_get, refl, sym, ◌∙◌, ap, subst, arith, get_or}
use Rattle.std.specs.List.{slice_index_or, Contains, All, AllPairs, AllZip}
use Rattle.std.specs.List.Sorted.{IsStrictlySortedBy}
use Rattle.std.specs.Cmp.Lexicographic.{slice_cmp}
use Rattle.std.specs.Ordering.{nat_cmp}
use Rattle.std.specs.declared.cmp.Ordering.TheVariants.{Less}
use Rattle.std.proofs.lemmas.List.{take_more, take_all}
use Rattle.std.proofs.lemmas.List.Elements.{Contains-get_or}
use Rattle.std.proofs.lemmas.Map.Keys.{Less-from_sorted}
use Rattle.std.proofs.lemmas.Option.{get_or_from_slice_get, slice_get_within}
use Rattle.matroid_theory.specs.declared.Mode.{Mode}
use Rattle.matroid_theory.specs.Field.{IsFactors}
use Rattle.matroid_theory.specs.Rep.{Rep, size}
use Rattle.matroid_theory.specs.Move.{AreEquivalent}
use Rattle.matroid_theory.specs.Order.{IsForm, rep_cmp}
use Rattle.matroid_theory.specs.Minor.{Matroid}
use Rattle.matroid_theory.specs.Level.{Family, IsMember, IsLevelForm, IsLevel, IsNormalised, IsTry, IsCount, followed_by}
use Rattle.matroid_laws.proofs.Followed.{size_followed, shaped_pushed}
use Rattle.matroid_laws.proofs.Carried.{agrees_carried, simple_carried}
use Rattle.matroid_laws.proofs.Equivalence.{equivalent-symmetric}
use Rattle.matroid_laws.proofs.Forms.{one_form}
use Rattle.matroid_laws.proofs.Parents.{last_try}
use Rattle.formats.specs.Request.{Request, IsWithinLimits}
use Rattle.formats.specs.Minors.{given_as}
use Rattle.formats.specs.Levels.{AreGivenBy, Grows}
use Rattle.form_key.specs.Packing.{IsPackedAs, packing}
use Rattle.form_key.specs.Keys.{AreLevelKeys, IsStandardOf}
use Rattle.form_key.proofs.LevelKeys.{level_of_keys}
use Rattle.level_driver.specs.Children.{IsParent, IsChildKey, IsCandidate}
use Rattle.level_driver.specs.Keys.{HavePacking}
use Rattle.level_driver.specs.Grown.{IsLevelOf, AreTriesOf, IsParentLevel}
use Rattle.level_driver.proofs.Counts.{count_same, Contains-map}
use Rattle.level_driver.proofs.KeyLemmas.{packed_is, packed_each}
use Rattle.level_driver.proofs.UnitLevel.{forbidden_are}
use Rattle.level_driver.proofs.MinorsCarried.{avoids_over}
use Rattle.level_driver.proofs.Tries.{IsExtension, HasGrown}

-- the level of size n of a family that a request grows
module _ (q : Request) (family : Family) (grows : Grows q family) (n : ℕ) where
  -- a form of the level can be extended
  pub level_parent : (P : Rep) → n < 16 → IsLevelForm family n P → IsParent P
  level_parent P l h =
      let f = h.form in
      let m = h.member in
      let w = m.representation in
      record { standard = f.standard; simple = m.simple; agrees = w.agrees; room = let s : size P ≡ n = m.sizes in omega arith }

  extension_member : (P : Rep) (v : List ℕ) → IsLevelForm family n P → IsCandidate family.forbidden P v → IsMember family (n + 1) (followed_by P v)
  extension_member P v h candidate =
      let m = h.member in
      let a = candidate.admissible in
      record {
        same_factors = m.same_factors;
        ranks = m.ranks;
        sizes = (let s : size P ≡ n = m.sizes in let k : size (followed_by P v) ≡ suc (size P) = size_followed P v in omega arith);
        representation = (let w = m.representation in let b = a.normalised in
            record { some = w.some; shaped = shaped_pushed P v w.shaped b.is_column; agrees = a.agrees });
        simple = a.simple;
        avoids = candidate.avoids;
      }

  module _ (parents : List Rep) (level : IsLevel family n parents) where
    -- the tries are the extensions of the parents
    pub tries_are : (try : Rep × List ℕ) → IsExtension family.forbidden parents try ↔ IsTry family (n + 1) try
    tries_are try = (there, back)
      where
        there : IsExtension family.forbidden parents try → IsTry family (n + 1) try
        there e =
            let x = level.exact try.0 in
            let parent = x.0 e.0 in
            let m = parent.member in
            let candidate = e.1 in
            let a = candidate.admissible in
            record {
              parent = subst (λ (k : ℕ). IsLevelForm family k try.0) (sym m.sizes) parent;
              column = subst (λ fs. IsNormalised fs family.rank try.1) m.same_factors (subst (λ r. IsNormalised (try.0).factors r try.1) m.ranks a.normalised);
              member = extension_member try.0 try.1 parent candidate;
            }

        back : IsTry family (n + 1) try → IsExtension family.forbidden parents try
        back t =
            let x = level.exact try.0 in
            let w = t.member in
            let whole : size (followed_by try.0 try.1) ≡ n + 1 = w.sizes in
            let one_more : size (followed_by try.0 try.1) ≡ suc (size try.0) = size_followed try.0 try.1 in
            let before : size try.0 ≡ n = omega arith in
            let p = subst (λ (k : ℕ). IsLevelForm family k try.0) before t.parent in
            let m = p.member in
            let r = w.representation in (
              x.1 p,
              record {
                admissible = record {
                  normalised = subst (λ fs. IsNormalised fs (try.0).rank try.1) (sym m.same_factors)
                      (subst (λ r. IsNormalised family.factors r try.1) (sym m.ranks) t.column);
                  simple = w.simple;
                  agrees = r.agrees;
                };
                avoids = w.avoids;
              },
            )

    module _ (tried : ℕ) (found : List (List ℕ)) (h : HasGrown family.mode family.forbidden parents tried found) (some : 0 < length q.factors) where
      pub next_tries : IsCount (IsTry family (n + 1)) tried
      next_tries = count_same (IsExtension family.forbidden parents) (IsTry family (n + 1)) tried tries_are h.count

      -- the form of an extension is one of the next level
      child_form : (P : Rep) (v : List ℕ) (N : Rep) → IsLevelForm family n P → IsCandidate family.forbidden P v → IsForm family.mode N →
          AreEquivalent family.mode (followed_by P v) N → IsLevelForm family (n + 1) N
      child_form P v N f candidate form e =
          let w = extension_member P v f candidate in
          let a = candidate.admissible in
          let m = f.member in
          let t = e.takes in
          record {
            form = form;
            member = record {
              same_factors = ap (λ s. s.factors) t.same_shape ∙ w.same_factors;
              ranks = ap (λ s. s.rank) t.same_shape ∙ w.ranks;
              sizes = ap (λ s. s.size) t.same_shape ∙ w.sizes;
              representation = (let r = w.representation in record {
                some = subst (λ s. 0 < length s.factors) (sym t.same_shape) r.some;
                shaped = t.shaped;
                agrees = (agrees_carried family.mode (followed_by P v) N e).0 a.agrees;
              });
              simple = (simple_carried family.mode (followed_by P v) N e).0 a.simple;
              avoids = avoids_over family.mode (followed_by P v) N e
                  (subst (λ (fs : List ℕ). 0 < length fs) (sym (m.same_factors ∙ grows.factors_are)) some) family.forbidden candidate.avoids;
            };
          }

      pub found_form : (key : List ℕ) → Contains found key → (N : Rep) × IsLevelForm family (n + 1) N × (packing N ≡ key)
      found_form key c =
          let s = h.sound key c in
          let x = level.exact s.0.0 in
          let (N, form, e, same) = s.2 in
          (N, child_form s.0.0 s.0.1 N (x.0 s.1.0) s.1.1 form e, same)

      -- each form of the next level was found
      found_each : q.rank ≤ n → (M : Rep) → IsLevelForm family (n + 1) M → Contains found (packing M)
      found_each room M f = subst (Contains found) is made.1
        where
          split : M ≡ followed_by (record M { columns = take n M.columns }) (get_or M.columns n [])
          split =
              let m = f.member in
              let s : length M.columns ≡ n + 1 = m.sizes in
              λ i. record M { columns = (sym (take_all (n + 1) M.columns (omega arith)) ∙ take_more M.columns n [] (omega arith)) i }

          try : IsExtension family.forbidden parents (record M { columns = take n M.columns }, get_or M.columns n [])
          try = (tries_are (record M { columns = take n M.columns }, get_or M.columns n [])).1
              (last_try family (n + 1) (record M { columns = take n M.columns }) (get_or M.columns n [])
              (let r : family.rank ≡ q.rank = grows.rank_is in let d : q.rank ≤ n = room in omega arith)
              (subst (IsLevelForm family (n + 1)) split f))

          made : (key : List ℕ) × Contains found key × IsChildKey family.mode (record M { columns = take n M.columns }) (get_or M.columns n []) key
          made = h.complete (record M { columns = take n M.columns }, get_or M.columns n []) try

          is : made.0 ≡ packing M
          is =
              let (N, form, e, same) = made.2 in
              let back : AreEquivalent family.mode N M = equivalent-symmetric family.mode M N
              (subst (λ (M' : Rep). AreEquivalent family.mode M' N) (sym split) e) in
              sym same ∙ ap packing (one_form family.mode N M form f.form back)

      -- so what was found are the keys of the next level
      pub keys_grown : q.rank ≤ n → IsStrictlySortedBy (slice_cmp nat_cmp) found → AreLevelKeys family (n + 1) found
      keys_grown room sorted = record {
        rising = λ i j d l m. Less-from_sorted (slice_cmp nat_cmp) found i j d sorted l m;
        exact = λ key. (found_form key, λ (M, f, same). subst (Contains found) same (found_each room M f));
      }

      -- where anything was found, there is a parent
      pub size_grown : (next : ℕ) → ((P : Rep) → Contains parents P → next ≡ size P + 1) → (key : List ℕ) → Contains found key → next ≡ n + 1
      size_grown next is_next key c =
          let s = h.sound key c in
          let x = level.exact s.0.0 in
          let f = x.0 s.1.0 in
          let m = f.member in
          let k : size s.0.0 ≡ n = m.sizes in
          is_next s.0.0 s.1.0 ∙ ap (λ k. k + 1) k

-- the level of size n, from the keys of its forms. The size is given, but where there is no key
module _ (q : Request) (family : Family) (grows : Grows q family) (n next : ℕ) (keys : List (List ℕ))
    (next_is : (key : List ℕ) → Contains keys key → next ≡ n) where
  pub have_packing : ((key : List ℕ) → Contains keys key → (M : Rep) × IsLevelForm family n M × (packing M ≡ key)) →
      HavePacking (record { factors = q.factors; rank = q.rank; size = next }) keys
  have_packing each key c =
      let (M, form, e) = each key c in
      let m = form.member in
      let f = form.form in
      let r = m.representation in (
        M,
        record {
          shapes = λ i. record {
            factors = (m.same_factors ∙ grows.factors_are) i;
            rank = (m.ranks ∙ grows.rank_is) i;
            size = (m.sizes ∙ sym (next_is key c)) i;
          };
          shaped = r.shaped;
          standard = f.standard;
          packs = e;
        },
      )

  pub forms_level : AreLevelKeys family n keys → (forms : List Rep) → AllZip (λ M key. IsPackedAs (record { factors = q.factors; rank = q.rank; size = next }) key M) forms keys
      → IsLevel family n forms
  forms_level are forms z = level_of_keys family n forms standard (subst (AreLevelKeys family n) (sym packed) are)
    where
      packed : map packing forms ≡ keys
      packed = packed_is (record { factors = q.factors; rank = q.rank; size = next }) forms keys z

      standard : All (IsStandardOf family n) forms
      standard k d l =
          let M : Rep = slice_index_or forms k d in
          let c : Contains forms M = Contains-get_or forms k d l in
          let p = packed_each (record { factors = q.factors; rank = q.rank; size = next }) forms keys z M c in
          let there : Contains keys (packing M) = subst (λ (l : List (List ℕ)). Contains l (packing M)) packed (Contains-map packing forms M c) in
          record {
            shapes = p.shapes ∙ λ i. record { factors = sym grows.factors_are i; rank = sym grows.rank_is i; size = next_is (packing M) there i };
            shaped = p.shaped;
            standard = p.standard;
          }

-- what a request grows that forbids these matroids
abbrev pub grown_by : Request → List Matroid → Family
grown_by q Ns = record { factors = q.factors; rank = q.rank; mode = q.mode; forbidden = Ns }

pub grows_it : (q : Request) (Ns : List Matroid) → AreGivenBy (map given_as q.forbid) Ns → Grows q (grown_by q Ns)
grows_it q Ns given = record { factors_are = refl; rank_is = refl; mode_is = refl; forbids = given }

pub inside : {X : Type 0} (xs : List X) (k : ℕ) (x : X) → slice_get xs k ≡ Some x → Contains xs x
inside xs k x at = (k, slice_get_within xs k x at, get_or_from_slice_get xs k x x at)

-- the parents of a level have its size
pub parent_size : (q : Request) (Ns : List Matroid) → AreGivenBy (map given_as q.forbid) Ns → (n : ℕ) (parents : List Rep) → IsParentLevel q n parents
    → (P : Rep) → Contains parents P → size P ≡ n
parent_size q Ns given n parents h P c =
    let l = h.level (grown_by q Ns) (grows_it q Ns given) in
    let x = l.exact P in
    let f = x.0 c in
    let m = f.member in m.sizes

-- a level of a request that isn't its last
module _ (q : Request) (Ns : List Matroid) (given : AreGivenBy (map given_as q.forbid) Ns) (fields : IsFactors q.factors)
    (limits : IsWithinLimits q) (n : ℕ) (parents : List Rep) (h : IsParentLevel q n parents) where
  its_level : IsLevel (grown_by q Ns) n parents
  its_level = h.level (grown_by q Ns) (grows_it q Ns given)

  pub parents_rise : AllPairs (λ M N. rep_cmp M N ≡ Less) parents
  parents_rise = let l = its_level in l.rising

  pub each_parent : (P : Rep) → Contains parents P → IsParent P
  each_parent P c =
      let l = its_level in
      let x = l.exact P in
      let most = limits.size in
      level_parent q (grown_by q Ns) (grows_it q Ns given) n P (let b : n < q.size = h.before in let s : q.size ≤ 16 = most.1 in omega arith) (x.0 c)

  module _ (tried : ℕ) (found : List (List ℕ)) (grown : HasGrown q.mode Ns parents tried found) where
    of_family : (family : Family) → Grows q family → HasGrown family.mode family.forbidden parents tried found
    of_family family grows =
        subst (λ (mode : Mode). HasGrown mode family.forbidden parents tried found) (sym grows.mode_is)
        (subst (λ (Ns : List Matroid). HasGrown q.mode Ns parents tried found) (forbidden_are q Ns family given grows) grown)

    module _ (next : ℕ) (is_next : (P : Rep) → Contains parents P → next ≡ size P + 1) where
      its_size : (family : Family) → Grows q family → (key : List ℕ) → Contains found key → next ≡ n + 1
      its_size family grows =
          size_grown q family grows n parents (h.level family grows) tried found (of_family family grows) fields.some next is_next

      pub packings_grown : HavePacking (record { factors = q.factors; rank = q.rank; size = next }) found
      packings_grown =
          let family : Family = grown_by q Ns in
          let grows = grows_it q Ns given in
          have_packing q family grows (n + 1) next found (its_size family grows)
          (found_form q family grows n parents (h.level family grows) tried found (of_family family grows) fields.some)

      pub level_grown : IsStrictlySortedBy (slice_cmp nat_cmp) found → (forms : List Rep) →
          AllZip (λ M key. IsPackedAs (record { factors = q.factors; rank = q.rank; size = next }) key M) forms found → IsLevelOf q (n + 1) forms
      level_grown sorted forms z family grows = forms_level q family grows (n + 1) next found (its_size family grows)
          (keys_grown q family grows n parents (h.level family grows) tried found (of_family family grows) fields.some h.at_least sorted) forms z

    pub tries_grown : AreTriesOf q (n + 1) tried
    tries_grown family grows = record {
      first = λ e. let r : family.rank ≡ q.rank = grows.rank_is in let l : q.rank ≤ n = h.at_least in absurd (omega arith);
      later = λ l. next_tries q family grows n parents (h.level family grows) tried found (of_family family grows) fields.some;
    }
