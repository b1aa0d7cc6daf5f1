-- The keys of a level.
use Rattle.std.proofs.Common.{◌≡◌, ℕ, ◌<◌, refl, sym, ◌∙◌, ap, subst, arith, List, [], length, map}
use Rattle.std.specs.List.{All, slice_index_or}
use Rattle.std.proofs.lemmas.List.{length-map, get_or-map, get_or_default}
use Rattle.std.specs.Cmp.Lexicographic.{slice_cmp}
use Rattle.std.specs.Ordering.{nat_cmp}
use Rattle.matroid_theory.specs.Rep.{Rep}
use Rattle.matroid_theory.specs.Order.{rep_cmp}
use Rattle.matroid_theory.specs.Level.{Family, IsLevelForm, IsLevel}
use Rattle.form_key.specs.Packing.{packing}
use Rattle.form_key.specs.Keys.{IsStandardOf, AreLevelKeys}
use Rattle.form_key.proofs.Order.{packing_order, packing_value}

-- a place in a list that is short
abbrev nothing : Rep
nothing = record { factors = []; rank = 0; columns = [] }

form_is_standard : (q : Family) (n : ℕ) (M : Rep) → IsLevelForm q n M → IsStandardOf q n M
form_is_standard q n M f = record {
  shapes = λ i. record { factors = f.member.same_factors i; rank = f.member.ranks i; size = f.member.sizes i };
  shaped = f.form.representation.shaped;
  standard = f.form.standard;
}

order_of : (q : Family) (n : ℕ) (M N : Rep) → IsStandardOf q n M → IsStandardOf q n N → slice_cmp nat_cmp (packing M) (packing N) ≡ rep_cmp M N
order_of q n M N a b = packing_order M N (a.shapes ∙ sym b.shapes) a.shaped b.shaped a.standard b.standard

value_of : (q : Family) (n : ℕ) (M N : Rep) → IsStandardOf q n M → IsStandardOf q n N → packing M ≡ packing N → M ≡ N
value_of q n M N a b e = packing_value M N (a.shapes ∙ sym b.shapes) a.shaped b.shaped a.standard b.standard e

-- the key at a place, and a place in the keys
key_at : (forms : List Rep) (k : ℕ) (M : Rep) (key : List ℕ) → k < length forms → slice_index_or (map packing forms) k key ≡ packing (slice_index_or forms k M)
key_at forms k M key l = get_or-map packing forms k M key l

place_in : (forms : List Rep) (k : ℕ) → k < length (map packing forms) → k < length forms
place_in forms k l = subst (λ n. k < n) (length-map forms packing) l

place_of : (forms : List Rep) (k : ℕ) → k < length forms → k < length (map packing forms)
place_of forms k l = subst (λ n. k < n) (sym (length-map forms packing)) l

pub keys_of_level : (q : Family) (n : ℕ) (forms : List Rep) → IsLevel q n forms → AreLevelKeys q n (map packing forms)
keys_of_level q n forms level = record {
  rising = λ i j d l m.
      let b : j < length forms = place_in forms j m in
      let a : i < length forms = omega arith in
      (λ t. slice_cmp nat_cmp (key_at forms i nothing d a t) (key_at forms j nothing d b t))
      ∙ order_of q n (slice_index_or forms i nothing) (slice_index_or forms j nothing) (standard i a) (standard j b)
      ∙ level.rising i j nothing l b;
  exact = λ key. (
    (λ (k, l, e). let b : k < length forms = place_in forms k l in (slice_index_or forms k nothing, form k b, sym (key_at forms k nothing key b) ∙ e)),
    (λ (M, f, e). let (k, l, same) = (level.exact M).1 f in (k, place_of forms k l, key_at forms k M key l ∙ ap packing same ∙ e)),
  );
}
  where
    form : (k : ℕ) → k < length forms → IsLevelForm q n (slice_index_or forms k nothing)
    form k l = (level.exact (slice_index_or forms k nothing)).0 (k, l, get_or_default forms k (slice_index_or forms k nothing) nothing l)

    standard : (k : ℕ) → k < length forms → IsStandardOf q n (slice_index_or forms k nothing)
    standard k l = form_is_standard q n (slice_index_or forms k nothing) (form k l)

pub level_of_keys : (q : Family) (n : ℕ) (forms : List Rep) → All (IsStandardOf q n) forms → AreLevelKeys q n (map packing forms) → IsLevel q n forms
level_of_keys q n forms standard keys = record {
  rising = λ i j d l m.
      let a : i < length forms = omega arith in
      sym (order_of q n (slice_index_or forms i d) (slice_index_or forms j d) (standard i d a) (standard j d m))
      ∙ (λ t. slice_cmp nat_cmp (sym (key_at forms i d [] a) t) (sym (key_at forms j d [] m) t))
      ∙ keys.rising i j [] l (place_of forms j m);
  exact = λ M. (
    (λ (k, l, e).
        let (N, f, same) = (keys.exact (packing M)).0 (k, place_of forms k l, key_at forms k M (packing M) l ∙ ap packing e) in
        subst (IsLevelForm q n) (value_of q n N M (form_is_standard q n N f) (subst (IsStandardOf q n) e (standard k M l)) same) f),
    (λ f.
        let (k, l, e) = (keys.exact (packing M)).1 (M, f, refl) in
        let b : k < length forms = place_in forms k l in
        (k, b, value_of q n (slice_index_or forms k M) M (standard k M b) (form_is_standard q n M f) (sym (key_at forms k M (packing M) b) ∙ e))),
  );
}
