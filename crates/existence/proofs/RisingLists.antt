-- The representations of a shape with a property that is decided can be listed in rising order.
use Rattle.std.proofs.Common.{◌≡◌, refl, sym, ◌∙◌, ap, subst, arith, List, [], ◌∷◌, inl, inr, ◌⊎◌}
use Rattle.std.specs.List.{AllPairs, slice_index_or}
use Rattle.std.specs.Ordering.{ordering_reverse}
use Rattle.std.specs.declared.cmp.Ordering.{Ordering}
use Rattle.std.specs.declared.cmp.Ordering.TheVariants.{Less, Equal, Greater}
use Rattle.std.proofs.lemmas.List.Kept.{AllPairs-cons}
use Rattle.matroid_theory.specs.Rep.{Rep, Shape, shape, IsShaped}
use Rattle.matroid_theory.specs.Order.{rep_cmp}
use Rattle.matroid_theory.specs.Level.{IsRisingList}
use Rattle.matroid_laws.proofs.Levels.{rep_cmp-transitive, rep_cmp-reversed, rep_cmp-equal}
use Rattle.existence.specs.Decided.{IsDecided}
use Rattle.existence.proofs.Deciding.{IsIn, to_contains, from_contains, at_place}
use Rattle.existence.proofs.AllReps.{all_reps, in_all_of}

-- the elements of a list with a property
pub record Kept {X : Type 0} (P : X → Type 0) (xs : List X) : Type 0 where
  pub kept : List X
  pub sound : (x : X) → IsIn x kept → P x
  pub complete : (x : X) → IsIn x xs → P x → IsIn x kept

-- there is such a list where the property is decided
pub keep : {X : Type 0} (P : X → Type 0) → ((x : X) → IsDecided (P x)) → (xs : List X) → Kept P xs
keep P d [] = record { kept = []; sound = λ x i. absurd i; complete = λ x i p. i }
keep P d (x ∷ xs) = (let r = keep P d xs in elim (d x) [
  | inl p ↦ record {
    kept = x ∷ r.kept;
    sound = λ y i. elim i [ inl e ↦ subst P e p | inr j ↦ r.sound y j ];
    complete = λ y i q. elim i [ inl e ↦ inl e | inr j ↦ inr (r.complete y j q) ];
  }
  | inr never ↦ record {
    kept = r.kept;
    sound = r.sound;
    complete = λ y i q. elim i
        [ inl e ↦ absurd (never (subst P (sym e) q)) | inr j ↦ r.complete y j q ];
  }
])

-- rising lists of representations
abbrev Rises : List Rep → Type 0
Rises [] = Unit {0}
Rises (M ∷ Ms) = ((N : Rep) → IsIn N Ms → rep_cmp M N ≡ Less) × Rises Ms

-- each is below all later ones
to_pairs : (Ms : List Rep) → Rises Ms → AllPairs (λ M N. rep_cmp M N ≡ Less) Ms
to_pairs [] r = λ i j d l m. absurd (omega arith)
to_pairs (M ∷ Ms) r = AllPairs-cons (λ M N. rep_cmp M N ≡ Less) M Ms (λ k d l. r.0 (slice_index_or Ms k d) (at_place Ms k d l)) (to_pairs Ms r.1)

-- a rising list with one representation more
record With (M : Rep) (Ms Ns : List Rep) : Type 0 where
  rises : Rises Ns
  from : (N : Rep) → IsIn N Ns → (M ≡ N) ⊎ IsIn N Ms
  new : IsIn M Ns
  old : (N : Rep) → IsIn N Ms → IsIn N Ns

-- all of the list have the shape of M
abbrev IsOneShape : Rep → List Rep → Type 0
IsOneShape M Ms = (N : Rep) → IsIn N Ms → shape M ≡ shape N

-- M is put in its place
with : (M : Rep) (Ms : List Rep) → Rises Ms → IsOneShape M Ms → (Ns : List Rep) × With M Ms Ns
with M [] r s = (M ∷ [], record { rises = ((λ N i. absurd i), tt); from = λ N i. i; new = inl refl; old = λ N i. absurd i })
with M (L ∷ Ms) r s = by (with M Ms r.1 (λ N i. s N (inr i))) (rep_cmp M L) refl
  where
    by : ((Ns : List Rep) × With M Ms Ns) → (o : Ordering) → rep_cmp M L ≡ o → (Ns : List Rep) × With M (L ∷ Ms) Ns
    by rest Less e = (
      M ∷ L ∷ Ms,
      record {
        rises = ((λ N i. elim i [ inl d ↦ subst (λ K. rep_cmp M K ≡ Less) d e | inr j ↦ rep_cmp-transitive M L N e (r.0 N j) ]), r);
        from = λ N i. i;
        new = inl refl;
        old = λ N i. inr i;
      },
    )
    by rest Equal e = (let same : M ≡ L = rep_cmp-equal M L (s L (inl refl)) e in (
      L ∷ Ms,
      record {
        rises = r;
        from = λ N i. inr i;
        new = inl (sym same);
        old = λ N i. i;
      },
    ))
    by rest Greater e =
        let below : rep_cmp L M ≡ Less = rep_cmp-reversed M L ∙ ap ordering_reverse e in (
          L ∷ rest.0,
          record {
            rises = ((λ N i. elim (rest.1.from N i) [ inl d ↦ subst (λ K. rep_cmp L K ≡ Less) d below | inr j ↦ r.0 N j ]), rest.1.rises);
            from = λ N i. elim i [ inl d ↦ inr (inl d) | inr j ↦ elim (rest.1.from N j) [ inl d ↦ inl d | inr n ↦ inr (inr n) ] ];
            new = inr rest.1.new;
            old = λ N i. elim i [ inl d ↦ inl d | inr j ↦ inr (rest.1.old N j) ];
          },
        )

-- a rising list of the same representations
record InOrder (Ms Ns : List Rep) : Type 0 where
  rises : Rises Ns
  from : (N : Rep) → IsIn N Ns → IsIn N Ms
  old : (N : Rep) → IsIn N Ms → IsIn N Ns

-- a list of one shape can be put in order
in_order : (Ms : List Rep) → ((M N : Rep) → IsIn M Ms → IsIn N Ms → shape M ≡ shape N) → (Ns : List Rep) × InOrder Ms Ns
in_order [] s = ([], record { rises = tt; from = λ N i. i; old = λ N i. i })
in_order (M ∷ Ms) s =
    let rest = in_order Ms (λ K L i j. s K L (inr i) (inr j)) in
    let all = with M rest.0 rest.1.rises (λ N i. s M N (inl refl) (inr (rest.1.from N i))) in (
      all.0,
      record {
        rises = all.1.rises;
        from = λ N i. elim (all.1.from N i) [ inl d ↦ inl d | inr j ↦ inr (rest.1.from N j) ];
        old = λ N i. elim i [ inl d ↦ subst (λ K. IsIn K all.0) d all.1.new | inr j ↦ all.1.old N (rest.1.old N j) ];
      },
    )

-- so what is decided and has one shape has a rising list
pub rising_list : (S : Shape) (P : Rep → Type 0) → ((M : Rep) → P M → IsShaped M × (shape M ≡ S)) → ((M : Rep) → IsDecided (P M))
    → (forms : List Rep) × IsRisingList P forms
rising_list S P of d =
    let r = keep P d (all_reps S.factors S.rank S.size) in
    let sorted = in_order r.kept (λ M N i j. (let a = of M (r.sound M i) in let b = of N (r.sound N j) in a.1 ∙ sym b.1)) in (
      sorted.0,
      record {
        rising = to_pairs sorted.0 sorted.1.rises;
        exact = λ M. (
          (λ c. r.sound M (sorted.1.from M (from_contains M sorted.0 c))),
          (λ p. let o = of M p in to_contains M sorted.0 (sorted.1.old M (r.complete M (in_all_of M S o.0 o.1) p))),
        );
      },
    )
