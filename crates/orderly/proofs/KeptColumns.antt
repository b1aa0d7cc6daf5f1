-- What is known after some of the columns of a parent were tried, and after all of them.
use Rattle.std.proofs.Common.{◌≡◌, ◌⊎◌, ◌↔◌, ℕ, ◌+◌, ◌-◌, ◌<◌, ◌≤◌, List, [], ◌∷◌, ◌++◌, length, get_or, append-nil, append_assoc, inl, inr, refl, sym, ◌∙◌, ap, subst, arith}
use Rattle.std.specs.List.{Contains}
use Rattle.std.specs.Cmp.Lexicographic.{slice_cmp}
use Rattle.std.specs.Ordering.{nat_cmp, ordering_reverse}
use Rattle.std.specs.declared.cmp.Ordering.{Ordering}
use Rattle.std.specs.declared.cmp.Ordering.TheVariants.{Less, Equal, Greater}
use Rattle.std.proofs.lemmas.Cmp.{nat_list_cmp_total}
use Rattle.std.proofs.lemmas.List.Elements.{Contains-append_left, Contains-get_or, Contains-push, Contains-push_cases}
use Rattle.std.proofs.lemmas.List.Quantifiers.{all_pairs_push}
use Rattle.std.proofs.lemmas.Map.Lookups.{exact_bytes}
use Rattle.matroid_theory.specs.declared.Mode.{Mode}
use Rattle.matroid_theory.specs.Rep.{Rep}
use Rattle.matroid_theory.specs.Order.{rep_cmp, IsForm}
use Rattle.matroid_theory.specs.Minor.{Matroid}
use Rattle.matroid_theory.specs.Level.{IsCount, IsRisingList, followed_by}
use Rattle.extension.specs.Admissible.{ColumnsAfter, IsNextColumn, IsLastColumn, value, above_values}
use Rattle.level_driver.specs.Children.{IsCandidate}
use Rattle.level_driver.specs.Forbidden.{Avoids}
use Rattle.level_driver.proofs.Counts.{count_same, count_one, count_both}
use Rattle.level_driver.proofs.Tried.{IsUpTo, IsTriedUpTo, HasTried, tried_none, one_more, not_yet}
use Rattle.orderly.specs.Kept.{AddsKept, KeepsOwnForm}
use Rattle.orderly.proofs.Rising.{followed_before}

-- kept, by a column up to the last one
pub record IsKeptUpTo (mode : Mode) (Ns : List Matroid) (columns : ColumnsAfter) (N : Rep) : Type 0 where
  pub column : List ℕ
  pub tried : IsTriedUpTo Ns columns column
  pub is : N ≡ followed_by columns.parent column
  pub form : IsForm mode N

-- the columns up to the last one were tried, and the forms added
pub record HasKept (mode : Mode) (Ns : List Matroid) (start : List Rep) (columns : ColumnsAfter) (tried : ℕ) (forms : List Rep) : Type 0 where
  pub count : IsCount (IsTriedUpTo Ns columns) tried
  pub bound : tried + (above_values - value columns.last) ≤ above_values
  pub added : List Rep
  pub at_end : forms ≡ start ++ added
  pub are : IsRisingList (IsKeptUpTo mode Ns columns) added

-- at the start none is up to the last one
pub kept_none : (mode : Mode) (Ns : List Matroid) (start : List Rep) (P : Rep) → 0 < length P.factors → (columns : ColumnsAfter) →
    columns ≡ record { parent = P; last = [] } → HasKept mode Ns start columns 0 start
kept_none mode Ns start P some columns is = record {
  count = t.count;
  bound = t.bound;
  added = [];
  at_end = sym (append-nil start);
  are = record {
    rising = λ i j d l m. absurd (omega arith);
    exact = λ N. (λ c. (let l = c.1 in absurd (omega arith)), λ k. absurd (nothing k.column k.tried));
  };
}
  where
    t : HasTried mode Ns [] columns 0 []
    t = tried_none mode Ns [] P some columns is

    nothing : (v : List ℕ) → IsTriedUpTo Ns columns v → ⊥
    nothing v u = let found = t.complete v u in let c = found.1 in let l = c.1 in absurd (omega arith)

module _ (columns : ColumnsAfter) (v : List ℕ) (next : IsNextColumn columns v) (mode : Mode) (Ns : List Matroid) (start forms : List Rep)
    (tried : ℕ)
    (following : ColumnsAfter) (is : following ≡ record { parent = columns.parent; last = v })
    (falls : above_values - value following.last < above_values - value columns.last) (h : HasKept mode Ns start columns tried forms) where
  after : ColumnsAfter
  after = record { parent = columns.parent; last = v }

  fewer : above_values - value v < above_values - value columns.last
  fewer = subst (λ (c : ColumnsAfter). above_values - value c.last < above_values - value columns.last) is falls

  -- the columns up to the last one are below the next
  below_next : (w : List ℕ) → IsUpTo columns w → slice_cmp nat_cmp w v ≡ Less
  below_next w u = by (slice_cmp nat_cmp w v) refl
    where
      by : (o : Ordering) → slice_cmp nat_cmp w v ≡ o → o ≡ Less
      by Less e = refl
      by Equal e = absurd (not_yet columns v next w u (exact_bytes w v e))
      by Greater e = absurd (((one_more columns v next w).1 (inl u)).1 e)

  earlier : (w : List ℕ) → IsTriedUpTo Ns columns w → IsTriedUpTo Ns (record { parent = columns.parent; last = v }) w
  earlier w u = ((one_more columns v next w).1 (inl u.0), u.1)

  -- ---- the next one makes one of the matroids a minor

  module _ (has : ¬ (Avoids Ns (followed_by columns.parent v))) where
    only_earlier : (w : List ℕ) → IsTriedUpTo Ns (record { parent = columns.parent; last = v }) w → IsTriedUpTo Ns columns w
    only_earlier w u = elim ((one_more columns v next w).0 u.0) [
      | inl b ↦ (b, u.1)
      | inr e ↦ absurd (has (subst (λ w. Avoids Ns (followed_by columns.parent w)) e u.1))
    ]

    pub kept_same : HasKept mode Ns start following tried forms
    kept_same = subst (λ columns. HasKept mode Ns start columns tried forms) (sym is) record {
      count = count_same (IsTriedUpTo Ns columns) (IsTriedUpTo Ns (record { parent = columns.parent; last = v })) tried
          (λ w. (earlier w, only_earlier w)) h.count;
      bound = (let b : tried + (above_values - value columns.last) ≤ above_values = h.bound in let f = fewer in omega arith);
      added = h.added;
      at_end = h.at_end;
      are = record {
        rising = h.are.rising;
        exact = λ N. (
          λ c. (let k = (h.are.exact N).0 c in record { column = k.column; tried = earlier k.column k.tried; is = k.is; form = k.form }),
          λ k. (h.are.exact N).1 (record { column = k.column; tried = only_earlier k.column k.tried; is = k.is; form = k.form }),
        );
      };
    }

  -- ---- it doesn't

  module _ (avoids : Avoids Ns (followed_by columns.parent v)) where
    one_more_tried : (w : List ℕ) → IsTriedUpTo Ns (record { parent = columns.parent; last = v }) w ↔ (IsTriedUpTo Ns columns w ⊎ (w ≡ v))
    one_more_tried w = (
      λ u. elim ((one_more columns v next w).0 u.0) [ inl b ↦ inl (b, u.1) | inr e ↦ inr e ],
      λ h. elim h [
        | inl b ↦ earlier w b
        | inr e ↦ ((one_more columns v next w).1 (inr e), subst (λ w. Avoids Ns (followed_by columns.parent w)) (sym e) avoids)
      ],
    )

    count_next : IsCount (IsTriedUpTo Ns (record { parent = columns.parent; last = v })) (tried + 1)
    count_next = count_both (IsTriedUpTo Ns columns) (λ w. w ≡ v) (IsTriedUpTo Ns (record { parent = columns.parent; last = v })) tried 1
        h.count (count_one v)
        (λ w u. not_yet columns v next w u.0) one_more_tried

    bound_next : tried + 1 + (above_values - value v) ≤ above_values
    bound_next = let b : tried + (above_values - value columns.last) ≤ above_values = h.bound in let f = fewer in omega arith

    -- where the child is a form it comes after those before
    child_kept : IsForm mode (followed_by columns.parent v) → IsRisingList (IsKeptUpTo mode Ns (record { parent = columns.parent; last = v }))
        (h.added ++ followed_by columns.parent v ∷ [])
    child_kept form = record {
      rising = all_pairs_push (λ M N. rep_cmp M N ≡ Less) h.added (followed_by columns.parent v) h.are.rising
          (λ k d l. let e = (h.are.exact (get_or h.added k d)).0 (Contains-get_or h.added k d l) in
          ap (λ (M : Rep). rep_cmp M (followed_by columns.parent v)) e.is
          ∙ followed_before columns.parent e.column v (below_next e.column e.tried.0));
      exact = λ N. (
        λ c. elim (Contains-push_cases h.added (followed_by columns.parent v) N c) [
          | inl b ↦ (let k = (h.are.exact N).0 b in record { column = k.column; tried = earlier k.column k.tried; is = k.is; form = k.form })
          | inr e ↦ record { column = v; tried = (one_more_tried v).1 (inr refl); is = sym e; form = subst (IsForm mode) e form }
        ],
        λ k. elim ((one_more_tried k.column).0 k.tried) [
          | inl b ↦ Contains-append_left h.added (followed_by columns.parent v ∷ []) N
              ((h.are.exact N).1 (record { column = k.column; tried = b; is = k.is; form = k.form }))
          | inr e ↦ subst (Contains (h.added ++ followed_by columns.parent v ∷ []))
              (sym (k.is ∙ ap (followed_by columns.parent) e)) (Contains-push h.added (followed_by columns.parent v))
        ],
      );
    }

    -- where it isn't it is left out
    child_left : ¬ (IsForm mode (followed_by columns.parent v)) →
        IsRisingList (IsKeptUpTo mode Ns (record { parent = columns.parent; last = v })) h.added
    child_left not_form = record {
      rising = h.are.rising;
      exact = λ N. (
        λ c. (let k = (h.are.exact N).0 c in record { column = k.column; tried = earlier k.column k.tried; is = k.is; form = k.form }),
        λ k. elim ((one_more_tried k.column).0 k.tried) [
          | inl b ↦ (h.are.exact N).1 (record { column = k.column; tried = b; is = k.is; form = k.form })
          | inr e ↦ absurd (not_form (subst (IsForm mode) (k.is ∙ ap (followed_by columns.parent) e) k.form))
        ],
      );
    }

    pub kept_more : (new : List Rep) → KeepsOwnForm mode (followed_by columns.parent v) forms new →
        HasKept mode Ns start following (tried + 1) new
    kept_more new keeps = subst (λ columns. HasKept mode Ns start columns (tried + 1) new) (sym is) (elim keeps [
      | inl (form, e) ↦ record {
        count = count_next;
        bound = bound_next;
        added = h.added ++ followed_by columns.parent v ∷ [];
        at_end = e ∙ ap (λ (Ms : List Rep). Ms ++ followed_by columns.parent v ∷ []) h.at_end
            ∙ append_assoc start h.added (followed_by columns.parent v ∷ []);
        are = child_kept form;
      }
      | inr (not_form, e) ↦
          record { count = count_next; bound = bound_next; added = h.added; at_end = e ∙ h.at_end; are = child_left not_form }
    ])

-- where no column comes after the last one, all were tried
module _ (mode : Mode) (Ns : List Matroid) (start forms : List Rep) (columns : ColumnsAfter) (tried : ℕ)
    (h : HasKept mode Ns start columns tried forms) (last : IsLastColumn columns) where
  all_up_to : (w : List ℕ) → IsCandidate Ns columns.parent w → IsTriedUpTo Ns columns w
  all_up_to w a = (
    (a.admissible, λ g. last w a.admissible (let t = nat_list_cmp_total in t.antisymm columns.last w ∙ ap ordering_reverse g)),
    a.avoids,
  )

  is_candidate : (w : List ℕ) → IsTriedUpTo Ns columns w → IsCandidate Ns columns.parent w
  is_candidate w u = record { admissible = u.0.0; avoids = u.1 }

  pub kept_count : IsCount (IsCandidate Ns columns.parent) tried
  kept_count = count_same (IsTriedUpTo Ns columns) (IsCandidate Ns columns.parent) tried (λ w. (is_candidate w, all_up_to w)) h.count

  pub kept_all : AddsKept mode Ns columns.parent start forms
  kept_all = record {
    added = h.added;
    at_end = h.at_end;
    are = record {
      rising = h.are.rising;
      exact = λ N. (
        λ c. (let k = (h.are.exact N).0 c in
            record { column = k.column; candidate = is_candidate k.column k.tried; is = k.is; form = k.form }),
        λ k. (h.are.exact N).1 (record { column = k.column; tried = all_up_to k.column k.candidate; is = k.is; form = k.form }),
      );
    };
  }
