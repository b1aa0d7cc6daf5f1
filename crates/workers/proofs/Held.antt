-- What the store holds after all tries were offered.
use Rattle.std.proofs.Common.{◌≡◌, ◌↔◌, ℕ, zero, suc, ◌+◌, ◌<◌, ◌≤◌, List, [], ◌∷◌, length, Some, slice_get, inl, inr, refl, sym, ◌∙◌, ap, subst, arith}
use Rattle.std.specs.List.{Contains, flat_map}
use Rattle.std.proofs.lemmas.List.Elements.{Contains-append_left, Contains-append_right, Contains-append_cases}
use Rattle.std.proofs.lemmas.Slice.Zip.{AllZip-long}
use Rattle.matroid_theory.specs.Rep.{Rep}
use Rattle.matroid_theory.specs.Level.{Family, IsTry, IsCount, IsLevelForm}
use Rattle.matroid_laws.proofs.Equivalence.{equivalent-symmetric, equivalent-transitive}
use Rattle.matroid_laws.proofs.Forms.{one_form}
use Rattle.formats.specs.Request.{Request}
use Rattle.formats.specs.Levels.{Grows, HasTries}
use Rattle.histories.specs.declared.entry.Entry.{Entry}
use Rattle.histories.specs.History.{IsLegal}
use Rattle.histories.specs.Counts.{entries_in, new_keys}
use Rattle.histories.specs.Joined.{joined}
use Rattle.histories.proofs.Joining.{joined_entries, joined_new, once_among}
use Rattle.class_store.specs.Seen.{AreStripeHistories, IsNewIn}
use Rattle.form_key.specs.Packing.{packing}
use Rattle.store_laws.specs.TryKeys.{AreTryKeys, IsTryKey}
use Rattle.store_laws.proofs.Told.{told_exact}
use Rattle.level_driver.proofs.Counts.{count_same}
use Rattle.workers.specs.Keys.{AreKeysOf, times}
use Rattle.workers.specs.Store.{HoldsTries}
use Rattle.workers.proofs.KeyLists.{keys_count, keys_times}

-- a key that was told New in one of the histories
in_flat : (histories : List (List Entry)) (key : List ℕ) → Contains (flat_map new_keys histories) key → IsNewIn histories key
in_flat [] key c = let l = c.1 in absurd (omega arith)
in_flat (h ∷ hs) key c =
    elim (Contains-append_cases (new_keys h) (flat_map new_keys hs) key c) [
      | inl here ↦ (0, h, refl, here)
      | inr later ↦ (let n = in_flat hs key later in (suc n.0, n.1, n.2, n.3))
    ]

from_flat : (histories : List (List Entry)) (key : List ℕ) (s : ℕ) (g : List Entry) → slice_get histories s ≡ Some g → Contains (new_keys g) key
    → Contains (flat_map new_keys histories) key
from_flat [] key s g e c = absurd (cc e)
from_flat (h ∷ hs) key zero g e c = let same : h ≡ g = cc e in
    Contains-append_left (new_keys h) (flat_map new_keys hs) key (subst (λ (h : List Entry). Contains (new_keys h) key) (sym same) c)
from_flat (h ∷ hs) key (suc s) g e c = Contains-append_right (new_keys h) (flat_map new_keys hs) key (from_flat hs key s g e c)

one_key : (q : Family) (n : ℕ) (try : Rep × List ℕ) (k l : List ℕ) → IsTryKey q n try k → IsTryKey q n try l → k ≡ l
one_key q n try k l (M, a, x) (N, b, y) =
    sym x ∙ ap packing (one_form q.mode M N a.form b.form (equivalent-transitive q.mode M _ N (equivalent-symmetric q.mode _ M a.equivalent) b.equivalent)) ∙ y

module _ (family : Family) (n : ℕ) (keys : List (List ℕ)) (are : AreKeysOf (IsTry family n) (IsTryKey family n) keys) where
  try_keys : AreTryKeys family n keys
  try_keys = record {
    tries = record { list = are.list; apart = are.apart; exact = are.exact; number = long };
    packed = are.packed;
  }
    where
      long : length are.list ≡ length keys
      long = sym (AllZip-long (IsTryKey family n) are.list keys are.packed)

  pub holds_tries : (histories : List (List Entry)) → family.rank < n → AreStripeHistories histories → IsLegal (joined histories)
      → ((key : List ℕ) → entries_in histories key ≡ times key keys)
      → HoldsTries family n histories
  holds_tries histories room stripes legal counts = record {
    stripes = stripes;
    legal = legal;
    entries = λ key.
        subst (IsCount (λ try. IsTryKey family n try key)) (sym (counts key))
        (count_same (λ try. IsTry family n try × IsTryKey family n try key) (λ try. IsTryKey family n try key) (times key keys)
        (λ try. (λ h. h.1, λ (N, f, e). (f.is_try, (N, f, e))))
        (keys_times (IsTryKey family n) (IsTry family n) keys (λ try k l t. one_key family n try k l) are key));
    fresh = λ key.
        let told = told_flat key in (
          λ new. told.0 (from_flat histories key new.0 new.1 new.2 new.3),
          λ form. in_flat histories key (told.1 form),
        );
    once = λ M form. once_among histories (packing M) legal ((told_flat (packing M)).1 (M, form, refl));
  }
    where
      told_flat : (key : List ℕ) → Contains (flat_map new_keys histories) key ↔ ((M : Rep) × IsLevelForm family n M × (packing M ≡ key))
      told_flat key = subst (λ (l : List (List ℕ)). Contains l key ↔ ((M : Rep) × IsLevelForm family n M × (packing M ≡ key))) (joined_new histories)
          (told_exact family n keys (joined histories) key room try_keys legal (λ k. joined_entries histories k ∙ counts k))

  pub count_tries : (tried : ℕ) → tried ≡ length keys → IsCount (IsTry family n) tried
  count_tries tried is = subst (IsCount (IsTry family n)) (sym is) (keys_count (IsTryKey family n) (IsTry family n) keys are)

-- the number of the tries of a size above the rank
pub has_tries : (q : Request) (family : Family) → Grows q family → (n tried : ℕ) → q.rank ≤ n → IsCount (IsTry family (n + 1)) tried
    → HasTries family (n + 1) tried
has_tries q family grows n tried room count = record {
  first = λ e. let r : family.rank ≡ q.rank = grows.rank_is in absurd (omega arith);
  later = λ l. count;
}
