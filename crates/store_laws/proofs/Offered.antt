-- Each size has the keys of its tries, and a legal history of them.
use Rattle.std.proofs.Common.{◌≡◌, ℕ, suc, ◌+◌, Bool, true, false, cond, ◌==◌, refl, sym, ◌∙◌, ap, subst, List, [], ◌∷◌, bytes_eq, eqb-true, inl, inr}
use Rattle.std.specs.List.{AllZip, count_by}
use Rattle.std.proofs.lemmas.List.Sums.{sum_by-cons}
use Rattle.std.proofs.lemmas.Slice.Zip.{AllZip-long}
use Rattle.matroid_theory.specs.Rep.{Rep}
use Rattle.matroid_theory.specs.Level.{Family, IsTry}
use Rattle.existence.proofs.Deciding.{IsIn, to_contains}
use Rattle.existence.proofs.Classes.{try_has_form}
use Rattle.existence.proofs.Tries.{tries_exist}
use Rattle.histories.specs.declared.entry.Entry.{Entry}
use Rattle.histories.specs.SetObject.{after_offer, reply_to}
use Rattle.histories.specs.History.{IsLegal, IsNumbered, RepliesFrom, calls_by, entry}
use Rattle.histories.specs.Counts.{AreItsKeys, entries_with}
use Rattle.form_key.specs.Packing.{packing}
use Rattle.store_laws.specs.TryKeys.{AreTryKeys, IsTryKey}

-- ---- keys
keys_for : (q : Family) (n : ℕ) (tries : List (Rep × List ℕ)) → ((try : Rep × List ℕ) → IsIn try tries → IsTry q n try)
    → (keys : List (List ℕ)) × AllZip (IsTryKey q n) tries keys
keys_for q n [] each = ([], tt)
keys_for q n (try ∷ tries) each =
    let form = try_has_form q n try (each try (inl refl)) in
    let rest = keys_for q n tries (λ other i. each other (inr i)) in
    (packing form.0 ∷ rest.0, ((form.0, form.1, refl), rest.1))

try_keys : (q : Family) (n : ℕ) → (keys : List (List ℕ)) × AreTryKeys q n keys
try_keys q n =
    let tries = tries_exist q n in
    let keys = keys_for q n tries.1.list (λ try i. (tries.1.exact try).0 (to_contains try tries.1.list i)) in (
      keys.0,
      record {
        tries = record {
          list = tries.1.list;
          apart = tries.1.apart;
          exact = tries.1.exact;
          number = sym (AllZip-long (IsTryKey q n) tries.1.list keys.0 keys.1);
        };
        packed = keys.1;
      },
    )

-- ---- one caller that offers them in turn
abbrev offers : List (List ℕ) → ℕ → List (List ℕ) → List Entry
offers set call [] = []
offers set call (key ∷ keys) = entry 0 call key (reply_to set key) ∷ offers (after_offer set key) (suc call) keys

told : (set : List (List ℕ)) (call : ℕ) (keys : List (List ℕ)) → RepliesFrom set (offers set call keys)
told set call [] = tt
told set call (key ∷ keys) = (refl, told (after_offer set key) (suc call) keys)

-- another caller has no call
none_numbered : (c from : ℕ) → (0 == c) ≡ false → (set : List (List ℕ)) (call : ℕ) (keys : List (List ℕ))
    → IsNumbered c from (calls_by c (offers set call keys))
none_numbered c from other set call [] = tt
none_numbered c from other set call (key ∷ keys) =
    let rest : List Entry = calls_by c (offers (after_offer set key) (suc call) keys) in
    subst (λ b. IsNumbered c from (cond b (entry 0 call key (reply_to set key) ∷ rest) rest)) (sym other)
    (none_numbered c from other (after_offer set key) (suc call) keys)

own_numbered : (c : ℕ) → (0 == c) ≡ true → (set : List (List ℕ)) (call : ℕ) (keys : List (List ℕ)) → IsNumbered c call (calls_by c (offers set call keys))
own_numbered c own set call [] = tt
own_numbered c own set call (key ∷ keys) =
    let rest : List Entry = calls_by c (offers (after_offer set key) (suc call) keys) in
    subst (λ b. IsNumbered c call (cond b (entry 0 call key (reply_to set key) ∷ rest) rest)) (sym own)
    (eqb-true 0 c own, refl, own_numbered c own (after_offer set key) (suc call) keys)

numbered : (c : ℕ) (keys : List (List ℕ)) (b : Bool) → (0 == c) ≡ b → IsNumbered c 0 (calls_by c (offers [] 0 keys))
numbered c keys true own = own_numbered c own [] 0 keys
numbered c keys false other = none_numbered c 0 other [] 0 keys

counted : (set : List (List ℕ)) (call : ℕ) (keys : List (List ℕ)) (key : List ℕ) → entries_with key (offers set call keys) ≡ count_by (bytes_eq key) keys
counted set call [] key = refl
counted set call (x ∷ keys) key =
    sum_by-cons (λ (e : Entry). cond (bytes_eq key e.key) 1 0) (entry 0 call x (reply_to set x)) (offers (after_offer set x) (suc call) keys)
    ∙ (ap (λ n. cond (bytes_eq key x) 1 0 + n) (counted (after_offer set x) (suc call) keys key)
    ∙ sym (sum_by-cons (λ (k : List ℕ). cond (bytes_eq key k) 1 0) x keys))

pub such_a_history : (q : Family) (n : ℕ) → (keys : List (List ℕ)) × (history : List Entry) × AreTryKeys q n keys × IsLegal history × AreItsKeys keys history
such_a_history q n =
    let keys = try_keys q n in (
      keys.0,
      offers [] 0 keys.0,
      keys.1,
      record { replies = told [] 0 keys.0; numbers = λ c. numbered c keys.0 (0 == c) refl },
      counted [] 0 keys.0,
    )
