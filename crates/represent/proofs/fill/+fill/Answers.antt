use Rattle.std.proofs.Common.{◌≡◌, ℕ, ◌+◌, ◌*◌, ◌<◌, ◌≤◌, ◌++◌, ◌∷◌, [], sym, ◌∙◌, ap, subst, arith, refl, inl, inr, List, length, length-append}
use mathlib.Core.Bool.{true≢false}
use Rattle.represent.specs.Sought.{matroid_of, cells}
use Rattle.represent.specs.Filled.{AreCodes}
use Rattle.represent.specs.Kept.{KeepsBefore, KeepsLast}
use Rattle.represent.specs.Completions.{IsLeastWith, NoneWith}
use Rattle.represent.proofs.Places.{room_left}
use Rattle.represent.proofs.FilledMatrices.{longer_codes, kept_longer}
use Rattle.represent.proofs.Completing.{whole_found, none_longer, none_kept, found_longer, none_left, none_free}
use Rattle.std.proofs.lemmas.Bool.{cases_lt}
use Rattle.represent.proofs.fill.+fill.Goals as goal
use Rattle.represent.proofs.fill.+fill.Goals.{then-keeps_bases+in_default, else-keeps_bases}

below : (v e q : ℕ) → v < e → e ≤ q → v < q
below v e q l m = omega arith

pub returns-then-len-from-clause-found : goal.returns-then-len-from-clause-found
returns-then-len-from-clause-found t c =
    whole_found c.args.target.now.order (matroid_of c.args.target.now) c.requires.sought c.args.codes.items c.requires.codes
    (sym c.len.ensures.value ∙ c.if-len-from.true ∙ (λ i. c.from.ensures i * c.from-2.ensures i)) c.requires.kept

pub keeps_bases-requires-clause-codes : goal.keeps_bases-requires-clause-codes
keeps_bases-requires-clause-codes t c =
    let q = c.args.target.now.order in
    let N = matroid_of c.args.target.now in
    let codes = c.args.codes.items in
    let v = c.loop-code.code in
    let room : length codes < cells N = room_left N.rank N.size c.len.result c.from.result c.from-2.result codes
    c.len.ensures.value c.from.ensures c.from-2.ensures c.if-len-from.false c.requires.codes.few in
    let code : v < q = below v c.codes_end-end.result q c.loop-code-test.true c.codes_end-end.ensures.within in
    let longer : c.followed_by-longer.result.items ≡ codes ++ v ∷ [] = c.followed_by-longer.ensures
    ∙ ap (λ (xs : List ℕ). xs ++ v ∷ []) c.as_slice.ensures.value in
    subst (AreCodes q N) (sym longer) (longer_codes q N c.requires.sought codes v c.requires.codes room code)

pub fill-requires : goal.fill-requires
fill-requires t c =
    let q = c.args.target.now.order in
    let N = matroid_of c.args.target.now in
    let codes = c.args.codes.items in
    let v = c.loop-code.code in
    let room : length codes < cells N = room_left N.rank N.size c.len.result c.from.result c.from-2.result codes
    c.len.ensures.value c.from.ensures c.from-2.ensures c.if-len-from.false c.requires.codes.few in
    let code : v < q = below v c.codes_end-end.result q c.loop-code-test.true c.codes_end-end.ensures.within in
    let longer : c.followed_by-longer.result.items ≡ codes ++ v ∷ [] = c.followed_by-longer.ensures
    ∙ ap (λ (xs : List ℕ). xs ++ v ∷ []) c.as_slice.ensures.value in
    let more : length c.followed_by-longer.result.items ≡ length codes + 1 = ap (λ (xs : List ℕ). length xs) longer ∙ length-append codes (v ∷ []) in
    let k = c.keeps_bases.ensures in (
      omega arith,
      (
        c.requires.sought,
        (
          subst (AreCodes q N) (sym longer) (longer_codes q N c.requires.sought codes v c.requires.codes room code),
          subst (KeepsBefore q N) (sym longer) (kept_longer q N c.requires.sought codes v c.requires.codes room code c.requires.kept
              (subst (KeepsLast q N) longer (k.0 c.if-keeps_bases.true))),
        ),
      ),
    )

pub returns-in-Some-clause-found : goal.returns-in-Some-clause-found
returns-in-Some-clause-found t c =
    let q = c.args.target.now.order in
    let N = matroid_of c.args.target.now in
    let codes = c.args.codes.items in
    let v = c.loop-code.code in
    let room : length codes < cells N = room_left N.rank N.size c.len.result c.from.result c.from-2.result codes
    c.len.ensures.value c.from.ensures c.from-2.ensures c.if-len-from.false c.requires.codes.few in
    let code : v < q = below v c.codes_end-end.result q c.loop-code-test.true c.codes_end-end.ensures.within in
    let longer : c.followed_by-longer.result.items ≡ codes ++ v ∷ [] = c.followed_by-longer.ensures
    ∙ ap (λ (xs : List ℕ). xs ++ v ∷ []) c.as_slice.ensures.value in
    found_longer q N c.requires.sought codes v c.requires.codes room code c.loop-code.invariant c.in-Some.whole.items
    (subst (λ (xs : List ℕ). IsLeastWith q N xs c.in-Some.whole.items) longer c.in-Some.ensures.found)

pub loop-code-preserved : goal.loop-code-preserved
loop-code-preserved t c =
    let q = c.args.target.now.order in
    let N = matroid_of c.args.target.now in
    let codes = c.args.codes.items in
    let v = c.loop-code.code in
    let room : length codes < cells N = room_left N.rank N.size c.len.result c.from.result c.from-2.result codes
    c.len.ensures.value c.from.ensures c.from-2.ensures c.if-len-from.false c.requires.codes.few in
    let code : v < q = below v c.codes_end-end.result q c.loop-code-test.true c.codes_end-end.ensures.within in
    let longer : c.followed_by-longer.result.items ≡ codes ++ v ∷ [] = c.followed_by-longer.ensures
    ∙ ap (λ (xs : List ℕ). xs ++ v ∷ []) c.as_slice.ensures.value in
    let e = c.keeps_bases.ensures in
    elim c.if-keeps_bases.branch [
      | then-keeps_bases+in_default w ↦ none_longer q N c.requires.sought codes v c.requires.codes room code c.loop-code.invariant
          (subst (NoneWith q N) longer (w.in_default.ensures.none refl))
      | else-keeps_bases w ↦ none_kept q N c.requires.sought codes v c.requires.codes room code c.loop-code.invariant
          (λ k. true≢false (sym (e.1 (subst (KeepsLast q N) (sym longer) k)) ∙ w.if-keeps_bases.false))
    ]

pub returns-clause-none : goal.returns-clause-none
returns-clause-none t c _ =
    let q = c.args.target.now.order in
    let N = matroid_of c.args.target.now in
    let codes = c.args.codes.items in
    let room : length codes < cells N = room_left N.rank N.size c.len.result c.from.result c.from-2.result codes
    c.len.ensures.value c.from.ensures c.from-2.ensures c.if-len-from.false c.requires.codes.few in
    let g : c.codes_end-end.result ≤ c.loop-code.code = omega (arith, c.loop-code-test.false) in
    elim (cases_lt c.codes_end-end.result q) [
      | inr f ↦ none_left q N c.requires.sought codes c.requires.codes room (λ K d l. c.loop-code.invariant K d (omega arith))
      | inl b ↦ (let two : 2 ≤ c.codes_end-end.result = c.codes_end-end.ensures.two b in
          none_free q N c.requires.sought codes c.requires.codes room (c.codes_end-end.ensures.free b) c.loop-code.code (omega arith) c.loop-code.invariant)
    ]
