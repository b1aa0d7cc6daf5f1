use Rattle.std.proofs.Common.{◌≡◌, ◌-◌, ◌*◌, ◌<◌, ◌∙◌, sym, ap, subst, length, true, false, not, IsTrue, rules}
use Rattle.std.specs.Str.{bytes_eq}
use Rattle.std.proofs.lemmas.Slice.Eq.{bytes_eq-Decides}
use Rattle.form_key.specs.Codes.{half_at, AreCodesOf}
use Rattle.form_key.specs.Packing.{paired, later_codes}
use Rattle.form_key.proofs.Built.{codes_of_key, key_of_codes, codes_of_factors}
use Rattle.form_key.proofs.from_key.unpack.Goals as goal

pub returns-then-ne : goal.returns-then-ne
returns-then-ne c M p =
    let number : c.from-2.result * (c.from.result * c.count.result) ≡ (c.args.size - c.args.rank) * (c.args.rank * length c.args.factors) = search rules in
    let codes : later_codes M ≡ c.take_apart-codes.result.items = codes_of_key _ _ _ M p (c.take_apart-codes.ensures.count ∙ number)
    (λ k l. c.take_apart-codes.ensures.codes k (subst (λ n. k < n) (sym number) l) ∙ ap (λ bytes. half_at bytes k) c.bytes.ensures) in
    let same : c.as_slice.result.now ≡ c.bytes-2.result.now =
    c.as_slice.ensures.value ∙ c.pair_up.ensures ∙ ap paired c.as_slice-codes.ensures.value ∙ key_of_codes _ _ _ M p codes ∙ sym c.bytes-2.ensures in
    let yes : bytes_eq c.as_slice.result.now c.bytes-2.result.now ≡ true = (bytes_eq-Decides c.as_slice.result.now c.bytes-2.result.now).1 same in
    let no : true ≡ false = sym c.if-ne.true ∙ c.ne.ensures ∙ ap not yes in
    cc

pub returns-then-not-are_codes : goal.returns-then-not-are_codes
returns-then-not-are_codes c M p =
    let number : c.from-2.result * (c.from.result * c.count.result) ≡ (c.args.size - c.args.rank) * (c.args.rank * length c.args.factors) = search rules in
    let codes : later_codes M ≡ c.take_apart-codes.result.items = codes_of_key _ _ _ M p (c.take_apart-codes.ensures.count ∙ number)
    (λ k l. c.take_apart-codes.ensures.codes k (subst (λ n. k < n) (sym number) l) ∙ ap (λ bytes. half_at bytes k) c.bytes.ensures) in
    let fit : AreCodesOf c.args.factors c.as_slice-codes.result.now = codes_of_factors _ _ _ M p (codes ∙ sym c.as_slice-codes.ensures.value) in
    let yes : IsTrue false = subst IsTrue c.if-not-are_codes.true (c.are_codes.ensures.1 fit) in
    search rules
