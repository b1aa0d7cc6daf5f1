use Rattle.std.proofs.Common.{◌≡◌, ◌∙◌, ℕ, ◌<◌, ◌≤◌, List, [], ◌∷◌, ◌++◌, length, get_or, ap, sym, subst, arith, length-append}
use Rattle.std.specs.Prelude.{codes}
use Rattle.std.proofs.lemmas.Slice.Eq.{text_from_reads}
use Rattle.formats.specs.Lines.{words_of}
use Rattle.request_lines.specs.Versions.{version_number}
use Rattle.request_lines.proofs.FieldLines.{begun, AreLeft, are_factors, all_left, order_left, orders_more, words_more, words_all, left_more, found_factors}
use Rattle.request_lines.proofs.field_line.factors_of.Goals as goal

-- with no order read, all words are left
no_orders : (qs : List ℕ) (words : List (List ℕ)) → qs ≡ [] → words ≡ begun qs ++ words
no_orders qs words e = rw e

pub loop-word-init : goal.loop-word-init
loop-word-init c =
    let e = c.new-orders.ensures in
    let none : length c.new-orders.result.items ≡ 0 = ap length e in
    record {
      fields = λ f lt. absurd (omega (arith, none));
      spelled = no_orders c.new-orders.result.items (words_of c.args.rest.now) e;
      others = λ factors are is. subst (λ (n : ℕ). AreLeft (version_number c.args.version) n factors (words_of c.args.rest.now))
          (sym none) (all_left (version_number c.args.version) factors _ are is);
    }

pub returns-in_err-order_of : goal.returns-in_err-order_of
returns-in_err-order_of c = rw c.from_residual-in_err-order_of.ensures (λ factors are is.
    let left = c.loop-word.invariant.others factors are is in
    let order = order_left (version_number c.args.version) _ factors c.in_ok-word.word.now
    _ (subst (AreLeft (version_number c.args.version) _ factors) c.in_ok-word.ensures.words left) in
    c.in_err-order_of.ensures order.0 order.1 order.2)

-- a word of one byte that is `x`
one_x : (word : List ℕ) → length word ≡ 1 → get_or word 0 0 ≡ 120 → word ≡ codes "x"
one_x word long at = text_from_reads word (codes "x") long (at, tt)

pub returns-in-None : goal.returns-in-None
returns-in-None c =
    let inv = c.loop-word.invariant in
    let items : c.try_push.new.self.items ≡ c.loop-word.orders.items ++ c.in_ok-order_of.field-0 ∷ [] = c.in-Ok.ensures.ok in
    let orders : c.as_slice.result.now ≡ c.loop-word.orders.items ++ c.in_ok-order_of.field-0 ∷ [] = c.as_slice.ensures.value ∙ items in
    let fields = orders_more (version_number c.args.version) c.loop-word.orders.items c.as_slice.result.now c.in_ok-order_of.field-0
    inv.fields c.in_ok-order_of.ensures.0 orders in
    let words = words_all c.loop-word.orders.items c.as_slice.result.now c.in_ok-order_of.field-0 c.in_ok-word.word.now
    _ _ _ inv.spelled c.in_ok-word.ensures.words c.in-None.ensures.words c.in_ok-order_of.ensures.1 orders in
    let some : 0 < length c.as_slice.result.now = omega (arith, ap length orders, length-append c.loop-word.orders.items (c.in_ok-order_of.field-0 ∷ [])) in
    let few : length c.as_slice.result.now ≤ 3 = omega arith in
    found_factors (version_number c.args.version) _ c.of.result c.as_slice.result.now
    (words_of c.args.rest.now) _ c.of.ensures.found.1 c.of.ensures.orders
    (are_factors (version_number c.args.version) c.as_slice.result.now some few fields) words

pub loop-word-preserved : goal.loop-word-preserved
loop-word-preserved c =
    let inv = c.loop-word.invariant in
    let orders = c.loop-word.orders.items in
    let items : c.try_push.new.self.items ≡ orders ++ c.in_ok-order_of.field-0 ∷ [] = c.in-Ok.ensures.ok in
    let x : c.in-Some-x-default.field-0-0.now ≡ codes "x" = one_x _ (omega arith) (omega arith) in
    let after = c.in-Some-x-default.ensures.words in
    record {
      fields = orders_more (version_number c.args.version) orders c.try_push.new.self.items c.in_ok-order_of.field-0 inv.fields
          c.in_ok-order_of.ensures.0 items;
      spelled = words_more orders c.try_push.new.self.items c.in_ok-order_of.field-0 c.in_ok-word.word.now
          _ _ _ (words_of c.in-Some-x-default.next.now) inv.spelled c.in_ok-word.ensures.words
          (after ∙ ap (λ (w : List ℕ). w ∷ words_of c.in-Some-x-default.next.now) x) c.in_ok-order_of.ensures.1 items;
      others = λ factors are is. left_more (version_number c.args.version) orders c.try_push.new.self.items factors
          c.in_ok-order_of.field-0 c.in_ok-word.word.now c.in-Some-x-default.field-0-0.now _ _ (words_of c.in-Some-x-default.next.now)
          (inv.others factors are is) c.in_ok-word.ensures.words after items;
    }
