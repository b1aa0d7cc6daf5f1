use Rattle.std.proofs.Common.{rules, ◌≡◌, ap, sym, ◌∙◌, subst, [], ◌∷◌, ◌++◌, ◌+◌, ◌-◌, ◌^◌, min, length, Contains}
use Rattle.std.proofs.lemmas.Bool.{false≢true}
use Rattle.histories.specs.declared.entry.Reply.TheVariants.{New}
use Rattle.histories.specs.SetObject.{keys_after, reply_to}
use Rattle.histories.specs.History.{entry}
use Rattle.class_store.specs.Seen.{IsOffer, track_of}
use Rattle.histories.proofs.Keys.{not_seen}
use Rattle.class_store.proofs.Offers.{again_reply, new_reply, again_set, new_set, one_more, inserted, last_got, is_offer}
use Rattle.class_store.proofs.offer.offered.Goals as goal

pub enter_call-requires-clause-reply : goal.enter_call-requires-clause-reply
enter_call-requires-clause-reply c =
    let set = c.args.stripe.replayed ∙ ap (λ b. keys_after b.history) (sym c.look.ensures.book) in
    again_reply c.args.stripe.set.keys c.look.new.book.history c.args.key set (c.contains.ensures.0 c.if-contains.true)

pub invariant_of-stripe : goal.invariant_of-stripe
invariant_of-stripe c =
    let set = c.args.stripe.replayed ∙ ap (λ b. keys_after b.history) (sym c.look.ensures.book) in
    let there = c.contains.ensures.0 c.if-contains.true in
    let history = ap (λ b. b.history) c.enter_call.ensures.book in
    let counted = c.args.stripe.counted ∙ ap (λ b. min (length b.history) (2 ^ 64 - 1)) (sym c.look.ensures.book) in
    let more : c.saturating_add-entries_after.result ≡ min (c.args.stripe.entries + 1) (2 ^ 64 - 1) = search rules in
    record {
      replayed = again_set c.args.stripe.set.keys c.look.new.book.history _ _ c.args.key set there ∙ ap keys_after (sym history);
      counted = one_more _ _ _ _ counted more ∙ ap (λ h. min (length h) (2 ^ 64 - 1)) (sym history);
    }

pub returns-then-contains-clause-offered : goal.returns-then-contains-clause-offered
returns-then-contains-clause-offered c =
    let set = c.args.stripe.replayed ∙ ap (λ b. keys_after b.history) (sym c.look.ensures.book) in
    let there = c.contains.ensures.0 c.if-contains.true in (
      is_offer _ c.look.new.caller _ c.look.new.book.history _ _ c.look.ensures.caller c.enter_call.ensures.caller (search rules)
          (again_reply c.args.stripe.set.keys c.look.new.book.history c.args.key set there),
      c.enter_call.ensures.calls,
    )

pub returns-in-Err-clause-refused : goal.returns-in-Err-clause-refused
returns-in-Err-clause-refused c =
    let r = c.in-Err.ensures.refused in
    let set = c.args.stripe.replayed in (
      r.2,
      c.look.ensures.caller,
      not_seen c.args.key c.args.caller.now.seen c.args.stripe.book.history c.look.ensures.seen
          (subst (λ l. ¬ (Contains l c.args.key)) set r.0),
    )

pub enter_call-requires-2-clause-reply : goal.enter_call-requires-2-clause-reply
enter_call-requires-2-clause-reply c =
    let set = c.args.stripe.replayed ∙ ap (λ b. keys_after b.history) (sym c.look.ensures.book) in
    let missing : ¬ (Contains c.args.stripe.set.keys c.args.key) = λ there. false≢true (sym c.if-contains.false ∙ c.contains.ensures.1 there) in
    let more = inserted _ _ _ _ _ _ c.in_default.ensures.answer missing in
    let key = last_got c.args.stripe.set.keys c.insert.new.self.keys c.args.key c.in-Some.key.now c.len.result more c.len.ensures.len c.in-Some.ensures in
    subst (λ k. New ≡ reply_to (keys_after c.look.new.book.history) k) (sym key)
    (new_reply c.args.stripe.set.keys c.look.new.book.history c.args.key set missing)

pub invariant_of-stripe-2 : goal.invariant_of-stripe-2
invariant_of-stripe-2 c =
    let set = c.args.stripe.replayed ∙ ap (λ b. keys_after b.history) (sym c.look.ensures.book) in
    let missing : ¬ (Contains c.args.stripe.set.keys c.args.key) = λ there. false≢true (sym c.if-contains.false ∙ c.contains.ensures.1 there) in
    let inserts = inserted _ _ _ _ _ _ c.in_default.ensures.answer missing in
    let key = last_got c.args.stripe.set.keys c.insert.new.self.keys c.args.key c.in-Some.key.now c.len.result inserts c.len.ensures.len c.in-Some.ensures in
    let history = ap (λ b. b.history) c.enter_call-2.ensures.book
    ∙ ap (λ k. c.look.new.book.history ++ entry c.look.new.caller.number (length c.look.new.caller.mine) k New ∷ []) key in
    let counted = c.args.stripe.counted ∙ ap (λ b. min (length b.history) (2 ^ 64 - 1)) (sym c.look.ensures.book) in
    let more : c.saturating_add-entries_after.result ≡ min (c.args.stripe.entries + 1) (2 ^ 64 - 1) = search rules in
    record {
      replayed = new_set c.args.stripe.set.keys c.insert.new.self.keys c.look.new.book.history _ _ c.args.key set missing inserts ∙ ap keys_after (sym history);
      counted = one_more _ _ _ _ counted more ∙ ap (λ h. min (length h) (2 ^ 64 - 1)) (sym history);
    }

pub returns-clause-offered : goal.returns-clause-offered
returns-clause-offered c =
    let set = c.args.stripe.replayed ∙ ap (λ b. keys_after b.history) (sym c.look.ensures.book) in
    let missing : ¬ (Contains c.args.stripe.set.keys c.args.key) = λ there. false≢true (sym c.if-contains.false ∙ c.contains.ensures.1 there) in
    let inserts = inserted _ _ _ _ _ _ c.in_default.ensures.answer missing in
    let key = last_got c.args.stripe.set.keys c.insert.new.self.keys c.args.key c.in-Some.key.now c.len.result inserts c.len.ensures.len c.in-Some.ensures in
    let reply = new_reply c.args.stripe.set.keys c.look.new.book.history c.args.key set missing in (
      subst (λ k. IsOffer c.args.caller.now.number k New (track_of c.args.caller.now) (track_of c.enter_call-2.new.caller)) key
          (is_offer _ c.look.new.caller _ c.look.new.book.history _ _ c.look.ensures.caller c.enter_call-2.ensures.caller (search rules)
          (subst (λ k. New ≡ reply_to (keys_after c.look.new.book.history) k) (sym key) reply)),
      c.enter_call-2.ensures.calls,
    )
