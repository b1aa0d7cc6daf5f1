use Rattle.std.proofs.Common.{ap, ap₂, sym, ◌∙◌, [], ◌∷◌, ◌++◌, length, Contains}
use Rattle.std.proofs.lemmas.Bool.{false≢true}
use Rattle.histories.specs.SetObject.{keys_after}
use Rattle.histories.specs.History.{entry}
use Rattle.histories.specs.Counts.{is_new}
use Rattle.stripe_book.specs.declared.view.Phase.TheVariants.{Idle}
use Rattle.class_store.proofs.Offers.{again_reply, new_reply, again_set, new_set, inserted}
use Rattle.class_store.proofs.offer_batch.enter_one.Goals as goal

pub enter_call-requires-clause-reply : goal.enter_call-requires-clause-reply
enter_call-requires-clause-reply c = again_reply c.args.set.now.keys c.args.book.now.history c.args.key c.requires.replayed
    (c.contains.ensures.0 c.if-contains.true)

pub returns-then-contains-clause-book : goal.returns-then-contains-clause-book
returns-then-contains-clause-book c =
    let reply = again_reply c.args.set.now.keys c.args.book.now.history c.args.key c.requires.replayed (c.contains.ensures.0 c.if-contains.true) in
    c.enter_call.ensures.book ∙ ap (λ r. record c.args.book.now {
      history = c.args.book.now.history ++ entry c.args.caller.now.number
          (length c.args.caller.now.mine) c.args.key r ∷ [];
    }) reply

pub returns-then-contains-clause-caller : goal.returns-then-contains-clause-caller
returns-then-contains-clause-caller c =
    let reply = again_reply c.args.set.now.keys c.args.book.now.history c.args.key c.requires.replayed (c.contains.ensures.0 c.if-contains.true) in
    c.enter_call.ensures.caller ∙ ap₂ (λ s r. record c.args.caller.now {
      phase = Idle;
      seen = s;
      mine = c.args.caller.now.mine ++ entry c.args.caller.now.number (length c.args.caller.now.mine) c.args.key r ∷ [];
    })
    (sym (ap (λ b. b.history) c.enter_call.ensures.book)) reply

pub returns-then-contains-clause-replayed : goal.returns-then-contains-clause-replayed
returns-then-contains-clause-replayed c =
    again_set c.args.set.now.keys c.args.book.now.history _ _ c.args.key c.requires.replayed (c.contains.ensures.0 c.if-contains.true)
    ∙ ap keys_after (sym (ap (λ b. b.history) c.enter_call.ensures.book))

pub returns-then-contains-clause-told : goal.returns-then-contains-clause-told
returns-then-contains-clause-told c = ap is_new
    (again_reply c.args.set.now.keys c.args.book.now.history c.args.key c.requires.replayed (c.contains.ensures.0 c.if-contains.true))

pub enter_call-requires-2-clause-reply : goal.enter_call-requires-2-clause-reply
enter_call-requires-2-clause-reply c =
    let missing : ¬ (Contains c.args.set.now.keys c.args.key) = λ there. false≢true (sym c.if-contains.false ∙ c.contains.ensures.1 there) in
    new_reply c.args.set.now.keys c.args.book.now.history c.args.key c.requires.replayed missing

pub returns-clause-book : goal.returns-clause-book
returns-clause-book c =
    let missing : ¬ (Contains c.args.set.now.keys c.args.key) = λ there. false≢true (sym c.if-contains.false ∙ c.contains.ensures.1 there) in
    let reply = new_reply c.args.set.now.keys c.args.book.now.history c.args.key c.requires.replayed missing in
    c.enter_call-2.ensures.book ∙ ap (λ r. record c.args.book.now {
      history = c.args.book.now.history ++ entry c.args.caller.now.number
          (length c.args.caller.now.mine) c.args.key r ∷ [];
    }) reply

pub returns-clause-caller : goal.returns-clause-caller
returns-clause-caller c =
    let missing : ¬ (Contains c.args.set.now.keys c.args.key) = λ there. false≢true (sym c.if-contains.false ∙ c.contains.ensures.1 there) in
    let reply = new_reply c.args.set.now.keys c.args.book.now.history c.args.key c.requires.replayed missing in
    c.enter_call-2.ensures.caller ∙ ap₂ (λ s r. record c.args.caller.now {
      phase = Idle;
      seen = s;
      mine = c.args.caller.now.mine ++ entry c.args.caller.now.number (length c.args.caller.now.mine) c.args.key r ∷ [];
    })
    (sym (ap (λ b. b.history) c.enter_call-2.ensures.book)) reply

pub returns-clause-replayed : goal.returns-clause-replayed
returns-clause-replayed c =
    let missing : ¬ (Contains c.args.set.now.keys c.args.key) = λ there. false≢true (sym c.if-contains.false ∙ c.contains.ensures.1 there) in
    new_set c.args.set.now.keys c.insert.new.self.keys c.args.book.now.history _ _ c.args.key c.requires.replayed missing
    (inserted _ _ _ _ _ _ c.in-Ok.ensures.answer missing) ∙ ap keys_after (sym (ap (λ b. b.history) c.enter_call-2.ensures.book))

pub returns-clause-told : goal.returns-clause-told
returns-clause-told c =
    let missing : ¬ (Contains c.args.set.now.keys c.args.key) = λ there. false≢true (sym c.if-contains.false ∙ c.contains.ensures.1 there) in
    ap is_new (new_reply c.args.set.now.keys c.args.book.now.history c.args.key c.requires.replayed missing)
