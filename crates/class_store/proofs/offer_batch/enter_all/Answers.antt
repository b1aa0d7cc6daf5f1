use Rattle.std.proofs.Common.{rules, ◌≡◌, zero, suc, ◌+◌, ◌-◌, ◌^◌, min, ap, sym, ◌∙◌, [], ◌∷◌, ◌++◌, length, arith, cond}
use Rattle.histories.specs.SetObject.{keys_after, reply_to}
use Rattle.histories.specs.History.{entry}
use Rattle.class_store.proofs.Offers.{one_more}
use Rattle.class_store.proofs.Batching.{room_next, going_next, news_then, news_else, few_next}
use Rattle.class_store.proofs.offer_batch.enter_all.Goals.{then-enter_one, else-enter_one}
use Rattle.class_store.proofs.offer_batch.enter_all.Goals as goal

pub loop-preserved : goal.loop-preserved
loop-preserved c =
    let i = c.loop.invariant in
    let e : c.loop.keys ≡ c.in-Some.key ∷ c.next.new.self = search rules in
    let history = ap (λ b. b.history) c.enter_one.ensures.book in
    let number = i.6 in
    let n : c.if-enter_one.news ≡ c.loop.news + cond c.enter_one.result
    (suc zero) zero = elim c.if-enter_one.branch [
      | then-enter_one w ↦ news_then _ _ _ w.if-enter_one.true w.news-is
      | else-enter_one w ↦
          news_else _ _ _ w.if-enter_one.false w.news-is
    ] in
    let news = n ∙ ap (λ b. c.loop.news + cond b (suc zero) zero) c.enter_one.ensures.told in
    let more : c.saturating_add-entries.result ≡ min (c.loop.entries + 1) (2 ^ 64 - 1) = search rules in (
      c.enter_one.ensures.replayed,
      one_more c.loop.entries c.saturating_add-entries.result c.loop.book.history _ i.1 more ∙ ap (λ h. min (length h) (2 ^ 64 - 1)) (sym history),
      room_next c.loop.set.keys c.enter_one.new.set.keys c.loop.keys c.next.new.self c.loop.set.spare c.enter_one.new.set.spare c.in-Some.key i.2 e
          c.enter_one.ensures.spare (λ there. ap (λ v. v.keys) (c.enter_one.ensures.stays there)),
      going_next c.args.caller.now.number c.loop.counter
          (c.loop.counter + 1) c.loop.news c.if-enter_one.news _ c.loop.keys c.next.new.self _ _ _ _ c.loop.book.history c.loop.caller.mine
          c.loop.caller.seen c.enter_one.new.book.history c.enter_one.new.caller.mine c.enter_one.new.caller.seen c.in-Some.key
          i.3 e
          (history ∙ ap (λ k. c.loop.book.history ++ entry k (length c.loop.caller.mine) c.in-Some.key
          (reply_to (keys_after c.loop.book.history) c.in-Some.key) ∷ []) number)
          (ap (λ v. v.mine) c.enter_one.ensures.caller
          ∙ ap (λ k. c.loop.caller.mine ++ entry k (length c.loop.caller.mine) c.in-Some.key
          (reply_to (keys_after c.loop.book.history) c.in-Some.key) ∷ []) number)
          (ap (λ v. v.seen) c.enter_one.ensures.caller)
          news
          (few_next c.enter_one.result c.loop.news c.if-enter_one.news c.loop.counter (c.loop.counter + 1) n i.3.few (omega arith))
          (omega arith),
      ap (λ b. b.table) c.enter_one.ensures.book ∙ i.4,
      ap (λ v. v.table) c.enter_one.ensures.caller ∙ i.5,
      ap (λ v. v.number) c.enter_one.ensures.caller ∙ i.6,
      ap (λ v. v.phase) c.enter_one.ensures.caller,
      (let l = i.8 in let m = ap length e in omega (arith, l, m)),
      λ _. c.enter_one.ensures.calls,
    )
