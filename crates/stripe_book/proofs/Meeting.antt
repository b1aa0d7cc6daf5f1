-- What `meet` shows.
use Rattle.std.proofs.Common.{◌≡◌, Bool, true, false, List, [], ◌∷◌, length, cond, ltb, refl, ap, ◌∙◌, subst, ⊎_elim, ltb-false}
use mathlib.Core.List.{IsPrefix}
use Rattle.histories.specs.declared.entry.Entry.{Entry}
use Rattle.stripe_book.specs.declared.view.Phase.TheVariants.{Entered}
use Rattle.stripe_book.specs.declared.view.Note.TheVariants.{OfBook}
use Rattle.stripe_book.specs.declared.view.Hand.{Hand}
use Rattle.histories.specs.History.{calls_by}
use Rattle.stripe_book.specs.Rule.{hand, Lags}
use Rattle.stripe_book.specs.Seen.{Settled}
use Rattle.stripe_book.specs.Steps.{longest, seen_in, met, traded, OfTheBook, Learns, Trades}
use Rattle.histories.proofs.Beginnings.{prefix_trans, prefix_whole}
use Rattle.stripe_book.proofs.Talks.{all_in}

longer_whole : (xs ys : List Entry) → IsPrefix xs ys → (b : Bool) → ltb (length xs) (length ys) ≡ b → cond b ys xs ≡ ys
longer_whole xs ys p true e = refl
longer_whole xs ys p false e = prefix_whole xs ys p (ltb-false _ _ e)

module _ (h : Hand) (history : List Entry) (entered : h.phase ≡ Entered) (l : Learns h) (t : Trades (met h) history) where
  pub met_seen : (met h).trace.seen ≡ longest h.trace.seen h.notes
  met_seen = ap (λ p. seen_in p h.trace.seen h.notes) entered

  top : IsPrefix (longest h.trace.seen h.notes) history
  top = subst (λ s. IsPrefix s history) met_seen t.0

  pub meets_seen : IsPrefix h.trace.seen history
  meets_seen = prefix_trans h.trace.seen (longest h.trace.seen h.notes) history l.1 top

  pub meets_between : Lags Entered (calls_by h.trace.number h.trace.seen) h.trace.mine
  meets_between = subst (λ p. Lags p (calls_by h.trace.number h.trace.seen) h.trace.mine) entered l.0

  pub meets_calls : Settled Entered h.trace.number h.trace.seen h.trace.mine h.notes → calls_by h.trace.number history ≡ h.trace.mine
  meets_calls s = ⊎_elim
      (λ a. all_in Entered h.trace.number h.trace.seen h.trace.mine history a.1 meets_seen t.2)
      (λ a. let told = subst (OfTheBook (λ g. IsPrefix (calls_by h.trace.number g) h.trace.mine × IsPrefix g (longest h.trace.seen h.notes))) a.2 l.2 in
      all_in Entered h.trace.number a.0 h.trace.mine history a.3 (prefix_trans a.0 (longest h.trace.seen h.notes) history told.0.1 top) t.2)
      s

  pub trades_seen : (traded (met h) history).trace.seen ≡ history
  trades_seen = ap (λ p. seen_in p (met h).trace.seen (OfBook history ∷ [])) entered
      ∙ longer_whole (met h).trace.seen history t.0 (ltb (length (met h).trace.seen) (length history)) refl

  pub traded_hand : traded (met h) history ≡ hand h.trace.number Entered history h.trace.mine []
  traded_hand = (λ i. hand h.trace.number (entered i) (trades_seen i) h.trace.mine [])
