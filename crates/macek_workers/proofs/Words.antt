-- From the words that were read to what they ask for.
use Rattle.std.proofs.Common.{◌≡◌, ◌≢◌, ◌∙◌, ℕ, false, List, [], ◌∷◌, Option, None, Some, refl, ap, sym, subst}
use Rattle.std.specs.Prelude.{filter_map, MatchOption, option_to_list, unwrap_or}
use Rattle.formats.specs.declared.refusal.Refusal.{Refusal}
use Rattle.formats.specs.Request.{Request, StandsFor}
use Rattle.formats.specs.Words.{Piece, IsCommand, StandsAtMacek, AsksForKnownText, sample_in, sample_text}
use Rattle.formats.specs.Run.{AsksForRefused, Gains}
use Rattle.command_words.specs.declared.read.Asked.{Asked}
use Rattle.command_words.specs.Asking.{IsAsked, workers_in}
use Rattle.command_words.proofs.AskedTexts.{asks_text}
use Rattle.command_words.proofs.Readings.{one_reading}
use Rattle.macek_run.specs.Run.{AreAccepted, NameSample, Lists, LeavesRefused, ListsLeft}
use Rattle.macek_workers.specs.Stored.{AskForWorkers}

-- what was read of the words
pub asked_from : (words : List (List ℕ)) (o : Option Asked) (asked : Asked) (sample : Option ℕ)
    → MatchOption o ((pieces : List Piece) → IsCommand StandsAtMacek words pieces → ⊥) (λ a. IsAsked StandsAtMacek words a.workers a.sample false)
    → o ≡ Some asked → asked.sample ≡ sample → IsAsked StandsAtMacek words asked.workers sample false
asked_from words None asked sample reads is at = cc (is)
asked_from words (Some a) asked sample reads is at =
    let e : a ≡ asked = cc (is) in
    subst (λ (s : Option ℕ). IsAsked StandsAtMacek words asked.workers s false) at
    (subst (λ (b : Asked). IsAsked StandsAtMacek words b.workers b.sample false) e reads)

module _ (words : List (List ℕ)) (left : Option (List ℕ)) (workers : Option ℕ) where
  -- what is asked for without a sample is what is left
  pub none_lists : (before after : Option (List ℕ)) (Part : Request → List ℕ → Type 0) → IsAsked StandsAtMacek words workers None false
      → ListsLeft left before after Part → Lists StandsAtMacek words left before after Part
  none_lists before after Part asked l = record {
    request = l.request;
    asks = record { text = l.text; asked = asks_text words workers None false asked left l.text l.is_left; stands = l.stands };
    gains = l.gains;
  }

  pub none_refused : (why : Refusal) → IsAsked StandsAtMacek words workers None false → LeavesRefused left why
      → AsksForRefused StandsAtMacek words left why
  none_refused why asked l = record {
    text = l.text;
    asked = asks_text words workers None false asked left l.text l.is_left;
    refused = l.refused;
  }

  -- and with a sample its text
  pub sample_lists : (k : ℕ) (q : Request) (before after : Option (List ℕ)) (Part : Request → List ℕ → Type 0)
      → IsAsked StandsAtMacek words workers (Some k) false → StandsFor (sample_text k) q → Gains before after (Part q)
      → Lists StandsAtMacek words left before after Part
  sample_lists k q before after Part asked stands gains = record {
    request = q;
    asks = record { text = sample_text k; asked = asks_text words workers (Some k) false asked left (sample_text k) refl; stands = stands };
    gains = gains;
  }

  pub asked_accepted : (sample : Option ℕ) → IsAsked StandsAtMacek words workers sample false → AreAccepted StandsAtMacek words
  asked_accepted sample asked = (asked.pieces, asked.command)

  some_sample : (l : List ℕ) (k : ℕ) → l ≡ k ∷ [] → l ≢ []
  some_sample l k is none = cc (is, none)

  pub names_sample : (k : ℕ) → IsAsked StandsAtMacek words workers (Some k) false → NameSample StandsAtMacek words
  names_sample k asked = record { pieces = asked.pieces; command = asked.command; named = some_sample _ k asked.sample_is }

  -- words without a sample name none
  pub no_sample : IsAsked StandsAtMacek words workers None false → NameSample StandsAtMacek words → ⊥
  no_sample asked named =
      named.named (ap (filter_map sample_in) (one_reading words named.pieces asked.pieces named.command asked.command) ∙ asked.sample_is)

  pub known_accepted : (text : List ℕ) → AsksForKnownText StandsAtMacek words left text → AreAccepted StandsAtMacek words
  known_accepted text asked = (asked.pieces, asked.command)

  one_number : (a b : Option ℕ) → option_to_list a ≡ option_to_list b → a ≡ b
  one_number None None e = refl
  one_number None (Some b) e = absurd (cc e)
  one_number (Some a) None e = absurd (cc e)
  one_number (Some a) (Some b) e = let same : a ≡ b = cc e in ap Some same

  -- the words ask for one number of workers
  pub workers_asked : (sample : Option ℕ) (n : ℕ) → IsAsked StandsAtMacek words workers sample false → AskForWorkers words n → unwrap_or workers 4 ≡ n
  workers_asked sample n asked ask =
      let named : option_to_list workers ≡ option_to_list ask.named = sym asked.workers_are
      ∙ (ap (filter_map workers_in) (one_reading words asked.pieces ask.pieces asked.command ask.command) ∙ ask.workers_are) in
      ap (λ o. unwrap_or o 4) (one_number workers ask.named named) ∙ sym ask.count
