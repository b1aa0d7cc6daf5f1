-- Which bytes are a whole head.
use Rattle.std.proofs.Common.{◌≡◌, ◌∙◌, ℕ, ◌≤◌, List, ◌++◌, length, take, drop, refl, sym, ap, subst, arith, take-append-drop, length-append}
use Rattle.std.specs.Prelude.{codes}
use Rattle.std.proofs.lemmas.List.{take_at, drop_at}
use Rattle.formats.specs.Request.{Request, StandsFor}
use Rattle.formats.specs.Listing.{head_statements, text_of_statements, head_text}
use Rattle.formats.proofs.Heads.{head_stands}
use Rattle.formats.proofs.Unique.{request_same}
use Rattle.resume_formats.specs.Cut.{BeginsWithHead}
use Rattle.resume_formats.specs.Heads.{IsHeadOf}

-- behind the first line stands a text of the request
pub lines_stand : (q : Request) (head : List ℕ) → IsHeadOf q head → StandsFor (drop 16 head) q
unfolding head_text
lines_stand q head h =
    subst (λ (t : List ℕ). StandsFor t q)
    (sym (ap (λ (t : List ℕ). drop 16 t) h.is ∙ drop_at (codes "macek listing 1\n") (text_of_statements (head_statements q)) 16 refl))
    (head_stands h.asking q h.stands)

-- so a request that is read there is it
pub request_is : (q r : Request) (head : List ℕ) → IsHeadOf q head → StandsFor (drop 16 head) r → r ≡ q
request_is q r head h stands = request_same (drop 16 head) r q stands (lines_stand q head h)

-- a head isn't too long
pub head_short : (q : Request) (asking : List ℕ) → StandsFor asking q → length (head_text q) ≤ 65552
unfolding head_text
head_short q asking stands =
    let s = head_stands asking q stands in
    omega (arith, s.short, length-append (codes "macek listing 1\n") (text_of_statements (head_statements q)))

-- a head at the front of a text
pub begins_there : (q : Request) (text : List ℕ) (k : ℕ) → IsHeadOf q (take k text) → BeginsWithHead q text
begins_there q text k h = record {
  asking = h.asking;
  stands = h.stands;
  all_forms = h.all_forms;
  head = (drop k text, sym (take-append-drop k text) ∙ ap (λ (t : List ℕ). t ++ drop k text) h.is);
}

-- and the place where it ends
pub ends_there : (q : Request) (text : List ℕ) → BeginsWithHead q text → IsHeadOf q (take (length (head_text q)) text)
ends_there q text b = record {
  asking = b.asking;
  stands = b.stands;
  all_forms = b.all_forms;
  is = ap (λ (t : List ℕ). take (length (head_text q)) t) b.head.1 ∙ take_at (head_text q) b.head.0 (length (head_text q)) refl;
}

pub ends_within : (q : Request) (text : List ℕ) → BeginsWithHead q text → length (head_text q) ≤ length text
ends_within q text b = omega (arith, ap length b.head.1, length-append (head_text q) b.head.0)
