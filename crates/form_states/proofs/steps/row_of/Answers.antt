use Rattle.std.proofs.Common.{◌≡◌, ◌≢◌, inl, inr, ◌<◌, ◌≤◌, ℕ, [], slice_index_or, arith}
use Rattle.std.proofs.lemmas.Bool.{cases_lt}
use Rattle.form_states.specs.Codes.{code}
use Rattle.form_states.proofs.steps.row_of.Goals as goal

-- a row that isn't 0 bounds the first of them
lead_below : (c : ℕ → ℕ) (p k : ℕ) → ((i : ℕ) → i < p → c i ≡ 0) → (i : ℕ) × (i ≤ k) × (c i ≢ 0) → p ≤ k
lead_below c p k z (i, l, n) = elim (cases_lt k p) [ inl b ↦ absurd (n (z i (omega arith))) | inr g ↦ g ]

pub returns : goal.returns
returns c =
    let l : c.lead.result ≤ c.args.k = lead_below (code (slice_index_or c.args.columns.now c.args.b []) 0) c.lead.result c.args.k c.lead.ensures.zeros
    c.requires.led in
    record {
      before = c.lead.ensures.zeros;
      p_most = l;
      nonzero = c.lead.ensures.nonzero (omega arith);
      minus_codes = c.negative_column.ensures.codes;
      opposite = c.negative_column.ensures.zeros;
      same = c.heads-class.ensures;
      other = c.other_heads-rest.ensures;
    }
