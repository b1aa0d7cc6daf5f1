use Rattle.std.proofs.Common.{◌≡◌, ◌<◌, ◌+◌, ◌-◌, ◌*◌, ◌/◌, ◌%◌, ◌^◌, ◌∷◌, [], ◌++◌, ℕ, List, inl, inr, length, length-append, slice_index, sym, ◌∙◌, ap, arith}
use Rattle.std.proofs.lemmas.Bool.{cases_lt}
use Rattle.std.proofs.Math.Seq.{get_or-append_seam}
use Rattle.std.proofs.Math.ListN.{get_or-append}
use Rattle.form_states.proofs.Powers.{sixteens}
use Rattle.fast_form.proofs.form.digits_of.Goals as goal

-- one more digit at the end
one_more : (number width e : ℕ) (items longer : List ℕ) → longer ≡ items ++ (number / 2 ^ (4 * (width - 1 - e)) % 16) ∷ [] → length items ≡ e
    → ((j : ℕ) → j < e → slice_index items j ≡ number / 16 ^ (width - 1 - j) % 16) → (j : ℕ) → j < e + 1 → slice_index longer j ≡ number / 16 ^
    (width - 1 - j) % 16
one_more number width e items longer is n h j l = ap (λ (w : List ℕ). slice_index w j) is ∙ elim (cases_lt j e) [
  | inl b ↦ get_or-append items (number / 2 ^ (4 * (width - 1 - e)) % 16 ∷ []) 0 j (omega arith) ∙ h j b
  | inr b ↦ (let z : length items ≡ j = omega arith in let y : e ≡ j = omega arith in
      ap (slice_index (items ++ (number / 2 ^ (4 * (width - 1 - e)) % 16) ∷ [])) (sym z) ∙ get_or-append_seam items (number / 2 ^ (4 * (width - 1 - e)) % 16)
      [] 0
      ∙ ap (λ v. number / v % 16) (sixteens (width - 1 - e)) ∙ ap (λ e. number / 16 ^ (width - 1 - e) % 16) y)
]

pub loop-e-preserved : goal.loop-e-preserved
loop-e-preserved c = record {
  size = ap (λ (w : List ℕ). length w) c.push.ensures.items ∙ length-append c.loop-e.digits.items _ ∙
      (let n : length c.loop-e.digits.items ≡ c.loop-e.e = c.loop-e.invariant.size in omega arith);
  digits = one_more c.args.number c.args.width c.loop-e.e c.loop-e.digits.items c.push.new.self.items c.push.ensures.items c.loop-e.invariant.size
      c.loop-e.invariant.digits;
}
