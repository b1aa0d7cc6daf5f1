-- The text of entries has at most 128 bytes for each.
use Rattle.std.proofs.Common.{◌≡◌, ℕ, suc, ◌+◌, ◌*◌, ◌<◌, ◌≤◌, List, [], ◌∷◌, map, length, arith, length-append}
use Rattle.std.specs.Prelude.{codes, decimal, slice_index}
use Rattle.std.specs.List.{AllByRecursion, join_with_byte}
use Rattle.std.proofs.lemmas.Fmt.{length-decimal-le}
use Rattle.std.proofs.lemmas.List.{length-map}
use Rattle.matroid_theory.specs.Field.{IsOrder}
use Rattle.matroid_theory.specs.declared.Mode.TheVariants.{Linear, Semilinear}
use Rattle.formats.specs.declared.refusal.PrintMode.TheVariants.{Forms, Counts}
use Rattle.formats.specs.Lines.{line_of_words, parted}
use Rattle.formats.specs.Statement.{MinorName, Uniform, Fano, FanoDual, NonFano, KFour, KFive, ByMatrix, Statement, VersionIs, RankIs, FieldIs, SizeIs, EquivalenceIs, Forbids, ListsConnected, ListsThreeConnected, ListsCosimple, ListsDistinct, ListsWith, Prints, entry_letter, column_word, minor_words, IsNumber, IsMinorName, IsStatement, elements_of, spelling, named_elements}
use Rattle.formats.specs.Listing.{text_of_statements}
use Rattle.formats.proofs.Unique.{order_small}

-- the bytes of words and of what ends each
abbrev weight : List (List ℕ) → ℕ
weight [] = 0
weight (word ∷ words) = length word + 1 + weight words

joined_length : (words : List (List ℕ)) → length (join_with_byte 32 words) ≤ weight words
joined_length [] = omega arith
joined_length (word ∷ []) = omega arith
joined_length (word ∷ next ∷ more) = omega (arith, joined_length (next ∷ more), length-append word (32 ∷ join_with_byte 32 (next ∷ more)))

line_length : (words : List (List ℕ)) → length (line_of_words words) ≤ weight words + 1
line_length words = omega (arith, joined_length words, length-append (join_with_byte 32 words) (10 ∷ []))

number_length : (n : ℕ) → IsNumber n → length (decimal n) ≤ 9
number_length n lt = length-decimal-le 9 n (omega arith) (omega arith) (omega arith)

order_length : (n : ℕ) → n < 14 → length (decimal n) ≤ 2
order_length n lt = length-decimal-le 2 n (omega arith) (omega arith) (omega arith)

columns_weight : (rows : ℕ) (columns : List (List ℕ)) → rows ≤ 6 → AllByRecursion (λ column. length column ≡ rows) columns →
    weight (map column_word columns) ≤ 7 * length columns
columns_weight rows [] few all = omega arith
columns_weight rows (column ∷ columns) few all = omega (arith, length-map column entry_letter, all.0, columns_weight rows columns few all.1)

minor_weight : (minor : MinorName) → IsMinorName minor → elements_of minor ≤ 10 → weight (minor_words minor) ≤ 80
minor_weight (Uniform rank size) may few =
    omega (arith, number_length rank (omega (arith, may.low, may.short)), number_length size may.short, length-append (decimal rank) (44 ∷ decimal size))
minor_weight (ByMatrix order columns) may few =
    let height = may.height in
    let small = order_small order may.is_order in
    omega (arith, order_length order small, columns_weight height.0 columns height.2 height.3)
minor_weight Fano may few = omega arith
minor_weight FanoDual may few = omega arith
minor_weight NonFano may few = omega arith
minor_weight KFour may few = omega arith
minor_weight KFive may few = omega arith

factors_weight : (factors : List ℕ) → length factors ≤ 3 → ((f : ℕ) → f < length factors → IsOrder (slice_index factors f)) →
    weight (parted (codes "x") (map (λ order. decimal order ∷ []) factors)) ≤ 5 * length factors
factors_weight [] few all = omega arith
factors_weight (x ∷ []) few all = omega (arith, order_length x (order_small x (all 0 (omega arith))))
factors_weight (x ∷ y ∷ ys) few all =
    omega (arith, order_length x (order_small x (all 0 (omega arith))), factors_weight (y ∷ ys) (omega arith) (λ f l. all (suc f) (omega arith)))

-- what a line may say, of a matroid with at most ten elements
pub record IsSmall (entry : Statement) : Type 0 where
  pub may : IsStatement entry
  pub not_big : named_elements entry ≤ 10

entry_weight : (e : Statement) → IsSmall e → weight (spelling e) ≤ 127
entry_weight (VersionIs n) small = omega (arith, number_length n small.may)
entry_weight (RankIs n) small = omega (arith, number_length n small.may)
entry_weight (FieldIs factors) small = omega (arith, small.may.few, factors_weight factors small.may.few small.may.fields)
entry_weight (SizeIs n) small = omega (arith, number_length n small.may)
entry_weight (Forbids minor) small = omega (arith, minor_weight minor small.may small.not_big)
entry_weight ListsConnected small = omega arith
entry_weight ListsThreeConnected small = omega arith
entry_weight ListsCosimple small = omega arith
entry_weight ListsDistinct small = omega arith
entry_weight (ListsWith minor) small = omega (arith, minor_weight minor small.may small.not_big)
entry_weight (EquivalenceIs Linear) small = omega arith
entry_weight (EquivalenceIs Semilinear) small = omega arith
entry_weight (Prints Forms) small = omega arith
entry_weight (Prints Counts) small = omega arith

pub text_length : (entries : List Statement) → AllByRecursion IsSmall entries → length (text_of_statements entries) ≤ 128 * length entries
text_length [] all = omega arith
text_length (e ∷ entries) all =
    omega (
      arith,
      line_length (spelling e),
      entry_weight e all.0,
      text_length entries all.1,
      length-append (line_of_words (spelling e)) (text_of_statements entries),
    )
