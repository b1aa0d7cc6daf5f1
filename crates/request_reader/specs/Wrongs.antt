-- What may be wrong with what a line says, after others.
use Rattle.std.specs.Prelude.{ℕ, ◌≡◌, ◌≢◌, ◌<◌, ◌≤◌, List}
use Rattle.formats.specs.declared.refusal.Refusal.{Refusal}
use Rattle.formats.specs.declared.refusal.Refusal.TheVariants as refusal
use Rattle.formats.specs.Statement.{Statement, kind_number, forbid_kind, most_of_kind, named_elements}
use Rattle.formats.specs.Request.{count_of_kind}
use Rattle.request_reader.specs.declared.values.Wrong.{Wrong}
use Rattle.request_reader.specs.declared.values.Wrong.TheVariants as wrong

-- this is wrong with the entry after those that were said
abbrev pub IsWrong : List Statement → Statement → Wrong → Type 0
IsWrong before entry wrong.Again = (kind_number entry ≢ forbid_kind) × (most_of_kind (kind_number entry) ≤ count_of_kind (kind_number entry) before)
IsWrong before entry wrong.NinthForbid = (kind_number entry ≡ forbid_kind) × (most_of_kind forbid_kind ≤ count_of_kind forbid_kind before)
IsWrong before entry wrong.TooBig = (count_of_kind (kind_number entry) before < most_of_kind (kind_number entry)) × (10 < named_elements entry)

-- the refusal of a text in whose line of this number that is wrong
abbrev pub refusal_at : Wrong → ℕ → Refusal
refusal_at wrong.Again line = refusal.Twice line
refusal_at wrong.NinthForbid line = refusal.TooManyForbidden line
refusal_at wrong.TooBig line = refusal.ForbidTooBig line
