-- Each text stands for a request or has a refusal.
use Rattle.std.proofs.Common.{◌≡◌, ℕ, ◌+◌, ◌≤◌, refl, arith, List, [], ◌∷◌, length, inl, inr, ◌⊎◌, Option, None, Some}
use Rattle.std.specs.Prelude.{filter_map, option_to_list, if◌then◌else◌}
use Rattle.std.specs.List.{list_any}
use Rattle.std.proofs.lemmas.Bool.{cases_lt}
use Rattle.matroid_theory.specs.declared.Mode.TheVariants.{Linear, Semilinear}
use Rattle.formats.specs.declared.refusal.PrintMode.TheVariants.{Forms, Counts}
use Rattle.formats.specs.declared.refusal.Word.TheVariants.{Rank, Field, Size}
use Rattle.formats.specs.declared.refusal.Refusal.{Refusal}
use Rattle.formats.specs.declared.refusal.Refusal.TheVariants as refusal
use Rattle.formats.specs.Lines.{lines_of}
use Rattle.formats.specs.Statement.{MinorName, Statement, ListsConnected, ListsThreeConnected, ListsCosimple, ListsDistinct}
use Rattle.formats.specs.Request.{Request, version_of, rank_in, field_in, size_in, forbidden_in}
use Rattle.formats.specs.Request.{wanted_in, has_kind, prints_counts, asks_semilinear, column_count, most_bytes, most_columns, StandsFor}
use Rattle.formats.specs.Refusal.{Fault, NoForm, Again, NinthForbid, TooBig, FirstFault, NoFault, AreValues, HasValues, HasRefusal}
use Rattle.formats.proofs.KindCounts.{rank_count, field_count, size_count, wanted_count}
use Rattle.existence.proofs.Deciding.{both, at_most}
use Rattle.request_laws.proofs.Walks.{AtFault, lines_walked}

-- a list of one element at most
one_or_none : {X : Type 0} (xs : List X) → length xs ≤ 1 → (xs ≡ []) ⊎ ((x : X) × (xs ≡ x ∷ []))
one_or_none [] l = inl refl
one_or_none (x ∷ []) l = inr (x, refl)
one_or_none (x ∷ y ∷ xs) l = absurd (omega arith)

-- a list of one element is not empty
not_empty : {X : Type 0} (xs : List X) (x : X) → xs ≡ x ∷ [] → ¬ (xs ≡ [])
not_empty xs x e f = cc

-- a list of at most one element, as an option
as_option : {X : Type 0} (xs : List X) → length xs ≤ 1 → (o : Option X) × (xs ≡ option_to_list o)
as_option [] l = (None, refl)
as_option (x ∷ []) l = (Some x, refl)
as_option (x ∷ y ∷ xs) l = absurd (omega arith)

module _ (text : List ℕ) where
  abbrev Answered : Type 0
  Answered = ((q : Request) × StandsFor text q) ⊎ ((why : Refusal) × HasRefusal text why)

  -- the refusal of a line at fault
  at_line : (short : length text ≤ most_bytes) (w : AtFault (version_of text) (lines_of text)) → (fault : Fault) → FirstFault text (length w.before + 1) fault
      → Answered
  at_line short w NoForm f = inr (refusal.BadLine (length w.before + 1), f)
  at_line short w Again f = inr (refusal.Twice (length w.before + 1), f)
  at_line short w NinthForbid f = inr (refusal.TooManyForbidden (length w.before + 1), f)
  at_line short w TooBig f = inr (refusal.ForbidTooBig (length w.before + 1), f)

  -- a text with a line at fault is refused
  faulty : length text ≤ most_bytes → AtFault (version_of text) (lines_of text) → Answered
  faulty short w = at_line short w w.fault (record {
    short = short;
    before = w.before;
    line = w.line;
    after = w.after;
    split = w.split;
    place = refl;
    said = w.said;
    says = w.says;
    in_order = w.in_order;
    counts = w.counts;
    wrong = w.wrong;
  })

  module _ (es : List Statement) (none : NoFault text es) where
    with_values : (rank : ℕ) (factors : List ℕ) (size : ℕ) → AreValues es rank factors size → Answered
    with_values rank factors size v = elim (both (at_most 1 rank) (λ _. at_most rank 6)) [
      | inr bad ↦ inr (refusal.Rank rank, (factors, size, values, λ w. bad (w.0, w.1)))
      | inl r ↦ elim (both (at_most rank size) (λ _. at_most size 16)) [
        | inr bad ↦ inr (refusal.Size size, (rank, factors, values, (r.0, r.1), λ w. bad (w.0, w.1)))
        | inl s ↦ elim (cases_lt most_columns (column_count rank factors)) [
          | inl wide ↦ inr (refusal.TooWide (column_count rank factors), (rank, factors, size, values, (r.0, r.1), (s.0, s.1), refl, wide))
          | inr few ↦ inl (
            request,
            record {
              short = none.short;
              version = refl;
              entries = es;
              said = none.said;
              in_order = none.in_order;
              asked = record {
                rank = v.rank_said;
                field = v.field_said;
                size = v.size_said;
                forbid = refl;
                connected = refl;
                three_connected = refl;
                cosimple = refl;
                distinct = refl;
                has = wanted.1;
                print = refl;
                mode = refl;
              };
              limits = record { rank = (r.0, r.1); size = (s.0, s.1); columns = few };
            },
          )
        ]
      ]
    ]
      where
        values : HasValues text rank factors size
        values = record { entries = es; none = none; values = v }

        wanted : (o : Option MinorName) × (filter_map wanted_in es ≡ option_to_list o)
        wanted = as_option (filter_map wanted_in es) (let o = none.in_order in omega (arith, wanted_count es, o.not_often 9))

        request : Request
        request = record {
          factors = factors;
          rank = rank;
          size = size;
          forbid = filter_map forbidden_in es;
          connected = has_kind ListsConnected es;
          three_connected = has_kind ListsThreeConnected es;
          cosimple = has_kind ListsCosimple es;
          distinct = has_kind ListsDistinct es;
          has = wanted.0;
          print = if list_any prints_counts es then Counts else Forms;
          mode = if list_any asks_semilinear es then Semilinear else Linear;
          version = version_of text;
        }

    in_order : Answered
    in_order =
        let o = none.in_order in
        elim (one_or_none (filter_map rank_in es) (omega (arith, rank_count es, o.not_often 1))) [
          | inl e ↦ inr (refusal.Missing Rank, (es, none, e))
          | inr r ↦ elim (one_or_none (filter_map field_in es) (omega (arith, field_count es, o.not_often 2))) [
            | inl e ↦ inr (refusal.Missing Field, (es, none, (not_empty _ r.0 r.1, e)))
            | inr f ↦ elim (one_or_none (filter_map size_in es) (omega (arith, size_count es, o.not_often 3))) [
              | inl e ↦ inr (refusal.Missing Size, (es, none, (not_empty _ r.0 r.1, not_empty _ f.0 f.1, e)))
              | inr s ↦ with_values r.0 f.0 s.0 (record { rank_said = r.1; field_said = f.1; size_said = s.1 })
            ]
          ]
        ]

  -- each text
  pub answered : Answered
  answered = elim (cases_lt most_bytes (length text)) [
    | inl long ↦ inr (refusal.TooLong, long)
    | inr short ↦ elim (lines_walked (version_of text) (lines_of text)) [
      | inl w ↦ in_order w.said (record { short = short; said = w.says; in_order = w.in_order })
      | inr w ↦ faulty short w
    ]
  ]
