-- Worked examples: the laws at a small request, and at a text that isn't one.
use Rattle.std.proofs.Common.{◌≡◌, ℕ, ◌≤◌, refl, arith, List, [], ◌∷◌, inl, inr, ◌⊎◌, None, false, lit<, lit≤}
use Rattle.std.specs.Prelude.{codes}
use Rattle.std.specs.Fmt.{digits}
use Rattle.std.proofs.lemmas.Bool.Decides.{nat_tests}
use Rattle.matroid_theory.specs.declared.Mode.TheVariants.{Linear}
use Rattle.matroid_theory.specs.Level.{Filters, IsListed}
use Rattle.formats.specs.declared.refusal.PrintMode.TheVariants.{Forms}
use Rattle.formats.specs.declared.refusal.Word.TheVariants.{Field}
use Rattle.formats.specs.declared.refusal.Refusal.TheVariants as refusal
use Rattle.formats.specs.Statement.{Statement, RankIs, FieldIs, SizeIs}
use Rattle.formats.specs.Request.{Request, StandsFor, count_of_kind}
use Rattle.formats.specs.Statement.{most_of_kind}
use Rattle.formats.specs.Refusal.{HasRefusal}
use Rattle.formats.specs.Listing.{LevelEntry, text_of_statements, head_text, level_text, form_text, end_text}
use Rattle.formats.specs.Levels.{IsLevelEntry, IsListing, columns_of}
use Rattle.formats.proofs.Heads.{small_stands, binary_field}
use Rattle.formats.proofs.OneListing.{listing_same}
use Rattle.formats.proofs.Unique.{not_both, refusal_same}
use Rattle.existence.proofs.Examples.{unit3, binary3, level3}
use Rattle.request_laws.specs.Answered.{StandsForSome, HasSomeRefusal, HasListing}
use Rattle.request_laws.proofs.Listings.{listing_exists}

-- ---- rank 3 over GF(2), of size 3 alone

abbrev small : Request
small = record {
  factors = 2 ∷ [];
  rank = 3;
  size = 3;
  forbid = [];
  connected = false;
  three_connected = false;
  cosimple = false;
  distinct = false;
  has = None;
  print = Forms;
  mode = Linear;
  version = 1;
}

small_text : List ℕ
small_text = text_of_statements (FieldIs (2 ∷ []) ∷ RankIs 3 ∷ SizeIs 3 ∷ [])

small_text-spelled : small_text ≡ codes "field 2\nrank 3\nsize 3\n"
unfolding small_text digits
small_text-spelled = refl

small_often : (kind : ℕ) → count_of_kind kind (FieldIs (2 ∷ []) ∷ RankIs 3 ∷ SizeIs 3 ∷ []) ≤ most_of_kind kind
small_often kind = grind (arith, nat_tests)

stands : StandsFor small_text small
unfolding small_text digits
stands =
    small_stands (FieldIs (2 ∷ []) ∷ RankIs 3 ∷ SizeIs 3 ∷ []) small refl (
      record { may = record { some = lit< tt; few = lit≤ tt; fields = binary_field }; not_big = lit≤ tt },
      (record { may = lit< tt; not_big = lit≤ tt }, (record { may = lit< tt; not_big = lit≤ tt }, tt)),
    )
    ((lit≤ tt, tt), (tt, (tt, tt))) (lit≤ tt) small_often
    (record {
      rank = refl;
      field = refl;
      size = refl;
      forbid = refl;
      connected = refl;
      three_connected = refl;
      cosimple = refl;
      distinct = refl;
      has = refl;
      print = refl;
      mode = refl;
    })
    (record { rank = (lit≤ tt, lit≤ tt); size = (lit≤ tt, lit≤ tt); columns = lit≤ tt })

abbrev no_filters : Filters
no_filters = record { connected = false; three = false; cosimple = false; distinct = false; has = None }

listed3 : IsListed binary3 3 no_filters (unit3 ∷ [])
listed3 = record {
  rising = level3.rising;
  exact = λ M. (let e = level3.exact M in (
    (λ c. (e.0 c, record { connected = λ t. cc; three = λ t. cc; cosimple = λ t. cc; has = tt; distinct = λ t. cc })),
    (λ w. e.1 w.0),
  ));
}

abbrev entry3 : LevelEntry
entry3 = record { size = 3; classes = 1; listed = columns_of unit3 ∷ []; tried = 0 }

told : IsLevelEntry small entry3
told = record {
  family = binary3;
  grows = record { factors_are = refl; rank_is = refl; mode_is = refl; forbids = tt };
  filters = no_filters;
  keeps = record { connected = refl; three = refl; cosimple = refl; distinct = refl; has = tt };
  forms = unit3 ∷ [];
  are_level = level3;
  classes_are = refl;
  shown = unit3 ∷ [];
  are_listed = listed3;
  listed_are = refl;
  tries = record { first = λ e. refl; later = λ l. absurd (omega arith) };
}

-- its listing, to the byte
abbrev small_listing : List ℕ
small_listing =
    codes "macek listing 1\nversion 1\nfield 2\nrank 3\nsize 3\nprint forms\nlevel 3 classes 1 listed 1 tried 0\n100 010 001\nend\n"

listing : IsListing small small_listing
unfolding head_text level_text form_text end_text digits
listing = record {
  levels = entry3 ∷ [];
  are = record { are_first = record { sizes = refl; at_most = lit≤ tt; each = (told, tt) }; are_all = refl };
  is = refl;
}

-- is the one that the law gives
listing_of_law : (w : HasListing small) → w.0 ≡ small_listing
listing_of_law w = listing_same small w.0 _ w.1 listing

small_has_listing : HasListing small
small_has_listing = listing_exists small_text small stands

-- and its text isn't refused
small_answered : StandsForSome small_text ⊎ HasSomeRefusal small_text → StandsForSome small_text
small_answered (inl w) = w
small_answered (inr w) = absurd (not_both small_text small w.0 stands w.1)

-- ---- a text without a field

abbrev lone : List Statement
lone = RankIs 3 ∷ []

lone_often : (kind : ℕ) → count_of_kind kind lone ≤ most_of_kind kind
lone_often kind = grind (arith, nat_tests)

lone_refused : HasRefusal (codes "rank 3\n") (refusal.Missing Field)
unfolding digits
lone_refused = (
  lone,
  record {
    short = lit≤ tt;
    said = record { may = (lit< tt, tt); of_version = (tt, tt); spelled = refl };
    in_order = record { not_often = lone_often; not_big = (lit≤ tt, tt) };
  },
  ((λ e. cc), refl),
)

lone_answered : (w : HasSomeRefusal (codes "rank 3\n")) → w.0 ≡ refusal.Missing Field
lone_answered w = refusal_same (codes "rank 3\n") w.0 (refusal.Missing Field) w.1 lone_refused
