-- A text has one fault, or growth can start from it, in one way.
use Rattle.std.proofs.Common.{◌≡◌, ◌∙◌, ℕ, ◌+◌, List, refl, sym, ap, subst, arith}
use Rattle.formats.specs.Request.{Request}
use Rattle.formats.specs.Levels.{IsListing}
use Rattle.formats.proofs.OneListing.{listing_same}
use Rattle.resume_formats.specs.declared.fault.LevelFault.{LevelFault}
use Rattle.resume_formats.specs.declared.fault.LevelFault.TheVariants.{TooLong, Head, Differs, NoLevel, Less}
use Rattle.resume_formats.specs.Fronts.{BeginsWith, IsCommonFront, line_ends}
use Rattle.resume_formats.specs.Cut.{IsCutListing, IsWhole, IsLastWhole, CanStart}
use Rattle.resume_formats.specs.Fault.{PartsInLine, HasFault, HasFaultFor}
use Rattle.resume_formats.specs.Resumed.{CanResume, with_size}
use Rattle.resume_formats.proofs.FrontLemmas.{common_same}
use Rattle.resume_formats.proofs.HeadLemmas.{head_same, cut_same}

parts_in_one_line : (text : List ℕ) (m n : ℕ) → PartsInLine text m → PartsInLine text n → m ≡ n
parts_in_one_line text m n a b =
    let same : a.request ≡ b.request = head_same text a.request b.request a.head b.head in
    let listing : a.listing ≡ b.listing =
    listing_same b.request a.listing b.listing (subst (λ (q : Request). IsListing q a.listing) same a.is_listing) b.is_listing in
    let common : a.common ≡ b.common =
    common_same text b.listing a.common b.common (subst (λ (l : List ℕ). IsCommonFront text l a.common) listing a.is_common) b.is_common in
    a.line_is ∙ ap (λ (c : List ℕ). line_ends c + 1) common ∙ sym b.line_is

cut_never_parts : (text : List ℕ) (q : Request) (line : ℕ) → IsCutListing q text → PartsInLine text line → ⊥
cut_never_parts text q line a b =
    let same : q ≡ b.request = head_same text q b.request a.head b.head in
    let listing : a.listing ≡ b.listing =
    listing_same b.request a.listing b.listing (subst (λ (q : Request). IsListing q a.listing) same a.is_listing) b.is_listing in
    b.parts (subst (λ (l : List ℕ). BeginsWith l text) listing a.front)

-- ---- the four faults of a text

pub fault_same : (text : List ℕ) (v w : LevelFault) → HasFault text v → HasFault text w → v ≡ w
fault_same text TooLong TooLong a b = refl
fault_same text TooLong Head a b = absurd (omega (arith, a, b.0))
fault_same text TooLong (Differs n) a b = absurd (omega (arith, a, b.0))
fault_same text TooLong NoLevel a b = absurd (omega (arith, a, b.0))
fault_same text TooLong (Less n) a b = absurd b
fault_same text Head TooLong a b = absurd (omega (arith, a.0, b))
fault_same text Head Head a b = refl
fault_same text Head (Differs n) a b = absurd (a.1 b.1.request b.1.head)
fault_same text Head NoLevel a b = absurd (a.1 b.1.request b.1.cut.head)
fault_same text Head (Less n) a b = absurd b
fault_same text (Differs m) TooLong a b = absurd (omega (arith, a.0, b))
fault_same text (Differs m) Head a b = absurd (b.1 a.1.request a.1.head)
fault_same text (Differs m) (Differs n) a b = ap Differs (parts_in_one_line text m n a.1 b.1)
fault_same text (Differs m) NoLevel a b = absurd (cut_never_parts text b.1.request m b.1.cut a.1)
fault_same text (Differs m) (Less n) a b = absurd b
fault_same text NoLevel TooLong a b = absurd (omega (arith, a.0, b))
fault_same text NoLevel Head a b = absurd (b.1 a.1.request a.1.cut.head)
fault_same text NoLevel (Differs n) a b = absurd (cut_never_parts text a.1.request n a.1.cut b.1)
fault_same text NoLevel NoLevel a b = refl
fault_same text NoLevel (Less n) a b = absurd b
fault_same text (Less m) w a b = absurd a

pub start_never_faulty : (text : List ℕ) (q : Request) (n : ℕ) (why : LevelFault) → CanStart text q n → ¬ (HasFault text why)
start_never_faulty text q n TooLong start fault = absurd (omega (arith, start.short, fault))
start_never_faulty text q n Head start fault = fault.1 q start.cut.head
start_never_faulty text q n (Differs line) start fault = cut_never_parts text q line start.cut fault.1
start_never_faulty text q n NoLevel start fault =
    fault.1.none n (subst (λ (r : Request). IsWhole r n text) (cut_same text q fault.1.request start.cut fault.1.cut) start.last.whole)
start_never_faulty text q n (Less m) start fault = fault

-- ---- one start

pub start_request_same : (text : List ℕ) (q r : Request) (m n : ℕ) → CanStart text q m → CanStart text r n → q ≡ r
start_request_same text q r m n a b = cut_same text q r a.cut b.cut

last_same : (text : List ℕ) (q : Request) (m n : ℕ) → IsLastWhole q m text → IsLastWhole q n text → m ≡ n
last_same text q m n a b = omega (arith, a.greatest n b.whole, b.greatest m a.whole)

pub start_last_same : (text : List ℕ) (q r : Request) (m n : ℕ) → CanStart text q m → CanStart text r n → m ≡ n
start_last_same text q r m n a b =
    last_same text r m n (subst (λ (r : Request). IsLastWhole r m text) (start_request_same text q r m n a b) a.last) b.last

-- ---- for a wanted size

pub fault_for_same : (size : ℕ) (text : List ℕ) (v w : LevelFault) → HasFaultFor size text v → HasFaultFor size text w → v ≡ w
fault_for_same size text (Less m) (Less n) a b = ap Less (start_last_same text a.0 b.0 m n a.1 b.1)
fault_for_same size text (Less m) w a b = absurd (start_never_faulty text a.0 m w a.1 b)
fault_for_same size text v (Less n) a b = absurd (start_never_faulty text b.0 n v b.1 a)
fault_for_same size text v w a b = fault_same text v w a b

pub resumed_never_faulty : (size : ℕ) (text : List ℕ) (q : Request) (why : LevelFault) → CanResume size text q → ¬ (HasFaultFor size text why)
resumed_never_faulty size text q (Less n) resumed fault =
    let same : resumed.last ≡ n = start_last_same text resumed.start fault.0 resumed.last n resumed.can_start fault.1 in
    absurd (omega (arith, resumed.enough, fault.2))
resumed_never_faulty size text q why resumed fault = start_never_faulty text resumed.start resumed.last why resumed.can_start fault

pub resumed_same : (size : ℕ) (text : List ℕ) (q r : Request) → CanResume size text q → CanResume size text r → q ≡ r
resumed_same size text q r a b =
    a.asked ∙ ap (λ (s : Request). with_size s size) (start_request_same text a.start b.start a.last b.last a.can_start b.can_start) ∙ sym b.asked

-- a fault that a text has whatever is wanted, it has for each wanted size
pub fault_for : (size : ℕ) (text : List ℕ) (why : LevelFault) → HasFault text why → HasFaultFor size text why
fault_for size text TooLong fault = fault
fault_for size text Head fault = fault
fault_for size text (Differs line) fault = fault
fault_for size text NoLevel fault = fault
fault_for size text (Less n) fault = absurd fault
