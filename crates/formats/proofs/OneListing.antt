-- A request has one listing.
use Rattle.std.proofs.Common.{◌≡◌, ◌∙◌, ℕ, zero, suc, ◌+◌, ◌-◌, ◌≤◌, List, [], ◌∷◌, ◌++◌, map, length, Option, None, Some, refl, sym, ap, subst, arith}
use Rattle.std.specs.Prelude.{option_to_list}
use Rattle.std.specs.List.{AllByRecursion, range_with_len}
use Rattle.matroid_theory.specs.Minor.{Matroid}
use Rattle.matroid_theory.specs.Given.{Given}
use Rattle.matroid_theory.specs.Level.{Family, Filters, IsLevel, IsListed, IsLevelForm, Passes, IsTry}
use Rattle.matroid_laws.proofs.Levels.{rising_list_unique, count_unique}
use Rattle.matroid_laws.proofs.GivenLemmas.{given_unique}
use Rattle.formats.specs.Request.{Request}
use Rattle.formats.specs.Listing.{LevelEntry, listing_blocks, text_of_blocks}
use Rattle.formats.specs.Levels.{AreGivenBy, Grows, Keeps, HasTries, IsLevelEntry, AreFirstLevels, AreLevels, IsListing, columns_of}

-- matroids that are given so are one list
pub given_same : (gs : List Given) (xs ys : List Matroid) → AreGivenBy gs xs → AreGivenBy gs ys → xs ≡ ys
given_same [] [] [] h g = refl
given_same [] [] (y ∷ ys) h g = absurd g
given_same [] (x ∷ xs) ys h g = absurd h
given_same (given ∷ gs) [] ys h g = absurd h
given_same (given ∷ gs) (x ∷ xs) [] h g = absurd g
given_same (given ∷ gs) (x ∷ xs) (y ∷ ys) h g = λ i. given_unique given x y h.0 g.0 i ∷ given_same gs xs ys h.1 g.1 i

pub matroid_same : (m n : Option Matroid) → option_to_list m ≡ option_to_list n → m ≡ n
matroid_same None None e = refl
matroid_same None (Some y) e = cc (e)
matroid_same (Some x) None e = cc (e)
matroid_same (Some x) (Some y) e = cc (e)

-- a request grows one family
pub family_same : (q : Request) (F G : Family) → Grows q F → Grows q G → F ≡ G
family_same q F G a b =
    let factors : F.factors ≡ G.factors = a.factors_are ∙ sym b.factors_are in
    let ranks : F.rank ≡ G.rank = a.rank_is ∙ sym b.rank_is in
    let modes : F.mode ≡ G.mode = a.mode_is ∙ sym b.mode_is in
    let forbidden : F.forbidden ≡ G.forbidden = given_same _ F.forbidden G.forbidden a.forbids b.forbids in
    λ i. record { factors = factors i; rank = ranks i; mode = modes i; forbidden = forbidden i }

-- a request has one list of filters
pub filters_same : (q : Request) (f g : Filters) → Keeps q f → Keeps q g → f ≡ g
filters_same q f g a b =
    let connected : f.connected ≡ g.connected = a.connected ∙ sym b.connected in
    let three : f.three ≡ g.three = a.three ∙ sym b.three in
    let cosimple : f.cosimple ≡ g.cosimple = a.cosimple ∙ sym b.cosimple in
    let distinct : f.distinct ≡ g.distinct = a.distinct ∙ sym b.distinct in
    let has : f.has ≡ g.has = matroid_same f.has g.has (given_same _ (option_to_list f.has) (option_to_list g.has) a.has b.has) in
    λ i. record { connected = connected i; three = three i; cosimple = cosimple i; distinct = distinct i; has = has i }

-- a size that isn't below the rank has one number of tries
tries_same : (F : Family) (d n t u : ℕ) → n ≡ F.rank + d → HasTries F n t → HasTries F n u → t ≡ u
tries_same F zero n t u e a b = let at : n ≡ F.rank = omega arith in a.first at ∙ sym (b.first at)
tries_same F (suc d) n t u e a b =
    count_unique (IsTry F n) t u (a.later (omega arith)) (b.later (omega arith))

-- a level of one size is told in one way
entry_same : (q : Request) (x y : LevelEntry) → x.size ≡ y.size → q.rank ≤ y.size → IsLevelEntry q x → IsLevelEntry q y → x ≡ y
entry_same q x y sizes low a b =
    let family : a.family ≡ b.family = family_same q a.family b.family a.grows b.grows in
    let filters : a.filters ≡ b.filters = filters_same q a.filters b.filters a.keeps b.keeps in
    let level : IsLevel b.family y.size a.forms = subst (λ (n : ℕ). IsLevel b.family n a.forms) sizes
    (subst (λ (F : Family). IsLevel F x.size a.forms) family a.are_level) in
    let forms : a.forms ≡ b.forms = rising_list_unique (IsLevelForm b.family y.size) a.forms b.forms level b.are_level in
    let listed : IsListed b.family y.size b.filters a.shown =
    subst (λ (f : Filters). IsListed b.family y.size f a.shown) filters
    (subst (λ (n : ℕ). IsListed b.family n a.filters a.shown) sizes
    (subst (λ (F : Family). IsListed F x.size a.filters a.shown) family a.are_listed)) in
    let shown : a.shown ≡ b.shown = rising_list_unique (λ M. IsLevelForm b.family y.size M × Passes b.family y.size b.filters M)
    a.shown b.shown listed b.are_listed in
    let tries : HasTries b.family y.size x.tried = subst (λ (n : ℕ). HasTries b.family n x.tried) sizes
    (subst (λ (F : Family). HasTries F x.size x.tried) family a.tries) in
    let ranks : b.family.rank ≡ q.rank = b.grows.rank_is in
    let tried : x.tried ≡ y.tried = tries_same b.family (y.size - b.family.rank) y.size x.tried y.tried (omega arith) tries b.tries in
    let classes : x.classes ≡ y.classes = a.classes_are ∙ ap length forms ∙ sym b.classes_are in
    let told : x.listed ≡ y.listed = a.listed_are ∙ ap (map columns_of) shown ∙ sym b.listed_are in
    λ i. record { size = sizes i; classes = classes i; listed = told i; tried = tried i }

-- levels from a size on are one list
entries_same : (q : Request) (a n : ℕ) (xs ys : List LevelEntry) → q.rank ≤ a → map (λ l. l.size) xs ≡ range_with_len a n →
    map (λ l. l.size) ys ≡ range_with_len a n → AllByRecursion (IsLevelEntry q) xs → AllByRecursion (IsLevelEntry q) ys → xs ≡ ys
entries_same q a zero [] [] low e f h g = refl
entries_same q a zero [] (y ∷ ys) low e f h g = cc (f)
entries_same q a zero (x ∷ xs) ys low e f h g = cc (e)
entries_same q a (suc n) [] ys low e f h g = cc (e)
entries_same q a (suc n) (x ∷ xs) [] low e f h g = cc (f)
entries_same q a (suc n) (x ∷ xs) (y ∷ ys) low e f h g =
    let here : x.size ≡ a = cc (e) in
    let there : y.size ≡ a = cc (f) in
    let more : map (λ l. l.size) xs ≡ range_with_len (a + 1) n = cc (e) in
    let others : map (λ l. l.size) ys ≡ range_with_len (a + 1) n = cc (f) in
    let first : x ≡ y = entry_same q x y (here ∙ sym there) (omega arith) h.0 g.0 in
    let rest : xs ≡ ys = entries_same q (a + 1) n xs ys (omega arith) more others h.1 g.1 in
    λ i. first i ∷ rest i

-- the first levels from a size on begin any longer list of them
front_of_entries : (q : Request) (a m n : ℕ) (xs ys : List LevelEntry) → q.rank ≤ a → m ≤ n →
    map (λ l. l.size) xs ≡ range_with_len a m → map (λ l. l.size) ys ≡ range_with_len a n → AllByRecursion (IsLevelEntry q) xs →
    AllByRecursion (IsLevelEntry q) ys → (zs : List LevelEntry) × (ys ≡ xs ++ zs)
front_of_entries q a zero n [] ys low most e f h g = (ys, refl)
front_of_entries q a zero n (x ∷ xs) ys low most e f h g = cc (e)
front_of_entries q a (suc m) n [] ys low most e f h g = cc (e)
front_of_entries q a (suc m) zero (x ∷ xs) ys low most e f h g = absurd (omega arith)
front_of_entries q a (suc m) (suc n) (x ∷ xs) [] low most e f h g = cc (f)
front_of_entries q a (suc m) (suc n) (x ∷ xs) (y ∷ ys) low most e f h g =
    let here : x.size ≡ a = cc (e) in
    let there : y.size ≡ a = cc (f) in
    let more : map (λ l. l.size) xs ≡ range_with_len (a + 1) m = cc (e) in
    let others : map (λ l. l.size) ys ≡ range_with_len (a + 1) n = cc (f) in
    let first : x ≡ y = entry_same q x y (here ∙ sym there) (omega arith) h.0 g.0 in
    let rest = front_of_entries q (a + 1) m n xs ys (omega arith) (omega arith) more others h.1 g.1 in
    (rest.0, λ i. sym first i ∷ rest.1 i)

-- first levels of a request begin its list of levels
pub first_of_levels : (q : Request) (xs ys : List LevelEntry) → AreFirstLevels q xs → AreLevels q ys → (zs : List LevelEntry) × (ys ≡ xs ++ zs)
first_of_levels q xs ys a b =
    let most : length xs ≤ length ys = omega (arith, a.at_most, b.are_all) in
    front_of_entries q q.rank (length xs) (length ys) xs ys (omega arith) most a.sizes b.are_first.sizes a.each b.are_first.each

-- a request has one list of levels
levels_same : (q : Request) (xs ys : List LevelEntry) → AreLevels q xs → AreLevels q ys → xs ≡ ys
levels_same q xs ys a b =
    let same : map (λ l. l.size) ys ≡ range_with_len q.rank (length xs) = b.are_first.sizes ∙ ap (range_with_len q.rank) (b.are_all ∙ sym a.are_all) in
    entries_same q q.rank (length xs) xs ys (omega arith) a.are_first.sizes same a.are_first.each b.are_first.each

-- a request has one listing
pub listing_same : (q : Request) (text other : List ℕ) → IsListing q text → IsListing q other → text ≡ other
listing_same q text other a b =
    a.is ∙ ap (λ (levels : List LevelEntry). text_of_blocks (listing_blocks q levels)) (levels_same q a.levels b.levels a.are b.are) ∙ sym b.is
