-- Where more colours are named, no more kinds arise.
use Rattle.std.proofs.Common.{◌≡◌, ℕ, Bool, true, false, refl, sym, subst, List, [], ◌∷◌, fold, take}
use Rattle.std.specs.Prelude.{IsTrue, not, ◌&&◌, ◌==◌, if◌then◌else◌}
use Rattle.std.specs.List.{list_all}
use Rattle.ans_model.specs.Sequence.TokenKind.{TokenKind, Colours}
use Rattle.ans_model.specs.Screen.State.{Size}
use Rattle.ans_players.specs.declared.difference.Difference.{Difference}
use Rattle.ans_players.specs.declared.difference.Difference.TheVariants.{OwnColours}
use Rattle.ans_players.specs.Sync.{Stand}
use Rattle.ans_players.specs.Names.{Names, unnamed, is_within, names_behind, names_after, paints}
use Rattle.ans_players.specs.Situations.{Spelled, is_agreed, kind_if, stand_behind}
use Rattle.ans_players.proofs.OneOfTwo.{parts_agreed, from_parts}

-- each colour that is named here is named there
pub record IsMore (n m : Names) : Type 0 where
  pub foreground : n.foreground ≡ true → m.foreground ≡ true
  pub background : n.background ≡ true → m.background ≡ true

by_tests : (zero front back : Bool) (n m : Names) → IsMore n m
    → IsMore (if zero then unnamed else if front then record n { foreground = true }
    else if back then record n { background = true } else n)
    (if zero then unnamed else if front then record m { foreground = true }
    else if back then record m { background = true } else m)
by_tests true front back n m more = record { foreground = λ e. e; background = λ e. e }
by_tests false true back n m more = record { foreground = λ e. refl; background = more.background }
by_tests false false true n m more = record { foreground = more.foreground; background = λ e. refl }
by_tests false false false n m more = more

more_behind : (numbers : List ℕ) (n m : Names) → IsMore n m
    → IsMore (fold names_behind n numbers) (fold names_behind m numbers)
more_behind [] n m more = more
more_behind (a ∷ numbers) n m more =
    more_behind numbers (names_behind n a) (names_behind m a)
    (by_tests (a == 0) (is_within 30 37 a) (is_within 40 47 a) n m more)

more_after : (t : TokenKind) (n m : Names) → IsMore n m → IsMore (names_after n t) (names_after m t)
more_after (Colours parameters) n m more = more_behind parameters n m more
more_after t n m more = more

-- ---- the names after tokens
pub names_of : List Spelled → Names → Names
names_of xs n = fold (λ (m : Names) (x : Spelled). names_after m x.token) n xs

pub more_of : (xs : List Spelled) (n m : Names) → IsMore n m → IsMore (names_of xs n) (names_of xs m)
unfolding names_of
more_of [] n m more = more
more_of (x ∷ xs) n m more = more_of xs (names_after n x.token) (names_after m x.token) (more_after x.token n m more)

abbrev pub with_names : Names → Stand → Stand
with_names n h = record h { names = n }

pub stands_with : (z : Size) (xs : List Spelled) (n : Names) (h : Stand)
    → fold (stand_behind z) (with_names n h) xs ≡ with_names (names_of xs n) (fold (stand_behind z) h xs)
unfolding names_of
stands_with z [] n h = refl
stands_with z (x ∷ xs) n h = stands_with z xs (names_after n x.token) (stand_behind z h x)

-- ---- what is agreed
module _ (agreed : Difference → Bool) where
  fewer_kinds : (p a b c d : Bool) → (a ≡ true → c ≡ true) → (b ≡ true → d ≡ true)
      → IsTrue (list_all agreed (kind_if (p && not (a && b)) OwnColours))
      → IsTrue (list_all agreed (kind_if (p && not (c && d)) OwnColours))
  fewer_kinds false a b c d f g all = refl
  fewer_kinds true a b true true f g all = refl
  fewer_kinds true false b false d f g all = all
  fewer_kinds true true b false d f g all = let no : false ≡ true = f refl in absurd (let none : ⊥ = cc in none)
  fewer_kinds true false false true false f g all = all
  fewer_kinds true true false true false f g all = all
  fewer_kinds true a true true false f g all = let no : false ≡ true = g refl in absurd (let none : ⊥ = cc in none)

  module _ (z : Size) where
    -- no more kinds arise
    pub agreed_with_more : (n m : Names) (h : Stand) (x : Spelled) → IsMore n m
        → IsTrue (is_agreed agreed z (with_names n h) x) → IsTrue (is_agreed agreed z (with_names m h) x)
    agreed_with_more n m h x more all =
        let parts = parts_agreed z agreed (with_names n h) x all in
        from_parts z agreed (with_names m h) x (record {
          sync = parts.sync;
          token = parts.token;
          spelling = parts.spelling;
          named = fewer_kinds (paints x.token) n.foreground n.background m.foreground m.background more.foreground
              more.background parts.named;
        })

    pub agreed_along_with_more : (n m : Names) (h : Stand) (xs : List Spelled) (k : ℕ) (x : Spelled) → IsMore n m
        → IsTrue (is_agreed agreed z (fold (stand_behind z) (with_names n h) (take k xs)) x)
        → IsTrue (is_agreed agreed z (fold (stand_behind z) (with_names m h) (take k xs)) x)
    agreed_along_with_more n m h xs k x more all =
        subst (λ (v : Stand). IsTrue (is_agreed agreed z v x)) (sym (stands_with z (take k xs) m h))
        (agreed_with_more (names_of (take k xs) n) (names_of (take k xs) m) (fold (stand_behind z) h (take k xs)) x
        (more_of (take k xs) n m more)
        (subst (λ (v : Stand). IsTrue (is_agreed agreed z v x)) (stands_with z (take k xs) n h) all))
