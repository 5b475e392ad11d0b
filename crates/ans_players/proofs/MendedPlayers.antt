-- Behind the mending.
use Rattle.std.proofs.Common.{◌≡◌, ◌∙◌, ℕ, zero, suc, ◌<◌, Bool, true, refl, ap₂, sym, subst}
use Rattle.std.proofs.Common.{List, [], ◌∷◌, ◌++◌}
use Rattle.std.proofs.Common.{take, fold, replicate, Some}
use Rattle.std.specs.Prelude.{IsTrue, codes, slice_get, if◌then◌else◌}
use Rattle.ans_model.specs.Sequence.TokenKind.{Clear, Save, Colours, Place, Wrap}
use Rattle.ans_model.specs.Screen.State.{Size, State, cell_count}
use Rattle.ans_model.specs.Screen.Step.{blank_cell}
use Rattle.ans_model.specs.Screen.StartClass.{all_known, cleared, low_start}
use Rattle.ans_model.specs.declared.cell.Position.{Position}
use Rattle.ans_model.specs.declared.start.Start.{Start}
use Rattle.ans_model.proofs.BeginningLemmas.{home_is, reset}
use Rattle.ans_model.proofs.StartLemmas.{low_is_start}
use Rattle.ans_players.specs.declared.difference.Difference.{Difference}
use Rattle.ans_players.specs.declared.difference.Difference.TheVariants.{SavePlaceOnly}
use Rattle.ans_players.specs.Sync.{InSync, OutOfSync, Stand, synced, is_home}
use Rattle.ans_players.specs.Mends.{sequence, mending_spelled}
use Rattle.ans_players.specs.Names.{Names, unnamed}
use Rattle.ans_players.specs.Situations.{AreAgreed, Spelled, is_agreed, stand_behind, stand_of}
use Rattle.ans_players.proofs.MoreNames.{IsMore, agreed_along_with_more}

abbrev pub both : Names
both = record { foreground = true; background = true }

all_named : IsMore unnamed both
all_named = record { foreground = λ e. refl; background = λ e. refl }

-- a start behind the mending: both colours are named
abbrev pub named : Size → Stand
named z = record { sync = InSync; names = both; state = cleared z }

module _ (z : Size) (s : State) where
  -- with this attribute, and the cursor and the saved place here
  abbrev left : ℕ → Position → Stand
  left a p = record {
    sync = if is_home p then InSync else OutOfSync SavePlaceOnly;
    names = both;
    state = record {
      screen = replicate (cell_count z) (blank_cell a);
      cursor = p;
      saved = p;
      attribute = a;
      wrap = true;
    };
  }

  pub mending_leaves : stand_of z s mending_spelled ≡ named z
  mending_leaves = ap₂ left (reset s.attribute) (home_is z)

-- behind the mending no kind arises that does not arise from the cleared start
pub agreed_named : (agreed : Difference → Bool) (z : Size) (xs : List Spelled) (k : ℕ) (x : Spelled)
    → IsTrue (is_agreed agreed z (stand_of z (cleared z) (take k xs)) x)
    → IsTrue (is_agreed agreed z (fold (stand_behind z) (named z) (take k xs)) x)
agreed_named agreed z xs k x all =
    agreed_along_with_more agreed z unnamed both (synced (cleared z)) xs k x all_named all

-- no kind arises in it, and behind it no others than from the cleared start
pub agreed_behind : (agreed : Difference → Bool) (z : Size) (class : Start) (xs : List Spelled) → 0 < z.width
    → AreAgreed agreed z all_known xs → AreAgreed agreed z class (mending_spelled ++ xs)
agreed_behind agreed z class xs w each s zero x start e =
    let same : x ≡ sequence (Wrap true) (codes "[?7h") = cc in rw same refl
agreed_behind agreed z class xs w each s (suc zero) x start e =
    let same : x ≡ sequence (Colours (0 ∷ 37 ∷ 40 ∷ [])) (codes "[0;37;40m") = cc in rw same refl
agreed_behind agreed z class xs w each s (suc (suc zero)) x start e =
    let same : x ≡ sequence Clear (codes "[2J") = cc in
    rw (same, reset s.attribute) refl
agreed_behind agreed z class xs w each s (suc (suc (suc zero))) x start e =
    let same : x ≡ sequence (Place 1 1) (codes "[H") = cc in rw same refl
agreed_behind agreed z class xs w each s (suc (suc (suc (suc zero)))) x start e =
    let same : x ≡ sequence Save (codes "[s") = cc in rw same refl
agreed_behind agreed z class xs w each s (suc (suc (suc (suc (suc j))))) x start e =
    subst (λ (h : Stand). IsTrue (is_agreed agreed z (fold (stand_behind z) h (take j xs)) x))
    (sym (mending_leaves z s)) (agreed_named agreed z xs j x (each (cleared z) j x (low_is_start z all_known w) e))

-- what arises in and behind it is the same from all starts
pub mended_from_each : (agreed : Difference → Bool) (z : Size) (class other : Start) (xs : List Spelled) → 0 < z.width
    → AreAgreed agreed z class (mending_spelled ++ xs) → AreAgreed agreed z other (mending_spelled ++ xs)
mended_from_each agreed z class other xs w each s k x start e = go k e
  where
    none : AreAgreed agreed z all_known []
    none s k x start e = absurd (let no : ⊥ = cc in no)

    behind : (j : ℕ) → slice_get xs j ≡ Some x
        → IsTrue (is_agreed agreed z (fold (stand_behind z) (stand_of z s mending_spelled) (take j xs)) x)
    behind j f =
        let low : State = low_start z class in
        let there : IsTrue (is_agreed agreed z (fold (stand_behind z) (stand_of z low mending_spelled) (take j xs)) x) =
        each low (suc (suc (suc (suc (suc j))))) x (low_is_start z class w) f in
        subst (λ (h : Stand). IsTrue (is_agreed agreed z (fold (stand_behind z) h (take j xs)) x))
        (mending_leaves z low ∙ sym (mending_leaves z s)) there

    go : (k : ℕ) → slice_get (mending_spelled ++ xs) k ≡ Some x
        → IsTrue (is_agreed agreed z (stand_of z s (take k (mending_spelled ++ xs))) x)
    go zero f = agreed_behind agreed z other [] w none s 0 x start f
    go (suc zero) f = agreed_behind agreed z other [] w none s 1 x start f
    go (suc (suc zero)) f = agreed_behind agreed z other [] w none s 2 x start f
    go (suc (suc (suc zero))) f = agreed_behind agreed z other [] w none s 3 x start f
    go (suc (suc (suc (suc zero)))) f = agreed_behind agreed z other [] w none s 4 x start f
    go (suc (suc (suc (suc (suc j))))) f = behind j f
