-- Which classes of starts cover which, and what is kept where one covers another.
use Rattle.std.proofs.Common.{◌≡◌, ◌↔◌, refl, sym, List, Bool, true, false, ℕ, take}
use Rattle.std.specs.Prelude.{IsTrue}
use Rattle.ans_model.specs.Screen.State.{Size, State}
use Rattle.ans_model.specs.Sequence.TokenKind.{TokenKind}
use Rattle.ans_model.specs.Verdict.TokenFault.{then_blanks}
use Rattle.ans_model.specs.Verdict.Good.{Picture, GoodWith, PrintsWell, PlaysWell}
use Rattle.ans_model.specs.Screen.StartClass.{Covers, IsStart, all_but_screen, all_but_cursor, all_but_saved}
use Rattle.ans_model.specs.Screen.StartClass.{all_but_colours, all_but_wrap, all_known, none_known}
use Rattle.ans_model.specs.declared.start.Start.{Start}

-- a class covers itself
pub covers_itself : (a : Start) → Covers a a
covers_itself a = record { screen = λ k. k; cursor = λ k. k; saved = λ k. k; colours = λ k. k; wrap = λ k. k }

-- the class of every start covers each class
pub none_known_covers : (a : Start) → Covers none_known a
none_known_covers a = record {
  screen = λ k. absurd (cc k);
  cursor = λ k. absurd (cc k);
  saved = λ k. absurd (cc k);
  colours = λ k. absurd (cc k);
  wrap = λ k. absurd (cc k);
}

-- each class covers that of the cleared start alone
pub covers_all_known : (a : Start) → Covers a all_known
covers_all_known a = record {
  screen = λ k. refl;
  cursor = λ k. refl;
  saved = λ k. refl;
  colours = λ k. refl;
  wrap = λ k. refl;
}

-- truths that say the same are the same
same_truth : (p q : Bool) → (IsTrue p → IsTrue q) → (IsTrue q → IsTrue p) → p ≡ q
same_truth true q there back = sym (there refl)
same_truth false true there back = back refl
same_truth false false there back = refl

-- classes that cover each other are the same
pub covers_both_ways : (a b : Start) → Covers a b → Covers b a → a ≡ b
covers_both_ways a b there back = λ i. record {
  screen = same_truth a.screen b.screen there.screen back.screen i;
  cursor = same_truth a.cursor b.cursor there.cursor back.cursor i;
  saved = same_truth a.saved b.saved there.saved back.saved i;
  colours = same_truth a.colours b.colours there.colours back.colours i;
  wrap = same_truth a.wrap b.wrap there.wrap back.wrap i;
}

-- the starts of a class are starts of each class that covers it
pub covers_starts : (z : Size) (a b : Start) (s : State) → Covers a b → IsStart z b s → IsStart z a s
covers_starts z a b s covers start = record {
  well_formed = start.well_formed;
  screen = λ known. start.screen (covers.screen known);
  cursor = λ known. start.cursor (covers.cursor known);
  saved = λ known. start.saved (covers.saved known);
  attribute = λ known. start.attribute (covers.colours known);
  wrap = λ known. start.wrap (covers.wrap known);
}

-- what holds from every start of a class holds from those of each class that it covers
module _ (z : Size) (a b : Start) (covers : Covers a b) where
  more : (s : State) → IsStart z b s → IsStart z a s
  more s start = covers_starts z a b s covers start

  covers_prints : (played : List TokenKind) → PrintsWell z a played → PrintsWell z b played
  covers_prints played well = record {
    at_one_position = λ s t start_s start_t. well.at_one_position s t (more s start_s) (more t start_t);
    never_below = λ s start. well.never_below s (more s start);
  }

  covers_plays : (tokens : List TokenKind) → PlaysWell z a tokens → PlaysWell z b tokens
  covers_plays tokens well = record {
    no_static_fault = well.no_static_fault;
    never_scrolls = λ k e s start. well.never_scrolls k e s (more s start);
    prints_well = λ k byte e. covers_prints (take k tokens) (well.prints_well k byte e);
    tabs_well = λ k n e goes_on.
        covers_prints (then_blanks (take k tokens) n)
        (well.tabs_well k n e (goes_on.0, more goes_on.0 goes_on.1, goes_on.2));
    erases_at_one_position = λ k e s t start_s start_t.
        well.erases_at_one_position k e s t (more s start_s) (more t start_t);
  }

-- what is good for a class is good for each class that it covers, and shows the same picture
pub covers_good : (z : Size) (a b : Start) (content : List ℕ) (picture : Picture) → Covers a b
    → GoodWith z a content picture → GoodWith z b content picture
covers_good z a b content picture covers good = record {
  size = good.size;
  tokens = good.tokens;
  reads = good.reads;
  plays = covers_plays z a b covers good.tokens good.plays;
  shows = record {
    is_picture = good.shows.is_picture;
    shown = λ s p start stated. good.shows.shown s p (covers_starts z a b s covers start) stated;
  };
}

-- a truth that is known nowhere is false
known_nowhere : (p : Bool) → (IsTrue p → IsTrue false) → p ≡ false
known_nowhere true never = absurd (let no : true ≡ false = sym (never refl) in cc)
known_nowhere false never = refl

-- what is known in a class is known where all is
known : {P : Type 0} → P → IsTrue true
known p = refl

-- a class covers that of all parts but one exactly where it does not know that part
pub covers_all_but_screen : (class : Start) → Covers class all_but_screen ↔ (class.screen ≡ false)
covers_all_but_screen class = (
  λ covers. known_nowhere class.screen covers.screen,
  λ e. record { screen = λ k. absurd (cc); cursor = known; saved = known; colours = known; wrap = known },
)

pub covers_all_but_cursor : (class : Start) → Covers class all_but_cursor ↔ (class.cursor ≡ false)
covers_all_but_cursor class = (
  λ covers. known_nowhere class.cursor covers.cursor,
  λ e. record { screen = known; cursor = λ k. absurd (cc); saved = known; colours = known; wrap = known },
)

pub covers_all_but_saved : (class : Start) → Covers class all_but_saved ↔ (class.saved ≡ false)
covers_all_but_saved class = (
  λ covers. known_nowhere class.saved covers.saved,
  λ e. record { screen = known; cursor = known; saved = λ k. absurd (cc); colours = known; wrap = known },
)

pub covers_all_but_colours : (class : Start) → Covers class all_but_colours ↔ (class.colours ≡ false)
covers_all_but_colours class = (
  λ covers. known_nowhere class.colours covers.colours,
  λ e. record { screen = known; cursor = known; saved = known; colours = λ k. absurd (cc); wrap = known },
)

pub covers_all_but_wrap : (class : Start) → Covers class all_but_wrap ↔ (class.wrap ≡ false)
covers_all_but_wrap class = (
  λ covers. known_nowhere class.wrap covers.wrap,
  λ e. record { screen = known; cursor = known; saved = known; colours = known; wrap = λ k. absurd (cc) },
)
