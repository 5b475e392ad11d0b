-- The starts of each class, and which classes cover others.
use Rattle.std.proofs.Common.{◌||◌, refl, sym, subst, Bool, true, false}
use Rattle.std.specs.Prelude.{◌&&◌, IsTrue}
use Rattle.std.proofs.lemmas.Bool.{and_parts}
use Rattle.ans_model.specs.Screen.State.{State}
use Rattle.ans_model.specs.Screen.StartClass.{Covers, all_known, IsStart}
use Rattle.ans_model.specs.declared.start.Start.{Start}
use Rattle.ans_laws.specs.StartLaws.{NoneKnownIsEvery, AllKnownIsOne, BothKnownIsGreatest, known_in_either}
use Rattle.ans_laws.specs.StartLaws.{KnownPartsTogether}
use Rattle.ans_model.proofs.OneCause.{is_cleared}
use Rattle.ans_model.proofs.StartLemmas.{low_is_start}
use Rattle.ans_model.proofs.ClassLemmas.{covers_starts}

-- of a part that is not known nothing is asked
pub free : {P : Type 0} → IsTrue false → P
free known = absurd (cc known)

pub none_known_is_every : NoneKnownIsEvery
none_known_is_every z s = (
  λ start. start.well_formed,
  λ h. record { well_formed = h; screen = free; cursor = free; saved = free; attribute = free; wrap = free },
)

pub all_known_is_one : AllKnownIsOne
all_known_is_one z s size = (
  λ start. is_cleared z s start,
  λ e. subst (λ (t : State). IsStart z all_known t) (sym e) (low_is_start z all_known size.some_columns),
)

-- what is known in one of two classes is known in either
known_left : (a b : Bool) → IsTrue a → IsTrue (a || b)
known_left true b e = refl
known_left false b e = absurd (cc e)

known_right : (a b : Bool) → IsTrue b → IsTrue (a || b)
known_right true b e = refl
known_right false b e = e

-- the class of what two classes know of each part, by one rule
abbrev class_by : (Bool → Bool → Bool) → Start → Start → Start
class_by rule a b = record {
  screen = rule a.screen b.screen;
  cursor = rule a.cursor b.cursor;
  saved = rule a.saved b.saved;
  colours = rule a.colours b.colours;
  wrap = rule a.wrap b.wrap;
}

-- a class covers one that knows all that it knows, and maybe more
covers_more : (more : Bool → Bool → Bool) → ((x y : Bool) → IsTrue x → IsTrue (more x y)) → (a b : Start)
    → Covers a (class_by more a b)
covers_more more known a b = record {
  screen = known a.screen b.screen;
  cursor = known a.cursor b.cursor;
  saved = known a.saved b.saved;
  colours = known a.colours b.colours;
  wrap = known a.wrap b.wrap;
}

-- what follows from either of two parts follows from both together
from_either : {P : Type 0} (a b : Bool) → (IsTrue a → P) → (IsTrue b → P) → IsTrue (a || b) → P
from_either true b p q e = p refl
from_either false b p q e = q e

-- the known parts of two classes together: the starts are those of both
pub known_parts_together : KnownPartsTogether
known_parts_together z a b s = (
  λ start. (
    covers_starts z a (known_in_either a b) s (covers_more (λ x y. x || y) known_left a b) start,
    covers_starts z b (known_in_either a b) s (covers_more (λ y x. x || y) (λ y x. known_right x y) b a) start,
  ),
  λ both. record {
    well_formed = both.0.well_formed;
    screen = from_either a.screen b.screen both.0.screen both.1.screen;
    cursor = from_either a.cursor b.cursor both.0.cursor both.1.cursor;
    saved = from_either a.saved b.saved both.0.saved both.1.saved;
    attribute = from_either a.colours b.colours both.0.attribute both.1.attribute;
    wrap = from_either a.wrap b.wrap both.0.wrap both.1.wrap;
  },
)

-- what covers one that knows no more covers the class too
covers_less : (less : Bool → Bool → Bool) → ((x y : Bool) → IsTrue (less x y) → IsTrue x) → (a b c : Start)
    → Covers c (class_by less a b) → Covers c a
covers_less less known a b c covers = record {
  screen = λ k. known a.screen b.screen (covers.screen k);
  cursor = λ k. known a.cursor b.cursor (covers.cursor k);
  saved = λ k. known a.saved b.saved (covers.saved k);
  colours = λ k. known a.colours b.colours (covers.colours k);
  wrap = λ k. known a.wrap b.wrap (covers.wrap k);
}

-- a truth that implies two implies both at once
and_then : (p a b : Bool) → (IsTrue p → IsTrue a) → (IsTrue p → IsTrue b) → IsTrue p → IsTrue (a && b)
and_then p a b first second known = rw (first known, second known) refl

-- a class covers the class of what both know exactly where it covers both
pub both_known_is_greatest : BothKnownIsGreatest
both_known_is_greatest a b c = (
  λ covers. (
    covers_less (λ x y. x && y) (λ x y e. (and_parts x y e).0) a b c covers,
    covers_less (λ y x. x && y) (λ y x e. (and_parts x y e).1) b a c covers,
  ),
  λ (first, second). record {
    screen = and_then c.screen a.screen b.screen first.screen second.screen;
    cursor = and_then c.cursor a.cursor b.cursor first.cursor second.cursor;
    saved = and_then c.saved a.saved b.saved first.saved second.saved;
    colours = and_then c.colours a.colours b.colours first.colours second.colours;
    wrap = and_then c.wrap a.wrap b.wrap first.wrap second.wrap;
  },
)
