-- What is agreed from two classes is agreed from that of the parts known in both.
use Rattle.std.proofs.Common.{◌≡◌, inl, inr, ℕ, ◌<◌, Bool, true, false, refl, ap, ◌∙◌, sym, List, take, Some}
use Rattle.std.proofs.Common.{All, length}
use Rattle.std.proofs.lemmas.Bool.{and_parts}
use Rattle.std.specs.Prelude.{slice_get, if◌then◌else◌, IsTrue, ◌&&◌}
use Rattle.ans_model.specs.Sequence.TokenKind.{TokenKind, Glyph, Tab}
use Rattle.ans_model.specs.Screen.State.{Size, State, IsWellFormed, IsByteCell, cell_count, IsOnScreen}
use Rattle.ans_model.specs.Screen.Step.{final}
use Rattle.ans_model.specs.Screen.StartClass.{Covers, both_known, all_known, cleared, IsStart, start_with}
use Rattle.ans_model.specs.declared.cell.Cell.{Cell}
use Rattle.ans_model.specs.declared.cell.Position.{Position}
use Rattle.ans_model.specs.declared.start.Start.{Start}
use Rattle.ans_model.specs.Verdict.Good.{PlaysWell}
use Rattle.ans_model.specs.Verdict.TokenFault.{SamePosition, then_blanks}
use Rattle.ans_model.proofs.ClassLemmas.{covers_starts}
use Rattle.ans_model.proofs.CleanLemmas.{some_blanks}
use Rattle.ans_model.proofs.StartLemmas.{low_is_start}
use Rattle.ans_model.proofs.TabLemmas.{final_then_blanks}
use Rattle.ans_players.specs.declared.difference.Difference.{Difference}
use Rattle.ans_players.specs.Sync.{InSync, synced}
use Rattle.ans_players.specs.Situations.{Spelled, is_agreed, stand_of}
use Rattle.ans_players.specs.Players.{StaysAbove}
use Rattle.ans_players.specs.Classes.{AgreedMeet}
use Rattle.ans_players.proofs.Along.{above_at, kinds_of, kind_at, state_is}
use Rattle.ans_players.proofs.OneOfTwo.{IsOneOf, IsBeside, PrintsAtOne, GoTogether, beside_along, agreed_beside}
use Rattle.ans_players.proofs.OneOfTwo.{Footing}

-- ---- a start of a class from any state
of_either : {X : Type 0} (P : X → Type 0) (b : Bool) (x y : X) → P x → P y → P (if b then x else y)
of_either P true x y p q = p
of_either P false x y p q = q

pub known_part : {X : Type 0} (b : Bool) (x y : X) → IsTrue b → (if b then x else y) ≡ x
known_part true x y e = refl
known_part false x y e = absurd (let no : ⊥ = cc in no)

pub mixed_is_start : (z : Size) (class : Start) (s : State) → 0 < z.width → IsWellFormed z s
    → IsStart z class (start_with z class s)
mixed_is_start z class s w well =
    let clear : IsWellFormed z (cleared z) = (low_is_start z all_known w).well_formed in
    record {
      well_formed = record {
        fits = record {
          cells = of_either (λ (v : List Cell). length v ≡ cell_count z) class.screen (cleared z).screen s.screen
              clear.fits.cells well.fits.cells;
          cursor = of_either (IsOnScreen z) class.cursor (cleared z).cursor s.cursor clear.fits.cursor well.fits.cursor;
          saved = of_either (IsOnScreen z) class.saved (cleared z).saved s.saved clear.fits.saved well.fits.saved;
        };
        bytes = of_either (All IsByteCell) class.screen (cleared z).screen s.screen clear.bytes well.bytes;
        attribute = of_either (λ (a : ℕ). a < 256) class.colours 7 s.attribute clear.attribute well.attribute;
      };
      screen = known_part class.screen (cleared z).screen s.screen;
      cursor = known_part class.cursor (cleared z).cursor s.cursor;
      saved = known_part class.saved (cleared z).saved s.saved;
      attribute = known_part class.colours (cleared z).attribute s.attribute;
      wrap = known_part class.wrap (cleared z).wrap s.wrap;
    }

pub covers_first : (a b : Start) → Covers (both_known a b) a
covers_first a b = record {
  screen = λ k. (and_parts _ _ k).0;
  cursor = λ k. (and_parts _ _ k).0;
  saved = λ k. (and_parts _ _ k).0;
  colours = λ k. (and_parts _ _ k).0;
  wrap = λ k. (and_parts _ _ k).0;
}

pub covers_second : (a b : Start) → Covers (both_known a b) b
covers_second a b = record {
  screen = λ k. (and_parts _ _ k).1;
  cursor = λ k. (and_parts _ _ k).1;
  saved = λ k. (and_parts _ _ k).1;
  colours = λ k. (and_parts _ _ k).1;
  wrap = λ k. (and_parts _ _ k).1;
}

-- a part that is the cleared one where it is known in both is that of one of the two
part_of_one : (X : Type 0) (x y : Bool) (c v : X) → (IsTrue (x && y) → v ≡ c)
    → IsOneOf X v (if x then c else v) (if y then c else v)
part_of_one X false y c v known = inl refl
part_of_one X true false c v known = inr refl
part_of_one X true true c v known = inl (known refl)

-- ---- three starts of one class, from which the tokens play well
module _ (z : Size) (class : Start) (xs : List Spelled) (plays : PlaysWell z class (kinds_of xs)) (s p q : State)
    (start_s : IsStart z class s) (start_p : IsStart z class p) (start_q : IsStart z class q) where
  above_of : (u : State) → IsStart z class u → (k : ℕ) (x : Spelled) → slice_get xs k ≡ Some x
      → StaysAbove z (stand_of z u (take k xs)).state x.token
  above_of u start_u k x e = above_at z class xs plays u start_u k x e

  same_cursor : (k : ℕ) → SamePosition z class (take k (kinds_of xs)) → (u : State) → IsStart z class u
      → (stand_of z s (take k xs)).state.cursor ≡ (stand_of z u (take k xs)).state.cursor
  same_cursor k same u start_u =
      ap (λ (v : State). v.cursor) (state_is z s xs k)
      ∙ same s u start_s start_u
      ∙ sym (ap (λ (v : State). v.cursor) (state_is z u xs k))

  before_blanks : (played : List TokenKind) → SamePosition z class (then_blanks played 0) → SamePosition z class played
  before_blanks played same u v start_u start_v =
      sym (ap (λ (x : State). x.cursor) (final_then_blanks z u played 0))
      ∙ same u v start_u start_v
      ∙ ap (λ (x : State). x.cursor) (final_then_blanks z v played 0)

  pub prints_at_one : (k : ℕ) (t : TokenKind) → slice_get (kinds_of xs) k ≡ Some t → PrintsAtOne t
      (stand_of z s (take k xs)) (stand_of z p (take k xs)) (stand_of z q (take k xs))
  prints_at_one k (Glyph byte) e =
      let same = (plays.prints_well k byte e).at_one_position in
      (same_cursor k same p start_p, same_cursor k same q start_q)
  prints_at_one k Tab e =
      let same = before_blanks (take k (kinds_of xs)) (plays.tabs_well k 0 e
      (s, start_s, some_blanks (final z s (take k (kinds_of xs))).cursor.column)).at_one_position in
      (same_cursor k same p start_p, same_cursor k same q start_q)
  prints_at_one k t e = tt

  together : (k : ℕ) (x : Spelled) → slice_get xs k ≡ Some x → GoTogether z x.token (stand_of z s (take k xs))
      (stand_of z p (take k xs)) (stand_of z q (take k xs))
  together k x e = record {
    above = above_of s start_s k x e;
    above_first = above_of p start_p k x e;
    above_second = above_of q start_q k x e;
    one = prints_at_one k x.token (kind_at xs k x e);
  }

  -- what is agreed in the plays from two of them is agreed in that from the third, where its parts are theirs
  pub agreed_of_two : (agreed : Difference → Bool) → IsBeside (synced s) (synced p) (synced q) → (k : ℕ) (x : Spelled)
      → slice_get xs k ≡ Some x → IsTrue (is_agreed agreed z (stand_of z p (take k xs)) x)
      → IsTrue (is_agreed agreed z (stand_of z q (take k xs)) x)
      → IsTrue (is_agreed agreed z (stand_of z s (take k xs)) x)
  agreed_of_two agreed beside k x e from_p from_q =
      agreed_beside z agreed x (stand_of z s (take k xs)) _ _
      (beside_along z xs (synced s) (synced p) (synced q) beside together k x e) from_p from_q

-- ---- two classes
pub place_in_sync : (c d e : Position) → IsOneOf Position c d e → IsOneOf Footing
    (record { sync = InSync; cursor = c }) (record { sync = InSync; cursor = d }) (record { sync = InSync; cursor = e })
place_in_sync c d e (inl f) = inl (ap (λ (v : Position). record { sync = InSync; cursor = v }) f)
place_in_sync c d e (inr f) = inr (ap (λ (v : Position). record { sync = InSync; cursor = v }) f)

-- a start with the parts known in both has each part from the one start or the other
mixed_beside : (z : Size) (a b : Start) (s : State) → IsStart z (both_known a b) s
    → IsBeside (synced s) (synced (start_with z a s)) (synced (start_with z b s))
mixed_beside z a b s start = record {
  place = place_in_sync _ _ _ (part_of_one Position a.cursor b.cursor (cleared z).cursor s.cursor start.cursor);
  saved = part_of_one Position a.saved b.saved (cleared z).saved s.saved start.saved;
  attribute = part_of_one ℕ a.colours b.colours (cleared z).attribute s.attribute start.attribute;
  wrap = part_of_one Bool a.wrap b.wrap (cleared z).wrap s.wrap start.wrap;
  names = refl;
}

pub agreed_meet : AgreedMeet
agreed_meet agreed z a b xs w plays from_a from_b s k x start e =
    let start_p : IsStart z a (start_with z a s) = mixed_is_start z a s w start.well_formed in
    let start_q : IsStart z b (start_with z b s) = mixed_is_start z b s w start.well_formed in
    agreed_of_two z (both_known a b) xs plays s (start_with z a s) (start_with z b s) start
    (covers_starts z (both_known a b) a (start_with z a s) (covers_first a b) start_p)
    (covers_starts z (both_known a b) b (start_with z b s) (covers_second a b) start_q)
    agreed (mixed_beside z a b s start) k x e
    (from_a (start_with z a s) k x start_p e) (from_b (start_with z b s) k x start_q e)
