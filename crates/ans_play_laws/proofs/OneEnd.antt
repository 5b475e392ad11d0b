-- Good content shows one picture, and players that are fed the same bytes end alike.
use Rattle.std.proofs.Common.{◌≡◌, ℕ, ◌*◌, ◌<◌, List, ◌++◌, Option, Some, None, refl, sym, ap, ◌∙◌, subst}
use Rattle.std.specs.Prelude.{Result, Ok, Err, slice_get, unwrap_or}
use Rattle.std.proofs.lemmas.List.{ext_get_or}
use Rattle.std.proofs.lemmas.Option.{unwrap_or-slice_get}
use Rattle.ans_model.specs.Sequence.TokenKind.{TokenKind}
use Rattle.ans_model.specs.Screen.State.{Size, cell, cell_at}
use Rattle.ans_model.specs.declared.cell.Cell.{Cell}
use Rattle.ans_model.specs.declared.cell.Position.{Position}
use Rattle.ans_model.specs.declared.start.Start.{Start}
use Rattle.ans_model.specs.declared.fault.Fault.{Fault}
use Rattle.ans_model.specs.Screen.StartClass.{cleared}
use Rattle.ans_model.specs.Screen.Step.{final}
use Rattle.ans_model.specs.Verdict.Good.{Picture, GoodWith}
use Rattle.ans_model.specs.Verdict.FirstFault.{IsFirstFault}
use Rattle.ans_model.proofs.Reading.{one_reading}
use Rattle.ans_model.proofs.OneAnswer.{one_first_fault, one_last_fault, good_or_last}
use Rattle.ans_play.specs.PlayerView.{PlayerView}
use Rattle.ans_play.specs.Stands.{Stands, SamePlay, Feeds, EndsAs}
use Rattle.ans_play.proofs.MeetPlays.{cleared_is_start}
use Rattle.ans_play.proofs.Finishing.{position_of, position_index, position_stated}
use Rattle.ans_play.proofs.Feeding.{played_has_no_first_fault}

-- ---- one picture
-- two pictures of one size whose cells are equal
picture_path : (p q : Picture) → p.size ≡ q.size → p.cells ≡ q.cells → p ≡ q
picture_path p q size cells i = record { size = size i; cells = cells i }

-- both show the cell that the play from the cleared start ends with
same_cell : (z : Size) (a b : Start) (content : List ℕ) (p q : Picture) → GoodWith z a content p
    → GoodWith z b content q → (i : ℕ) → i < z.lines * z.width → slice_get p.cells i ≡ slice_get q.cells i
same_cell z a b content p q h g i within =
    let w : 0 < z.width = h.size.some_columns in
    let at : Position = position_of z i in
    let stated = position_stated z i w within in
    let tokens : h.tokens ≡ g.tokens = one_reading content h.tokens g.tokens h.reads g.reads in
    let same : cell_at z p.cells at ≡ cell_at z q.cells at =
    sym (h.shows.shown (cleared z) at (cleared_is_start z a w) stated)
    ∙ ap (λ (ts : List TokenKind). cell_at z (final z (cleared z) ts).screen at) tokens
    ∙ g.shows.shown (cleared z) at (cleared_is_start z b w) stated in
    subst (λ (n : ℕ). slice_get p.cells n ≡ slice_get q.cells n) (position_index z i w) same

pub one_picture : (z : Size) (a b : Start) (content : List ℕ) (p q : Picture) → GoodWith z a content p
    → GoodWith z b content q → p ≡ q
one_picture z a b content p q h g =
    let nothing : Cell = cell 0 0 in
    let one = h.shows.is_picture in
    let other = g.shows.is_picture in
    picture_path p q (one.size ∙ sym other.size)
    (ext_get_or nothing p.cells q.cells (one.count ∙ sym other.count) (λ i l.
    sym (unwrap_or-slice_get p.cells i nothing)
    ∙ ap (λ (c : Option Cell). unwrap_or c nothing)
    (same_cell z a b content p q h g i (subst (λ (n : ℕ). i < n) one.count l))
    ∙ unwrap_or-slice_get q.cells i nothing))

-- ---- one end
-- a player's bytes are those of another of the same size and class
record Answers (z : Size) (class : Start) (p : PlayerView) (s : List ℕ) (result : Result Picture Fault) : Type 0 where
  size : p.size ≡ z
  start : p.start ≡ class
  stands : Stands p s
  ends : EndsAs p s result

module _ (z : Size) (class : Start) (p q : PlayerView) (s : List ℕ) where
  same_faults : (f g : Fault) (r t : Result Picture Fault) → p.fault ≡ Some f → q.fault ≡ Some g
      → Answers z class p s r → Answers z class q s t → r ≡ t
  same_faults f g r t e d h k =
      let first : IsFirstFault z class s f = rw (h.size, h.start) at (h.stands.faulted f e) in
      let other : IsFirstFault z class s g = rw (k.size, k.start) at (k.stands.faulted g d) in
      h.ends.repeats f e ∙ ap (λ (x : Fault). Err x) (one_first_fault z class s f g first other)
      ∙ sym (k.ends.repeats g d)

  -- one has a fault, and the other played the bytes without
  fault_and_none : (f : Fault) (r t : Result Picture Fault) → p.fault ≡ Some f → q.fault ≡ None
      → Answers z class p s r → Answers z class q s t → ⊥
  fault_and_none f r t e d h k =
      let first : IsFirstFault z class s f = rw (h.size, h.start) at (h.stands.faulted f e) in
      played_has_no_first_fault z class s q.scanner q.state f (rw (k.size, k.start) at (k.stands.played d)) first

  without_faults : (r t : Result Picture Fault) → p.fault ≡ None → q.fault ≡ None
      → Answers z class p s r → Answers z class q s t → r ≡ t
  without_faults (Ok a) (Ok b) e d h k =
      ap (λ (x : Picture). Ok x) (one_picture z class class s a b (rw (h.size, h.start) at h.ends.finished.good)
      (rw (k.size, k.start) at k.ends.finished.good))
  without_faults (Ok a) (Err g) e d h k =
      absurd (good_or_last z class s g (a, rw (h.size, h.start) at h.ends.finished.good)
      (rw (k.size, k.start) at (k.ends.finished.last d)))
  without_faults (Err f) (Ok b) e d h k =
      absurd (good_or_last z class s f (b, rw (k.size, k.start) at k.ends.finished.good)
      (rw (h.size, h.start) at (h.ends.finished.last e)))
  without_faults (Err f) (Err g) e d h k =
      ap (λ (x : Fault). Err x) (one_last_fault z class s f g (rw (h.size, h.start) at (h.ends.finished.last e))
      (rw (k.size, k.start) at (k.ends.finished.last d)))

same_end : (z : Size) (class : Start) (p q : PlayerView) (s : List ℕ) (r t : Result Picture Fault) (e d : Option Fault)
    → p.fault ≡ e → q.fault ≡ d → Answers z class p s r → Answers z class q s t → r ≡ t
same_end z class p q s r t (Some f) (Some g) e d h k = same_faults z class p q s f g r t e d h k
same_end z class p q s r t (Some f) None e d h k = absurd (fault_and_none z class p q s f r t e d h k)
same_end z class p q s r t None (Some g) e d h k = absurd (fault_and_none z class q p s g t r d e k h)
same_end z class p q s r t None None e d h k = without_faults z class p q s r t e d h k

pub finish_alike : (p q : PlayerView) (s : List ℕ) (r t : Result Picture Fault) → SamePlay p q → Stands p s
    → Stands q s → EndsAs p s r → EndsAs q s t → r ≡ t
finish_alike p q s r t same stands_p stands_q ends_p ends_q =
    same_end p.size p.start p q s r t p.fault q.fault refl refl
    (record { size = refl; start = refl; stands = stands_p; ends = ends_p })
    (record { size = same.size; start = same.start; stands = stands_q; ends = ends_q })

-- ---- one answer of a feed
pub feed_alike : (p p' q q' : PlayerView) (s piece t part : List ℕ) (r u : Result (Unit {0}) Fault) → SamePlay p q
    → s ++ piece ≡ t ++ part → Feeds p s piece p' r → Feeds q t part q' u → r ≡ u
feed_alike p p' q q' s piece t part (Ok x) (Ok y) same e h k = refl
feed_alike p p' q q' s piece t part (Ok x) (Err g) same e h k =
    absurd (h.none g (rw (same.size, same.start, ← e) at k.first))
feed_alike p p' q q' s piece t part (Err f) (Ok y) same e h k =
    absurd (k.none f (rw (← same.size, ← same.start, e) at h.first))
feed_alike p p' q q' s piece t part (Err f) (Err g) same e h k =
    ap (λ (x : Fault). Err x) (one_first_fault p.size p.start (s ++ piece) f g h.first
    (rw (same.size, same.start, ← e) at k.first))
