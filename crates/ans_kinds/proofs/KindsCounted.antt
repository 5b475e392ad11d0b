-- Kinds that are counted one after the other at one offset, and each of them once.
use Rattle.std.proofs.Common.{◌≡◌, ℕ, ◌<◌, Bool, true, false, not, List, [], ◌∷◌, ◌++◌, Option, refl, sym, ap, ap₂}
use Rattle.std.proofs.Common.{◌∙◌, arith, append-nil}
use Rattle.std.specs.Prelude.{◌&&◌, ◌||◌, ◌==◌}
use Rattle.std.specs.List.{list_all, list_any}
use Rattle.std.proofs.lemmas.List.Folds.{list_any-append}
use Rattle.ans_model.specs.Bytes.{longest_file}
use Rattle.ans_model.specs.Screen.Attribute.{attribute_after_all}
use Rattle.ans_model.specs.Screen.State.{Size, State}
use Rattle.ans_model.specs.Sequence.Omitted.{omits}
use Rattle.ans_model.specs.Sequence.TokenKind.{Colours}
use Rattle.ans_players.specs.Sync.{Stand}
use Rattle.ans_players.specs.Kinds.{is_kind}
use Rattle.ans_players.specs.Situations.{is_common_colour, kind_if, situations}
use Rattle.ans_players.specs.declared.difference.Difference.{Difference}
use Rattle.ans_players.specs.declared.difference.Difference.TheVariants.{DosColours, OwnColours}
use Rattle.ans_pens.specs.Counted.{counted}
use Rattle.ans_kinds.specs.SyncShown.{kinds_in, kinds_of}
use Rattle.ans_kinds.specs.KindsUsed.{used_of}
use Rattle.ans_kinds.specs.KindsWalked.{AreFew, parts_at}
use Rattle.ans_pens.specs.Pens.{pen_of}
use Rattle.ans_pens.specs.declared.pen.Pen.{Pen}
use Rattle.ans_kinds.specs.declared.kinds.KindsUsed.{KindsUsed}
use Rattle.ans_kinds.specs.declared.situations.Situations.{Situations}
use Rattle.ans_pens.specs.declared.times.Times.{Times}
use Rattle.ans_tokens.specs.declared.colours.ColourSequence.{ColourSequence}
use Rattle.ans_kinds.proofs.KindsFound.{few_more, one}

-- the kind is there
abbrev pub has : Option Difference → Difference → Bool
has some kind = list_any (is_kind kind) (kinds_in some)

-- the first is the second, unless that is the third
abbrev pub IsUnless : Option Difference → Option Difference → Option Difference → Type 0
IsUnless result some other = (kind : Difference) → has result kind ≡ (not (has other kind) && has some kind)

-- one time more of each kind of these, at this offset
abbrev pub HasCounted : KindsUsed → (Difference → Bool) → ℕ → KindsUsed → Type 0
HasCounted old more offset new = (kind : Difference) → used_of new kind ≡ counted (used_of old kind) (more kind) offset

counted_apart : (times : Option Times) (offset : ℕ) (before more : Bool)
    → counted (counted times before offset) (not before && more) offset ≡ counted times (before || more) offset
counted_apart times offset true more = refl
counted_apart times offset false more = refl

-- no kind of two, and of three
neither : (a b more : Bool) → (not a && (not b && more)) ≡ (not (a || b) && more)
neither true b more = refl
neither false b more = refl

none_of_three : (a b c more : Bool) → (not a && (not b && (not c && more))) ≡ (not ((a || b) || c) && more)
none_of_three true b c more = refl
none_of_three false true c more = refl
none_of_three false false c more = refl

or_assoc : (a b c d : Bool) → (((a || b) || c) || d) ≡ (a || ((b || c) || d))
or_assoc true b c d = refl
or_assoc false b c d = refl

-- no kind was counted more often than there are bytes in a file
pub few_later : (old new : KindsUsed) (more : Difference → Bool) (offset : ℕ) → AreFew old offset
    → offset < longest_file
    → HasCounted old more offset new → AreFew new longest_file
few_later old new more offset few room each number within =
    let here = few_more old new more offset few each number within in omega (arith, here, room)

module _ (old : KindsUsed) (s : Situations) (offset : ℕ) where
  -- those that were not counted before
  counted_more : (mid new : KindsUsed) (before more : Difference → Bool) (some : Option Difference)
      → ((kind : Difference) → has some kind ≡ (not (before kind) && more kind)) → HasCounted old before offset mid
      → HasCounted mid (has some) offset new → HasCounted old (λ kind. before kind || more kind) offset new
  counted_more mid new before more some is first later kind =
      later kind ∙ ap (λ (b : Bool). counted (used_of mid kind) b offset) (is kind)
      ∙ ap (λ (t : Option Times). counted t (not (before kind) && more kind) offset) (first kind)
      ∙ counted_apart (used_of old kind) offset (before kind) (more kind)

  abbrev pub one_of_two : Difference → Bool
  one_of_two kind = has s.unsure kind || has s.own kind

  abbrev pub one_of_three : Difference → Bool
  one_of_three kind = (has s.unsure kind || has s.own kind) || has s.other kind

  pub two_counted : (mid new : KindsUsed) (own : Option Difference) → IsUnless own s.own s.unsure
      → HasCounted old (has s.unsure) offset mid → HasCounted mid (has own) offset new
      → HasCounted old one_of_two offset new
  two_counted mid new own is first later = counted_more mid new (has s.unsure) (has s.own) own is first later

  pub three_counted : (mid new : KindsUsed) (inner some : Option Difference) → IsUnless inner s.other s.own
      → IsUnless some inner s.unsure → HasCounted old one_of_two offset mid → HasCounted mid (has some) offset new
      → HasCounted old one_of_three offset new
  three_counted mid new inner some is_inner is first later =
      counted_more mid new one_of_two (has s.other) some (λ kind.
      is kind ∙ ap (λ (b : Bool). not (has s.unsure kind) && b) (is_inner kind)
      ∙ neither (has s.unsure kind) (has s.own kind) (has s.other kind)) first later

  -- whether a kind is one of the situations, by their parts
  in_situations : (kind : Difference) → (one_of_three kind || list_any (is_kind kind) (kind_if s.unnamed OwnColours))
      ≡ list_any (is_kind kind) (kinds_of s)
  in_situations kind =
      let p = is_kind kind in
      or_assoc (list_any p (kinds_in s.unsure)) (list_any p (kinds_in s.own)) (list_any p (kinds_in s.other)) _
      ∙ sym (list_any-append p (kinds_in s.unsure) _
      ∙ ap (λ (b : Bool). list_any p (kinds_in s.unsure) || b) (list_any-append p (kinds_in s.own ++ kinds_in s.other) _
      ∙ ap (λ (b : Bool). b || list_any p (kind_if s.unnamed OwnColours))
      (list_any-append p (kinds_in s.own) (kinds_in s.other))))

  pub all_counted : (mid new : KindsUsed) (unnamed inmost inner some : Option Difference)
      → kinds_in unnamed ≡ kind_if s.unnamed OwnColours → IsUnless inmost unnamed s.other → IsUnless inner inmost s.own
      → IsUnless some inner s.unsure → HasCounted old one_of_three offset mid → HasCounted mid (has some) offset new
      → HasCounted old (λ kind. list_any (is_kind kind) (kinds_of s)) offset new
  all_counted mid new unnamed inmost inner some unnamed_is is_inmost is_inner is first later kind =
      counted_more mid new one_of_three (has unnamed) some (λ kind.
      is kind ∙ ap (λ (b : Bool). not (has s.unsure kind) && b)
      (is_inner kind ∙ ap (λ (b : Bool). not (has s.own kind) && b) (is_inmost kind))
      ∙ none_of_three (has s.unsure kind) (has s.own kind) (has s.other kind) (has unnamed kind)) first later kind
      ∙ ap (λ (b : Bool). counted (used_of old kind) b offset)
      (ap (λ (kinds : List Difference). one_of_three kind || list_any (is_kind kind) kinds) unnamed_is
      ∙ in_situations kind)

-- What is asked of the kinds that arise, and one that arises twice makes no difference.
abbrev pub IsOfKinds : (List Difference → Bool) → Type 0
IsOfKinds test = test (DosColours ∷ []) ≡ test (DosColours ∷ DosColours ∷ [])

pub any_of_kinds : (kind : Difference) → IsOfKinds (λ kinds. list_any (is_kind kind) kinds)
any_of_kinds kind = twice (is_kind kind DosColours)
  where
    twice : (b : Bool) → (b || false) ≡ (b || (b || false))
    twice true = refl
    twice false = refl

pub all_of_kinds : (agreed : Difference → Bool) → IsOfKinds (λ kinds. list_all agreed kinds)
all_of_kinds agreed = twice (agreed DosColours)
  where
    twice : (b : Bool) → (b && true) ≡ (b && (b && true))
    twice true = refl
    twice false = refl

module _ (test : List Difference → Bool) (of_kinds : IsOfKinds test) where
  -- a kind that arises for one of two reasons
  for_either : (a b : Bool) → test (kind_if (a || b) DosColours)
      ≡ test ((kind_if a DosColours ++ kind_if b DosColours) ++ kind_if false OwnColours)
  for_either true true = of_kinds
  for_either true false = refl
  for_either false b = sym (ap test (append-nil (kind_if b DosColours)))

  -- of a colour sequence no kind arises but that of DOS colours, for either reason
  kinds_of_colours : (z : Size) (stand : Stand) (numbers text : List ℕ) (may_part : Bool)
      → may_part ≡ (not (list_all is_common_colour numbers)
      || (omits text && not (stand.state.attribute == 0x07 && list_all (λ n. n == 0) numbers)))
      → test (kind_if may_part DosColours) ≡ test (situations z stand (one (Colours numbers) text))
  kinds_of_colours z stand numbers text may_part is = rw is (for_either _ _)

  -- which is told of its numbers, whether one is omitted, and the pen
  pub kinds_parted : (z : Size) (stand : Stand) (colours : ColourSequence) (text : List ℕ) (pen : Pen)
      → pen ≡ pen_of stand.state → colours.omits ≡ omits text
      → test (kind_if (parts_at (list_all is_common_colour colours.numbers.now) (pen.attribute == 0x07) colours)
      DosColours) ≡ test (situations z stand (one (Colours colours.numbers.now) text))
  kinds_parted z stand colours text pen here omitted =
      kinds_of_colours z stand colours.numbers.now text _
      (ap₂ (λ (o : Bool) (p : Pen). not (list_all is_common_colour colours.numbers.now)
      || (o && not (p.attribute == 0x07 && list_all (λ n. n == 0) colours.numbers.now))) omitted here)

-- the pen behind them
pub coloured : (pen : Pen) (s : State) (numbers : List ℕ) → pen ≡ pen_of s
    → record pen { attribute = attribute_after_all pen.attribute numbers }
    ≡ pen_of (record s { attribute = attribute_after_all s.attribute numbers })
coloured pen s numbers here = ap (λ (p : Pen). record p { attribute = attribute_after_all p.attribute numbers }) here
