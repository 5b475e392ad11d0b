-- Of a content that is good from the cleared start: the kinds that are told are the least that are agreed, and what is
-- the same on every player.
use Rattle.std.proofs.Common.{◌≡◌, ℕ, ◌<◌, Bool, true, false, List, [], ◌∷◌, ◌++◌, refl, ap, ◌∙◌, subst}
use Rattle.std.proofs.Common.{arith, Option, None, Some}
use Rattle.std.specs.Prelude.{◌↔◌, IsTrue, is_some}
use Rattle.std.specs.List.{list_all}
use Rattle.std.proofs.lemmas.Bool.{and_from, and_parts, false≢true}
use Rattle.ans_model.specs.Screen.State.{Size}
use Rattle.ans_model.specs.Screen.StartClass.{Covers, all_known, none_known}
use Rattle.ans_model.specs.Sequence.Reads.{Reads}
use Rattle.ans_model.specs.declared.start.Start.{Start}
use Rattle.ans_model.specs.Verdict.Good.{GoodWith, IsGood}
use Rattle.ans_model.specs.Verdict.Needs.{IsLeast}
use Rattle.ans_model.proofs.ClassLemmas.{covers_all_known}
use Rattle.ans_players.specs.Classes.{HasOnlyAgreed, IsLeastSame, IsSame}
use Rattle.ans_players.specs.Mends.{mending_spelled}
use Rattle.ans_players.specs.Named.{IsNamed, times_cleared}
use Rattle.ans_players.specs.Situations.{AreAgreed, Spelled, spelled}
use Rattle.ans_players.specs.declared.difference.Difference.{Difference}
use Rattle.ans_players.specs.declared.difference.Difference.TheVariants.{WrapAtOnce, LineEnds, HomeOnClear}
use Rattle.ans_players.specs.declared.difference.Difference.TheVariants.{ClearInColour}
use Rattle.ans_players.specs.declared.difference.Difference.TheVariants.{SavePlaceOnly, DosColours, TabPrints}
use Rattle.ans_players.specs.declared.difference.Difference.TheVariants.{LineErased, WrapOff}
use Rattle.ans_players.specs.declared.difference.Difference.TheVariants.{StopsAtEdge, PageControls, TerminalControls}
use Rattle.ans_players.specs.declared.difference.Difference.TheVariants.{OwnColours}
use Rattle.ans_players.specs.Kinds.{all_but, is_kind}
use Rattle.ans_players.proofs.MendedPlayers.{mended_from_each}
use Rattle.ans_players.proofs.NamedKinds.{named_are_least}
use Rattle.ans_players.proofs.OneSpelling.{one_spelling}
use Rattle.ans_kinds.specs.KindsUsed.{IsTold, is_used, used_of}
use Rattle.ans_model.specs.Screen.Beginning.{mending, mending_texts, mending_tokens}
use Rattle.ans_kinds.specs.SaidOfPlayers.{IsSameWhereCleared, MendedIsSameWhereCleared}
use Rattle.ans_kinds.specs.declared.kinds.KindsUsed.{KindsUsed}
use Rattle.ans_pens.specs.declared.times.Times.{Times}
use Rattle.ans_kinds.proofs.Mended.{makes_good, reads_as_behind}

-- ---- the kinds that are told
module _ (z : Size) (content : List ℕ) (kind : Difference) (good : IsGood z all_known content) where
  abbrev times_here : ℕ
  times_here = times_cleared kind z (spelled good.1.tokens good.1.reads.0)

  -- it arises as often as is said, however the content is read
  named_times : (count offset : ℕ) → IsNamed z content kind count offset → times_here ≡ count
  named_times count offset named =
      ap (λ (xs : List Spelled). times_cleared kind z xs)
      (one_spelling content good.1.tokens named.good.1.tokens good.1.reads named.good.1.reads) ∙ named.count_is

  -- what arises is told, and what is told arises
  told_if_arises : (told : Option Times) → IsTold z content kind told → 0 < times_here → IsTrue (is_some told)
  told_if_arises None named some = let no : ⊥ = omega (arith, named_times 0 0 named, some) in absurd no
  told_if_arises (Some times) named some = refl

  pub arises_if_told : (told : Option Times) → IsTold z content kind told → IsTrue (is_some told) → 0 < times_here
  arises_if_told None named some = absurd (false≢true some)
  arises_if_told (Some times) named some =
      omega (arith, named.0, named_times times.count times.first named.1)

module _ (z : Size) (content : List ℕ) (used : KindsUsed)
    (told : (kind : Difference) → IsTold z content kind (used_of used kind)) where
  -- no kinds but those that are told arise from the cleared start
  pub same_in_used : IsGood z all_known content → IsSame (is_used used) z all_known content
  same_in_used good = (
    good,
    (named_are_least z content (is_used used) good).1
        (λ kind some. told_if_arises z content kind good (used_of used kind) (told kind) some),
  )

  -- and they are the least that are agreed
  pub used_is_agreed : (agreed : Difference → Bool) → IsSame agreed z all_known content → (kind : Difference)
      → IsTrue (is_used used kind) → IsTrue (agreed kind)
  used_is_agreed agreed same kind is =
      (named_are_least z content agreed same.0).0 same.1 kind
      (arises_if_told z content kind same.0 (used_of used kind) (told kind) is)

  pub used_has_only_agreed : (needs : Start) → IsLeast z content needs → HasOnlyAgreed (is_used used) z content needs
  used_has_only_agreed needs least = record {
    same = same_in_used ((least all_known).1 (covers_all_known needs));
    least = least;
  }

-- ---- more that is agreed
-- where all of some kinds are agreed, they are so where more is
all_agreed : (some more : Difference → Bool) → ((kind : Difference) → IsTrue (some kind) → IsTrue (more kind))
    → (kinds : List Difference) → IsTrue (list_all some kinds) → IsTrue (list_all more kinds)
all_agreed some more each [] all = refl
all_agreed some more each (kind ∷ kinds) all =
    and_from _ _ (each kind (and_parts _ _ all).0) (all_agreed some more each kinds (and_parts _ _ all).1)

same_in_more : (some more : Difference → Bool) (z : Size) (class : Start) (content : List ℕ)
    → ((kind : Difference) → IsTrue (some kind) → IsTrue (more kind)) → IsSame some z class content
    → IsSame more z class content
same_in_more some more z class content each same = (
  same.0,
  λ s k x start e. all_agreed some more each _ (same.1 s k x start e),
)

-- where none are told, none are agreed
pub same_on_every_player : (z : Size) (content : List ℕ) (used : KindsUsed) (class : Start)
    → ((kind : Difference) → used_of used kind ≡ None) → IsLeastSame (is_used used) z content class
    → IsLeastSame (λ kind. false) z content class
same_on_every_player z content used class none least =
    subst (λ (agreed : Difference → Bool). IsLeastSame agreed z content class) (λ i kind. is_some (none kind i)) least

-- where own colours alone are told, they alone are agreed
pub same_in_named_colours : (z : Size) (content : List ℕ) (used : KindsUsed) (class : Start) (times : Times)
    → ((kind : Difference) → IsTrue (all_but OwnColours kind) → used_of used kind ≡ None)
    → used_of used OwnColours ≡ Some times → IsLeastSame (is_used used) z content class
    → IsLeastSame (is_kind OwnColours) z content class
same_in_named_colours z content used class times none some least =
    subst (λ (agreed : Difference → Bool). IsLeastSame agreed z content class) (λ i kind. each kind i) least
  where
    each : (kind : Difference) → is_used used kind ≡ is_kind OwnColours kind
    each OwnColours = ap is_some some
    each WrapAtOnce = ap is_some (none WrapAtOnce refl)
    each LineEnds = ap is_some (none LineEnds refl)
    each HomeOnClear = ap is_some (none HomeOnClear refl)
    each ClearInColour = ap is_some (none ClearInColour refl)
    each SavePlaceOnly = ap is_some (none SavePlaceOnly refl)
    each DosColours = ap is_some (none DosColours refl)
    each TabPrints = ap is_some (none TabPrints refl)
    each LineErased = ap is_some (none LineErased refl)
    each WrapOff = ap is_some (none WrapOff refl)
    each StopsAtEdge = ap is_some (none StopsAtEdge refl)
    each PageControls = ap is_some (none PageControls refl)
    each TerminalControls = ap is_some (none TerminalControls refl)

-- none but own colours are told, and they are not
pub none_at_all : (used : KindsUsed)
    → ((kind : Difference) → IsTrue (all_but OwnColours kind) → used_of used kind ≡ None)
    → used_of used OwnColours ≡ None → (kind : Difference) → used_of used kind ≡ None
none_at_all used none own OwnColours = own
none_at_all used none own WrapAtOnce = none WrapAtOnce refl
none_at_all used none own LineEnds = none LineEnds refl
none_at_all used none own HomeOnClear = none HomeOnClear refl
none_at_all used none own ClearInColour = none ClearInColour refl
none_at_all used none own SavePlaceOnly = none SavePlaceOnly refl
none_at_all used none own DosColours = none DosColours refl
none_at_all used none own TabPrints = none TabPrints refl
none_at_all used none own LineErased = none LineErased refl
none_at_all used none own WrapOff = none WrapOff refl
none_at_all used none own StopsAtEdge = none StopsAtEdge refl
none_at_all used none own PageControls = none PageControls refl
none_at_all used none own TerminalControls = none TerminalControls refl

-- ---- the same from every start as from the cleared one
-- then it is good from every start
pub good_where_cleared : (z : Size) (content : List ℕ) (needs : Start) → IsLeast z content needs
    → IsSameWhereCleared z content → Covers needs none_known
good_where_cleared z content needs least same =
    let good : IsGood z all_known content = (least all_known).1 (covers_all_known needs) in
    let all : IsSame (λ kind. true) z all_known content =
    (good, (named_are_least z content (λ kind. true) good).1 (λ kind some. refl)) in
    (least none_known).0 (same (λ kind. true) all).0

-- it is so exactly where it is with the kinds that are told, which are the least
pub same_by_least : (z : Size) (content : List ℕ) (used : KindsUsed) (class : Start) → IsGood z all_known content
    → ((kind : Difference) → IsTold z content kind (used_of used kind)) → IsLeastSame (is_used used) z content class
    → Covers class none_known ↔ IsSameWhereCleared z content
same_by_least z content used class good told least = (
  λ covers agreed same.
      same_in_more (is_used used) agreed z none_known content (used_is_agreed z content used told agreed same)
      ((least none_known).1 covers),
  λ same. (least none_known).0 (same (is_used used) (same_in_used z content used told good)),
)

-- ---- behind the mending
pub mended_is_same_where_cleared : MendedIsSameWhereCleared
mended_is_same_where_cleared z content good agreed same =
    let w : 0 < z.width = good.1.size.some_columns in
    let xs : List Spelled = spelled good.1.tokens good.1.reads.0 in
    let mended : GoodWith z none_known (mending ++ content) good.0 = makes_good z content good.0 good.1 in
    let reads : Reads (mending ++ content) (mending_tokens ++ good.1.tokens) =
    (mending_texts ++ good.1.reads.0, reads_as_behind content good.1.tokens good.1.reads.0 good.1.reads.1) in
    let cleared : AreAgreed agreed z all_known (mending_spelled ++ xs) =
    subst (λ (ys : List Spelled). AreAgreed agreed z all_known ys)
    (one_spelling (mending ++ content) same.0.1.tokens (mending_tokens ++ good.1.tokens) same.0.1.reads reads)
    same.1 in (
      (good.0, mended),
      subst (λ (ys : List Spelled). AreAgreed agreed z none_known ys)
          (one_spelling (mending ++ content) (mending_tokens ++ good.1.tokens) mended.tokens reads mended.reads)
          (mended_from_each agreed z all_known none_known xs w cleared),
    )
