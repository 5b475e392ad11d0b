-- The least class of starts for which content is the same on every player is found part by part.
use Rattle.std.proofs.Common.{◌≡◌, inl, refl, ap, ◌∙◌, sym, subst, ℕ, ◌<◌, Bool, true, false, List}
use Rattle.std.proofs.lemmas.Bool.{and_parts, and_from}
use Rattle.std.specs.Prelude.{◌↔◌, IsTrue}
use Rattle.ans_model.specs.Sequence.TokenKind.{TokenKind}
use Rattle.ans_model.specs.Screen.State.{Size}
use Rattle.ans_model.specs.Screen.StartClass.{Covers, all_known, both_known, cleared, IsStart, all_but_screen}
use Rattle.ans_model.specs.Screen.StartClass.{all_but_cursor, all_but_saved, all_but_colours, all_but_wrap}
use Rattle.ans_model.specs.declared.start.Start.{Start}
use Rattle.ans_model.specs.Verdict.Good.{GoodWith, IsGood, PlaysWell}
use Rattle.ans_model.proofs.ClassLemmas.{covers_starts, covers_all_known, covers_good}
use Rattle.ans_model.proofs.ClassLemmas.{covers_all_but_screen, covers_all_but_cursor, covers_all_but_saved}
use Rattle.ans_model.proofs.ClassLemmas.{covers_all_but_colours, covers_all_but_wrap}
use Rattle.ans_model.proofs.StartLemmas.{low_is_start}
use Rattle.ans_players.specs.declared.difference.Difference.{Difference}
use Rattle.ans_players.specs.Situations.{Spelled, AreAgreed, spelled}
use Rattle.ans_players.specs.Classes.{IsSame, IsLeastSame, HasOnlyAgreed, IsFoundBySame}
use Rattle.ans_players.specs.Classes.{LeastSameIsFound}
use Rattle.ans_players.proofs.Along.{kinds_of, kinds_of_spelled}
use Rattle.ans_players.proofs.Meets.{agreed_meet, agreed_of_two, place_in_sync}
use Rattle.ans_players.proofs.OneSpelling.{one_spelling}

-- ---- classes
-- a class that both cover is covered by what both know
both_covered : (a b c : Start) → Covers c a → Covers c b → Covers c (both_known a b)
both_covered a b c of_a of_b = record {
  screen = λ k. and_from _ _ (of_a.screen k) (of_b.screen k);
  cursor = λ k. and_from _ _ (of_a.cursor k) (of_b.cursor k);
  saved = λ k. and_from _ _ (of_a.saved k) (of_b.saved k);
  colours = λ k. and_from _ _ (of_a.colours k) (of_b.colours k);
  wrap = λ k. and_from _ _ (of_a.wrap k) (of_b.wrap k);
}

-- ---- content of which this is so
-- what is the same for a class is so for each class that it covers
covered_same : (agreed : Difference → Bool) (z : Size) (content : List ℕ) (a b : Start) → Covers a b
    → IsSame agreed z a content → IsSame agreed z b content
covered_same agreed z content a b covers same =
    let good : GoodWith z b content same.0.0 = covers_good z a b content same.0.0 covers same.0.1 in
    let each : AreAgreed agreed z b (spelled same.0.1.tokens same.0.1.reads.0) =
    λ s k x start e. same.1 s k x (covers_starts z a b s covers start) e in (
      (same.0.0, good),
      subst (λ (ys : List Spelled). AreAgreed agreed z b ys)
          (one_spelling content same.0.1.tokens good.tokens same.0.1.reads good.reads) each,
    )

module _ (agreed : Difference → Bool) (z : Size) (content : List ℕ) (needs : Start)
    (only_agreed : HasOnlyAgreed agreed z content needs) where
  abbrev xs : List Spelled
  xs = spelled only_agreed.same.0.1.tokens only_agreed.same.0.1.reads.0

  some_columns : 0 < z.width
  some_columns = only_agreed.same.0.1.size.some_columns

  -- the content is spelled so, however it is read
  spelled_is : (class : Start) (good : IsGood z class content) → spelled good.1.tokens good.1.reads.0 ≡ xs
  spelled_is class good =
      one_spelling content good.1.tokens only_agreed.same.0.1.tokens good.1.reads only_agreed.same.0.1.reads

  pub plays_of : (class : Start) → IsGood z class content → PlaysWell z class (kinds_of xs)
  plays_of class good =
      subst (λ (us : List TokenKind). PlaysWell z class us)
      (sym (kinds_of_spelled good.1.tokens good.1.reads.0 good.1.reads.1.each)
      ∙ ap kinds_of (spelled_is class good)) good.1.plays

  pub agreed_is : (class : Start) → IsSame agreed z class content → AreAgreed agreed z class xs
  agreed_is class same =
      subst (λ (ys : List Spelled). AreAgreed agreed z class ys) (spelled_is class same.0) same.1

  pub same_is : (class : Start) (good : IsGood z class content) → AreAgreed agreed z class xs
      → IsSame agreed z class content
  same_is class good each = (
    good,
    subst (λ (ys : List Spelled). AreAgreed agreed z class ys) (sym (spelled_is class good)) each,
  )

  -- what is the same for two classes is so for that of the parts known in both
  same_meet : (a b : Start) → IsSame agreed z a content → IsSame agreed z b content
      → IsSame agreed z (both_known a b) content
  same_meet a b of_a of_b =
      let good : IsGood z (both_known a b) content = (only_agreed.least (both_known a b)).1
      (both_covered a b needs ((only_agreed.least a).0 of_a.0) ((only_agreed.least b).0 of_b.0)) in
      same_is (both_known a b) good
      (agreed_meet agreed z a b xs some_columns (plays_of (both_known a b) good) (agreed_is a of_a) (agreed_is b of_b))

  -- no kind looks at a cell
  same_without_cells : IsGood z all_but_screen content → IsSame agreed z all_but_screen content
  same_without_cells good = same_is all_but_screen good (λ s k x start e.
      let clear : IsStart z all_known (cleared z) = low_is_start z all_known some_columns in
      let clear_too : IsStart z all_but_screen (cleared z) =
      covers_starts z all_but_screen all_known (cleared z) (covers_all_known all_but_screen) clear in
      let there = agreed_is all_known only_agreed.same (cleared z) k x clear e in
      agreed_of_two z all_but_screen xs (plays_of all_but_screen good) s (cleared z) (cleared z) start clear_too
      clear_too agreed (record {
        place = place_in_sync _ _ _ (inl (start.cursor refl));
        saved = inl (start.saved refl);
        attribute = inl (start.attribute refl);
        wrap = inl (start.wrap refl);
        names = refl;
      }) k x e there there)

  -- ---- part by part
  needed_part : (others : Start) (needed known : Bool) → (needed ≡ false) ↔ IsSame agreed z others content
      → (known ≡ false → IsSame agreed z others content) → IsTrue needed → IsTrue known
  needed_part others needed true part without k = refl
  needed_part others needed false part without k =
      let no : needed ≡ false = part.1 (without refl) in absurd (let none : ⊥ = cc in none)

  -- with this part as it is found and all others known, it is the same
  same_with_part : (needed : Bool) (class : Bool → Start) → (needed ≡ false) ↔ IsSame agreed z (class false) content
      → IsSame agreed z (class true) content → IsSame agreed z (class needed) content
  same_with_part true class part all = all
  same_with_part false class part all = part.0 refl

  module _ (class : Start) (found : IsFoundBySame agreed z content needs class) where
    screen_found : (class.screen ≡ false) ↔ IsSame agreed z all_but_screen content
    screen_found = (
      λ e. same_without_cells ((only_agreed.least all_but_screen).1
          ((covers_all_but_screen needs).1 (sym found.screen ∙ e))),
      λ same. found.screen ∙ (covers_all_but_screen needs).0 ((only_agreed.least all_but_screen).0 same.0),
    )

    found_is_same : IsSame agreed z class content
    found_is_same =
        covered_same agreed z content _ class
        (record {
          screen = λ k. (and_parts class.screen true k).0;
          cursor = λ k. (and_parts class.cursor true k).0;
          saved = λ k. (and_parts class.saved true k).0;
          colours = λ k. (and_parts class.colours true k).0;
          wrap = λ k. k;
        })
        (same_meet _ _
        (same_with_part class.screen (λ k. record all_known { screen = k }) screen_found only_agreed.same)
        (same_meet _ _
        (same_with_part class.cursor (λ k. record all_known { cursor = k }) found.cursor only_agreed.same)
        (same_meet _ _
        (same_with_part class.saved (λ k. record all_known { saved = k }) found.saved only_agreed.same)
        (same_meet _ _
        (same_with_part class.colours (λ k. record all_known { colours = k }) found.colours only_agreed.same)
        (same_with_part class.wrap (λ k. record all_known { wrap = k }) found.wrap only_agreed.same)))))

    least_by_parts : IsLeastSame agreed z content class
    least_by_parts c = (
      λ same. record {
        screen = needed_part all_but_screen class.screen c.screen screen_found
            (λ e. covered_same agreed z content c all_but_screen ((covers_all_but_screen c).1 e) same);
        cursor = needed_part all_but_cursor class.cursor c.cursor found.cursor
            (λ e. covered_same agreed z content c all_but_cursor ((covers_all_but_cursor c).1 e) same);
        saved = needed_part all_but_saved class.saved c.saved found.saved
            (λ e. covered_same agreed z content c all_but_saved ((covers_all_but_saved c).1 e) same);
        colours = needed_part all_but_colours class.colours c.colours found.colours
            (λ e. covered_same agreed z content c all_but_colours ((covers_all_but_colours c).1 e) same);
        wrap = needed_part all_but_wrap class.wrap c.wrap found.wrap
            (λ e. covered_same agreed z content c all_but_wrap ((covers_all_but_wrap c).1 e) same);
      },
      λ covers. covered_same agreed z content class c covers found_is_same,
    )

pub least_same_is_found : LeastSameIsFound
least_same_is_found agreed z content needs class only_agreed found =
    least_by_parts agreed z content needs only_agreed class found
