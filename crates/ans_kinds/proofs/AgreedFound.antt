-- Whether no kinds but agreed ones have arisen, with one token more.
use Rattle.std.proofs.Common.{◌≡◌, ℕ, ◌+◌, ◌<◌, Bool, true, false, List, [], ◌∷◌, ◌++◌, length, take, refl, sym, ap}
use Rattle.std.proofs.Common.{◌∙◌, ◌-◌, arith, subst, inl, inr, Some, Ok, Err, fold, length-append}
use Rattle.std.specs.Prelude.{IsTrue, Result, not, slice_get, ◌↔◌}
use Rattle.std.specs.List.{list_all}
use Rattle.std.proofs.Math.Seq.{take-append-add, take-append_seam, take-length}
use Rattle.std.proofs.lemmas.Bool.{cases_lt, false≢true}
use Rattle.std.proofs.lemmas.List.{take-append-le}
use Rattle.std.proofs.lemmas.List.Sums.{fold-append}
use Rattle.std.proofs.lemmas.Option.{slice_get_within}
use Rattle.ans_model.specs.Sequence.TokenKind.{TokenKind}
use Rattle.ans_model.specs.Sequence.Reads.{ReadsAs}
use Rattle.ans_model.specs.Screen.State.{Size, State}
use Rattle.ans_model.specs.Screen.Step.{step}
use Rattle.ans_model.specs.Screen.StartClass.{Covers, all_but_colours, all_but_cursor, all_but_saved, all_but_wrap}
use Rattle.ans_model.specs.Screen.StartClass.{all_known, cleared, high_start, low_start}
use Rattle.ans_model.specs.declared.fault.Fault.{Fault}
use Rattle.ans_model.specs.declared.start.Start.{Start}
use Rattle.ans_model.proofs.ClassLemmas.{covers_all_but_colours, covers_all_but_cursor, covers_all_but_saved}
use Rattle.ans_model.proofs.ClassLemmas.{covers_all_but_wrap}
use Rattle.ans_model.proofs.Slices.{slice_get-append_left, slice_get-append_right}
use Rattle.ans_model.proofs.StartLemmas.{low_is_start}
use Rattle.ans_players.specs.Classes.{AgreedFromTwo, IsAgreedFrom, HasOnlyAgreed, IsLeastSame, IsSame}
use Rattle.ans_players.specs.Classes.{IsToldByTwo}
use Rattle.ans_players.specs.Sync.{synced, sync_after}
use Rattle.ans_players.specs.Names as name
use Rattle.ans_players.specs.Names.{names_after, unnamed}
use Rattle.ans_players.specs.Situations.{Spelled, is_agreed, situations, spelled, stand_behind, stand_of}
use Rattle.ans_players.specs.declared.difference.Difference.{Difference}
use Rattle.ans_players.specs.declared.difference.Difference.TheVariants.{SavePlaceOnly}
use Rattle.ans_players.proofs.LeastSame.{least_same_is_found}
use Rattle.ans_players.proofs.TwoStarts.{same_by_two_starts}
use Rattle.ans_tokens.specs.Walk.{Front, front_with, WalksTo}
use Rattle.ans_tokens.proofs.Scanning.{IsSplit, split_reading}
use Rattle.ans_tokens.proofs.Walked.{never_refused, walked_all}
use Rattle.ans_kinds.specs.AgreedWalked.{HasStayedAgreed, IsBegun, HasOnlyAgreedTo, PlaysAlike}
use Rattle.ans_kinds.specs.SyncShown.{shown_sync}
use Rattle.ans_kinds.specs.NamesShown.{shown_names}
use Rattle.ans_kinds.specs.KindsUsed.{is_used}
use Rattle.ans_kinds.specs.KindsWalked.{StandsAt}
use Rattle.ans_pens.specs.Pens.{pen_of}
use Rattle.ans_kinds.specs.declared.agreed.AgreedWalk.{AgreedWalk}
use Rattle.ans_kinds.specs.declared.sync.Sync.{Sync}
use Rattle.ans_pens.specs.declared.pen.Pen.{Pen}
use Rattle.ans_kinds.proofs.PlaysAlike.{StandAlike, agreed_alike}
use Rattle.ans_kinds.proofs.KindsFound.{one, spelled_behind, spelled_more, text_there, whole_more}

module _ (agreed : Difference → Bool) (z : Size) (s : State) where
  -- what is agreed at tokens is so at the first of them
  agreed_in_front : (xs ys : List Spelled) → IsAgreedFrom agreed z s (xs ++ ys) → IsAgreedFrom agreed z s xs
  agreed_in_front xs ys each k y there =
      let within : k < length xs = slice_get_within xs k y there in
      subst (λ (v : List Spelled). IsTrue (is_agreed agreed z (stand_of z s v) y))
      (take-append-le k xs ys (omega (arith, within)))
      (each k y (slice_get-append_left xs ys k within ∙ there))

  -- ---- one token more
  module _ (xs : List Spelled) (x : Spelled) where
    last_is : slice_get (xs ++ x ∷ []) (length xs) ≡ Some x
    last_is =
        let last : length xs ≡ length xs + 0 = omega arith in
        ap (λ (n : ℕ). slice_get (xs ++ x ∷ []) n) last ∙ slice_get-append_right xs (x ∷ []) 0

    agreed_at : IsAgreedFrom agreed z s (xs ++ x ∷ []) → IsTrue (is_agreed agreed z (stand_of z s xs) x)
    agreed_at each =
        subst (λ (v : List Spelled). IsTrue (is_agreed agreed z (stand_of z s v) x))
        (take-append_seam xs (x ∷ [])) (each (length xs) x last_is)

    agreed_more : IsAgreedFrom agreed z s xs → IsTrue (is_agreed agreed z (stand_of z s xs) x)
        → IsAgreedFrom agreed z s (xs ++ x ∷ [])
    agreed_more each here k y there = elim (cases_lt k (length xs)) [
      | inl within ↦
          subst (λ (v : List Spelled). IsTrue (is_agreed agreed z (stand_of z s v) y))
          (sym (take-append-le k xs (x ∷ []) (omega (arith, within))))
          (each k y (sym (slice_get-append_left xs (x ∷ []) k within) ∙ there))
      | inr behind ↦
          let most : k < length (xs ++ x ∷ []) = slice_get_within (xs ++ x ∷ []) k y there in
          let last : k ≡ length xs = omega (arith, behind, most, length-append xs (x ∷ [])) in
          let some : Some x ≡ Some y = sym last_is ∙ sym (ap (λ (n : ℕ). slice_get (xs ++ x ∷ []) n) last) ∙ there in
          let same : x ≡ y = cc in
          let all : take k (xs ++ x ∷ []) ≡ xs =
          ap (λ (n : ℕ). take n (xs ++ x ∷ [])) last ∙ take-append_seam xs (x ∷ []) in
          subst (λ (v : List Spelled). IsTrue (is_agreed agreed z (stand_of z s v) y)) (sym all)
          (subst (λ (w : Spelled). IsTrue (is_agreed agreed z (stand_of z s xs) w)) same here)
    ]

-- ---- the walk
module _ (first old new : AgreedWalk) (front : Front) (t : TokenKind) (text behind : List ℕ)
    (h : HasStayedAgreed first front true old) (next : front.behind ≡ text ++ behind) (size : new.size ≡ old.size)
    (content : new.content.now ≡ old.content.now) (used : new.used.now ≡ old.used.now) where
  abbrev z : Size
  z = first.size

  abbrev agreed : Difference → Bool
  agreed = is_used first.used.now

  abbrev passed : List Spelled
  passed = spelled front.tokens front.texts

  abbrev Ways : State → Bool → Type 0
  Ways s test = (p : old.pen ≡ pen_of s) → test ≡ list_all (is_used old.used.now) (situations old.size
      (record { sync = shown_sync old.sync; names = shown_names old.names; state = s }) (one t text))

  more : spelled (front.tokens ++ t ∷ []) (front.texts ++ text ∷ []) ≡ passed ++ one t text ∷ []
  more = spelled_more front.tokens t front.texts text h.texts

  -- what is so before the token
  before : (s : State) → IsBegun first s → HasOnlyAgreedTo agreed z s passed true old
  before s begun = subst (λ (b : Bool). HasOnlyAgreedTo agreed z s passed b old) (h.on refl) (h.only_agreed s begun)

  test_is : (test : Bool) → ((s : State) → Ways s test) → (s : State)
      → StandsAt old.pen old.sync old.names (stand_of z s passed)
      → test ≡ is_agreed agreed z (stand_of z s passed) (one t text)
  test_is test is s at =
      subst (λ (n : name.Names). test ≡ list_all agreed
      (situations z (record (stand_of z s passed) { names = n }) (one t text))) at.names_are
      (rw (h.size, h.used, at.sync_is) at (is (stand_of z s passed).state at.pen_is))

  abbrev Whole : Bool → Type 0
  Whole on = HasStayedAgreed first (front_with front t text behind) on new

  walked : (on : Bool) → (on ≡ true → new.has_only_agreed ≡ true)
      → (on ≡ false → new.has_only_agreed ≡ true → PlaysAlike new)
      → ((s : State) → IsBegun first s → HasOnlyAgreedTo agreed z s (passed ++ one t text ∷ []) new.has_only_agreed new)
      → Whole on
  walked on goes stops only_agreed = record {
    size = size ∙ h.size;
    content = content ∙ h.content;
    used = used ∙ h.used;
    texts = omega (arith, h.texts, length-append front.texts (text ∷ []), length-append front.tokens (t ∷ []));
    whole = whole_more first.content.now front.texts text behind
        (text_there first.content.now front.texts _ text behind h.whole next);
    on = goes;
    stops = stops;
    only_agreed = λ s begun. rw more (only_agreed s begun);
  }

  -- another kind arises at it
  pub walked_apart : ((s : State) → Ways s false) → new.has_only_agreed ≡ false → Whole false
  walked_apart is apart =
      walked false (λ e. absurd (false≢true e)) (λ e only_agreed. absurd (false≢true (sym apart ∙ only_agreed)))
      (λ s begun. rw apart (λ each.
      false≢true (test_is false is s (before s begun).1 ∙ agreed_at agreed z s passed (one t text) each)))

  -- none does
  abbrev Steps : Pen → Pen → Sync → Sync → Type 0
  Steps p q g k = ((s : State) → p ≡ pen_of s → q ≡ pen_of (step old.size s t))
      × ((s : State) → p ≡ pen_of s → shown_sync k ≡ sync_after old.size (shown_sync g) s t)

  stepped : (p q : Pen) (g k : Sync) (s : State) → Steps p q g k
      → shown_names new.names ≡ names_after (shown_names old.names) t
      → StandsAt p g old.names (stand_of z s passed) → StandsAt q k new.names (stand_of z s (passed ++ one t text ∷ []))
  stepped p q g k s steps names at = rw (fold-append (stand_behind z) (synced s) passed (one t text ∷ [])) (record {
    pen_is = rw h.size at (steps.0 (stand_of z s passed).state at.pen_is);
    sync_is = rw (h.size, at.sync_is) at (steps.1 (stand_of z s passed).state at.pen_is);
    names_are = names ∙ ap (λ (n : name.Names). name.names_after n t) at.names_are;
  })

  pub walked_on : (on : Bool) → ((s : State) → Ways s true) → new.has_only_agreed ≡ true → (on ≡ false → PlaysAlike new)
      → Steps old.pen new.pen old.sync new.sync → Steps old.cleared new.cleared old.cleared_sync new.cleared_sync
      → shown_names new.names ≡ names_after (shown_names old.names) t → Whole on
  walked_on on is only_agreed alike steps others names =
      walked on (λ e. only_agreed) (λ e f. alike e) (λ s begun.
      let at = before s begun in
      rw only_agreed (
        agreed_more agreed z s passed (one t text) at.0 (sym (test_is true is s at.1)),
        stepped old.pen new.pen old.sync new.sync s steps names at.1,
        stepped old.cleared new.cleared old.cleared_sync new.cleared_sync (cleared z) others names at.2,
      ))

-- what the walk says in the end
module _ (content : List ℕ) (first now : AgreedWalk) (s : State) (tokens : List TokenKind) (texts : List (List ℕ))
    (begun : IsBegun first s) (reads : ReadsAs content tokens texts)
    (from_cleared : IsAgreedFrom (is_used first.used.now) first.size (cleared first.size) (spelled tokens texts)) where
  abbrev used : Difference → Bool
  used = is_used first.used.now

  abbrev size : Size
  size = first.size

  reads_taken : ReadsAs (take (length content) content) tokens texts
  reads_taken = rw (take-length content) reads

  -- of the tokens that it has been over, as the first of all
  module _ (front : Front) (later : List TokenKind) (later_texts : List (List ℕ))
      (tokens_are : tokens ≡ front.tokens ++ later) (texts_are : texts ≡ front.texts ++ later_texts) (on : Bool)
      (h : HasStayedAgreed first front on now) where
    abbrev played : List Spelled
    played = spelled front.tokens front.texts

    abbrev ys : List Spelled
    ys = spelled later later_texts

    all : spelled tokens texts ≡ played ++ ys
    all = rw (tokens_are, texts_are) (spelled_behind front.tokens later front.texts later_texts h.texts)

    -- what is agreed along the rest is agreed along all
    with_rest : (t : State) → IsAgreedFrom used size t played
        → ((i : ℕ) (x : Spelled) → slice_get ys i ≡ Some x
        → IsTrue (is_agreed used size (fold (stand_behind size) (stand_of size t played) (take i ys)) x))
        → IsAgreedFrom used size t (played ++ ys)
    with_rest t each rest k x e = elim (cases_lt k (length played)) [
      | inl within ↦
          subst (λ (v : List Spelled). IsTrue (is_agreed used size (stand_of size t v) x))
          (sym (take-append-le k played ys (omega (arith, within))))
          (each k x (sym (slice_get-append_left played ys k within) ∙ e))
      | inr behind ↦
          let i : ℕ = k - length played in
          let at : k ≡ length played + i = omega (arith, behind) in
          subst (λ (n : ℕ). IsTrue (is_agreed used size (stand_of size t (take n (played ++ ys))) x)) (sym at)
          (rw (take-append-add played ys i, fold-append (stand_behind size) (synced t) played (take i ys))
          (rest i x (sym (slice_get-append_right played ys i)
          ∙ ap (λ (n : ℕ). slice_get (played ++ ys) n) (sym at) ∙ e)))
    ]

    -- so it is in the rest
    of_rest : (t : State) → IsAgreedFrom used size t (played ++ ys) → (i : ℕ) (x : Spelled) → slice_get ys i ≡ Some x
        → IsTrue (is_agreed used size (fold (stand_behind size) (stand_of size t played) (take i ys)) x)
    of_rest t each i x e =
        rw (take-append-add played ys i, fold-append (stand_behind size) (synced t) played (take i ys)) at
        (each (length played + i) x (slice_get-append_right played ys i ∙ e))

    stands_alike : PlaysAlike now → StandsAt now.pen now.sync now.names (stand_of size s played)
        → StandsAt now.cleared now.cleared_sync now.names (stand_of size (cleared size) played)
        → StandAlike size (used SavePlaceOnly) (stand_of size s played) (stand_of size (cleared size) played)
    stands_alike alike at there = record {
      sync = sym at.sync_is ∙ ap shown_sync alike.sync ∙ there.sync_is;
      names = sym at.names_are ∙ there.names_are;
      state = rw (h.used, at.pen_is, there.pen_is) at alike.pen;
    }

    told : (only_agreed : Bool) → now.has_only_agreed ≡ only_agreed → on ≡ false
        → IsTrue only_agreed ↔ IsAgreedFrom used size s (spelled tokens texts)
    told true only_agreed stopped =
        let at = subst (λ (b : Bool). HasOnlyAgreedTo used size s played b now) only_agreed (h.only_agreed s begun) in
        let alike = stands_alike (h.stops stopped only_agreed) at.1 at.2 in
        let whole = rw all at from_cleared in (
          λ yes. rw all (with_rest s at.0 (agreed_alike used size ys (stand_of size s played)
              (stand_of size (cleared size) played) alike (of_rest (cleared size) whole))),
          λ each. refl,
        )
    told false only_agreed stopped =
        let apart =
        subst (λ (b : Bool). HasOnlyAgreedTo used size s played b now) only_agreed (h.only_agreed s begun) in (
          λ yes. absurd (false≢true yes),
          λ each. absurd (apart (agreed_in_front used size s played ys (rw all at each))),
        )

  pub only_agreed_whole : (result : Result Bool Fault)
      → WalksTo (λ first front now goes_on. HasStayedAgreed first front goes_on now) content (length content) first now
      result
      → IsTrue now.has_only_agreed ↔ IsAgreedFrom used size s (spelled tokens texts)
  only_agreed_whole (Ok true) h =
      let over = walked_all _ content (length content) first now tokens texts reads_taken h in
      let only_agreed = over.on refl in
      let at =
      subst (λ (b : Bool). HasOnlyAgreedTo used size s (spelled tokens texts) b now) only_agreed
      (over.only_agreed s begun) in
      (λ yes. at.0, λ each. only_agreed)
  only_agreed_whole (Ok false) (left, h) =
      let split : IsSplit h.front.tokens tokens h.front.texts texts left =
      split_reading h.front.tokens tokens h.front.texts texts left h.reads.each reads.each
      (ap (λ (v : List ℕ). v ++ left) (sym h.reads.whole) ∙ sym h.whole ∙ take-length content ∙ reads.whole) in
      told h.front split.later split.later_texts split.tokens_are split.texts_are false h.over now.has_only_agreed refl
      refl
  only_agreed_whole (Err fault) h =
      absurd (never_refused _ content (length content) first now fault tokens h (texts, reads_taken))

-- what was not needed before is needed where other kinds arise in the play
pub needed_if_not_agreed : {P : Type 0} (needed only_agreed : Bool) → needed ≡ false → (IsTrue only_agreed ↔ P)
    → (not only_agreed ≡ false) ↔ ((needed ≡ false) × P)
needed_if_not_agreed needed true before told = (λ e. (before, told.0 refl), λ both. refl)
needed_if_not_agreed needed false before told = (
  λ e. absurd (false≢true (sym e)),
  λ both. absurd (false≢true (told.1 both.1)),
)

-- ---- the least class
pub only_agreed_from_cleared : (agreed : Difference → Bool) (z : Size) (content : List ℕ) (needs : Start)
    (only_agreed : HasOnlyAgreed agreed z content needs)
    → IsAgreedFrom agreed z (cleared z) (spelled only_agreed.same.0.1.tokens only_agreed.same.0.1.reads.0)
only_agreed_from_cleared agreed z content needs only_agreed k x e =
    only_agreed.same.1 (cleared z) k x (low_is_start z all_known only_agreed.same.0.1.size.some_columns) e

module _ (agreed : Difference → Bool) (z : Size) (content : List ℕ) (needs class : Start)
    (only_agreed : HasOnlyAgreed agreed z content needs) (screen : class.screen ≡ needs.screen) where
  abbrev xs : List Spelled
  xs = spelled only_agreed.same.0.1.tokens only_agreed.same.0.1.reads.0

  from_cleared : IsAgreedFrom agreed z (cleared z) xs
  from_cleared = only_agreed_from_cleared agreed z content needs only_agreed

  -- whether a part is known is found by the play from this start
  abbrev IsPart : Bool → Bool → State → Type 0
  IsPart known needed start = (known ≡ false) ↔ ((needed ≡ false) × IsAgreedFrom agreed z start xs)

  part : (known needed : Bool) (all_but : Start) → IsToldByTwo all_but
      → (Covers needs all_but ↔ (needed ≡ false))
      → (known ≡ false) ↔ ((needed ≡ false) × AgreedFromTwo agreed z all_but xs)
      → (known ≡ false) ↔ IsSame agreed z all_but content
  part known needed all_but told covers found =
      let same = same_by_two_starts agreed z content needs all_but only_agreed told in (
        λ e. same.1 (covers.1 (found.0 e).0, (found.0 e).1),
        λ holds. found.1 (covers.0 (same.0 holds).0, (same.0 holds).1),
      )

  -- the low start, or the high one, is the cleared one
  by_high : (known needed : Bool) (all_but : Start) → low_start z all_but ≡ cleared z
      → IsPart known needed (high_start z all_but)
      → (known ≡ false) ↔ ((needed ≡ false) × AgreedFromTwo agreed z all_but xs)
  by_high known needed all_but low found = (
    λ e. (
      (found.0 e).0,
      (subst (λ (s : State). IsAgreedFrom agreed z s xs) (sym low) from_cleared, (found.0 e).1),
    ),
    λ both. found.1 (both.0, both.1.1),
  )

  by_low : (known needed : Bool) (all_but : Start) → high_start z all_but ≡ cleared z
      → IsPart known needed (low_start z all_but)
      → (known ≡ false) ↔ ((needed ≡ false) × AgreedFromTwo agreed z all_but xs)
  by_low known needed all_but high found = (
    λ e. (
      (found.0 e).0,
      ((found.0 e).1, subst (λ (s : State). IsAgreedFrom agreed z s xs) (sym high) from_cleared),
    ),
    λ both. found.1 (both.0, both.1.0),
  )

  -- first the low one, and then the high one
  by_both : (known dark needed : Bool) (all_but : Start) → IsPart dark needed (low_start z all_but)
      → IsPart known dark (high_start z all_but)
      → (known ≡ false) ↔ ((needed ≡ false) × AgreedFromTwo agreed z all_but xs)
  by_both known dark needed all_but low high = (
    λ e. ((low.0 (high.0 e).0).0, ((low.0 (high.0 e).0).1, (high.0 e).1)),
    λ both. high.1 (low.1 (both.0, both.1.0), both.1.1),
  )

  pub least_found : (dark : Bool) → IsPart class.cursor needs.cursor (high_start z all_but_cursor)
      → IsPart class.saved needs.saved (high_start z all_but_saved)
      → IsPart dark needs.colours (low_start z all_but_colours)
      → IsPart class.colours dark (high_start z all_but_colours)
      → IsPart class.wrap needs.wrap (low_start z all_but_wrap)
      → IsLeastSame agreed z content class
  least_found dark cursor saved low high wrap = least_same_is_found agreed z content needs class only_agreed (record {
    screen = screen;
    cursor = part class.cursor needs.cursor all_but_cursor (inl refl) (covers_all_but_cursor needs)
        (by_high class.cursor needs.cursor all_but_cursor refl cursor);
    saved = part class.saved needs.saved all_but_saved (inl refl) (covers_all_but_saved needs)
        (by_high class.saved needs.saved all_but_saved refl saved);
    colours = part class.colours needs.colours all_but_colours (inl refl) (covers_all_but_colours needs)
        (by_both class.colours dark needs.colours all_but_colours low high);
    wrap = part class.wrap needs.wrap all_but_wrap (inr refl) (covers_all_but_wrap needs)
        (by_low class.wrap needs.wrap all_but_wrap refl wrap);
  })
