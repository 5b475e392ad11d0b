-- The kinds that have arisen, with one token more.
use Rattle.std.proofs.Common.{◌≡◌, ℕ, zero, suc, ◌+◌, ◌<◌, ◌≤◌, Bool, true, false, List, [], ◌∷◌, ◌++◌, length, map}
use Rattle.std.proofs.Common.{take, drop, fold, refl, sym, ap, ◌∙◌, arith, subst, Option, None, Some, append_assoc}
use Rattle.std.proofs.Common.{append-nil, length-append}
use Rattle.std.specs.Prelude.{◌≢◌, ◌==◌, IsTrue, is_none, Result, slice_get, slice_index_or, if◌then◌else◌}
use Rattle.std.specs.List.{concat, list_all, list_any}
use Rattle.std.proofs.Math.Seq.{take-append_seam, take-length}
use Rattle.std.proofs.lemmas.Bool.{and_parts, false≢true}
use Rattle.std.proofs.lemmas.Bool.Decides.{nat_tests}
use Rattle.std.proofs.lemmas.List.{take-append-le}
use Rattle.std.proofs.lemmas.List.Folds.{concat-append}
use Rattle.std.proofs.lemmas.List.Sums.{fold-append}
use Rattle.std.proofs.lemmas.Option.{slice_get_within}
use Rattle.ans_model.specs.Sequence.TokenKind.{TokenKind}
use Rattle.ans_model.specs.Sequence.Reads.{ReadsAs}
use Rattle.ans_model.specs.Screen.State.{Size, State}
use Rattle.ans_model.specs.Screen.Step.{step}
use Rattle.ans_model.specs.Screen.StartClass.{all_known, cleared}
use Rattle.ans_model.specs.Verdict.Good.{IsGood}
use Rattle.ans_model.specs.declared.fault.Fault.{Fault}
use Rattle.ans_model.proofs.Slices.{slice_get-append_left, slice_get-append_right}
use Rattle.ans_players.specs.Sync.{Stand, synced, sync_after}
use Rattle.ans_players.specs.Kinds.{all_but, is_kind, kind_number}
use Rattle.ans_players.specs.Names as name
use Rattle.ans_players.specs.Names.{names_after}
use Rattle.ans_players.specs.Named.{ArisesFirst, arises, times, times_cleared}
use Rattle.ans_players.specs.Situations.{Spelled, situations, spelled, stand_behind, stand_of}
use Rattle.ans_players.specs.declared.difference.Difference.{Difference}
use Rattle.ans_players.specs.declared.difference.Difference.TheVariants.{WrapAtOnce, LineEnds, HomeOnClear}
use Rattle.ans_players.specs.declared.difference.Difference.TheVariants.{ClearInColour}
use Rattle.ans_players.specs.declared.difference.Difference.TheVariants.{SavePlaceOnly, DosColours, TabPrints}
use Rattle.ans_players.specs.declared.difference.Difference.TheVariants.{LineErased, WrapOff}
use Rattle.ans_players.specs.declared.difference.Difference.TheVariants.{StopsAtEdge, PageControls, TerminalControls}
use Rattle.ans_players.specs.declared.difference.Difference.TheVariants.{OwnColours}
use Rattle.ans_tokens.specs.Walk.{Front, front_of, front_with, WalksTo}
use Rattle.ans_tokens.proofs.Walked.{walked_whole}
use Rattle.ans_pens.specs.Counted.{count_of, counted}
use Rattle.ans_kinds.specs.SyncShown.{shown_sync}
use Rattle.ans_kinds.specs.NamesShown.{shown_names}
use Rattle.ans_kinds.specs.KindsUsed.{IsTold, used_at, used_of}
use Rattle.ans_kinds.specs.KindsWalked.{AreFew, has_no_others, HasFoundKinds, IsFound, StandsAt}
use Rattle.ans_pens.specs.Pens.{pen_of}
use Rattle.ans_pens.specs.RowMoves.{moved_with, moves_rows}
use Rattle.ans_kinds.specs.declared.sync.Sync.{Sync}
use Rattle.ans_kinds.specs.declared.names.Names.{Names}
use Rattle.ans_pens.specs.declared.pen.Pen.{Pen}
use Rattle.ans_kinds.specs.declared.kinds.KindsUsed.{KindsUsed}
use Rattle.ans_kinds.specs.declared.kinds.KindsWalk.{KindsWalk}
use Rattle.ans_pens.specs.declared.times.Times.{Times}

abbrev pub one : TokenKind → List ℕ → Spelled
one t text = record { token = t; text = text }

-- what is spelled by tokens that stand behind others
pub spelled_behind : (tokens later : List TokenKind) (texts later_texts : List (List ℕ))
    → length texts ≡ length tokens
    → spelled (tokens ++ later) (texts ++ later_texts) ≡ spelled tokens texts ++ spelled later later_texts
spelled_behind [] later [] later_texts long = refl
spelled_behind [] later (x ∷ texts) later_texts long = absurd (omega (arith, long))
spelled_behind (u ∷ tokens) later [] later_texts long = absurd (omega (arith, long))
spelled_behind (u ∷ tokens) later (x ∷ texts) later_texts long =
    ap (λ (v : List Spelled). one u x ∷ v) (spelled_behind tokens later texts later_texts (omega (arith, long)))

pub spelled_more : (tokens : List TokenKind) (t : TokenKind) (texts : List (List ℕ)) (text : List ℕ)
    → length texts ≡ length tokens
    → spelled (tokens ++ t ∷ []) (texts ++ text ∷ []) ≡ spelled tokens texts ++ one t text ∷ []
spelled_more tokens t texts text long = spelled_behind tokens (t ∷ []) texts (text ∷ []) long

-- the next token's text stands in the content behind those before it
module _ (content : List ℕ) (texts : List (List ℕ)) (left text behind : List ℕ) where
  pub text_there : content ≡ concat texts ++ left → left ≡ text ++ behind
      → content ≡ concat texts ++ (text ++ behind)
  text_there whole next = whole ∙ ap (λ (v : List ℕ). concat texts ++ v) next

pub whole_more : (content : List ℕ) (texts : List (List ℕ)) (text behind : List ℕ)
    → content ≡ concat texts ++ (text ++ behind) → content ≡ concat (texts ++ text ∷ []) ++ behind
whole_more content texts text behind whole =
    whole ∙ sym (append_assoc (concat texts) text behind)
    ∙ sym (ap (λ (v : List ℕ). v ++ behind) (concat-append texts (text ∷ [])
    ∙ ap (λ (v : List ℕ). concat texts ++ v) (append-nil text)))

spelled_texts : (tokens : List TokenKind) (texts : List (List ℕ)) → length texts ≡ length tokens
    → map (λ x. x.text) (spelled tokens texts) ≡ texts
spelled_texts [] [] long = refl
spelled_texts [] (x ∷ texts) long = absurd (omega (arith, long))
spelled_texts (u ∷ tokens) [] long = absurd (omega (arith, long))
spelled_texts (u ∷ tokens) (x ∷ texts) long =
    ap (λ (v : List (List ℕ)). x ∷ v) (spelled_texts tokens texts (omega (arith, long)))

-- ---- one kind
module _ (kind : Difference) (z : Size) where
  times_more : (h : Stand) (xs : List Spelled) (x : Spelled)
      → times kind z h (xs ++ x ∷ [])
      ≡ times kind z h xs + (if arises kind z (fold (stand_behind z) h xs) x then 1 else 0)
  times_more h [] x = omega arith
  times_more h (y ∷ xs) x =
      let later = times_more (stand_behind z h y) xs x in omega (arith, later)

  -- what arises first stays the first
  still_first : (xs : List Spelled) (x : Spelled) (offset : ℕ) → ArisesFirst kind z xs offset
      → ArisesFirst kind z (xs ++ x ∷ []) offset
  still_first xs x offset a =
      let within : a.k < length xs = slice_get_within xs a.k a.x a.there in
      let same : take a.k (xs ++ x ∷ []) ≡ take a.k xs = take-append-le a.k xs (x ∷ []) (omega (arith, within)) in
      record {
        k = a.k;
        x = a.x;
        there = slice_get-append_left xs (x ∷ []) a.k within ∙ a.there;
        arises_there = subst (λ (v : List Spelled). IsTrue (arises kind z (stand_of z (cleared z) v) a.x)) (sym same)
            a.arises_there;
        not_before = ap (λ (v : List Spelled). times_cleared kind z v) same ∙ a.not_before;
        offset_is = a.offset_is ∙ sym (ap (λ (v : List Spelled). length (concat (map (λ x. x.text) v))) same);
      }

  -- the last token is the first at which it arises
  first_here : (xs : List Spelled) (x : Spelled) (offset : ℕ) → times_cleared kind z xs ≡ 0
      → IsTrue (arises kind z (stand_of z (cleared z) xs) x) → offset ≡ length (concat (map (λ x. x.text) xs))
      → ArisesFirst kind z (xs ++ x ∷ []) offset
  first_here xs x offset none here at =
      let same : take (length xs) (xs ++ x ∷ []) ≡ xs = take-append_seam xs (x ∷ []) in
      let last : length xs ≡ length xs + 0 = omega arith in
      record {
        k = length xs;
        x = x;
        there = ap (λ (n : ℕ). slice_get (xs ++ x ∷ []) n) last ∙ slice_get-append_right xs (x ∷ []) 0;
        arises_there = subst (λ (v : List Spelled). IsTrue (arises kind z (stand_of z (cleared z) v) x)) (sym same)
            here;
        not_before = ap (λ (v : List Spelled). times_cleared kind z v) same ∙ none;
        offset_is = at ∙ sym (ap (λ (v : List Spelled). length (concat (map (λ x. x.text) v))) same);
      }

  module _ (xs : List Spelled) (x : Spelled) (offset : ℕ) (at : offset ≡ length (concat (map (λ x. x.text) xs))) where
    counts : (test : Bool) → arises kind z (stand_of z (cleared z) xs) x ≡ test
        → times_cleared kind z (xs ++ x ∷ []) ≡ times_cleared kind z xs + (if test then 1 else 0)
    counts test is = times_more (synced (cleared z)) xs x
        ∙ ap (λ (b : Bool). times_cleared kind z xs + (if b then 1 else 0)) is

    found_if : (test : Bool) (so_far : Option Times) → arises kind z (stand_of z (cleared z) xs) x ≡ test
        → IsFound z xs kind so_far → IsFound z (xs ++ x ∷ []) kind (counted so_far test offset)
    found_if false None is none = let n = counts false is in omega (arith, n, none)
    found_if false (Some t) is a =
        let n = counts false is in
        record { some = a.some; count = omega (arith, n, a.count); first = still_first xs x t.first a.first }
    found_if true None is none =
        let n = counts true is in
        record { some = omega arith; count = omega (arith, n, none); first = first_here xs x offset none is at }
    found_if true (Some t) is a =
        let n = counts true is in
        record { some = omega arith; count = omega (arith, n, a.count); first = still_first xs x t.first a.first }

-- ---- the kinds by their numbers
number_within : (kind : Difference) → kind_number kind < 13
number_within WrapAtOnce = omega arith
number_within LineEnds = omega arith
number_within HomeOnClear = omega arith
number_within ClearInColour = omega arith
number_within SavePlaceOnly = omega arith
number_within DosColours = omega arith
number_within TabPrints = omega arith
number_within LineErased = omega arith
number_within WrapOff = omega arith
number_within StopsAtEdge = omega arith
number_within PageControls = omega arith
number_within TerminalControls = omega arith
number_within OwnColours = omega arith

-- own colours are the last
other_within : (kind : Difference) → IsTrue (all_but OwnColours kind) → kind_number kind < 12
other_within kind is =
    let within = number_within kind in
    let other : kind_number kind ≢ 12 = λ last. absurd (cc) in
    omega (arith, within, other)

one_more_few : (times : Option Times) (more : Bool) (offset most : ℕ) → count_of times ≤ most
    → count_of (counted times more offset) ≤ most + 1
one_more_few times false offset most few = omega (arith, few)
one_more_few None true offset most few = omega arith
one_more_few (Some t) true offset most few = omega (arith, few)

no_times : (times : Option Times) → IsTrue (is_none times) → times ≡ None
no_times None h = refl
no_times (Some times) h = absurd (let no : false ≡ true = h in let none : ⊥ = cc in none)

none_at : (all : List (Option Times)) (k n : ℕ) → IsTrue (list_all is_none (take n all)) → k < n
    → slice_index_or all k None ≡ None
none_at [] k n h within = refl
none_at (first ∷ all) zero zero h within = absurd (omega (arith, within))
none_at (first ∷ all) zero (suc n) h within = no_times first (and_parts _ _ h).0
none_at (first ∷ all) (suc k) zero h within = absurd (omega (arith, within))
none_at (first ∷ all) (suc k) (suc n) h within = none_at all k n (and_parts _ _ h).1 (omega (arith, within))

-- before the first token none is found
pub none_found : (z : Size) (used : KindsUsed) → IsTrue (list_all is_none (take 13 used.times)) → (kind : Difference)
    → IsFound z [] kind (used_of used kind)
none_found z used none kind = rw (none_at used.times (kind_number kind) 13 none (number_within kind)) refl

pub each_other_none : (used : KindsUsed) → IsTrue (has_no_others used) → (kind : Difference)
    → IsTrue (all_but OwnColours kind) → used_of used kind ≡ None
each_other_none used h kind is = none_at used.times (kind_number kind) 12 h (other_within kind is)

none_of : (times : Option Times) → times ≡ None → IsTrue (is_none times)
none_of times is = rw is refl

-- the kind of each number below that of own colours
other_of : (k : ℕ) → k < 12 → (kind : Difference) × (kind_number kind ≡ k) × IsTrue (all_but OwnColours kind)
other_of zero within = (WrapAtOnce, refl, refl)
other_of (suc zero) within = (LineEnds, refl, refl)
other_of (suc (suc zero)) within = (HomeOnClear, refl, refl)
other_of (suc (suc (suc zero))) within = (ClearInColour, refl, refl)
other_of (suc (suc (suc (suc zero)))) within = (SavePlaceOnly, refl, refl)
other_of (suc (suc (suc (suc (suc zero))))) within = (DosColours, refl, refl)
other_of (suc (suc (suc (suc (suc (suc zero)))))) within = (TabPrints, refl, refl)
other_of (suc (suc (suc (suc (suc (suc (suc zero))))))) within = (LineErased, refl, refl)
other_of (suc (suc (suc (suc (suc (suc (suc (suc zero)))))))) within = (WrapOff, refl, refl)
other_of (suc (suc (suc (suc (suc (suc (suc (suc (suc zero))))))))) within = (StopsAtEdge, refl, refl)
other_of (suc (suc (suc (suc (suc (suc (suc (suc (suc (suc zero)))))))))) within = (PageControls, refl, refl)
other_of (suc (suc (suc (suc (suc (suc (suc (suc (suc (suc (suc zero))))))))))) within = (TerminalControls, refl, refl)
other_of (suc (suc (suc (suc (suc (suc (suc (suc (suc (suc (suc (suc k)))))))))))) within =
    absurd (omega (arith, within))

kind_at : (n : ℕ) (last : Bool) → (n == 12) ≡ last → n < 13 → (kind : Difference) × (kind_number kind ≡ n)
kind_at n true is within = (OwnColours, let e : n ≡ 12 = grind (arith, nat_tests, is) in sym e)
kind_at n false is within =
    let below : n < 12 = grind (arith, nat_tests, is, within) in
    let (kind, number_is, other) = other_of n below in
    (kind, number_is)

-- of no kind more than once more was counted
pub few_more : (old new : KindsUsed) (more : Difference → Bool) (offset : ℕ) → AreFew old offset
    → ((kind : Difference) → used_of new kind ≡ counted (used_of old kind) (more kind) offset) → AreFew new (offset + 1)
few_more old new more offset few each n within =
    let (kind, number_is) = kind_at n (n == 12) refl within in
    let here = subst (λ (m : ℕ). used_at new m ≡ counted (used_at old m) (more kind) offset) number_is (each kind) in
    rw here (one_more_few (used_at old n) (more kind) offset offset (few n within))

all_none : (all : List (Option Times)) (n : ℕ) → ((k : ℕ) → k < n → slice_index_or all k None ≡ None)
    → IsTrue (list_all is_none (take n all))
all_none [] zero each = refl
all_none [] (suc n) each = refl
all_none (first ∷ all) zero each = refl
all_none (first ∷ all) (suc n) each =
    let first_none : first ≡ None = each 0 (omega arith) in
    rw first_none (all_none all n (λ k within. each (suc k) (omega (arith, within))))

pub all_others_none : (used : KindsUsed)
    → ((kind : Difference) → IsTrue (all_but OwnColours kind) → used_of used kind ≡ None)
    → IsTrue (has_no_others used)
all_others_none used each =
    all_none used.times 12 (λ k within.
    let (kind, number_is, is) = other_of k within in
    ap (λ (n : ℕ). slice_index_or used.times n None) (sym number_is) ∙ each kind is)

-- ---- the walk
-- What is found over a front of a content: its play from the cleared start is at this pen, this sync and these names,
-- of each kind so much was found, and so was whether a token moves the cursor by rows.
pub record FoundSoFar (z : Size) (content : List ℕ) (front : Front) (pen : Pen) (sync : Sync) (names : Names)
    (moved : Bool) (uses : Difference → Option Times) : Type 0 where
  pub texts : length front.texts ≡ length front.tokens
  pub whole : content ≡ concat front.texts ++ front.behind
  pub stands : StandsAt pen sync names (stand_of z (cleared z) (spelled front.tokens front.texts))
  pub found : (kind : Difference) → IsFound z (spelled front.tokens front.texts) kind (uses kind)
  pub moves : moved ≡ moves_rows front.tokens

module _ (z : Size) (content : List ℕ) (front : Front) (t : TokenKind) (text behind : List ℕ) (pen : Pen) (sync : Sync)
    (names : Names) (moved : Bool) (uses : Difference → Option Times)
    (h : FoundSoFar z content front pen sync names moved uses) (next : front.behind ≡ text ++ behind) where
  abbrev xs : List Spelled
  xs = spelled front.tokens front.texts

  abbrev here : Stand
  here = stand_of z (cleared z) (spelled front.tokens front.texts)

  pub found_token : (new_pen : Pen) (new_sync : Sync) (new_names : Names) (new_moved : Bool)
      (new_uses : Difference → Option Times) (offset : ℕ) → offset ≡ length (concat front.texts)
      → ((s : State) → pen ≡ pen_of s → new_pen ≡ pen_of (step z s t))
      → ((s : State) → pen ≡ pen_of s → shown_sync new_sync ≡ sync_after z (shown_sync sync) s t)
      → shown_names new_names ≡ names_after (shown_names names) t → new_moved ≡ moved_with moved t
      → ((s : State) (kind : Difference) → pen ≡ pen_of s → new_uses kind
      ≡ counted (uses kind) (list_any (is_kind kind) (situations z
      (record { sync = shown_sync sync; names = shown_names names; state = s }) (one t text))) offset)
      → FoundSoFar z content (front_with front t text behind) new_pen new_sync new_names new_moved new_uses
  found_token new_pen new_sync new_names new_moved new_uses offset at steps syncs names_are moves news =
      let more : spelled (front.tokens ++ t ∷ []) (front.texts ++ text ∷ []) ≡ xs ++ one t text ∷ [] =
      spelled_more front.tokens t front.texts text h.texts in
      let there : stand_of z (cleared z) (xs ++ one t text ∷ []) ≡ stand_behind z here (one t text) =
      fold-append (stand_behind z) (synced (cleared z)) xs (one t text ∷ []) in
      let texts : map (λ x. x.text) xs ≡ front.texts = spelled_texts front.tokens front.texts h.texts in
      let start : offset ≡ length (concat (map (λ x. x.text) xs)) =
      at ∙ sym (ap (λ (v : List (List ℕ)). length (concat v)) texts) in
      record {
        texts = omega (arith, h.texts, length-append front.texts (text ∷ []), length-append front.tokens (t ∷ []));
        whole = whole_more content front.texts text behind (text_there content front.texts _ text behind h.whole next);
        stands = rw (more, there) (record {
          pen_is = steps here.state h.stands.pen_is;
          sync_is = rw h.stands.sync_is at (syncs here.state h.stands.pen_is);
          names_are = names_are ∙ ap (λ (n : name.Names). names_after n t) h.stands.names_are;
        });
        found = λ kind.
            let uses_here = rw h.stands.sync_is at (news here.state kind h.stands.pen_is) in
            let is = subst (λ (n : name.Names). new_uses kind ≡ counted (uses kind)
            (list_any (is_kind kind) (situations z (record here { names = n }) (one t text))) offset)
            h.stands.names_are uses_here in
            rw (more, is) (found_if kind z xs (one t text) offset start (arises kind z here (one t text))
            (uses kind) refl (h.found kind));
        moves = moves ∙ ap (λ (b : Bool). moved_with b t) h.moves
            ∙ sym (fold-append moved_with false front.tokens (t ∷ []));
      }

module _ (first old : KindsWalk) (front : Front) (h : HasFoundKinds first front true old) where
  pub so_far : FoundSoFar old.size old.content.now front old.pen old.sync old.names old.moves_rows (used_of old.used)
  so_far = rw (h.size, h.content) (record {
    texts = h.texts;
    whole = h.whole;
    stands = h.stands;
    found = h.found;
    moves = h.moves;
  })

  pub has_found : (after : Front) (new : KindsWalk) → new.size ≡ old.size → new.content.now ≡ old.content.now
      → FoundSoFar old.size old.content.now after new.pen new.sync new.names new.moves_rows (used_of new.used)
      → HasFoundKinds first after true new
  has_found after new size content found =
      let f : FoundSoFar first.size first.content.now after new.pen new.sync new.names new.moves_rows
      (used_of new.used) = rw (h.size, h.content) at found in
      record {
        never_stops = refl;
        size = size ∙ h.size;
        content = content ∙ h.content;
        texts = f.texts;
        whole = f.whole;
        stands = f.stands;
        found = f.found;
        moves = f.moves;
      }

  module _ (t : TokenKind) (text behind : List ℕ) (next : front.behind ≡ text ++ behind) where
    pub walked_kinds : (new : KindsWalk) (offset : ℕ) → offset ≡ length (concat front.texts) → new.size ≡ old.size
        → new.content.now ≡ old.content.now → new.moves_rows ≡ moved_with old.moves_rows t
        → ((s : State) → old.pen ≡ pen_of s → new.pen ≡ pen_of (step old.size s t))
        → ((s : State) → old.pen ≡ pen_of s
        → shown_sync new.sync ≡ sync_after old.size (shown_sync old.sync) s t)
        → shown_names new.names ≡ names_after (shown_names old.names) t
        → ((s : State) (kind : Difference) → old.pen ≡ pen_of s → used_of new.used kind
        ≡ counted (used_of old.used kind)
        (list_any (is_kind kind) (situations old.size
        (record { sync = shown_sync old.sync; names = shown_names old.names; state = s }) (one t text))) offset)
        → HasFoundKinds first (front_with front t text behind) true new
    walked_kinds new offset at size content moves steps syncs names uses =
        has_found (front_with front t text behind) new size content
        (found_token old.size old.content.now front t text behind old.pen old.sync old.names old.moves_rows
        (used_of old.used) so_far next new.pen new.sync new.names new.moves_rows (used_of new.used) offset at steps
        syncs names moves uses)

-- what is found in a whole content is told
pub told : (z : Size) (content : List ℕ) (kind : Difference) (good : IsGood z all_known content) (found : Option Times)
    → IsFound z (spelled good.1.tokens good.1.reads.0) kind found → IsTold z content kind found
told z content kind good None none =
    record { good = good; count_is = none; first = λ some. absurd (let no : ⊥ = omega (arith, some) in no) }
told z content kind good (Some times) a =
    (a.some, record { good = good; count_is = a.count; first = λ some. a.first })

-- the walk has been over a whole content
module _ (content : List ℕ) (first now : KindsWalk) (result : Result Bool Fault)
    (h : WalksTo (λ first front now goes_on. HasFoundKinds first front goes_on now) content (length content) first now
    result) where
  whole_found : (tokens : List TokenKind) (texts : List (List ℕ)) → ReadsAs content tokens texts
      → HasFoundKinds first (front_of tokens texts (drop (length content) content)) true now
  whole_found tokens texts reads =
      walked_whole _ content (length content) first now result tokens texts
      (λ front stops. false≢true stops.never_stops) h (rw (take-length content) reads)

  pub walked_told : IsGood first.size all_known content → (kind : Difference)
      → IsTold first.size content kind (used_of now.used kind)
  walked_told good kind =
      told first.size content kind good (used_of now.used kind)
      ((whole_found good.1.tokens good.1.reads.0 good.1.reads.1).found kind)

  pub walked_moves : (tokens : List TokenKind) (texts : List (List ℕ)) → ReadsAs content tokens texts
      → now.moves_rows ≡ moves_rows tokens
  walked_moves tokens texts reads = (whole_found tokens texts reads).moves
