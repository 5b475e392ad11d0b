-- With the colours named no kind arises that did not arise before.
use Rattle.std.proofs.Common.{◌≡◌, ℕ, zero, suc, ◌<◌, Bool, true, false, not, ◌&&◌, List, [], ◌∷◌, ◌++◌}
use Rattle.std.proofs.Common.{length, map, take, drop, fold, Some, refl, sym, ap, ◌∙◌, subst, arith}
use Rattle.std.specs.Prelude.{IsTrue, ◌==◌, slice_get, ⊤}
use Rattle.std.specs.List.{AllByRecursion, list_all, list_any}
use Rattle.std.proofs.lemmas.Bool.{and_from, and_parts, true≢false, false≢true}
use Rattle.std.proofs.lemmas.List.{take-append-drop}
use Rattle.std.proofs.lemmas.List.Folds.{list_all-append}
use Rattle.ans_model.specs.Sequence.TokenKind.{TokenKind, Colours}
use Rattle.ans_model.specs.Sequence.Reads.{SpellsToken}
use Rattle.ans_model.specs.Screen.State.{Size}
use Rattle.ans_players.specs.declared.difference.Difference.{Difference}
use Rattle.ans_players.specs.declared.difference.Difference.TheVariants.{DosColours}
use Rattle.ans_players.specs.Sync.{Stand}
use Rattle.ans_players.specs.Names.{Names, are_both, names_after}
use Rattle.ans_model.specs.Sequence.Omitted.{omits}
use Rattle.ans_players.specs.Situations.{Spelled, is_agreed, is_common_colour, is_grey, kind_if}
use Rattle.ans_players.specs.Situations.{stand_behind}
use Rattle.ans_players.proofs.MoreNames.{IsMore, agreed_with_more, more_of, names_of, stands_with, with_names}
use Rattle.ans_players.proofs.OneOfTwo.{parts_agreed, from_parts}
use Rattle.ans_mend.specs.NamedColours.{after_zero, count_to_zero, is_zero, missing_numbers, named_text}
use Rattle.ans_mend.specs.NamedColours.{names_behind_token, opening, takes_names, to_zero, way_of}
use Rattle.ans_mend.specs.declared.naming.Way.{Way}
use Rattle.ans_mend.specs.declared.naming.Way.TheVariants.{Within, After, Between}
use Rattle.ans_names_laws.specs.NamedTokens.{colours_of, named_parts, named_tokens, naming_numbers, naming_sequence}
use Rattle.ans_names_laws.specs.NamedTokens.{parts_by}
use Rattle.ans_names_laws.proofs.ColourTexts.{IsNumber, is_written, tail, value_of}
use Rattle.ans_names_laws.proofs.CutSequences.{IsCut, is_cut}
use Rattle.ans_names_laws.proofs.NamedParts.{AreSpelled, are_names, is_way, takes_if}
use Rattle.ans_names_laws.proofs.NamedSteps.{more_later, named_later, stands_named}
use Rattle.ans_names_laws.proofs.NoneMissing.{none_after}
use Rattle.ans_names_laws.proofs.OmittedNumbers.{front_omits, naming_omits_none, rest_omits_none, within_omits_none}

-- ---- kinds of a sequence

abbrev all_zero : List ℕ → Bool
all_zero ks = list_all (λ k. k == 0) ks

fewer_if : (agreed : Difference → Bool) (kind : Difference) (p q : Bool) → (q ≡ true → p ≡ true)
    → IsTrue (list_all agreed (kind_if p kind)) → IsTrue (list_all agreed (kind_if q kind))
fewer_if agreed kind p false so all = refl
fewer_if agreed kind p true so all = subst (λ (v : Bool). IsTrue (list_all agreed (kind_if v kind))) (so refl) all

fewer_not : (agreed : Difference → Bool) (kind : Difference) (p q : Bool) → (p ≡ true → q ≡ true)
    → IsTrue (list_all agreed (kind_if (not p) kind)) → IsTrue (list_all agreed (kind_if (not q) kind))
fewer_not agreed kind p true so all = refl
fewer_not agreed kind true false so all = absurd (false≢true (so refl))
fewer_not agreed kind false false so all = all

-- an omitted number matters less, where more numbers are 0
omits_less : (o p grey all some : Bool) → (o ≡ true → p ≡ true) → (all ≡ true → some ≡ true)
    → (o && not (grey && some)) ≡ true → (p && not (grey && all)) ≡ true
omits_less false p grey all some so zeros e = absurd (false≢true e)
omits_less true false grey all some so zeros e = absurd (false≢true (so refl))
omits_less true true false all some so zeros e = refl
omits_less true true true false some so zeros e = refl
omits_less true true true true true so zeros e = absurd (false≢true e)
omits_less true true true true false so zeros e = absurd (false≢true (zeros refl))

omits_none : (o : Bool) (rest : Bool) (p : Bool) → o ≡ false → (o && rest) ≡ true → p ≡ true
omits_none true rest p none e = absurd (true≢false none)
omits_none false rest p none e = absurd (false≢true e)

naming_common : (n : Names) → list_all is_common_colour (naming_numbers n) ≡ true
naming_common n = go n.foreground n.background
  where
    go : (f b : Bool) → list_all is_common_colour (naming_numbers (record { foreground = f; background = b })) ≡ true
    go true true = refl
    go true false = refl
    go false true = refl
    go false false = refl

-- ---- along tokens

module _ (agreed : Difference → Bool) (z : Size) where
  -- all kinds that arise at the tokens are agreed
  abbrev pub AreAgreedFrom : Stand → List Spelled → Type 0
  AreAgreedFrom h [] = ⊤
  AreAgreedFrom h (x ∷ xs) = IsTrue (is_agreed agreed z h x) × AreAgreedFrom (stand_behind z h x) xs

  pub agreed_from : (xs : List Spelled) (h : Stand) → ((k : ℕ) (x : Spelled) → slice_get xs k ≡ Some x
      → IsTrue (is_agreed agreed z (fold (stand_behind z) h (take k xs)) x)) → AreAgreedFrom h xs
  agreed_from [] h each = tt
  agreed_from (x ∷ xs) h each = (each 0 x refl, agreed_from xs (stand_behind z h x) (λ k y there. each (suc k) y there))

  pub agreed_each : (xs : List Spelled) (h : Stand) → AreAgreedFrom h xs → (k : ℕ) (x : Spelled)
      → slice_get xs k ≡ Some x → IsTrue (is_agreed agreed z (fold (stand_behind z) h (take k xs)) x)
  agreed_each [] h all k x there = absurd (let no : ⊥ = cc in no)
  agreed_each (y ∷ xs) h all zero x there =
      let same : y ≡ x = cc in subst (λ (v : Spelled). IsTrue (is_agreed agreed z h v)) same all.0
  agreed_each (y ∷ xs) h all (suc k) x there = agreed_each xs (stand_behind z h y) all.1 k x there

  agreed_append : (xs ys : List Spelled) (h : Stand) → AreAgreedFrom h xs
      → AreAgreedFrom (fold (stand_behind z) h xs) ys → AreAgreedFrom h (xs ++ ys)
  agreed_append [] ys h all more = more
  agreed_append (x ∷ xs) ys h all more = (all.0, agreed_append xs ys (stand_behind z h x) all.1 more)

  -- ---- a sequence
  module _ (h : Stand) (m : Names) (more : IsMore h.names m) (ks text : List ℕ) (n : Names)
      (some : are_both n ≡ false) (any : list_any is_zero ks ≡ true) (cut : IsCut (colours_of ks text))
      (here : IsTrue (is_agreed agreed z h (colours_of ks text))) where
    abbrev x : Spelled
    x = colours_of ks text

    abbrev before : List ℕ
    before = take (count_to_zero ks) ks

    abbrev after : List ℕ
    after = drop (count_to_zero ks) ks

    -- a sequence of other numbers, of which no fewer are common
    colours_agreed : (g : Stand) (other written_so : List ℕ)
        → (list_all is_common_colour ks ≡ true → list_all is_common_colour other ≡ true)
        → ((omits written_so && not (is_grey g.state && all_zero other)) ≡ true
        → (omits text && not (is_grey h.state && all_zero ks)) ≡ true)
        → IsTrue (is_agreed agreed z g (colours_of other written_so))
    colours_agreed g other written_so common fewer =
        let parts = parts_agreed z agreed h x here in
        from_parts z agreed g (colours_of other written_so) (record {
          sync = refl;
          token = fewer_not agreed DosColours (list_all is_common_colour ks) (list_all is_common_colour other) common
              parts.token;
          spelling = fewer_if agreed DosColours (omits text && not (is_grey h.state && all_zero ks))
              (omits written_so && not (is_grey g.state && all_zero other)) fewer parts.spelling;
          named = refl;
        })

    common_parts : list_all is_common_colour ks ≡ true
        → (list_all is_common_colour before ≡ true) × (list_all is_common_colour after ≡ true)
    common_parts all =
        and_parts _ _ (sym (list_all-append is_common_colour before after)
        ∙ ap (list_all is_common_colour) (take-append-drop (count_to_zero ks) ks) ∙ all)

    zero_before : all_zero ks ≡ true → all_zero before ≡ true
    zero_before all =
        (and_parts _ _ (sym (list_all-append (λ k. k == 0) before after)
        ∙ ap (list_all (λ k. k == 0)) (take-append-drop (count_to_zero ks) ks) ∙ all)).0

    common_within : list_all is_common_colour ks ≡ true
        → list_all is_common_colour (before ++ (naming_numbers n ++ after)) ≡ true
    common_within all =
        let both = common_parts all in
        list_all-append is_common_colour before (naming_numbers n ++ after)
        ∙ and_from _ _ both.0 (list_all-append is_common_colour (naming_numbers n) after
        ∙ and_from _ _ (naming_common n) both.1)

    naming_agreed : (g : Stand) → IsTrue (is_agreed agreed z g (naming_sequence n))
    naming_agreed g =
        colours_agreed g (naming_numbers n) (naming_sequence n).text (λ all. naming_common n)
        (omits_none (omits (naming_sequence n).text) (not (is_grey g.state && all_zero (naming_numbers n)))
        (omits text && not (is_grey h.state && all_zero ks)) (naming_omits_none n some))

    rest_omits : 1 < length (after_zero x) → omits (opening ++ drop 1 (after_zero x)) ≡ false
    rest_omits left = go cut.upper cut.rest cut.rest_numbers cut.others
      where
        go : (upper : List (List ℕ)) → after_zero x ≡ tail upper → after ≡ map value_of upper
            → AllByRecursion IsNumber upper → omits (opening ++ drop 1 (after_zero x)) ≡ false
        go [] rest numbers each =
            absurd (let long = ap length rest in let no : ⊥ = omega (arith, left, long) in no)
        go (u ∷ us) rest numbers each =
            ap (λ (v : List ℕ). omits (opening ++ drop 1 v)) rest
            ∙ rest_omits_none u us each (sym (ap (list_any is_zero) numbers) ∙ none_after ks)

    rest_agreed : (g : Stand) → 1 < length (after_zero x)
        → IsTrue (is_agreed agreed z g (colours_of after (opening ++ drop 1 (after_zero x))))
    rest_agreed g left =
        colours_agreed g after (opening ++ drop 1 (after_zero x)) (λ all. (common_parts all).1)
        (omits_none (omits (opening ++ drop 1 (after_zero x))) (not (is_grey g.state && all_zero after))
        (omits text && not (is_grey h.state && all_zero ks)) (rest_omits left))

    parts_all_agreed : (w : Way) → way_of (missing_numbers n) (to_zero x) (after_zero x) ≡ w
        → AreAgreedFrom (with_names m h) (parts_by w n x)
    parts_all_agreed Within is = (
      colours_agreed (with_names m h) (before ++ (naming_numbers n ++ after))
          (named_text (missing_numbers n) (to_zero x) (after_zero x)) common_within
          (omits_none (omits (named_text (missing_numbers n) (to_zero x) (after_zero x)))
          (not (is_grey h.state && all_zero (before ++ (naming_numbers n ++ after))))
          (omits text && not (is_grey h.state && all_zero ks)) (within_omits_none n x cut (are_names n some) is)),
      tt,
    )
    parts_all_agreed After is = (
      agreed_with_more agreed z h.names m h x more here,
      (naming_agreed (stand_behind z (with_names m h) x), tt),
    )
    parts_all_agreed Between is = (
      colours_agreed (with_names m h) before (to_zero x ++ 0x6D ∷ []) (λ all. (common_parts all).0)
          (omits_less (omits (to_zero x ++ 0x6D ∷ [])) (omits text) (is_grey h.state) (all_zero ks) (all_zero before)
          (front_omits n x cut (are_names n some)) zero_before),
      (
        naming_agreed (stand_behind z (with_names m h) (colours_of before (to_zero x ++ 0x6D ∷ []))),
        (
          rest_agreed (stand_behind z (stand_behind z (with_names m h) (colours_of before (to_zero x ++ 0x6D ∷ [])))
              (naming_sequence n)) ((is_way (missing_numbers n) (to_zero x) (after_zero x)).some_left is),
          tt,
        ),
      ),
    )

  -- the kinds of a sequence with its names are agreed, and more is named after it
  record IsAgreedNamed (h : Stand) (m : Names) (x : Spelled) (parts : List Spelled) : Type 0 where
    later : Names
    more : IsMore (names_after h.names x.token) later
    each : AreAgreedFrom (with_names m h) parts
    stand : fold (stand_behind z) (with_names m h) parts ≡ with_names later (stand_behind z h x)

  agreed_named : (h : Stand) (m : Names) → IsMore h.names m → (t : TokenKind) (text : List ℕ) (n : Names)
      → are_both n ≡ false → takes_names t ≡ true → SpellsToken t text
      → IsTrue (is_agreed agreed z h (record { token = t; text = text }))
      → IsAgreedNamed h m (record { token = t; text = text }) (named_parts n (record { token = t; text = text }))
  agreed_named h m more (Colours ks) text n some takes spells here =
      let cut = is_cut ks text (is_written ks text spells) takes in
      let w : Way = way_of (missing_numbers n) (to_zero (colours_of ks text)) (after_zero (colours_of ks text)) in
      record {
        later = named_later ks n takes m;
        more = more_later ks n takes h.names m;
        each = rw some (parts_all_agreed h m more ks text n some takes cut here w refl);
        stand = rw some (stands_named ks n takes z h m text cut w refl);
      }
  agreed_named h m more _ text n some takes spells here = absurd (false≢true takes)

  more_token : (h : Stand) (n m : Names) (x : Spelled) → IsMore n m
      → IsMore (names_after n x.token) (names_after m x.token)
  more_token h n m x more =
      let same : (k : Names) → names_of (x ∷ []) k ≡ names_after k x.token =
      λ k. sym (ap (λ (v : Stand). v.names) (stands_with z (x ∷ []) k h)) in
      subst (λ (v : Names). IsMore v (names_after m x.token)) (same n)
      (subst (λ (v : Names). IsMore (names_of (x ∷ []) n) v) (same m) (more_of (x ∷ []) n m more))

  pub all_agreed : (xs : List Spelled) → AreSpelled xs → (h : Stand) (m : Names) → IsMore h.names m
      → AreAgreedFrom h xs → AreAgreedFrom (with_names m h) (named_tokens xs)
  all_agreed [] spells h m more all = tt
  all_agreed (x ∷ xs) spells h m more all =
      go (are_both (names_behind_token x xs)) refl
      (λ k more_so. all_agreed xs spells.1 (stand_behind z h x) k more_so all.1)
    where
      go : (b : Bool) → are_both (names_behind_token x xs) ≡ b
          → ((k : Names) → IsMore (names_after h.names x.token) k
          → AreAgreedFrom (with_names k (stand_behind z h x)) (named_tokens xs))
          → AreAgreedFrom (with_names m h) (named_tokens (x ∷ xs))
      go true is next = rw is (
        agreed_with_more agreed z h.names m h x more all.0,
        next (names_after m x.token) (more_token h h.names m x more),
      )
      go false is next =
          let named = agreed_named h m more x.token x.text (names_behind_token x xs) is (takes_if x xs is) spells.0
          all.0 in
          agreed_append (named_parts (names_behind_token x xs) x) (named_tokens xs) (with_names m h) named.each
          (subst (λ (v : Stand). AreAgreedFrom v (named_tokens xs)) (sym named.stand) (next named.later named.more))
