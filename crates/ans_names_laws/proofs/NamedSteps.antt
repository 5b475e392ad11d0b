-- Where players stand after a sequence with its names: as after it without them, but that more colours are named.
use Rattle.std.proofs.Common.{◌≡◌, ℕ, suc, ◌+◌, ◌≤◌, Bool, true, false, ◌||◌, List, [], ◌∷◌, ◌++◌}
use Rattle.std.proofs.Common.{length, map, take, drop, fold, refl, sym, ap, ap₂, ◌∙◌, subst, arith, length-append}
use Rattle.std.specs.Prelude.{◌==◌, bit_or}
use Rattle.std.specs.Int.Bits.{and_zero_r}
use Rattle.std.specs.List.{list_any}
use Rattle.std.proofs.lemmas.Bool.{eqb-true, false≢true}
use Rattle.std.proofs.lemmas.List.{take-append-drop}
use Rattle.std.proofs.lemmas.List.Sums.{fold-append}
use Rattle.ans_model.specs.Screen.Attribute.{attribute_after, attribute_after_all}
use Rattle.ans_model.specs.Screen.State.{Size}
use Rattle.ans_players.specs.Sync.{Stand}
use Rattle.ans_players.specs.Names.{Names, names_behind}
use Rattle.ans_players.specs.Situations.{Spelled, stand_behind}
use Rattle.ans_players.proofs.MoreNames.{IsMore, with_names}
use Rattle.ans_mend.specs.NamedColours.{after_zero, count_to_zero, is_zero, missing_numbers, to_zero, way_of}
use Rattle.ans_mend.specs.declared.naming.Way.{Way}
use Rattle.ans_mend.specs.declared.naming.Way.TheVariants.{Within, After, Between}
use Rattle.ans_mend.proofs.NamesWaiting.{same_after_zero}
use Rattle.ans_names_laws.specs.NamedTokens.{colours_of, naming_numbers, parts_by}
use Rattle.ans_names_laws.proofs.ColourTexts.{tail, value_of}
use Rattle.ans_names_laws.proofs.CutSequences.{IsCut}
use Rattle.ans_names_laws.proofs.NamedParts.{is_way, long_tail}
use Rattle.ans_names_laws.proofs.NoneMissing.{fold_with, lacking, naming_names, none_after, with}

-- ---- the attribute

reset : (a : ℕ) → attribute_after a 0 ≡ 0x07
reset a = ap (λ (v : ℕ). bit_or v 0x07) (and_zero_r a)

count_none : (ks : List ℕ) → list_any is_zero ks ≡ false → count_to_zero ks ≡ 0
count_none [] none = refl
count_none (k ∷ ks) none = rw none refl

-- up to the last 0 of its numbers a sequence sets white on black
grey_after_zero : (a : ℕ) (ks : List ℕ) → list_any is_zero ks ≡ true
    → attribute_after_all a (take (count_to_zero ks) ks) ≡ 0x07
grey_after_zero a [] any = absurd (false≢true any)
grey_after_zero a (k ∷ ks) any = go (list_any is_zero ks) refl (grey_after_zero (attribute_after a k) ks)
  where
    count : count_to_zero (k ∷ ks) ≡ suc (count_to_zero ks)
    count = let more : count_to_zero (k ∷ ks) ≡ count_to_zero ks + 1 = rw any refl in omega (arith, more)

    last : (z : Bool) → (k == 0) ≡ z → (z || list_any is_zero ks) ≡ true → list_any is_zero ks ≡ false → k ≡ 0
    last true is e none = eqb-true k 0 is
    last false is e none = absurd (false≢true (sym none ∙ e))

    go : (later : Bool) → list_any is_zero ks ≡ later
        → (list_any is_zero ks ≡ true
        → attribute_after_all (attribute_after a k) (take (count_to_zero ks) ks) ≡ 0x07)
        → attribute_after_all a (take (count_to_zero (k ∷ ks)) (k ∷ ks)) ≡ 0x07
    go true is next = rw count (next is)
    go false is next =
        ap (λ (v : ℕ). attribute_after_all a (take v (k ∷ ks)))
        (count ∙ ap (λ (v : ℕ). suc v) (count_none ks is))
        ∙ ap (attribute_after a) (last (k == 0) refl any is) ∙ reset a

naming_stays_grey : (n : Names) → attribute_after_all 0x07 (naming_numbers n) ≡ 0x07
naming_stays_grey n = go n.foreground n.background
  where
    go : (f b : Bool) → attribute_after_all 0x07 (naming_numbers (record { foreground = f; background = b })) ≡ 0x07
    go true true = refl
    go true false = refl
    go false true = refl
    go false false = refl

module _ (ks : List ℕ) (n : Names) (any : list_any is_zero ks ≡ true) where
  abbrev pub before : List ℕ
  before = take (count_to_zero ks) ks

  abbrev pub after : List ℕ
  after = drop (count_to_zero ks) ks

  whole : ks ≡ before ++ after
  whole = sym (take-append-drop (count_to_zero ks) ks)

  -- the names change no attribute there
  attribute_apart : (a : ℕ)
      → attribute_after_all (attribute_after_all (attribute_after_all a before) (naming_numbers n)) after
      ≡ attribute_after_all a ks
  attribute_apart a =
      ap (λ (v : ℕ). attribute_after_all (attribute_after_all v (naming_numbers n)) after) (grey_after_zero a ks any)
      ∙ ap (λ (v : ℕ). attribute_after_all v after) (naming_stays_grey n)
      ∙ ap (λ (v : ℕ). attribute_after_all v after) (sym (grey_after_zero a ks any))
      ∙ sym (ap (attribute_after_all a) whole ∙ fold-append attribute_after a before after)

  attribute_within : (a : ℕ) → attribute_after_all a (before ++ (naming_numbers n ++ after)) ≡ attribute_after_all a ks
  attribute_within a =
      fold-append attribute_after a before (naming_numbers n ++ after)
      ∙ fold-append attribute_after (attribute_after_all a before) (naming_numbers n) after
      ∙ attribute_apart a

  attribute_last : (a : ℕ) → after ≡ []
      → attribute_after_all (attribute_after_all a ks) (naming_numbers n) ≡ attribute_after_all a ks
  attribute_last a none =
      let grey : attribute_after_all a ks ≡ 0x07 =
      ap (attribute_after_all a) whole ∙ fold-append attribute_after a before after
      ∙ ap (attribute_after_all (attribute_after_all a before)) none ∙ grey_after_zero a ks any in
      ap (λ (v : ℕ). attribute_after_all v (naming_numbers n)) grey ∙ naming_stays_grey n ∙ sym grey

  -- ---- the names

  -- the names after the sequence with its names
  abbrev pub named_later : Names → Names
  named_later m = with (fold names_behind m ks) (lacking n)

  names_apart : (m : Names)
      → fold names_behind (fold names_behind (fold names_behind m before) (naming_numbers n)) after
      ≡ named_later m
  names_apart m =
      ap (λ (v : Names). fold names_behind v after) (naming_names (fold names_behind m before) n)
      ∙ fold_with (fold names_behind m before) (lacking n) after (none_after ks)
      ∙ ap (λ (v : Names). with v (lacking n))
      (sym (ap (fold names_behind m) whole ∙ fold-append names_behind m before after))

  names_within : (m : Names) → fold names_behind m (before ++ (naming_numbers n ++ after)) ≡ named_later m
  names_within m =
      fold-append names_behind m before (naming_numbers n ++ after)
      ∙ fold-append names_behind (fold names_behind m before) (naming_numbers n) after
      ∙ names_apart m

  pub more_later : (m k : Names) → IsMore (fold names_behind m ks) (named_later k)
  more_later m k =
      subst (λ (v : Names). IsMore v (named_later k)) (same_after_zero k m ks any) (record {
        foreground = λ e. ap (λ (v : Bool). (lacking n).foreground || v) e ∙ or_true (lacking n).foreground;
        background = λ e. ap (λ (v : Bool). (lacking n).background || v) e ∙ or_true (lacking n).background;
      })
    where
      or_true : (b : Bool) → (b || true) ≡ true
      or_true true = refl
      or_true false = refl

  -- ---- the stand

  -- as players stand, with these names and this attribute
  abbrev coloured : Stand → Names → ℕ → Stand
  coloured h names attribute = record {
    sync = h.sync;
    names = names;
    state = record h.state { attribute = attribute };
  }

  -- nothing is left after the last 0
  pub nothing_after : (text : List ℕ) → IsCut (colours_of ks text) → length (after_zero (colours_of ks text)) ≤ 1
      → after ≡ []
  nothing_after text cut few = go cut.upper cut.rest cut.rest_numbers
    where
      go : (upper : List (List ℕ)) → after_zero (colours_of ks text) ≡ tail upper → after ≡ map value_of upper
          → after ≡ []
      go [] rest numbers = numbers
      go (u ∷ us) rest numbers =
          let long = ap length rest in
          let sum = length-append u (tail us) in
          let more = long_tail us in
          absurd (let no : ⊥ = omega (arith, few, long, sum, more) in no)

  pub stands_named : (z : Size) (h : Stand) (m : Names) (text : List ℕ) → IsCut (colours_of ks text) → (w : Way)
      → way_of (missing_numbers n) (to_zero (colours_of ks text)) (after_zero (colours_of ks text)) ≡ w
      → fold (stand_behind z) (with_names m h) (parts_by w n (colours_of ks text))
      ≡ with_names (named_later m) (stand_behind z h (colours_of ks text))
  stands_named z h m text cut Within is =
      ap₂ (λ (v : Names) (a : ℕ). coloured h v a) (names_within m) (attribute_within h.state.attribute)
  stands_named z h m text cut After is =
      let x : Spelled = colours_of ks text in
      let none = nothing_after text cut ((is_way (missing_numbers n) (to_zero x) (after_zero x)).nothing_left is) in
      ap₂ (λ (v : Names) (a : ℕ). coloured h v a) (naming_names (fold names_behind m ks) n)
      (attribute_last h.state.attribute none)
  stands_named z h m text cut Between is =
      ap₂ (λ (v : Names) (a : ℕ). coloured h v a) (names_apart m) (attribute_apart h.state.attribute)
