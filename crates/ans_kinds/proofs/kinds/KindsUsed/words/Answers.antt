use Rattle.std.proofs.Common.{◌≡◌, ℕ, suc, ◌+◌, ◌<◌, true, false, List, [], ◌∷◌, ◌++◌, map, drop, length, get_or, refl}
use Rattle.std.proofs.Common.{sym, ap, ◌∙◌, arith, append_assoc, length-append, drop-cons}
use Rattle.std.specs.Prelude.{is_some}
use Rattle.std.specs.Borrow.{Bor}
use Rattle.std.specs.List.{filter}
use Rattle.std.proofs.lemmas.List.{map-append}
use Rattle.ans_model.specs.Text.Words.{texts_of}
use Rattle.ans_players.specs.Kinds.{all_kinds, kind_word}
use Rattle.ans_players.specs.declared.difference.Difference.{Difference}
use Rattle.ans_kinds.specs.KindsUsed.{is_used}
use Rattle.ans_kinds.specs.declared.kinds.KindsUsed.{KindsUsed}
use Rattle.ans_kinds.proofs.kinds.KindsUsed.words.Goals as goal
use Rattle.ans_kinds.proofs.kinds.KindsUsed.words.Goals.{then-is_some, else-is_some}

module _ (used : KindsUsed) where
  -- the words of these kinds that arise
  abbrev words_of : List Difference → List (List ℕ)
  words_of kinds = map kind_word (filter (is_used used) kinds)

  -- the word of a kind comes where it arises
  with_word : (kind : Difference) (later : List Difference) → is_used used kind ≡ true
      → words_of (kind ∷ later) ≡ kind_word kind ∷ words_of later
  with_word kind later is = rw is refl

  without_word : (kind : Difference) (later : List Difference) → is_used used kind ≡ false
      → words_of (kind ∷ later) ≡ words_of later
  without_word kind later is = rw is refl

  module _ (k : ℕ) (d : Difference) (within : k < length all_kinds) where
    next : drop k all_kinds ≡ get_or all_kinds k d ∷ drop (k + 1) all_kinds
    next = let e : k + 1 ≡ suc k = omega arith in rw e (drop-cons all_kinds k d within)

    word_more : (so_far : List (Bor (List ℕ))) (word : Bor (List ℕ)) → word.now ≡ kind_word (get_or all_kinds k d)
        → is_used used (get_or all_kinds k d) ≡ true
        → texts_of (so_far ++ word ∷ []) ++ words_of (drop (k + 1) all_kinds)
        ≡ texts_of so_far ++ words_of (drop k all_kinds)
    word_more so_far word word_is is =
        rw (map-append (λ (w : Bor (List ℕ)). w.now) so_far (word ∷ []), word_is, next, with_word _ _ is)
        (append_assoc (texts_of so_far) (kind_word (get_or all_kinds k d) ∷ []) (words_of (drop (k + 1) all_kinds)))

    word_passed : is_used used (get_or all_kinds k d) ≡ false
        → words_of (drop (k + 1) all_kinds) ≡ words_of (drop k all_kinds)
    word_passed is = rw next (sym (without_word _ _ is))

pub loop-kind-preserved : goal.loop-kind-preserved
loop-kind-preserved c =
    let used = c.args.self.now in
    let h = c.loop-kind.invariant in
    let so_far = c.loop-kind.words.items in
    let is = ap is_some (sym c.of.ensures) ∙ sym c.is_some.ensures in
    elim c.if-is_some.branch [
      | then-is_some w ↦ rw (w.words-is, w.push.ensures.items) (record {
        few = omega (arith, h.few, length-append so_far (w.word.result ∷ []));
        words = word_more used c.loop-kind.kind-index _ c.loop-kind-test.true so_far w.word.result w.word.ensures
            (is ∙ w.if-is_some.true) ∙ h.words;
      })
      | else-is_some w ↦ rw w.words-is (record {
        few = omega (arith, h.few);
        words = ap (λ (v : List (List ℕ)). texts_of so_far ++ v)
            (word_passed used c.loop-kind.kind-index _ c.loop-kind-test.true (is ∙ w.if-is_some.false)) ∙ h.words;
      })
    ]
